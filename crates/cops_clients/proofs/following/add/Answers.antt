use Rattle.std.proofs.Common.{◌≡◌, ◌+◌, ◌≤◌, List, [], ◌∷◌, ◌++◌, Some, None, length, slice_get, map, take, ap, sym, subst, ◌∙◌, arith, true≢false}
use Rattle.std.proofs.lemmas.List.{map_push, take_more}
use Rattle.std.proofs.lemmas.Option.{get_or_from_slice_get, slice_get_past}
use Rattle.cops_trace.specs.Live.{Gains}
use Rattle.cops_trace.specs.Text.{ARecord, record_of}
use Rattle.cops_trace.specs.declared.record.Record.{Record}
use Rattle.cops_clients.specs.Live.{MayCome}
use Rattle.cops_clients.proofs.Gaining.{gains_more}
use Rattle.cops_clients.proofs.following.add.Goals as goal

pub returns-then-not-may_come-clause-follows : goal.returns-then-not-may_come-clause-follows
returns-then-not-may_come-clause-follows g c =
    let at = c.loop-record.record-index in
    let x = c.record-item.result in
    let records = c.records-records.ensures in
    record {
      count = at;
      gains = subst (λ (rs : List Record). Gains (map record_of (take at rs)) c.args.live c.loop-record.live) records c.loop-record.invariant.gains;
      full = λ r there may.
          let here : slice_get c.records-records.result.now at ≡ Some r = ap (λ (rs : List Record). slice_get rs at) records ∙ there in
          let same : r ≡ x = sym (get_or_from_slice_get c.records-records.result.now at r x here) ∙ sym c.record-item.is in
          absurd (true≢false (sym (c.may_come.ensures.1 (subst (λ (q : Record). MayCome q c.loop-record.live) same may)) ∙ c.if-not-may_come.true));
    }

pub loop-record-preserved : goal.loop-record-preserved
loop-record-preserved g c =
    let rs = c.records-records.result.now in
    let at = c.loop-record.record-index in
    let x = c.record-item.result in
    let more : map record_of (take (at + 1) rs) ≡ map record_of (take at rs) ++ record_of x ∷ [] =
    ap (map record_of) (take_more rs at x (omega (arith, c.loop-record-test.true, c.loop-record.auto.record-index-end)) ∙ ap (λ (r : Record). take at rs ++ r ∷ []) (sym c.record-item.is))
    ∙ map_push record_of (take at rs) x in
    record {
      begun = c.in-Ok.ensures.begun ∙ c.loop-record.invariant.begun;
      live = c.in-Ok.ensures.live;
      gains = subst (λ (l : List ARecord). Gains l c.args.live c.in-Ok.live) (sym more)
          (gains_more (map record_of (take at rs)) (record_of x) c.args.live c.loop-record.live c.in-Ok.live c.loop-record.invariant.gains c.in-Ok.ensures.gains);
    }

pub returns-clause-follows : goal.returns-clause-follows
returns-clause-follows g c =
    let at = c.loop-record.record-index in
    let records = c.records-records.ensures in
    let past : length c.records-records.result.now ≤ at = omega (arith, c.loop-record-test.false, c.loop-record.auto.record-index-end) in
    record {
      count = at;
      gains = subst (λ (rs : List Record). Gains (map record_of (take at rs)) c.args.live c.loop-record.live) records c.loop-record.invariant.gains;
      full = λ r there may.
          let gone : None ≡ Some r = sym (slice_get_past c.records-records.result.now at past) ∙ ap (λ (rs : List Record). slice_get rs at) records ∙ there in cc;
    }
