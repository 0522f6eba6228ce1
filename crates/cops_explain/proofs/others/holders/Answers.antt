use Rattle.std.proofs.Common.{◌∙◌, false, true, refl, sym, arith, ◌≡◌}
use Rattle.cops_audit.proofs.Places.{never_falls}
use Rattle.cops_explain.specs.Refused.{history_of}
use Rattle.cops_explain.proofs.OtherLemmas.{all_found, found_more, found_passed, further}
use Rattle.cops_explain.proofs.others.holders.Goals as goal
use Rattle.cops_explain.proofs.others.holders.Goals.{then-is_other+in_ok-push, else-is_other}

false_not_true : false ≡ true → ⊥
false_not_true e = cc

pub loop-put-preserved : goal.loop-put-preserved
loop-put-preserved c =
    let h = (history_of c.args.refused).sessions in
    let name = c.args.name in
    let puts = c.from_version-put-items.result.now in
    let i = c.loop-put.put-index in
    let p = c.put-item.result in
    let names = c.loop-put.names.items in
    elim c.if-is_other.branch [
      | then-is_other+in_ok-push w ↦
          rw (w.names-is, w.in_ok-push.ensures.items)
          (found_more h name puts i p names c.loop-put-test.true c.put-item.is c.loop-put.invariant (w.if-is_other.ensures.0 refl))
      | else-is_other w ↦
          rw w.names-is
          (found_passed h name puts i p names c.loop-put-test.true c.put-item.is c.loop-put.invariant (λ other. false_not_true (w.if-is_other.ensures.1 other)))
    ]

pub returns-then-ne : goal.returns-then-ne
returns-then-ne c =
    let puts = c.from_version-put-items.result.now in
    let v = c.version_at-version.result in
    all_found (history_of c.args.refused).sessions c.args.name v puts c.loop-put.put-index c.loop-put.names.items c.version_at-version.ensures c.loop-put.invariant
    (λ n put. c.from_version-put-items.ensures.all n ((c.requires.puts.members (record { version = v; name = n })).1 put))
    (further puts v c.loop-put.put-index c.put-item.result (never_falls puts c.from_version-put-items.ensures.rising) c.from_version-put-items.ensures.low c.loop-put-test.true c.put-item.is (sym c.ne.ensures ∙ c.if-ne.true))

pub returns : goal.returns
returns c =
    let puts = c.from_version-put-items.result.now in
    let v = c.version_at-version.result in
    all_found (history_of c.args.refused).sessions c.args.name v puts c.loop-put.put-index c.loop-put.names.items c.version_at-version.ensures c.loop-put.invariant
    (λ n put. c.from_version-put-items.ensures.all n ((c.requires.puts.members (record { version = v; name = n })).1 put)) (λ k d above lt. absurd (omega (arith, c.loop-put-test.false)))
