use Rattle.std.proofs.Common.{◌≡◌, ◌≢◌, ◌<◌, ◌+◌, ◌-◌, ℕ, Some, None, length, slice_index_or, get_or-set_same, get_or-set_other, slice_set, sym, ◌∙◌, ap, subst, inl, inr, arith}
use Rattle.std.proofs.Math.ListN.{length-set}
use Rattle.std.proofs.lemmas.Bool.{cases_eq}
use Rattle.std.proofs.lemmas.Option.{slice_get_within}
use Rattle.cops_audit.specs.Keys.{IsFirstFrom, LinksTo, OnKey}
use Rattle.cops_audit.proofs.Collect.{get_or-default}
use Rattle.cops_audit.proofs.Linking.{next_is, first_here, first_kept, keyed_at, linked, written}
use Rattle.cops_audit.proofs.keys.link.Goals as goal

pub index-requires : goal.index-requires
index-requires c =
    let at = keyed_at c.args.history.now c.args.table.now c.args.keys.now c.requires.table c.requires.keys (c.loop-place.place - 1) (omega arith) in
    omega (arith, slice_get_within c.args.history.now.keys _ at.0 at.2, c.loop-place.invariant.width)

pub index_mut-requires-in-loop-place : goal.index_mut-requires-in-loop-place
index_mut-requires-in-loop-place c =
    let at = keyed_at c.args.history.now c.args.table.now c.args.keys.now c.requires.table c.requires.keys (c.loop-place.place - 1) (omega arith) in
    omega (arith, slice_get_within c.args.history.now.keys _ at.0 at.2, c.loop-place.invariant.width)

pub loop-place-preserved : goal.loop-place-preserved
loop-place-preserved c =
    let h = c.args.history.now.sessions in
    let keys = c.args.history.now.keys in
    let table = c.args.table.now in
    let firsts = c.loop-place.firsts.items in
    let k = c.loop-place.place - 1 in
    let e : c.loop-place.place ≡ k + 1 = omega arith in
    let number = slice_index_or c.args.keys.now k 0 in
    let found = c.index.result.now in
    let next = c.unwrap_or.result in
    let keyed = keyed_at c.args.history.now table c.args.keys.now c.requires.table c.requires.keys k (omega arith) in
    let key = keyed.0 in
    let here = keyed.1 in
    let at = keyed.2 in
    let inside : number < length firsts = omega (arith, slice_get_within keys number key at, c.loop-place.invariant.width) in
    let is_found : slice_index_or firsts number None ≡ found = get_or-default firsts number None found inside ∙ sym c.index.ensures in
    let links : LinksTo h table k next = subst (LinksTo h table k) (sym c.unwrap_or.ensures) (linked h table k key found here
    (next_is h table c.requires.table.rising k c.loop-place.place key found e here (subst (IsFirstFrom h table c.loop-place.place key) is_found (c.loop-place.invariant.firsts number key at)))) in
    record {
      whole = omega (arith, length-set c.loop-place.nexts.items k next, c.loop-place.invariant.whole);
      width = omega (arith, length-set firsts number (Some k), c.loop-place.invariant.width);
      nexts = λ t other le there. elim (written c.loop-place.nexts.items k t next other there) [
        | inl w ↦ subst (LinksTo h table t) w.1 (subst (λ (j : ℕ). LinksTo h table j next) (sym w.0) links)
        | inr w ↦ c.loop-place.invariant.nexts t other (omega (arith, le, w.0, e)) w.1
      ];
      firsts = λ other q there. elim (cases_eq other number) [
        | inl same ↦
            let one : key ≡ q = cc (at, same, there) in
            let now : slice_index_or (slice_set firsts number (Some k)) other None ≡ Some k = ap (λ (j : ℕ). slice_index_or (slice_set firsts number (Some k)) j None) same ∙ get_or-set_same firsts number (Some k) None inside in
            subst (IsFirstFrom h table k q) (sym now) (first_here h table c.requires.table.rising k q (subst (OnKey h table k) one here))
        | inr differs ↦
            let apart : key ≢ q = λ one. differs (c.keys.ensures.distinct other number q there (at ∙ ap (λ x. Some x) one)) in
            subst (IsFirstFrom h table k q) (sym (get_or-set_other firsts number other (Some k) None differs))
            (first_kept h table c.requires.table.rising k c.loop-place.place key q _ e here apart (c.loop-place.invariant.firsts other q there))
      ];
      nexts_capacity = c.loop-place.invariant.nexts_capacity;
      firsts_capacity = c.loop-place.invariant.firsts_capacity;
    }

pub returns-clause-nexts : goal.returns-clause-nexts
returns-clause-nexts c = record {
  whole = c.loop-place.invariant.whole;
  each = λ t next at. c.loop-place.invariant.nexts t next (omega arith) at;
}

pub returns-clause-firsts : goal.returns-clause-firsts
returns-clause-firsts c = λ number key at.
    let e : c.loop-place.place ≡ 0 = omega arith in
    subst (λ i. IsFirstFrom c.args.history.now.sessions c.args.table.now i key (slice_index_or c.loop-place.firsts.items number None)) e (c.loop-place.invariant.firsts number key at)
