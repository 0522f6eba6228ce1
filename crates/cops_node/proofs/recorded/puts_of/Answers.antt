use Rattle.std.proofs.Common.{◌≡◌, ◌≢◌, ◌<◌, ◌++◌, ◌∷◌, [], ℕ, suc, List, Option, None, Some, length, drop, slice_index_or, refl, sym, ap, ◌∙◌}
use Rattle.std.specs.Prelude.{Result, Ok, Err, OnErr}
use Rattle.std.proofs.Math.Seq.{drop-cons}
use Rattle.cops_types.specs.declared.put_record.PutRecord.{PutRecord}
use Rattle.cops_node.specs.declared.entry.Entry.{Entry}
use Rattle.cops_node.specs.Book.{put_made, puts_in, with_put}
use Rattle.cops_node.proofs.recorded.puts_of.Goals as goal

on_err : {A E P : Type 0} (r : Result A E) → P → OnErr r P
on_err (Ok a) p = tt
on_err (Err e) p = p

some_none : (put : PutRecord) (o : Option PutRecord) → o ≡ Some put → o ≡ None → ⊥
some_none put o e f = cc

not_empty : (puts more : List PutRecord) (o : Option PutRecord) → o ≢ None → puts ++ with_put o more ≡ [] → ⊥
not_empty [] more None there e = there refl
not_empty [] more (Some put) there e = cc
not_empty (x ∷ xs) more o there e = cc

one_left : (es : List Entry) (puts : List PutRecord) (i : ℕ) (e : Entry) → i < length es → e ≡ slice_index_or es i e → puts_in es ≡ puts ++ puts_in (drop i es)
    → put_made e.event e.outcome ≢ None → puts_in es ≢ []
one_left es puts i e less is before there = λ none.
    let here : drop i es ≡ e ∷ drop (suc i) es = drop-cons es i e less ∙ ap (λ (x : Entry). x ∷ drop (suc i) es) (sym is) in
    not_empty puts (puts_in (drop (suc i) es)) (put_made e.event e.outcome) there (ap (λ (l : List Entry). puts ++ puts_in l) (sym here) ∙ sym before ∙ none)

pub returns-in_err-put-clause-err : goal.returns-in_err-put-clause-err
returns-in_err-put-clause-err c =
    on_err c.from_residual.result
    (one_left c.args.entries.now c.loop-entry.puts.items c.loop-entry.entry-index c.entry-item.result c.loop-entry-test.true c.entry-item.is c.loop-entry.invariant c.in_err-put.ensures.err)

pub returns-in_err-push-clause-err : goal.returns-in_err-push-clause-err
returns-in_err-push-clause-err c =
    on_err c.from_residual-in_err-push.result
    (one_left c.args.entries.now c.loop-entry.puts.items c.loop-entry.entry-index c.entry-item.result c.loop-entry-test.true c.entry-item.is c.loop-entry.invariant
    (λ none. some_none c.in-Some.put _ c.in-Some.is (c.in_ok-put.ensures.put ∙ none)))
