-- A text that gains records one by one.
use Rattle.std.proofs.Common.{List, [], ◌∷◌, ◌++◌, sym, subst, append_assoc}
use Rattle.std.proofs.lemmas.List.{append-nil}
use Rattle.cops_trace.specs.Live.{Gains, IsBegun}
use Rattle.cops_trace.specs.Text.{ARecord}
use Rattle.cops_trace.specs.declared.live.LiveTrace.{LiveTrace}

pub gains_none : {W : Type 0} (l : LiveTrace W) → Gains [] l l
gains_none l t b = subst (λ (rs : List ARecord). IsBegun (record { format = t.format; clients = t.clients; records = rs }) l) (sym (append-nil t.records)) b

pub gains_more : {W : Type 0} (xs : List ARecord) (x : ARecord) (a b c : LiveTrace W) → Gains xs a b → Gains (x ∷ []) b c → Gains (xs ++ x ∷ []) a c
gains_more xs x a b c first then t begun =
    subst (λ (rs : List ARecord). IsBegun (record { format = t.format; clients = t.clients; records = rs }) c) (append_assoc t.records xs (x ∷ []))
    (then (record { format = t.format; clients = t.clients; records = t.records ++ xs }) (first t begun))
