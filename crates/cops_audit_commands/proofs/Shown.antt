-- What showing a trace writes, for what was read.
use Rattle.std.proofs.Common.{◌≡◌, ℕ, List, [], ◌++◌, Option, Some, None, sym, ap, subst, ◌∙◌, append_assoc}
use Rattle.std.specs.Prelude.{IfSome}
use Rattle.std.proofs.lemmas.List.{append-nil}
use Rattle.std.specs.Io.KnownBytes.{Appends}
use Rattle.cops_trace.specs.declared.fault.TraceFault.{TraceFault}
use Rattle.cops_wire.specs.declared.message.Message.{Message}
use Rattle.cops_command.specs.Status.{number}
use Rattle.cops_audit_commands.specs.Show.{HasFirst, Shows, AreShown, lines_of, status_of, last_line, end_of}

pub appends_none : (a : Option (List ℕ)) → Appends a a []
appends_none None = tt
appends_none (Some u) = sym (append-nil u)

pub appends_both : (a b c : Option (List ℕ)) (xs ys : List ℕ) → Appends a b xs → Appends b c ys → Appends a c (xs ++ ys)
appends_both None b c xs ys p q = tt
appends_both (Some u) None c xs ys p q = absurd p
appends_both (Some u) (Some v) None xs ys p q = absurd q
appends_both (Some u) (Some v) (Some w) xs ys p q = q ∙ ap (λ (t : List ℕ). t ++ ys) p ∙ append_assoc u xs ys

-- the lines, and then the last one
pub shows_all : (a : Option (List ℕ)) (bytes : List ℕ) (fault : Option TraceFault) (end status : ℕ) (old mid new : Option (List ℕ)) → status ≡ number (status_of fault) → IfSome a (λ all. bytes ≡ all) → HasFirst bytes fault → end ≡ end_of bytes fault
    → ((ms : List Message) × AreShown bytes end ms × Appends old mid (lines_of ms)) → Appends mid new (last_line fault) → IfSome a (λ all. Shows all status old new)
shows_all None bytes fault end status old mid new ends same first is shown last = tt
shows_all (Some u) bytes fault end status old mid new ends same first is shown last =
    subst (λ (t : List ℕ). Shows t status old new) same
    (fault, shown.0, first, subst (λ (n : ℕ). AreShown bytes n shown.0) is shown.1, ends, appends_both old mid new _ _ shown.2 last)
