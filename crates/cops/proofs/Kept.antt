-- A writer holds what it gained before it was flushed.
use Rattle.std.proofs.Common.{◌≡◌, ℕ, Bool, true, false, List, Option, None, Some, Result, Ok, Err, refl, subst, sym, ◌∙◌}
use Rattle.std.specs.Borrow.{Bor}
use Rattle.std.specs.Global.{Vec}
use Rattle.std.specs.Prelude.{IfOk, IfSome, IsOkAnd}
use Rattle.std.specs.Io.KnownBytes.{Appends, Keeps}
use Rattle.std.specs.Option.{is_some}
use Rattle.cops_import.specs.Imports.{IsImport}
use Rattle.cops_import.specs.Words.{reported_text}
use Rattle.cops_import.specs.declared.outcome.Outcome.{Outcome}
use Rattle.cops_import.specs.declared.rules.Rules.{Rules}
use Rattle.cops_audit_commands.specs.declared.audit.Answer.{Answer}
use Rattle.cops_audit_commands.specs.declared.audit.Answer.TheVariants as answer
use Rattle.cops_audit_commands.specs.declared.explain.Explained.{Explained}
use Rattle.cops_command_line.specs.declared.job.Job.TheVariants.{Serve}
use Rattle.cops_serve.specs.Serving.{EndsTraced}
use Rattle.cops.specs.Status.{Draws, EndsWell, Gains, HasAnswered, HasServed, Imports, IsNoTraceText}

kept_text : (old mid new : Option (List ℕ)) (bs : List ℕ) → Appends old mid bs → Keeps mid new → Appends old new bs
kept_text None mid new bs gained kept = tt
kept_text (Some xs) None new bs gained kept = absurd gained
kept_text (Some xs) (Some ys) None bs gained kept = absurd kept
kept_text (Some xs) (Some ys) (Some zs) bs gained kept = kept ∙ gained

-- an import whose trace was flushed and whose report was printed
pub imported : (rules : Rules) (known : Option (List ℕ)) (names : List (List ℕ)) (unknown : List Outcome) (operations : ℕ) (made_old mid made_new old new : Option (List ℕ))
    → IfSome known (λ bytes. IsImport rules bytes made_old mid names unknown operations) → Keeps mid made_new → Appends old new (reported_text names unknown operations)
    → IfSome known (λ bytes. Imports rules bytes made_old made_new old new)
imported rules None names unknown operations made_old mid made_new old new is_import kept printed = tt
imported rules (Some bytes) names unknown operations made_old mid made_new old new is_import kept printed = record {
  names = names;
  unknown = unknown;
  operations = operations;
  is_import = record {
    given = is_import.given;
    report = is_import.report;
    summary = is_import.summary;
    is_trace = is_import.is_trace;
    written = kept_text made_old mid made_new _ is_import.written kept;
  };
  printed = printed;
}

-- bytes that are no trace's text, for a job that makes nothing
pub explained : (known : Option (List ℕ)) (made_old made_new : Option (List ℕ)) → IfSome known IsNoTraceText → made_new ≡ made_old
    → IfSome known (λ bytes. IsNoTraceText bytes × (made_new ≡ made_old))
explained None made_old made_new none same = tt
explained (Some bytes) made_old made_new none same = (none, same)

-- what was drawn is the picture
draws : (is_drawn : Bool) (IsIt : Option (Vec ℕ) → Type 0) (picture : Option (Vec ℕ)) (made_old made_new : Option (List ℕ)) → (is_drawn ≡ true → IsIt picture)
    → Gains is_drawn picture made_old made_new → Draws is_drawn IsIt made_old made_new
draws false IsIt picture made_old made_new says gains = gains
draws true IsIt picture made_old made_new says gains = (picture, says refl, gains)

-- the explanation with this answer, which was printed, and its picture, which was drawn where it is asked for
module _ {E : Type 0} (known : Option (List ℕ)) (is_drawn : Bool) (Writes : List ℕ → Answer → Type 0) (IsIt : List ℕ → Option (Vec ℕ) → Type 0) where
  pub explains : (given : Answer) (result : Result Explained E) (made_old made_new : Option (List ℕ)) → HasAnswered is_drawn given result made_old made_new
      → IfOk result (λ e. IfSome known (λ bytes. Writes bytes e.answer))
      → (is_drawn ≡ true → IfOk result (λ e. IfSome known (λ bytes. IsIt bytes e.picture)))
      → IfSome known (λ bytes. Writes bytes given × Draws is_drawn (IsIt bytes) made_old made_new)
  explains given (Err fault) made_old made_new has writes says = absurd has
  explains given (Ok e) made_old made_new has writes says = go known writes says
    where
      go : (a : Option (List ℕ)) → IfSome a (λ bytes. Writes bytes e.answer) → (is_drawn ≡ true → IfSome a (λ bytes. IsIt bytes e.picture))
          → IfSome a (λ bytes. Writes bytes given × Draws is_drawn (IsIt bytes) made_old made_new)
      go None w p = tt
      go (Some bytes) w p = (subst (λ (a : Answer). Writes bytes a) has.0 w, draws is_drawn (IsIt bytes) e.picture made_old made_new p has.1)

  -- and where the answer is Accepted the history is causally convergent
  pub explains_accepted : (Converges : List ℕ → Type 0) (result : Result Explained E) (made_old made_new : Option (List ℕ)) → HasAnswered is_drawn answer.Accepted result made_old made_new
      → IfOk result (λ e. IfSome known (λ bytes. Writes bytes e.answer))
      → (is_drawn ≡ true → IfOk result (λ e. IfSome known (λ bytes. IsIt bytes e.picture)))
      → IfOk result (λ e. e.answer ≡ answer.Accepted → IfSome known Converges)
      → IfSome known (λ bytes. Converges bytes × (Writes bytes answer.Accepted × Draws is_drawn (IsIt bytes) made_old made_new))
  explains_accepted Converges (Err fault) made_old made_new has writes says converges = absurd has
  explains_accepted Converges (Ok e) made_old made_new has writes says converges =
      both known (converges has.0) (explains answer.Accepted (Ok e) made_old made_new has writes says)
    where
      both : (a : Option (List ℕ)) → IfSome a Converges → IfSome a (λ bytes. Writes bytes answer.Accepted × Draws is_drawn (IsIt bytes) made_old made_new)
          → IfSome a (λ bytes. Converges bytes × (Writes bytes answer.Accepted × Draws is_drawn (IsIt bytes) made_old made_new))
      both None c w = tt
      both (Some bytes) c w = (c, w)

-- what was printed with this answer, where nothing was made
pub printed : {E : Type 0} (known : Option (List ℕ)) (Writes : List ℕ → Answer → Type 0) (given : Answer) (result : Result Explained E) (made_old made_new : Option (List ℕ))
    → IsOkAnd result (λ e. e.answer ≡ given) × (made_new ≡ made_old) → IfOk result (λ e. IfSome known (λ bytes. Writes bytes e.answer))
    → IfSome known (λ bytes. Writes bytes given × (made_new ≡ made_old))
printed known Writes given (Err fault) made_old made_new is writes = absurd is.0
printed None Writes given (Ok e) made_old made_new is writes = tt
printed (Some bytes) Writes given (Ok e) made_old made_new is writes = (subst (λ (a : Answer). Writes bytes a) is.0 writes, is.1)

-- a serving that ended well, with its trace where that is kept
pub serves : (known : Option (List ℕ)) (port : ℕ) (scenario : Bor (List ℕ)) (sessions : ℕ) (idle : Option ℕ) (trace : Option (Bor (List ℕ))) (is_announced : Bool) (made_old made_new old new : Option (List ℕ))
    → IfSome known (λ bytes. HasServed sessions bytes old new) → (is_some trace ≡ false → made_new ≡ made_old)
    → (is_some trace ≡ true → IfSome known (λ bytes. EndsTraced bytes sessions made_old made_new old new))
    → IfSome known (λ bytes. EndsWell (Serve port scenario sessions idle trace is_announced) bytes made_old made_new old new)
serves None port scenario sessions idle trace is_announced made_old made_new old new served same traced = tt
serves (Some bytes) port scenario sessions idle None is_announced made_old made_new old new served same traced = (served, same refl)
serves (Some bytes) port scenario sessions idle (Some name) is_announced made_old made_new old new served same traced = traced refl
