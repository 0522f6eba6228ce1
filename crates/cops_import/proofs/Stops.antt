-- A fault that stops an import says of the whole text what `IsFaultOf` requires.
use Rattle.std.proofs.Common.{◌≡◌, ◌==◌, ◌+◌, ◌^◌, ◌≤◌, ℕ, Bool, ◌<◌, List, [], ◌∷◌, ◌++◌, length, sym, ap, subst, ◌∙◌, append_assoc, inl, inr, arith}
use Rattle.std.specs.Prelude.{Some, Result, Ok, Err, IfErr, IfOk, IsErrAnd, OnOk}
use Rattle.std.proofs.lemmas.List.{length-append}
use Rattle.std.proofs.lemmas.List.Splits.{length-slice_split}
use Rattle.std.proofs.lemmas.List.Sums.{count_by-le-length}
use Rattle.cops_import.specs.declared.rules.Rules.{Rules}
use Rattle.cops_import.specs.Faults.{IsFaultOf, IsFaultyAfter, LineIsUnlisted}
use Rattle.cops_import.specs.Line.{LineGives}
use Rattle.cops_import.specs.Lines.{IsWithin, LinesGive, lines, names_of, ops_of, returned_of}
use Rattle.cops_import.specs.Underway.{IsStopAt, IsStopAtEnd, IsStopOf}
use Rattle.cops_import.specs.declared.rules.Expected.{Expected}
use Rattle.cops_import.specs.declared.reported.Reported.{Reported}
use Rattle.cops_import.specs.declared.reported.Reported.TheVariants.{Known}
use Rattle.cops_import.specs.declared.fault.ImportFault.{ImportFault}
use Rattle.cops_import.specs.declared.fault.ImportFault.TheVariants.{Memory, ReadFailed, WriteFailed, Line, Changed, Endless}
use Rattle.cops_import.specs.declared.reported.LineOp.{LineOp}
use Rattle.cops_import.proofs.Given.{ops-known}
use Rattle.cops_import.proofs.Splitting.{Splits, split_here, split_last, report_more}

pub if_err : {T E : Type 0} (r : Result T E) (P Q : E → Type 0) → ((e : E) → P e → Q e) → IfErr r P → IfErr r Q
if_err (Ok x) P Q f h = tt
if_err (Err e) P Q f h = f e h

pub if_err_and : {T E : Type 0} (r : Result T E) (P Q : E → Type 0) → ((e : E) → P e → Q e) → IsErrAnd r P → IfErr r Q
if_err_and (Ok x) P Q f h = tt
if_err_and (Err e) P Q f h = f e h

pub if_err_at : {T E : Type 0} (r : Result T E) (x : E) (X : Type 0) (P Q : E → Type 0) → ((e : E) → P e → (e ≡ x → X) → Q e) → IfErr r P → (r ≡ Err x → X) → IfErr r Q
if_err_at (Ok y) x X P Q f h at = tt
if_err_at (Err e) x X P Q f h at = f e h (λ is. at (ap Err is))

pub if_ok : {T E : Type 0} (r : Result T E) (P Q : T → Type 0) → ((x : T) → P x → Q x) → IfOk r P → IfOk r Q
if_ok (Ok x) P Q f h = f x h
if_ok (Err e) P Q f h = tt

pub on_ok : {T E : Type 0} (r : Result T E) (P Q : Type 0) → (P → Q) → OnOk r P → OnOk r Q
on_ok (Ok x) P Q f h = f h
on_ok (Err e) P Q f h = tt

-- a fault that stops at an operation stops at its line
pub stop_of : (rules : Rules) (expected : Expected) (number : ℕ) (given : List Reported) (line : List ℕ) (reported : LineOp) (e : ImportFault) → LineGives rules number line (Some (Known reported))
    → IsStopOf expected.clients number (ops_of given) reported e → IsStopAt rules expected number given line e
stop_of rules expected number given line reported Memory reports stop = tt
stop_of rules expected number given line reported ReadFailed reports stop = tt
stop_of rules expected number given line reported (WriteFailed written) reports stop = tt
stop_of rules expected number given line reported (Line n fault) reports stop = (stop.0, inr (reported, reports, stop.1))
stop_of rules expected number given line reported Changed reports stop = inl (reported, reports, stop)
stop_of rules expected number given line reported Endless reports stop = absurd stop

-- a fault that stops at a line is a fault of the text with that line
stop_says : (rules : Rules) (expected : Expected) (bytes : List ℕ) (ended : List (List ℕ)) (line : List ℕ) (after : List (List ℕ)) (given : List Reported) (number : ℕ) (e : ImportFault)
    → lines bytes ≡ ended ++ line ∷ after → LinesGive rules ended given → number ≡ length ended + 1 → IsStopAt rules expected number given line e → IsFaultOf rules expected bytes e
stop_says rules expected bytes ended line after given number Memory split report counted stop = tt
stop_says rules expected bytes ended line after given number ReadFailed split report counted stop = tt
stop_says rules expected bytes ended line after given number (WriteFailed written) split report counted stop = tt
stop_says rules expected bytes ended line after given number (Line n fault) split report counted stop =
    inl (record { before = ended; line = line; after = after; split = split; counted = stop.0 ∙ counted; given = given; report = report; wrong = subst (λ (k : ℕ). IsFaultyAfter rules k given line fault) (sym stop.0) stop.1 })
stop_says rules expected bytes ended line after given number Changed split report counted (inl stop) =
    inl (record {
      first = ended ++ line ∷ [];
      rest = after;
      split = split ∙ sym (append_assoc ended (line ∷ []) after);
      given = given ++ Known stop.0 ∷ [];
      report = report_more rules 1 number [] ended given line (Some (Known stop.0)) report (omega (arith, counted)) stop.1;
      more = subst (λ (os : List LineOp). expected.clients < length (names_of os)) (sym (ops-known given stop.0)) stop.2;
    })
stop_says rules expected bytes ended line after given number Changed split report counted (inr (inl unranked)) =
    inr (inr (inl (record { before = ended; line = line; after = after; split = split; given = given; report = report; unranked = unranked })))
stop_says rules expected bytes ended line after given number Changed split report counted (inr (inr unlisted)) =
    inr (inr (inr (record {
      before = ended;
      line = line;
      after = after;
      split = split;
      given = given;
      report = report;
      unlisted = subst (λ (k : ℕ). LineIsUnlisted rules expected.unknown k line) counted unlisted;
    })))
stop_says rules expected bytes ended line after given number Endless split report counted stop = absurd stop

-- the case of a line that a line feed ends, whatever follows
pub stops_here : (rules : Rules) (expected : Expected) (fed : List ℕ) (ended : List (List ℕ)) (line : List ℕ) (given : List Reported) (number : ℕ) (e : ImportFault) → Splits fed ended line → IsWithin line
    → LinesGive rules ended given → number ≡ length ended + 1 → IsStopAt rules expected number given line e → (more : List ℕ) → IsFaultOf rules expected ((fed ++ 10 ∷ []) ++ more) e
stops_here rules expected fed ended line given number e split within report counted stop more =
    stop_says rules expected ((fed ++ 10 ∷ []) ++ more) ended line (lines more) given number e (split_here fed ended line more split within) report counted stop

-- the case of the last line
pub stops_last : (rules : Rules) (expected : Expected) (fed : List ℕ) (ended : List (List ℕ)) (line : List ℕ) (given : List Reported) (number : ℕ) (e : ImportFault) → Splits fed ended line → IsWithin line
    → LinesGive rules ended given → number ≡ length ended + 1 → IsStopAt rules expected number given line e → IsFaultOf rules expected fed e
stops_last rules expected fed ended line given number e split within report counted stop =
    stop_says rules expected fed ended line [] given number e (split_last fed ended line split within) report counted stop

-- the case of the end, after the last line
pub stops_ended : (rules : Rules) (expected : Expected) (bytes : List ℕ) (given : List Reported) (e : ImportFault) → LinesGive rules (lines bytes) given
    → IsStopAtEnd expected.clients (ops_of given) (returned_of given) e → IsFaultOf rules expected bytes e
stops_ended rules expected bytes given Memory report stop = tt
stops_ended rules expected bytes given ReadFailed report stop = tt
stops_ended rules expected bytes given (WriteFailed written) report stop = tt
stops_ended rules expected bytes given (Line n fault) report stop =
    let next = stop.1 in
    inr (record { given = given; report = report; before = stop.0; returned = next.returned; after = next.after; split = next.split; counted = next.its_line; beyond = stop.2 })
stops_ended rules expected bytes given Changed report stop = inr (inl (given, report, stop))
stops_ended rules expected bytes given Endless report stop = absurd stop

-- the case where no 64-bit number is left for a line
pub no_number : (bytes : List ℕ) (ended rest : List (List ℕ)) → lines bytes ≡ ended ++ rest → 18446744073709551615 ≤ length ended → 2 ^ 40 ≤ length bytes
no_number bytes ended rest split many =
    let p : ℕ → Bool = λ b. b == 10 in
    omega (arith, ap length split, length-append ended rest, length-slice_split p bytes, count_by-le-length p bytes, many)
