-- An import proceeds part by part and line by line.
use Rattle.std.proofs.Common.{◌≡◌, ◌==◌, ◌+◌, ◌^◌, ◌≤◌, ℕ, false, List, [], ◌∷◌, ◌++◌, length, refl, sym, ap, subst, ◌∙◌, append_assoc, arith}
use Rattle.std.specs.Prelude.{Option}
use Rattle.std.proofs.lemmas.List.{length-append}
use Rattle.std.proofs.lemmas.List.Elements.{All-nil, All-append}
use Rattle.cops_types.specs.declared.counted.Counted.{Counted}
use Rattle.cops_import.specs.declared.rules.Rules.{Rules}
use Rattle.cops_import.specs.Faults.{IsFaultOf}
use Rattle.cops_import.specs.Line.{LineGives}
use Rattle.cops_import.specs.Lines.{IsWithin, LinesGive, lines, with_reported}
use Rattle.cops_import.specs.Underway.{HasLeft, HasStopped, HasTaken, IsStopAt, IsUnderway, TakesLine, expected_of, rules_of}
use Rattle.cops_import.specs.declared.rules.Expected.{Expected}
use Rattle.cops_import.specs.declared.fault.ImportFault.{ImportFault}
use Rattle.cops_import.specs.declared.fault.ImportFault.TheVariants.{Endless, Memory}
use Rattle.cops_import.specs.declared.importer.Importer.{Importer}
use Rattle.cops_import.specs.declared.reported.Reported.{Reported}
use Rattle.cops_import.proofs.Records.{cut_so_far}
use Rattle.cops_import.proofs.Splitting.{Splits, split_ended, split_last, split_none, split_part, report_more}
use Rattle.cops_import.proofs.Stops.{no_number, stops_here}

module _ {W : Type 0} (contents : W → Option (List ℕ)) (from : Counted W) where
  -- a line feed came
  pub line_ended : (fed : List ℕ) (old new : Importer W) (number : ℕ) (reported : Option Reported) → (u : IsUnderway contents from fed old) → number ≡ old.ended + 1 → LineGives (rules_of old) number old.line.items reported → HasTaken contents from (with_reported u.given reported) new
      → new.line.items ≡ [] → new.ended ≡ number → rules_of new ≡ rules_of old → IsUnderway contents from (fed ++ 10 ∷ []) new
  line_ended fed old new number reported u counted is taken none next rules = record {
    ended = u.ended ++ old.line.items ∷ [];
    given = with_reported u.given reported;
    report = subst (λ (f : Rules). LinesGive f (u.ended ++ old.line.items ∷ []) (with_reported u.given reported)) (sym rules) (report_more (rules_of old) 1 number [] u.ended u.given old.line.items reported u.report (omega (arith, counted, u.counted)) is);
    counted = omega (arith, next, counted, u.counted, length-append u.ended (old.line.items ∷ []));
    split = subst (Splits (fed ++ 10 ∷ []) (u.ended ++ old.line.items ∷ [])) (sym none) (split_ended fed u.ended old.line.items u.split u.within);
    within = subst IsWithin (sym none) (All-nil (λ (b : ℕ). (b == 10) ≡ false));
    taken = taken;
  }

  -- a part of a line came
  pub part_taken : (fed part : List ℕ) (old new : Importer W) → (u : IsUnderway contents from fed old) → new.line.items ≡ old.line.items ++ part → IsWithin part → new.ended ≡ old.ended → rules_of new ≡ rules_of old
      → HasTaken contents from u.given new → IsUnderway contents from (fed ++ part) new
  part_taken fed part old new u items within same rules taken = record {
    ended = u.ended;
    given = u.given;
    report = subst (λ (f : Rules). LinesGive f u.ended u.given) (sym rules) u.report;
    counted = same ∙ u.counted;
    split = subst (Splits (fed ++ part) u.ended) (sym items) (split_part fed u.ended old.line.items part u.split);
    within = subst IsWithin (sym items) (All-append (λ (b : ℕ). (b == 10) ≡ false) old.line.items part u.within within);
    taken = taken;
  }

  -- the import stops at a line that a line feed ends
  pub stopped_here : (fed : List ℕ) (old : Importer W) (number : ℕ) (e : ImportFault) (w : Counted W) → (u : IsUnderway contents from fed old) → number ≡ old.ended + 1
      → IsStopAt (rules_of old) (expected_of old) number u.given old.line.items e → HasLeft contents from e w → HasStopped contents from (fed ++ 10 ∷ []) e (rules_of old) (expected_of old) w
  stopped_here fed old number e w u next stop left = record {
    says = stops_here (rules_of old) (expected_of old) fed u.ended old.line.items u.given number e u.split u.within u.report (next ∙ ap (λ (n : ℕ). n + 1) u.counted) stop;
    left = left;
  }

  -- memory ran out
  pub stopped_short : (fed all : List ℕ) (old : Importer W) → IsUnderway contents from fed old → HasStopped contents from all Memory (rules_of old) (expected_of old) old.writer.writer
  stopped_short fed all old u = record {
    says = λ more. tt;
    left = record { cut = cut_so_far contents from _ old.writer u.taken.ops.wrote; heard = tt };
  }

  -- no 64-bit number is left for a line
  pub stopped_endless : (fed all : List ℕ) (old : Importer W) → IsUnderway contents from fed old → 18446744073709551615 ≤ old.ended → all ≡ fed ++ 10 ∷ [] → HasStopped contents from all Endless (rules_of old) (expected_of old) old.writer.writer
  stopped_endless fed all old u many is = record {
    says = λ more. no_number (all ++ more) u.ended (lines (old.line.items ++ 10 ∷ more)) (ap (λ (l : List ℕ). lines (l ++ more)) is ∙ ap lines (append_assoc fed (10 ∷ []) more) ∙ u.split (10 ∷ more)) (omega (arith, many, u.counted));
    left = record { cut = cut_so_far contents from _ old.writer u.taken.ops.wrote; heard = u.taken.ops.wrote.heard };
  }

  pub endless_says : (fed : List ℕ) (old : Importer W) → IsUnderway contents from fed old → 18446744073709551615 ≤ old.ended → 2 ^ 40 ≤ length fed
  endless_says fed old u many =
      no_number fed u.ended (old.line.items ∷ []) (split_last fed u.ended old.line.items u.split u.within) (omega (arith, many, u.counted))

  -- a fault that stopped the import still stops it with more bytes
  pub stopped_more : (fed rest all : List ℕ) (e : ImportFault) (rules : Rules) (expected : Expected) (w : Counted W) → fed ++ rest ≡ all → HasStopped contents from fed e rules expected w → HasStopped contents from all e rules expected w
  stopped_more fed rest all e rules expected w is h = record {
    says = λ more. subst (λ (bytes : List ℕ). IsFaultOf rules expected bytes e) (sym (append_assoc fed rest more) ∙ ap (λ (l : List ℕ). l ++ more) is) (h.says (rest ++ more));
    left = h.left;
  }

  -- the rules and what is expected are those of the import
  pub stopped_as : (fed : List ℕ) (e : ImportFault) (f f' : Rules) (k k' : Expected) (w : Counted W) → f ≡ f' → k ≡ k' → HasStopped contents from fed e f k w → HasStopped contents from fed e f' k' w
  stopped_as fed e f f' k k' w rules expected h =
      subst (λ (x : Rules). HasStopped contents from fed e x k' w) rules (subst (λ (x : Expected). HasStopped contents from fed e f x w) expected h)

  -- all lines were taken
  pub last_taken : (fed : List ℕ) (old mid : Importer W) (number : ℕ) → (u : IsUnderway contents from fed old) → number ≡ old.ended + 1 → TakesLine contents from (rules_of old) number u.given old.line.items mid
      → (given : List Reported) × LinesGive (rules_of old) (lines fed) given × HasTaken contents from given mid
  last_taken fed old mid number u counted took =
      let given = with_reported u.given took.0 in (
        given,
        subst (λ (ls : List (List ℕ)). LinesGive (rules_of old) ls given) (sym (split_last fed u.ended old.line.items u.split u.within))
            (report_more (rules_of old) 1 number [] u.ended u.given old.line.items took.0 u.report (omega (arith, counted, u.counted)) took.1),
        took.2,
      )

  -- nothing came yet
  pub underway_none : (i : Importer W) → HasTaken contents from [] i → i.line.items ≡ [] → i.ended ≡ 0 → IsUnderway contents from [] i
  underway_none i taken none ended = record {
    ended = [];
    given = [];
    report = refl;
    counted = ended;
    split = subst (Splits [] []) (sym none) split_none;
    within = subst IsWithin (sym none) (All-nil (λ (b : ℕ). (b == 10) ≡ false));
    taken = taken;
  }

-- cutting a line off the rest of a piece
pub cut_off : (piece before rest part behind : List ℕ) → piece ≡ before ++ rest → rest ≡ part ++ 10 ∷ behind → piece ≡ (before ++ part ++ 10 ∷ []) ++ behind
cut_off piece before rest part behind is cut =
    is ∙ ap (λ (l : List ℕ). before ++ l) cut ∙ sym (append_assoc (before ++ part) (10 ∷ []) behind ∙ append_assoc before part (10 ∷ behind))

pub after_line : (fed before part : List ℕ) → (fed ++ before) ++ part ++ 10 ∷ [] ≡ fed ++ (before ++ part ++ 10 ∷ [])
after_line fed before part = ap (λ (l : List ℕ). l ++ 10 ∷ []) (append_assoc fed before part) ∙ append_assoc fed (before ++ part) (10 ∷ [])

pub all_of : (fed piece front rest : List ℕ) → piece ≡ front ++ rest → (fed ++ front) ++ rest ≡ fed ++ piece
all_of fed piece front rest is = append_assoc fed front rest ∙ ap (λ (l : List ℕ). fed ++ l) (sym is)
