-- A message is determined by its kind and its fields.
use Rattle.std.proofs.Common.{◌≡◌, ℕ, zero, suc, cond, eqb, List, [], ◌∷◌, refl, sym, ap, ◌∙◌, arith}
use Rattle.cops_types.specs.declared.dep.Dep.{Dep}
use Rattle.cops_types.specs.declared.format.Format.TheVariants.{One, Two}
use Rattle.cops_wire.specs.declared.message.Message.{Message}
use Rattle.cops_wire.specs.declared.message.Message.TheVariants.{Hello, HelloOk, Put, Get, PutDone, Got, Missed, Refused, PutAfter, DepCheck, DepYes, DepWait, Status, StatusIs, Bye, ByeOk, TraceHead, TracePut, TraceGot, TraceMissed, TraceEnd, Del, Deleted, Gone, DelAfter, TraceDel, TraceGone}
use Rattle.cops_wire.specs.Field.{Content, of_number, of_bytes, of_pairs}
use Rattle.cops_wire.specs.Grammar.{Parts, value, deps as some_deps, grammar_one, grammar_two, encoding}
use Rattle.cops_wire.specs.Legal.{IsLegal, IsMessage}
use Rattle.cops_wire.specs.Message.{parts}

-- the content at an index
abbrev content : List Content → ℕ → Content
content [] i = of_number 0
content (c ∷ cs) zero = c
content (c ∷ cs) (suc i) = content cs i

abbrev number : Content → ℕ
number (of_number n) = n
number _ = 0

abbrev bytes : Content → List ℕ
bytes (of_bytes text) = text
bytes _ = []

abbrev deps : Content → List Dep
deps (of_pairs ds) = ds
deps _ = []

abbrev message_of : Parts → Message
message_of p =
    let at : ℕ → Content = content p.contents in
    cond (eqb p.kind 1) (Hello (number (at 0)) (number (at 1))) (
    cond (eqb p.kind 2) (HelloOk (number (at 0)) (number (at 1))) (
    cond (eqb p.kind 3) (Put (number (at 0)) (bytes (at 1)) (bytes (at 2))) (
    cond (eqb p.kind 4) (Get (number (at 0)) (bytes (at 1))) (
    cond (eqb p.kind 5) (PutDone (number (at 0)) (number (at 1))) (
    cond (eqb p.kind 6) (Got (number (at 0)) (bytes (at 1)) (number (at 2))) (
    cond (eqb p.kind 7) (Missed (number (at 0))) (
    cond (eqb p.kind 8) (Refused (number (at 0)) (number (at 1))) (
    cond (eqb p.kind 9) (PutAfter (bytes (at 0)) (bytes (at 1)) (number (at 2)) (deps (at 3))) (
    cond (eqb p.kind 10) (DepCheck (number (at 0)) (bytes (at 1)) (number (at 2))) (
    cond (eqb p.kind 11) (DepYes (number (at 0))) (
    cond (eqb p.kind 12) (DepWait (number (at 0))) (
    cond (eqb p.kind 13) (Status (number (at 0)) (number (at 1))) (
    cond (eqb p.kind 14) (StatusIs (number (at 0)) (number (at 1)) (number (at 2)) (number (at 3)) (number (at 4))) (
    cond (eqb p.kind 15) Bye (
    cond (eqb p.kind 16) ByeOk (
    cond (eqb p.kind 17) (TraceHead (number (at 0)) (number (at 1))) (
    cond (eqb p.kind 18) (TracePut (number (at 0)) (number (at 1)) (bytes (at 2)) (bytes (at 3)) (number (at 4))) (
    cond (eqb p.kind 19) (TraceGot (number (at 0)) (number (at 1)) (bytes (at 2)) (bytes (at 3)) (number (at 4))) (
    cond (eqb p.kind 20) (TraceMissed (number (at 0)) (number (at 1)) (bytes (at 2))) (
    cond (eqb p.kind 21) (TraceEnd (number (at 0))) (
    cond (eqb p.kind 22) (Del (number (at 0)) (bytes (at 1))) (
    cond (eqb p.kind 23) (Deleted (number (at 0)) (number (at 1))) (
    cond (eqb p.kind 24) (Gone (number (at 0)) (number (at 1))) (
    cond (eqb p.kind 25) (DelAfter (bytes (at 0)) (number (at 1)) (deps (at 2))) (
    cond (eqb p.kind 26) (TraceDel (number (at 0)) (number (at 1)) (bytes (at 2)) (number (at 3))) (
    (TraceGone (number (at 0)) (number (at 1)) (bytes (at 2)) (number (at 3)))))))))))))))))))))))))))))

back : (m : Message) → message_of (parts m) ≡ m
back (Hello profile client) = refl
back _ = refl

pub parts-same : (m n : Message) → parts m ≡ parts n → m ≡ n
parts-same m n e = sym (back m) ∙ ap message_of e ∙ back n

-- a value of format 1 is a value of format 2
longer : (text : List ℕ) → IsLegal (value One) (of_bytes text) → IsLegal (value Two) (of_bytes text)
longer text (fits, least, most) = (fits, least, omega (arith, most))

-- dependencies of format 1 are dependencies of format 2
more : (ds : List Dep) → IsLegal (some_deps One) (of_pairs ds) → IsLegal (some_deps Two) (of_pairs ds)
more ds (fits, most, pairs) = (fits, omega (arith, most), pairs)

-- a message of format 1 has the same encoding in format 2
pub first-in-second : (m : Message) → IsMessage grammar_one (parts m) → IsMessage grammar_two (parts m) × (encoding grammar_two (parts m) ≡ encoding grammar_one (parts m))
first-in-second (Put seq key text) (first, (second, (third, end))) = ((first, (second, (longer text third, end))), refl)
first-in-second (Got seq text version) (first, (second, (third, end))) = ((first, (longer text second, (third, end))), refl)
first-in-second (PutAfter key text version ds) (first, (second, (third, (fourth, end)))) = ((first, (longer text second, (third, (more ds fourth, end)))), refl)
first-in-second (TracePut client index key text version) (first, (second, (third, (fourth, (fifth, end))))) = ((first, (second, (third, (longer text fourth, (fifth, end))))), refl)
first-in-second (TraceGot client index key text version) (first, (second, (third, (fourth, (fifth, end))))) = ((first, (second, (third, (longer text fourth, (fifth, end))))), refl)
first-in-second (Del seq key) legal = absurd legal
first-in-second (Deleted seq version) legal = absurd legal
first-in-second (Gone seq version) legal = absurd legal
first-in-second (DelAfter key version ds) legal = absurd legal
first-in-second (TraceDel client index key version) legal = absurd legal
first-in-second (TraceGone client index key version) legal = absurd legal
first-in-second _ legal = (legal, refl)
