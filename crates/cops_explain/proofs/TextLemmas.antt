-- Texts that are appended to one another.
use Rattle.std.proofs.Common.{◌≡◌, ◌∙◌, ◌≤◌, ◌-◌, ℕ, List, [], ◌∷◌, ◌++◌, Result, Ok, Err, refl, ap, append-nil, append_assoc, arith, false, is_ok, length, take_all}
use Rattle.std.specs.Prelude.{OnOk, codes, if◌then◌else◌, ◌==◌}
use Rattle.cops_types.specs.declared.op.OpName.{OpName}
use Rattle.cops_explain.specs.Naming.{ANamedHistory}
use Rattle.cops_explain.specs.Operations.{reported_lines}
use Rattle.cops_explain.specs.Paragraphs.{holders_text, more_others, others_text}
use Rattle.cops_explain.specs.declared.limits.TheConstants.{MOST_OTHERS}

-- two texts
pub joined : (old one new x y : List ℕ) → one ≡ old ++ x → new ≡ one ++ y → new ≡ old ++ (x ++ y)
joined old one new x y a b = b ∙ ap (λ (t : List ℕ). t ++ y) a ∙ append_assoc old x y

-- two texts, the last by a call whose result is returned as it is
pub two : {T E : Type 0} (r : Result T E) (old one new x y : List ℕ) → one ≡ old ++ x → OnOk r (new ≡ one ++ y) → OnOk r (new ≡ old ++ (x ++ y))
two (Err e) old one new x y a b = tt
two (Ok v) old one new x y a b = joined old one new x y a b

-- three texts, the last by such a call
pub three : {T E : Type 0} (r : Result T E) (old one more new x y z : List ℕ) → one ≡ old ++ x → more ≡ one ++ y → OnOk r (new ≡ more ++ z) → OnOk r (new ≡ old ++ (x ++ (y ++ z)))
three r old one more new x y z a b c = two r old one new x (y ++ z) a (two r one more new y z b c)

-- three texts, the last by such a call, which adds nothing where it fails
pub three_or_two : {T E : Type 0} (r : Result T E) (old one more new x y z : List ℕ) → one ≡ old ++ x → more ≡ one ++ y → new ≡ (if is_ok r then more ++ z else more)
    → OnOk r (new ≡ old ++ (x ++ (y ++ z)))
three_or_two (Err e) old one more new x y z a b c = tt
three_or_two {T} {E} (Ok v) old one more new x y z a b c = three {T = T} {E = E} (Ok v) old one more new x y z a b c

-- puts with a version, where there are some
pub some_holders : {T E : Type 0} (h : ANamedHistory) (puts : List OpName) (r : Result T E) (old one new : List ℕ) → (length puts == 0) ≡ false → one ≡ old ++ codes "of that version there is:\n"
    → OnOk r (new ≡ one ++ others_text h puts) → OnOk r (new ≡ old ++ holders_text h puts)
some_holders h [] r old one new some a b = absurd cc
some_holders h (put ∷ puts) r old one new some a b = two r old one new (codes "of that version there is:\n") (others_text h (put ∷ puts)) a b

none_more : (n : ℕ) → n ≡ 0 → more_others n ≡ []
none_more n none = rw none refl

-- few puts with a version are all listed
pub few_others : (h : ANamedHistory) (others : List OpName) → length others ≤ MOST_OTHERS → others_text h others ≡ reported_lines h others
few_others h others few =
    ap (λ (t : List ℕ). t ++ more_others (length others - MOST_OTHERS)) (ap (reported_lines h) (take_all MOST_OTHERS others few))
    ∙ ap (λ (t : List ℕ). reported_lines h others ++ t) (none_more (length others - MOST_OTHERS) (omega (arith, few)))
    ∙ append-nil (reported_lines h others)
