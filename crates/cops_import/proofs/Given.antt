-- What was reported, with one operation more.
use Rattle.std.proofs.Common.{◌≡◌, List, [], ◌∷◌, ◌++◌, refl, ap}
use Rattle.cops_import.specs.Lines.{ops_of, unknown_of}
use Rattle.cops_import.specs.declared.reported.LineOp.{LineOp}
use Rattle.cops_import.specs.declared.reported.Reported.{Reported}
use Rattle.cops_import.specs.declared.reported.Reported.TheVariants.{Known, Unknown}
use Rattle.cops_import.specs.declared.reported.UnknownPut.{UnknownPut}

pub ops-known : (given : List Reported) (reported : LineOp) → ops_of (given ++ Known reported ∷ []) ≡ ops_of given ++ reported ∷ []
ops-known [] reported = refl
ops-known (Known r ∷ given) reported = ap (λ (os : List LineOp). r ∷ os) (ops-known given reported)
ops-known (Unknown put ∷ given) reported = ops-known given reported

pub unknown-known : (given : List Reported) (reported : LineOp) → unknown_of (given ++ Known reported ∷ []) ≡ unknown_of given
unknown-known [] reported = refl
unknown-known (Known r ∷ given) reported = unknown-known given reported
unknown-known (Unknown put ∷ given) reported = ap (λ (ps : List UnknownPut). put ∷ ps) (unknown-known given reported)

pub ops-unknown : (given : List Reported) (put : UnknownPut) → ops_of (given ++ Unknown put ∷ []) ≡ ops_of given
ops-unknown [] put = refl
ops-unknown (Known r ∷ given) put = ap (λ (os : List LineOp). r ∷ os) (ops-unknown given put)
ops-unknown (Unknown p ∷ given) put = ops-unknown given put

pub unknown-unknown : (given : List Reported) (put : UnknownPut) → unknown_of (given ++ Unknown put ∷ []) ≡ unknown_of given ++ put ∷ []
unknown-unknown [] put = refl
unknown-unknown (Known r ∷ given) put = unknown-unknown given put
unknown-unknown (Unknown p ∷ given) put = ap (λ (ps : List UnknownPut). p ∷ ps) (unknown-unknown given put)
