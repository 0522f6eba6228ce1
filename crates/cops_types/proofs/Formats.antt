-- A format and its number.
use Rattle.std.proofs.Common.{◌≡◌, ℕ, Some, refl, arith}
use Rattle.std.proofs.lemmas.Bool.Decides.{nat_tests}
use Rattle.cops_types.specs.declared.format.Format.{Format}
use Rattle.cops_types.specs.declared.format.Format.TheVariants.{One, Two}
use Rattle.cops_types.specs.Format.{format_of_number, number_of}

pub number_again : (format : Format) → format_of_number (number_of format) ≡ Some format
number_again One = refl
number_again Two = refl

pub number_is : (number : ℕ) (format : Format) → format_of_number number ≡ Some format → number ≡ number_of format
number_is number One named = grind (arith, nat_tests)
number_is number Two named = grind (arith, nat_tests)
