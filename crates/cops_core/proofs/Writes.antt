-- Written contents: that they fit the format, and the outcome of a node for them.
use Rattle.std.proofs.Common.{◌≡◌, ℕ, List, length, Option, Some, None, true, refl, leb-true}
use Rattle.cops_types.specs.declared.format.Format.{Format}
use Rattle.cops_types.specs.declared.format.Format.TheVariants.{One, Two}
use Rattle.cops_types.specs.Format.{Fits, fits, most_value}
use Rattle.cops_node.specs.Acts.{written, version_given}
use Rattle.cops_core.specs.Memory.{TakesMemory}
use Rattle.cops_core.specs.World.{WriteBy}

pub fits_in : (format : Format) (content : Option (List ℕ)) → fits format content ≡ true → Fits format content
fits_in format (Some value) fit = leb-true (length value) (most_value format) fit
fits_in One None fit = absurd cc
fits_in Two None fit = tt

-- the outcome of a write has its version
pub given_written : (content : Option (List ℕ)) (version : ℕ) → version_given (written content version) ≡ Some version
given_written (Some value) version = refl
given_written None version = refl

pub takes_written : (client : ℕ) (key : List ℕ) (content : Option (List ℕ)) (version : ℕ) → TakesMemory (WriteBy client key content) (written content version)
takes_written client key (Some value) version = tt
takes_written client key None version = tt
