-- The number and the limits of each format, and which operations it has.
use Rattle.std.specs.Prelude.{◌≤◌, ℕ, Bool, true, false, nat_le, List, length, ◌≡◌, ◌==◌, if◌then◌else◌, Option, Some, None}
use Rattle.cops_types.specs.declared.format.Format.{Format}
use Rattle.cops_types.specs.declared.format.Format.TheVariants.{One, Two}
use Rattle.cops_types.specs.declared.limits.TheConstants.{MAX_BODY, MAX_BODY_IN_ONE, MAX_DEPS, MAX_DEPS_IN_ONE, MAX_VALUE, MAX_VALUE_IN_ONE}
use Rattle.cops_types.specs.declared.op.OpName.{OpName}
use Rattle.cops_types.specs.Histories.{Sessions, Operation, write, read, missed, op_at}

-- the number of a format
abbrev pub number_of : Format → ℕ
number_of One = 1
number_of Two = 2

-- the format of a number, if there is one
abbrev pub format_of_number : ℕ → Option Format
format_of_number number = if number == 1 then Some One else if number == 2 then Some Two else None

-- the most bytes of a value
abbrev pub most_value : Format → ℕ
most_value One = MAX_VALUE_IN_ONE
most_value Two = MAX_VALUE

-- the most pairs of dependencies
abbrev pub most_deps : Format → ℕ
most_deps One = MAX_DEPS_IN_ONE
most_deps Two = MAX_DEPS

-- the most bytes of a frame's body
abbrev pub longest_body : Format → ℕ
longest_body One = MAX_BODY_IN_ONE
longest_body Two = MAX_BODY

-- what may be written in a format: a value within its limit, and in format 2 also no value, which is a deletion
abbrev pub Fits : Format → Option (List ℕ) → Type 0
Fits format (Some value) = length value ≤ most_value format
Fits One None = ⊥
Fits Two None = Unit {0}

-- whether a content fits the format
abbrev pub fits : Format → Option (List ℕ) → Bool
fits format (Some value) = nat_le (length value) (most_value format)
fits One None = false
fits Two None = true

-- the operation's content fits the format
abbrev pub IsInFormat : Format → Operation → Type 0
IsInFormat format (write key content version) = Fits format content
IsInFormat format (read key content version) = Fits format content
IsInFormat format (missed key) = Unit {0}

-- each operation of the history is in the format
abbrev pub AreInFormat : Format → Sessions → Type 0
AreInFormat format h = (name : OpName) (op : Operation) → op_at h name ≡ Some op → IsInFormat format op
