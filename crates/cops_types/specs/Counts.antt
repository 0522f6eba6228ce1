-- How many operations a history has, and how many puts.
use Rattle.std.specs.Prelude.{ℕ, Bool, true, false, length, count_by, sum_by}
use Rattle.cops_types.specs.Histories.{Sessions, Operation, write, read, missed}

abbrev pub count_of : Sessions → ℕ
count_of h = sum_by length h

-- whether an operation is a put
abbrev pub is_put : Operation → Bool
is_put (write key content version) = true
is_put (read key content version) = false
is_put (missed key) = false

-- how many puts there are
abbrev pub put_count : Sessions → ℕ
put_count h = sum_by (count_by is_put) h
