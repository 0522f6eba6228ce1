-- The numbers of the lines of operations.
use Rattle.std.specs.Prelude.{ℕ, ◌+◌, List, [], ◌∷◌, ◌++◌, if◌then◌else◌, replicate, slice_index_or, slice_set}
use Rattle.std.specs.Prelude.{filter, map, nat_eq, not}
use Rattle.std.specs.List.{list_any}
use Rattle.cops_import.specs.Line.{is_blank_line}
use Rattle.cops_import.specs.Outcomes.{took_effect}
use Rattle.cops_import.specs.declared.outcome.Outcome.{Outcome}

-- the numbers of the lines that are not blank, where the first line has this number
abbrev pub numbers_from : ℕ → List (List ℕ) → List ℕ
numbers_from number [] = []
numbers_from number (line ∷ lines) = if is_blank_line line then numbers_from (number + 1) lines else number ∷ numbers_from (number + 1) lines

-- the clients' numbers, with one more of this client
abbrev pub with_number : List (List ℕ) → ℕ → ℕ → List (List ℕ)
with_number table client number = slice_set table client (slice_index_or table client [] ++ number ∷ [])

-- the clients' numbers after operations of these clients, each with its line's number
abbrev pub numbers_after : List (List ℕ) → List ℕ → List ℕ → List (List ℕ)
numbers_after table [] numbers = table
numbers_after table (client ∷ clients) [] = table
numbers_after table (client ∷ clients) (number ∷ numbers) = numbers_after (with_number table client number) clients numbers

-- for each client the numbers of the lines of its operations, which arrived in this order
abbrev pub op_lines : ℕ → List ℕ → List ℕ → List (List ℕ)
op_lines clients arrivals numbers = numbers_after (replicate clients []) arrivals numbers

-- the lines of the operations of a trace, in the order of its records: of these numbers those that are no line of a put of unknown outcome, and then
-- the lines of those puts that took effect
abbrev pub trace_lines : List ℕ → List Outcome → List ℕ
trace_lines numbers unknown = filter (λ number. not (list_any (λ o. nat_eq number o.line) unknown)) numbers ++ map (λ o. o.line) (took_effect unknown)
