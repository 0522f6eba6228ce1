-- A verdict with the sessions that it is on, without their values, and their puts.
use Rattle.std.specs.Prelude.{◌≡◌, ℕ, List, [], map, Option, Some, None}
use Rattle.cops_types.specs.Histories.{Sessions, Operation, write, read, missed}
use Rattle.cops_types.specs.declared.versioned_put.VersionedPut.{VersionedPut}
use Rattle.cops_audit.specs.declared.verdict.Verdict.{Verdict}
use Rattle.cops_audit.specs.Tables.{IsPutTable}
use Rattle.cops_audit.specs.Verdicts.{IsVerdict}

-- the content without its value: whether there was one stays
abbrev pub without : Option (List ℕ) → Option (List ℕ)
without (Some value) = Some []
without None = None

-- the operation without its value
abbrev pub without_value : Operation → Operation
without_value (write key content version) = write key (without content) version
without_value (read key content version) = read key (without content) version
without_value (missed key) = missed key

-- the sessions without their values
abbrev pub without_values : Sessions → Sessions
without_values h = map (map without_value) h

-- sessions, a verdict, and puts
pub record AJudged : Type 0 where
  pub sessions : Sessions
  pub verdict : Verdict
  pub puts : List VersionedPut

-- the sessions are the history's without their values, the verdict is the history's, and the puts are all of its puts in order of versions
pub record IsJudged (h : Sessions) (judged : AJudged) : Type 0 where
  pub sessions : judged.sessions ≡ without_values h
  pub verdict : IsVerdict h judged.verdict
  pub puts : IsPutTable h judged.puts
