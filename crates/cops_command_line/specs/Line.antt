-- The job that words ask for, and what it means that they ask for none.
use Rattle.std.specs.Prelude.{◌≡◌, ◌≢◌, ◌≤◌, ◌↔◌, ℕ, List, [], ◌∷◌, codes, Option, Some, None, option_map, Bool, IsTrue}
use Rattle.std.specs.Borrow.{Bor}
use Rattle.std.specs.Str.Parse.{IsNumeral, digits_value, without_leading_plus}
use Rattle.clap.specs.Words.{Row, Text, first_of, subcommand_of, fault_of, IsAmong}
use Rattle.clap.specs.declared.error.kind.ErrorKind.{ErrorKind}
use Rattle.clap.specs.declared.error.kind.ErrorKind.TheVariants.{DisplayHelp, DisplayVersion, OutOfMemory}
use Rattle.cops_types.specs.declared.limits.TheConstants.{MAX_OPS, MAX_WORKERS}
use Rattle.cops_command_line.specs.declared.job.TheConstants.{MAX_PORT, MAX_SESSIONS, MAX_IDLE}
use Rattle.cops_types.specs.declared.selection.Selection.{Selection}
use Rattle.cops_types.specs.declared.selection.Selection.TheVariants.{First, All, One}
use Rattle.cops_types.specs.declared.format.Format.{Format}
use Rattle.cops_types.specs.Format.{number_of}
use Rattle.cops_command_line.specs.declared.job.Wanted.{Wanted}
use Rattle.cops_command_line.specs.declared.job.Job.{Job}
use Rattle.cops_command_line.specs.declared.job.Job.TheVariants.{Audit, SoFar, Explain, Check, Follow, Show, Import, Convert, Run, Serve}
use Rattle.cops_command_line.specs.declared.fault.LineFault.{LineFault}
use Rattle.cops_command_line.specs.declared.fault.LineFault.TheVariants.{Memory, Usage, Help, Version}
use Rattle.cops_command_line.specs.Commands.{cops_app}

-- the number from 1 to `most` that a text is in decimal digits, after a plus or without it
abbrev pub IsNumber : ℕ → Text → ℕ → Type 0
IsNumber most text n =
    IsNumeral 10 (without_leading_plus text) × (n ≡ digits_value 10 (without_leading_plus text)) × (1 ≤ n) × (n ≤ most)

-- the number that a value is: 1 where there is no value
abbrev pub IsNumberOr1 : ℕ → Option Text → ℕ → Type 0
IsNumberOr1 most None n = n ≡ 1
IsNumberOr1 most (Some text) n = IsNumber most text n

-- the number that a value is, where there is one
abbrev pub IsNumberIfGiven : ℕ → Option Text → Option ℕ → Type 0
IsNumberIfGiven most None None = Unit {0}
IsNumberIfGiven most None (Some n) = ⊥
IsNumberIfGiven most (Some text) None = ⊥
IsNumberIfGiven most (Some text) (Some n) = IsNumber most text n

-- the number that a value is, which is required
abbrev pub IsNumberGiven : ℕ → Option Text → ℕ → Type 0
IsNumberGiven most None n = ⊥
IsNumberGiven most (Some text) n = IsNumber most text n

-- the value says that its flag was given
abbrev pub IsGiven : Option Text → Type 0
IsGiven value = value ≡ Some (codes "true")

-- the faults that the values of `--all` and `--fault` ask for: both together ask for none
abbrev pub IsAsked : Option Text → Option Text → Selection → Type 0
IsAsked all fault First = (¬ IsGiven all) × (fault ≡ None)
IsAsked all fault All = IsGiven all × (fault ≡ None)
IsAsked all fault (One n) = (¬ IsGiven all) × IsNumberGiven MAX_OPS fault n

-- whether a flag was given
abbrev pub IsFlag : Text → List Row → Bool → Type 0
IsFlag id rows is_given = IsTrue is_given ↔ IsGiven (first_of id rows)

-- neither all faults nor one of them, no picture and no JSON are asked for
abbrev pub AsksNoMore : List Row → Type 0
AsksNoMore rows =
    (¬ IsGiven (first_of (codes "all") rows)) × (first_of (codes "fault") rows ≡ None) × (first_of (codes "picture") rows ≡ None) × (¬ IsGiven (first_of (codes "json") rows))

-- the text that the value of an option is, where there is one
abbrev pub IsText : Text → List Row → Option (Bor Text) → Type 0
IsText id rows text = option_map (λ s. s.now) text ≡ first_of id rows

-- the explanation that the values of `--all`, `--fault`, `--picture` and `--json` ask for
pub record IsWanted (rows : List Row) (wanted : Wanted) : Type 0 where
  pub faults : IsAsked (first_of (codes "all") rows) (first_of (codes "fault") rows) wanted.faults
  pub picture : IsText (codes "picture") rows wanted.picture
  pub json : IsFlag (codes "json") rows wanted.is_json

-- the format whose number a value is: format 1 where there is no value
abbrev pub IsFormat : Option Text → Format → Type 0
IsFormat value format = IsNumberOr1 2 value (number_of format)

-- The job of a subcommand with these values. `audit` has one with its flag, but not together with a number of workers, and `check` one with `--follow`,
-- but not together with an option of an explanation.
abbrev pub IsJobOf : Text → List Row → Job → Type 0
IsJobOf name rows (Audit trace workers) =
    (name ≡ codes "audit") × (first_of (codes "trace") rows ≡ Some trace.now) × (¬ IsGiven (first_of (codes "so-far") rows)) × IsNumberOr1 MAX_WORKERS (first_of (codes "workers") rows) workers
IsJobOf name rows (SoFar trace) =
    (name ≡ codes "audit") × (first_of (codes "trace") rows ≡ Some trace.now) × IsGiven (first_of (codes "so-far") rows) × (first_of (codes "workers") rows ≡ None)
IsJobOf name rows (Explain trace wanted) = (name ≡ codes "explain") × (first_of (codes "trace") rows ≡ Some trace.now) × IsWanted rows wanted
IsJobOf name rows (Check lines is_ranked wanted) =
    (name ≡ codes "check") × (first_of (codes "lines") rows ≡ Some lines.now) × IsFlag (codes "rank") rows is_ranked
    × (¬ IsGiven (first_of (codes "follow") rows)) × IsWanted rows wanted
IsJobOf name rows (Follow lines is_ranked) =
    (name ≡ codes "check") × (first_of (codes "lines") rows ≡ Some lines.now) × IsFlag (codes "rank") rows is_ranked
    × IsGiven (first_of (codes "follow") rows) × AsksNoMore rows
IsJobOf name rows (Show trace) = (name ≡ codes "show") × (first_of (codes "trace") rows ≡ Some trace.now)
IsJobOf name rows (Import lines trace format is_ranked) =
    (name ≡ codes "import") × (first_of (codes "lines") rows ≡ Some lines.now) × (first_of (codes "trace") rows ≡ Some trace.now)
    × IsFormat (first_of (codes "format") rows) format × IsFlag (codes "rank") rows is_ranked
IsJobOf name rows (Convert trace new) = (name ≡ codes "convert") × (first_of (codes "trace") rows ≡ Some trace.now) × (first_of (codes "new") rows ≡ Some new.now)
IsJobOf name rows (Run scenario trace) = (name ≡ codes "run") × (first_of (codes "scenario") rows ≡ Some scenario.now) × (first_of (codes "trace") rows ≡ Some trace.now)
IsJobOf name rows (Serve port scenario sessions idle trace is_announced) =
    (name ≡ codes "serve") × IsNumberGiven MAX_PORT (first_of (codes "port") rows) port × (first_of (codes "scenario") rows ≡ Some scenario.now)
    × IsNumberOr1 MAX_SESSIONS (first_of (codes "sessions") rows) sessions × IsNumberIfGiven MAX_IDLE (first_of (codes "idle") rows) idle
    × IsText (codes "trace") rows trace × IsFlag (codes "announce") rows is_announced

-- no job has this subcommand and these values
abbrev pub HasNoJob : Text → List Row → Type 0
HasNoJob name rows = (job : Job) → ¬ IsJobOf name rows job

-- the job of the subcommand that was found
abbrev pub IsJobIn : Option (Text × List Row) → Job → Type 0
IsJobIn met job = (name : Text) × (rows : List Row) × (met ≡ Some (name, rows)) × IsJobOf name rows job

-- the subcommand that was found, if there is one, has no job
abbrev pub HasNoJobIn : Option (Text × List Row) → Type 0
HasNoJobIn met = (job : Job) → ¬ IsJobIn met job

-- the job of no words: the audit of standard input by one worker
abbrev pub IsDefault : Job → Type 0
IsDefault (Audit trace workers) = (trace.now ≡ codes "-") × (workers ≡ 1)
IsDefault _ = ⊥

-- the program's command takes the words, and they name a subcommand with the job's values
abbrev pub IsRead : List Text → Job → Type 0
IsRead words job = (fault_of cops_app words ≡ []) × IsJobIn (subcommand_of cops_app words) job

-- there are no words and the job is the default, or the words read as the job
abbrev pub Requests : List Text → Job → Type 0
Requests [] job = IsDefault job
Requests (word ∷ words) job = IsRead (word ∷ words) job

-- the words are no job
abbrev pub RequestsNone : List Text → Type 0
RequestsNone words = (job : Job) → ¬ Requests words job

-- the words ask the program's command for such a text: its help, or its version
abbrev pub AsksFor : ErrorKind → List Text → Type 0
AsksFor kind words = IsAmong kind (fault_of cops_app words)

-- the words ask for it and for nothing else, and nothing else is wrong with them
abbrev pub OnlyAsksFor : ErrorKind → List Text → Type 0
OnlyAsksFor kind words = fault_of cops_app words ≡ kind ∷ []

-- The fault is out of memory, or the words are no job. Help and version are returned only where the words ask for them, and where they ask for
-- nothing else usage is not returned in their place.
abbrev pub Explains : List Text → LineFault → Type 0
Explains words Memory = Unit {0}
Explains words (Usage text) = RequestsNone words × (¬ OnlyAsksFor DisplayHelp words) × (¬ OnlyAsksFor DisplayVersion words)
Explains words (Help text) = RequestsNone words × AsksFor DisplayHelp words
Explains words (Version text) = RequestsNone words × AsksFor DisplayVersion words

-- the fault for an error of this kind
abbrev pub Reports : ErrorKind → LineFault → Type 0
Reports kind Memory = Unit {0}
Reports kind (Usage text) = (kind ≢ OutOfMemory) × (kind ≢ DisplayHelp) × (kind ≢ DisplayVersion)
Reports kind (Help text) = kind ≡ DisplayHelp
Reports kind (Version text) = kind ≡ DisplayVersion
