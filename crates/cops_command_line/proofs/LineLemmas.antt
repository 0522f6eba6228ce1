-- From what a parse returns to what the words ask for.
use Rattle.std.proofs.Common.{◌≡◌, ◌≢◌, ◌<◌, ◌⊎◌, List, [], ◌∷◌, length, map, sym, subst, refl, arith, ⊎_elim, true, false, true≢false, Option}
use Rattle.std.specs.Prelude.{Bool, ◌==◌, ◌&&◌}
use Rattle.std.specs.Borrow.{Bor}
use Rattle.clap.specs.Faults.{is_free_app}
use Rattle.clap.specs.Words.{App, Row, Text, fault_of, is_simple, is_simple_and_free, built, subcommand_of, IsAmong}
use Rattle.clap.specs.declared.error.kind.ErrorKind.{ErrorKind}
use Rattle.clap.specs.declared.error.kind.ErrorKind.TheVariants.{ArgumentConflict, DisplayHelp, DisplayVersion, OutOfMemory}
use Rattle.clap.proofs.OnLiterals.{clap_on_literals}
use Rattle.cops_command_line.specs.declared.job.Job.{Job}
use Rattle.cops_command_line.specs.declared.fault.LineFault.{LineFault}
use Rattle.cops_command_line.specs.declared.fault.LineFault.TheVariants.{Memory, Usage, Help, Version}
use Rattle.cops_command_line.specs.Commands.{cops_app}
use Rattle.cops_command_line.specs.Line.{IsJobIn, HasNoJobIn, IsRead, AsksFor, OnlyAsksFor, Requests, RequestsNone, Explains, Reports}

-- `clap`'s contracts state the matches and the faults of this command
pub simple_command : is_simple_and_free cops_app ≡ true
unfolding cops_app clap_on_literals
simple_command = refl

first_true : (a b : Bool) → (a && b) ≡ true → a ≡ true
first_true true b both = refl
first_true false b both = both

pub simple_matches : is_simple cops_app ≡ true
simple_matches = first_true (is_simple cops_app) (is_free_app (built cops_app)) simple_command

-- words that are not empty ask for what they read as
pub requested : (words : List Text) (job : Job) → 0 < length words → IsRead words job → Requests words job
requested [] job some read = absurd (omega arith)
requested (w ∷ ws) job some read = read

pub untold : (words : List Text) → 0 < length words → ((job : Job) → ¬ IsRead words job) → RequestsNone words
untold [] some none = absurd (omega arith)
untold (w ∷ ws) some none = none

-- a command that took the words read them as the job of the subcommand that it found
pub read_as_met : (words : List Text) (app : App) (met : Option (Text × List Row)) (job : Job) → app ≡ cops_app → (is_simple_and_free app ≡ true → fault_of app words ≡ [])
    → (is_simple app ≡ true → met ≡ subcommand_of app words) → IsJobIn met job → IsRead words job
read_as_met words app met job same kinds matches is =
    let Reads : App → Type 0 = λ a. (is_simple_and_free a ≡ true → fault_of a words ≡ []) × (is_simple a ≡ true → met ≡ subcommand_of a words) in
    let reads = subst Reads same (kinds, matches) in
    let Is : Option (Text × List Row) → Type 0 = λ m. IsJobIn m job in
    (reads.0 simple_command, subst Is (reads.1 simple_matches) is)

-- where it found none, the words read as no job
pub not_read : (words : List Text) (app : App) (met : Option (Text × List Row)) → app ≡ cops_app
    → (is_simple app ≡ true → met ≡ subcommand_of app words) → HasNoJobIn met → (job : Job) → ¬ IsRead words job
not_read words app met same matches none job read =
    let Reads : App → Type 0 = λ a. is_simple a ≡ true → met ≡ subcommand_of a words in
    let reads = subst Reads same matches in
    let Is : Option (Text × List Row) → Type 0 = λ m. IsJobIn m job in
    none job (subst Is (sym (reads simple_matches)) read.1)

-- words at which the command has a fault read as no job
pub faulty_words : (words : List Text) (kind : ErrorKind) → IsAmong kind (fault_of cops_app words) → (job : Job) → ¬ IsRead words job
faulty_words words kind among job read = subst (IsAmong kind) read.0 among

-- another kind is no answer to words that only ask for one
pub other_kind : (words : List Text) (asked : ErrorKind) (kind : ErrorKind) → AsksFor kind words → kind ≢ asked → ¬ OnlyAsksFor asked words
other_kind words asked kind among other only = ⊎_elim other (λ none. none) (subst (IsAmong kind) only among)

-- words that were taken ask for no text
pub asks_for_none : (words : List Text) (asked : ErrorKind) (app : App) → app ≡ cops_app → (is_simple_and_free app ≡ true → fault_of app words ≡ []) → ¬ OnlyAsksFor asked words
asks_for_none words asked app same kinds only =
    let Taken : App → Type 0 = λ a. is_simple_and_free a ≡ true → fault_of a words ≡ [] in
    let none = subst Taken same kinds simple_command in cc

-- words that were taken, and are no job, get a usage
pub refused : (words : List Text) (fault : LineFault) → Reports ArgumentConflict fault → RequestsNone words → ¬ OnlyAsksFor DisplayHelp words → ¬ OnlyAsksFor DisplayVersion words → Explains words fault
refused words Memory report none help version = tt
refused words (Usage text) report none help version = (none, help, version)
refused words (Help text) report none help version = absurd cc
refused words (Version text) report none help version = absurd cc

-- an error of the parser explains itself
pub explained : (words : List Text) (app : App) (kind : ErrorKind) (fault : LineFault) → 0 < length words → app ≡ cops_app
    → (is_simple_and_free app ≡ true → (kind ≡ OutOfMemory) ⊎ IsAmong kind (fault_of app words)) → Reports kind fault → Explains words fault
explained words app kind fault some same kinds report = go fault report
  where
    at_app : App → Type 0
    at_app = λ a. is_simple_and_free a ≡ true → (kind ≡ OutOfMemory) ⊎ IsAmong kind (fault_of a words)

    why : (kind ≡ OutOfMemory) ⊎ IsAmong kind (fault_of cops_app words)
    why = subst at_app same kinds simple_command

    go : (f : LineFault) → Reports kind f → Explains words f
    go Memory r = tt
    go (Usage text) r =
        let among : AsksFor kind words = ⊎_elim (λ m. absurd (r.0 m)) (λ a. a) why in
        (untold words some (faulty_words words kind among), other_kind words DisplayHelp kind among r.1, other_kind words DisplayVersion kind among r.2)
    go (Help text) r =
        let among : AsksFor DisplayHelp words = ⊎_elim (λ m. cc) (λ a. subst (λ k. AsksFor k words) r a) why in
        (untold words some (faulty_words words DisplayHelp among), among)
    go (Version text) r =
        let among : AsksFor DisplayVersion words = ⊎_elim (λ m. cc) (λ a. subst (λ k. AsksFor k words) r a) why in
        (untold words some (faulty_words words DisplayVersion among), among)

-- words that are not empty
pub some_words : (words : List (Bor Text)) → false ≡ (length words == 0) → 0 < length (map (λ s. s.now) words)
some_words [] e = absurd (true≢false (sym e))
some_words (w ∷ ws) e = omega arith
