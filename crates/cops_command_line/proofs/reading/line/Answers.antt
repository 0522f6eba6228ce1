use Rattle.std.proofs.Common.{List, map}
use Rattle.std.specs.Borrow.{Bor}
use Rattle.clap.specs.Words.{Text, app_of, kind_of, subcommand_rows_of}
use Rattle.clap.specs.declared.error.kind.ErrorKind.TheVariants.{DisplayHelp, DisplayVersion}
use Rattle.cops_command_line.proofs.LineLemmas.{asks_for_none, explained, not_read, read_as_met, refused, some_words, requested, untold}
use Rattle.cops_command_line.proofs.reading.line.Goals as goal

abbrev texts : List (Bor Text) → List Text
texts = map (λ s. s.now)

pub returns-in-Some-clause-job : goal.returns-in-Some-clause-job
returns-in-Some-clause-job c =
    let matches = c.in-Ok-try_get_matches_from.ensures.matches in
    requested (texts c.args.words.now) c.in-Some.job (some_words c.args.words.now c.if-is_empty.ensures)
    (read_as_met (texts c.args.words.now) (app_of c.in-Ok.command) (subcommand_rows_of c.in-Ok-try_get_matches_from.matches) c.in-Some.job c.in-Ok.ensures
    c.in-Ok-try_get_matches_from.ensures.kinds (λ s. (matches s).1) c.in-Some.ensures.some)

pub returns-in-Ok-try_get_matches_from-clause-fault : goal.returns-in-Ok-try_get_matches_from-clause-fault
returns-in-Ok-try_get_matches_from-clause-fault c =
    let matches = c.in-Ok-try_get_matches_from.ensures.matches in
    refused (texts c.args.words.now) c.no_job.result c.no_job.ensures
    (untold (texts c.args.words.now) (some_words c.args.words.now c.if-is_empty.ensures)
    (not_read (texts c.args.words.now) (app_of c.in-Ok.command) (subcommand_rows_of c.in-Ok-try_get_matches_from.matches) c.in-Ok.ensures
    (λ s. (matches s).1) c.in-None.ensures.none))
    (asks_for_none (texts c.args.words.now) DisplayHelp (app_of c.in-Ok.command) c.in-Ok.ensures c.in-Ok-try_get_matches_from.ensures.kinds)
    (asks_for_none (texts c.args.words.now) DisplayVersion (app_of c.in-Ok.command) c.in-Ok.ensures c.in-Ok-try_get_matches_from.ensures.kinds)

pub returns-clause-fault : goal.returns-clause-fault
returns-clause-fault c =
    explained (texts c.args.words.now) (app_of c.in-Ok.command) (kind_of c.in-Err.error) c.as_fault.result (some_words c.args.words.now c.if-is_empty.ensures) c.in-Ok.ensures
    c.in-Err.ensures.kinds c.as_fault.ensures
