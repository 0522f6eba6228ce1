-- The program's command, as far as it decides how words are read.
use Rattle.std.specs.Prelude.{ℕ, codes, pos, true, [], Some}
use Rattle.clap.specs.Words.{App, Rule, Text, new_app, new_rule, with_rule, with_subcommand}
use Rattle.clap.specs.Simple.{new_shape}
use Rattle.clap.specs.declared.builder.action.ArgAction.TheVariants.{Set, SetTrue}
use Rattle.clap.specs.declared.builder.value_parser.ValueParser.{ValueParser}
use Rattle.clap.specs.declared.builder.value_parser.ValueParser.TheVariants as parser
use Rattle.cops_types.specs.declared.limits.TheConstants.{MAX_OPS, MAX_WORKERS}
use Rattle.cops_command_line.specs.declared.job.TheConstants.{MAX_PORT, MAX_SESSIONS, MAX_IDLE}

-- an argument that takes one word
abbrev pub taking : Text → Rule
taking id = record (new_rule id) { action = Some Set; value_names = 1 }

-- one that is required, and stands in its place
abbrev pub positional : Text → Rule
positional id = record (taking id) { required = true }

-- an option that takes one word, and may be left out
abbrev pub value_option : Text → Rule
value_option id = record (taking id) { long = Some id }

-- the numbers from 1 to the most
abbrev pub numbers_to : ℕ → ValueParser
numbers_to most = parser.Signed (pos 1) (pos most)

-- an option that takes a number from 1 to the most, and may be left out
abbrev pub number_option : Text → ℕ → Rule
number_option id most = record (value_option id) { parser = Some (numbers_to most) }

-- an option that takes no value, and may be left out
abbrev pub flag_option : Text → Rule
flag_option id = record (new_rule id) { long = Some id; action = Some SetTrue }

-- `--workers N`, which may be left out and takes a number from 1 to 64
abbrev pub workers_option : Rule
workers_option = number_option (codes "workers") MAX_WORKERS

-- `--so-far`, which may be left out and takes no value
abbrev pub so_far_option : Rule
so_far_option = flag_option (codes "so-far")

-- `--all`, which may be left out and takes no value
abbrev pub all_option : Rule
all_option = flag_option (codes "all")

-- `--fault N`, which may be left out and takes a number from 1 to 16,000,000
abbrev pub fault_option : Rule
fault_option = number_option (codes "fault") MAX_OPS

-- `--picture FILE`, which may be left out
abbrev pub picture_option : Rule
picture_option = value_option (codes "picture")

-- `--json`, which may be left out and takes no value
abbrev pub json_option : Rule
json_option = flag_option (codes "json")

-- `--rank`, which may be left out and takes no value
abbrev pub rank_option : Rule
rank_option = flag_option (codes "rank")

-- `--follow`, which may be left out and takes no value
abbrev pub follow_option : Rule
follow_option = flag_option (codes "follow")

-- `--format N`, which may be left out and takes 1 or 2
abbrev pub format_option : Rule
format_option = number_option (codes "format") 2

-- `PORT`, which is required, and is a number from 1 to 65,535
abbrev pub port_argument : Rule
port_argument = record (positional (codes "port")) { parser = Some (numbers_to MAX_PORT) }

-- `--sessions N`, which may be left out and takes a number from 1 to 65,535
abbrev pub sessions_option : Rule
sessions_option = number_option (codes "sessions") MAX_SESSIONS

-- `--idle SECONDS`, which may be left out and takes a number from 1 to 65,535
abbrev pub idle_option : Rule
idle_option = number_option (codes "idle") MAX_IDLE

-- `--trace FILE`, which may be left out
abbrev pub trace_option : Rule
trace_option = value_option (codes "trace")

-- `--announce`, which may be left out and takes no value
abbrev pub announce_option : Rule
announce_option = flag_option (codes "announce")

-- `audit TRACE`, with `--workers N` or without it, and with `--so-far` or without it
abbrev pub audit_app : App
audit_app = with_rule (with_rule (with_rule (new_app (codes "audit")) (positional (codes "trace"))) workers_option) so_far_option

-- a subcommand that explains, with `--all`, `--fault N`, `--picture FILE` and `--json` or without them
abbrev pub explaining : App → App
explaining app = with_rule (with_rule (with_rule (with_rule app all_option) fault_option) picture_option) json_option

-- `explain TRACE`
abbrev pub explain_app : App
explain_app = explaining (with_rule (new_app (codes "explain")) (positional (codes "trace")))

-- `check LINES`, with `--rank` and `--follow` or without them
abbrev pub check_app : App
check_app = with_rule (with_rule (explaining (with_rule (new_app (codes "check")) (positional (codes "lines")))) rank_option) follow_option

-- `show TRACE`
abbrev pub show_app : App
show_app = with_rule (new_app (codes "show")) (positional (codes "trace"))

-- `import LINES TRACE`, with `--format N` and `--rank` or without them
abbrev pub import_app : App
import_app =
    with_rule (with_rule (with_rule (with_rule (new_app (codes "import")) (positional (codes "lines"))) (positional (codes "trace"))) format_option) rank_option

-- `convert TRACE NEW`
abbrev pub convert_app : App
convert_app = with_rule (with_rule (new_app (codes "convert")) (positional (codes "trace"))) (positional (codes "new"))

-- `run SCENARIO TRACE`
abbrev pub run_app : App
run_app = with_rule (with_rule (new_app (codes "run")) (positional (codes "scenario"))) (positional (codes "trace"))

-- `serve PORT SCENARIO`
abbrev pub port_app : App
port_app = with_rule (with_rule (new_app (codes "serve")) port_argument) (positional (codes "scenario"))

-- with `--sessions N`, `--idle SECONDS`, `--trace FILE` and `--announce` or without them
abbrev pub serve_app : App
serve_app = with_rule (with_rule (with_rule (with_rule port_app sessions_option) idle_option) trace_option) announce_option

-- with a version, and with a required subcommand as the first of the words
abbrev pub versioned : App → App
versioned app = record {
  top = record (app.top) { no_binary_name = true; subcommand_required = true; has_version = true };
  subs = app.subs;
}

-- the words of a subcommand alone, or `--version`
abbrev pub cops_top : App
cops_top = record {
  top = record (new_shape (codes "cops")) { no_binary_name = true; subcommand_required = true; has_version = true };
  subs = [];
}

-- or a subcommand that judges a trace or lines
abbrev pub judging_app : App
judging_app = with_subcommand (with_subcommand (with_subcommand cops_top audit_app.top) explain_app.top) check_app.top

-- or one that shows a trace, imports one from lines or converts one
abbrev pub tracing_app : App
tracing_app = with_subcommand (with_subcommand (with_subcommand judging_app show_app.top) import_app.top) convert_app.top

-- one of the subcommands
unfoldable pub cops_app : App
cops_app = with_subcommand (with_subcommand tracing_app run_app.top) serve_app.top
