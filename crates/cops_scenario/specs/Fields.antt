-- The fields of a scenario's file.
use Rattle.std.specs.Prelude.{ℕ, List, Option, None, Some, codes, unwrap_or, option_and_then}
use Rattle.std.specs.Option.{option_map_or}
use Rattle.serde_json.specs.Data.{Data}
use Rattle.serde_json.specs.Find.{get, as_number, as_u64}
use Rattle.cops_scenario.specs.declared.fault.Field.{Field}
use Rattle.cops_scenario.specs.declared.fault.NumberRange.{NumberRange}
use Rattle.cops_scenario.specs.declared.fault.Field.TheVariants.{Root, Format as FormatField, DataCentres, Splits, Link, Turns, Retries, Repeat, Hold, Clients, Events}
use Rattle.cops_types.specs.declared.format.Format.{Format}
use Rattle.cops_types.specs.declared.format.Format.TheVariants.{One}
use Rattle.cops_types.specs.Format.{format_of_number}
use Rattle.cops_types.specs.declared.limits.TheConstants.{MAX_DCS}
use Rattle.cops_scenario.specs.declared.scenario.TheConstants.{DEFAULT_FORMAT, DEFAULT_HOLD, DEFAULT_LINK, DEFAULT_REPEAT, DEFAULT_RETRIES, DEFAULT_TURNS, MAX_FORMAT, MAX_HOLD, MAX_LINK, MAX_REPEAT, MAX_RETRIES, MAX_TURNS}

-- the names of the fields in a file
abbrev pub name_of : Field → List ℕ
name_of Root = codes "root"
name_of FormatField = codes "format"
name_of DataCentres = codes "data_centres"
name_of Splits = codes "splits"
name_of Link = codes "link"
name_of Turns = codes "turns"
name_of Retries = codes "retries"
name_of Repeat = codes "repeat"
name_of Hold = codes "hold"
name_of Clients = codes "clients"
name_of Events = codes "events"

-- the fields that are whole numbers, each with its range
abbrev pub range_of : Field → Option NumberRange
range_of FormatField = Some (record { least = 1; most = MAX_FORMAT; missing = Some DEFAULT_FORMAT })
range_of DataCentres = Some (record { least = 1; most = MAX_DCS; missing = None })
range_of Link = Some (record { least = 1; most = MAX_LINK; missing = Some DEFAULT_LINK })
range_of Turns = Some (record { least = 1; most = MAX_TURNS; missing = Some DEFAULT_TURNS })
range_of Retries = Some (record { least = 0; most = MAX_RETRIES; missing = Some DEFAULT_RETRIES })
range_of Repeat = Some (record { least = 0; most = MAX_REPEAT; missing = Some DEFAULT_REPEAT })
range_of Hold = Some (record { least = 0; most = MAX_HOLD; missing = Some DEFAULT_HOLD })
range_of _ = None

-- the whole number of a member, or the default if there is no member
abbrev pub number_or : ℕ → Option Data → ℕ
number_or missing None = missing
number_or missing (Some d) = unwrap_or (option_and_then as_u64 (as_number d)) 0

-- the default of a field, or 0 if it has none
abbrev pub missing_of : Field → ℕ
missing_of field = option_map_or (λ range. unwrap_or range.missing 0) (range_of field) 0

-- the whole number of a field of a file
abbrev pub number_at : Data → Field → ℕ
number_at root field = number_or (missing_of field) (get (name_of field) root)

-- the format of a file, if its number is that of one
abbrev pub format_at : Data → Format
format_at root = unwrap_or (format_of_number (number_at root FormatField)) One
