use Rattle.std.proofs.Common.{ap}
use Rattle.std.specs.Option.{option_map}
use Rattle.cops_types.specs.Operations.{key_of}
use Rattle.cops_types.specs.Entries.{referred}
use Rattle.cops_types.proofs.Sources.{none_reported, key_numbered}
use Rattle.cops_types.proofs.history.History.key_number.Goals as goal

pub returns-in_err-get-clause-key : goal.returns-in_err-get-clause-key
returns-in_err-get-clause-key c =
    rw (c.from_residual.ensures, ← c.self.view_is) (ap (option_map key_of) (none_reported c.self.inside.keys.keys c.self.inside.entries.all c.args.name c.in_err-get.ensures.entry))

pub returns-clause-key : goal.returns-clause-key
returns-clause-key c =
    rw (← c.self.view_is) (key_numbered c.self.inside.keys.keys c.self.inside.entries.all c.args.name (referred c.in_ok-get.field-0) c.key.result c.self.invariant.sound c.in_ok-get.ensures.entry c.key.ensures)
