use Rattle.std.proofs.Common.{ap, ◌∙◌}
use Rattle.cops_types.specs.Slots.{shown, shown_by}
use Rattle.cops_types.proofs.Showing.{map-none}
use Rattle.cops_types.proofs.entries.Entries.new.Goals as goal

pub returns-clause-entries : goal.returns-clause-entries
returns-clause-entries c =
    ap (shown_by c.new-2.result.items c.new-3.result.items) c.in_ok-slots.ensures ∙ map-none (shown c.new-2.result.items c.new-3.result.items) c.args.clients
