use Rattle.std.proofs.Common.{◌∙◌, ap}
use Rattle.cops_core.specs.Parts.{Puts}
use Rattle.cops_core.specs.World.{sent}
use Rattle.cops_core.proofs.Versions.{sent_lookup}
use Rattle.cops_core.proofs.issued.Issued.find.Goals as goal

pub returns : goal.returns
returns c =
    c.get.ensures.value
    ∙ sent_lookup c.args.version c.self.inside.puts.entries c.self.invariant
    ∙ ap (λ (p : Puts). sent p.puts c.args.version) c.self.view_is
