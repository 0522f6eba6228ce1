use Rattle.std.proofs.Common.{◌≡◌, replicate, map, []}
use Rattle.cops_core.specs.Parts.{AreWidest}
use Rattle.cops_core.proofs.client_contexts.ClientContexts.new.Given as goal

abbrev pub invariant-loop : goal.invariant-loop
invariant-loop l = (map (λ c. c.pairs) l.contexts.items ≡ replicate l.counter []) × AreWidest l.contexts.items
