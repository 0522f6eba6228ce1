use Rattle.std.proofs.Common.{◌≡◌, ◌++◌, take, codes}
use Rattle.std.specs.Prelude.{string_bytes}
use Rattle.std.specs.List.{flat_map}
use Rattle.cops_wire.specs.Shown.{pair_text}
use Rattle.cops_wire.proofs.showing.push_pairs.Given as goal

abbrev pub invariant-loop-dep : goal.invariant-loop-dep
invariant-loop-dep l = string_bytes l.line ≡ string_bytes l.initial.line ++ flat_map (λ d. codes "," ++ pair_text d) (take l.dep-index l.others)
