-- Slots stored in blocks.
use Rattle.std.specs.Prelude.{◌≡◌, ◌≤◌, ◌++◌, List, length, Bool, All}
use Rattle.std.specs.Global.{Vec}
use Rattle.std.specs.List.{flat_map}
use Rattle.cops_types.specs.declared.slot.OpSlot.{OpSlot}
use Rattle.cops_types.specs.declared.limits.TheConstants.{MAX_CLIENT_OPS}

-- the slots in their order, and whether there is room for the next one
pub record KeptBlocks : Type 0 where
  pub items : List OpSlot
  pub room : Bool

-- the slots of these blocks
abbrev pub joined : List (Vec OpSlot) → List OpSlot
joined blocks = flat_map (λ b. b.items) blocks

-- each block but the last has 64 entries, and all blocks together have at most as many as a client may have
pub record AreBlocks (full : List (Vec OpSlot)) (last : List OpSlot) : Type 0 where
  pub size : All (λ b. length b.items ≡ 64) full
  pub few : length (joined full ++ last) ≤ MAX_CLIENT_OPS
