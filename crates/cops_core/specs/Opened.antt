-- The model of a world with its setting.
use Rattle.cops_core.specs.World.{IsReached, IsSetting, Setting, World, opening}

-- a world with its setting: the part that never changes, and the part that does
pub record AWorld : Type 0 where
  pub setting : Setting
  pub world : World

-- the world was opened, and then events happened
pub record IsReachedWorld (c : AWorld) : Type 0 where
  pub setting : IsSetting c.setting
  pub reached : IsReached c.setting c.world

-- a new world of this setting
abbrev pub opened_world : Setting → AWorld
opened_world s = record { setting = s; world = opening s }
