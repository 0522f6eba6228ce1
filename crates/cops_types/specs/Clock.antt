-- A node's clock.
use Rattle.std.specs.Prelude.{ℕ}

pub record AClock : Type 0 where
  pub clock : ℕ
  pub node : ℕ
