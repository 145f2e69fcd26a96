-- What the plain engine answers, for every input.
use Rattle.std.specs.Prelude.{Bool, cond, ◌&&◌, ℕ, ◌<◌, ◌≤◌, leb}
use Rattle.rule.specs.declared.Order.{Order}
use Rattle.rule.specs.declared.Order.TheVariants.{Tie}
use Rattle.rule.specs.Limits.{multiple_most, time_most, bounded_by}
use Rattle.rule.specs.Task.{compare}

-- The period is from 2 to `most`, and the requirement from 1 to p - 1.
pub record Bounds (most e p : ℕ) : Type 0 where
  pub some : 0 < e
  pub light : e < p
  pub small : p ≤ most

-- A task that the engine takes. Its period may be as large as L, since a spare's is.
abbrev pub takes : ℕ → ℕ → Bool
takes e p = bounded_by multiple_most e p

-- The order of two tasks by their strings at t, and a tie where the engine does not take them.
unfoldable pub engine : (e p e' p' t : ℕ) → Order
engine e p e' p' t = cond (takes e p && takes e' p' && leb t time_most) (compare t e p e' p') Tie
