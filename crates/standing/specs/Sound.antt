-- What the parts of a judge may rely on: that refusals 1 to 7 do not hold, and so that a lag's products fit an i64.
use Rattle.std.specs.Prelude.{true, List, ◌≡◌, ℕ, suc, ◌≤◌, ◌<◌, length}
use Rattle.rule.specs.Limits.{tasks_most, multiple_most, time_most, bounded_by}
use Rattle.rule.specs.Places.{at}

-- A task within its limits, with a count that is a u32.
pub record Small (e p k t : ℕ) : Type 0 where
  pub some : 0 < e
  pub light : e < p
  pub limit : p ≤ multiple_most
  pub narrow : k ≤ 4294967295
  pub early : t ≤ time_most

-- The lists of a field of few tasks, each place within its limits, at a time of the calendar.
pub record Sound (es ps ks : List ℕ) (t : ℕ) : Type 0 where
  pub same : length ps ≡ length es
  pub least : length ks ≤ length es
  pub most : length es ≤ suc (length ks)
  pub few : length ks ≤ tasks_most
  pub bounded : (i : ℕ) → i < length es → bounded_by multiple_most (at es i) (at ps i) ≡ true
  pub early : t ≤ time_most
