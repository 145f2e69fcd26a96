-- How a field stands in lists: below n the tasks' own numbers, at n the spare's.
use Rattle.rule.specs.declared.Weight.{Weight}
use Rattle.std.specs.Prelude.{cond, ℕ, suc, ltb, None, Option, Some}

-- What place i of a field has: the task's own below n, the spare's at n.
unfoldable pub placed : (n : ℕ) → (ℕ → ℕ) → ℕ → ℕ → ℕ
placed n task spares i = cond (ltb i n) (task i) spares

-- The spare's requirement and period; of no matter where there is none.
unfoldable pub requirement_of : Option Weight → ℕ
requirement_of None = 0
requirement_of (Some w) = w.e

unfoldable pub period_of : Option Weight → ℕ
period_of None = 0
period_of (Some w) = w.p

-- How many places a field has.
unfoldable pub places_of : Option Weight → ℕ → ℕ
places_of None n = n
places_of (Some w) n = suc n
