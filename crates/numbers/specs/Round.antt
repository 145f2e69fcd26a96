-- Quotients rounded up; rounded down they are `◌/◌`. Assumes nothing.
use Rattle.std.specs.Prelude.{ℕ, ◌+◌, ◌-◌, ◌/◌}

unfoldable pub round_up : ℕ → ℕ → ℕ
round_up a b = (a + (b - 1)) / b
