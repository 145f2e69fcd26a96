-- A task's share: "at every time each task has had e·t/p, rounded down or up".
use Rattle.std.specs.Prelude.{ℕ, ◌*◌, ◌/◌}
use Rattle.numbers.specs.Round.{round_up}

unfoldable pub share_down : ℕ → ℕ → ℕ → ℕ
share_down e p t = e * t / p

unfoldable pub share_up : ℕ → ℕ → ℕ → ℕ
share_up e p t = round_up (e * t) p
