-- Least common multiple of two numbers, of a list, and under a limit. Assumes nothing.
use Rattle.std.specs.Prelude.{Option, Some, None, cond, List, [], ◌∷◌, ℕ, ◌*◌, ◌/◌, ◌<◌, leb, length, get_or}
use Rattle.std.specs.Int.{◌∣◌}
use Rattle.numbers.specs.Divide.{gcd}

unfoldable pub lcm : ℕ → ℕ → ℕ
lcm a b = a / gcd a b * b

-- The least common multiple of all numbers of a list; 1 for none.
unfoldable pub lcm_all : List ℕ → ℕ
lcm_all [] = 1
lcm_all (p ∷ ps) = lcm p (lcm_all ps)

-- Which number it is: all divide it, and it divides every number that all divide.
pub record IsLcmAll (ps : List ℕ) (l : ℕ) : Type 0 where
  pub multiple : (i : ℕ) → i < length ps → get_or ps i 0 ∣ l
  pub least : (m : ℕ) → ((i : ℕ) → i < length ps → get_or ps i 0 ∣ m) → l ∣ m

-- The number where it is at most `most`, and nothing where it is above.
abbrev pub within : ℕ → ℕ → Option ℕ
within most l = cond (leb l most) (Some l) None
