-- Document 01, "Frames": "big-endian".
use Rattle.std.specs.Prelude.{List, [], ◌∷◌, ℕ, zero, suc, ◌+◌, ◌*◌, ◌/◌, ◌%◌, ◌^◌}
use Rattle.rule.specs.Places.{at}

-- The number that w bytes from a place on stand for.
unfoldable pub field_at : (w : ℕ) → List ℕ → ℕ → ℕ
field_at zero bs i = 0
field_at (suc w) bs i = at bs i * 256 ^ w + field_at w bs (suc i)

-- A number in w bytes.
unfoldable pub field : (w : ℕ) → ℕ → List ℕ
field zero v = []
field (suc w) v = v / 256 ^ w % 256 ∷ field w v
