-- Fields: as many bytes as the width says, each below 256, and past the fourth every byte of a number of 32 bits is 0. Assumes nothing.
use mathlib.Core.Path.{◌≡◌, refl, sym, ap, ◌∙◌}
use mathlib.Core.List.{List, [], ◌∷◌}
use Prim.Native.Nat.{ℕ, zero, suc, ◌+◌, ◌*◌, ◌/◌, ◌%◌, ◌^◌, ◌<◌, ◌≤◌}
use native.Mathlib.Nat.{div-eq_of_lt, pow-le-pow_right}
use native.Mathlib.Numerals.{add-one}
use native.Mathlib.Omega.{arith}
use lib.ListN.{length}
use lib.Seq.{sets}
use Rattle.std.specs.Prelude.{slice_get, unwrap_or}
use Rattle.std.specs.Int.{w32, to_le_bytes}
use Rattle.rule.specs.Places.{at}
use Rattle.digits.specs.Digits.{bytes_of, digits_of}
use Rattle.digits.specs.Fields.{field_at, field}
use Rattle.digits.proofs.Bytes.{byte_past}

pub length_field : (w v : ℕ) → length (field w v) ≡ w
unfolding field
length_field zero v = refl
length_field (suc w) v = ap suc (length_field w v)

-- Each byte of a field is below 256.
pub field_below : (w v i : ℕ) → at (field w v) i < 256
unfolding field
field_below zero v i = omega arith
field_below (suc w) v zero = omega arith
field_below (suc w) v (suc i) = field_below w v i

-- Past the fourth byte of a number of 32 bits every byte is 0.
pub past_fourth : (v w : ℕ) → v < 2 ^ 32 → 4 ≤ w → v / 256 ^ w % 256 ≡ 0
past_fourth v w h m =
    let wide : 256 ^ 4 ≤ 256 ^ w = pow-le-pow_right (omega arith) m in
    rw (div-eq_of_lt {n = v} {m = 256 ^ w} (omega arith))

-- Of the four bytes with the lowest first, the one at place w has w bytes after it.
pub byte_after : (v w : ℕ) → v < 2 ^ 32 → unwrap_or (slice_get (to_le_bytes w32 v) w) 0 ≡ v / 256 ^ w % 256
byte_after v zero h = omega arith
byte_after v (suc zero) h = refl
byte_after v (suc (suc zero)) h = refl
byte_after v (suc (suc (suc zero))) h = refl
byte_after v (suc (suc (suc (suc w)))) h = sym (past_fourth v (suc (suc (suc (suc w)))) h (omega arith))

-- The first byte of a field is stored, and then the others two places on.
pub field_stored : (l : List ℕ) (i w v : ℕ)
    → sets (sets l i (digits_of (v / 256 ^ w % 256 ∷ []))) (i + 2) (digits_of (field w v)) ≡ sets l i (digits_of (field (suc w) v))
unfolding digits_of field
field_stored l i w v = let two : i + 2 ≡ suc (suc i) = omega arith in rw two

-- ---- a field of two bytes

-- It is the first byte times 256 and the second.
pub pair : (bs : List ℕ) (i : ℕ) → field_at 2 bs i ≡ at bs i * 256 + at bs (i + 1)
unfolding field_at
pair bs i = rw add-one (omega arith)

-- Past a line's last byte it is 0.
pub pair_past : (line : List ℕ) (i : ℕ) → length line / 2 ≤ i → field_at 2 (bytes_of line) i ≡ 0
pair_past line i h = pair (bytes_of line) i ∙ rw (byte_past line i h, byte_past line (i + 1) (omega arith))
