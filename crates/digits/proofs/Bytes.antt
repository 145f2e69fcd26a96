-- The bytes of a line: two digits a byte, so that there are half as many, each below 256 where all are digits, and the bytes of the
-- digits of bytes are those bytes. Assumes nothing.
use mathlib.Core.Path.{◌≡◌, refl}
use mathlib.Core.Bool.{true, ◌&&◌}
use mathlib.Core.List.{List, [], ◌∷◌}
use Prim.Native.Nat.{ℕ, zero, suc, ◌+◌, ◌*◌, ◌/◌, ◌%◌, ◌<◌, ◌≤◌}
use native.Mathlib.Omega.{arith}
use lib.ListN.{length, get_or, get_or-eq_default}
use Rattle.std.specs.Simd.{first_chunks}
use Rattle.rule.specs.Places.{at}
use Rattle.rule.proofs.Tests.{both_true}
use Rattle.digits.specs.Digits.{is_digit, digit_value, all_digits, bytes_of, digits_of}
use Rattle.digits.proofs.Digits.{is_digit_of, value_of_digit, digit_below}

pub length_bytes : (line : List ℕ) → length (bytes_of line) ≡ length line / 2
unfolding bytes_of
length_bytes [] = refl
length_bytes (h ∷ []) = refl
length_bytes (h ∷ l ∷ cs) = let more = length_bytes cs in omega arith

-- ---- the byte at a place

-- Below half the length the byte has the two digits that stand side by side there.
pub byte_here : (line : List ℕ) (i : ℕ) → i < length line / 2
    → at (bytes_of line) i ≡ digit_value (at line (2 * i)) * 16 + digit_value (at line (2 * i + 1))
unfolding bytes_of
byte_here [] i h = absurd (omega arith)
byte_here (x ∷ []) i h = absurd (omega arith)
byte_here (x ∷ y ∷ cs) zero h = refl
byte_here (x ∷ y ∷ cs) (suc i) h =
    let first : 2 * suc i ≡ suc (suc (2 * i)) = omega arith in
    let second : suc (suc (2 * i)) + 1 ≡ suc (suc (2 * i + 1)) = omega arith in
    rw (first, second) (byte_here cs i (omega arith))

-- Of the line cut into pairs, the pair at a place has the digits of the byte there.
pub byte_of_pair : (line : List ℕ) (k i : ℕ) (pair : List ℕ) → 2 * k ≤ length line → i < k → pair ≡ get_or (first_chunks 2 k line) i pair
    → at (bytes_of line) i ≡ digit_value (at pair 0) * 16 + digit_value (at pair 1)
unfolding bytes_of
byte_of_pair line zero i pair n h e = absurd (omega arith)
byte_of_pair [] (suc k) i pair n h e = absurd (omega arith)
byte_of_pair (x ∷ []) (suc k) i pair n h e = absurd (omega arith)
byte_of_pair (x ∷ y ∷ cs) (suc k) zero pair n h e = rw e
byte_of_pair (x ∷ y ∷ cs) (suc k) (suc i) pair n h e = byte_of_pair cs k i pair (omega arith) (omega arith) e

pub byte_past : (line : List ℕ) (i : ℕ) → length line / 2 ≤ i → at (bytes_of line) i ≡ 0
byte_past line i h = get_or-eq_default (bytes_of line) 0 (let n = length_bytes line in omega arith)

-- ---- bytes below 256

pub bytes_below : (line : List ℕ) → all_digits line ≡ true → (i : ℕ) → at (bytes_of line) i < 256
unfolding all_digits bytes_of
bytes_below [] d i = omega arith
bytes_below (h ∷ []) d i = omega arith
bytes_below (h ∷ l ∷ cs) d zero =
    let first = both_true (is_digit h) (is_digit l && all_digits cs) d in
    let second = both_true (is_digit l) (all_digits cs) first.1 in
    let high = digit_below h first.0 in
    let low = digit_below l second.0 in
    omega arith
bytes_below (h ∷ l ∷ cs) d (suc i) =
    let first = both_true (is_digit h) (is_digit l && all_digits cs) d in
    let second = both_true (is_digit l) (all_digits cs) first.1 in
    bytes_below cs second.1 i

pub all_digits_of : (bs : List ℕ) → ((i : ℕ) → i < length bs → at bs i < 256) → all_digits (digits_of bs) ≡ true
unfolding all_digits digits_of
all_digits_of [] small = refl
all_digits_of (b ∷ bs) small =
    let here = small 0 (omega arith) in
    rw (
      is_digit_of (b / 16) (omega arith),
      is_digit_of (b % 16) (omega arith),
      all_digits_of bs (λ i h. small (suc i) (omega arith)),
    )

pub bytes_of_digits : (bs : List ℕ) → ((i : ℕ) → i < length bs → at bs i < 256) → bytes_of (digits_of bs) ≡ bs
unfolding bytes_of digits_of
bytes_of_digits [] small = refl
bytes_of_digits (b ∷ bs) small =
    let here = small 0 (omega arith) in
    let whole : b / 16 * 16 + b % 16 ≡ b = omega arith in
    rw (
      value_of_digit (b / 16) (omega arith),
      value_of_digit (b % 16) (omega arith),
      whole,
      bytes_of_digits bs (λ i h. small (suc i) (omega arith)),
    )
