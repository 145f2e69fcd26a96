-- One digit: that of a number below 16 is a digit whose value is the number, and every digit's value is below 16. Digits of bytes in a
-- row: two a byte, in the bytes' order. Assumes nothing.
use mathlib.Core.Path.{◌≡◌, refl}
use mathlib.Core.Bool.{true, ◌&&◌}
use mathlib.Core.List.{List, [], ◌∷◌, ◌++◌}
use Prim.Native.Nat.{ℕ, suc, ◌*◌, ◌-◌, ◌<◌, ◌≤◌}
use native.Mathlib.Omega.{arith}
use lib.Dec.{leb}
use lib.ListN.{length, take, drop}
use lib.Seq.{drop-cons, take_all}
use Rattle.std.proofs.lemmas.Bool.Decides.{nat_tests}
use Rattle.rule.specs.Places.{at}
use Rattle.digits.specs.Digits.{is_digit, digit_value, digit_of, all_digits, digits_of}

-- Up to 9 the least digit decides, and above 9 only A to F are digits.
pub digit_low : (c : ℕ) → c ≤ 0x39 → is_digit c ≡ leb 0x30 c
digit_low c h = grind (arith, nat_tests)

pub digit_high : (c : ℕ) → 0x39 < c → is_digit c ≡ (leb 0x41 c && leb c 0x46)
digit_high c h = grind (arith, nat_tests)

pub is_digit_of : (v : ℕ) → v < 16 → is_digit (digit_of v) ≡ true
is_digit_of v h = grind (arith, nat_tests)

pub value_of_digit : (v : ℕ) → v < 16 → digit_value (digit_of v) ≡ v
value_of_digit v h = grind (arith, nat_tests)

pub digit_below : (c : ℕ) → is_digit c ≡ true → digit_value c < 16
digit_below c d = grind (arith, nat_tests)

-- ---- a line of digits

-- What is left of a line from place i on: the digit there, and the rest.
pub digits_from : (line : List ℕ) (i : ℕ) → i < length line → all_digits (drop i line) ≡ (is_digit (at line i) && all_digits (drop (suc i) line))
unfolding all_digits
digits_from line i h = rw (drop-cons line i 0 h)

pub length_digits : (bs : List ℕ) → length (digits_of bs) ≡ 2 * length bs
unfolding digits_of
length_digits [] = refl
length_digits (b ∷ bs) = let more = length_digits bs in omega arith

pub digits_append : (xs ys : List ℕ) → digits_of (xs ++ ys) ≡ digits_of xs ++ digits_of ys
unfolding digits_of
digits_append [] ys = refl
digits_append (x ∷ xs) ys = rw (digits_append xs ys)

-- The part of a line from its first character on is the line.
pub from_first : (line : List ℕ) → take (length line - 0) (drop 0 line) ≡ line
from_first line = take_all (length line - 0) line (omega arith)
