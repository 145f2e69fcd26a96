-- The sign of an integer by the code's tests; a difference of three numbers by the code's bits; and the numbers that make
-- up a symbol, all of which fit 63 bits since e·(i+1) does. Assumes nothing.
use mathlib.Core.Path.{◌≡◌, refl, sym, subst}
use mathlib.Core.Bool.{Bool, true, false, cond}
use Prim.Native.Nat.{ℕ, zero, suc, ◌+◌, ◌-◌, ◌*◌, ◌/◌, ◌<◌, ◌≤◌, ◌^◌}
use native.Mathlib.Nat.{mul-div-le, mul-le-mul}
use native.Mathlib.Numerals.{add-one}
use native.Mathlib.Decide.{dec_lt}
use native.Mathlib.Omega.{arith}
use lib.IntN.{ℤ, pos, negsuc, ◌-ℤ◌}
use lib.Signed.{lt_z}
use mir.Syntax.{w64}
use mir.Val.{Fits, SFits, to_z, of_z}
use mir.ValLaws.{to_z_pos, to_z-of_z}
use borrow.Author.Tests.{ltb-true}
use Rattle.rule.specs.declared.Symbol.TheVariants.{Minus, Zero, Plus}
use Rattle.rule.specs.Limits.{multiple_most}
use Rattle.rule.specs.Task.{sign, symbol}
use Rattle.order.specs.Engine.{Bounds}
use Rattle.rule.proofs.Signs.{difference_below, difference_above}

-- ---- the sign by tests

pub sign_minus : (z : ℤ) → lt_z z (pos 0) ≡ true → Minus ≡ sign z
unfolding sign
sign_minus (pos n) h = absurd (omega (arith, ltb-true n 0 h))
sign_minus (negsuc n) h = refl

pub sign_zero : (z : ℤ) → z ≡ pos 0 → Zero ≡ sign z
unfolding sign
sign_zero z q = rw q

pub sign_plus : (z : ℤ) → lt_z z (pos 0) ≡ false → (z ≡ pos 0 → ⊥) → Plus ≡ sign z
unfolding sign
sign_plus (pos zero) h n = absurd (n refl)
sign_plus (pos (suc m)) h n = refl
sign_plus (negsuc m) h n = absurd (subst (λ (t : Bool). cond t ⊥ Unit) (sym h) tt)

-- ---- the difference a - b - d by its bits, where only d can take it below zero

difference_fits : (a b : ℕ) → a < 2 ^ 63 → b < 2 ^ 63 → SFits w64 (pos a -ℤ pos b)
difference_fits a b h g = go (dec_lt a b)
  where
    go : Dec (a < b) → SFits w64 (pos a -ℤ pos b)
    go (yes l) = rw (difference_below a b l) (record { sfits = omega arith })
    go (no n) = rw (difference_above a b (omega arith)) (record { sfits = omega arith })

module _ (a b d : ℕ) (low : b ≤ a) (small : a < 2 ^ 63) (small' : d < 2 ^ 63) where
  abbrev first : ℤ
  first = to_z w64 a -ℤ to_z w64 b

  first_is : first ≡ pos (a - b)
  first_is = rw (to_z_pos w64 a small, to_z_pos w64 b (omega arith)) (difference_above a b low)

  pub first_fits : SFits w64 first
  first_fits = rw first_is (record { sfits = omega arith })

  abbrev whole : ℤ
  whole = to_z w64 (of_z w64 first) -ℤ to_z w64 d

  whole_is : whole ≡ pos (a - b) -ℤ pos d
  whole_is = rw (to_z-of_z w64 first first_fits, first_is, to_z_pos w64 d small')

  pub whole_fits : SFits w64 whole
  whole_fits = rw whole_is (difference_fits (a - b) d (omega arith) small')

  pub whole_difference : to_z w64 (of_z w64 whole) ≡ pos a -ℤ pos b -ℤ pos d
  whole_difference = rw (to_z-of_z w64 whole whole_fits, whole_is, ← difference_above a b low)

-- ---- the symbol's numbers

pub next_fits : (e p i : ℕ) → Bounds multiple_most e p → i < 2 ^ 32 → e * (i + 1) < 2 ^ 63
next_fits e p i b h =
    let light : e ≤ multiple_most = omega arith in
    let late : i + 1 ≤ 2 ^ 32 = omega arith in
    omega (arith, mul-le-mul light late)

pub floor_low : (p n a : ℕ) → n ≤ a → p * (n / p) ≤ a
floor_low p n a h = omega (arith, mul-div-le n p)

pub floor_fits : (p n : ℕ) → n < 2 ^ 63 → Fits w64 (p * (n / p))
floor_fits p n h = record { fits = omega (arith, mul-div-le n p) }

pub symbol_is : (e p i : ℕ) → sign (pos (e * (i + 1)) -ℤ pos (p * (e * i / p)) -ℤ pos p) ≡ symbol e p i
unfolding symbol
symbol_is e p i = rw add-one
