-- A lag's two products are below 2^63 for tasks within their limits, so the lag, their difference, fits an i64.
use mathlib.Core.Path.{◌≡◌, refl, ap, ◌∙◌}
use Prim.Native.Nat.{ℕ, zero, suc, ◌-◌, ◌*◌, ◌^◌, ◌≤◌, ◌<◌}
use native.Mathlib.Decide.{dec_lt}
use native.Mathlib.Nat.{mul-le-mul}
use native.Mathlib.Omega.{arith}
use lib.IntN.{ℤ, pos, negsuc, neg_ℤ, ◌-ℤ◌}
use mir.Syntax.{w64}
use mir.Val.{SFits, to_z, of_z}
use mir.ValLaws.{to_z_pos, to_z-of_z}
use Rattle.rule.specs.Limits.{multiple_most}
use Rattle.rule.specs.Task.{lag}
use Rattle.rule.proofs.Lags.{counted}
use Rattle.rule.proofs.Signs.{difference_below, difference_above}
use Rattle.standing.specs.Sound.{Small}

pub difference_fits : (a b : ℕ) → a < 2 ^ 63 → b < 2 ^ 63 → SFits w64 (pos a -ℤ pos b)
difference_fits a b h g = go (dec_lt a b)
  where
    go : Dec (a < b) → SFits w64 (pos a -ℤ pos b)
    go (yes l) = rw (difference_below a b l) (record { sfits = omega arith })
    go (no n) = rw (difference_above a b (omega arith)) (record { sfits = omega arith })

pub lag_fits : (e p k t : ℕ) → e * t < 2 ^ 63 → p * k < 2 ^ 63 → SFits w64 (lag t (counted e p k))
unfolding lag
lag_fits e p k t h g = difference_fits (e * t) (p * k) h g

-- The products of the lag, and of the next one.
module _ {e p k t : ℕ} (small : Small e p k t) where
  pub due_fits : e * t < 2 ^ 63
  due_fits =
      let h : e ≤ 1048576 = omega arith in
      let g : t ≤ 16777215 = omega arith in
      omega (arith, mul-le-mul h g)

  pub next_due_fits : e * suc t < 2 ^ 63
  next_due_fits =
      let h : e ≤ 1048576 = omega arith in
      let g : suc t ≤ 16777216 = omega arith in
      omega (arith, mul-le-mul h g)

  pub done_fits : p * k < 2 ^ 63
  done_fits = omega (arith, mul-le-mul small.limit small.narrow)

-- ---- the words of the code, read as integers

pub word_is : {z y : ℤ} → SFits w64 y → z ≡ y → to_z w64 (of_z w64 z) ≡ y
word_is {z} {y} f q = ap (λ x. to_z w64 (of_z w64 x)) q ∙ to_z-of_z w64 y f

pub period_is : (p : ℕ) → p ≤ multiple_most → to_z w64 p ≡ pos p
period_is p h = to_z_pos w64 p (omega arith)

minus_is : (p : ℕ) → pos 0 -ℤ pos p ≡ neg_ℤ (pos p)
minus_is zero = refl
minus_is (suc p) = let q : suc p - 1 ≡ p = omega arith in difference_below 0 (suc p) (omega arith) ∙ ap negsuc q

pub minus_fits : (p : ℕ) → p ≤ multiple_most → SFits w64 (pos 0 -ℤ to_z w64 p)
minus_fits p h = rw (period_is p h) (difference_fits 0 p (omega arith) (omega arith))

pub minus_period_is : (p : ℕ) → p ≤ multiple_most → to_z w64 (of_z w64 (pos 0 -ℤ to_z w64 p)) ≡ neg_ℤ (pos p)
minus_period_is p h = to_z-of_z w64 _ (minus_fits p h) ∙ rw (period_is p h) (minus_is p)
