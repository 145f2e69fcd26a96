-- The sign of a difference of two numbers, and tests on it, as orders of the two numbers. ℤ's difference computes by
-- cases on which of the two is greater, so each law is those cases. Assumes nothing.
use mathlib.Core.Path.{◌≡◌, refl, sym, ◌∙◌}
use Prim.Native.Nat.{ℕ, zero, suc, ◌+◌, ◌-◌, ◌<◌, ◌≤◌}
use native.Mathlib.Decide.{dec_lt}
use native.Mathlib.Nat.{add-zero, sub-zero}
use native.Mathlib.Omega.{arith}
use lib.Dec.{ltb, leb}
use lib.IntN.{pos, negsuc, neg_ℤ, sub_ℕ, ◌-ℤ◌}
use lib.Signed.{lt_z, le_z}
use borrow.Author.Tests.{lt-ltb, le-ltb, le-leb, lt-leb}
use Rattle.rule.specs.declared.Symbol.{Symbol}
use Rattle.rule.specs.declared.Symbol.TheVariants.{Minus, Zero, Plus}
use Rattle.rule.specs.Task.{sign}
use Rattle.rule.proofs.Tests.{ltb_ext}

-- ---- the difference, where the first is below the second, and where it is not

minus : (a b : ℕ) → pos a -ℤ pos b ≡ sub_ℕ a b
minus a zero = simp (le-ltb a 0 (omega arith), add-zero, sub-zero)
minus a (suc b) = refl

pub difference_below : (a b : ℕ) → a < b → pos a -ℤ pos b ≡ negsuc (b - suc a)
difference_below a b h = minus a b ∙ simp (lt-ltb a b h)

pub difference_above : (a b : ℕ) → b ≤ a → pos a -ℤ pos b ≡ pos (a - b)
difference_above a b h = minus a b ∙ simp (le-ltb a b h)

-- ---- the sign of a difference says how the two compare

pub data Sign (a b : ℕ) : Symbol → Type 0 where
  is_minus_lem : a < b → Sign a b Minus
  is_zero : a ≡ b → Sign a b Zero
  is_plus_lem : b < a → Sign a b Plus

pub sign_of : (a b : ℕ) → Sign a b (sign (pos a -ℤ pos b))
unfolding sign
sign_of a b = go (dec_lt a b)
  where
    above : (n : ℕ) → n ≡ a - b → b ≤ a → Sign a b (sign (pos n))
    above zero e h = is_zero (omega arith)
    above (suc n) e h = is_plus_lem (omega arith)

    go : Dec (a < b) → Sign a b (sign (pos a -ℤ pos b))
    go (yes l) = rw (difference_below a b l) (is_minus_lem l)
    go (no n) = rw (difference_above a b (omega arith)) (above (a - b) refl (omega arith))

-- ---- a difference against a bound: strictly above -p, strictly below p, at most 0, at least p

module _ (a b p : ℕ) where
  pub above_minus : lt_z (neg_ℤ (pos p)) (pos a -ℤ pos b) ≡ ltb b (a + p)
  above_minus = go p (dec_lt a b)
    where
      go : (p : ℕ) → Dec (a < b) → lt_z (neg_ℤ (pos p)) (pos a -ℤ pos b) ≡ ltb b (a + p)
      go zero (yes l) = rw (difference_below a b l) (sym (le-ltb b (a + 0) (omega arith)))
      go zero (no n) = rw (difference_above a b (omega arith)) (ltb_ext 0 (a - b) b (a + 0) (λ h. omega arith) (λ h. omega arith))
      go (suc p) (yes l) =
          rw (difference_below a b l) (ltb_ext (b - suc a) p b (a + suc p) (λ h. omega arith) (λ h. omega arith))
      go (suc p) (no n) = rw (difference_above a b (omega arith)) (sym (lt-ltb b (a + suc p) (omega arith)))

  pub below_plus : lt_z (pos a -ℤ pos b) (pos p) ≡ ltb a (b + p)
  below_plus = go (dec_lt a b)
    where
      go : Dec (a < b) → lt_z (pos a -ℤ pos b) (pos p) ≡ ltb a (b + p)
      go (yes l) = rw (difference_below a b l) (sym (lt-ltb a (b + p) (omega arith)))
      go (no n) = rw (difference_above a b (omega arith)) (ltb_ext (a - b) p a (b + p) (λ h. omega arith) (λ h. omega arith))

pub at_most_zero : (a b : ℕ) → le_z (pos a -ℤ pos b) (pos 0) ≡ leb a b
at_most_zero a b = go (dec_lt a b)
  where
    go : Dec (a < b) → le_z (pos a -ℤ pos b) (pos 0) ≡ leb a b
    go (yes l) = rw (difference_below a b l) (sym (le-leb a b (omega arith)))
    go (no n) = rw (difference_above a b (omega arith)) (same (dec_lt b a))
      where
        same : Dec (b < a) → leb (a - b) 0 ≡ leb a b
        same (yes l) = lt-leb (a - b) 0 (omega arith) ∙ sym (lt-leb a b l)
        same (no m) = le-leb (a - b) 0 (omega arith) ∙ sym (le-leb a b (omega arith))

pub at_least : (a b p : ℕ) → 0 < p → le_z (pos p) (pos a -ℤ pos b) ≡ leb (b + p) a
at_least a b p h = go (dec_lt a b)
  where
    go : Dec (a < b) → le_z (pos p) (pos a -ℤ pos b) ≡ leb (b + p) a
    go (yes l) = rw (difference_below a b l) (sym (lt-leb (b + p) a (omega arith)))
    go (no n) = rw (difference_above a b (omega arith)) (same (dec_lt a (b + p)))
      where
        same : Dec (a < b + p) → leb p (a - b) ≡ leb (b + p) a
        same (yes l) = lt-leb p (a - b) (omega arith) ∙ sym (lt-leb (b + p) a l)
        same (no m) = le-leb p (a - b) (omega arith) ∙ sym (le-leb (b + p) a (omega arith))
