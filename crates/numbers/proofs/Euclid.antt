-- Euclid's rule finds the greatest common divisor, since each step keeps the common divisors of the two numbers and of their
-- multiples. A fraction whose parts are divided by it keeps its value, and is positive or below 1 where it was.
use mathlib.Core.Path.{◌≡◌, sym, ap, ◌∙◌}
use Prim.Native.Nat.{ℕ, zero, suc, ◌*◌, ◌/◌, ◌%◌, ◌<◌, ◌≤◌, ◌∣◌}
use native.Mathlib.Nat.{dvd_refl, dvd-zero, dvd-mod_iff, dvd-sub, dvd-mul_right, dvd-mul_right_of_dvd, pos_of_dvd_of_pos, div-mul_cancel, mul-div_cancel', div-le_self, lt_of_mul-lt-mul_right, mod-eq-sub-mul-div, mod-lt, mul_assoc, mul-sub, one-mul, zero-mul}
use native.Mathlib.Omega.{arith}
use Rattle.std.specs.Int.{IsGcd}
use Rattle.std.proofs.lemmas.Nat.Gcd.{IsGcd-from_mod, same_from_IsGcd}
use Rattle.numbers.specs.Divide.{euclid, gcd}

scaled_rest : (a b k d : ℕ) → d ∣ k * a → d ∣ k * b → d ∣ k * (a % b)
scaled_rest a b k d p q = rw (mod-eq-sub-mul-div, mul-sub, ← mul_assoc) (dvd-sub d p (dvd-mul_right_of_dvd d q (a / b)))

euclid_scaled : (n a b k d : ℕ) → d ∣ k * a → d ∣ k * b → d ∣ k * euclid n a b
unfolding euclid
euclid_scaled zero a b k d p q = p
euclid_scaled (suc n) a zero k d p q = p
euclid_scaled (suc n) a (suc b) k d p q = euclid_scaled n (suc b) (a % suc b) k d q (scaled_rest a (suc b) k d p q)

euclid_divides : (n a b : ℕ) → b < n → (euclid n a b ∣ a) × (euclid n a b ∣ b)
unfolding euclid
euclid_divides zero a b h = absurd (omega arith)
euclid_divides (suc n) a zero h = (dvd_refl a, dvd-zero a)
euclid_divides (suc n) a (suc b) h =
    let both = euclid_divides n (suc b) (a % suc b) (omega (arith, mod-lt a {m = suc b} (omega arith))) in
    ((dvd-mod_iff (euclid n (suc b) (a % suc b)) both.0).0 both.1, both.0)

pub gcd_scaled : (a b k d : ℕ) → d ∣ k * a → d ∣ k * b → d ∣ k * gcd a b
unfolding gcd
gcd_scaled a b = euclid_scaled (suc b) a b

pub gcd_is_gcd : (a b : ℕ) → IsGcd a b (gcd a b)
unfolding gcd
gcd_is_gcd a b =
    let both = euclid_divides (suc b) a b (omega arith) in
    (both.0, both.1, λ d p q. rw one-mul at (gcd_scaled a b 1 d (rw one-mul p) (rw one-mul q)))

pub gcd_one : {a b g g' : ℕ} → IsGcd a b g → IsGcd a b g' → g ≡ g'
gcd_one {a} {b} {g} {g'} = same_from_IsGcd a b g g'

-- By 0 the first number is the greatest common divisor.
pub gcd_zero : (a b : ℕ) → b ≡ 0 → gcd a b ≡ a
unfolding gcd euclid
gcd_zero a b e = rw e

-- A step of Euclid's rule keeps it.
pub gcd_step : (a b : ℕ) → gcd a b ≡ gcd b (a % b)
gcd_step a b = gcd_one (gcd_is_gcd a b) (IsGcd-from_mod a b (gcd b (a % b)) (gcd_is_gcd b (a % b)))

-- It is positive where one of the two numbers is.
pub gcd_pos_left : (a b : ℕ) → 0 < a → 0 < gcd a b
gcd_pos_left a b h = pos_of_dvd_of_pos (gcd_is_gcd a b).0 h

pub gcd_pos_right : (a b : ℕ) → 0 < b → 0 < gcd a b
gcd_pos_right a b h = pos_of_dvd_of_pos (gcd_is_gcd a b).1 h

part_pos : (a g : ℕ) → g ∣ a → 0 < a → 0 < a / g
part_pos a g d h = lt_of_mul-lt-mul_right g {m = 0} {n = a / g} (rw (zero-mul g, div-mul_cancel g d) h)

module _ (a b : ℕ) where
  pub lowest_same_value : a / gcd a b * b ≡ a * (b / gcd a b)
  lowest_same_value =
      let divides = gcd_is_gcd a b in
      let whole-a = div-mul_cancel (gcd a b) divides.0 in
      let whole-b = mul-div_cancel' (gcd a b) divides.1 in
      ap (λ x. a / gcd a b * x) (sym whole-b)
      ∙ sym (mul_assoc (a / gcd a b) (gcd a b) (b / gcd a b))
      ∙ ap (λ x. x * (b / gcd a b)) whole-a

  pub lowest_above_le : a / gcd a b ≤ a
  lowest_above_le = div-le_self a (gcd a b)

  pub lowest_below_le : b / gcd a b ≤ b
  lowest_below_le = div-le_self b (gcd a b)

  pub lowest_above_pos : 0 < a → 0 < a / gcd a b
  lowest_above_pos = part_pos a (gcd a b) (gcd_is_gcd a b).0

  pub lowest_below_pos : 0 < b → 0 < b / gcd a b
  lowest_below_pos = part_pos b (gcd a b) (gcd_is_gcd a b).1

  pub lowest_below_divides : b / gcd a b ∣ b
  lowest_below_divides = rw (div-mul_cancel (gcd a b) (gcd_is_gcd a b).1) at (dvd-mul_right (b / gcd a b) (gcd a b))

  pub lowest_lt : a < b → a / gcd a b < b / gcd a b
  lowest_lt h =
      let divides = gcd_is_gcd a b in
      lt_of_mul-lt-mul_right (gcd a b) (rw (div-mul_cancel (gcd a b) divides.0, div-mul_cancel (gcd a b) divides.1) h)
