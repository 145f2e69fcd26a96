-- Quotients rounded down and up, and remainders: each is between two products that differ by the divisor, and a common factor
-- taken off such products compares the quotients themselves.
use mathlib.Core.Path.{◌≡◌, sym, ◌∙◌}
use Prim.Native.Nat.{ℕ, suc, ◌+◌, ◌-◌, ◌*◌, ◌/◌, ◌%◌, ◌≤◌, ◌<◌, ◌∣◌}
use native.Mathlib.Nat.{div-add-mod, le_of_suc-le-suc, lt_of_mul-lt-mul_left, mod-add-mod, mod-eq_of_lt, mod-eq-sub-mod, mod-lt, mul-div_cancel', mul-suc}
use native.Mathlib.Omega.{arith}
use Rattle.numbers.specs.Round.{round_up}

pub le_of_products : (p a b : ℕ) → p * a < p * b + p → a ≤ b
le_of_products p a b h = le_of_suc-le-suc (lt_of_mul-lt-mul_left p {m = a} {n = suc b} (omega arith))

pub lt_of_products : (p a b : ℕ) → p * a < p * b → a < b
lt_of_products p a b = lt_of_mul-lt-mul_left p

pub round_up_least : (a b : ℕ) → 0 < b → (a ≤ b * round_up a b) × (b * round_up a b < a + b)
unfolding round_up
round_up_least a b pos = omega (arith, div-add-mod (a + (b - 1)) b, mod-lt (a + (b - 1)) pos)

pub round_up_exact : (a b : ℕ) → 0 < b → b ∣ a → round_up a b ≡ a / b
round_up_exact a b pos d =
    let whole = mul-div_cancel' b d in
    let least = round_up_least a b pos in
    let le = le_of_products b (round_up a b) (a / b) (omega arith) in
    let ge = le_of_products b (a / b) (round_up a b) (omega arith) in
    omega arith

pub down_and_remainder : (e p t : ℕ) → p * (e * t / p) + e * t % p ≡ e * t
down_and_remainder e p t = div-add-mod (e * t) p

module _ (e p : ℕ) (pos : 0 < p) where
  pub remainder_lt : (t : ℕ) → e * t % p < p
  remainder_lt t = mod-lt (e * t) pos

  pub down_greatest : (t : ℕ) → (p * (e * t / p) ≤ e * t) × (e * t < p * (e * t / p) + p)
  down_greatest t = omega (arith, down_and_remainder e p t, remainder_lt t)

  pub up_least : (t : ℕ) → (e * t ≤ p * round_up (e * t) p) × (p * round_up (e * t) p < e * t + p)
  up_least t = round_up_least (e * t) p pos

  pub down_le_up : (t : ℕ) → e * t / p ≤ round_up (e * t) p
  down_le_up t = le_of_products p (e * t / p) (round_up (e * t) p) (omega (arith, down_greatest t, up_least t))

  pub up_le_suc_down : (t : ℕ) → round_up (e * t) p ≤ suc (e * t / p)
  up_le_suc_down t = le_of_products p (round_up (e * t) p) (suc (e * t / p)) (omega (arith, down_greatest t, up_least t))

  pub down_le_next : (t : ℕ) → e * t / p ≤ e * suc t / p
  down_le_next t =
      le_of_products p (e * t / p) (e * suc t / p) (omega (arith, down_greatest t, down_greatest (suc t)))

  pub up_le_next : (t : ℕ) → round_up (e * t) p ≤ round_up (e * suc t) p
  up_le_next t =
      le_of_products p (round_up (e * t) p) (round_up (e * suc t) p) (omega (arith, up_least t, up_least (suc t)))

-- The next remainder, by one addition and at most one subtraction.
next_remainder : (e p i : ℕ) → e * suc i % p ≡ (e * i % p + e) % p
next_remainder e p i = rw (mul-suc e i) (sym (mod-add-mod (e * i) p e))

pub next_remainder_grows : (e p i : ℕ) → e * i % p + e < p → e * suc i % p ≡ e * i % p + e
next_remainder_grows e p i h = next_remainder e p i ∙ mod-eq_of_lt h

pub next_remainder_wraps : (e p i : ℕ) → e < p → p ≤ e * i % p + e → e * suc i % p ≡ e * i % p + e - p
next_remainder_wraps e p i light h =
    next_remainder e p i ∙ mod-eq-sub-mod h ∙ mod-eq_of_lt (omega (arith, mod-lt (e * i) {m = p} (omega arith)))
