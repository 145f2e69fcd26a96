-- A task's share of the slots up to u, e·u/p rounded down and rounded up, counted in grains of which a slot has g: what the
-- walk asks of such bounds follows from what a symbol says of the remainder. Assumes nothing.
use mathlib.Core.Path.{◌≡◌, ap, ◌∙◌}
use Prim.Native.Nat.{ℕ, suc, ◌+◌, ◌*◌, ◌/◌, ◌%◌, ◌≤◌, ◌<◌}
use native.Mathlib.Nat.{mul-le-mul_right, le_of_mul-le-mul_left, mul_left_comm, mul-div_cancel_left, dvd-mul_right}
use native.Mathlib.Omega.{arith}
use Rattle.numbers.proofs.Quotient.{le_of_products, down_and_remainder, down_greatest, up_least, up_le_suc_down, up_le_next, round_up_exact}
use Rattle.rule.specs.Task.{symbol}
use Rattle.rule.proofs.Symbols.{symbol_by_remainder, minus_below, plus_above, not_minus_above, not_plus_below}
use Rattle.fair.specs.Share.{share_down, share_up}
use Rattle.fair.proofs.Walk.{Shape, Line}

module _ (e p : ℕ) (some : 0 < p) where
  module _ (u : ℕ) where
    pub down_bounds : (p * share_down e p u ≤ e * u) × (e * u < p * share_down e p u + p)
    unfolding share_down
    down_bounds = down_greatest e p some u

    pub up_bounds : (e * u ≤ p * share_up e p u) × (p * share_up e p u < e * u + p)
    unfolding share_up
    up_bounds = up_least e p some u

    pub up_near_down : share_up e p u ≤ suc (share_down e p u)
    unfolding share_up share_down
    up_near_down = up_le_suc_down e p some u

    pub up_grows : share_up e p u ≤ share_up e p (suc u)
    unfolding share_up
    up_grows = up_le_next e p some u

    remainder : p * share_down e p u + e * u % p ≡ e * u
    unfolding share_down
    remainder = down_and_remainder e p u

  pub shape : (g : ℕ) → e < p → Shape g (λ u. share_down e p u * g) (λ u. share_up e p u * g) (symbol e p)
  shape g light =
      record {
        low_step = λ u. plus_slot (share_down e p (suc u)) (share_down e p u) (le_of_products p (share_down e p (suc u)) (share_down e p u + 1) (omega (arith, down_bounds u, down_bounds (suc u))));
        high_grows = λ u. mul-le-mul_right g (up_grows u);
        minus_low = λ u s.
            mul-le-mul_right g
            (le_of_products p (share_down e p (suc u)) (share_down e p u)
            (omega (arith, remainder u, down_bounds (suc u), minus_below (symbol_by_remainder e p u) s)));
        plus_high = λ u s.
            slot_plus (share_up e p u) (share_up e p (suc u))
            (le_of_products p (share_up e p u + 1) (share_up e p (suc u))
            (omega (arith, remainder u, up_bounds (suc u), plus_above (symbol_by_remainder e p u) s, mul-le-mul_right p (up_near_down u))));
        not_plus_high = λ u s.
            plus_slot (share_up e p (suc u)) (share_down e p u)
            (le_of_products p (share_up e p (suc u)) (share_down e p u + 1)
            (omega (arith, remainder u, up_bounds (suc u), not_plus_below (symbol_by_remainder e p u) s)));
        not_minus_low = λ u s.
            mul-le-mul_right g
            (le_of_products p (share_up e p u) (share_down e p (suc u))
            (omega (arith, remainder u, down_bounds (suc u), not_minus_above (symbol_by_remainder e p u) s, mul-le-mul_right p (up_near_down u))));
      }
    where
      plus_slot : (a b : ℕ) → a ≤ b + 1 → a * g ≤ b * g + g
      plus_slot a b h = omega (arith, mul-le-mul_right g h)

      slot_plus : (a b : ℕ) → a + 1 ≤ b → a * g + g ≤ b * g
      slot_plus a b h = omega (arith, mul-le-mul_right g h)

  -- A task that takes w grains in every slot, evenly, keeps within its share.
  pub even : (g w : ℕ) → e < p → p * w ≡ e * g → Line g 0 (λ u. share_down e p u * g) (λ u. share_up e p u * g) (λ u. w * u)
  even g w light q =
      record {
        grows = λ u l. omega arith;
        slow = λ u l. omega (arith, at_most);
        above = λ u l. times (share_down e p u * g) (w * u) (omega (arith, mul-le-mul_right g (down_bounds u).0, ap (λ x. x * u) q));
        below = λ u l. times (w * u) (share_up e p u * g) (omega (arith, mul-le-mul_right g (up_bounds u).0, ap (λ x. x * u) q));
      }
    where
      times : (a b : ℕ) → p * a ≤ p * b → a ≤ b
      times a b h = le_of_mul-le-mul_left h (omega arith)

      at_most : w ≤ g
      at_most = let h : e ≤ p = omega arith in times w g (omega (arith, mul-le-mul_right g h))

-- At the end of a period the share is whole: e·j.
pub share_whole : (e p j : ℕ) → 0 < p → (share_down e p (p * j) ≡ e * j) × (share_up e p (p * j) ≡ e * j)
unfolding share_down share_up
share_whole e p j some =
    let q = mul_left_comm e p j in
    let d : e * (p * j) / p ≡ e * j = ap (λ x. x / p) q ∙ mul-div_cancel_left (e * j) some in
    (d, round_up_exact (e * (p * j)) p some (rw q (dvd-mul_right p (e * j))) ∙ d)
