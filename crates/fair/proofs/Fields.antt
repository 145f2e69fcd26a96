-- An accepted set is a set of tasks that fill M units, the spare among them, with L grains to the slot: each weight is e·L/p, the
-- spare's the room, and they add up to M·L. Assumes nothing.
use Rattle.std.specs.Prelude.{None, Option, Some}
use mathlib.Core.Path.{◌≡◌, refl, sym, ◌∙◌}
use mathlib.Core.List.{List}
use Prim.Native.Nat.{ℕ, ◌*◌, ◌/◌, ◌<◌}
use native.Mathlib.Nat.{mul_comm, mul-div_cancel', dvd-mul_left_of_dvd}
use native.Mathlib.Omega.{arith}
use lib.ListN.{length}
use Rattle.rule.specs.declared.Weight.{Weight}
use Rattle.rule.specs.Places.{at, sum}
use Rattle.rule.specs.Sets.{multiple, load, units_in_use, room, spare}
use Rattle.rule.proofs.Places.{sum_ext}
use Rattle.rule.specs.Layout.{placed}
use Rattle.rule.proofs.Placed.{placed_task, placed_spare, size, requirement_at, period_at, requirement_task, period_task, requirement_spare, period_spare, at_places, sum_places}
use Rattle.rule.proofs.Sets.{AcceptedSet}
use Rattle.fair.proofs.Plan.{Tasks}

module _ (es ps : List ℕ) where
  unfoldable pub weight_at : ℕ → ℕ
  weight_at = placed (length es) (λ i. at es i * multiple ps / at ps i) (room es ps)

  weight_task : (i : ℕ) → i < length es → weight_at i ≡ at es i * multiple ps / at ps i
  unfolding weight_at
  weight_task i l = placed_task (length es) (λ i. at es i * multiple ps / at ps i) (room es ps) i l

  weight_spare : weight_at (length es) ≡ room es ps
  unfolding weight_at
  weight_spare = placed_spare (length es) (λ i. at es i * multiple ps / at ps i) (room es ps)

  -- ---- an accepted set fills its units

  module _ (m : ℕ) (A : AcceptedSet es ps m) where
    full : (s : Option Weight) → spare es ps ≡ s → sum (size es ps) weight_at ≡ units_in_use es ps * multiple ps
    unfolding load
    full s q = go s q
      where
        tasks : sum (length es) weight_at ≡ load es ps
        tasks = sum_ext (length es) weight_at (λ i. at es i * multiple ps / at ps i) (λ i l. weight_task i l)

        go : (s : Option Weight) → spare es ps ≡ s → sum (size es ps) weight_at ≡ units_in_use es ps * multiple ps
        go None q = sym ((sum_places es ps weight_at).0 q) ∙ tasks ∙ A.no_spare q
        go (Some w) q = omega (arith, (sum_places es ps weight_at).1 w.e w.p q, tasks, weight_spare, A.load_and_room)

    pub fills : Tasks (size es ps) (units_in_use es ps) (multiple ps) (requirement_at es ps) (period_at es ps) weight_at
    fills =
        record {
          grains = A.multiple_pos;
          some =
              at_places es ps (λ i. 0 < requirement_at es ps i) (λ i l. rw (requirement_task es ps i l) (A.requirement_pos i l))
              (λ e p q. rw (requirement_spare es ps e p q) (A.spare_task e p q).requirement_pos);
          light =
              at_places es ps (λ i. requirement_at es ps i < period_at es ps i) (λ i l. rw (requirement_task es ps i l, period_task es ps i l) (A.requirement_lt i l))
              (λ e p q. rw (requirement_spare es ps e p q, period_spare es ps e p q) (A.spare_task e p q).requirement_lt);
          weight =
              at_places es ps (λ i. period_at es ps i * weight_at i ≡ requirement_at es ps i * multiple ps)
              (λ i l. rw (requirement_task es ps i l, period_task es ps i l, weight_task i l)
              (mul-div_cancel' (at ps i) (dvd-mul_left_of_dvd (at ps i) (A.period_divides i l) (at es i))))
              (λ e p q. rw (requirement_spare es ps e p q, period_spare es ps e p q, weight_spare)
              (mul_comm p (room es ps) ∙ sym (A.spare_task e p q).takes_room));
          full = full (spare es ps) refl;
        }
