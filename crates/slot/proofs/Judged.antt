-- What a judge's answer makes of a slot: a refusal is the slot's own, and where there is none the rungs are the field's, every count is
-- small, and what is dealt by the rungs is what the definition deals. Assumes nothing.
use Rattle.std.specs.Prelude.{Err, Ok}
use mathlib.Core.Path.{◌≡◌, refl, sym, ap, ◌∙◌, subst}
use mathlib.Core.Bool.{Bool, true, false, cond, ◌||◌}
use mathlib.Core.List.{List, [], ◌∷◌}
use Prim.Native.Nat.{ℕ, suc, ◌+◌, ◌≤◌, ◌<◌}
use native.Mathlib.Nat.{mul-le-mul_right, lt_of_mul-lt-mul_left}
use native.Mathlib.Omega.{arith}
use borrow.Author.Tests.{eq-eqb, ne_eqb, ltb-false, leb-false, not-false, lt-ltb}
use lib.Dec.{ltb}
use lib.ListN.{length}
use Rattle.rule.specs.declared.Refusal.{Refusal}
use Rattle.rule.specs.declared.Refusal.TheVariants.{Lengths, Stuck}
use Rattle.rule.specs.Limits.{multiple_most, time_most, tasks_most, within}
use Rattle.rule.specs.Places.{at, bit, each}
use Rattle.rule.specs.Task.{fair}
use Rattle.rule.specs.Slot.{urgents, chosen}
use Rattle.rule.specs.Refusals.{check, passed, refused, first}
use Rattle.rule.proofs.Lags.{fair_bounds}
use Rattle.rule.proofs.Limits.{bounded_numbers, within_numbers}
use Rattle.rule.proofs.Places.{each_ext}
use Rattle.rule.proofs.Refusals.{NoneHolds, none, and, or_next, first_or, first_none}
use Rattle.standing.specs.declared.Rung.{Rung}
use Rattle.standing.specs.Laid.{laid_count, laid_entry, laid_field, is_laid_out, wild_place, laid_unfair_place, laid_checks}
use Rattle.standing.specs.Judged.{rungs_of, judged}
use Rattle.standing.specs.Sound.{Sound}
use Rattle.standing.proofs.Answers.{sound_lists, all_fair}
use Rattle.standing.proofs.Told.{judged_refused, judged_passed, length_rungs}
use Rattle.slot.specs.Rungs.{Choosing, urgent_to, contending_to, chosen_by, stuck_by, dealt_or_stuck, dealt_rungs}
use Rattle.slot.specs.Deal.{stuck, deal_checks, dealt_counts, dealt_bytes, dealt_by, dealt}
use Rattle.slot.proofs.Chosen.{urgents_counted, not_tnegrus_counted, chosen_by_rungs}

-- A field that is not refused: its lists are sound and no place is unfair.
passed_tells : (units : ℕ) (es ps ks : List ℕ) (t : ℕ) → NoneHolds (laid_checks units es ps ks t)
    → Sound es ps ks t × (length ks < laid_unfair_place units es ps ks t)
unfolding laid_checks
passed_tells units es ps ks t (and o (and n (and u (and w (and c (and l none)))))) =
    let few = within_numbers 1 tasks_most (length ks) (not-false (within 1 tasks_most (length ks)) n) in (
      sound_lists units es ps ks t (not-false (is_laid_out es ps ks) o) few.1 (ltb-false (wild_place es ps) (length es) w) (ltb-false time_most t c),
      leb-false (laid_unfair_place units es ps ks t) (length ks) l,
    )

module _ (units : ℕ) (es ps ks bytes : List ℕ) (t : ℕ) where
  -- ---- the refusals

  -- Bytes that are not as many as the counts.
  pub dealt_lengths : (length bytes ≡ length ks → ⊥) → dealt units es ps ks bytes t ≡ record { answer = Err Lengths; counts = ks; bytes = bytes }
  unfolding dealt dealt_by deal_checks first
  dealt_lengths h = rw (ne_eqb (length bytes) (length ks) h)

  module _ (wide : length bytes ≡ length ks) where
    -- With bytes enough the laid-out checks come first, and then refusal 9.
    deal_verdict : first (deal_checks units es ps ks bytes t) ≡ or_next (first (laid_checks units es ps ks t)) (first (check (stuck units (laid_field units es ps ks t) t) Stuck ∷ []))
    unfolding deal_checks first
    deal_verdict = rw (eq-eqb (length bytes) (length ks) wide) (first_or (laid_checks units es ps ks t) (check (stuck units (laid_field units es ps ks t) t) Stuck ∷ []))

    pub dealt_refused : (r : Refusal) → judged units es ps ks t ≡ Err r → dealt units es ps ks bytes t ≡ record { answer = Err r; counts = ks; bytes = bytes }
    unfolding dealt dealt_by or_next
    dealt_refused r q = rw (deal_verdict, judged_refused units es ps ks t r q)

    module _ (passes : first (laid_checks units es ps ks t) ≡ passed) where
      -- ---- what the choice may rely on

      told : Sound es ps ks t × (length ks < laid_unfair_place units es ps ks t)
      told = passed_tells units es ps ks t (first_none (laid_checks units es ps ks t) passes)

      pub sound : Sound es ps ks t
      sound = told.0

      all_within : (i : ℕ) → i < length es → fair t (laid_entry units es ps ks t i) ≡ true
      all_within = all_fair units es ps ks t sound.most told.1

      pub choosing : Choosing es ps (rungs_of units es ps ks t) t
      choosing =
          record {
            same_length = sound.same;
            few = omega (arith, sound.most, sound.few);
            rung_each = omega (arith, sound.most, sound.few, length_rungs units es ps ks t);
            bounded = sound.bounded;
            on_calendar = sound.early;
          }

      -- A count within its bounds is at most t.
      pub small_counts : (i : ℕ) → i < length ks → at ks i < 4294967295
      unfolding laid_entry laid_count
      small_counts i l =
          let h : i < length es = omega (arith, sound.least) in
          let f = fair_bounds (at es i) (at ps i) (at ks i) t (rw (lt-ltb i (length ks) l) at (all_within i h)) in
          let b = bounded_numbers multiple_most (at es i) (at ps i) (sound.bounded i h) in
          let e-le : at es i ≤ at ps i = omega arith in
          let k = lt_of_mul-lt-mul_left (at ps i) {m = at ks i} {n = suc t} (omega (arith, f.over, mul-le-mul_right t e-le)) in
          omega (arith, sound.early)

      -- ---- what the rungs deal is what the definition deals

      same_stuck : stuck_by units (length es) (rungs_of units es ps ks t) ≡ stuck units (laid_field units es ps ks t) t
      unfolding stuck_by stuck
      same_stuck =
          ap (λ u. ltb units u || ltb (urgent_to (length es) rungs + contending_to (length es) rungs) units)
          (urgents_counted units es ps ks t choosing.few)
          ∙ ap (λ o. ltb units (urgents t (laid_field units es ps ks t)) || ltb o units) (not_tnegrus_counted units es ps ks t choosing.few)
        where
          rungs : List Rung
          rungs = rungs_of units es ps ks t

      pub dealt_by_rungs : dealt units es ps ks bytes t ≡ dealt_rungs units es ps (rungs_of units es ps ks t) ks bytes t
      unfolding dealt dealt_rungs or_next first dealt_by dealt_or_stuck dealt_counts dealt_bytes
      dealt_by_rungs = rw (deal_verdict, passes, same_stuck) (go (stuck units (laid_field units es ps ks t) t))
        where
          picks : (i : ℕ) → i < length ks → chosen units t (laid_field units es ps ks t) i ≡ chosen_by units es ps (rungs_of units es ps ks t) t i
          picks i l = sym (chosen_by_rungs units es ps ks t choosing.few i (omega (arith, sound.least)))

          go : (b : Bool) → dealt_by (cond b (refused Stuck) passed) units es ps ks bytes t ≡ dealt_or_stuck b units es ps (rungs_of units es ps ks t) ks bytes t
          go true = refl
          go false =
              ap (λ cs. record { answer = Ok tt; counts = cs; bytes = dealt_bytes units es ps ks t })
              (each_ext (length ks) _ (λ i. at ks i + bit (chosen_by units es ps (rungs_of units es ps ks t) t i)) (λ i l. ap (λ b. at ks i + bit b) (picks i l)))
              ∙ ap (λ bs. record { answer = Ok tt; counts = each (length ks) (λ i. at ks i + bit (chosen_by units es ps (rungs_of units es ps ks t) t i)); bytes = bs })
              (each_ext (length ks) _ (λ i. bit (chosen_by units es ps (rungs_of units es ps ks t) t i)) (λ i l. ap bit (picks i l)))

-- ---- the same of a judge's answer at hand

module _ (units : ℕ) (es ps ks bytes : List ℕ) (t : ℕ) (wide : length bytes ≡ length ks) (rungs : List Rung) (is : judged units es ps ks t ≡ Ok rungs) where
  answered : (first (laid_checks units es ps ks t) ≡ passed) × (rungs ≡ rungs_of units es ps ks t)
  answered = judged_passed units es ps ks t rungs is

  pub ready : Choosing es ps rungs t
  ready = subst (λ r. Choosing es ps r t) (sym answered.1) (choosing units es ps ks bytes t wide answered.0)

  pub dealable : ((length ks ≤ length es) × (length bytes ≡ length ks)) × ((i : ℕ) → i < length ks → at ks i < 4294967295)
  dealable = (((sound units es ps ks bytes t wide answered.0).least, wide), small_counts units es ps ks bytes t wide answered.0)

  pub dealt_judged : dealt_rungs units es ps rungs ks bytes t ≡ dealt units es ps ks bytes t
  dealt_judged =
      ap (λ r. dealt_rungs units es ps r ks bytes t) answered.1 ∙ sym (dealt_by_rungs units es ps ks bytes t wide answered.0)
