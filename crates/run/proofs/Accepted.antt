-- A run of a set, by what is asked first: too many slots or another length is the run's own refusal, no slots are none done, a refusal
-- of admission is that of the first slot, and of an accepted set the laid-out field is run. Assumes nothing.
use Rattle.std.specs.Prelude.{Err, Ok}
use mathlib.Core.Path.{◌≡◌, sym, ap, ◌∙◌}
use mathlib.Core.Bool.{true, not, ◌||◌}
use mathlib.Core.List.{List, [], ◌∷◌}
use Prim.Native.Nat.{ℕ, suc, ◌-◌, ◌*◌, ◌≤◌, ◌<◌}
use native.Mathlib.Omega.{arith}
use borrow.Author.Tests.{eq-eqb, lt-ltb, le-ltb}
use lib.Dec.{eqb}
use lib.ListN.{length, take, drop, length-take}
use Rattle.rule.specs.declared.Accepted.{Accepted}
use Rattle.rule.specs.declared.Refusal.{Refusal}
use Rattle.rule.specs.declared.Refusal.TheVariants.{Lengths, Slots}
use Rattle.rule.specs.Limits.{slots_most}
use Rattle.rule.specs.Refusals.{passed, first, differ, set_checks, run_checks}
use Rattle.rule.specs.Outcomes.{acceptance, admission, slot, stopped, after_slot, slots_from, run_by, run}
use Rattle.rule.proofs.Sets.{AcceptedSet, accepted_set}
use Rattle.admission.proofs.Laws.{accepted_tells}
use Rattle.field.specs.declared.Laid.{Laid as Layout}
use Rattle.field.specs.LayOut.{lay_out, requirements_in, periods_in}
use Rattle.field.proofs.Accepted.{accepted_units, laid_fits, accepted_requirements, accepted_periods}
use Rattle.slot.proofs.Accepted.{slot_refused}
use Rattle.run.proofs.Laid.{Laid}

-- ---- an accepted set

module _ (es ps : List ℕ) (m : ℕ) (a : Accepted) (q : admission es ps m ≡ Ok a) (laid : Layout) (out : laid ≡ lay_out es ps a.spare) where
  tells : (length ps ≡ length es) × (first (set_checks es ps m) ≡ passed) × (a ≡ acceptance es ps)
  tells = accepted_tells es ps m a q

  set : AcceptedSet es ps m
  set = accepted_set es ps m tells.0 tells.1

  -- The laid-out lists have room for the whole field.
  pub fits : (laid.size ≤ length laid.requirements) × (laid.size ≤ length laid.periods)
  fits = laid_fits es ps m set a tells.2 laid out

  pub laid_set : (es' ps' : List ℕ) → es' ≡ requirements_in laid → ps' ≡ periods_in laid → Laid es ps m es' ps' a.units
  laid_set es' ps' requirements periods =
      record {
        same = tells.0;
        pass = tells.1;
        requirements = requirements ∙ accepted_requirements es ps m set a tells.2 laid out;
        periods = periods ∙ accepted_periods es ps m set a tells.2 laid out;
        in_use = accepted_units es ps m set a tells.2 laid out;
      }

-- ---- what is asked first

module _ (s : ℕ) (es ps ks log : List ℕ) (m t : ℕ) where
  pub run_too_long : slots_most < s → stopped (Err Slots) ks log ≡ run s es ps ks log m t
  unfolding run run_by run_checks first
  run_too_long h = rw (lt-ltb slots_most s h)

  module _ (few : s ≤ slots_most) where
    pub run_lengths : (differ (length es) (length ps ∷ length ks ∷ []) || not (eqb (length log) (s * length es))) ≡ true
        → stopped (Err Lengths) ks log ≡ run s es ps ks log m t
    unfolding run run_by run_checks first
    run_lengths h = rw (le-ltb slots_most s few, h)

    module _ (same : length ps ≡ length es) (counts : length ks ≡ length es) (whole : length log ≡ s * length es) where
      -- What passes 10 and 1 is run slot by slot.
      pub run_slots : slots_from s es ps m t ks log ≡ run s es ps ks log m t
      unfolding run run_by run_checks first differ
      run_slots =
          rw (le-ltb slots_most s few, eq-eqb (length ps) (length es) same, eq-eqb (length ks) (length es) counts, eq-eqb (length log) (s * length es) whole)

      pub run_none : s ≡ 0 → stopped (Ok tt) ks log ≡ run s es ps ks log m t
      unfolding slots_from
      run_none q = sym (ap (λ k. slots_from k es ps m t ks log) q) ∙ run_slots

      pub run_not_admitted : (s ≡ 0 → ⊥) → (r : Refusal) → admission es ps m ≡ Err r → stopped (Err r) ks log ≡ run s es ps ks log m t
      unfolding slots_from after_slot
      run_not_admitted some r q =
          let one : s ≡ suc (s - 1) = omega (arith, some) in
          let part : length (take (length es) log) ≡ length es = omega (arith, length-take (length es) log, ap (λ k. k * length es) one) in
          let now = ap (λ x. x.answer) (sym (slot_refused es ps ks (take (length es) log) m t counts part r q)) in
          ap (λ o. after_slot o ks log (slot es ps ks (take (length es) log) m t).bytes (slots_from (s - 1) es ps m (suc t) (slot es ps ks (take (length es) log) m t).counts (drop (length es) log))) (sym now)
          ∙ sym (ap (λ k. slots_from k es ps m t ks log) one)
          ∙ run_slots
