-- A slot of a set, by what admission answers: another length or a refusal of admission is the slot's own, and of an accepted set the
-- laid-out field is dealt. Assumes nothing.
use Rattle.std.specs.Prelude.{Err, Ok}
use mathlib.Core.Path.{◌≡◌}
use mathlib.Core.Bool.{true}
use mathlib.Core.List.{List, [], ◌∷◌, ◌++◌}
use Prim.Native.Nat.{ℕ, ◌≤◌}
use borrow.Author.Tests.{eq-eqb}
use lib.ListN.{length, take}
use Rattle.rule.specs.declared.Accepted.{Accepted}
use Rattle.rule.specs.declared.Refusal.{Refusal}
use Rattle.rule.specs.declared.Refusal.TheVariants.{Lengths}
use Rattle.rule.specs.Refusals.{passed, first, differ, times, lags, classes, set_checks, admission_checks, slot_checks}
use Rattle.rule.specs.Outcomes.{acceptance, admission, SlotAfter, slot_by, slot}
use Rattle.rule.proofs.Sets.{AcceptedSet, accepted_set}
use Rattle.rule.proofs.Refusals.{or_next, first_or, given_first, admission_refusal}
use Rattle.admission.proofs.Laws.{accepted_tells}
use Rattle.field.specs.declared.Laid.{Laid}
use Rattle.field.specs.LayOut.{lay_out}
use Rattle.field.proofs.Accepted.{accepted_units, laid_fits as field_fits, accepted_requirements, accepted_periods}
use Rattle.slot.specs.Deal.{dealt}
use Rattle.slot.proofs.OfSet.{dealt_is_slot}

module _ (es ps ks bytes : List ℕ) (m t : ℕ) where
  abbrev unchanged : Refusal → SlotAfter
  unchanged r = record { answer = Err r; counts = ks; bytes = bytes }

  -- ---- refusal 1

  pub slot_lengths : differ (length es) (length ps ∷ length ks ∷ length bytes ∷ []) ≡ true → unchanged Lengths ≡ slot es ps ks bytes m t
  unfolding slot slot_by slot_checks first
  slot_lengths h = rw h

  module _ (same : length ks ≡ length es) (wide : length bytes ≡ length es) where
    -- ---- a refusal of admission

    checks_are : slot_checks es ps ks bytes m t ≡ admission_checks es ps m ++ times t ∷ lags es ps ks t ∷ classes es ps ks t ∷ []
    unfolding slot_checks admission_checks differ
    checks_are = rw (eq-eqb (length ks) (length es) same, eq-eqb (length bytes) (length es) wide)

    pub slot_refused : (r : Refusal) → admission es ps m ≡ Err r → unchanged r ≡ slot es ps ks bytes m t
    unfolding slot slot_by or_next
    slot_refused r q =
        rw (checks_are, first_or (admission_checks es ps m) (times t ∷ lags es ps ks t ∷ classes es ps ks t ∷ []), given_first ((admission_refusal es ps m r).0 q))

    -- ---- an accepted set

    module _ (a : Accepted) (q : admission es ps m ≡ Ok a) (laid : Laid) (out : laid ≡ lay_out es ps a.spare) where
      tells : (length ps ≡ length es) × (first (set_checks es ps m) ≡ passed) × (a ≡ acceptance es ps)
      tells = accepted_tells es ps m a q

      set : AcceptedSet es ps m
      set = accepted_set es ps m tells.0 tells.1

      -- The laid-out lists have room for the whole field.
      pub laid_fits : (laid.size ≤ length laid.requirements) × (laid.size ≤ length laid.periods)
      laid_fits = field_fits es ps m set a tells.2 laid out

      pub dealt_set : dealt a.units (take laid.size laid.requirements) (take laid.size laid.periods) ks bytes t ≡ slot es ps ks bytes m t
      dealt_set =
          rw (
            accepted_units es ps m set a tells.2 laid out,
            accepted_requirements es ps m set a tells.2 laid out,
            accepted_periods es ps m set a tells.2 laid out,
          )
          (dealt_is_slot es ps m set ks same t bytes wide tells.1)
