-- Dealing the laid-out field of an accepted set is the set's slot: the checks that are left are those of the time, the lags and the
-- classes, and the choice depends on the field's entries alone, which are the set's. Assumes nothing.
use Rattle.std.specs.Prelude.{Ok}
use mathlib.Core.Path.{◌≡◌, refl, sym, ap, ◌∙◌}
use mathlib.Core.List.{List, [], ◌∷◌}
use Prim.Native.Nat.{ℕ, ◌+◌, ◌<◌}
use borrow.Author.Tests.{eq-eqb}
use lib.ListN.{length}
use Rattle.rule.specs.declared.Refusal.TheVariants.{Stuck}
use Rattle.rule.specs.Places.{at, bit, each}
use Rattle.rule.specs.Sets.{units_in_use, Field, field}
use Rattle.rule.specs.Slot.{chosen}
use Rattle.rule.specs.Refusals.{Check, check, Verdict, passed, refused, first, differ, times, lags, classes, set_checks, slot_checks}
use Rattle.rule.specs.Outcomes.{runs_at, counts_after, bytes_after, slot_by, slot}
use Rattle.rule.proofs.Fields.{same_urgents, same_not_tnegrus, same_chosen}
use Rattle.rule.proofs.Places.{each_ext}
use Rattle.rule.proofs.Placed.{size, field_size, task_place}
use Rattle.rule.proofs.Refusals.{first_or, first_append}
use Rattle.rule.proofs.Sets.{AcceptedSet}
use Rattle.standing.specs.Laid.{laid_entry, laid_field, laid_checks}
use Rattle.field.proofs.OfSet.{laid_requirements, laid_periods}
use Rattle.standing.proofs.OfSet.{length_laid, laid_entry_lem, laid_first}
use Rattle.slot.specs.Deal.{stuck, deal_checks, dealt_counts, dealt_bytes, dealt_by, dealt}

module _ (es ps : List ℕ) (m : ℕ) (A : AcceptedSet es ps m) (ks : List ℕ) (same : length ks ≡ length es) (t : ℕ) where
  abbrev M : ℕ
  M = units_in_use es ps

  abbrev laid : Field
  laid = laid_field M (laid_requirements es ps) (laid_periods es ps) ks t

  -- The two fields as one size and two lists of entries that agree below it.
  sized : laid ≡ record { size = size es ps; entry = laid_entry M (laid_requirements es ps) (laid_periods es ps) ks t }
  unfolding laid_field
  sized = ap (λ n. record { size = n; entry = laid_entry M (laid_requirements es ps) (laid_periods es ps) ks t }) (length_laid es ps)

  set_sized : field es ps ks t ≡ record { size = size es ps; entry = (field es ps ks t).entry }
  set_sized = ap (λ n. record { size = n; entry = (field es ps ks t).entry }) (field_size es ps ks t)

  entries : (i : ℕ) → i < size es ps → laid_entry M (laid_requirements es ps) (laid_periods es ps) ks t i ≡ (field es ps ks t).entry i
  entries = laid_entry_lem es ps ks same t

  laid_stuck : stuck M laid t ≡ (classes es ps ks t).holds
  unfolding stuck
  laid_stuck =
      rw (sized, set_sized)
      (rw (same_urgents t (size es ps) _ _ entries, same_not_tnegrus t (size es ps) _ _ entries))

  laid_chosen : (i : ℕ) → i < length es → chosen M t laid i ≡ runs_at es ps ks t i
  unfolding runs_at
  laid_chosen i l = rw (sized, set_sized) (same_chosen t (size es ps) _ _ entries M i (task_place es ps i l))

  -- ---- the whole slot

  -- What a set that passes 1 to 6 is still asked by a slot, and what it answers.
  abbrev rest : List Check
  rest = times t ∷ lags es ps ks t ∷ classes es ps ks t ∷ []

  module _ (bytes : List ℕ) (wide : length bytes ≡ length es) where
    deal_first : first (deal_checks M (laid_requirements es ps) (laid_periods es ps) ks bytes t) ≡ first rest
    unfolding deal_checks first
    deal_first =
        rw (eq-eqb (length bytes) (length ks) (wide ∙ sym same))
        (first_or (laid_checks M (laid_requirements es ps) (laid_periods es ps) ks t) (check (stuck M laid t) Stuck ∷ [])
        ∙ rw (laid_first es ps ks same t m A, laid_stuck) (sym (first_or (times t ∷ lags es ps ks t ∷ []) (classes es ps ks t ∷ []))))

    same_after : dealt_by (first rest) M (laid_requirements es ps) (laid_periods es ps) ks bytes t ≡ slot_by (first rest) es ps ks bytes t
    unfolding dealt_by slot_by dealt_counts dealt_bytes counts_after bytes_after
    same_after = go (first rest)
      where
        dealt_count : ℕ → ℕ
        dealt_count i = at ks i + bit (chosen M t laid i)

        dealt_byte : ℕ → ℕ
        dealt_byte i = bit (chosen M t laid i)

        go : (v : Verdict) → dealt_by v M (laid_requirements es ps) (laid_periods es ps) ks bytes t ≡ slot_by v es ps ks bytes t
        go passed =
            ap (λ n. record { answer = Ok tt; counts = each n dealt_count; bytes = each n dealt_byte }) same
            ∙ ap (λ cs. record { answer = Ok tt; counts = cs; bytes = each (length es) dealt_byte })
            (each_ext (length es) dealt_count (λ i. at ks i + bit (runs_at es ps ks t i)) (λ i l. ap (λ b. at ks i + bit b) (laid_chosen i l)))
            ∙ ap (λ bs. record { answer = Ok tt; counts = each (length es) (λ i. at ks i + bit (runs_at es ps ks t i)); bytes = bs })
            (each_ext (length es) dealt_byte (λ i. bit (runs_at es ps ks t i)) (λ i l. ap bit (laid_chosen i l)))
        go (refused r) = refl

    slot_first_lem : first (set_checks es ps m) ≡ passed → first (slot_checks es ps ks bytes m t) ≡ first rest
    unfolding slot_checks first differ
    slot_first_lem pass =
        rw (eq-eqb (length ps) (length es) A.same_length, eq-eqb (length ks) (length es) same, eq-eqb (length bytes) (length es) wide)
        (first_append (set_checks es ps m) rest pass)

    pub dealt_is_slot : first (set_checks es ps m) ≡ passed
        → dealt M (laid_requirements es ps) (laid_periods es ps) ks bytes t ≡ slot es ps ks bytes m t
    unfolding dealt slot
    dealt_is_slot pass = rw (deal_first, slot_first_lem pass) same_after
