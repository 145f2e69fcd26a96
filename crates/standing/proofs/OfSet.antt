-- An accepted set laid out: its field is the set's own, entry by entry, and of the laid-out checks only those of the time and of the
-- lags are left, which are the set's. Assumes nothing.
use Rattle.std.specs.Prelude.{None, Option, Some}
use mathlib.Core.Path.{◌≡◌, refl, sym, ap, ◌∙◌, subst}
use mathlib.Core.Bool.{Bool, true, false, cond, not, ◌||◌}
use mathlib.Core.List.{List, [], ◌∷◌}
use Prim.Native.Nat.{ℕ, suc, ◌*◌, ◌<◌}
use native.Mathlib.Decide.{dec_lt}
use native.Mathlib.Nat.{le_trans}
use native.Mathlib.Omega.{arith}
use borrow.Author.Tests.{lt-ltb, le-ltb, eq-eqb, ne_eqb, le-leb}
use lib.Dec.{ltb, leb, eqb}
use lib.IntN.{pos, ◌-ℤ◌}
use lib.ListN.{length}
use Rattle.rule.specs.declared.Weight.{Weight}
use Rattle.rule.specs.declared.Refusal.TheVariants.{Lengths, Units, Record, Lag}
use Rattle.rule.specs.Limits.{bounded_by, multiple_most, units_most, tasks_most}
use Rattle.rule.specs.Places.{at, sum, lowest}
use Rattle.rule.specs.Task.{fair}
use Rattle.rule.specs.Sets.{units_in_use, spare, field}
use Rattle.rule.specs.Refusals.{check, first, tasks, times, lags, unfair_at, unfair_place}
use Rattle.rule.proofs.Limits.{numbers_bounded}
use Rattle.rule.proofs.Places.{length_each, at_each, lowest_none, lowest_ext}
use Rattle.rule.specs.Layout.{places_of}
use Rattle.rule.proofs.Placed.{size, requirement_at, period_at, requirement_task, period_task, requirement_spare, period_spare, at_places, field_size, field_entry_free}
use Rattle.rule.proofs.Refusals.{none, and, none_first, first_append}
use Rattle.rule.proofs.Sets.{AcceptedSet}
use Rattle.field.proofs.OfSet.{laid_requirements, laid_periods}
use Rattle.standing.specs.Laid.{laid_count, laid_entry, is_laid_out, wild_place, laid_unfair, laid_unfair_place, laid_checks}

module _ (es ps : List ℕ) where
  pub length_laid : length (laid_requirements es ps) ≡ size es ps
  unfolding laid_requirements
  length_laid = length_each (size es ps) (requirement_at es ps)

  pub length_laid_periods : length (laid_periods es ps) ≡ size es ps
  unfolding laid_periods
  length_laid_periods = length_each (size es ps) (period_at es ps)

  at_laid : (i : ℕ) → i < size es ps → at (laid_requirements es ps) i ≡ requirement_at es ps i
  unfolding laid_requirements
  at_laid i l = at_each (size es ps) (requirement_at es ps) i l

  at_laid_periods : (i : ℕ) → i < size es ps → at (laid_periods es ps) i ≡ period_at es ps i
  unfolding laid_periods
  at_laid_periods i l = at_each (size es ps) (period_at es ps) i l

  -- ---- the field is the set's own

  module _ (ks : List ℕ) (same : length ks ≡ length es) (t : ℕ) where
    pub laid_entry_lem : (i : ℕ) → i < size es ps
        → laid_entry (units_in_use es ps) (laid_requirements es ps) (laid_periods es ps) ks t i ≡ (field es ps ks t).entry i
    unfolding laid_entry laid_count
    laid_entry_lem i l =
        rw (at_laid i l, at_laid_periods i l)
        (ap (λ n. record {
          e = requirement_at es ps i;
          p = period_at es ps i;
          k = cond (ltb i n) (pos (at ks i)) (pos (units_in_use es ps * t) -ℤ pos (sum (length ks) (at ks)));
        }) same
        ∙ sym (field_entry_free es ps ks t i l))

    -- ---- refusal 8 is the set's own

    same_unfair : (i : ℕ) → i < suc (length ks)
        → laid_unfair (units_in_use es ps) (laid_requirements es ps) (laid_periods es ps) ks t i ≡ unfair_at es ps ks t i
    unfolding laid_unfair unfair_at
    same_unfair i l = rw (length_laid, field_size es ps ks t) (go (dec_lt i (size es ps)))
      where
        sum_test : Bool
        sum_test = not (eqb (sum (length ks) (at ks)) (units_in_use es ps * t))

        go : Dec (i < size es ps)
            → cond (ltb i (size es ps)) (not (fair t (laid_entry (units_in_use es ps) (laid_requirements es ps) (laid_periods es ps) ks t i))) sum_test
            ≡ cond (ltb i (size es ps)) (not (fair t ((field es ps ks t).entry i))) sum_test
        go (yes h) = rw (lt-ltb i (size es ps) h) (ap (λ x. not (fair t x)) (laid_entry_lem i h))
        go (no n) = rw (le-ltb i (size es ps) (omega arith))

    pub laid_unfair_place_lem : laid_unfair_place (units_in_use es ps) (laid_requirements es ps) (laid_periods es ps) ks t ≡ unfair_place es ps ks t
    unfolding laid_unfair_place unfair_place
    laid_unfair_place_lem =
        lowest_ext (suc (length ks)) _ (unfair_at es ps ks t) same_unfair ∙ ap (λ n. lowest (suc n) (unfair_at es ps ks t)) same

    -- ---- what is left of the checks

    module _ (m : ℕ) (A : AcceptedSet es ps m) where
      laid_out : is_laid_out (laid_requirements es ps) (laid_periods es ps) ks ≡ true
      unfolding is_laid_out size places_of
      laid_out =
          rw (length_laid, length_laid_periods, eq-eqb (size es ps) (size es ps) refl, same) (go (spare es ps))
        where
          go : (s : Option Weight) → (eqb (places_of s (length es)) (length es) || eqb (places_of s (length es)) (suc (length es))) ≡ true
          go None = rw (eq-eqb (length es) (length es) refl)
          go (Some w) = rw (ne_eqb (suc (length es)) (length es) (λ q. omega arith), eq-eqb (suc (length es)) (suc (length es)) refl)

      pub bounded_place : (i : ℕ) → i < size es ps → bounded_by multiple_most (at (laid_requirements es ps) i) (at (laid_periods es ps) i) ≡ true
      bounded_place i l = rw (at_laid i l, at_laid_periods i l) (all i l)
        where
          all : (i : ℕ) → i < size es ps → bounded_by multiple_most (requirement_at es ps i) (period_at es ps i) ≡ true
          all =
              at_places es ps (λ i. bounded_by multiple_most (requirement_at es ps i) (period_at es ps i) ≡ true)
              (λ i l. rw (requirement_task es ps i l, period_task es ps i l)
              (numbers_bounded multiple_most (at es i) (at ps i) (A.requirement_pos i l) (A.requirement_lt i l) (omega (arith, A.period_le i l))))
              (λ e p q.
              let S = A.spare_task e p q in
              rw (requirement_spare es ps e p q, period_spare es ps e p q)
              (numbers_bounded multiple_most e p S.requirement_pos S.requirement_lt (le_trans S.period_le A.multiple_le)))

      none_wild : ltb (wild_place (laid_requirements es ps) (laid_periods es ps)) (length (laid_requirements es ps)) ≡ false
      unfolding wild_place
      none_wild =
          let place =
          lowest_none (length (laid_requirements es ps)) (λ i. not (bounded_by multiple_most (at (laid_requirements es ps) i) (at (laid_periods es ps) i)))
          (λ i l. ap not (bounded_place i (subst (λ n. i < n) length_laid l)))
          in le-ltb (wild_place (laid_requirements es ps) (laid_periods es ps)) (length (laid_requirements es ps)) (omega arith)

      -- The first of the laid-out checks that holds is the set's: of the time, then of the lags.
      pub laid_first : first (laid_checks (units_in_use es ps) (laid_requirements es ps) (laid_periods es ps) ks t) ≡ first (times t ∷ lags es ps ks t ∷ [])
      unfolding laid_checks
      laid_first =
          first_append
          (check (not (is_laid_out (laid_requirements es ps) (laid_periods es ps) ks)) Lengths
          ∷ tasks (length ks)
          ∷ check (ltb units_most (units_in_use es ps)) Units
          ∷ check (ltb (wild_place (laid_requirements es ps) (laid_periods es ps)) (length (laid_requirements es ps))) (Record (wild_place (laid_requirements es ps) (laid_periods es ps)))
          ∷ []) _
          (none_first (and (ap not laid_out) (and few (and (le-ltb units_most (units_in_use es ps) (omega (arith, A.in_use_le, A.units_le))) (and none_wild none)))))
          ∙ ap (λ c. first (times t ∷ c ∷ [])) same_check
        where
          few : (tasks (length ks)).holds ≡ false
          few = rw (le-leb 1 (length ks) (omega (arith, A.tasks_pos)), le-leb (length ks) tasks_most (omega (arith, A.tasks_le)))

          same_check : check (leb (laid_unfair_place (units_in_use es ps) (laid_requirements es ps) (laid_periods es ps) ks t) (length ks)) (Lag (laid_unfair_place (units_in_use es ps) (laid_requirements es ps) (laid_periods es ps) ks t)) ≡ lags es ps ks t
          same_check = rw (laid_unfair_place_lem, same)
