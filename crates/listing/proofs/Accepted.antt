-- A listing of a set, by what admission answers: another length or a refusal of admission is the listing's own, and of an accepted set
-- the judge of the laid-out field decides the rest. Assumes nothing.
use Rattle.std.specs.Prelude.{Err, Ok, Result}
use mathlib.Core.Path.{◌≡◌, sym, ap, ◌∙◌}
use mathlib.Core.Bool.{true}
use mathlib.Core.List.{List, [], ◌∷◌, ◌++◌}
use Prim.Native.Nat.{ℕ, ◌≤◌}
use native.Mathlib.Omega.{arith}
use borrow.Author.Tests.{eq-eqb}
use lib.ListN.{length, take}
use Rattle.rule.specs.declared.Accepted.{Accepted}
use Rattle.rule.specs.declared.Refusal.{Refusal}
use Rattle.rule.specs.declared.Refusal.TheVariants.{Lengths}
use Rattle.rule.specs.Outcomes.{acceptance, admission, ListingAfter, listing_by, listing}
use Rattle.rule.specs.Refusals.{passed, first, differ, times, lags, set_checks, admission_checks, listing_checks}
use Rattle.rule.specs.Sets.{units_in_use}
use Rattle.rule.proofs.Refusals.{or_next, first_or, first_append, given_first, admission_refusal}
use Rattle.rule.proofs.Sets.{AcceptedSet, accepted_set}
use Rattle.admission.proofs.Laws.{accepted_tells}
use Rattle.field.specs.declared.Laid.{Laid}
use Rattle.field.specs.LayOut.{lay_out}
use Rattle.field.proofs.OfSet.{laid_requirements, laid_periods}
use Rattle.field.proofs.Accepted.{accepted_units, laid_fits, accepted_requirements, accepted_periods}
use Rattle.standing.specs.declared.Rung.{Rung}
use Rattle.standing.specs.Judged.{rungs_of, judged}
use Rattle.standing.specs.Laid.{laid_checks}
use Rattle.standing.proofs.OfSet.{laid_first}
use Rattle.standing.proofs.Told.{judged_refused, judged_passed, length_rungs}
use Rattle.listing.specs.Marks.{marks_by}
use Rattle.listing.proofs.Marks.{marks_of_set}

-- A listing's answer and its bytes, one by one.
pub parts : {a b : ListingAfter} → a ≡ b → (a.answer ≡ b.answer) × (a.bytes ≡ b.bytes)
parts q = (ap (λ r. r.answer) q, ap (λ r. r.bytes) q)

module _ (es ps ks bytes : List ℕ) (m t : ℕ) where
  abbrev unchanged : Refusal → ListingAfter
  unchanged r = record { answer = Err r; bytes = bytes }

  -- ---- refusal 1

  pub listing_lengths : differ (length es) (length ps ∷ length ks ∷ length bytes ∷ []) ≡ true → unchanged Lengths ≡ listing es ps ks bytes m t
  unfolding listing listing_by listing_checks first
  listing_lengths h = rw h

  module _ (same : length ks ≡ length es) (wide : length bytes ≡ length es) where
    -- ---- a refusal of admission

    checks_are : listing_checks es ps ks bytes m t ≡ admission_checks es ps m ++ times t ∷ lags es ps ks t ∷ []
    unfolding listing_checks admission_checks differ
    checks_are = rw (eq-eqb (length ks) (length es) same, eq-eqb (length bytes) (length es) wide)

    pub listing_refused : (r : Refusal) → admission es ps m ≡ Err r → unchanged r ≡ listing es ps ks bytes m t
    unfolding listing listing_by or_next
    listing_refused r q =
        rw (checks_are, first_or (admission_checks es ps m) (times t ∷ lags es ps ks t ∷ []), given_first ((admission_refusal es ps m r).0 q))

    -- ---- an accepted set

    module _ (a : Accepted) (q : admission es ps m ≡ Ok a) (laid : Laid) (out : laid ≡ lay_out es ps a.spare) where
      tells : (length ps ≡ length es) × (first (set_checks es ps m) ≡ passed) × (a ≡ acceptance es ps)
      tells = accepted_tells es ps m a q

      set : AcceptedSet es ps m
      set = accepted_set es ps m tells.0 tells.1

      -- The laid-out lists have room for the whole field.
      pub fits : (laid.size ≤ length laid.requirements) × (laid.size ≤ length laid.periods)
      fits = laid_fits es ps m set a tells.2 laid out

      module _ (j : Result (List Rung) Refusal) (is : j ≡ judged a.units (take laid.size laid.requirements) (take laid.size laid.periods) ks t) where
        judged_set : j ≡ judged (units_in_use es ps) (laid_requirements es ps) (laid_periods es ps) ks t
        judged_set =
            is
            ∙ rw (
              accepted_units es ps m set a tells.2 laid out,
              accepted_requirements es ps m set a tells.2 laid out,
              accepted_periods es ps m set a tells.2 laid out,
            )

        -- With refusals 1 to 6 passed the listing's verdict is that of the laid-out field.
        verdict : first (listing_checks es ps ks bytes m t) ≡ first (laid_checks (units_in_use es ps) (laid_requirements es ps) (laid_periods es ps) ks t)
        unfolding listing_checks first differ
        verdict =
            rw (eq-eqb (length ps) (length es) tells.0, eq-eqb (length ks) (length es) same, eq-eqb (length bytes) (length es) wide)
            (first_append (set_checks es ps m) (times t ∷ lags es ps ks t ∷ []) tells.1 ∙ sym (laid_first es ps ks same t m set))

        pub listing_not_judged : (r : Refusal) → j ≡ Err r → unchanged r ≡ listing es ps ks bytes m t
        unfolding listing listing_by
        listing_not_judged r h =
            rw (verdict, judged_refused (units_in_use es ps) (laid_requirements es ps) (laid_periods es ps) ks t r (sym judged_set ∙ h))

        module _ (rungs : List Rung) (h : j ≡ Ok rungs) where
          answered : (first (laid_checks (units_in_use es ps) (laid_requirements es ps) (laid_periods es ps) ks t) ≡ passed)
              × (rungs ≡ rungs_of (units_in_use es ps) (laid_requirements es ps) (laid_periods es ps) ks t)
          answered = judged_passed (units_in_use es ps) (laid_requirements es ps) (laid_periods es ps) ks t rungs (sym judged_set ∙ h)

          -- There is a rung for each byte.
          pub rungs_cover : length bytes ≤ length rungs
          rungs_cover =
              let all = ap length answered.1 ∙ length_rungs (units_in_use es ps) (laid_requirements es ps) (laid_periods es ps) ks t in
              omega (arith, set.tasks_le)

          pub listing_marked : (bs : List ℕ) → bs ≡ marks_by (length bytes) rungs
              → record { answer = Ok tt; bytes = bs } ≡ listing es ps ks bytes m t
          unfolding listing listing_by
          listing_marked bs written =
              rw (verdict, answered.0, written, wide, answered.1)
              (ap (λ bs. record { answer = Ok tt; bytes = bs }) (marks_of_set es ps m set ks same t))
