-- What is laid out of an accepted set with the spare that admission answers is the set's field: its units, its requirements and its
-- periods. Assumes nothing.
use mathlib.Core.Path.{◌≡◌, ap, ◌∙◌}
use mathlib.Core.List.{List}
use Prim.Native.Nat.{ℕ, ◌≤◌}
use native.Mathlib.Omega.{arith}
use lib.ListN.{length}
use Rattle.rule.specs.declared.Accepted.{Accepted}
use Rattle.rule.specs.Layout.{placed, requirement_of, period_of}
use Rattle.rule.specs.Outcomes.{acceptance}
use Rattle.rule.specs.Places.{at}
use Rattle.rule.specs.Sets.{units_in_use, spare}
use Rattle.rule.proofs.Places.{length_each}
use Rattle.rule.proofs.Sets.{AcceptedSet}
use Rattle.field.specs.declared.Laid.{Laid}
use Rattle.field.specs.LayOut.{filled_with, lay_out, requirements_in, periods_in}
use Rattle.field.proofs.OfSet.{laid_requirements, laid_periods, laid_requirements_lem, laid_periods_lem, laid_size, size_fits}

module _ (es ps : List ℕ) (m : ℕ) (A : AcceptedSet es ps m) (a : Accepted) (is : a ≡ acceptance es ps) (laid : Laid)
    (out : laid ≡ lay_out es ps a.spare) where
  own : laid ≡ lay_out es ps (spare es ps)
  unfolding acceptance
  own = out ∙ ap (λ a. lay_out es ps a.spare) is

  pub accepted_units : a.units ≡ units_in_use es ps
  unfolding acceptance
  accepted_units = ap (λ a. a.units) is

  -- Both lists have room for the whole field.
  pub laid_fits : (laid.size ≤ length laid.requirements) × (laid.size ≤ length laid.periods)
  unfolding lay_out filled_with
  laid_fits =
      let small = size_fits es ps A.same_length A.tasks_le in
      let here = ap (λ l. l.size) own ∙ laid_size es ps A.same_length A.tasks_le in
      let first = ap (λ l. length l.requirements) own ∙ length_each 65 (placed (length es) (at es) (requirement_of (spare es ps))) in
      let second = ap (λ l. length l.periods) own ∙ length_each 65 (placed (length ps) (at ps) (period_of (spare es ps))) in
      (omega arith, omega arith)

  pub accepted_requirements : requirements_in laid ≡ laid_requirements es ps
  accepted_requirements = ap requirements_in own ∙ laid_requirements_lem es ps A.same_length A.tasks_le

  pub accepted_periods : periods_in laid ≡ laid_periods es ps
  accepted_periods = ap periods_in own ∙ laid_periods_lem es ps A.same_length A.tasks_le
