-- What `lay_out` lays out of a set, up to its size, are the requirements and the periods of the set's field. Assumes nothing.
use Rattle.std.specs.Prelude.{None, Option, Some}
use mathlib.Core.Path.{◌≡◌, refl}
use mathlib.Core.List.{List}
use Prim.Native.Nat.{ℕ, ◌≤◌}
use native.Mathlib.Omega.{arith}
use lib.ListN.{length}
use Rattle.rule.specs.declared.Weight.{Weight}
use Rattle.rule.specs.Layout.{requirement_of, period_of, placed, places_of}
use Rattle.rule.specs.Places.{at, each}
use Rattle.rule.specs.Sets.{spare}
use Rattle.rule.proofs.Placed.{size, requirement_at, period_at}
use Rattle.rule.proofs.Written.{take_each}
use Rattle.field.specs.LayOut.{filled_with, lay_out, requirements_in, periods_in}

-- The requirements and the periods of a set's field, the spare's last.
unfoldable pub laid_requirements : List ℕ → List ℕ → List ℕ
laid_requirements es ps = each (size es ps) (requirement_at es ps)

unfoldable pub laid_periods : List ℕ → List ℕ → List ℕ
laid_periods es ps = each (size es ps) (period_at es ps)

module _ (es ps : List ℕ) (same : length ps ≡ length es) (few : length es ≤ 64) where
  pub size_fits : size es ps ≤ 65
  unfolding size places_of
  size_fits = go (spare es ps)
    where
      go : (s : Option Weight) → places_of s (length es) ≤ 65
      go None = omega arith
      go (Some w) = omega arith

  -- What is laid out of the set and its spare has the places of its field.
  pub laid_size : (lay_out es ps (spare es ps)).size ≡ size es ps
  unfolding lay_out size
  laid_size = refl

  pub laid_requirements_lem : requirements_in (lay_out es ps (spare es ps)) ≡ laid_requirements es ps
  unfolding lay_out filled_with laid_requirements size requirement_at
  laid_requirements_lem = take_each (size es ps) 65 (placed (length es) (at es) (requirement_of (spare es ps))) size_fits

  pub laid_periods_lem : periods_in (lay_out es ps (spare es ps)) ≡ laid_periods es ps
  unfolding lay_out filled_with laid_periods size period_at
  laid_periods_lem = rw same (take_each (size es ps) 65 (placed (length es) (at ps) (period_of (spare es ps))) size_fits)
