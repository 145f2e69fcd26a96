-- Refusal 6 for tables that end, as a night does: among sets that pass 1 to 5, one that it refuses has no table of any number of slots from L
-- up, and an accepted set has one of every length. These are cases of the theorems for any length (AnyLength.antt). Assumes nothing.
use Rattle.std.specs.Prelude.{Ok}
use mathlib.Core.Path.{◌≡◌}
use mathlib.Core.Logic.{◌↔◌}
use mathlib.Core.Bool.{Bool}
use mathlib.Core.List.{List}
use Prim.Native.Nat.{ℕ, ◌≤◌}
use Rattle.rule.specs.declared.Accepted.{Accepted}
use Rattle.rule.specs.Sets.{multiple}
use Rattle.rule.specs.Outcomes.{admission}
use Rattle.fair.specs.FromStart.{runs_from_start}
use Rattle.fair.specs.FiniteTable.{slots, up_to, FiniteTable, FiniteAtLeast, RefusedBySix}
use Rattle.fair.proofs.RefusalSix.{PassesOneToFive}
use Rattle.fair.proofs.AnyLength.{none_serves, refusal_six, accepted_served_any_length}

module _ (es ps : List ℕ) (m : ℕ) (pass : PassesOneToFive es ps m) (s : ℕ) (whole : multiple ps ≤ s) where
  -- Refusal 6 is given exactly when no table of s slots, however made, could serve the set.
  pub refusal_six_finite : RefusedBySix es ps m ↔ ((runs : ℕ → ℕ → Bool) → FiniteTable s es ps m runs → ⊥)
  refusal_six_finite = refusal_six es ps m pass (slots s) (up_to whole)

  -- Where it is given, not even one that may give a task more than its share does.
  pub finite_none_serves : RefusedBySix es ps m → (runs : ℕ → ℕ → Bool) → FiniteAtLeast s es ps m runs → ⊥
  finite_none_serves = none_serves es ps m pass (slots s) (up_to whole)

-- The run of a set that admission accepts serves it for any number of slots, L or not.
pub accepted_served_finite : (es ps : List ℕ) (m : ℕ) (a : Accepted) → admission es ps m ≡ Ok a → (s : ℕ)
    → FiniteTable s es ps m (runs_from_start es ps)
accepted_served_finite es ps m a q s = accepted_served_any_length es ps m a q (slots s)
