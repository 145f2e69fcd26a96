-- A list of so many places that takes the front of another list, as far as both reach, is that list filled up; and the layout, by cases
-- on the spare. Assumes nothing.
use Rattle.std.specs.Prelude.{Option, Some, None}
use mathlib.Core.Path.{◌≡◌, refl, ap}
use mathlib.Core.List.{List, [], ◌∷◌, ◌++◌}
use Prim.Native.Nat.{ℕ, zero, suc, ◌+◌, ◌≤◌, ◌<◌}
use native.Mathlib.Numerals.{add-one}
use native.Mathlib.Omega.{arith}
use Prim.Native.Nat.compare
use borrow.Author.Tests.{lt-ltb, le-ltb}
use lib.ListN.{length, take, drop, replicate}
use Rattle.rule.specs.declared.Weight.{Weight}
use Rattle.rule.specs.Layout.{placed, requirement_of, period_of, places_of}
use Rattle.rule.specs.Places.{at, each}
use Rattle.rule.specs.Sets.{weight}
use Rattle.field.specs.LayOut.{filled_with, lay_out}

-- A list of one number alone.
each_same : (m rest : ℕ) (f : ℕ → ℕ) → ((j : ℕ) → rest ≡ f j) → replicate m rest ≡ each m f
unfolding each
each_same zero rest f h = refl
each_same (suc m) rest f h = cc (h 0, each_same m rest (λ j. f (suc j)) (λ j. h (suc j)))

-- The front of a list, and what is left of m places.
pub all_filled : (m k : ℕ) (xs : List ℕ) (rest : ℕ) → k ≤ m → k ≤ length xs → (k < m → length xs ≤ k)
    → take k xs ++ drop k (replicate m rest) ≡ each m (placed (length xs) (at xs) rest)
unfolding each placed
all_filled zero zero xs rest h g past = refl
all_filled zero (suc k) xs rest h g past = absurd (omega arith)
all_filled (suc m) zero [] rest h g past = each_same (suc m) rest (placed 0 (at []) rest) (λ j. rw (le-ltb j 0 (omega arith)))
all_filled (suc m) zero (x ∷ xs) rest h g past = absurd (omega (arith, past))
all_filled (suc m) (suc k) [] rest h g past = absurd (omega arith)
all_filled (suc m) (suc k) (x ∷ xs) rest h g past =
    simp (lt-ltb 0 (suc (length xs)) (omega arith), compare.suc-suc) (ap (λ ys. x ∷ ys) (all_filled m k xs rest (omega arith) (omega arith) (λ l. omega (arith, past))))

-- ---- the layout, by cases on the spare

module _ (es ps as' bs : List ℕ) (s : Option Weight) where
  -- With nobody to spare both lists are filled up with 0.
  pub laid_nobody : s ≡ None → as' ≡ filled_with es 0 → bs ≡ filled_with ps 0 → record { requirements = as'; periods = bs; size = length es } ≡ lay_out es ps s
  unfolding lay_out requirement_of period_of places_of
  laid_nobody q a b = rw (q, a, b)

  -- A spare has a place of its own, and its numbers fill both lists.
  pub laid_task : (e p : ℕ) → s ≡ Some (weight e p) → as' ≡ filled_with es e → bs ≡ filled_with ps p
      → record { requirements = as'; periods = bs; size = length es + 1 } ≡ lay_out es ps s
  unfolding lay_out requirement_of period_of places_of
  laid_task e p q a b = rw (q, a, b, add-one)
