-- Who has room for a contender: the first places may say that it is taken, and one contender may say it of another. Assumes nothing.
use mathlib.Core.Path.{◌≡◌}
use mathlib.Core.Bool.{Bool, true, ◌&&◌}
use mathlib.Core.List.{List}
use Prim.Native.Nat.{ℕ, ◌+◌, ◌-◌, ◌≤◌}
use native.Mathlib.Numerals.{add-one}
use native.Mathlib.Omega.{arith}
use lib.IntN.{pos}
use lib.ListN.{length}
use Rattle.rule.specs.Places.{at, bit, sum}
use Rattle.rule.specs.Sets.{Field}
use Rattle.rule.specs.Slot.{precedes}
use Rattle.rule.proofs.Tests.{both_true}
use Rattle.rule.proofs.Places.{sum_append}
use Rattle.rule.proofs.Ordering.{precedes_irreflexive, precedes_transitive, precedes_total}
use Rattle.rule.proofs.Choice.{rank_le}
use Rattle.standing.specs.declared.Rung.{Rung}
use Rattle.slot.specs.Rungs.{on_contending, goes_before, rank_to}

-- With more places a rank only grows: where the room is taken by the first of them, it is taken by all.
pub rank_grows : (j n t i : ℕ) (es ps : List ℕ) (rungs : List Rung) → j ≤ n → rank_to j es ps rungs t i ≤ rank_to n es ps rungs t i
rank_grows j n t i es ps rungs h =
    let ahead : ℕ → ℕ = λ k. bit (on_contending rungs k && goes_before es ps t k i) in
    let all : j + (n - j) ≡ n = omega arith in
    omega (arith, rw all at (sum_append j (n - j) ahead))

-- With one place more the rank is 1 more where that place goes before.
pub rank_more : (j t i : ℕ) (es ps : List ℕ) (rungs : List Rung) (b : Bool) → b ≡ (on_contending rungs j && goes_before es ps t j i)
    → rank_to (j + 1) es ps rungs t i ≡ rank_to j es ps rungs t i + bit b
unfolding sum
rank_more j t i es ps rungs b q = rw (add-one, q)

-- The lists as a field, whose order is the rule's. The order asks no count.
abbrev listed : List ℕ → List ℕ → Field
listed es ps = record { size = length es; entry = λ i. record { e = at es i; p = at ps i; k = pos 0 } }

-- Where x goes before y, its rank is not above that of y.
pub earlier : (es ps : List ℕ) (rungs : List Rung) (t x y : ℕ) → (on_contending rungs x && goes_before es ps t x y) ≡ true
    → rank_to (length es) es ps rungs t x ≤ rank_to (length es) es ps rungs t y
unfolding precedes
earlier es ps rungs t x y goes =
    let f = listed es ps in
    rank_le (λ j. on_contending rungs j) (precedes t f) (precedes_irreflexive t f) (precedes_transitive t f) (precedes_total t f) (length es) x y
    (both_true (on_contending rungs x) (goes_before es ps t x y) goes).1
