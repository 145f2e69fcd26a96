-- What the tests of the limits say: the engine takes every valid record, and answers the comparison of what it takes.
-- Assumes nothing.
use Rattle.std.specs.Prelude.{Ok}
use mathlib.Core.Path.{◌≡◌, sym, ap, ◌∙◌}
use mathlib.Core.Bool.{Bool, true, false, not}
use Prim.Native.Nat.{ℕ, ◌≤◌}
use native.Mathlib.Omega.{arith}
use borrow.Author.Tests.{le-leb, le-ltb, not-true, not-false}
use Rattle.rule.specs.Limits.{period_most, multiple_most, time_most, bounded_by, valid}
use Rattle.rule.specs.Task.{compare}
use Rattle.rule.specs.declared.Order.{Order}
use Rattle.rule.specs.Refusals.{comparison_checks}
use Rattle.rule.specs.Outcomes.{comparison_by, comparison}
use Rattle.rule.proofs.Limits.{bounded_numbers, numbers_bounded}
use Rattle.rule.proofs.Refusals.{none, and, none_first}
use Rattle.order.specs.Engine.{Bounds, takes, engine}

-- The code asks `!f(..)`, where f answers the test b.
module _ {r b : Bool} (answers : r ≡ b) where
  pub denied : not r ≡ true → b ≡ false
  denied h = sym answers ∙ not-true r h

  pub granted : not r ≡ false → b ≡ true
  granted h = sym answers ∙ not-false r h

bounds : (most e p : ℕ) → bounded_by most e p ≡ true → Bounds most e p
bounds most e p h = let b = bounded_numbers most e p h in record { some = b.0; light = b.1; small = b.2 }

pub takes_bounds : (e p : ℕ) → takes e p ≡ true → Bounds multiple_most e p
takes_bounds e p h = bounds multiple_most e p h

pub bounds_takes : (e p : ℕ) → Bounds multiple_most e p → takes e p ≡ true
bounds_takes e p b = numbers_bounded multiple_most e p b.some b.light b.small

-- The limit of a record's period is below L's.
valid_bounds : (e p : ℕ) → valid e p ≡ true → Bounds multiple_most e p
valid_bounds e p h =
    let b = bounds period_most e p h in
    record { some = b.some; light = b.light; small = omega arith }

-- On tasks that it takes, and at every time of the calendar, the engine answers the comparison.
pub engine_compares : (e p e' p' t : ℕ) → Bounds multiple_most e p → Bounds multiple_most e' p' → t ≤ time_most → engine e p e' p' t ≡ compare t e p e' p'
unfolding engine
engine_compares e p e' p' t b b' g = rw (bounds_takes e p b, bounds_takes e' p' b', le-leb t time_most g)

-- Where no check of the comparison holds, it answers what the engine does.
pub comparison_answers : (e p e' p' t : ℕ) (o : Order) → valid e p ≡ true → valid e' p' ≡ true → t ≤ time_most → o ≡ engine e p e' p' t → Ok o ≡ comparison e p e' p' t
unfolding comparison comparison_by comparison_checks
comparison_answers e p e' p' t o h h' g q =
    let passes = none_first (and (ap not h) (and (ap not h') (and (le-ltb time_most t g) none))) in
    let compares = engine_compares e p e' p' t (valid_bounds e p h) (valid_bounds e' p' h') g in
    ap Ok (q ∙ compares) ∙ sym (ap (λ v. comparison_by v (compare t e p e' p')) passes)
