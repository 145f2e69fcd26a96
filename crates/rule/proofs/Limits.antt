-- The tests of the limits as orders of numbers. Assumes nothing.
use mathlib.Core.Bool.{true}
use mathlib.Core.Path.{◌≡◌}
use Prim.Native.Nat.{ℕ, ◌-◌, ◌≤◌, ◌<◌}
use native.Mathlib.Omega.{arith}
use borrow.Author.Tests.{leb-true, le-leb}
use lib.Dec.{leb}
use Rattle.rule.specs.Limits.{within, bounded_by}
use Rattle.rule.proofs.Tests.{both_true}

pub within_numbers : (least most x : ℕ) → within least most x ≡ true → (least ≤ x) × (x ≤ most)
within_numbers least most x h =
    let b = both_true (leb least x) (leb x most) h in (leb-true least x b.0, leb-true x most b.1)

pub bounded_numbers : (most e p : ℕ) → bounded_by most e p ≡ true → (0 < e) × (e < p) × (p ≤ most)
unfolding bounded_by
bounded_numbers most e p h =
    let b = both_true (within 2 most p) (within 1 (p - 1) e) h in
    let period = within_numbers 2 most p b.0 in
    let requirement = within_numbers 1 (p - 1) e b.1 in
    (omega arith, omega arith, omega arith)

pub numbers_bounded : (most e p : ℕ) → 0 < e → e < p → p ≤ most → bounded_by most e p ≡ true
unfolding bounded_by
numbers_bounded most e p some light small =
    rw (le-leb 2 p (omega arith), le-leb p most small, le-leb 1 e some, le-leb e (p - 1) (omega arith))
