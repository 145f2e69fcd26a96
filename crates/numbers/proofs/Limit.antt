-- A number under a limit is the number itself where it is at most the limit, and nothing otherwise; so an answer tells which of
-- the two holds. By cases on the test that the definition makes.
use mathlib.Core.Path.{◌≡◌}
use Prim.Native.Nat.{ℕ, ◌≤◌, ◌<◌}
use native.Mathlib.Omega.{arith}
use borrow.Author.Tests.{le-leb, lt-leb}
use Rattle.std.specs.Prelude.{None, Some}
use Rattle.std.proofs.lemmas.Bool.Decides.{nat_tests}
use Rattle.numbers.specs.Multiple.{within}

module _ (most l : ℕ) where
  -- What is at most the limit is told.
  pub within_is_at : l ≤ most → within most l ≡ Some l
  within_is_at h = simp (le-leb l most h)

  -- Of what is above it nothing is told.
  pub within_is_above : most < l → within most l ≡ None
  within_is_above h = simp (lt-leb l most h)

  -- What is told is the number itself, and at most the limit.
  pub at_tells : (n : ℕ) → within most l ≡ Some n → (n ≡ l) × (n ≤ most)
  at_tells n told = grind (arith, nat_tests)

  -- Where nothing is told the number is above the limit.
  pub above_tells : within most l ≡ None → most < l
  above_tells told = grind (arith, nat_tests)
