-- Tests that hold together, and tests that are one because each holds where the other does. Assumes nothing.
use mathlib.Core.Path.{◌≡◌, refl, sym}
use mathlib.Core.Bool.{Bool, true, false, ◌&&◌, ◌||◌, true≢false}
use Prim.Native.Nat.{ℕ, ◌<◌}
use borrow.Author.Tests.{ltb-true, lt-ltb}
use lib.Dec.{ltb}

pub both_true : (a b : Bool) → (a && b) ≡ true → (a ≡ true) × (b ≡ true)
both_true true b e = (refl, e)
both_true false b e = absurd (true≢false (sym e))

pub neither_true : (a b : Bool) → (a || b) ≡ false → (a ≡ false) × (b ≡ false)
neither_true true b e = absurd (true≢false e)
neither_true false b e = (refl, e)

pub or_left : (a b : Bool) → a ≡ true → (a || b) ≡ true
or_left a b h = rw h

pub or_right : (a b : Bool) → b ≡ true → (a || b) ≡ true
or_right true b h = refl
or_right false b h = h

pub and_ext : (a b c : Bool) → (a ≡ true → b ≡ c) → (a && b) ≡ (a && c)
and_ext true b c h = h refl
and_ext false b c h = refl

pub true_unless : (a : Bool) → (a ≡ false → ⊥) → a ≡ true
true_unless true h = refl
true_unless false h = absurd (h refl)

-- two tests are one where each holds if the other does
pub test_ext : (a b : Bool) → (a ≡ true → b ≡ true) → (b ≡ true → a ≡ true) → a ≡ b
test_ext true b h k = sym (h refl)
test_ext false true h k = k refl
test_ext false false h k = refl

pub ltb_ext : (a b c d : ℕ) → (a < b → c < d) → (c < d → a < b) → ltb a b ≡ ltb c d
ltb_ext a b c d h k = test_ext (ltb a b) (ltb c d) (λ e. lt-ltb c d (h (ltb-true a b e))) (λ e. lt-ltb a b (k (ltb-true c d e)))
