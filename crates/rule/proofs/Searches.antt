-- A search that answers a place or none, and the lowest place that a test holds of: the library's search of two lists side by side is one
-- by places. Assumes nothing.
use Rattle.std.specs.Prelude.{Option, Some, None, position, zip}
use Rattle.std.specs.List.{position_or_len}
use Rattle.std.proofs.lemmas.Option.{same_Some}
use Rattle.std.proofs.lemmas.Slice.Zip.{length-zip}
use mathlib.Core.Bool.{Bool, true, false, cond, not}
use mathlib.Core.List.{List, [], ◌∷◌}
use mathlib.Core.Path.{◌≡◌, refl}
use native.Mathlib.Decide.{dec_lt}
use Prim.Native.Nat.{ℕ, suc, ◌+◌, ◌≤◌, ◌<◌}
use native.Mathlib.Omega.{arith}
use lib.ListN.{length}
use borrow.Author.Tests.{lt-ltb, le-ltb}
use Rattle.rule.specs.Places.{at, lowest, found}

pub found_some : (n place i : ℕ) → Some i ≡ found n place → (place < n) × (i ≡ place)
unfolding found
found_some n place i q = go (dec_lt place n)
  where
    go : Dec (place < n) → (place < n) × (i ≡ place)
    go (yes l) = (l, same_Some i place (rw (lt-ltb place n l) at q))
    go (no ne) = let none : ◌≡◌ {A = Option ℕ} (Some i) None = rw (le-ltb place n (omega arith)) at q in cc

pub found_none : (n place : ℕ) → None ≡ found n place → n ≤ place
unfolding found
found_none n place q = go (dec_lt place n)
  where
    go : Dec (place < n) → n ≤ place
    go (yes l) = let none : ◌≡◌ {A = Option ℕ} None (Some place) = rw (lt-ltb place n l) at q in absurd (cc)
    go (no ne) = omega arith

pub found_here : (n place i : ℕ) → i ≡ place → place < n → Some i ≡ found n place
unfolding found
found_here n place i e l = rw (lt-ltb place n l, e)

pub found_never : (n place : ℕ) → n ≤ place → None ≡ found n place
unfolding found
found_never n place l = rw (le-ltb place n l)

length_zip : (es ps : List ℕ) → length ps ≡ length es → length (zip es ps) ≡ length es
length_zip es ps same = rw (length-zip, same) (omega arith)

first_zip : (es ps : List ℕ) (test : ℕ → ℕ → Bool) → length ps ≡ length es
    → position_or_len (λ x. test x.0 x.1) (zip es ps) ≡ lowest (length es) (λ i. test (at es i) (at ps i))
unfolding lowest
first_zip [] ps test same = refl
first_zip (e ∷ es) [] test same = absurd (omega arith)
first_zip (e ∷ es) (p ∷ ps) test same = go (test e p) (first_zip es ps test (omega arith))
  where
    go : {m n : ℕ} (b : Bool) → m ≡ n → cond (not b) (1 + m) 0 ≡ cond b 0 (suc n)
    go true q = refl
    go false q = omega arith

-- The library's search of two lists side by side is a search by places.
pub lowest_zip : (es ps : List ℕ) (test : ℕ → ℕ → Bool) → length ps ≡ length es
    → position (λ x. test x.0 x.1) (zip es ps) ≡ found (length es) (lowest (length es) (λ i. test (at es i) (at ps i)))
unfolding found
lowest_zip es ps test same = rw (first_zip es ps test same, length_zip es ps same)
