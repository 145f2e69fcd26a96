-- Lists with other lists stored from a place on: what is before that place and past the last store is as it was, and two runs of stores
-- in a row are one. Assumes nothing.
use mathlib.Core.Path.{◌≡◌, refl, ◌∙◌}
use mathlib.Core.List.{List, [], ◌∷◌, ◌++◌}
use Prim.Native.Nat.{ℕ, suc, ◌+◌, ◌≤◌}
use native.Mathlib.Nat.{add-zero}
use native.Mathlib.Omega.{arith}
use lib.ListN.{length, take, drop, set, length-append}
use lib.Seq.{sets, sets-eq, set_out, drop-set-lt, take_at, length-take-le}

pub sets_append : (l : List ℕ) (i : ℕ) (xs ys : List ℕ) → sets (sets l i xs) (i + length xs) ys ≡ sets l i (xs ++ ys)
sets_append l i [] ys = rw add-zero
sets_append l i (x ∷ xs) ys =
    let same : i + suc (length xs) ≡ suc i + length xs = omega arith in
    rw same (sets_append (set l i x) (suc i) xs ys)

-- Past the end nothing is stored.
pub sets_out : (l : List ℕ) (i : ℕ) (xs : List ℕ) → length l ≤ i → sets l i xs ≡ l
sets_out l i [] h = refl
sets_out l i (x ∷ xs) h = rw (set_out l i x h) (sets_out l (suc i) xs (omega arith))

pub take_sets : (l : List ℕ) (i : ℕ) (xs : List ℕ) → i + length xs ≤ length l → take (i + length xs) (sets l i xs) ≡ take i l ++ xs
take_sets l i xs h =
    let before = length-take-le i l (omega arith) in
    rw (sets-eq xs l i h) (take_at (take i l ++ xs) (drop (i + length xs) l) (i + length xs) (simp length-append (omega arith)))

pub drop_sets : (l : List ℕ) (i : ℕ) (xs : List ℕ) (k : ℕ) → i + length xs ≤ k → drop k (sets l i xs) ≡ drop k l
drop_sets l i [] k h = refl
drop_sets l i (x ∷ xs) k h = drop_sets (set l i x) (suc i) xs k (omega arith) ∙ drop-set-lt k l i x (omega arith)
