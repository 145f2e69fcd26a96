-- A list that a loop writes place by place: after i turns its first i places have f, and the rest is as it was. Assumes nothing.
use mathlib.Core.Path.{◌≡◌, refl, ap}
use mathlib.Core.List.{List, [], ◌∷◌}
use Prim.Native.Nat.{ℕ, zero, suc, ◌≤◌, ◌<◌}
use native.Mathlib.Omega.{arith}
use lib.ListN.{length, set, take}
use Rattle.rule.specs.Places.{at, each}

unfoldable pub written : ℕ → (ℕ → ℕ) → List ℕ → List ℕ
written zero f xs = xs
written (suc i) f [] = []
written (suc i) f (x ∷ xs) = f 0 ∷ written i (λ j. f (suc j)) xs

pub written_none : (f : ℕ → ℕ) (xs : List ℕ) → xs ≡ written 0 f xs
unfolding written
written_none f xs = refl

pub written_set : (i : ℕ) (f : ℕ → ℕ) (xs : List ℕ) → set (written i f xs) i (f i) ≡ written (suc i) f xs
unfolding written
written_set zero f [] = refl
written_set zero f (x ∷ xs) = refl
written_set (suc i) f [] = refl
written_set (suc i) f (x ∷ xs) = ap (λ ys. f 0 ∷ ys) (written_set i (λ j. f (suc j)) xs)

-- the place that is next still has what it had
pub written_at : (i : ℕ) (f : ℕ → ℕ) (xs : List ℕ) → at (written i f xs) i ≡ at xs i
unfolding written
written_at zero f [] = refl
written_at zero f (x ∷ xs) = refl
written_at (suc i) f [] = refl
written_at (suc i) f (x ∷ xs) = written_at i (λ j. f (suc j)) xs

pub length_written : (i : ℕ) (f : ℕ → ℕ) (xs : List ℕ) → length (written i f xs) ≡ length xs
unfolding written
length_written zero f xs = refl
length_written (suc i) f [] = refl
length_written (suc i) f (x ∷ xs) = ap suc (length_written i (λ j. f (suc j)) xs)

pub written_all : (f : ℕ → ℕ) (xs : List ℕ) → written (length xs) f xs ≡ each (length xs) f
unfolding written each
written_all f [] = refl
written_all f (x ∷ xs) = ap (λ ys. f 0 ∷ ys) (written_all (λ j. f (suc j)) xs)

-- what is not written may be right already
pub written_rest : (i : ℕ) (f : ℕ → ℕ) (xs : List ℕ) → ((j : ℕ) → i ≤ j → j < length xs → at xs j ≡ f j) → written i f xs ≡ each (length xs) f
unfolding written each
written_rest zero f [] h = refl
written_rest zero f (x ∷ xs) h =
    cc (h 0 (omega arith) (omega arith), written_rest zero (λ j. f (suc j)) xs (λ j l m. h (suc j) (omega arith) (omega arith)))
written_rest (suc i) f [] h = refl
written_rest (suc i) f (x ∷ xs) h = ap (λ ys. f 0 ∷ ys) (written_rest i (λ j. f (suc j)) xs (λ j l m. h (suc j) (omega arith) (omega arith)))

-- the first places of a longer list
pub take_each : (k n : ℕ) (f : ℕ → ℕ) → k ≤ n → take k (each n f) ≡ each k f
unfolding each
take_each zero n f h = refl
take_each (suc k) zero f h = absurd (omega arith)
take_each (suc k) (suc n) f h = ap (λ ys. f 0 ∷ ys) (take_each k n (λ j. f (suc j)) (omega arith))
