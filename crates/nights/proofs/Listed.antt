-- The places of the tasks that ran: they rise, they are just the places whose byte is 1, and there are as many as ran. By induction on
-- the bytes, the first place apart: all later places are above it. Assumes nothing.
use mathlib.Core.Path.{◌≡◌, refl, sym, ap, ◌∙◌, subst}
use mathlib.Core.Logic.{◌↔◌}
use mathlib.Core.Bool.{Bool, true, false, cond}
use mathlib.Core.List.{List, [], ◌∷◌}
use Prim.Native.Nat.{ℕ, zero, suc, ◌+◌, ◌≤◌, ◌<◌}
use native.Mathlib.Omega.{arith}
use borrow.Author.Tests.{eqb-true, eq-eqb}
use lib.Dec.{eqb}
use lib.ListN.{length}
use Rattle.rule.specs.Places.{at, bit, sum, count, each}
use Rattle.rule.proofs.Places.{length_each, at_each}
use Rattle.writing.specs.AnswerLines.{places_from}
use Rattle.nights.specs.SlotLines.{Listed}

-- ---- rising

places_above : (i : ℕ) (bs : List ℕ) (a : ℕ) → a < length (places_from i bs) → i ≤ at (places_from i bs) a
unfolding places_from
places_above i [] a h = absurd (omega arith)
places_above i (b ∷ bs) a h = go (places_from (suc i) bs) (eqb b 1) a (places_above (suc i) bs) h
  where
    go : (rest : List ℕ) (t : Bool) (a : ℕ) → ((a : ℕ) → a < length rest → suc i ≤ at rest a)
        → a < length (cond t (i ∷ rest) rest) → i ≤ at (cond t (i ∷ rest) rest) a
    go rest true zero later h = omega arith
    go rest true (suc a) later h = omega (arith, later a (omega arith))
    go rest false a later h = omega (arith, later a h)

abbrev Rises : List ℕ → Type 0
Rises places = (a b : ℕ) → a < b → b < length places → at places a < at places b

pub places_rise : (i : ℕ) (bs : List ℕ) → Rises (places_from i bs)
unfolding places_from
places_rise i [] = λ a b l h. absurd (omega arith)
places_rise i (c ∷ bs) = go (places_from (suc i) bs) (eqb c 1) (places_above (suc i) bs) (places_rise (suc i) bs)
  where
    go : (rest : List ℕ) (t : Bool) → ((a : ℕ) → a < length rest → suc i ≤ at rest a) → Rises rest → Rises (cond t (i ∷ rest) rest)
    go rest true above later a zero l h = absurd (omega arith)
    go rest true above later zero (suc b) l h = omega (arith, above b (omega arith))
    go rest true above later (suc a) (suc b) l h = later a b (omega arith) (omega arith)
    go rest false above later a b l h = later a b l h

-- ---- just the places whose byte is 1

-- The place j of the whole is place k of these bytes, which begin at place i.
abbrev Ran : ℕ → List ℕ → ℕ → Type 0
Ran i bs j = (k : ℕ) × (k < length bs) × (j ≡ i + k) × (at bs k ≡ 1)

listed_ran : (i : ℕ) (bs : List ℕ) (j : ℕ) → Listed j (places_from i bs) → Ran i bs j
unfolding places_from
listed_ran i [] j (a, h, q) = absurd (omega arith)
listed_ran i (b ∷ bs) j l = go (places_from (suc i) bs) (eqb b 1) refl (λ m. later (listed_ran (suc i) bs j m)) l
  where
    later : Ran (suc i) bs j → Ran i (b ∷ bs) j
    later (k, h, q, one) = (suc k, omega arith, omega arith, one)

    go : (rest : List ℕ) (t : Bool) → eqb b 1 ≡ t → (Listed j rest → Ran i (b ∷ bs) j) → Listed j (cond t (i ∷ rest) rest) → Ran i (b ∷ bs) j
    go rest true e ih (zero, h, q) = (0, omega arith, omega arith, eqb-true b 1 e)
    go rest true e ih (suc a, h, q) = ih (a, omega arith, q)
    go rest false e ih l = ih l

ran_listed : (i : ℕ) (bs : List ℕ) (k : ℕ) → k < length bs → at bs k ≡ 1 → Listed (i + k) (places_from i bs)
unfolding places_from
ran_listed i [] k h one = absurd (omega arith)
ran_listed i (b ∷ bs) zero h one = rw (eq-eqb b 1 one) (0, omega arith, omega arith)
ran_listed i (b ∷ bs) (suc k) h one =
    go (places_from (suc i) bs) (eqb b 1) (subst (λ j. Listed j (places_from (suc i) bs)) (omega arith) (ran_listed (suc i) bs k (omega arith) one))
  where
    go : (rest : List ℕ) (t : Bool) → Listed (i + suc k) rest → Listed (i + suc k) (cond t (i ∷ rest) rest)
    go rest true (a, l, q) = (suc a, omega arith, q)
    go rest false m = m

-- ---- as many as ran

-- A sum with its first place apart.
first_apart : (n : ℕ) (f : ℕ → ℕ) → sum (suc n) f ≡ f 0 + sum n (λ i. f (suc i))
unfolding sum
first_apart zero f = omega arith
first_apart (suc n) f = omega (arith, first_apart n f)

pub places_count : (n i : ℕ) (test : ℕ → Bool) → length (places_from i (each n (λ j. bit (test j)))) ≡ count n test
unfolding places_from each sum
places_count zero i test = refl
places_count (suc n) i test =
    go (places_from (suc i) (each n (λ j. bit (test (suc j))))) (test 0) refl (places_count n (suc i) (λ j. test (suc j)))
  where
    go : (rest : List ℕ) (b : Bool) → test 0 ≡ b → length rest ≡ count n (λ j. test (suc j))
        → length (cond (eqb (bit (test 0)) 1) (i ∷ rest) rest) ≡ count (suc n) test
    go rest true e h = rw e (omega (arith, first_apart n (λ j. bit (test j)), ap bit e))
    go rest false e h = rw e (omega (arith, first_apart n (λ j. bit (test j)), ap bit e))

-- ---- bytes of a test

-- Of the bytes of a test just the places that pass are listed.
pub listed_tested : (n : ℕ) (test : ℕ → Bool) (i : ℕ) → Listed i (places_from 0 (each n (λ j. bit (test j)))) ↔ ((i < n) × (test i ≡ true))
listed_tested n test i = (λ l. passes (listed_ran 0 bytes i l), λ (h, q). listed h q)
  where
    bytes : List ℕ
    bytes = each n (λ j. bit (test j))

    whole : length bytes ≡ n
    whole = length_each n (λ j. bit (test j))

    bit_one : (b : Bool) → bit b ≡ 1 → b ≡ true
    bit_one true q = refl
    bit_one false q = absurd (omega arith)

    passes : Ran 0 bytes i → (i < n) × (test i ≡ true)
    passes (k, h, q, one) =
        let same : k ≡ i = omega arith in
        let l : i < n = omega (arith, whole) in
        (l, bit_one (test i) (sym (at_each n (λ j. bit (test j)) i l) ∙ ap (at bytes) (sym same) ∙ one))

    listed : i < n → test i ≡ true → Listed i (places_from 0 bytes)
    listed h q =
        let here : 0 + i ≡ i = omega arith in
        subst (λ j. Listed j (places_from 0 bytes)) here
        (ran_listed 0 bytes i (omega (arith, whole)) (at_each n (λ j. bit (test j)) i h ∙ ap bit q))
