-- A search over one place more, and a list written place by place: a store changes just the place that it names.
use mathlib.Core.Bool.{Bool, true, false, cond, not}
use mathlib.Core.List.{List, [], ◌∷◌, map}
use mathlib.Core.Logic.{◌≢◌}
use mathlib.Core.Path.{◌≡◌, refl, sym, ap, ◌∙◌}
use native.Mathlib.Decide.{ℕ_discrete}
use Prim.Native.Nat.{ℕ, zero, suc, ◌+◌, ◌≤◌, ◌<◌}
use native.Mathlib.Nat.{add-zero}
use native.Mathlib.Numerals.{add-one}
use native.Mathlib.Omega.{arith}
use lib.Dec.{ltb}
use lib.ListN.{length, length-set, set, get_or}
use Rattle.std.proofs.lemmas.List.{get_or-set_same, get_or-set_other}
use borrow.Author.Tests.{lt-ltb}
use Rattle.std.specs.Prelude.{position, sum as list_sum}
use Rattle.std.specs.List.{range_with_len, position_or_len}
use Rattle.std.proofs.lemmas.List.FromFn.{fill_by_all, length-range_with_len, length-map-range_with_len, get_or-map-range_with_len}
use Rattle.std.proofs.lemmas.List.Sums.{sum_by-cons}
use Rattle.rule.specs.Places.{at, sum, lowest, found, each}
use Rattle.rule.proofs.Places.{lowest_first, lowest_passes, lowest_found, lowest_none, with_last, each_ext}
use Rattle.rule.proofs.Tests.{ltb_ext}

-- ---- the lowest place of one more

module _ (n : ℕ) (test : ℕ → Bool) where
  pub lowest_early : lowest n test < n → lowest (suc n) test ≡ lowest n test
  lowest_early h = lowest_found (suc n) (lowest n test) test (omega arith) (lowest_first n test) (lowest_passes n test h)

  pub lowest_last : n ≤ lowest n test → test n ≡ true → lowest (suc n) test ≡ n
  lowest_last h here = lowest_found (suc n) n test (omega arith) (λ j l. lowest_first n test j (omega arith)) here

  pub lowest_never : n ≤ lowest n test → test n ≡ false → lowest (suc n) test ≡ suc n
  lowest_never h here =
      lowest_none (suc n) test (with_last {P = λ j. test j ≡ false} n here (λ j l. lowest_first n test j (omega arith)))

first_range : (a n : ℕ) (test g : ℕ → Bool) → ((i : ℕ) → test (a + i) ≡ g i) → position_or_len test (range_with_len a n) ≡ lowest n g
unfolding lowest
first_range a zero test g h = refl
first_range a (suc n) test g h =
    let here : test a ≡ g 0 = rw add-zero at (h 0) in
    let one : (i : ℕ) → a + 1 + i ≡ a + suc i = λ i. omega arith in
    rw here (go (g 0) (first_range (a + 1) n test (λ i. g (suc i)) (λ i. rw (one i) (h (suc i)))))
  where
    go : {l m : ℕ} (b : Bool) → l ≡ m → cond (not b) (1 + l) 0 ≡ cond b 0 (suc m)
    go true q = refl
    go false q = omega arith

-- The library's search of the first n places is the search for the lowest.
pub lowest_range : (n : ℕ) (test : ℕ → Bool) → position test (range_with_len 0 n) ≡ found n (lowest n test)
unfolding found
lowest_range n test = rw (first_range 0 n test test (λ i. ap test (omega arith)), length-range_with_len)

-- ---- a sum

-- The first place apart, where the definition takes the last.
pub sum_first : (n : ℕ) (f : ℕ → ℕ) → sum (suc n) f ≡ f 0 + sum n (λ i. f (suc i))
unfolding sum
sum_first zero f = omega arith
sum_first (suc n) f = omega (arith, sum_first n f)

-- The library's sum of a list is the sum over its places.
pub sum_places : (xs : List ℕ) → list_sum xs ≡ sum (length xs) (at xs)
unfolding sum
sum_places [] = refl
sum_places (x ∷ xs) =
    let rest : list_sum (x ∷ xs) ≡ x + sum (length xs) (at xs) = sum_by-cons (λ n. n) x xs ∙ ap (λ n. x + n) (sum_places xs) in
    rest ∙ sym (sum_first (length xs) (at (x ∷ xs)))

-- ---- a list made place by place

-- Where two functions agree below n, so do the lists of the two.
pub listed_ext : {X : Type 0} (n : ℕ) (f g : ℕ → X) → ((j : ℕ) → j < n → f j ≡ g j) → map f (range_with_len 0 n) ≡ map g (range_with_len 0 n)
listed_ext n f g h =
    fill_by_all g (map f (range_with_len 0 n)) n (f 0) (length-map-range_with_len f 0 n)
    (λ k l. get_or-map-range_with_len f 0 n k k (f 0) l (omega arith) ∙ h k l)

pub set_listed : {X : Type 0} (n i : ℕ) (f g : ℕ → X) (v : X) → v ≡ g i → ((j : ℕ) → j ≢ i → f j ≡ g j)
    → set (map f (range_with_len 0 n)) i v ≡ map g (range_with_len 0 n)
set_listed {X} n i f g v here others =
    fill_by_all g (set (map f (range_with_len 0 n)) i v) n v (length-set (map f (range_with_len 0 n)) i v ∙ length-map-range_with_len f 0 n)
    (λ k l. go k l (ℕ_discrete k i))
  where
    go : (k : ℕ) → k < n → Dec (k ≡ i) → get_or (set (map f (range_with_len 0 n)) i v) k v ≡ g k
    go k l (yes e) =
        let long : k < length (map f (range_with_len 0 n)) = rw (length-map-range_with_len f 0 n) l in
        rw (← e) (get_or-set_same (map f (range_with_len 0 n)) k v v long ∙ here ∙ ap g (sym e))
    go k l (no ne) = get_or-set_other (map f (range_with_len 0 n)) i k v v ne ∙ get_or-map-range_with_len f 0 n k k v l (omega arith) ∙ others k ne

-- Where the first i places of a list are written, a store at i writes one more.
pub listed_more : {X : Type 0} (n i : ℕ) (f : ℕ → X) (none : X) (xs : List X) (v : X)
    → xs ≡ map (λ j. cond (ltb j i) (f j) none) (range_with_len 0 n) → v ≡ f i
    → set xs i v ≡ map (λ j. cond (ltb j (i + 1)) (f j) none) (range_with_len 0 n)
listed_more n i f none xs v written here =
    rw (written, add-one)
    (set_listed n i (λ j. cond (ltb j i) (f j) none) (λ j. cond (ltb j (suc i)) (f j) none) v (rw (lt-ltb i (suc i) (omega arith)) here)
    (λ j ne. ap (λ b. cond b (f j) none) (ltb_ext j i j (suc i) (λ l. omega arith) (λ l. omega (arith, ne)))))

-- ---- the same of a list of numbers that is made from its first place on

-- A store changes just the place that it names.
pub set_each : (n i : ℕ) (f g : ℕ → ℕ) (v : ℕ) → v ≡ g i → ((j : ℕ) → j ≢ i → f j ≡ g j) → set (each n f) i v ≡ each n g
unfolding each
set_each zero i f g v here others = refl
set_each (suc n) zero f g v here others =
    cc (here, each_ext n (λ j. f (suc j)) (λ j. g (suc j)) (λ j l. others (suc j) (omega arith)))
set_each (suc n) (suc i) f g v here others =
    cc (others 0 (omega arith), set_each n i (λ j. f (suc j)) (λ j. g (suc j)) v here (λ j ne. others (suc j) (λ q. ne (omega arith))))

-- Where the first i places of a list are written, a store at i writes one more.
pub each_more : (n i : ℕ) (f : ℕ → ℕ) (xs : List ℕ) (v : ℕ) → xs ≡ each n (λ j. cond (ltb j i) (f j) 0) → v ≡ f i
    → set xs i v ≡ each n (λ j. cond (ltb j (i + 1)) (f j) 0)
each_more n i f xs v written here =
    rw (written, add-one)
    (set_each n i (λ j. cond (ltb j i) (f j) 0) (λ j. cond (ltb j (suc i)) (f j) 0) v (rw (lt-ltb i (suc i) (omega arith)) here)
    (λ j ne. ap (λ b. cond b (f j) 0) (ltb_ext j i j (suc i) (λ l. omega arith) (λ l. omega (arith, ne)))))
