-- What is summed, counted, searched for or written over the first n places depends on those places alone, and place by place:
-- each law is an induction on n, with the last place apart for sums and counts, the first for searches and lists.
use mathlib.Core.Path.{◌≡◌, refl, sym, ap, ◌∙◌, subst}
use mathlib.Core.Logic.{◌⊎◌, inl, inr, ◌≢◌}
use mathlib.Core.Bool.{Bool, true, false, cond, ◌||◌}
use Prim.Native.Nat.{ℕ, zero, suc, ◌+◌, ◌*◌, ◌≤◌, ◌<◌}
use native.Mathlib.Nat.{add-suc, add-zero, eq-or-lt_of_le, le_of_suc-le-suc, mul-zero}
use native.Mathlib.Omega.{arith}
use lib.ListN.{length}
use Rattle.rule.specs.Places.{at, bit, sum, count, lowest, each}

-- ---- a fact at every place below suc n: it holds at n, and at every place below n

module _ {P : ℕ → Type 0} (n : ℕ) where
  pub below : ((i : ℕ) → i < suc n → P i) → (i : ℕ) → i < n → P i
  below h i l = h i (omega arith)

  pub last : ((i : ℕ) → i < suc n → P i) → P n
  last h = h n (omega arith)

  pub with_last : P n → ((i : ℕ) → i < n → P i) → (i : ℕ) → i < suc n → P i
  with_last p h i l = go (eq-or-lt_of_le (le_of_suc-le-suc l))
    where
      go : (i ≡ n) ⊎ (i < n) → P i
      go (inl e) = subst P (sym e) p
      go (inr m) = h i m

-- ---- sums

pub sum_ext : (n : ℕ) (f g : ℕ → ℕ) → ((i : ℕ) → i < n → f i ≡ g i) → sum n f ≡ sum n g
unfolding sum
sum_ext zero f g h = refl
sum_ext (suc n) f g h = cc (sum_ext n f g (below n h), last n h)

pub sum_le : (n : ℕ) (f g : ℕ → ℕ) → ((i : ℕ) → i < n → f i ≤ g i) → sum n f ≤ sum n g
unfolding sum
sum_le zero f g h = omega arith
sum_le (suc n) f g h = omega (arith, sum_le n f g (below n h), last n h)

-- at most as much everywhere, and less at one place
pub sum_lt : (n : ℕ) (f g : ℕ → ℕ) → ((i : ℕ) → i < n → f i ≤ g i) → (z : ℕ) → z < n → f z < g z → sum n f < sum n g
unfolding sum
sum_lt zero f g h z l k = absurd (omega arith)
sum_lt (suc n) f g h z l k =
    with_last {P = λ z. f z < g z → sum n f + f n < sum n g + g n} n (λ k. omega (arith, sum_le n f g (below n h)))
    (λ z m k. omega (arith, sum_lt n f g (below n h) z m k, last n h)) z l k

pub sum_add : (n : ℕ) (f g : ℕ → ℕ) → sum n (λ i. f i + g i) ≡ sum n f + sum n g
unfolding sum
sum_add zero f g = refl
sum_add (suc n) f g = omega (arith, sum_add n f g)

pub sum_mul : (n : ℕ) (f : ℕ → ℕ) (c : ℕ) → sum n (λ i. f i * c) ≡ sum n f * c
unfolding sum
sum_mul zero f c = omega arith
sum_mul (suc n) f c = omega (arith, sum_mul n f c)

pub sum_const : (n c : ℕ) → sum n (λ i. c) ≡ n * c
unfolding sum
sum_const zero c = omega arith
sum_const (suc n) c = omega (arith, sum_const n c)

-- the first a places, and then b more
pub sum_append : (a b : ℕ) (f : ℕ → ℕ) → sum (a + b) f ≡ sum a f + sum b (λ i. f (a + i))
unfolding sum
sum_append a zero f = rw add-zero (omega arith)
sum_append a (suc b) f = rw add-suc (omega (arith, sum_append a b f))

-- a table's sum by rows is its sum by columns
pub sum_swap : (a b : ℕ) (f : ℕ → ℕ → ℕ) → sum a (λ i. sum b (λ j. f i j)) ≡ sum b (λ j. sum a (λ i. f i j))
unfolding sum
sum_swap zero b f = sym (sum_const b 0 ∙ mul-zero b)
sum_swap (suc a) b f = ap (λ x. x + sum b (f a)) (sum_swap a b f) ∙ sym (sum_add b (λ j. sum a (λ i. f i j)) (f a))

-- the same but at z, where g has one more
pub sum_bump : (n : ℕ) (f g : ℕ → ℕ) (z : ℕ) → z < n → g z ≡ suc (f z) → ((i : ℕ) → i < n → i ≢ z → g i ≡ f i)
    → sum n g ≡ suc (sum n f)
unfolding sum
sum_bump zero f g z l e h = absurd (omega arith)
sum_bump (suc n) f g z l e h =
    with_last {P = λ z. g z ≡ suc (f z) → ((i : ℕ) → i < suc n → i ≢ z → g i ≡ f i) → sum n g + g n ≡ suc (sum n f + f n)} n
    (λ e h. omega (arith, sum_ext n g f (λ i m. h i (omega arith) (omega arith))))
    (λ z m e h. omega (arith, sum_bump n f g z m e (below n h), last n h (omega arith))) z l e h

-- ---- counts

pub bit_le : (a b : Bool) → (a ≡ true → b ≡ true) → bit a ≤ bit b
bit_le true b h = rw (h refl) (omega arith)
bit_le false b h = omega arith

pub bit_or : (a b : Bool) → (a ≡ true → b ≡ false) → bit (a || b) ≡ bit a + bit b
bit_or true b h = rw (h refl)
bit_or false b h = omega arith

module _ (n : ℕ) (a b : ℕ → Bool) where
  pub count_ext : ((i : ℕ) → i < n → a i ≡ b i) → count n a ≡ count n b
  count_ext h = sum_ext n (λ i. bit (a i)) (λ i. bit (b i)) (λ i l. ap bit (h i l))

  pub count_le : ((i : ℕ) → i < n → a i ≡ true → b i ≡ true) → count n a ≤ count n b
  count_le h = sum_le n (λ i. bit (a i)) (λ i. bit (b i)) (λ i l. bit_le (a i) (b i) (h i l))

  -- every place that passes a passes b, and z passes b alone
  pub count_lt : ((i : ℕ) → i < n → a i ≡ true → b i ≡ true) → (z : ℕ) → z < n → a z ≡ false → b z ≡ true
      → count n a < count n b
  count_lt h z l p q =
      sum_lt n (λ i. bit (a i)) (λ i. bit (b i)) (λ i m. bit_le (a i) (b i) (h i m)) z l (rw (p, q) (omega arith))

  -- no place passes both
  pub count_union : ((i : ℕ) → i < n → a i ≡ true → b i ≡ false) → count n (λ i. a i || b i) ≡ count n a + count n b
  count_union h =
      sum_ext n (λ i. bit (a i || b i)) (λ i. bit (a i) + bit (b i)) (λ i l. bit_or (a i) (b i) (h i l))
      ∙ sum_add n (λ i. bit (a i)) (λ i. bit (b i))

-- ---- a search

-- a place that passes, or none does
pub find : (n : ℕ) (P : ℕ → Type 0) → ((i : ℕ) → Dec (P i)) → ((i : ℕ) × (i < n) × P i) ⊎ ((i : ℕ) → i < n → ¬ P i)
find zero P d = inr (λ i l. absurd (omega arith))
find (suc n) P d = go (d n) (find n P d)
  where
    Found : ℕ → Type 0
    Found m = ((i : ℕ) × (i < m) × P i) ⊎ ((i : ℕ) → i < m → ¬ P i)

    go : Dec (P n) → Found n → Found (suc n)
    go (yes p) earlier = inl (n, omega arith, p)
    go (no q) (inl (i, l, p)) = inl (i, omega arith, p)
    go (no q) (inr none) = inr (with_last n q none)

-- ---- the lowest place that passes

pub lowest_le : (n : ℕ) (test : ℕ → Bool) → lowest n test ≤ n
unfolding lowest
lowest_le zero test = omega arith
lowest_le (suc n) test = go (test 0) (lowest_le n (λ i. test (suc i)))
  where
    go : {m : ℕ} (b : Bool) → m ≤ n → cond b 0 (suc m) ≤ suc n
    go true l = omega arith
    go false l = omega arith

pub lowest_first : (n : ℕ) (test : ℕ → Bool) (j : ℕ) → j < lowest n test → test j ≡ false
unfolding lowest
lowest_first zero test j l = absurd (omega arith)
lowest_first (suc n) test j l = go j (test 0) refl (lowest_first n (λ i. test (suc i))) l
  where
    go : {m : ℕ} (j : ℕ) (b : Bool) → test 0 ≡ b → ((i : ℕ) → i < m → test (suc i) ≡ false) → j < cond b 0 (suc m) → test j ≡ false
    go j true e later l = absurd (omega arith)
    go zero false e later l = e
    go (suc j) false e later l = later j (omega arith)

pub lowest_passes : (n : ℕ) (test : ℕ → Bool) → lowest n test < n → test (lowest n test) ≡ true
unfolding lowest
lowest_passes zero test l = absurd (omega arith)
lowest_passes (suc n) test l = go (test 0) refl (lowest_passes n (λ i. test (suc i))) l
  where
    go : {m : ℕ} (b : Bool) → test 0 ≡ b → (m < n → test (suc m) ≡ true) → cond b 0 (suc m) < suc n → test (cond b 0 (suc m)) ≡ true
    go true e later l = e
    go false e later l = later (omega arith)

pub lowest_found : (n i : ℕ) (test : ℕ → Bool) → i < n → ((j : ℕ) → j < i → test j ≡ false) → test i ≡ true → lowest n test ≡ i
unfolding lowest
lowest_found zero i test l before here = absurd (omega arith)
lowest_found (suc n) zero test l before here = rw here
lowest_found (suc n) (suc i) test l before here =
    rw (before 0 (omega arith)) (ap suc (lowest_found n i (λ j. test (suc j)) (omega arith) (λ j m. before (suc j) (omega arith)) here))

pub lowest_none : (n : ℕ) (test : ℕ → Bool) → ((j : ℕ) → j < n → test j ≡ false) → lowest n test ≡ n
unfolding lowest
lowest_none zero test h = refl
lowest_none (suc n) test h = rw (h 0 (omega arith)) (ap suc (lowest_none n (λ j. test (suc j)) (λ j m. h (suc j) (omega arith))))

pub lowest_ext : (n : ℕ) (a b : ℕ → Bool) → ((i : ℕ) → i < n → a i ≡ b i) → lowest n a ≡ lowest n b
unfolding lowest
lowest_ext zero a b h = refl
lowest_ext (suc n) a b h =
    cc (h 0 (omega arith), lowest_ext n (λ i. a (suc i)) (λ i. b (suc i)) (λ i l. h (suc i) (omega arith)))

-- ---- a list written place by place

pub length_each : (n : ℕ) (f : ℕ → ℕ) → length (each n f) ≡ n
unfolding each
length_each zero f = refl
length_each (suc n) f = ap suc (length_each n (λ i. f (suc i)))

pub at_each : (n : ℕ) (f : ℕ → ℕ) (i : ℕ) → i < n → at (each n f) i ≡ f i
unfolding each
at_each zero f i l = absurd (omega arith)
at_each (suc n) f zero l = refl
at_each (suc n) f (suc i) l = at_each n (λ i. f (suc i)) i (omega arith)

pub each_ext : (n : ℕ) (f g : ℕ → ℕ) → ((i : ℕ) → i < n → f i ≡ g i) → each n f ≡ each n g
unfolding each
each_ext zero f g h = refl
each_ext (suc n) f g h = cc (h 0 (omega arith), each_ext n (λ i. f (suc i)) (λ i. g (suc i)) (λ i l. h (suc i) (omega arith)))
