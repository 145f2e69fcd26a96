-- Lists by their places, and what is counted, summed, searched for or written over the places from 0 to n - 1.
use Rattle.std.specs.Prelude.{Bool, true, false, cond, Option, Some, None, List, [], ◌∷◌, ℕ, zero, suc, ◌+◌, ltb, get_or}

-- What a list of numbers has at a place, and 0 past its end. No entry looks there: refusal 1 comes first.
abbrev pub at : List ℕ → ℕ → ℕ
at xs i = get_or xs i 0

-- 1 for a test that holds, 0 for one that does not.
abbrev pub bit : Bool → ℕ
bit true = 1
bit false = 0

-- The sum of f over the first n places.
unfoldable pub sum : ℕ → (ℕ → ℕ) → ℕ
sum zero f = 0
sum (suc n) f = sum n f + f n

-- How many of the first n places pass the test.
abbrev pub count : ℕ → (ℕ → Bool) → ℕ
count n test = sum n (λ i. bit (test i))

-- The lowest of the first n places that passes the test; n where none does.
unfoldable pub lowest : ℕ → (ℕ → Bool) → ℕ
lowest zero test = 0
lowest (suc n) test = let later = suc (lowest n (λ i. test (suc i))) in cond (test 0) 0 later

-- A place that is searched for below n: the place, or none where the search came to n.
unfoldable pub found : ℕ → ℕ → Option ℕ
found n place = cond (ltb place n) (Some place) None

-- The list of f at the first n places.
unfoldable pub each : ℕ → (ℕ → ℕ) → List ℕ
each zero f = []
each (suc n) f = f 0 ∷ each n (λ i. f (suc i))
