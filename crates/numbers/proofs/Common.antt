-- The least common multiple of a list is what its name says: each number of the list divides it, and it divides every number
-- that all of them divide. It holds number by number from the end, since the greatest common divisor scales with its numbers.
use mathlib.Core.List.{List, [], ◌∷◌, reverse}
use mathlib.Core.Logic.{⊎_elim}
use mathlib.Core.Path.{◌≡◌, ap, ◌∙◌}
use Prim.Native.Nat.{ℕ, zero, suc, ◌+◌, ◌-◌, ◌*◌, ◌/◌, ◌<◌, ◌≤◌, ◌∣◌, suc-le-suc}
use native.Mathlib.Nat.{dvd_refl, dvd_trans, dvd-zero, one-dvd, dvd-mul_left, dvd-mul_right, dvd_antisymm, dvd_of_mul-dvd-mul_right, div-mul_cancel, eq-zero_of_zero-dvd, eq-zero-or-pos, le_of_dvd, le_of_suc-le-suc, mul_comm, mul-dvd-mul_left, mul-dvd-mul_right, mul-pos, mul_right_comm}
use native.Mathlib.Omega.{arith}
use lib.ListN.{length, get_or, drop}
use lib.Seq.{drop-cons}
use Rattle.std.proofs.lemmas.Grind.{get_or_default_zero}
use Rattle.std.proofs.lemmas.List.{get_or-reverse, length-reverse}
use Rattle.numbers.specs.Divide.{gcd}
use Rattle.numbers.specs.Multiple.{lcm, lcm_all, IsLcmAll}
use Rattle.numbers.proofs.Euclid.{gcd_is_gcd, gcd_scaled, lowest_same_value, lowest_above_pos}

left_divides_lcm : (a b : ℕ) → a ∣ lcm a b
unfolding lcm
left_divides_lcm a b = rw (lowest_same_value a b) (dvd-mul_right a (b / gcd a b))

right_divides_lcm : (a b : ℕ) → b ∣ lcm a b
unfolding lcm
right_divides_lcm a b = dvd-mul_left b (a / gcd a b)

-- The least common multiple times the divisor is the product.
lcm_times_gcd : (a b : ℕ) → lcm a b * gcd a b ≡ a * b
unfolding lcm
lcm_times_gcd a b =
    mul_right_comm (a / gcd a b) b (gcd a b) ∙ ap (λ x. x * b) (div-mul_cancel (gcd a b) (gcd_is_gcd a b).0)

lcm_divides : (a b m : ℕ) → a ∣ m → b ∣ m → lcm a b ∣ m
lcm_divides a b m p q = ⊎_elim none some (eq-zero-or-pos (gcd a b))
  where
    -- The divisor is 0 only where both numbers are, and then so is every common multiple.
    none : gcd a b ≡ 0 → lcm a b ∣ m
    none e =
        let a-zero : a ≡ 0 = eq-zero_of_zero-dvd (rw e at (gcd_is_gcd a b).0) in
        let m-zero : m ≡ 0 = eq-zero_of_zero-dvd (rw a-zero at p) in
        rw m-zero (dvd-zero (lcm a b))

    some : 0 < gcd a b → lcm a b ∣ m
    some h =
        dvd_of_mul-dvd-mul_right (lcm a b) h
        (rw (lcm_times_gcd a b) (gcd_scaled a b m (a * b) (rw (mul_comm m a) (mul-dvd-mul_left b a q)) (mul-dvd-mul_right a p b)))

one_more : (p : ℕ) (ps : List ℕ) (l : ℕ) → IsLcmAll ps l → IsLcmAll (p ∷ ps) (lcm p l)
one_more p ps l rest = record { multiple = multiple; least = least }
  where
    multiple : (i : ℕ) → i < length (p ∷ ps) → get_or (p ∷ ps) i 0 ∣ lcm p l
    multiple zero h = left_divides_lcm p l
    multiple (suc i) h = dvd_trans (get_or ps i 0) (rest.multiple i (le_of_suc-le-suc h)) (right_divides_lcm p l)

    least : (m : ℕ) → ((i : ℕ) → i < length (p ∷ ps) → get_or (p ∷ ps) i 0 ∣ m) → lcm p l ∣ m
    least m all = lcm_divides p l m (all 0 (omega arith)) (rest.least m (λ i h. all (suc i) (suc-le-suc h)))

pub lcm_all_lem : (ps : List ℕ) → IsLcmAll ps (lcm_all ps)
unfolding lcm_all
lcm_all_lem [] = record { multiple = λ i h. absurd (omega arith); least = λ m all. one-dvd m }
lcm_all_lem (p ∷ ps) = one_more p ps (lcm_all ps) (lcm_all_lem ps)

pub lcm_all_one : {ps : List ℕ} {l l' : ℕ} → IsLcmAll ps l → IsLcmAll ps l' → l ≡ l'
lcm_all_one {ps} {l} {l'} p q = dvd_antisymm (p.least l' q.multiple) (q.least l p.multiple)

pub each_divides_lcm_all : (ps : List ℕ) (i : ℕ) → i < length ps → get_or ps i 0 ∣ lcm_all ps
each_divides_lcm_all ps = (lcm_all_lem ps).multiple

pub lcm_all_zero : (ps : List ℕ) (i : ℕ) → i < length ps → get_or ps i 0 ≡ 0 → lcm_all ps ≡ 0
lcm_all_zero ps i h e = eq-zero_of_zero-dvd (rw e at (each_divides_lcm_all ps i h))

pub lcm_all_pos : (ps : List ℕ) → ((i : ℕ) → i < length ps → 0 < get_or ps i 0) → 0 < lcm_all ps
unfolding lcm_all lcm
lcm_all_pos [] all = omega arith
lcm_all_pos (p ∷ ps) all =
    mul-pos (lowest_above_pos p (lcm_all ps) (all 0 (omega arith))) (lcm_all_pos ps (λ i h. all (suc i) (suc-le-suc h)))

-- Where no number is 0 each is at most the least common multiple.
pub each_le_lcm_all : (ps : List ℕ)
    → ((i : ℕ) → i < length ps → 0 < get_or ps i 0)
    → (i : ℕ) → i < length ps → get_or ps i 0 ≤ lcm_all ps
each_le_lcm_all ps all i h = le_of_dvd (lcm_all_pos ps all) (each_divides_lcm_all ps i h)

rest_divides_lcm_all : (ps : List ℕ) (i : ℕ) → lcm_all (drop i ps) ∣ lcm_all ps
unfolding lcm_all
rest_divides_lcm_all ps zero = dvd_refl (lcm_all ps)
rest_divides_lcm_all [] (suc i) = dvd_refl 1
rest_divides_lcm_all (p ∷ ps) (suc i) =
    dvd_trans (lcm_all (drop i ps)) (rest_divides_lcm_all ps i) (right_divides_lcm p (lcm_all ps))

-- The numbers from one place on: the one there, and the rest.
pub lcm_all_from : (ps : List ℕ) (i : ℕ) → 0 < i → i ≤ length ps
    → lcm_all (drop (i - 1) ps) ≡ lcm (get_or ps (i - 1) 0) (lcm_all (drop i ps))
unfolding lcm_all
lcm_all_from ps zero pos h = absurd (omega arith)
lcm_all_from ps (suc i) pos h = let e : suc i - 1 ≡ i = omega arith in rw e (ap lcm_all (drop-cons ps i 0 h))

-- One number more from the end.
pub lcm_all_last : (ps : List ℕ) (k p : ℕ) → k < length (reverse ps) → p ≡ get_or (reverse ps) k p
    → lcm_all (drop (length ps - (k + 1)) ps) ≡ lcm p (lcm_all (drop (length ps - k) ps))
unfolding lcm_all
lcm_all_last ps k p h e =
    let within = rw length-reverse at h in
    let i = length ps - (k + 1) in
    let next : suc i ≡ length ps - k = omega arith in
    let back : length ps - 1 - k ≡ i = omega arith in
    let number : p ≡ get_or ps i 0 = e ∙ get_or-reverse ps k p within ∙ ap (λ j. get_or ps j p) back ∙ get_or_default_zero ps i p (omega arith) in
    let step : lcm_all (drop i ps) ≡ lcm (get_or ps i 0) (lcm_all (drop (suc i) ps)) = ap lcm_all (drop-cons ps i 0 (omega arith)) in
    cc

pub rest_le_lcm_all : (ps : List ℕ) (i : ℕ) → ((k : ℕ) → k < length ps → 0 < get_or ps k 0) → lcm_all (drop i ps) ≤ lcm_all ps
rest_le_lcm_all ps i all = le_of_dvd (lcm_all_pos ps all) (rest_divides_lcm_all ps i)
