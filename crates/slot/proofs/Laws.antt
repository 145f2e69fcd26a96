-- What the leaves of the choice rely on. Assumes nothing.
use mathlib.Core.Path.{◌≡◌, refl, sym, ◌∙◌}
use mathlib.Core.Bool.{Bool, true, false, ◌&&◌}
use mathlib.Core.List.{List, [], ◌∷◌}
use Prim.Native.Nat.{ℕ, zero, suc, ◌+◌, ◌≤◌, ◌<◌}
use native.Mathlib.Numerals.{add-one}
use native.Mathlib.Omega.{arith}
use mir.Val.{bool_byte}
use borrow.Author.Tests.{le-ltb}
use lib.Dec.{ltb}
use lib.Seq.{set-get_or}
use lib.ListN.{length, set, take}
use Rattle.rule.specs.declared.Order.{Order}
use Rattle.rule.specs.Limits.{bounded_by, multiple_most, time_most}
use Rattle.std.specs.Prelude.{count_by, cond}
use Rattle.std.proofs.lemmas.List.Sums.{sum_by-cons}
use Rattle.standing.specs.declared.Rung.{Rung}
use Rattle.standing.specs.Judged.{rung_at}
use Rattle.standing.proofs.Lists.{sum_first}
use Rattle.rule.specs.Places.{at, bit, sum, count, each}
use Rattle.rule.specs.Task.{string, compare}
use Rattle.rule.specs.Slot.{goes_first}
use Rattle.rule.proofs.Ordering.{compare_self}
use Rattle.rule.proofs.Tests.{both_true, ltb_ext}
use Rattle.rule.proofs.Places.{count_le, count_lt, sum_const}
use Rattle.rule.proofs.Written.{written, written_set, written_at, written_all}
use Rattle.order.specs.Engine.{engine}
use Rattle.order.proofs.Limits.{takes_bounds, engine_compares}
use Rattle.slot.specs.Rungs.{urgent_to, contending_to, on_urgent, on_contending, goes_before, rank_to, chosen_by}

-- Two tasks with the same record tie.
pub same_record : (t e p e' p' : ℕ) (lower : Bool) → e ≡ e' → p ≡ p' → lower ≡ goes_first (compare t e p e' p') lower
unfolding compare
same_record t e p e' p' lower q r = rw (← q, ← r, compare_self (string e p t))

-- What the engine answers of tasks that it takes is the comparison.
pub engine_says : (t e p e' p' : ℕ) (o : Order) → bounded_by multiple_most e p ≡ true → bounded_by multiple_most e' p' ≡ true → t ≤ time_most
    → o ≡ engine e p e' p' t → compare t e p e' p' ≡ o
engine_says t e p e' p' o h h' c q = sym (q ∙ engine_compares e p e' p' t (takes_bounds e p h) (takes_bounds e' p' h') c)

-- ---- a number that is 1 for a test that holds and 0 for one that does not

module _ (b : Bool) {r : ℕ} (answers : r ≡ bit b) where
  -- 0 says that it does not hold,
  pub told_no : r ≡ 0 → b ≡ false
  told_no z = go b (sym answers ∙ z)
    where
      go : (b : Bool) → bit b ≡ 0 → b ≡ false
      go true e = absurd (omega arith)
      go false e = refl

  -- any other number that it holds,
  pub told_yes : (r ≡ 0 → ⊥) → b ≡ true
  told_yes n = go b (λ e. n (answers ∙ e))
    where
      go : (b : Bool) → (bit b ≡ 0 → ⊥) → b ≡ true
      go true h = refl
      go false h = absurd (h refl)

  -- and it is no more than 1.
  pub told_few : r ≤ 1
  told_few = rw answers (go b)
    where
      go : (b : Bool) → bit b ≤ 1
      go true = omega arith
      go false = omega arith

-- A test's answer as the code's byte.
pub as_byte : (b : Bool) → bool_byte b ≡ bit b
as_byte true = refl
as_byte false = refl

as_bit : (b : Bool) → cond b 1 0 ≡ bit b
as_bit true = refl
as_bit false = refl

-- ---- a count over places

-- No more places pass than there are.
pub count_few : (n : ℕ) (test : ℕ → Bool) → count n test ≤ n
count_few n test = omega (arith, count_le n test (λ i. true) (λ i l q. refl), sum_const n 1)

-- The library's count of the first n of a list is the count over its first n places.
pub count_places : (test : Rung → Bool) (n : ℕ) (rungs : List Rung) → n ≤ length rungs
    → count_by test (take n rungs) ≡ count n (λ i. test (rung_at rungs i))
unfolding sum
count_places test zero rungs h = refl
count_places test (suc n) [] h = absurd (omega arith)
count_places test (suc n) (r ∷ rungs) h =
    let first = sum_first n (λ i. bit (test (rung_at (r ∷ rungs) i))) in
    let rest = count_places test n rungs (omega arith) in
    let whole : cond (test r) 1 0 + count_by test (take n rungs) ≡ bit (test r) + count n (λ i. test (rung_at rungs i)) = cc (as_bit (test r), rest) in
    sum_by-cons (λ x. cond (test x) 1 0) r (take n rungs) ∙ whole ∙ sym first

-- ---- the room for contenders

-- A contender has fewer contenders before it than there are: it is none of them itself.
pub rank_lt : (n t i : ℕ) (es ps : List ℕ) (rungs : List Rung) → i < n → on_contending rungs i ≡ true
    → rank_to n es ps rungs t i < contending_to n rungs
unfolding compare
rank_lt n t i es ps rungs l h =
    let never : goes_before es ps t i i ≡ false = cc (compare_self (string (at es i) (at ps i) t), le-ltb i i (omega arith)) in
    count_lt n (λ j. on_contending rungs j && goes_before es ps t j i) (λ j. on_contending rungs j)
    (λ j m q. (both_true (on_contending rungs j) (goes_before es ps t j i) q).0) i l (rw h never) h

-- Which places are chosen beside the urgent ones, where there is room for so many contenders.
module _ (es ps : List ℕ) (rungs : List Rung) (t i room : ℕ) where
  abbrev units : ℕ
  units = urgent_to (length es) rungs + room

  pub chosen_urgent : on_urgent rungs i ≡ true → chosen_by units es ps rungs t i ≡ true
  unfolding chosen_by
  chosen_urgent u = rw u

  pub chosen_neither : on_urgent rungs i ≡ false → on_contending rungs i ≡ false → chosen_by units es ps rungs t i ≡ false
  unfolding chosen_by
  chosen_neither u h = rw (u, h)

  pub chosen_contending : on_urgent rungs i ≡ false → on_contending rungs i ≡ true
      → chosen_by units es ps rungs t i ≡ ltb (rank_to (length es) es ps rungs t i) room
  unfolding chosen_by
  chosen_contending u h =
      let urgents = urgent_to (length es) rungs in
      let rank = rank_to (length es) es ps rungs t i in
      rw (u, h) (ltb_ext (urgents + rank) (urgents + room) rank room (λ l. omega arith) (λ l. omega arith))

-- ---- a list that is written place by place

module _ (i : ℕ) (f : ℕ → ℕ) (xs ys : List ℕ) (so_far : ys ≡ written i f xs) where
  pub next_is : at ys i ≡ at xs i
  next_is = rw so_far (written_at i f xs)

  pub turn_written : (v : ℕ) → v ≡ f i → set ys i v ≡ written (i + 1) f xs
  turn_written v e = rw (add-one, so_far, e) (written_set i f xs)

  pub turn_kept : at xs i ≡ f i → ys ≡ written (i + 1) f xs
  turn_kept e = sym (set-get_or ys i 0) ∙ turn_written (at ys i) (next_is ∙ e)

  pub all_written : (n : ℕ) → i ≡ n → length xs ≡ n → ys ≡ each n f
  all_written n e l = so_far ∙ rw (e, ← l) (written_all f xs)
