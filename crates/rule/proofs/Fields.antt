-- What a slot says of a field depends on its entries below its size alone. Assumes nothing.
use mathlib.Core.Path.{◌≡◌, ap}
use mathlib.Core.Bool.{true, not, ◌&&◌}
use Prim.Native.Nat.{ℕ, ◌<◌}
use Rattle.rule.specs.Places.{count}
use Rattle.rule.specs.Task.{Entry}
use Rattle.rule.specs.Sets.{Field}
use Rattle.rule.specs.Slot.{tnegru, urgent, contending, urgents, not_tnegrus, precedes, contenders_before, chosen}
use Rattle.rule.proofs.Places.{count_ext, count_lt}
use Rattle.rule.proofs.Ordering.{precedes_irreflexive}
use Rattle.rule.proofs.Tests.{both_true}

-- Two fields of one size whose entries agree below it.
module _ (t n : ℕ) (a b : ℕ → Entry) (same : (i : ℕ) → i < n → a i ≡ b i) where
  abbrev f : Field
  f = record { size = n; entry = a }

  abbrev g : Field
  g = record { size = n; entry = b }

  pub same_urgents : urgents t f ≡ urgents t g
  unfolding urgents
  same_urgents = count_ext n (λ i. urgent t (a i)) (λ i. urgent t (b i)) (λ i l. ap (urgent t) (same i l))

  pub same_not_tnegrus : not_tnegrus t f ≡ not_tnegrus t g
  unfolding not_tnegrus
  same_not_tnegrus = count_ext n (λ i. not (tnegru t (a i))) (λ i. not (tnegru t (b i))) (λ i l. ap (λ x. not (tnegru t x)) (same i l))

  same_precedes : (j i : ℕ) → j < n → i < n → precedes t f j i ≡ precedes t g j i
  unfolding precedes
  same_precedes j i l m = rw (same j l, same i m)

  same_before : (i : ℕ) → i < n → contenders_before t f i ≡ contenders_before t g i
  unfolding contenders_before
  same_before i l =
      count_ext n (λ j. contending t (a j) && precedes t f j i) (λ j. contending t (b j) && precedes t g j i)
      (λ j m. rw (same_precedes j i m l, same j m))

  pub same_chosen : (units i : ℕ) → i < n → chosen units t f i ≡ chosen units t g i
  unfolding chosen
  same_chosen units i l = rw (same_urgents, same_before i l, same i l)

-- A contender has fewer contenders before it than there are: it is none of them itself.
pub before_lt_contenders : (t : ℕ) (f : Field) (i : ℕ) → i < f.size → contending t (f.entry i) ≡ true
    → contenders_before t f i < count f.size (λ j. contending t (f.entry j))
unfolding contenders_before
before_lt_contenders t f i l h =
    count_lt f.size (λ j. contending t (f.entry j) && precedes t f j i) (λ j. contending t (f.entry j))
    (λ j m q. (both_true (contending t (f.entry j)) (precedes t f j i) q).0) i l (rw (h, precedes_irreflexive t f i)) h
