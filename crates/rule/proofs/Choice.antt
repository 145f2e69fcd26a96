-- The chosen tasks are all urgent ones and then the first contenders in the order, M in all; and no other choice is.
-- Places of a strict total order have ranks 0, 1, 2, .. with none left out, so that exactly q of them have a rank below q.
use mathlib.Core.Path.{◌≡◌, refl, sym, ap, ◌∙◌}
use mathlib.Core.Logic.{◌⊎◌, inl, inr, ◌≢◌}
use mathlib.Core.Bool.{Bool, true, false, not, ◌&&◌, ◌||◌, true≢false}
use Prim.Native.Nat.{ℕ, zero, suc, ◌+◌, ◌-◌, ◌≤◌, ◌<◌, min}
use native.Mathlib.Decide.{dec_le}
use native.Mathlib.Omega.{arith}
use borrow.Author.Tests.{ltb-true, ltb-false, lt-ltb, le-ltb}
use lib.Dec.{ltb}
use Rattle.rule.specs.declared.Standing.{Standing}
use Rattle.rule.specs.declared.Standing.TheVariants.{Ahead, Punctual, Behind}
use Rattle.rule.specs.Places.{bit, sum, count}
use Rattle.rule.specs.Task.{Entry, standing, symbol}
use Rattle.rule.specs.Sets.{Field}
use Rattle.rule.specs.Slot.{is_ahead, is_behind, is_plus, is_minus, tnegru, urgent, contending, urgents, not_tnegrus, precedes, contenders_before, chosen}
use Rattle.rule.proofs.Tests.{both_true, and_ext, true_unless, test_ext, ltb_ext}
use Rattle.rule.proofs.Places.{count_ext, count_le, count_lt, count_union}
use Rattle.rule.proofs.Ordering.{precedes_irreflexive, precedes_transitive, precedes_total, precedes_asymmetric, asymmetric}

-- ---- ranks in a strict total order of the places that pass c

module _ (c : ℕ → Bool) (before : ℕ → ℕ → Bool) (irreflexive : (i : ℕ) → before i i ≡ false)
    (transitive : (x y z : ℕ) → before x y ≡ true → before y z ≡ true → before x z ≡ true)
    (total : (x y : ℕ) → x ≢ y → (before x y ≡ true) ⊎ (before y x ≡ true)) where
  -- How many of the first n come before i.
  abbrev pub rank : ℕ → ℕ → ℕ
  rank n i = count n (λ j. c j && before j i)

  -- what comes before x comes before y too
  pub before_onward : (x y : ℕ) → before x y ≡ true → (j : ℕ) → (c j && before j x) ≡ true → (c j && before j y) ≡ true
  before_onward x y h j e = let b = both_true (c j) (before j x) e in cc (b.0, transitive j x y b.1 h)

  pub rank_le : (n x y : ℕ) → before x y ≡ true → rank n x ≤ rank n y
  rank_le n x y h = count_le n (λ j. c j && before j x) (λ j. c j && before j y) (λ j l. before_onward x y h j)

  pub rank_lt : (n x y : ℕ) → x < n → c x ≡ true → before x y ≡ true → rank n x < rank n y
  rank_lt n x y l p h =
      count_lt n (λ j. c j && before j x) (λ j. c j && before j y) (λ j m. before_onward x y h j) x l (cc (irreflexive x)) (cc)

  -- The place of the lower rank comes before the other.
  pub lower_rank_before : (n x y : ℕ) → rank n x < rank n y → before x y ≡ true
  lower_rank_before n x y l = go (total x y (λ e. absurd (omega (arith, ap (rank n) e))))
    where
      go : (before x y ≡ true) ⊎ (before y x ≡ true) → before x y ≡ true
      go (inl h) = h
      go (inr h) = absurd (omega (arith, rank_le n y x h))

  -- How many of the first n that pass c have a rank below q.
  abbrev pub count_below : ℕ → ℕ → ℕ
  count_below n q = count n (λ i. c i && ltb (rank n i) q)

  -- Where a rank below q, place n counted, is a rank below p without it, place n adds what it is itself.
  pub count_below_suc : (n p q : ℕ) → ((i : ℕ) → i < n → c i ≡ true → ltb (rank (suc n) i) q ≡ ltb (rank n i) p)
      → count_below (suc n) q ≡ count_below n p + bit (c n && ltb (rank (suc n) n) q)
  unfolding sum
  count_below_suc n p q h =
      ap (λ x. x + bit (c n && ltb (rank (suc n) n) q))
      (count_ext n (λ i. c i && ltb (rank (suc n) i) q) (λ i. c i && ltb (rank n i) p)
      (λ i l. and_ext (c i) (ltb (rank (suc n) i) q) (ltb (rank n i) p) (h i l)))

  -- What a place n that passes does to the rank of another: one more if it comes before, nothing if it comes after.
  abbrev pub Moved : ℕ → ℕ → Type 0
  Moved n i =
      ((rank (suc n) i ≡ suc (rank n i)) × (rank n n ≤ rank n i)) ⊎ ((rank (suc n) i ≡ rank n i) × (rank n i < rank n n))

  pub rank_moved : (n i : ℕ) → c n ≡ true → i < n → c i ≡ true → Moved n i
  unfolding sum
  rank_moved n i e l k = go (total n i (omega arith))
    where
      go : (before n i ≡ true) ⊎ (before i n ≡ true) → Moved n i
      go (inl h) = inl (rw (e, h) (omega arith), rank_le n n i h)
      go (inr h) = inr (rw (e, asymmetric before irreflexive transitive i n h) (omega arith), rank_lt n i n l k h)

  pub ranks_below : (n q : ℕ) → count_below n q ≡ min q (count n c)
  unfolding sum
  ranks_below zero q = omega arith
  ranks_below (suc n) q = go (c n) refl (ranks_below n)
    where
      go : (b : Bool) → c n ≡ b → ((p : ℕ) → count_below n p ≡ min p (count n c)) → count_below (suc n) q ≡ min q (count (suc n) c)
      go false e ih = omega (arith, count_below_suc n q q (λ i l k. ap (λ r. ltb r q) (same i)), ih q, ap bit e, out)
        where
          same : (i : ℕ) → rank (suc n) i ≡ rank n i
          same i = rw e (omega arith)

          out : bit (c n && ltb (rank (suc n) n) q) ≡ 0
          out = rw e
      go true e ih = split (dec_le q (rank n n))
        where
          self : rank (suc n) n ≡ rank n n
          self = rw (e, irreflexive n) (omega arith)

          few : rank n n ≤ count n c
          few = count_le n (λ j. c j && before j n) c (λ j l h. (both_true (c j) (before j n) h).0)

          agree : (p : ℕ) → ((i : ℕ) → Moved n i → (rank (suc n) i < q → rank n i < p) × (rank n i < p → rank (suc n) i < q))
              → count_below (suc n) q ≡ count_below n p + bit (c n && ltb (rank (suc n) n) q)
          agree p h =
              count_below_suc n p q (λ i l k.
              let b = h i (rank_moved n i e l k) in
              ltb_ext (rank (suc n) i) q (rank n i) p b.0 b.1)

          split : Dec (q ≤ rank n n) → count_below (suc n) q ≡ min q (count (suc n) c)
          split (yes l) = omega (arith, agree q late, ih q, few, ap bit e, out)
            where
              late : (i : ℕ) → Moved n i → (rank (suc n) i < q → rank n i < q) × (rank n i < q → rank (suc n) i < q)
              late i (inl m) = omega arith
              late i (inr m) = omega arith

              out : bit (c n && ltb (rank (suc n) n) q) ≡ 0
              out = cc (le-ltb (rank (suc n) n) q (omega (arith, self)))
          split (no l) = omega (arith, agree (q - 1) early, ih (q - 1), ap bit e, inside)
            where
              early : (i : ℕ) → Moved n i → (rank (suc n) i < q → rank n i < q - 1) × (rank n i < q - 1 → rank (suc n) i < q)
              early i (inl m) = omega arith
              early i (inr m) = omega arith

              inside : bit (c n && ltb (rank (suc n) n) q) ≡ 1
              inside = cc (lt-ltb (rank (suc n) n) q (omega (arith, self)))

-- ---- the three classes of a slot

pub urgent_not_tnegru : (t : ℕ) (x : Entry) → urgent t x ≡ true → tnegru t x ≡ false
unfolding urgent tnegru
urgent_not_tnegru t x = go (standing t x) (not (is_minus (symbol x.e x.p t))) (not (is_plus (symbol x.e x.p t)))
  where
    go : (s : Standing) (a b : Bool) → (is_behind s && a) ≡ true → (is_ahead s && b) ≡ false
    go Ahead a b e = cc
    go Punctual a b e = refl
    go Behind a b e = refl

-- A task is of exactly one class.
pub data Class (t : ℕ) (x : Entry) : Type 0 where
  of_tnegru : tnegru t x ≡ true → urgent t x ≡ false → contending t x ≡ false → Class t x
  of_urgent : tnegru t x ≡ false → urgent t x ≡ true → contending t x ≡ false → Class t x
  of_contending : tnegru t x ≡ false → urgent t x ≡ false → contending t x ≡ true → Class t x

pub classes_apart : (t : ℕ) (x : Entry) → Class t x
unfolding contending
classes_apart t x = go (tnegru t x) (urgent t x) refl refl
  where
    go : (a b : Bool) → tnegru t x ≡ a → urgent t x ≡ b → Class t x
    go a true p q = let n = urgent_not_tnegru t x q in of_urgent n q (rw (n, q))
    go true false p q = of_tnegru p q (rw p)
    go false false p q = of_contending p q (rw (p, q))

pub urgent_not_contending : (t : ℕ) (x : Entry) → urgent t x ≡ true → contending t x ≡ false
unfolding contending
urgent_not_contending t x u = cc (urgent_not_tnegru t x u)

pub contending_not_urgent : (t : ℕ) (x : Entry) → contending t x ≡ true → urgent t x ≡ false
contending_not_urgent t x c = go (classes_apart t x)
  where
    go : Class t x → urgent t x ≡ false
    go (of_tnegru p q r) = q
    go (of_urgent p q r) = cc
    go (of_contending p q r) = q

-- ---- the tasks of a field

-- "All urgent tasks and then the first contenders in that order, M in all", and so no tnegru one.
pub record IsChoice (units t : ℕ) (f : Field) (ch : ℕ → Bool) : Type 0 where
  pub urgent_in : (i : ℕ) → i < f.size → urgent t (f.entry i) ≡ true → ch i ≡ true
  pub tnegru_out : (i : ℕ) → i < f.size → tnegru t (f.entry i) ≡ true → ch i ≡ false
  pub in_order : (x y : ℕ) → x < f.size → y < f.size → contending t (f.entry x) ≡ true → contending t (f.entry y) ≡ true
      → ch x ≡ true → ch y ≡ false → precedes t f x y ≡ true
  pub full : count f.size ch ≡ units

-- Who is not tnegru is urgent or contends, and never both.
pub not_tnegru_count : (t : ℕ) (f : Field) → not_tnegrus t f ≡ urgents t f + count f.size (λ i. contending t (f.entry i))
unfolding not_tnegrus urgents
not_tnegru_count t f =
    count_ext f.size (λ i. not (tnegru t (f.entry i))) (λ i. u i || c i) (λ i l. either i (classes_apart t (f.entry i)))
    ∙ count_union f.size u c (λ i l. urgent_not_contending t (f.entry i))
  where
    u : ℕ → Bool
    u i = urgent t (f.entry i)

    c : ℕ → Bool
    c i = contending t (f.entry i)

    either : (i : ℕ) → Class t (f.entry i) → not (tnegru t (f.entry i)) ≡ (u i || c i)
    either i (of_tnegru p q r) = cc
    either i (of_urgent p q r) = cc
    either i (of_contending p q r) = cc

module _ (units t : ℕ) (f : Field) (room : urgents t f ≤ units) (enough : units ≤ not_tnegrus t f) where
  -- As many contenders as there are units left have a rank below that number.
  pub chosen_count_places : count f.size (chosen units t f) ≡ units
  unfolding chosen contenders_before urgents
  chosen_count_places =
      omega (
        arith,
        count_ext f.size (chosen units t f) (λ i. u i || (c i && ltb (before i) left)) (λ i l. ap (λ v. u i || (c i && v)) (rest i)),
        count_union f.size u (λ i. c i && ltb (before i) left) (λ i l h. rw (urgent_not_contending t (f.entry i) h)),
        ranks_below c (precedes t f) (precedes_irreflexive t f) (precedes_transitive t f) (precedes_total t f) f.size left,
        not_tnegru_count t f,
      )
    where
      u : ℕ → Bool
      u i = urgent t (f.entry i)

      c : ℕ → Bool
      c i = contending t (f.entry i)

      before : ℕ → ℕ
      before i = contenders_before t f i

      left : ℕ
      left = units - urgents t f

      rest : (i : ℕ) → ltb (urgents t f + before i) units ≡ ltb (before i) left
      rest i = ltb_ext (urgents t f + before i) units (before i) left (λ l. omega arith) (λ l. omega arith)

  pub chosen_is_choice : IsChoice units t f (chosen units t f)
  unfolding chosen contenders_before
  chosen_is_choice =
      record {
        urgent_in = λ i l u. rw u;
        tnegru_out = λ i l n. out i n (classes_apart t (f.entry i));
        in_order = first;
        full = chosen_count_places;
      }
    where
      out : (i : ℕ) → tnegru t (f.entry i) ≡ true → Class t (f.entry i) → chosen units t f i ≡ false
      out i n (of_tnegru p q r) = rw (q, r)
      out i n (of_urgent p q r) = cc
      out i n (of_contending p q r) = cc

      by_rank : (i : ℕ) → contending t (f.entry i) ≡ true → chosen units t f i ≡ ltb (urgents t f + contenders_before t f i) units
      by_rank i c = rw (contending_not_urgent t (f.entry i) c, c)

      first : (x y : ℕ) → x < f.size → y < f.size → contending t (f.entry x) ≡ true → contending t (f.entry y) ≡ true
          → chosen units t f x ≡ true → chosen units t f y ≡ false → precedes t f x y ≡ true
      first x y l m cx cy p q =
          let a = ltb-true (urgents t f + contenders_before t f x) units (sym (by_rank x cx) ∙ p) in
          let b = ltb-false (urgents t f + contenders_before t f y) units (sym (by_rank y cy) ∙ q) in
          lower_rank_before (λ i. contending t (f.entry i)) (precedes t f) (precedes_irreflexive t f) (precedes_transitive t f)
          (precedes_total t f) f.size x y (omega arith)

module _ {units t : ℕ} {f : Field} where
  -- Where two choices differ a task contends.
  pub differ_contend : {a b : ℕ → Bool} → IsChoice units t f a → IsChoice units t f b → (i : ℕ) → i < f.size → a i ≡ true → b i ≡ false
      → contending t (f.entry i) ≡ true
  differ_contend {a} {b} A B i l p q = go (classes_apart t (f.entry i))
    where
      go : Class t (f.entry i) → contending t (f.entry i) ≡ true
      go (of_tnegru n u r) = cc (A.tnegru_out i l n)
      go (of_urgent n u r) = cc (B.urgent_in i l u)
      go (of_contending n u r) = r

  -- A place x that only the first has comes before, and after, every place that only the second has. So there is none of these,
  -- and the first has more places than the second.
  pub choice_inside : {a b : ℕ → Bool} → IsChoice units t f a → IsChoice units t f b → (x : ℕ) → x < f.size → a x ≡ true → b x ≡ true
  choice_inside {a} {b} A B x l p =
      true_unless (b x) (λ q. omega (arith, count_lt f.size b a (λ y m r. true_unless (a y) (crossed q y m r)) x l q p, A.full, B.full))
    where
      crossed : b x ≡ false → (y : ℕ) → y < f.size → b y ≡ true → a y ≡ false → ⊥
      crossed q y m r s =
          let cx = differ_contend A B x l p q in
          let cy = differ_contend B A y m r s in
          true≢false (sym (B.in_order y x m l cy cx r q) ∙ precedes_asymmetric t f x y (A.in_order x y l m cx cy p s))

  pub one_choice : {a b : ℕ → Bool} → IsChoice units t f a → IsChoice units t f b → (i : ℕ) → i < f.size → a i ≡ b i
  one_choice {a} {b} A B i l = test_ext (a i) (b i) (choice_inside A B i l) (choice_inside B A i l)
