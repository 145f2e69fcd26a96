-- The comparison of strings is a total order: it ties exactly equal strings, turns round with them, and goes on from one to the
-- next, since the symbols do so place by place. Places of a field are ordered by their strings, equal strings by the places.
use mathlib.Core.Path.{◌≡◌, refl, sym, ◌∙◌}
use mathlib.Core.Logic.{◌⊎◌, inl, inr, ◌≢◌}
use mathlib.Core.Bool.{Bool, true, false, true≢false}
use mathlib.Core.List.{List, [], ◌∷◌}
use Prim.Native.Nat.{ℕ, ◌<◌}
use native.Mathlib.Decide.{dec_lt}
use native.Mathlib.Omega.{arith}
use borrow.Author.Tests.{ltb-true, lt-ltb, le-ltb}
use lib.Dec.{ltb}
use Rattle.rule.specs.declared.Symbol.{Symbol}
use Rattle.rule.specs.declared.Symbol.TheVariants.{Minus, Zero, Plus}
use Rattle.rule.specs.declared.Order.{Order}
use Rattle.rule.specs.declared.Order.TheVariants.{First, Second, Tie}
use Rattle.rule.specs.Task.{string, higher, or_later, compare_strings, compare}
use Rattle.rule.specs.Sets.{Field}
use Rattle.rule.specs.Slot.{goes_first, precedes}

-- The answer with the two sides exchanged.
unfoldable pub flip : Order → Order
flip First = Second
flip Second = First
flip Tie = Tie

-- ---- symbols

pub higher_self : (x : Symbol) → higher x x ≡ Tie
unfolding higher
higher_self Minus = refl
higher_self Zero = refl
higher_self Plus = refl

pub higher_flip : (x y : Symbol) → higher y x ≡ flip (higher x y)
unfolding higher flip
higher_flip Minus Minus = refl
higher_flip Minus Zero = refl
higher_flip Minus Plus = refl
higher_flip Zero Minus = refl
higher_flip Zero Zero = refl
higher_flip Zero Plus = refl
higher_flip Plus Minus = refl
higher_flip Plus Zero = refl
higher_flip Plus Plus = refl

pub higher_tie : (x y : Symbol) → higher x y ≡ Tie → x ≡ y
unfolding higher
higher_tie Minus Minus e = refl
higher_tie Minus Zero e = cc
higher_tie Minus Plus e = cc
higher_tie Zero Minus e = cc
higher_tie Zero Zero e = refl
higher_tie Zero Plus e = cc
higher_tie Plus Minus e = cc
higher_tie Plus Zero e = cc
higher_tie Plus Plus e = refl

-- Minus goes before nothing, Zero before Minus alone.
pub higher_trans : (x y z : Symbol) → higher x y ≡ First → higher y z ≡ First → higher x z ≡ First
unfolding higher
higher_trans x Minus Minus p q = cc
higher_trans x Minus Zero p q = cc
higher_trans x Minus Plus p q = cc
higher_trans x Zero Zero p q = cc
higher_trans x Zero Plus p q = cc
higher_trans x Plus Plus p q = cc
higher_trans Minus Zero Minus p q = cc
higher_trans Zero Zero Minus p q = cc
higher_trans Plus Zero Minus p q = refl
higher_trans Minus Plus Minus p q = cc
higher_trans Zero Plus Minus p q = refl
higher_trans Plus Plus Minus p q = refl
higher_trans Minus Plus Zero p q = cc
higher_trans Zero Plus Zero p q = cc
higher_trans Plus Plus Zero p q = refl

-- ---- strings

pub compare_self : (a : List Symbol) → compare_strings a a ≡ Tie
unfolding compare_strings or_later
compare_self [] = refl
compare_self (x ∷ a) = cc (higher_self x, compare_self a)

pub flip_later : (o p : Order) → flip (or_later o p) ≡ or_later (flip o) (flip p)
unfolding flip or_later
flip_later First p = refl
flip_later Second p = refl
flip_later Tie p = refl

pub compare_flip : (a b : List Symbol) → compare_strings b a ≡ flip (compare_strings a b)
unfolding compare_strings
compare_flip [] [] = unfold flip in refl
compare_flip [] (y ∷ b) = unfold flip in refl
compare_flip (x ∷ a) [] = unfold flip in refl
compare_flip (x ∷ a) (y ∷ b) = cc (higher_flip x y, compare_flip a b, flip_later (higher x y) (compare_strings a b))

-- what an answer of one place and the later ones says of each
pub later_tie : (o p : Order) → or_later o p ≡ Tie → (o ≡ Tie) × (p ≡ Tie)
unfolding or_later
later_tie First p e = (cc, cc)
later_tie Second p e = (cc, cc)
later_tie Tie p e = (refl, e)

pub later_first : (o p : Order) → or_later o p ≡ First → (o ≡ First) ⊎ ((o ≡ Tie) × (p ≡ First))
unfolding or_later
later_first First p e = inl refl
later_first Second p e = inl e
later_first Tie p e = inr (refl, e)

pub tie_equal : (a b : List Symbol) → compare_strings a b ≡ Tie → a ≡ b
unfolding compare_strings
tie_equal [] [] e = refl
tie_equal [] (y ∷ b) e = cc
tie_equal (x ∷ a) [] e = cc
tie_equal (x ∷ a) (y ∷ b) e =
    let t = later_tie (higher x y) (compare_strings a b) e in
    cc (higher_tie x y t.0, tie_equal a b t.1)

pub first_trans : (a b c : List Symbol) → compare_strings a b ≡ First → compare_strings b c ≡ First → compare_strings a c ≡ First
unfolding compare_strings or_later
first_trans [] [] c p q = cc
first_trans [] (y ∷ b) c p q = cc
first_trans (x ∷ a) [] [] p q = cc
first_trans (x ∷ a) [] (z ∷ c) p q = cc
first_trans (x ∷ a) (y ∷ b) [] p q = refl
first_trans (x ∷ a) (y ∷ b) (z ∷ c) p q =
    go (later_first (higher x y) (compare_strings a b) p) (later_first (higher y z) (compare_strings b c) q) (first_trans a b c)
  where
    Rest : List Symbol → List Symbol → Type 0
    Rest s t = compare_strings s t ≡ First

    go : (higher x y ≡ First) ⊎ ((higher x y ≡ Tie) × Rest a b) → (higher y z ≡ First) ⊎ ((higher y z ≡ Tie) × Rest b c)
        → (Rest a b → Rest b c → Rest a c) → or_later (higher x z) (compare_strings a c) ≡ First
    go (inl h) (inl k) ih = cc (higher_trans x y z h k)
    go (inl h) (inr k) ih = cc (higher_tie y z k.0)
    go (inr h) (inl k) ih = cc (higher_tie x y h.0)
    go (inr h) (inr k) ih = cc (higher_tie x y h.0, ih h.1 k.1)

-- Neither does a beat b nor b beat c: then a does not beat c.
pub not_first_trans : (a b c : List Symbol) → compare_strings a b ≢ First → compare_strings b c ≢ First → compare_strings a c ≢ First
not_first_trans a b c p q r = go (compare_strings b c) refl
  where
    go : (o : Order) → compare_strings b c ≡ o → ⊥
    go First e = q e
    go Second e = p (first_trans a c b r (unfold flip in cc (compare_flip b c)))
    go Tie e = p (cc (tie_equal b c e))

-- ---- any test of two places

pub asymmetric : (before : ℕ → ℕ → Bool) → ((i : ℕ) → before i i ≡ false)
    → ((x y z : ℕ) → before x y ≡ true → before y z ≡ true → before x z ≡ true) → (x y : ℕ) → before x y ≡ true → before y x ≡ false
asymmetric before irreflexive transitive x y h = go (before y x) refl
  where
    go : (b : Bool) → before y x ≡ b → b ≡ false
    go false e = refl
    go true e = sym (transitive x y x h e) ∙ irreflexive x

-- ---- the places of a field

module _ (t : ℕ) (f : Field) where
  -- The string of the task at a place.
  unfoldable pub string_at : ℕ → List Symbol
  string_at i = string (f.entry i).e (f.entry i).p t

  -- The string of j beats that of i, or the two tie and j is the lower place.
  abbrev pub Earlier : ℕ → ℕ → Type 0
  Earlier j i = (compare_strings (string_at j) (string_at i) ≡ First) ⊎ ((string_at j ≡ string_at i) × (j < i))

  pub precedes_earlier : (j i : ℕ) → precedes t f j i ≡ true → Earlier j i
  unfolding precedes compare string_at
  precedes_earlier j i = go (compare_strings (string_at j) (string_at i)) refl
    where
      go : (o : Order) → compare_strings (string_at j) (string_at i) ≡ o → goes_first o (ltb j i) ≡ true → Earlier j i
      go First e h = inl e
      go Second e h = absurd (true≢false (sym h))
      go Tie e h = inr (tie_equal (string_at j) (string_at i) e, ltb-true j i h)

  pub earlier_precedes : (j i : ℕ) → Earlier j i → precedes t f j i ≡ true
  unfolding precedes compare string_at
  earlier_precedes j i (inl e) = rw e
  earlier_precedes j i (inr (e, l)) = cc (compare_self (string_at i), lt-ltb j i l)

  pub precedes_irreflexive : (i : ℕ) → precedes t f i i ≡ false
  unfolding precedes compare string_at
  precedes_irreflexive i = cc (compare_self (string_at i), le-ltb i i (omega arith))

  pub precedes_transitive : (x y z : ℕ) → precedes t f x y ≡ true → precedes t f y z ≡ true → precedes t f x z ≡ true
  precedes_transitive x y z p q = earlier_precedes x z (go (precedes_earlier x y p) (precedes_earlier y z q))
    where
      go : Earlier x y → Earlier y z → Earlier x z
      go (inl a) (inl b) = inl (first_trans (string_at x) (string_at y) (string_at z) a b)
      go (inl a) (inr b) = inl (rw (← b.0) a)
      go (inr a) (inl b) = inl (rw a.0 b)
      go (inr a) (inr b) = inr (a.0 ∙ b.0, omega arith)

  pub precedes_asymmetric : (x y : ℕ) → precedes t f x y ≡ true → precedes t f y x ≡ false
  precedes_asymmetric = asymmetric (precedes t f) precedes_irreflexive precedes_transitive

  pub precedes_total : (x y : ℕ) → x ≢ y → (precedes t f x y ≡ true) ⊎ (precedes t f y x ≡ true)
  precedes_total x y n = go (compare_strings (string_at x) (string_at y)) refl
    where
      by_place : string_at x ≡ string_at y → Dec (x < y) → (precedes t f x y ≡ true) ⊎ (precedes t f y x ≡ true)
      by_place e (yes l) = inl (earlier_precedes x y (inr (e, l)))
      by_place e (no l) = inr (earlier_precedes y x (inr (sym e, omega arith)))

      go : (o : Order) → compare_strings (string_at x) (string_at y) ≡ o → (precedes t f x y ≡ true) ⊎ (precedes t f y x ≡ true)
      go First e = inl (earlier_precedes x y (inl e))
      go Second e = inr (earlier_precedes y x (inl (unfold flip in cc (compare_flip (string_at x) (string_at y)))))
      go Tie e = by_place (tie_equal (string_at x) (string_at y) e) (dec_lt x y)
