-- Every string ends within p symbols, and a comparison as a derivation: the symbols differ here, both end here, or they are
-- the same and the comparison goes on. A derivation has one answer, there always is one, and `compare` answers it: so
-- whoever proves an engine right derives, and does not compute. Assumes nothing.
use mathlib.Core.Path.{◌≡◌, refl, sym, ap, ◌∙◌}
use mathlib.Core.Logic.{◌≢◌}
use mathlib.Core.List.{List, [], ◌∷◌}
use Prim.Native.Nat.{ℕ, zero, suc, ◌+◌, ◌-◌, ◌*◌, ◌/◌, ◌%◌, ◌<◌, ◌≤◌}
use native.Mathlib.Nat.{div-add-mod, mod-lt, zero-add}
use native.Mathlib.Omega.{arith}
use lib.ListN.{length}
use Rattle.rule.specs.declared.Symbol.{Symbol}
use Rattle.rule.specs.declared.Symbol.TheVariants.{Minus, Zero, Plus}
use Rattle.rule.specs.declared.Order.{Order}
use Rattle.rule.specs.declared.Order.TheVariants.{First, Second, Tie}
use Rattle.rule.specs.Task.{symbol, go_on, symbols_from, string, higher, or_later, compare_strings, compare}
use Rattle.rule.proofs.Symbols.{zero≢minus, zero≢plus, zero_before_multiple}
use Rattle.rule.proofs.Ordering.{higher_self}

-- ---- strings end

-- One of the n symbols from i on is 0.
pub data EndsBy (a : ℕ → Symbol) : ℕ → ℕ → Type 0 where
  here : {n i : ℕ} → a i ≡ Zero → EndsBy a (suc n) i
  later : {n i : ℕ} → EndsBy a n (suc i) → EndsBy a (suc n) i

ends_at : (a : ℕ → Symbol) (n d i : ℕ) → d < n → a (d + i) ≡ Zero → EndsBy a n i
ends_at a zero d i l z = absurd (omega arith)
ends_at a (suc n) zero i l z = here (ap a (sym (zero-add i)) ∙ z)
ends_at a (suc n) (suc d) i l z =
    let q : d + suc i ≡ suc d + i = omega arith in
    later (ends_at a n d (suc i) (omega arith) (ap a q ∙ z))

-- Of any p symbols in a row one is 0: the one just before the next multiple of p.
pub ends_within : (e p i : ℕ) → 0 < e → e < p → EndsBy (symbol e p) p i
ends_within e p i some light =
    let d = div-add-mod i p in
    let r = mod-lt i {m = p} (omega arith) in
    let n = p - suc (i % p) in
    let q : suc (n + i) ≡ p * suc (i / p) = omega arith in
    ends_at (symbol e p) p n i (omega arith) (zero_before_multiple e p (n + i) (suc (i / p)) some light q)

-- The last symbol of a list is 0, and no other is.
pub data Ended : List Symbol → Type 0 where
  last : Ended (Zero ∷ [])
  more : {s : Symbol} {rest : List Symbol} → s ≢ Zero → Ended rest → Ended (s ∷ rest)

ended : (e p n i : ℕ) → EndsBy (symbol e p) n i → Ended (symbols_from n e p i) × (length (symbols_from n e p i) ≤ n)
unfolding symbols_from go_on
ended e p zero i w = elim w [ ]
ended e p (suc n) i w = go (symbol e p i) refl w (ended e p n (suc i))
  where
    rest : List Symbol
    rest = symbols_from n e p (suc i)

    on : {s : Symbol} → symbol e p i ≡ s → s ≢ Zero → EndsBy (symbol e p) (suc n) i → (EndsBy (symbol e p) n (suc i) → Ended rest × (length rest ≤ n)) → Ended (s ∷ rest) × (length (s ∷ rest) ≤ suc n)
    on q m (here z) ih = absurd (m (sym q ∙ z))
    on q m (later v) ih = let r = ih v in (more m r.0, omega (arith, r.1))

    go : (s : Symbol) → symbol e p i ≡ s → EndsBy (symbol e p) (suc n) i → (EndsBy (symbol e p) n (suc i) → Ended rest × (length rest ≤ n)) → Ended (go_on s rest) × (length (go_on s rest) ≤ suc n)
    go Minus q v ih = on q (λ z. zero≢minus (sym z)) v ih
    go Zero q v ih = (last, omega arith)
    go Plus q v ih = on q (λ z. zero≢plus (sym z)) v ih

-- A string ends with its only 0 and has at most p symbols.
pub string_ends : (e p t : ℕ) → 0 < e → e < p → Ended (string e p t) × (length (string e p t) ≤ p)
unfolding string
string_ends e p t some light = ended e p p (suc t) (ends_within e p (suc t) some light)

-- ---- a comparison as a derivation

-- From place u on the comparison of the symbols a and b answers this.
pub data Compared (a b : ℕ → Symbol) : ℕ → Order → Type 0 where
  differ : {u : ℕ} {o : Order} → higher (a u) (b u) ≡ o → o ≢ Tie → Compared a b u o
  ended_both : {u : ℕ} → a u ≡ Zero → b u ≡ Zero → Compared a b u Tie
  same : {u : ℕ} {o : Order} → a u ≡ b u → a u ≢ Zero → Compared a b (suc u) o → Compared a b u o

first≢tie : First ≢ Tie
first≢tie e = let z : ◌≡◌ {A = ℕ} 0 1 = cc in omega arith

second≢tie : Second ≢ Tie
second≢tie e = let z : ◌≡◌ {A = ℕ} 0 1 = cc in omega arith

tie_here : {x y : Symbol} → x ≡ y → higher x y ≡ Tie
tie_here {x} q = ap (λ z. higher x z) (sym q) ∙ higher_self x

-- A comparison has one answer.
pub compared_one : {a b : ℕ → Symbol} {u : ℕ} {o o' : Order} → Compared a b u o → Compared a b u o' → o ≡ o'
compared_one (differ h n) (differ g m) = sym h ∙ g
compared_one (differ h n) (ended_both p q) = absurd (n (sym h ∙ tie_here (p ∙ sym q)))
compared_one (differ h n) (same p m r) = absurd (n (sym h ∙ tie_here p))
compared_one (ended_both p q) (differ h n) = absurd (n (sym h ∙ tie_here (p ∙ sym q)))
compared_one (ended_both p q) (ended_both p' q') = refl
compared_one (ended_both p q) (same e m r) = absurd (m p)
compared_one (same p m r) (differ h n) = absurd (n (sym h ∙ tie_here p))
compared_one (same e m r) (ended_both p q) = absurd (m p)
compared_one (same p m r) (same p' m' r') = compared_one r r'

-- ---- what `compare` answers is derived

module _ (e p e' p' : ℕ) where
  abbrev Go : ℕ → ℕ → ℕ → Type 0
  Go n n' i = Compared (symbol e p) (symbol e' p') i (compare_strings (symbols_from n e p i) (symbols_from n' e' p' i))

  derive : (n n' i : ℕ) → EndsBy (symbol e p) n i → EndsBy (symbol e' p') n' i → Go n n' i
  unfolding symbols_from go_on compare_strings or_later higher
  derive zero _ i v w = elim v [ ]
  derive (suc n) zero i v w = elim w [ ]
  derive (suc n) (suc n') i v w = go (symbol e p i) (symbol e' p' i) refl refl v w (derive n n' (suc i))
    where
      xs : List Symbol
      xs = symbols_from n e p (suc i)

      ys : List Symbol
      ys = symbols_from n' e' p' (suc i)

      on : symbol e p i ≡ symbol e' p' i → symbol e p i ≢ Zero → EndsBy (symbol e p) (suc n) i → EndsBy (symbol e' p') (suc n') i → (EndsBy (symbol e p) n (suc i) → EndsBy (symbol e' p') n' (suc i) → Go n n' (suc i)) → Compared (symbol e p) (symbol e' p') i (compare_strings xs ys)
      on q m (here z) w ih = absurd (m z)
      on q m (later v) (here z) ih = absurd (m (q ∙ z))
      on q m (later v) (later w) ih = same q m (ih v w)

      here_differ : (o : Order) → higher (symbol e p i) (symbol e' p' i) ≡ o → o ≢ Tie → Compared (symbol e p) (symbol e' p') i o
      here_differ o h m = differ h m

      go : (x y : Symbol) → symbol e p i ≡ x → symbol e' p' i ≡ y → EndsBy (symbol e p) (suc n) i → EndsBy (symbol e' p') (suc n') i → (EndsBy (symbol e p) n (suc i) → EndsBy (symbol e' p') n' (suc i) → Go n n' (suc i)) → Compared (symbol e p) (symbol e' p') i (compare_strings (go_on x xs) (go_on y ys))
      go Minus Minus q r v w ih = on (q ∙ sym r) (λ z. zero≢minus (sym z ∙ q)) v w ih
      go Minus Zero q r v w ih = here_differ Second (rw (q, r)) second≢tie
      go Minus Plus q r v w ih = here_differ Second (rw (q, r)) second≢tie
      go Zero Minus q r v w ih = here_differ First (rw (q, r)) first≢tie
      go Zero Zero q r v w ih = ended_both q r
      go Zero Plus q r v w ih = here_differ Second (rw (q, r)) second≢tie
      go Plus Minus q r v w ih = here_differ First (rw (q, r)) first≢tie
      go Plus Zero q r v w ih = here_differ First (rw (q, r)) first≢tie
      go Plus Plus q r v w ih = on (q ∙ sym r) (λ z. zero≢plus (sym z ∙ q)) v w ih

  -- The comparison of two tasks always has an answer, and `compare` gives it.
  pub compare_derived : (t : ℕ) → 0 < e → e < p → 0 < e' → e' < p' → Compared (symbol e p) (symbol e' p') (suc t) (compare t e p e' p')
  unfolding compare string
  compare_derived t s l s' l' = derive p p' (suc t) (ends_within e p (suc t) s l) (ends_within e' p' (suc t) s' l')
