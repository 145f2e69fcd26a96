-- One turn of the comparison: where the two symbols differ it is decided, two that are 0 end it in a tie, and any other two that are
-- the same leave it open. Assumes nothing.
use mathlib.Core.Path.{◌≡◌, refl, sym, ◌∙◌}
use mathlib.Core.Logic.{◌≢◌}
use Prim.Native.Nat.{ℕ, suc, ◌+◌, ◌-◌, ◌<◌}
use native.Mathlib.Numerals.{add-one}
use native.Mathlib.Omega.{arith}
use Rattle.rule.specs.declared.Symbol.{Symbol}
use Rattle.rule.specs.declared.Symbol.TheVariants.{Minus, Zero, Plus}
use Rattle.rule.specs.declared.Order.{Order}
use Rattle.rule.specs.declared.Order.TheVariants.{First, Second, Tie}
use Rattle.rule.specs.Limits.{multiple_most}
use Rattle.rule.specs.Task.{symbol, higher, compare}
use Rattle.rule.proofs.Strings.{Compared, differ, ended_both, same, compared_one, EndsBy, here, later, compare_derived, ends_within}
use Rattle.order.specs.Engine.{Bounds}

first≢tie : First ≢ Tie
first≢tie q = let z : ◌≡◌ {A = ℕ} 0 1 = cc in omega arith

second≢tie : Second ≢ Tie
second≢tie q = let z : ◌≡◌ {A = ℕ} 0 1 = cc in omega arith

-- ---- the first turn

-- The comparison at t begins at t + 1.
pub starts : (e p e' p' t : ℕ) → Bounds multiple_most e p → Bounds multiple_most e' p' → Compared (symbol e p) (symbol e' p') (t + 1) (compare t e p e' p')
starts e p e' p' t b b' = rw add-one (compare_derived e p e' p' t b.some b.light b'.some b'.light)

-- One of the p symbols from there on is 0.
pub ends : (e p t : ℕ) → Bounds multiple_most e p → EndsBy (symbol e p) (t + 1 + p - (t + 1)) (t + 1)
ends e p t b =
    let all : t + 1 + p - (t + 1) ≡ p = omega arith in
    rw all (ends_within e p (t + 1) b.some b.light)

-- ---- a turn

tie_same : (a b : Symbol) → higher a b ≡ Tie → a ≡ b
unfolding higher
tie_same Minus Minus q = refl
tie_same Zero Zero q = refl
tie_same Plus Plus q = refl
tie_same Minus Zero q = absurd (second≢tie q)
tie_same Minus Plus q = absurd (second≢tie q)
tie_same Zero Minus q = absurd (first≢tie q)
tie_same Zero Plus q = absurd (second≢tie q)
tie_same Plus Minus q = absurd (first≢tie q)
tie_same Plus Zero q = absurd (first≢tie q)

-- At place i, where the first symbol is x and the order of the two is r, the comparison answers o, and the first string ends before k.
pub record Turn (a b : ℕ → Symbol) (k i : ℕ) (o : Order) (x : Symbol) (r : Order) : Type 0 where
  pub answers : Compared a b i o
  pub ends : EndsBy a (k - i) i
  pub first : x ≡ a i
  pub order : r ≡ higher (a i) (b i)

module _ {a b : ℕ → Symbol} {k i : ℕ} {o : Order} {x : Symbol} {r : Order} (w : Turn a b k i o x r) where
  pub decided : (r ≡ Tie → ⊥) → r ≡ o
  decided n = compared_one (differ (sym w.order) n) w.answers

  alike : r ≡ Tie → a i ≡ b i
  alike q = tie_same (a i) (b i) (sym w.order ∙ q)

  -- Both symbols are 0.
  pub zero_tie : r ≡ Tie → x ≡ Zero → r ≡ o
  zero_tie q z =
      let first_zero = sym w.first ∙ z in
      q ∙ compared_one (ended_both first_zero (sym (alike q) ∙ first_zero)) w.answers

  -- The symbols are the same and not 0: the comparison goes on.
  pub goes_on : r ≡ Tie → (x ≡ Zero → ⊥) → Compared a b (i + 1) o
  goes_on q n = rw add-one (go w.answers)
    where
      go : {o' : Order} → Compared a b i o' → Compared a b (suc i) o'
      go (differ h m) = absurd (m (sym h ∙ sym w.order ∙ q))
      go (ended_both z z') = absurd (n (w.first ∙ z))
      go (same h m d) = d

  -- The symbol is not 0: the string ends later.
  pub ends_later : (x ≡ Zero → ⊥) → EndsBy a (k - (i + 1)) (i + 1)
  ends_later n = go w.ends refl
    where
      go : {m : ℕ} → EndsBy a m i → m ≡ k - i → EndsBy a (k - (i + 1)) (i + 1)
      go (here z) q = absurd (n (w.first ∙ z))
      go {m = suc m} (later d) q =
          let less : k - (i + 1) ≡ m = omega arith in
          rw (less, add-one) d

-- A string that ends before k has not passed it.
pub before_end : {a : ℕ → Symbol} (k i : ℕ) → EndsBy a (k - i) i → i < k
before_end {a} k i d = go d refl
  where
    go : {m : ℕ} → EndsBy a m i → m ≡ k - i → i < k
    go (here z) q = omega arith
    go (later e) q = omega arith
