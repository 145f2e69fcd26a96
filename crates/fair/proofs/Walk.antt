-- The walk along two strings. A slot is cut into grains; a line says how many grains a task has had by each time, within its
-- bounds. Where x's string does not beat y's, and x could give a grain and y take one, the walk keeps that so up to a slot in
-- which x has room for one grain more and y has one to give: strings end, so it gets there. Assumes nothing.
use mathlib.Core.Path.{◌≡◌, refl, sym, ◌∙◌, subst}
use mathlib.Core.Logic.{◌⊎◌, inl, inr, ◌≢◌}
use Prim.Native.Nat.{ℕ, suc, ◌+◌, ◌≤◌, ◌<◌}
use native.Mathlib.Nat.{eq-or-lt_of_le, le_refl}
use native.Mathlib.Decide.{dec_lt}
use native.Mathlib.Omega.{arith}
use Rattle.rule.specs.declared.Symbol.{Symbol}
use Rattle.rule.specs.declared.Symbol.TheVariants.{Minus, Zero, Plus}
use Rattle.rule.specs.declared.Order.{Order}
use Rattle.rule.specs.declared.Order.TheVariants.{First, Tie}
use Rattle.rule.specs.Task.{higher}
use Rattle.rule.proofs.Symbols.{zero≢minus, zero≢plus, minus≢plus}
use Rattle.rule.proofs.Strings.{Compared, differ, ended_both, same}

-- What the walk needs of a task's bounds, in grains of which a slot has g, and of its symbols.
pub record Shape (g : ℕ) (low high : ℕ → ℕ) (s : ℕ → Symbol) : Type 0 where
  pub low_step : (u : ℕ) → low (suc u) ≤ low u + g
  pub high_grows : (u : ℕ) → high u ≤ high (suc u)
  pub minus_low : (u : ℕ) → s u ≡ Minus → low (suc u) ≤ low u
  pub plus_high : (u : ℕ) → s u ≡ Plus → high u + g ≤ high (suc u)
  pub not_plus_high : (u : ℕ) → s u ≢ Plus → high (suc u) ≤ low u + g
  pub not_minus_low : (u : ℕ) → s u ≢ Minus → high u ≤ low (suc u)

-- One task's line from time t on: it never falls, takes at most a slot a slot, and keeps within its bounds.
pub record Line (g t : ℕ) (low high k : ℕ → ℕ) : Type 0 where
  pub grows : (u : ℕ) → t ≤ u → k u ≤ k (suc u)
  pub slow : (u : ℕ) → t ≤ u → k (suc u) ≤ k u + g
  pub above : (u : ℕ) → t ≤ u → low u ≤ k u
  pub below : (u : ℕ) → t ≤ u → k u ≤ high u

-- Where a walk from u stops: up to there x can give and y can take, and in that slot x has room and y has a grain.
pub record Stop (g : ℕ) (lowX highY x y : ℕ → ℕ) (u : ℕ) : Type 0 where
  pub place : ℕ
  pub after : u ≤ place
  pub slack : (v : ℕ) → u ≤ v → v ≤ place → (lowX v < x v) × (y v < highY v)
  pub room : x (suc place) < x place + g
  pub grain : y place < y (suc place)

-- A symbol that is lower than another is not +, and the other is not -.
lower_symbol : (a b : Symbol) → higher a b ≢ First → higher a b ≢ Tie → (a ≢ Plus) × (b ≢ Minus)
unfolding higher
lower_symbol Minus Minus n m = absurd (m refl)
lower_symbol Minus Zero n m = (minus≢plus, zero≢minus)
lower_symbol Minus Plus n m = (minus≢plus, λ e. minus≢plus (sym e))
lower_symbol Zero Minus n m = absurd (n refl)
lower_symbol Zero Zero n m = absurd (m refl)
lower_symbol Zero Plus n m = (zero≢plus, λ e. minus≢plus (sym e))
lower_symbol Plus Minus n m = absurd (n refl)
lower_symbol Plus Zero n m = absurd (n refl)
lower_symbol Plus Plus n m = absurd (m refl)

module _ (g t : ℕ) (lowX highX lowY highY x y : ℕ → ℕ) (a b : ℕ → Symbol)
    (SX : Shape g lowX highX a) (SY : Shape g lowY highY b) (LX : Line g t lowX highX x) (LY : Line g t lowY highY y) where
  abbrev Stops : ℕ → Type 0
  Stops u = Stop g lowX highY x y u

  here : (u : ℕ) → lowX u < x u → y u < highY u → x (suc u) < x u + g → y u < y (suc u) → Stops u
  here u hx hy rx ry = record { place = u; after = le_refl u; slack = at; room = rx; grain = ry }
    where
      at : (v : ℕ) → u ≤ v → v ≤ u → (lowX v < x v) × (y v < highY v)
      at v l m = let e : u ≡ v = omega arith in subst (λ w. (lowX w < x w) × (y w < highY w)) e (hx, hy)

  later : (u : ℕ) → lowX u < x u → y u < highY u → Stops (suc u) → Stops u
  later u hx hy r =
      record { place = r.place; after = omega (arith, r.after); slack = λ v l m. at v m (eq-or-lt_of_le l); room = r.room; grain = r.grain }
    where
      at : (v : ℕ) → v ≤ r.place → (u ≡ v) ⊎ (u < v) → (lowX v < x v) × (y v < highY v)
      at v m (inl e) = subst (λ w. (lowX w < x w) × (y w < highY w)) e (hx, hy)
      at v m (inr l) = r.slack v l m

  -- x's symbol is not + and y's is not -: the walk stops here
  stops : (u : ℕ) → t ≤ u → lowX u < x u → y u < highY u → a u ≢ Plus → b u ≢ Minus → Stops u
  stops u tu hx hy na nb =
      here u hx hy
      (omega (arith, SX.not_plus_high u na, LX.below (suc u) (omega arith)))
      (omega (arith, SY.not_minus_low u nb, LY.above (suc u) (omega arith)))

  -- both -: y has a grain to give, or both keep their slack
  minuses : (u : ℕ) → t ≤ u → lowX u < x u → y u < highY u → a u ≡ Minus
      → (lowX (suc u) < x (suc u) → y (suc u) < highY (suc u) → Stops (suc u)) → Stops u
  minuses u tu hx hy ea ih = go (dec_lt (y u) (y (suc u)))
    where
      go : Dec (y u < y (suc u)) → Stops u
      go (yes ry) = here u hx hy (omega (arith, SX.not_plus_high u (λ e. minus≢plus (sym ea ∙ e)), LX.below (suc u) (omega arith))) ry
      go (no n) = later u hx hy (ih (omega (arith, SX.minus_low u ea, LX.grows u tu)) (omega (arith, SY.high_grows u)))

  -- both +: x has room for a grain, or both keep their slack
  pluses : (u : ℕ) → t ≤ u → lowX u < x u → y u < highY u → b u ≡ Plus
      → (lowX (suc u) < x (suc u) → y (suc u) < highY (suc u) → Stops (suc u)) → Stops u
  pluses u tu hx hy eb ih = go (dec_lt (x (suc u)) (x u + g))
    where
      go : Dec (x (suc u) < x u + g) → Stops u
      go (yes rx) = here u hx hy rx (omega (arith, SY.not_minus_low u (λ e. minus≢plus (sym e ∙ eb)), LY.above (suc u) (omega arith)))
      go (no n) = later u hx hy (ih (omega (arith, SX.low_step u)) (omega (arith, SY.plus_high u eb, LY.slow u tu)))

  both : (u : ℕ) (s : Symbol) → a u ≡ s → a u ≡ b u → a u ≢ Zero → t ≤ u → lowX u < x u → y u < highY u
      → (lowX (suc u) < x (suc u) → y (suc u) < highY (suc u) → Stops (suc u)) → Stops u
  both u Minus q e n tu hx hy ih = minuses u tu hx hy q ih
  both u Zero q e n tu hx hy ih = absurd (n q)
  both u Plus q e n tu hx hy ih = pluses u tu hx hy (sym e ∙ q) ih

  pub walk : {u : ℕ} {o : Order} → Compared a b u o → o ≢ First → t ≤ u → lowX u < x u → y u < highY u → Stops u
  walk (differ {u} h n) f tu hx hy =
      let l = lower_symbol (a u) (b u) (λ e. f (sym h ∙ e)) (λ e. n (sym h ∙ e)) in stops u tu hx hy l.0 l.1
  walk (ended_both {u} p q) f tu hx hy = stops u tu hx hy (λ e. zero≢plus (sym p ∙ e)) (λ e. zero≢minus (sym q ∙ e))
  walk (same {u} e n r) f tu hx hy = both u (a u) refl e n tu hx hy (walk r f (omega arith))
