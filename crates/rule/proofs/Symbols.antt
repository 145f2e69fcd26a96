-- Symbols by remainder. With r the remainder of e·i by p, e·(i+1) - p·floor(e·i/p) is r + e, so the symbol at i says how
-- r + e compares with p; just before a multiple of p it is 0. Assumes nothing.
use mathlib.Core.Path.{◌≡◌, refl, sym, ap, ◌∙◌, subst}
use mathlib.Core.Logic.{◌≢◌}
use Prim.Native.Nat.{ℕ, suc, ◌+◌, ◌-◌, ◌*◌, ◌/◌, ◌%◌, ◌<◌, ◌≤◌}
use native.Mathlib.Nat.{div-add-mod, mod-lt, lt_of_mul-lt-mul_left, le_of_suc-le-suc}
use native.Mathlib.Omega.{arith}
use lib.IntN.{pos, ◌-ℤ◌}
use Rattle.rule.specs.declared.Symbol.{Symbol}
use Rattle.rule.specs.declared.Symbol.TheVariants.{Minus, Zero, Plus}
use Rattle.rule.specs.Task.{sign, symbol}
use Rattle.rule.proofs.Signs.{Sign, is_minus_lem, is_zero, is_plus_lem, sign_of, difference_above}

-- The symbol at i is - for r + e < p, 0 for r + e ≡ p and + for p < r + e.
pub symbol_by_remainder : (e p i : ℕ) → Sign (e * i % p + e) p (symbol e p i)
unfolding symbol
symbol_by_remainder e p i =
    let d = div-add-mod (e * i) p in
    let rest : e * suc i - p * (e * i / p) ≡ e * i % p + e = omega arith in
    let first = difference_above (e * suc i) (p * (e * i / p)) (omega arith) ∙ ap pos rest in
    subst (λ z. Sign (e * i % p + e) p (sign (z -ℤ pos p))) (sym first) (sign_of (e * i % p + e) p)

-- ---- what a sign says of the two numbers, and the other way round

pub zero≢minus : Zero ≢ Minus
zero≢minus e = let z : ◌≡◌ {A = ℕ} 0 1 = cc in omega arith

pub zero≢plus : Zero ≢ Plus
zero≢plus e = let z : ◌≡◌ {A = ℕ} 0 1 = cc in omega arith

pub minus≢plus : Minus ≢ Plus
minus≢plus e = let z : ◌≡◌ {A = ℕ} 0 1 = cc in omega arith

pub minus_below : {a b : ℕ} {s : Symbol} → Sign a b s → s ≡ Minus → a < b
minus_below (is_minus_lem h) e = h
minus_below (is_zero h) e = absurd (zero≢minus e)
minus_below (is_plus_lem h) e = absurd (minus≢plus (sym e))

pub plus_above : {a b : ℕ} {s : Symbol} → Sign a b s → s ≡ Plus → b < a
plus_above (is_minus_lem h) e = absurd (minus≢plus e)
plus_above (is_zero h) e = absurd (zero≢plus e)
plus_above (is_plus_lem h) e = h

pub zero_equal : {a b : ℕ} {s : Symbol} → Sign a b s → s ≡ Zero → a ≡ b
zero_equal (is_minus_lem h) e = absurd (zero≢minus (sym e))
zero_equal (is_zero h) e = h
zero_equal (is_plus_lem h) e = absurd (zero≢plus (sym e))

pub not_minus_above : {a b : ℕ} {s : Symbol} → Sign a b s → s ≢ Minus → b ≤ a
not_minus_above (is_minus_lem h) n = absurd (n refl)
not_minus_above (is_zero h) n = omega arith
not_minus_above (is_plus_lem h) n = omega arith

pub not_plus_below : {a b : ℕ} {s : Symbol} → Sign a b s → s ≢ Plus → a ≤ b
not_plus_below (is_minus_lem h) n = omega arith
not_plus_below (is_zero h) n = omega arith
not_plus_below (is_plus_lem h) n = absurd (n refl)

pub sign_one : {a b : ℕ} {s s' : Symbol} → Sign a b s → Sign a b s' → s ≡ s'
sign_one (is_minus_lem h) (is_minus_lem g) = refl
sign_one (is_minus_lem h) (is_zero g) = absurd (omega arith)
sign_one (is_minus_lem h) (is_plus_lem g) = absurd (omega arith)
sign_one (is_zero h) (is_minus_lem g) = absurd (omega arith)
sign_one (is_zero h) (is_zero g) = refl
sign_one (is_zero h) (is_plus_lem g) = absurd (omega arith)
sign_one (is_plus_lem h) (is_minus_lem g) = absurd (omega arith)
sign_one (is_plus_lem h) (is_zero g) = absurd (omega arith)
sign_one (is_plus_lem h) (is_plus_lem g) = refl

-- ---- where the symbol is 0 for certain

-- Just before a multiple of p the symbol is 0.
pub zero_before_multiple : (e p v n : ℕ) → 0 < e → e < p → suc v ≡ p * n → symbol e p v ≡ Zero
zero_before_multiple e p v n some light q =
    let d = div-add-mod (e * v) p in
    let r = mod-lt (e * v) {m = p} (omega arith) in
    let f : e * v + e ≡ p * (e * n) = omega (arith, ap (λ x. e * x) q) in
    let a = lt_of_mul-lt-mul_left p {m = e * v / p} {n = e * n} (omega arith) in
    let b = le_of_suc-le-suc (lt_of_mul-lt-mul_left p {m = e * n} {n = suc (suc (e * v / p))} (omega arith)) in
    let c : e * n ≡ suc (e * v / p) = omega arith in
    sign_one (symbol_by_remainder e p v) (is_zero (omega (arith, ap (λ x. p * x) c)))
