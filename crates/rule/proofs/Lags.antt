-- Lag, standing and class of a task. A lag within its bounds has a count that is no less than 0, so everything here is
-- about numbers: e·t against p·k, and e·(t+1) against p·k and p·k + p, the next lag against 0 and p. Assumes nothing.
use mathlib.Core.Path.{◌≡◌, refl, sym, ap, ◌∙◌}
use mathlib.Core.Logic.{◌≢◌}
use mathlib.Core.Bool.{Bool, true, false, not, ◌&&◌, false≢true}
use Prim.Native.Nat.{ℕ, suc, ◌+◌, ◌-◌, ◌*◌, ◌/◌, ◌%◌, ◌<◌}
use native.Mathlib.Nat.{div-add-mod, mod-lt, lt_of_mul-lt-mul_left, le_of_suc-le-suc, mod-eq_of_lt, mul-add-mod_self_left}
use native.Mathlib.Omega.{arith}
use lib.Dec.{ltb, leb}
use lib.IntN.{ℤ, pos, negsuc, neg_ℤ, neg_ℤ-neg_ℤ}
use lib.Signed.{lt_z, le_z}
use borrow.Author.Tests.{lt-ltb, le-ltb, le-leb, lt-leb, ltb-true, leb-false, not-true}
use Rattle.rule.specs.declared.Symbol.{Symbol}
use Rattle.rule.specs.declared.Symbol.TheVariants.{Zero}
use Rattle.rule.specs.declared.Standing.{Standing}
use Rattle.rule.specs.declared.Standing.TheVariants.{Ahead, Punctual, Behind}
use Rattle.rule.specs.Task.{Entry, lag, sign, standing_of, standing, fair, symbol}
use Rattle.rule.specs.Slot.{is_ahead, is_behind, is_plus, is_minus, tnegru, urgent, contending}
use Rattle.rule.proofs.Tests.{both_true}
use Rattle.rule.proofs.Signs.{Sign, is_minus_lem, is_zero, is_plus_lem, sign_of, above_minus, below_plus, at_most_zero, at_least}
use Rattle.rule.proofs.Symbols.{symbol_by_remainder, zero_equal}

-- A task whose count is a number.
abbrev pub counted : ℕ → ℕ → ℕ → Entry
counted e p k = record { e = e; p = p; k = pos k }

-- ---- lag and standing

pub lag_sign : (e p k t : ℕ) → Sign (e * t) (p * k) (sign (lag t (counted e p k)))
unfolding lag
lag_sign e p k t = sign_of (e * t) (p * k)

-- "Zero is punctual": e·t ≡ p·k; ahead below it, behind above it.
pub data Stands (a b : ℕ) : Standing → Type 0 where
  ahead : a < b → Stands a b Ahead
  punctual : a ≡ b → Stands a b Punctual
  behind : b < a → Stands a b Behind

stands : {a b : ℕ} {s : Symbol} → Sign a b s → Stands a b (standing_of s)
unfolding standing_of
stands (is_minus_lem h) = ahead h
stands (is_zero h) = punctual h
stands (is_plus_lem h) = behind h

pub standing_of_lem : (e p k t : ℕ) → Stands (e * t) (p * k) (standing t (counted e p k))
unfolding standing
standing_of_lem e p k t = stands (lag_sign e p k t)

-- ---- the bounds of refusal 8

pub fair_tests : (e p k t : ℕ) → fair t (counted e p k) ≡ ltb (p * k) (e * t + p) && ltb (e * t) (p * k + p)
unfolding fair lag
fair_tests e p k t = rw (above_minus (e * t) (p * k) p, below_plus (e * t) (p * k) p)

-- The lag is strictly between -p and p.
pub record Bounds (e p k t : ℕ) : Type 0 where
  pub over : p * k < e * t + p
  pub under : e * t < p * k + p

pub fair_bounds : (e p k t : ℕ) → fair t (counted e p k) ≡ true → Bounds e p k t
fair_bounds e p k t h =
    let b = both_true (ltb (p * k) (e * t + p)) (ltb (e * t) (p * k + p)) (sym (fair_tests e p k t) ∙ h) in
    record { over = ltb-true (p * k) (e * t + p) b.0; under = ltb-true (e * t) (p * k + p) b.1 }

pub bounds_fair : (e p k t : ℕ) → Bounds e p k t → fair t (counted e p k) ≡ true
bounds_fair e p k t b = fair_tests e p k t ∙ rw (lt-ltb (p * k) (e * t + p) b.over, lt-ltb (e * t) (p * k + p) b.under)

-- A count below zero is out of bounds: the lag is at least p.
pub below_zero_unfair : (e p j t : ℕ) → fair t (record { e = e; p = p; k = negsuc j }) ≡ false
unfolding fair lag
below_zero_unfair e p j t =
    rw (neg_ℤ-neg_ℤ (pos (p * suc j)), le-ltb (e * t + p * suc j) p (omega arith)) (no_matter (lt_z (neg_ℤ (pos p)) (pos (e * t + p * suc j))))
  where
    no_matter : (b : Bool) → b && false ≡ false
    no_matter true = refl
    no_matter false = refl

-- So a task within its bounds has a count that is a number.
pub fair_count : (t : ℕ) (x : Entry) → fair t x ≡ true → (k : ℕ) × (x ≡ counted x.e x.p k)
fair_count t x h = go x.k refl
  where
    go : (z : ℤ) → x.k ≡ z → (k : ℕ) × (x ≡ counted x.e x.p k)
    go (pos k) q = (k, ap (λ z. record { e = x.e; p = x.p; k = z }) q)
    go (negsuc j) q =
        absurd
        (false≢true (sym (below_zero_unfair x.e x.p j t) ∙ ap (λ z. fair t (record { e = x.e; p = x.p; k = z })) (sym q) ∙ h))

-- ---- class by the next lag

module _ (e p k t : ℕ) (some : 0 < e) (light : e < p) (b : Bounds e p k t) where
  split : p * (e * t / p) + e * t % p ≡ e * t
  split = div-add-mod (e * t) p

  rest : e * t % p < p
  rest = mod-lt (e * t) (omega arith)

  -- one more than e·t/p, rounded down, where the task is ahead; just that where it is not
  ahead_count : e * t < p * k → p * k ≡ p * (e * t / p) + p
  ahead_count h =
      let s = split in
      let r = rest in
      let o = b.over in
      let low = lt_of_mul-lt-mul_left p {m = e * t / p} {n = k} (omega arith) in
      let high = le_of_suc-le-suc (lt_of_mul-lt-mul_left p {m = k} {n = suc (suc (e * t / p))} (omega arith)) in
      let q : k ≡ suc (e * t / p) = omega arith in
      omega (arith, ap (λ x. p * x) q)

  behind_count : p * k < e * t → p * k ≡ p * (e * t / p)
  behind_count h =
      let s = split in
      let r = rest in
      let u = b.under in
      let low = le_of_suc-le-suc (lt_of_mul-lt-mul_left p {m = e * t / p} {n = suc k} (omega arith)) in
      let high = le_of_suc-le-suc (lt_of_mul-lt-mul_left p {m = k} {n = suc (e * t / p)} (omega arith)) in
      let q : k ≡ e * t / p = omega arith in
      ap (λ x. p * x) q

  -- Tnegru exactly when the next lag, e·(t+1) - p·k, is at most 0.
  pub tnegru_iff_next_lag : tnegru t (counted e p k) ≡ leb (e * suc t) (p * k)
  unfolding tnegru
  tnegru_iff_next_lag = go (standing_of_lem e p k t) (symbol_by_remainder e p t)
    where
      go : {s : Standing} {y : Symbol} → Stands (e * t) (p * k) s → Sign (e * t % p + e) p y → is_ahead s && not (is_plus y) ≡ leb (e * suc t) (p * k)
      go (ahead h) (is_minus_lem g) = sym (le-leb (e * suc t) (p * k) (omega (arith, split, ahead_count h)))
      go (ahead h) (is_zero g) = sym (le-leb (e * suc t) (p * k) (omega (arith, split, ahead_count h)))
      go (ahead h) (is_plus_lem g) = sym (lt-leb (e * suc t) (p * k) (omega (arith, split, ahead_count h)))
      go (punctual h) g = sym (lt-leb (e * suc t) (p * k) (omega arith))
      go (behind h) g = sym (lt-leb (e * suc t) (p * k) (omega arith))

  -- Urgent exactly when the next lag is at least p.
  pub urgent_iff_next_lag : urgent t (counted e p k) ≡ leb (p * suc k) (e * suc t)
  unfolding urgent
  urgent_iff_next_lag = go (standing_of_lem e p k t) (symbol_by_remainder e p t)
    where
      go : {s : Standing} {y : Symbol} → Stands (e * t) (p * k) s → Sign (e * t % p + e) p y → is_behind s && not (is_minus y) ≡ leb (p * suc k) (e * suc t)
      go (ahead h) g = sym (lt-leb (p * suc k) (e * suc t) (omega arith))
      go (punctual h) g = sym (lt-leb (p * suc k) (e * suc t) (omega arith))
      go (behind h) (is_minus_lem g) = sym (lt-leb (p * suc k) (e * suc t) (omega (arith, split, behind_count h)))
      go (behind h) (is_zero g) = sym (le-leb (p * suc k) (e * suc t) (omega (arith, split, behind_count h)))
      go (behind h) (is_plus_lem g) = sym (le-leb (p * suc k) (e * suc t) (omega (arith, split, behind_count h)))

  -- Contending exactly when the next lag is strictly between 0 and p.
  pub contending_iff_next_lag : contending t (counted e p k) ≡ not (leb (e * suc t) (p * k)) && not (leb (p * suc k) (e * suc t))
  unfolding contending
  contending_iff_next_lag = rw (tnegru_iff_next_lag, urgent_iff_next_lag)

  pub contending_bounds : contending t (counted e p k) ≡ true → (p * k < e * suc t) × (e * suc t < p * suc k)
  contending_bounds h =
      let c = both_true (not (leb (e * suc t) (p * k))) (not (leb (p * suc k) (e * suc t))) (sym contending_iff_next_lag ∙ h) in
      (leb-false (e * suc t) (p * k) (not-true _ c.0), leb-false (p * suc k) (e * suc t) (not-true _ c.1))

  -- The remainder of a contender at t+1 is its next lag.
  pub contender_remainder : contending t (counted e p k) ≡ true → e * suc t % p ≡ e * suc t - p * k
  contender_remainder h =
      let c = contending_bounds h in
      let q : e * suc t ≡ p * k + (e * suc t - p * k) = omega arith in
      ap (λ x. x % p) q ∙ mul-add-mod_self_left p k (e * suc t - p * k) ∙ mod-eq_of_lt (omega arith)

  -- A contender's symbol at t is never 0.
  pub contender_symbol : contending t (counted e p k) ≡ true → symbol e p t ≢ Zero
  contender_symbol h z = go (standing_of_lem e p k t)
    where
      c : (p * k < e * suc t) × (e * suc t < p * suc k)
      c = contending_bounds h

      whole : e * t % p + e ≡ p
      whole = zero_equal (symbol_by_remainder e p t) z

      go : {s : Standing} → Stands (e * t) (p * k) s → ⊥
      go (ahead g) = omega (arith, c, split, whole, ahead_count g)
      go (punctual g) =
          let r : e * t % p ≡ 0 = ap (λ x. x % p) g ∙ native.Mathlib.Nat.mul-mod_right p k in
          omega (arith, whole)
      go (behind g) = omega (arith, c, split, whole, behind_count g)

  -- ---- the same laws of the next lag as an integer

  pub tnegru_by_lag : tnegru t (counted e p k) ≡ le_z (lag (suc t) (counted e p k)) (pos 0)
  unfolding lag
  tnegru_by_lag = tnegru_iff_next_lag ∙ sym (at_most_zero (e * suc t) (p * k))

  pub urgent_by_lag : urgent t (counted e p k) ≡ le_z (pos p) (lag (suc t) (counted e p k))
  unfolding lag
  urgent_by_lag =
      urgent_iff_next_lag
      ∙ ap (λ x. leb x (e * suc t)) (native.Mathlib.Nat.mul-suc p k)
      ∙ sym (at_least (e * suc t) (p * k) p (omega arith))
