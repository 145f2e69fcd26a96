-- The rung of a task whose lag is within its bounds, from the sign of the lag and from the next lag against 0 and p: rule's
-- laws of the next lag decide tnegru and urgent, and the sign is the standing.
use mathlib.Core.Bool.{true, false, false≢true}
use mathlib.Core.Path.{◌≡◌, refl, sym, ap}
use Prim.Native.Nat.{ℕ, zero, suc}
use native.Mathlib.Omega.{arith}
use lib.IntN.{ℤ, pos, negsuc}
use lib.Signed.{lt_z, le_z}
use borrow.Author.Tests.{ltb-true}
use Rattle.rule.specs.declared.Standing.TheVariants.{Ahead, Punctual, Behind}
use Rattle.rule.specs.Task.{Entry, lag, sign, standing_of, standing, fair}
use Rattle.rule.proofs.Lags.{counted, fair_bounds, tnegru_by_lag, urgent_by_lag}
use Rattle.standing.specs.declared.Rung.TheVariants.{Tnegru, Urgent}
use Rattle.standing.specs.Judged.{between, rung}
use Rattle.standing.specs.Sound.{Small}

-- ---- the standing by the lag

negative : (z : ℤ) → lt_z z (pos 0) ≡ true → standing_of (sign z) ≡ Ahead
unfolding standing_of sign
negative (pos n) h = absurd (omega (arith, ltb-true n 0 h))
negative (negsuc n) h = refl

positive : (z : ℤ) → lt_z z (pos 0) ≡ false → (z ≡ pos 0 → ⊥) → standing_of (sign z) ≡ Behind
unfolding standing_of sign
positive (pos zero) h g = absurd (g refl)
positive (pos (suc n)) h g = refl
positive (negsuc n) h g = absurd (false≢true (sym h))

module _ (t : ℕ) (x : Entry) where
  pub lag_ahead : lt_z (lag t x) (pos 0) ≡ true → standing t x ≡ Ahead
  unfolding standing
  lag_ahead h = negative (lag t x) h

  pub lag_punctual : lag t x ≡ pos 0 → standing t x ≡ Punctual
  unfolding standing standing_of sign
  lag_punctual h = ap (λ z. standing_of (sign z)) h

  pub lag_behind : lt_z (lag t x) (pos 0) ≡ false → (lag t x ≡ pos 0 → ⊥) → standing t x ≡ Behind
  unfolding standing
  lag_behind h g = positive (lag t x) h g

-- ---- the rung by the next lag

module _ (e p k t : ℕ) (small : Small e p k t) (within : fair t (counted e p k) ≡ true) where
  pub rung_tnegru : le_z (lag (suc t) (counted e p k)) (pos 0) ≡ true → rung t (counted e p k) ≡ Tnegru
  unfolding rung
  rung_tnegru h = rw (tnegru_by_lag e p k t small.some small.light (fair_bounds e p k t within), h)

  module _ (above : le_z (lag (suc t) (counted e p k)) (pos 0) ≡ false) where
    pub rung_urgent : le_z (pos p) (lag (suc t) (counted e p k)) ≡ true → rung t (counted e p k) ≡ Urgent
    unfolding rung
    rung_urgent h =
        let b = fair_bounds e p k t within in
        rw (tnegru_by_lag e p k t small.some small.light b, above, urgent_by_lag e p k t small.some small.light b, h)

    pub rung_between : le_z (pos p) (lag (suc t) (counted e p k)) ≡ false → rung t (counted e p k) ≡ between (standing t (counted e p k))
    unfolding rung
    rung_between h =
        let b = fair_bounds e p k t within in
        rw (tnegru_by_lag e p k t small.some small.light b, above, urgent_by_lag e p k t small.some small.light b, h)
