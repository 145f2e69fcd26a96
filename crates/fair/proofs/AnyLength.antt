-- Refusal 6 for tables of any length from L up. A table for ever is one of every length, so that a set that no table of some length serves
-- is refused by the theorem of tables for ever (RefusalSix.antt); and the slots 0 to L-1 of a table that long, counted by tasks, are the load,
-- and by slots at most m·L. Assumes nothing.
use Rattle.std.specs.Prelude.{Ok}
use mathlib.Core.Path.{◌≡◌, refl, sym, subst}
use mathlib.Core.Logic.{◌↔◌}
use mathlib.Core.Bool.{Bool}
use mathlib.Core.List.{List, []}
use Prim.Native.Nat.{ℕ, zero, suc, ◌+◌, ◌-◌, ◌*◌, ◌/◌, ◌≤◌, ◌<◌, ◌∣◌}
use native.Mathlib.Nat.{mul-suc, mul-div_cancel', mul-div_assoc, mul-zero}
use native.Mathlib.Omega.{arith}
use borrow.Author.Tests.{ltb-true, ltb-false, not-false}
use lib.ListN.{length}
use Rattle.rule.specs.declared.Accepted.{Accepted}
use Rattle.rule.specs.declared.Refusal.{Refusal}
use Rattle.rule.specs.declared.Refusal.TheVariants.{Load}
use Rattle.rule.specs.Answers.{number_of}
use Rattle.rule.specs.Limits.{tasks_most, within}
use Rattle.rule.specs.Places.{at, bit, sum, count}
use Rattle.rule.specs.Sets.{multiple, load}
use Rattle.rule.specs.Refusals.{invalid_place, set_checks, admission_checks}
use Rattle.rule.specs.Outcomes.{admission}
use Rattle.rule.proofs.Limits.{within_numbers}
use Rattle.rule.proofs.Places.{sum_le, sum_append, sum_swap, sum_const}
use Rattle.rule.proofs.Refusals.{Given, this, next, none, and, same_length, admission_refusal}
use Rattle.rule.proofs.Sets.{valid_set, invalid_place_le, period_divides}
use Rattle.fair.specs.FromStart.{runs_from_start}
use Rattle.fair.specs.Table.{Table, AtLeast}
use Rattle.fair.specs.FiniteTable.{HowLong, for_ever, Has, up_to, always, exactly, at_least, TableOf, RefusedBySix}
use Rattle.fair.proofs.RefusalSix.{PassesOneToFive, refusal_six_exact, accepted_served}

-- ---- a table for ever is one of every length

module _ (es ps : List ℕ) (m : ℕ) (runs : ℕ → ℕ → Bool) where
  pub of_any_length : Table es ps m runs → (long : HowLong) → TableOf long exactly es ps m runs
  of_any_length T long = record { few = λ u h. T.slots u; served = λ i j l h. T.served i j l }

  -- And for ever the two say the same.
  pub table_for_ever : TableOf for_ever exactly es ps m runs ↔ Table es ps m runs
  table_for_ever = (λ T. record { slots = λ u. T.few u always; served = λ i j l. T.served i j l always }, λ T. of_any_length T for_ever)

  pub at_least_for_ever : TableOf for_ever at_least es ps m runs ↔ AtLeast es ps m runs
  at_least_for_ever = (
    λ T. record { few = λ u. T.few u always; enough = λ i j l. T.served i j l always },
    λ T. record { few = λ u h. T.few u; served = λ i j l h. T.enough i j l },
  )

  -- A table gives at least what it gives.
  gives_at_least : (long : HowLong) → TableOf long exactly es ps m runs → TableOf long at_least es ps m runs
  gives_at_least long T = record { few = T.few; served = λ i j l h. omega (arith, T.served i j l h) }

-- ---- a table's slots, counted both ways

-- A table that has so many slots has fewer.
has_fewer : {long : HowLong} (n s : ℕ) → n ≤ s → Has long s → Has long n
has_fewer n s le (up_to {s = all} h) = up_to {s = all} {n = n} (omega arith)
has_fewer n s le always = always

module _ (long : HowLong) where
  -- e at least in every period is at least e·j in the first j periods
  periods : (e p : ℕ) (runs : ℕ → Bool) → ((j : ℕ) → Has long (p * suc j) → e ≤ count p (λ v. runs (p * j + v)))
      → (j : ℕ) → Has long (p * j) → e * j ≤ count (p * j) runs
  unfolding sum
  periods e p runs served zero h = rw (mul-zero e) (omega arith)
  periods e p runs served (suc j) h =
      let before = has_fewer (p * j) (p * suc j) (omega (arith, mul-suc p j)) h in
      rw (mul-suc p j, mul-suc e j) (omega (arith, sum_append (p * j) p (λ i. bit (runs i)), periods e p runs served j before, served j h))

  module _ (es ps : List ℕ) (m : ℕ) (divides : (i : ℕ) → i < length es → at ps i ∣ multiple ps) (whole : Has long (multiple ps))
      (runs : ℕ → ℕ → Bool) (T : TableOf long at_least es ps m runs) where
    task_slots : (i : ℕ) → i < length es → at es i * multiple ps / at ps i ≤ count (multiple ps) (runs i)
    task_slots i l =
        let all = mul-div_cancel' (at ps i) (divides i l) in
        subst (λ n. at es i * multiple ps / at ps i ≤ count n (runs i)) all
        (subst (λ n. n ≤ count (at ps i * (multiple ps / at ps i)) (runs i)) (sym (mul-div_assoc (at ps i) (at es i) (divides i l)))
        (periods (at es i) (at ps i) (runs i) (λ j. T.served i j l) (multiple ps / at ps i) (subst (Has long) (sym all) whole)))

    -- A set that a table of L slots at least serves has a load of at most m·L.
    pub table_load : load es ps ≤ m * multiple ps
    unfolding load
    table_load =
        omega (
          arith,
          sum_le (length es) (λ i. at es i * multiple ps / at ps i) (λ i. sum (multiple ps) (λ u. bit (runs i u))) task_slots,
          sum_swap (length es) (multiple ps) (λ i u. bit (runs i u)),
          sum_le (multiple ps) (λ u. sum (length es) (λ i. bit (runs i u))) (λ u. m) (λ u l. omega (arith, T.few u (has_fewer (suc u) (multiple ps) (omega arith) whole))),
          sum_const (multiple ps) m,
        )

-- ---- the theorem

-- Refusal 6 is given only where the load is above m·L.
loaded : (es ps : List ℕ) (m : ℕ) (r : Refusal) → number_of r ≡ 6 → Given (admission_checks es ps m) r → m * multiple ps < load es ps
unfolding admission_checks set_checks
loaded es ps m r six (this l) = absurd (omega arith)
loaded es ps m r six (next l (this h)) = absurd (omega arith)
loaded es ps m r six (next l (next n (this h))) = absurd (omega arith)
loaded es ps m r six (next l (next n (next u (this h)))) = absurd (omega arith)
loaded es ps m r six (next l (next n (next u (next e (this h))))) = absurd (omega arith)
loaded es ps m r six (next l (next n (next u (next e (next x (this h)))))) = ltb-true (m * multiple ps) (load es ps) h
loaded es ps m r six (next l (next n (next u (next e (next x (next o h)))))) = elim h [ ]

periods_divide : (es ps : List ℕ) (m : ℕ) → PassesOneToFive es ps m → (i : ℕ) → i < length es → at ps i ∣ multiple ps
unfolding admission_checks set_checks
periods_divide es ps m (and l (and t (and u (and r (and x none))))) =
    let n = within_numbers 1 tasks_most (length es) (not-false (within 1 tasks_most (length es)) t) in
    let all : invalid_place es ps ≡ length es = omega (arith, ltb-false (invalid_place es ps) (length es) r, invalid_place_le es ps) in
    period_divides es ps (valid_set es ps (same_length (length es) (length ps) [] l).0 n.0 n.1 all)

module _ (es ps : List ℕ) (m : ℕ) (pass : PassesOneToFive es ps m) (long : HowLong) (whole : Has long (multiple ps)) where
  -- No table serves a set that 6 refuses, not even one that may give a task more than its share.
  pub none_serves : RefusedBySix es ps m → (runs : ℕ → ℕ → Bool) → TableOf long at_least es ps m runs → ⊥
  none_serves q runs T =
      let r : Refusal = Load (load es ps - m * multiple ps) in
      let over = loaded es ps m r refl ((admission_refusal es ps m r).0 q) in
      omega (arith, over, table_load long es ps m (periods_divide es ps m pass) whole runs T)

  -- Refusal 6 is given exactly when no table of this length, however made, could serve the set.
  pub refusal_six : RefusedBySix es ps m ↔ ((runs : ℕ → ℕ → Bool) → TableOf long exactly es ps m runs → ⊥)
  refusal_six = (
    λ q runs T. none_serves q runs (gives_at_least es ps m runs long T),
    λ nobody. (refusal_six_exact es ps m pass).1 (λ runs T. nobody runs (of_any_length es ps m runs T long)),
  )

-- The run of a set that admission accepts serves it, as far as one likes.
pub accepted_served_any_length : (es ps : List ℕ) (m : ℕ) (a : Accepted) → admission es ps m ≡ Ok a → (long : HowLong)
    → TableOf long exactly es ps m (runs_from_start es ps)
accepted_served_any_length es ps m a q = of_any_length es ps m (runs_from_start es ps) (accepted_served es ps m a q)
