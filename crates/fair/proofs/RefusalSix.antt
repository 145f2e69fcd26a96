-- Refusal 6 is exact: among sets that pass 1 to 5, it is given exactly when no table of slots, however made, could serve the set.
-- A table's slots 0 to L-1, counted by tasks, are the load, and by slots at most m·L; and where the load is no more than that, the
-- set's own run from time 0 is a table. Assumes nothing.
use Rattle.std.specs.Prelude.{Err, Ok, Result}
use mathlib.Core.Path.{◌≡◌, refl, sym, ap, ◌∙◌, subst}
use mathlib.Core.Logic.{◌↔◌}
use mathlib.Core.Bool.{Bool, true, false, cond}
use mathlib.Core.List.{List, [], ◌∷◌}
use Prim.Native.Nat.{ℕ, zero, suc, ◌+◌, ◌-◌, ◌*◌, ◌/◌, ◌≤◌, ◌<◌, ◌∣◌}
use native.Mathlib.Nat.{mul-suc, mul-div_cancel', mul-div_assoc, mul-zero, add-zero, add-suc, le_trans}
use native.Mathlib.Omega.{arith}
use borrow.Author.Tests.{ltb-true, ltb-false, not-false}
use lib.Dec.{ltb}
use lib.ListN.{length, take}
use Rattle.rule.specs.declared.Refusal.{Refusal}
use Rattle.rule.specs.declared.Refusal.TheVariants.{Load}
use Rattle.rule.specs.declared.Accepted.{Accepted}
use Rattle.rule.specs.Places.{at, bit, sum, count}
use Rattle.rule.specs.Sets.{multiple, load}
use Rattle.rule.specs.Refusals.{passed, refused, first, loads, invalid_place, set_checks, admission_checks}
use Rattle.rule.specs.Limits.{tasks_most, within}
use Rattle.rule.specs.Outcomes.{admission_by, admission, runs_at, counts_after}
use Rattle.rule.proofs.Places.{sum_le, sum_append, sum_swap, sum_const, at_each}
use Rattle.rule.proofs.Refusals.{NoneHolds, none, and, none_first, first_append, same_length}
use Rattle.rule.proofs.Sets.{AcceptedSet, accepted_set, ValidSet, valid_set, invalid_place_le, period_divides}
use Rattle.rule.proofs.Limits.{within_numbers}
use Rattle.fair.specs.FromStart.{counts_at}
use Rattle.fair.specs.Table.{Table, AtLeast}
use Rattle.fair.proofs.NeverStuck.{fair_always, set}

-- The set passes refusals 1 to 5.
abbrev pub PassesOneToFive : List ℕ → List ℕ → ℕ → Type 0
PassesOneToFive es ps m = NoneHolds (take 5 (admission_checks es ps m))

-- ---- a table's slots, counted both ways

-- e in every period is e·j in the first j periods, and at least e is at least e·j
periods : (e p : ℕ) (runs : ℕ → Bool) → ((j : ℕ) → e ≤ count p (λ v. runs (p * j + v))) → (j : ℕ) → e * j ≤ count (p * j) runs
unfolding sum
periods e p runs served zero = rw (mul-zero e) (omega arith)
periods e p runs served (suc j) =
    rw (mul-suc p j, mul-suc e j) (omega (arith, sum_append (p * j) p (λ i. bit (runs i)), periods e p runs served j, served j))

module _ (es ps : List ℕ) (m : ℕ) (divides : (i : ℕ) → i < length es → at ps i ∣ multiple ps) (runs : ℕ → ℕ → Bool) (T : AtLeast es ps m runs) where
  task_slots : (i : ℕ) → i < length es → at es i * multiple ps / at ps i ≤ count (multiple ps) (runs i)
  task_slots i l =
      subst (λ n. at es i * multiple ps / at ps i ≤ count n (runs i)) (mul-div_cancel' (at ps i) (divides i l))
      (subst (λ n. n ≤ count (at ps i * (multiple ps / at ps i)) (runs i)) (sym (mul-div_assoc (at ps i) (at es i) (divides i l)))
      (periods (at es i) (at ps i) (runs i) (λ j. T.enough i j l) (multiple ps / at ps i)))

  -- A set that a table serves has a load of at most m·L.
  pub table_load : load es ps ≤ m * multiple ps
  unfolding load
  table_load =
      omega (
        arith,
        sum_le (length es) (λ i. at es i * multiple ps / at ps i) (λ i. sum (multiple ps) (λ u. bit (runs i u))) task_slots,
        sum_swap (length es) (multiple ps) (λ i u. bit (runs i u)),
        sum_le (multiple ps) (λ u. sum (length es) (λ i. bit (runs i u))) (λ u. m) (λ u l. T.few u),
        sum_const (multiple ps) m,
      )

-- A table gives at least what it gives.
at_least : (es ps : List ℕ) (m : ℕ) (runs : ℕ → ℕ → Bool) → Table es ps m runs → AtLeast es ps m runs
at_least es ps m runs T = record { few = T.slots; enough = λ i j l. omega (arith, T.served i j l) }

-- ---- the run of an accepted set is a table

module _ (es ps : List ℕ) (m : ℕ) (A : AcceptedSet es ps m) where
  abbrev pub runs : ℕ → ℕ → Bool
  runs i u = runs_at es ps (counts_at es ps u) u i

  -- what a task has had after so many slots more
  had_more : (i a b : ℕ) → i < length es → at (counts_at es ps (a + b)) i ≡ at (counts_at es ps a) i + count b (λ v. runs i (a + v))
  unfolding sum counts_at counts_after
  had_more i a zero l = rw (add-zero a) (sym (add-zero (at (counts_at es ps a) i)))
  had_more i a (suc b) l = rw (add-suc a b) (one_more (a + b) ∙ omega (arith, had_more i a b l))
    where
      one_more : (t : ℕ) → at (counts_at es ps (suc t)) i ≡ at (counts_at es ps t) i + bit (runs i t)
      one_more t = at_each (length es) (λ i. at (counts_at es ps t) i + bit (runs i t)) i l

  pub run_is_table : Table es ps m runs
  run_is_table =
      record {
        slots = λ u. let F = fair_always es ps m A u in le_trans F.few_run F.units_enough;
        served = served;
      }
    where
      served : (i j : ℕ) → i < length es → count (at ps i) (λ v. runs i (at ps i * j + v)) ≡ at es i
      served i j l =
          let p = at ps i in
          let now = (fair_always es ps m A (p * j)).period_ends i j l refl in
          let then = (fair_always es ps m A (p * j + p)).period_ends i (suc j) l (sym (mul-suc p j)) in
          omega (arith, had_more i (p * j) p l, mul-suc (at es i) j)

-- ---- the theorem

valid_of : (es ps : List ℕ) (m : ℕ) → PassesOneToFive es ps m → ValidSet es ps
unfolding admission_checks set_checks
valid_of es ps m (and l (and t (and u (and r (and x none))))) =
    let n = within_numbers 1 tasks_most (length es) (not-false (within 1 tasks_most (length es)) t) in
    valid_set es ps (same_length (length es) (length ps) [] l).0 n.0 n.1
    (omega (arith, ltb-false (invalid_place es ps) (length es) r, invalid_place_le es ps))

-- With 6 too it is an accepted set.
accepted_of : (es ps : List ℕ) (m : ℕ) → PassesOneToFive es ps m → ltb (m * multiple ps) (load es ps) ≡ false → AcceptedSet es ps m
unfolding admission_checks set_checks
accepted_of es ps m (and l (and t (and u (and r (and x none))))) h =
    accepted_set es ps m (same_length (length es) (length ps) [] l).0 (none_first (and t (and u (and r (and x (and h none))))))

module _ (es ps : List ℕ) (m : ℕ) (pass : PassesOneToFive es ps m) where
  -- After 1 to 5 only 6 is left to judge by.
  judged : admission es ps m ≡ admission_by (first (loads es ps m ∷ [])) es ps
  unfolding admission admission_checks set_checks
  judged = ap (λ v. admission_by v es ps) (first_append (take 5 (admission_checks es ps m)) (loads es ps m ∷ []) (none_first pass))

  abbrev verdict : Bool → Result Accepted Refusal
  verdict b = admission_by (cond b (refused (Load (load es ps - m * multiple ps))) passed) es ps

  -- Where 6 is given the load is above m·L.
  over : admission es ps m ≡ Err (Load (load es ps - m * multiple ps)) → m * multiple ps < load es ps
  unfolding first admission_by
  over q = go (ltb (m * multiple ps) (load es ps)) refl (sym judged ∙ q)
    where
      go : (b : Bool) → ltb (m * multiple ps) (load es ps) ≡ b → verdict b ≡ Err (Load (load es ps - m * multiple ps)) → m * multiple ps < load es ps
      go true h q = ltb-true (m * multiple ps) (load es ps) h
      go false h q = absurd (let z : ◌≡◌ {A = ℕ} 0 1 = cc in omega arith)

  -- No table serves a set that 6 refuses, not even one that may give a task more than its share.
  pub refused_none_serves : admission es ps m ≡ Err (Load (load es ps - m * multiple ps)) → (runs : ℕ → ℕ → Bool) → AtLeast es ps m runs → ⊥
  refused_none_serves q runs T = omega (arith, over q, table_load es ps m (period_divides es ps (valid_of es ps m pass)) runs T)

  -- "refusal 6 is given exactly when no table of slots, however made, could serve the set"; it carries the excess of the load.
  pub refusal_six_exact : (admission es ps m ≡ Err (Load (load es ps - m * multiple ps))) ↔ ((runs : ℕ → ℕ → Bool) → Table es ps m runs → ⊥)
  unfolding first admission_by
  refusal_six_exact = (
    λ q runs T. refused_none_serves q runs (at_least es ps m runs T),
    λ nobody. judged ∙ accepts (ltb (m * multiple ps) (load es ps)) refl nobody,
  )
    where
      accepts : (b : Bool) → ltb (m * multiple ps) (load es ps) ≡ b → ((runs : ℕ → ℕ → Bool) → Table es ps m runs → ⊥)
          → verdict b ≡ Err (Load (load es ps - m * multiple ps))
      accepts true h nobody = refl
      accepts false h nobody = let A = accepted_of es ps m pass h in absurd (nobody (runs es ps m A) (run_is_table es ps m A))

-- The run of a set that admission accepts serves it.
pub accepted_served : (es ps : List ℕ) (m : ℕ) (a : Accepted) → admission es ps m ≡ Ok a → Table es ps m (λ i u. runs_at es ps (counts_at es ps u) u i)
accepted_served es ps m a q = run_is_table es ps m (set es ps m a q)
