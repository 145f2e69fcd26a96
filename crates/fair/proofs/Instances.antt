-- The theorems at sets with numbers in them, so that nobody need ask whether their hypotheses can be met: the paper's set, P4's set
-- with no spare, a set of one task, and P5's set that no table serves. Assumes nothing.
use Rattle.std.specs.Prelude.{Err, None, Ok, Option, Some}
use mathlib.Core.Path.{◌≡◌, refl}
use mathlib.Core.Bool.{Bool, false}
use mathlib.Core.List.{List, [], ◌∷◌}
use Prim.Native.Nat.{ℕ, zero, suc, ◌+◌, ◌-◌, ◌*◌, ◌≤◌, ◌<◌, zero-le}
use native.Mathlib.Omega.{arith}
use lib.Dec.{eqb}
use lib.ListN.{length}
use Rattle.numbers.specs.Divide.{euclid, gcd, lowest_terms}
use Rattle.numbers.specs.Multiple.{lcm, lcm_all}
use Rattle.numbers.specs.Round.{round_up}
use Rattle.rule.specs.declared.Weight.{Weight}
use Rattle.rule.specs.declared.Accepted.{Accepted}
use Rattle.rule.specs.declared.Refusal.TheVariants.{Load}
use Rattle.rule.specs.Limits.{bounded_by, time_most}
use Rattle.rule.specs.Places.{at, sum, count, lowest}
use Rattle.rule.specs.Sets.{multiple, load, units_in_use, room, spare, field, weight}
use Rattle.rule.specs.Slot.{chosen}
use Rattle.rule.specs.Refusals.{first, differ, invalid_place, set_checks, admission_checks, run_checks}
use Rattle.rule.specs.Outcomes.{admission_by, admission, acceptance, slot, run}
use Rattle.rule.proofs.Choice.{IsChoice}
use Rattle.rule.proofs.Refusals.{none, and}
use Rattle.fair.specs.FromStart.{counts_at, runs_from_start, stepped}
use Rattle.fair.specs.Table.{Table}
use Rattle.fair.specs.FiniteTable.{FiniteTable, Has, up_to, slots}
use Rattle.fair.specs.Slots.{IsSlots}
use Rattle.fair.proofs.NeverStuck.{FairAt, never_stuck, never_refused}
use Rattle.fair.proofs.RefusalSix.{PassesOneToFive, refusal_six_exact}
use Rattle.fair.proofs.FiniteTables.{refusal_six_finite, accepted_served_finite}
use Rattle.fair.proofs.OneChoice.{outcome_is_choice}
use Rattle.fair.proofs.RunIsSlots.{run_is_slots}

abbrev paper_es : List ℕ
paper_es = 1 ∷ 2 ∷ 5 ∷ 8 ∷ []

abbrev paper_ps : List ℕ
paper_ps = 3 ∷ 4 ∷ 7 ∷ 11 ∷ []

abbrev set : ℕ → ℕ → Option Weight → Accepted
set m l s = record { units = m; multiple = l; spare = s }

-- What admission says of the four sets.
admissions : (admission paper_es paper_ps 3 ≡ Ok (set 3 924 (Some (weight 335 462))))
    × (admission (1 ∷ 1 ∷ []) (2 ∷ 2 ∷ []) 1 ≡ Ok (set 1 2 None))
    × (admission (1 ∷ []) (2 ∷ []) 1 ≡ Ok (set 1 2 (Some (weight 1 2))))
    × (admission (2 ∷ 2 ∷ []) (3 ∷ 3 ∷ []) 1 ≡ Err (Load (load (2 ∷ 2 ∷ []) (3 ∷ 3 ∷ []) - 1 * multiple (3 ∷ 3 ∷ []))))
unfolding admission admission_by acceptance first differ invalid_place set_checks admission_checks multiple load units_in_use room spare bounded_by sum lowest euclid gcd lowest_terms lcm lcm_all round_up
admissions = (refl, refl, refl, refl)

-- The paper's set is fair at every time, and none of its slots is refused.
pub paper_fair : (t : ℕ) → FairAt paper_es paper_ps 3 t (counts_at paper_es paper_ps t)
paper_fair = never_stuck paper_es paper_ps 3 (set 3 924 (Some (weight 335 462))) admissions.0

pub paper_done : (t : ℕ) (bytes : List ℕ) → length bytes ≡ 4 → t ≤ time_most → (slot paper_es paper_ps (stepped paper_es paper_ps 3 t) bytes 3 t).answer ≡ Ok tt
paper_done = never_refused paper_es paper_ps 3 (set 3 924 (Some (weight 335 462))) admissions.0

-- So is P4's set, which has no spare, and a set of one task.
pub full_fair : (t : ℕ) → FairAt (1 ∷ 1 ∷ []) (2 ∷ 2 ∷ []) 1 t (counts_at (1 ∷ 1 ∷ []) (2 ∷ 2 ∷ []) t)
full_fair = never_stuck (1 ∷ 1 ∷ []) (2 ∷ 2 ∷ []) 1 (set 1 2 None) admissions.1

pub one_task_fair : (t : ℕ) → FairAt (1 ∷ []) (2 ∷ []) 1 t (counts_at (1 ∷ []) (2 ∷ []) t)
one_task_fair = never_stuck (1 ∷ []) (2 ∷ []) 1 (set 1 2 (Some (weight 1 2))) admissions.2

-- No table serves 2/3 and 2/3 on one unit.
five_passed : PassesOneToFive (2 ∷ 2 ∷ []) (3 ∷ 3 ∷ []) 1
unfolding admission_checks set_checks differ invalid_place lowest bounded_by multiple lcm_all lcm gcd euclid
five_passed = and refl (and refl (and refl (and refl (and refl none))))

pub no_table : (runs : ℕ → ℕ → Bool) → Table (2 ∷ 2 ∷ []) (3 ∷ 3 ∷ []) 1 runs → ⊥
no_table = (refusal_six_exact (2 ∷ 2 ∷ []) (3 ∷ 3 ∷ []) 1 five_passed).0 admissions.3

-- Nor does one of any number of slots from L = 3 up. Of 2 slots there is one, since no period ends within it.
pub no_finite_table : (s : ℕ) → 3 ≤ s → (runs : ℕ → ℕ → Bool) → FiniteTable s (2 ∷ 2 ∷ []) (3 ∷ 3 ∷ []) 1 runs → ⊥
unfolding multiple lcm_all lcm gcd euclid
no_finite_table s whole = (refusal_six_finite (2 ∷ 2 ∷ []) (3 ∷ 3 ∷ []) 1 five_passed s whole).0 admissions.3

pub short_table : FiniteTable 2 (2 ∷ 2 ∷ []) (3 ∷ 3 ∷ []) 1 (λ i u. false)
unfolding sum
short_table = record { few = λ u h. zero-le; served = none_ends }
  where
    none_ends : (i j : ℕ) → i < 2 → Has (slots 2) (at (3 ∷ 3 ∷ []) i * suc j) → count (at (3 ∷ 3 ∷ []) i) (λ v. false) ≡ at (2 ∷ 2 ∷ []) i
    none_ends zero j l (up_to h) = absurd (omega arith)
    none_ends (suc zero) j l (up_to h) = absurd (omega arith)
    none_ends (suc (suc i)) j l h = absurd (omega arith)

-- The paper's set has a table of every length. P4's has one that is made by hand, of 3 slots: its second period does not end there.
pub paper_table : (s : ℕ) → FiniteTable s paper_es paper_ps 3 (runs_from_start paper_es paper_ps)
paper_table = accepted_served_finite paper_es paper_ps 3 (set 3 924 (Some (weight 335 462))) admissions.0

pub table_by_hand : FiniteTable 3 (1 ∷ 1 ∷ []) (2 ∷ 2 ∷ []) 1 eqb
unfolding sum
table_by_hand = record { few = one; served = once }
  where
    one : (u : ℕ) → Has (slots 3) (suc u) → count 2 (λ i. eqb i u) ≤ 1
    one zero h = omega arith
    one (suc zero) h = omega arith
    one (suc (suc zero)) h = omega arith
    one (suc (suc (suc u))) (up_to h) = absurd (omega arith)

    once : (i j : ℕ) → i < 2 → Has (slots 3) (at (2 ∷ 2 ∷ []) i * suc j) → count (at (2 ∷ 2 ∷ []) i) (λ v. eqb i (at (2 ∷ 2 ∷ []) i * j + v)) ≡ at (1 ∷ 1 ∷ []) i
    once zero zero l h = refl
    once (suc zero) zero l h = refl
    once zero (suc j) l (up_to h) = absurd (omega arith)
    once (suc zero) (suc j) l (up_to h) = absurd (omega arith)
    once (suc (suc i)) j l h = absurd (omega arith)

-- The paper's first slot makes the one right choice.
pub paper_first_choice : IsChoice (units_in_use paper_es paper_ps) 0 (field paper_es paper_ps (stepped paper_es paper_ps 3 0) 0)
    (chosen (units_in_use paper_es paper_ps) 0 (field paper_es paper_ps (stepped paper_es paper_ps 3 0) 0))
paper_first_choice =
    outcome_is_choice paper_es paper_ps (stepped paper_es paper_ps 3 0) (0 ∷ 0 ∷ 0 ∷ 0 ∷ []) 3 0 (paper_done 0 (0 ∷ 0 ∷ 0 ∷ 0 ∷ []) refl zero-le)

-- A run of two slots of P4's set equals its slots.
pub full_run : IsSlots 2 (1 ∷ 1 ∷ []) (2 ∷ 2 ∷ []) 1 0 (0 ∷ 0 ∷ []) (9 ∷ 9 ∷ 9 ∷ 9 ∷ []) (run 2 (1 ∷ 1 ∷ []) (2 ∷ 2 ∷ []) (0 ∷ 0 ∷ []) (9 ∷ 9 ∷ 9 ∷ 9 ∷ []) 1 0)
unfolding first run_checks differ
full_run = run_is_slots 2 (1 ∷ 1 ∷ []) (2 ∷ 2 ∷ []) (0 ∷ 0 ∷ []) (9 ∷ 9 ∷ 9 ∷ 9 ∷ []) 1 0 refl
