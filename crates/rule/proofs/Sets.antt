-- What holds of a set that passes refusals 2 to 6. Every period divides L, so each task's share e·L/p is exact and between 0 and L; the
-- load is the sum of the shares, and M is the least number of units that covers it, so the room is below L and the spare's weight below 1.
use Rattle.std.specs.Prelude.{None, Option, Some}
use mathlib.Core.Bool.{Bool, true, false, cond, not}
use mathlib.Core.List.{List}
use mathlib.Core.Path.{◌≡◌, refl, ap, sym}
use Prim.Native.Nat.{ℕ, ◌+◌, ◌*◌, ◌/◌, ◌≤◌, ◌<◌, ◌∣◌}
use native.Mathlib.Nat.{div-mul_cancel, dvd-mul_left_of_dvd, lt_of_mul-lt-mul_right, mul_comm, mul-lt-mul_of_pos_right, mul-pos, zero-mul}
use native.Mathlib.Omega.{arith}
use borrow.Author.Tests.{ltb-true, ltb-false, not-false}
use lib.Dec.{ltb}
use lib.ListN.{length}
use Rattle.numbers.specs.Divide.{gcd, lowest_terms}
use Rattle.numbers.proofs.Common.{each_divides_lcm_all, lcm_all_pos}
use Rattle.numbers.proofs.Euclid.{lowest_same_value, lowest_above_pos, lowest_below_le, lowest_below_divides, lowest_lt}
use Rattle.numbers.proofs.Quotient.{le_of_products, round_up_least}
use Rattle.rule.specs.Layout.{requirement_of, period_of}
use Rattle.rule.specs.declared.Weight.{Weight}
use Rattle.rule.specs.Limits.{within, valid, tasks_most, units_most, period_most, multiple_most}
use Rattle.rule.specs.Places.{at}
use Rattle.rule.specs.Sets.{multiple, load, units_in_use, room, spare, weight}
use Rattle.rule.specs.Refusals.{passed, first, invalid_place, set_checks}
use Rattle.rule.proofs.Places.{sum_lt, lowest_le, lowest_first, lowest_found, lowest_none}
use Rattle.rule.proofs.Limits.{within_numbers, bounded_numbers}
use Rattle.rule.proofs.Refusals.{NoneHolds, none, and, first_none}

-- ---- a set whose records are within their limits

pub record ValidSet (es ps : List ℕ) : Type 0 where
  pub same_length : length ps ≡ length es
  pub tasks_pos : 0 < length es
  pub tasks_le : length es ≤ tasks_most
  pub record_valid : (i : ℕ) → i < length es → valid (at es i) (at ps i) ≡ true

pub invalid_place_le : (es ps : List ℕ) → invalid_place es ps ≤ length es
unfolding invalid_place
invalid_place_le es ps = lowest_le (length es) (λ i. not (valid (at es i) (at ps i)))

module _ (es ps : List ℕ) where
  pub invalid_found : (i : ℕ) → i < length es
      → ((j : ℕ) → j < i → valid (at es j) (at ps j) ≡ true)
      → valid (at es i) (at ps i) ≡ false
      → invalid_place es ps ≡ i
  unfolding invalid_place
  invalid_found i h before here =
      lowest_found (length es) i (λ j. not (valid (at es j) (at ps j))) h (λ j l. ap not (before j l)) (ap not here)

  pub invalid_none : ((j : ℕ) → j < length es → valid (at es j) (at ps j) ≡ true) → invalid_place es ps ≡ length es
  unfolding invalid_place
  invalid_none all = lowest_none (length es) (λ j. not (valid (at es j) (at ps j))) (λ j l. ap not (all j l))

pub valid_set : (es ps : List ℕ) → length ps ≡ length es → 0 < length es → length es ≤ tasks_most
    → invalid_place es ps ≡ length es
    → ValidSet es ps
unfolding invalid_place
valid_set es ps same some few all =
    record {
      same_length = same;
      tasks_pos = some;
      tasks_le = few;
      record_valid =
          λ i h. not-false (valid (at es i) (at ps i))
          (lowest_first (length es) (λ i. not (valid (at es i) (at ps i))) i (omega arith));
    }

module _ (es ps : List ℕ) (set : ValidSet es ps) where
  pub record_numbers : (i : ℕ) → i < length es → (0 < at es i) × (at es i < at ps i) × (at ps i ≤ period_most)
  record_numbers i h = bounded_numbers period_most (at es i) (at ps i) (set.record_valid i h)

  pub period_pos : (i : ℕ) → i < length es → 0 < at ps i
  period_pos i h = omega (arith, record_numbers i h)

  pub multiple_pos : 0 < multiple ps
  unfolding multiple
  multiple_pos = lcm_all_pos ps (λ i h. period_pos i (omega (arith, set.same_length)))

  pub period_divides : (i : ℕ) → i < length es → at ps i ∣ multiple ps
  unfolding multiple
  period_divides i h = each_divides_lcm_all ps i (omega (arith, set.same_length))

  -- a task's share of the load is exact
  pub share_exact : (i : ℕ) → i < length es → at es i * multiple ps / at ps i * at ps i ≡ at es i * multiple ps
  share_exact i h = div-mul_cancel (at ps i) (dvd-mul_left_of_dvd (at ps i) (period_divides i h) (at es i))

  pub share_pos : (i : ℕ) → i < length es → 0 < at es i * multiple ps / at ps i
  share_pos i h =
      let some = mul-pos (record_numbers i h).0 multiple_pos in
      lt_of_mul-lt-mul_right (at ps i) {m = 0} {n = at es i * multiple ps / at ps i} (rw (zero-mul (at ps i), share_exact i h) some)

  pub share_lt : (i : ℕ) → i < length es → at es i * multiple ps / at ps i < multiple ps
  share_lt i h =
      let less = mul-lt-mul_of_pos_right (record_numbers i h).1 multiple_pos in
      lt_of_mul-lt-mul_right (at ps i) (rw (share_exact i h, mul_comm (multiple ps) (at ps i)) less)

  pub load_pos : 0 < load es ps
  unfolding load
  load_pos =
      let share : ℕ → ℕ = λ i. at es i * multiple ps / at ps i in
      let some = share_pos 0 set.tasks_pos in
      omega (arith, sum_lt (length es) (λ i. 0) share (λ i h. omega arith) 0 set.tasks_pos some)

  pub load_le_in_use : load es ps ≤ units_in_use es ps * multiple ps
  unfolding units_in_use
  load_le_in_use = omega (arith, round_up_least (load es ps) (multiple ps) multiple_pos)

  pub in_use_pos : 0 < units_in_use es ps
  in_use_pos = lt_of_mul-lt-mul_right (multiple ps) {m = 0} {n = units_in_use es ps} (omega (arith, load_pos, load_le_in_use))

  -- M is the least number of units that covers the load
  pub in_use_le : (m : ℕ) → load es ps ≤ m * multiple ps → units_in_use es ps ≤ m
  unfolding units_in_use
  in_use_le m h =
      le_of_products (multiple ps) (units_in_use es ps) m (omega (arith, round_up_least (load es ps) (multiple ps) multiple_pos))

  pub room_lt : room es ps < multiple ps
  unfolding room units_in_use
  room_lt = omega (arith, round_up_least (load es ps) (multiple ps) multiple_pos)

  pub load_and_room : load es ps + room es ps ≡ units_in_use es ps * multiple ps
  unfolding room
  load_and_room = omega (arith, load_le_in_use)

-- ---- the spare

-- A spare of e slots in p takes the room, and is a task like the others.
pub record SpareTask (es ps : List ℕ) (e p : ℕ) : Type 0 where
  pub requirement_pos : 0 < e
  pub requirement_lt : e < p
  pub period_le : p ≤ multiple ps
  pub period_divides : p ∣ multiple ps
  pub takes_room : e * multiple ps ≡ room es ps * p

module _ (es ps : List ℕ) (set : ValidSet es ps) where
  abbrev spare_is : Bool → Option Weight
  spare_is test = cond test (Some (weight (room es ps / gcd (room es ps) (multiple ps)) (multiple ps / gcd (room es ps) (multiple ps)))) None

  pub spare_task : (e p : ℕ) → spare es ps ≡ Some (weight e p) → SpareTask es ps e p
  unfolding spare lowest_terms requirement_of period_of
  spare_task e p is = go (ltb 0 (room es ps)) refl is
    where
      go : (test : Bool) → ltb 0 (room es ps) ≡ test → spare_is test ≡ Some (weight e p) → SpareTask es ps e p
      go true h q =
          let r = room es ps in
          let l = multiple ps in
          let e-is : e ≡ r / gcd r l = sym (ap requirement_of q) in
          let p-is : p ≡ l / gcd r l = sym (ap period_of q) in
          record {
            requirement_pos = rw e-is (lowest_above_pos r l (ltb-true 0 r h));
            requirement_lt = rw (e-is, p-is) (lowest_lt r l (room_lt es ps set));
            period_le = rw p-is (lowest_below_le r l);
            period_divides = rw p-is (lowest_below_divides r l);
            takes_room = rw (e-is, p-is) (lowest_same_value r l);
          }
      go false h q = absurd (let z : ◌≡◌ {A = ℕ} 0 1 = cc in omega arith)

  pub no_spare : spare es ps ≡ None → load es ps ≡ units_in_use es ps * multiple ps
  unfolding spare lowest_terms
  no_spare is = go (ltb 0 (room es ps)) refl is
    where
      go : (test : Bool) → ltb 0 (room es ps) ≡ test → spare_is test ≡ None → load es ps ≡ units_in_use es ps * multiple ps
      go true h q = absurd (let z : ◌≡◌ {A = ℕ} 0 1 = cc in omega arith)
      go false h q = omega (arith, load_and_room es ps set, ltb-false 0 (room es ps) h)

-- ---- a set that passes

-- What holds of a set that passes refusals 1 to 6 on m units.
pub record AcceptedSet (es ps : List ℕ) (m : ℕ) : Type 0 where
  pub same_length : length ps ≡ length es
  pub tasks_pos : 0 < length es
  pub tasks_le : length es ≤ tasks_most
  pub units_pos : 0 < m
  pub units_le : m ≤ units_most
  pub record_valid : (i : ℕ) → i < length es → valid (at es i) (at ps i) ≡ true
  pub requirement_pos : (i : ℕ) → i < length es → 0 < at es i
  pub requirement_lt : (i : ℕ) → i < length es → at es i < at ps i
  pub period_le : (i : ℕ) → i < length es → at ps i ≤ period_most
  pub period_divides : (i : ℕ) → i < length es → at ps i ∣ multiple ps
  pub multiple_pos : 0 < multiple ps
  pub multiple_le : multiple ps ≤ multiple_most
  pub load_le : load es ps ≤ m * multiple ps
  pub load_le_in_use : load es ps ≤ units_in_use es ps * multiple ps
  pub load_and_room : load es ps + room es ps ≡ units_in_use es ps * multiple ps
  pub in_use_pos : 0 < units_in_use es ps
  pub in_use_le : units_in_use es ps ≤ m
  pub room_lt : room es ps < multiple ps
  pub spare_task : (e p : ℕ) → spare es ps ≡ Some (weight e p) → SpareTask es ps e p
  pub no_spare : spare es ps ≡ None → load es ps ≡ units_in_use es ps * multiple ps

pub accepted_set : (es ps : List ℕ) (m : ℕ) → length ps ≡ length es → first (set_checks es ps m) ≡ passed → AcceptedSet es ps m
unfolding set_checks
accepted_set es ps m same pass = go (first_none (set_checks es ps m) pass)
  where
    go : NoneHolds (set_checks es ps m) → AcceptedSet es ps m
    go (and t (and u (and r (and l (and o none))))) =
        let n-numbers = within_numbers 1 tasks_most (length es) (not-false (within 1 tasks_most (length es)) t) in
        let m-numbers = within_numbers 1 units_most m (not-false (within 1 units_most m) u) in
        let all : invalid_place es ps ≡ length es = omega (arith, ltb-false (invalid_place es ps) (length es) r, invalid_place_le es ps) in
        let set = valid_set es ps same n-numbers.0 n-numbers.1 all in
        let within-units = ltb-false (m * multiple ps) (load es ps) o in
        record {
          same_length = same;
          tasks_pos = n-numbers.0;
          tasks_le = n-numbers.1;
          units_pos = m-numbers.0;
          units_le = m-numbers.1;
          record_valid = set.record_valid;
          requirement_pos = λ i h. (record_numbers es ps set i h).0;
          requirement_lt = λ i h. (record_numbers es ps set i h).1;
          period_le = λ i h. (record_numbers es ps set i h).2;
          period_divides = period_divides es ps set;
          multiple_pos = multiple_pos es ps set;
          multiple_le = ltb-false multiple_most (multiple ps) l;
          load_le = within-units;
          load_le_in_use = load_le_in_use es ps set;
          load_and_room = load_and_room es ps set;
          in_use_pos = in_use_pos es ps set;
          in_use_le = in_use_le es ps set m within-units;
          room_lt = room_lt es ps set;
          spare_task = spare_task es ps set;
          no_spare = no_spare es ps set;
        }

pub accepted_valid : {es ps : List ℕ} {m : ℕ} → AcceptedSet es ps m → ValidSet es ps
accepted_valid set =
    record {
      same_length = set.same_length;
      tasks_pos = set.tasks_pos;
      tasks_le = set.tasks_le;
      record_valid = set.record_valid;
    }
