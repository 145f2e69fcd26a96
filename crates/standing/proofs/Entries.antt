-- The places of a field that is laid out: below n the tasks, and at n the spare, whose count is M·t less the sum of the others,
-- or the sum alone.
use mathlib.Core.Bool.{Bool, true, false, not, cond, false≢true}
use mathlib.Core.List.{List, map}
use mathlib.Core.Path.{◌≡◌, refl, sym, ◌∙◌}
use Prim.Native.Nat.{ℕ, suc, ◌-◌, ◌*◌, ◌≤◌, ◌<◌}
use native.Mathlib.Decide.{dec_lt}
use native.Mathlib.Nat.{mul-le-mul}
use native.Mathlib.Omega.{arith}
use lib.Dec.{eqb, ltb}
use lib.ListN.{length, set}
use borrow.Author.Tests.{lt-ltb, le-ltb}
use Rattle.std.specs.Prelude.{Some, None}
use Rattle.std.specs.List.{range_with_len}
use Rattle.rule.specs.Limits.{multiple_most, units_most, time_most}
use Rattle.rule.specs.Places.{at, sum, lowest, found}
use Rattle.rule.specs.Sets.{task_at}
use Rattle.rule.specs.Task.{fair}
use Rattle.rule.proofs.Lags.{counted, below_zero_unfair}
use Rattle.rule.proofs.Limits.{bounded_numbers}
use Rattle.rule.proofs.Places.{lowest_ext}
use Rattle.rule.proofs.Signs.{difference_below, difference_above}
use Rattle.standing.specs.declared.Rung.{Rung}
use Rattle.standing.specs.declared.Rung.TheVariants.{Tnegru}
use Rattle.standing.specs.Judged.{rung, rungs_of}
use Rattle.standing.specs.Laid.{laid_count, laid_entry, laid_unfair, laid_unfair_place}
use Rattle.standing.specs.Sound.{Small, Sound}
use Rattle.rule.proofs.Searches.{found_some, found_none, found_here, found_never}
use Rattle.standing.proofs.Lists.{lowest_early, lowest_last, lowest_never, listed_ext, set_listed}

-- A place of sound lists, with a count that is a u32.
pub small_at : {es ps ks : List ℕ} {t : ℕ} → Sound es ps ks t → (i k : ℕ) → i < length es → k ≤ 4294967295 → Small (at es i) (at ps i) k t
small_at {es} {ps} sound i k l narrow =
    let b = bounded_numbers multiple_most (at es i) (at ps i) (sound.bounded i l) in
    record { some = b.0; light = b.1; limit = b.2; narrow = narrow; early = sound.early }

-- M·t is less than 2^29, so the spare's count is a u32.
pub given_narrow : (units t : ℕ) → units ≤ units_most → t ≤ time_most → units * t ≤ 536870880
given_narrow units t h g = mul-le-mul h g

not_not : (b : Bool) → not (not b) ≡ b
not_not true = refl
not_not false = refl

module _ (units : ℕ) (es ps ks : List ℕ) (t : ℕ) where
  -- ---- below n

  pub laid_task : (i : ℕ) → i < length ks → laid_entry units es ps ks t i ≡ task_at es ps ks i
  unfolding laid_entry laid_count task_at
  laid_task i l = rw (lt-ltb i (length ks) l)

  pub unfair_task : length ks ≤ length es → (i : ℕ) → i < length ks → laid_unfair units es ps ks t i ≡ not (fair t (task_at es ps ks i))
  unfolding laid_unfair
  unfair_task least i l = rw (lt-ltb i (length es) (omega arith), laid_task i l)

  -- ---- at n

  pub fair_sum : length es ≤ length ks → not (laid_unfair units es ps ks t (length ks)) ≡ eqb (sum (length ks) (at ks)) (units * t)
  unfolding laid_unfair
  fair_sum h = rw (le-ltb (length ks) (length es) h) (not_not _)

  pub fair_spare : length ks < length es → not (laid_unfair units es ps ks t (length ks)) ≡ fair t (laid_entry units es ps ks t (length ks))
  unfolding laid_unfair
  fair_spare h = rw (lt-ltb (length ks) (length es) h) (not_not _)

  module _ (others : ℕ) (summed : others ≡ sum (length ks) (at ks)) where
    pub laid_spare : others ≤ units * t
        → laid_entry units es ps ks t (length ks) ≡ counted (at es (length ks)) (at ps (length ks)) (units * t - others)
    unfolding laid_entry laid_count
    laid_spare h = rw (le-ltb (length ks) (length ks) (omega arith), ← summed, difference_above (units * t) others h)

    -- A count below zero is out of bounds, so where the spare is fair its count is a number.
    pub spare_over : units * t < others → fair t (laid_entry units es ps ks t (length ks)) ≡ false
    unfolding laid_entry laid_count
    spare_over h =
        rw (le-ltb (length ks) (length ks) (omega arith), ← summed, difference_below (units * t) others h)
        (below_zero_unfair (at es (length ks)) (at ps (length ks)) (others - suc (units * t)) t)

    pub spare_within : fair t (laid_entry units es ps ks t (length ks)) ≡ true → others ≤ units * t
    spare_within h = go (dec_lt (units * t) others)
      where
        go : Dec (units * t < others) → others ≤ units * t
        go (yes l) = absurd (false≢true (sym (spare_over l) ∙ h))
        go (no n) = omega arith

  -- ---- the lowest unfair place, from the search over the tasks and from place n

  module _ (least : length ks ≤ length es) where
    abbrev task_place : ℕ
    task_place = lowest (length ks) (λ i. not (fair t (task_at es ps ks i)))

    module _ (place : ℕ) (searched : place ≡ task_place) where
      same_search : lowest (length ks) (laid_unfair units es ps ks t) ≡ place
      same_search =
          lowest_ext (length ks) (laid_unfair units es ps ks t) (λ i. not (fair t (task_at es ps ks i))) (unfair_task least) ∙ sym searched

      -- A task that is found is the lowest of all places,
      pub place_of_task : place < length ks → place ≡ laid_unfair_place units es ps ks t
      unfolding laid_unfair_place
      place_of_task h =
          let s = same_search in
          sym (lowest_early (length ks) (laid_unfair units es ps ks t) (omega arith) ∙ s)

      -- else it is place n,
      pub place_of_last : length ks ≤ place → laid_unfair units es ps ks t (length ks) ≡ true → length ks ≡ laid_unfair_place units es ps ks t
      unfolding laid_unfair_place
      place_of_last h unfair =
          let s = same_search in
          sym (lowest_last (length ks) (laid_unfair units es ps ks t) (omega arith) unfair)

      -- or there is none.
      pub place_of_none : length ks ≤ place → laid_unfair units es ps ks t (length ks) ≡ false → suc (length ks) ≡ laid_unfair_place units es ps ks t
      unfolding laid_unfair_place
      place_of_none h fair =
          let s = same_search in
          sym (lowest_never (length ks) (laid_unfair units es ps ks t) (omega arith) fair)

    -- The same of a search that answers a place or none.
    pub found_task : (i : ℕ) → Some i ≡ found (length ks) task_place → Some i ≡ found (suc (length ks)) (laid_unfair_place units es ps ks t)
    found_task i q =
        let f = found_some (length ks) task_place i q in
        let here = place_of_task task_place refl f.0 in
        found_here (suc (length ks)) (laid_unfair_place units es ps ks t) i (omega arith) (omega arith)

    module _ (tasks_fair : None ≡ found (length ks) task_place) where
      late : length ks ≤ task_place
      late = found_none (length ks) task_place tasks_fair

      pub found_last : laid_unfair units es ps ks t (length ks) ≡ true
          → Some (length ks) ≡ found (suc (length ks)) (laid_unfair_place units es ps ks t)
      found_last here =
          let last = place_of_last task_place refl late here in
          found_here (suc (length ks)) _ (length ks) last (omega arith)

      pub found_nowhere : laid_unfair units es ps ks t (length ks) ≡ false
          → None ≡ found (suc (length ks)) (laid_unfair_place units es ps ks t)
      found_nowhere here =
          let never = place_of_none task_place refl late here in
          found_never (suc (length ks)) _ (omega arith)

  -- ---- the rungs of a field, from those of its tasks

  same_rung : length ks ≤ length es → (j : ℕ) → (length ks ≤ j → length es ≤ j)
      → cond (ltb j (length ks)) (rung t (task_at es ps ks j)) Tnegru ≡ cond (ltb j (length es)) (rung t (laid_entry units es ps ks t j)) Tnegru
  same_rung least j past = go (dec_lt j (length ks))
    where
      go : Dec (j < length ks)
          → cond (ltb j (length ks)) (rung t (task_at es ps ks j)) Tnegru ≡ cond (ltb j (length es)) (rung t (laid_entry units es ps ks t j)) Tnegru
      go (yes l) = rw (lt-ltb j (length ks) l, lt-ltb j (length es) (omega arith), laid_task j l)
      go (no n) = rw (le-ltb j (length ks) (omega arith), le-ltb j (length es) (past (omega arith)))

  abbrev pub task_rungs : List Rung
  task_rungs = map (λ i. cond (ltb i (length ks)) (rung t (task_at es ps ks i)) Tnegru) (range_with_len 0 65)

  pub rungs_of_tasks : length es ≡ length ks → task_rungs ≡ rungs_of units es ps ks t
  unfolding rungs_of
  rungs_of_tasks size = listed_ext 65 _ _ (λ j l. same_rung (omega arith) j (λ past. omega arith))

  pub rungs_with_spare : (v : Rung) → length es ≡ suc (length ks) → v ≡ rung t (laid_entry units es ps ks t (length ks))
      → set task_rungs (length ks) v ≡ rungs_of units es ps ks t
  unfolding rungs_of
  rungs_with_spare v size here =
      set_listed 65 (length ks) _ _ v (rw (lt-ltb (length ks) (length es) (omega arith)) here)
      (λ j ne. same_rung (omega arith) j (λ past. omega (arith, ne)))
