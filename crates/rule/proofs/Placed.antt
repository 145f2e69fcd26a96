-- The field of a set place by place: below n a task's own numbers, at n the spare's. Assumes nothing.
use Rattle.std.specs.Prelude.{None, Option, Some}
use mathlib.Core.Path.{◌≡◌, refl, sym, ap, ◌∙◌, subst}
use mathlib.Core.Logic.{◌⊎◌, inl, inr}
use mathlib.Core.Bool.{Bool, true, false, cond}
use mathlib.Core.List.{List}
use Prim.Native.Nat.{ℕ, suc, ◌+◌, ◌-◌, ◌*◌, ◌≤◌, ◌<◌}
use native.Mathlib.Nat.{eq-or-lt_of_le, le_of_suc-le-suc}
use native.Mathlib.Omega.{arith}
use borrow.Author.Tests.{lt-ltb, le-ltb}
use lib.Dec.{ltb}
use lib.IntN.{ℤ, pos, ◌-ℤ◌}
use lib.ListN.{length}
use Rattle.rule.specs.declared.Weight.{Weight}
use Rattle.rule.specs.Places.{at, sum, count}
use Rattle.rule.specs.Sets.{units_in_use, spare, task_at, spare_entry, field_with, field, weight}
use Rattle.rule.specs.Layout.{placed, requirement_of, period_of, places_of}
use Rattle.rule.proofs.Lags.{counted}
use Rattle.rule.proofs.Signs.{difference_above}

pub placed_task : (n : ℕ) (task : ℕ → ℕ) (spares i : ℕ) → i < n → placed n task spares i ≡ task i
unfolding placed
placed_task n task spares i l = rw (lt-ltb i n l)

pub placed_spare : (n : ℕ) (task : ℕ → ℕ) (spares : ℕ) → placed n task spares n ≡ spares
unfolding placed
placed_spare n task spares = rw (le-ltb n n (omega arith))

-- A place is a task's, or the spare's.
pub data Place (s : Option Weight) (n i : ℕ) : Type 0 where
  of_task : i < n → Place s n i
  of_spare : (e p : ℕ) → s ≡ Some (weight e p) → i ≡ n → Place s n i

pub place_of : (s : Option Weight) (n i : ℕ) → i < places_of s n → Place s n i
unfolding places_of
place_of None n i l = of_task l
place_of (Some w) n i l = go (eq-or-lt_of_le (le_of_suc-le-suc l))
  where
    go : (i ≡ n) ⊎ (i < n) → Place (Some w) n i
    go (inl q) = of_spare w.e w.p refl q
    go (inr m) = of_task m

task_is_place : (s : Option Weight) (n i : ℕ) → i < n → i < places_of s n
unfolding places_of
task_is_place None n i l = l
task_is_place (Some w) n i l = omega arith

-- Where place n is past the last, there is no spare.
pub past_last : (s : Option Weight) (n i : ℕ) → i < suc n → places_of s n ≤ i → s ≡ None
unfolding places_of
past_last None n i l h = refl
past_last (Some w) n i l h = absurd (omega arith)

module _ (es ps : List ℕ) where
  unfoldable pub size : ℕ
  size = places_of (spare es ps) (length es)

  unfoldable pub requirement_at : ℕ → ℕ
  requirement_at = placed (length es) (at es) (requirement_of (spare es ps))

  unfoldable pub period_at : ℕ → ℕ
  period_at = placed (length es) (at ps) (period_of (spare es ps))

  unfoldable pub count_at : List ℕ → ℕ → ℕ → ℕ
  count_at ks t = placed (length es) (at ks) (units_in_use es ps * t - sum (length ks) (at ks))

  -- ---- the field's entries

  pub field_size : (ks : List ℕ) (t : ℕ) → (field es ps ks t).size ≡ size
  unfolding field field_with size places_of
  field_size ks t = go (spare es ps)
    where
      go : (s : Option Weight) → (field_with (units_in_use es ps) s es ps ks t).size ≡ places_of s (length es)
      go None = refl
      go (Some w) = refl

  -- What an entry of the field is: the spare's count may be below zero.
  pub field_entry_free : (ks : List ℕ) (t i : ℕ) → i < size → (field es ps ks t).entry i ≡ record {
    e = requirement_at i;
    p = period_at i;
    k = cond (ltb i (length es)) (pos (at ks i)) (pos (units_in_use es ps * t) -ℤ pos (sum (length ks) (at ks)));
  }
  unfolding field field_with size places_of requirement_at period_at placed requirement_of period_of task_at spare_entry
  field_entry_free ks t i l = go (spare es ps) l
    where
      rest : ℤ
      rest = pos (units_in_use es ps * t) -ℤ pos (sum (length ks) (at ks))

      at_spare : (e p : ℕ) (b : Bool)
          → cond b (task_at es ps ks i) (spare_entry e p (units_in_use es ps) ks t)
          ≡ record { e = cond b (at es i) e; p = cond b (at ps i) p; k = cond b (pos (at ks i)) rest }
      at_spare e p true = refl
      at_spare e p false = refl

      go : (s : Option Weight) → i < places_of s (length es) → (field_with (units_in_use es ps) s es ps ks t).entry i ≡ record {
        e = placed (length es) (at es) (requirement_of s) i;
        p = placed (length es) (at ps) (period_of s) i;
        k = cond (ltb i (length es)) (pos (at ks i)) rest;
      }
      go None l = rw (lt-ltb i (length es) l)
      go (Some w) l = at_spare w.e w.p (ltb i (length es))

  -- Where the counts are no more than the units gave, the spare's is a number too.
  pub field_entry : (ks : List ℕ) (t i : ℕ) → i < size → sum (length ks) (at ks) ≤ units_in_use es ps * t
      → (field es ps ks t).entry i ≡ counted (requirement_at i) (period_at i) (count_at ks t i)
  unfolding count_at placed
  field_entry ks t i l h =
      field_entry_free ks t i l
      ∙ ap (λ z. record { e = requirement_at i; p = period_at i; k = z }) (go (ltb i (length es)))
    where
      go : (b : Bool) → cond b (pos (at ks i)) (pos (units_in_use es ps * t) -ℤ pos (sum (length ks) (at ks)))
          ≡ pos (cond b (at ks i) (units_in_use es ps * t - sum (length ks) (at ks)))
      go true = refl
      go false = difference_above (units_in_use es ps * t) (sum (length ks) (at ks)) h

  pub no_spare_past : (ks : List ℕ) (t i : ℕ) → i < suc (length es) → (field es ps ks t).size ≤ i → spare es ps ≡ None
  unfolding size
  no_spare_past ks t i l h = past_last (spare es ps) (length es) i l (rw (field_size ks t) at h)

  -- The tasks alone are no more than the whole field.
  pub count_tasks : (ks : List ℕ) (t : ℕ) (test : ℕ → Bool) → count (length es) test ≤ count (field es ps ks t).size test
  unfolding size places_of sum
  count_tasks ks t test = rw (field_size ks t) (go (spare es ps))
    where
      go : (s : Option Weight) → count (length es) test ≤ count (places_of s (length es)) test
      go None = omega arith
      go (Some w) = omega arith

  -- ---- what stands at a task's place, and at the spare's

  module _ (i : ℕ) (l : i < length es) where
    pub task_place : i < size
    unfolding size
    task_place = task_is_place (spare es ps) (length es) i l

    pub requirement_task : requirement_at i ≡ at es i
    unfolding requirement_at
    requirement_task = placed_task (length es) (at es) (requirement_of (spare es ps)) i l

    pub period_task : period_at i ≡ at ps i
    unfolding period_at
    period_task = placed_task (length es) (at ps) (period_of (spare es ps)) i l

    pub count_task : (ks : List ℕ) (t : ℕ) → count_at ks t i ≡ at ks i
    unfolding count_at
    count_task ks t = placed_task (length es) (at ks) (units_in_use es ps * t - sum (length ks) (at ks)) i l

  pub requirement_spare : (e p : ℕ) → spare es ps ≡ Some (weight e p) → requirement_at (length es) ≡ e
  unfolding requirement_at requirement_of
  requirement_spare e p q = placed_spare (length es) (at es) (requirement_of (spare es ps)) ∙ ap requirement_of q

  pub period_spare : (e p : ℕ) → spare es ps ≡ Some (weight e p) → period_at (length es) ≡ p
  unfolding period_at period_of
  period_spare e p q = placed_spare (length es) (at ps) (period_of (spare es ps)) ∙ ap period_of q

  pub count_spare : (ks : List ℕ) (t : ℕ) → count_at ks t (length es) ≡ units_in_use es ps * t - sum (length ks) (at ks)
  unfolding count_at
  count_spare ks t = placed_spare (length es) (at ks) (units_in_use es ps * t - sum (length ks) (at ks))

  -- What holds of every task, and of a spare at place n, holds at every place.
  pub at_places : (P : ℕ → Type 0) → ((i : ℕ) → i < length es → P i) → ((e p : ℕ) → spare es ps ≡ Some (weight e p) → P (length es))
      → (i : ℕ) → i < size → P i
  unfolding size
  at_places P task spares i l = go (place_of (spare es ps) (length es) i l)
    where
      go : Place (spare es ps) (length es) i → P i
      go (of_task m) = task i m
      go (of_spare e p q r) = subst P (sym r) (spares e p q)

  -- A sum over all places is one over the tasks and the spare's part.
  pub sum_places : (f : ℕ → ℕ) → (spare es ps ≡ None → sum (length es) f ≡ sum size f)
      × ((e p : ℕ) → spare es ps ≡ Some (weight e p) → sum (length es) f + f (length es) ≡ sum size f)
  unfolding size places_of sum
  sum_places f = (λ q. rw q, λ e p q. rw q)
