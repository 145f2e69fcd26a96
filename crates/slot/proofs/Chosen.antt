-- The choice read off the rungs is the rule's: a rung is Urgent exactly for an urgent place and one of the three between exactly for a contender, so the
-- counts and the order are the field's own. Assumes nothing.
use mathlib.Core.Path.{◌≡◌, refl, sym, ap}
use mathlib.Core.Bool.{true, false, cond, ◌&&◌}
use mathlib.Core.List.{List}
use Prim.Native.Nat.{ℕ, ◌+◌, ◌≤◌, ◌<◌}
use lib.ListN.{length}
use Rattle.rule.specs.declared.Standing.{Standing}
use Rattle.rule.specs.declared.Standing.TheVariants.{Ahead, Punctual, Behind}
use Rattle.rule.specs.Places.{count}
use Rattle.rule.specs.Task.{Entry, standing}
use Rattle.rule.specs.Sets.{Field}
use Rattle.rule.specs.Slot.{tnegru, urgent, contending, urgents, not_tnegrus, precedes, contenders_before, chosen}
use Rattle.rule.proofs.Places.{count_ext}
use Rattle.rule.proofs.Choice.{Class, of_tnegru, of_urgent, of_contending, classes_apart, not_tnegru_count}
use Rattle.standing.specs.declared.Rung.{Rung}
use Rattle.standing.specs.declared.Rung.TheVariants.{Tnegru, Urgent}
use Rattle.standing.specs.Laid.{laid_entry, laid_field}
use Rattle.standing.specs.Judged.{between, rung, rungs_of}
use Rattle.standing.proofs.Told.{at_rungs}
use Rattle.slot.specs.Rungs.{is_urgent, contends, urgent_to, contending_to, on_urgent, on_contending, goes_before, rank_to, chosen_by}

-- ---- a rung says the class

rung_urgent : (t : ℕ) (x : Entry) → is_urgent (rung t x) ≡ urgent t x
unfolding rung
rung_urgent t x = go (classes_apart t x)
  where
    middle : (s : Standing) → is_urgent (between s) ≡ false
    middle Ahead = refl
    middle Punctual = refl
    middle Behind = refl

    go : Class t x → is_urgent (cond (tnegru t x) Tnegru (cond (urgent t x) Urgent (between (standing t x)))) ≡ urgent t x
    go (of_tnegru n u c) = rw (n, u)
    go (of_urgent n u c) = rw (n, u)
    go (of_contending n u c) = rw (n, u) (middle (standing t x))

rung_contending : (t : ℕ) (x : Entry) → contends (rung t x) ≡ contending t x
unfolding rung
rung_contending t x = go (classes_apart t x)
  where
    middle : (s : Standing) → contends (between s) ≡ true
    middle Ahead = refl
    middle Punctual = refl
    middle Behind = refl

    go : Class t x → contends (cond (tnegru t x) Tnegru (cond (urgent t x) Urgent (between (standing t x)))) ≡ contending t x
    go (of_tnegru n u c) = rw (n, c)
    go (of_urgent n u c) = rw (n, u, c)
    go (of_contending n u c) = rw (n, u, c) (middle (standing t x))

-- ---- the counts and the order over the rungs of a field

module _ (units : ℕ) (es ps ks : List ℕ) (t : ℕ) (few : length es ≤ 65) where
  abbrev f : Field
  f = laid_field units es ps ks t

  abbrev rungs : List Rung
  rungs = rungs_of units es ps ks t

  pub on_urgent_lem : (i : ℕ) → i < length es → on_urgent rungs i ≡ urgent t (laid_entry units es ps ks t i)
  on_urgent_lem i l = rw (at_rungs units es ps ks t few i l) (rung_urgent t (laid_entry units es ps ks t i))

  pub on_contending_lem : (i : ℕ) → i < length es → on_contending rungs i ≡ contending t (laid_entry units es ps ks t i)
  on_contending_lem i l = rw (at_rungs units es ps ks t few i l) (rung_contending t (laid_entry units es ps ks t i))

  pub urgents_counted : urgent_to (length es) rungs ≡ urgents t f
  unfolding urgents laid_field
  urgents_counted = count_ext (length es) (on_urgent rungs) (λ i. urgent t (laid_entry units es ps ks t i)) on_urgent_lem

  pub contenders_counted : contending_to (length es) rungs ≡ count (length es) (λ i. contending t (laid_entry units es ps ks t i))
  contenders_counted = count_ext (length es) (on_contending rungs) (λ i. contending t (laid_entry units es ps ks t i)) on_contending_lem

  pub not_tnegrus_counted : urgent_to (length es) rungs + contending_to (length es) rungs ≡ not_tnegrus t f
  unfolding laid_field
  not_tnegrus_counted = rw (urgents_counted, contenders_counted) (sym (not_tnegru_count t f))

  rank_counted : (i : ℕ) → rank_to (length es) es ps rungs t i ≡ contenders_before t f i
  unfolding contenders_before precedes laid_field laid_entry
  rank_counted i =
      count_ext (length es) (λ j. on_contending rungs j && goes_before es ps t j i)
      (λ j. contending t (laid_entry units es ps ks t j) && goes_before es ps t j i)
      (λ j l. ap (λ b. b && goes_before es ps t j i) (on_contending_lem j l))

  pub chosen_by_rungs : (i : ℕ) → i < length es → chosen_by units es ps rungs t i ≡ chosen units t f i
  unfolding chosen_by chosen laid_field
  chosen_by_rungs i l = rw (urgents_counted, rank_counted i, on_urgent_lem i l, on_contending_lem i l)
