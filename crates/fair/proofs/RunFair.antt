-- A run of an accepted set is never refused: from the counts that the slots up to t hand back, so many slots more are all done, as
-- long as the calendar lasts. Assumes nothing.
use Rattle.std.specs.Prelude.{Ok}
use mathlib.Core.Path.{◌≡◌, refl, sym, ap, ◌∙◌}
use mathlib.Core.List.{List}
use Prim.Native.Nat.{ℕ, zero, suc, ◌+◌, ◌*◌, ◌≤◌}
use native.Mathlib.Nat.{add-zero}
use native.Mathlib.Omega.{arith}
use borrow.Author.Tests.{le-ltb, eq-eqb}
use lib.ListN.{length, take, drop, length-drop}
use lib.Seq.{length-take-le}
use Rattle.rule.specs.declared.Accepted.{Accepted}
use Rattle.rule.specs.Limits.{slots_most, time_most}
use Rattle.rule.specs.Refusals.{passed, first, differ, set_checks, run_checks}
use Rattle.rule.specs.Outcomes.{admission, RunAfter, slots_from, after_slot, run_by, run}
use Rattle.rule.proofs.Sets.{AcceptedSet}
use Rattle.fair.specs.FromStart.{counts_at, stepped}
use Rattle.fair.proofs.NeverStuck.{length_counts, slot_done, stepped_counts, checks, set}

-- All s slots were done, and these are the counts.
pub record AllDone (s : ℕ) (ks : List ℕ) (r : RunAfter) : Type 0 where
  pub done : r.answer.done ≡ s
  pub end : r.answer.end ≡ Ok tt
  pub counts : r.counts ≡ ks

module _ (es ps : List ℕ) (m : ℕ) (A : AcceptedSet es ps m) (pass : first (set_checks es ps m) ≡ passed) where
  slots_done : (s t : ℕ) (log : List ℕ) → t + s ≤ suc time_most → length log ≡ s * length es
      → AllDone s (counts_at es ps (t + s)) (slots_from s es ps m t (counts_at es ps t) log)
  unfolding slots_from after_slot
  slots_done zero t log h whole = record { done = refl; end = refl; counts = ap (counts_at es ps) (sym (add-zero t)) }
  slots_done (suc s) t log h whole =
      let part : length (take (length es) log) ≡ length es = length-take-le (length es) log (omega arith) in
      let R = slots_done s (suc t) (drop (length es) log) (omega arith) (length-drop (length es) log ∙ omega arith) in
      let later : suc t + s ≡ t + suc s = omega arith in
      rw (slot_done es ps m A t (take (length es) log) part (omega arith) pass)
      (record { done = ap suc R.done; end = R.end; counts = R.counts ∙ ap (counts_at es ps) later })

-- "refusals 8 and 9 never come", of a run.
module _ (es ps : List ℕ) (m : ℕ) (a : Accepted) (q : admission es ps m ≡ Ok a) where
  pub run_never_refused : (s t : ℕ) (log : List ℕ) → s ≤ slots_most → t + s ≤ suc time_most → length log ≡ s * length es
      → AllDone s (stepped es ps m (t + s)) (run s es ps (stepped es ps m t) log m t)
  unfolding run run_by run_checks first differ
  run_never_refused s t log few h whole =
      let A = set es ps m a q in
      let pass = checks es ps m a q in
      rw (
        stepped_counts es ps m A t (omega arith) pass.1,
        stepped_counts es ps m A (t + s) h pass.1,
        le-ltb slots_most s few,
        eq-eqb (length ps) (length es) pass.0,
        eq-eqb (length (counts_at es ps t)) (length es) (length_counts es ps m A t),
        eq-eqb (length log) (s * length es) whole,
      )
      (slots_done es ps m A pass.1 s t log h whole)
