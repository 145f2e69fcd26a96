-- A run of an accepted set on its way: its slots are done up to the calendar's end, each with its right line, and where the calendar
-- ends before the run does, refusal 7 follows. By induction on the slots. Assumes nothing.
use Rattle.std.specs.Prelude.{Err, Ok, Result}
use mathlib.Core.Path.{◌≡◌, refl, sym, ap, ◌∙◌}
use mathlib.Core.Logic.{◌⊎◌, inl, inr, ⊎_elim}
use mathlib.Core.List.{List, [], ◌∷◌, ◌++◌}
use Prim.Native.Nat.{ℕ, zero, suc, ◌+◌, ◌*◌, ◌≤◌, ◌<◌}
use native.Mathlib.Nat.{add-zero}
use native.Mathlib.Decide.{dec_le}
use native.Mathlib.Omega.{arith}
use borrow.Author.Tests.{le-ltb, lt-ltb, eq-eqb}
use lib.ListN.{length, take, drop, length-drop}
use lib.Seq.{length-take-le, take_at, drop_at}
use Rattle.rule.specs.declared.Refusal.{Refusal}
use Rattle.rule.specs.declared.Refusal.TheVariants.{Time, Slots}
use Rattle.rule.specs.Limits.{time_most, slots_most}
use Rattle.rule.specs.Places.{bit}
use Rattle.rule.specs.Refusals.{refused, Check, first, differ, lengths, times, set_checks, slot_checks, run_checks}
use Rattle.rule.specs.Outcomes.{acceptance, admission, runs_at, bytes_after, slot, RunAfter, stopped, one_more, after_slot, slots_from, run_by, run}
use Rattle.rule.proofs.Places.{length_each}
use Rattle.rule.proofs.Refusals.{this, first_append, slot_refusal, first_given}
use Rattle.writing.specs.AnswerLines.{slot_lines}
use Rattle.fair.specs.FromStart.{stepped}
use Rattle.fair.proofs.NeverStuck.{length_counts, stepped_counts, checks, set}
use Rattle.fair.proofs.RunIsSlots.{run_refused}
use Rattle.nights.specs.SlotLines.{SlotLine, written_all, RightLines, none, and}
use Rattle.nights.proofs.FairSets.{slot_stepped, line, line_written, right_line}

-- How a run ended that had these lines: all were done, or the calendar was over.
abbrev pub Ended : (s t done : ℕ) → Result Unit Refusal → Type 0
Ended s t done end =
    ((done ≡ s) × (end ≡ Ok tt)) ⊎ ((done < s) × (t + done ≡ suc time_most) × (end ≡ Err Time))

-- What a run of s slots from t on comes to.
pub record RanFair (es ps : List ℕ) (m s t : ℕ) (r : RunAfter) : Type 0 where
  pub lines : List SlotLine
  pub right : RightLines m es ps t lines
  pub done : r.answer.done ≡ length lines
  pub calendar : t + length lines ≤ suc time_most
  pub text : slot_lines (length lines) (length es) t r.log ≡ written_all lines
  pub counts : r.counts ≡ stepped es ps m (t + length lines)
  pub ended : Ended s t (length lines) r.answer.end

module _ (es ps : List ℕ) (m : ℕ) (q : admission es ps m ≡ Ok (acceptance es ps)) where
  pub length_stepped : (t : ℕ) → t ≤ suc time_most → length (stepped es ps m t) ≡ length es
  length_stepped t h =
      let A = set es ps m (acceptance es ps) q in
      ap length (stepped_counts es ps m A t h (checks es ps m (acceptance es ps) q).1) ∙ length_counts es ps m A t

  -- Past the calendar the first refusal is 7, whatever is checked after it.
  pub late_first : (ks bytes : List ℕ) (t : ℕ) (later : List Check) → length ks ≡ length es → length bytes ≡ length es → time_most < t
      → first (lengths (length es) (length ps ∷ length ks ∷ length bytes ∷ []) ∷ set_checks es ps m ++ times t ∷ later) ≡ refused Time
  unfolding first differ
  late_first ks bytes t later k b h =
      let pass = checks es ps m (acceptance es ps) q in
      rw (eq-eqb (length ps) (length es) pass.0, eq-eqb (length ks) (length es) k, eq-eqb (length bytes) (length es) b)
      (first_append (set_checks es ps m) (times t ∷ later) pass.1 ∙ rw (lt-ltb time_most t h))

  -- ---- slot after slot

  slot_late : (bytes : List ℕ) (t : ℕ) → length bytes ≡ length es → t ≡ suc time_most
      → (slot es ps (stepped es ps m t) bytes m t).answer ≡ Err Time
  unfolding slot_checks
  slot_late bytes t b h =
      let ks = stepped es ps m t in
      (slot_refusal es ps ks bytes m t Time).1
      (first_given (slot_checks es ps ks bytes m t) Time (late_first ks bytes t _ (length_stepped t (omega arith)) b (omega arith)))

  -- A slot with its right line, before the rest of a run.
  with_one_more : (s t : ℕ) (l : t ≤ time_most) (r : RunAfter) → RanFair es ps m s (suc t) r
      → RanFair es ps m (suc s) t (one_more (bytes_after es ps (stepped es ps m t) t) r)
  unfolding slot_lines written_all bytes_after
  with_one_more s t l r R =
      let next : suc t + length R.lines ≡ t + suc (length R.lines) = omega arith in
      record {
        lines = line es ps m q t l ∷ R.lines;
        right = and (right_line es ps m q t l) R.right;
        done = ap suc R.done;
        calendar = omega (arith, R.calendar);
        text = rw (take_at bytes r.log (length es) whole, drop_at bytes r.log (length es) whole, R.text, line_written es ps m q t l);
        counts = R.counts ∙ ap (stepped es ps m) next;
        ended = ⊎_elim (λ e. inl (ap suc e.0, e.1)) (λ e. inr (omega arith, omega arith, e.2)) R.ended;
      }
    where
      bytes : List ℕ
      bytes = bytes_after es ps (stepped es ps m t) t

      whole : length bytes ≡ length es
      whole = length_each (length es) (λ i. bit (runs_at es ps (stepped es ps m t) t i))

  -- A run that stops before its first slot.
  stops : (s t : ℕ) (log : List ℕ) (o : Result Unit Refusal) → t ≤ suc time_most → Ended s t 0 o → RanFair es ps m s t (stopped o (stepped es ps m t) log)
  unfolding slot_lines written_all
  stops s t log o h end =
      record { lines = []; right = none; done = refl; calendar = omega arith; text = refl; counts = ap (stepped es ps m) (sym (add-zero t)); ended = end }

  slots_fair : (s t : ℕ) (log : List ℕ) → t ≤ suc time_most → length log ≡ s * length es
      → RanFair es ps m s t (slots_from s es ps m t (stepped es ps m t) log)
  unfolding slots_from after_slot
  slots_fair zero t log h whole = stops 0 t log (Ok tt) h (inl (refl, refl))
  slots_fair (suc s) t log h whole = go (dec_le t time_most) (slots_fair s (suc t) (drop (length es) log))
    where
      part : length (take (length es) log) ≡ length es
      part = length-take-le (length es) log (omega arith)

      go : Dec (t ≤ time_most)
          → (suc t ≤ suc time_most → length (drop (length es) log) ≡ s * length es
          → RanFair es ps m s (suc t) (slots_from s es ps m (suc t) (stepped es ps m (suc t)) (drop (length es) log)))
          → RanFair es ps m (suc s) t (slots_from (suc s) es ps m t (stepped es ps m t) log)
      go (yes l) rest =
          rw (slot_stepped es ps m q t l (take (length es) log) part)
          (with_one_more s t l _ (rest (omega arith) (length-drop (length es) log ∙ omega arith)))
      go (no n) rest =
          let last : t ≡ suc time_most = omega arith in
          rw (slot_late (take (length es) log) t part last) (stops (suc s) t log (Err Time) h (inr (omega arith, omega arith, refl)))

  -- ---- the run

  module _ (s t : ℕ) (log : List ℕ) where
    pub run_fair : s ≤ slots_most → t ≤ suc time_most → length log ≡ s * length es
        → RanFair es ps m s t (run s es ps (stepped es ps m t) log m t)
    unfolding run run_by run_checks first differ
    run_fair few h whole =
        let pass = checks es ps m (acceptance es ps) q in
        rw (
          le-ltb slots_most s few,
          eq-eqb (length ps) (length es) pass.0,
          eq-eqb (length (stepped es ps m t)) (length es) (length_stepped t h),
          eq-eqb (length log) (s * length es) whole,
        )
        (slots_fair s t log h whole)

-- More than 1,024 slots are refused by 10, whatever the set.
pub run_ten : (es ps ks log : List ℕ) (m s t : ℕ) → slots_most < s → run s es ps ks log m t ≡ stopped (Err Slots) ks log
unfolding run_checks
run_ten es ps ks log m s t h = run_refused s es ps ks log m t Slots (this (lt-ltb slots_most s h))
