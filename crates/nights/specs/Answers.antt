-- The forms of an answer. There are no others: no line is ever answered by refusal 1, 8 or 9.
use Rattle.std.specs.Prelude.{◌≡◌, List, ◌++◌, ℕ, suc, ◌+◌, ◌≤◌, ◌<◌, length, Err, Ok}
use Rattle.rule.specs.declared.Refusal.{Refusal}
use Rattle.rule.specs.declared.Refusal.TheVariants.{Time, Slots}
use Rattle.rule.specs.Answers.{number_of}
use Rattle.rule.specs.Limits.{time_most, slots_most}
use Rattle.rule.specs.Places.{each}
use Rattle.rule.specs.Outcomes.{acceptance, admission, mark_at}
use Rattle.reading.specs.Kinds.{Frame, admit, run, list, malformed}
use Rattle.writing.specs.AnswerLines.{refusal_line, malformed_line, accepted_line, listing_line}
use Rattle.fair.specs.FromStart.{stepped}
use Rattle.frames.specs.Session.{Session, no_set, in_force, fresh}
use Rattle.nights.specs.SlotLines.{SlotLine, written_all, RightLines}

-- The answer to a frame: the session before it, what it asks, what is written, and the session after it.
pub data Answered : Session → Frame → List ℕ → Session → Type 0 where
  -- 01: an accepted set is in force from time 0 on
  set_accepted : {was : Session} {m : ℕ} {es ps : List ℕ} → admission es ps m ≡ Ok (acceptance es ps)
      → Answered was (admit m es ps) (accepted_line (acceptance es ps)) (fresh m es ps)
  -- a set is refused by 2 to 6, and the former one stays in force
  set_refused : {was : Session} {m : ℕ} {es ps : List ℕ} {r : Refusal} → admission es ps m ≡ Err r
      → 2 ≤ number_of r → number_of r ≤ 6 → Answered was (admit m es ps) (refusal_line r) was
  -- 02: all slots of a run are done, each with its right line
  all_slots : {m : ℕ} {es ps ks : List ℕ} {t : ℕ} (lines : List SlotLine) → length lines ≤ slots_most → RightLines m es ps t lines
      → Answered (in_force m es ps ks t) (run (length lines)) (written_all lines)
      (in_force m es ps (stepped es ps m (t + length lines)) (t + length lines))
  -- those that the calendar still has are done, and refusal 7 follows
  slots_to_the_end : {m : ℕ} {es ps ks : List ℕ} {t s : ℕ} (lines : List SlotLine) → length lines < s → s ≤ slots_most
      → t + length lines ≡ suc time_most → RightLines m es ps t lines
      → Answered (in_force m es ps ks t) (run s) (written_all lines ++ refusal_line Time)
      (in_force m es ps (stepped es ps m (t + length lines)) (t + length lines))
  -- more than 1,024 are asked: refusal 10
  too_many_slots : {m : ℕ} {es ps ks : List ℕ} {t s : ℕ} → slots_most < s
      → Answered (in_force m es ps ks t) (run s) (refusal_line Slots) (in_force m es ps ks t)
  -- 03: how each task stands
  listing : {m : ℕ} {es ps ks : List ℕ} {t : ℕ} → t ≤ time_most
      → Answered (in_force m es ps ks t) list (listing_line t (each (length es) (mark_at es ps ks t))) (in_force m es ps ks t)
  -- after the calendar's last slot: refusal 7
  listing_too_late : {m : ℕ} {es ps ks : List ℕ} {t : ℕ} → t ≡ suc time_most
      → Answered (in_force m es ps ks t) list (refusal_line Time) (in_force m es ps ks t)
  -- refusal 11: a malformed frame, "or 02 or 03 before any set is accepted"
  malformed_frame : {was : Session} → Answered was malformed malformed_line was
  run_before_set : {s : ℕ} → Answered no_set (run s) malformed_line no_set
  listing_before_set : Answered no_set list malformed_line no_set
