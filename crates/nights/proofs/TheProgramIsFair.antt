-- The program itself is fair, for any input whatever: whatever set is in force, every task has had its share; every slot line is the one
-- right choice at its time; and refusals 1, 8 and 9 never come. Assumes nothing.
use mathlib.Core.Path.{◌≡◌, ap}
use mathlib.Core.Bool.{true}
use mathlib.Core.List.{List, [], ◌∷◌, ◌++◌}
use Prim.Native.Nat.{ℕ}
use lib.ListN.{length}
use Rattle.rule.specs.declared.Refusal.{Refusal}
use Rattle.rule.specs.Answers.{number_of}
use Rattle.rule.specs.Places.{at}
use Rattle.digits.specs.Digits.{bytes_of}
use Rattle.digits.specs.Fields.{field_at, field}
use Rattle.reading.specs.Kinds.{read}
use Rattle.writing.specs.AnswerLines.{line_feed, refusal_line}
use Rattle.frames.specs.Lines.{lines_of}
use Rattle.frames.specs.Session.{no_set}
use Rattle.frames.specs.Transcript.{answer_to, transcript}
use Rattle.frames.specs.Stream.{feed}
use Rattle.nights.specs.Sessions.{FairSession, session_after}
use Rattle.nights.specs.SlotLines.{SlotLine, written, RightLine}
use Rattle.nights.specs.Answers.{Answered}
use Rattle.nights.specs.Nights.{FairNight}
use Rattle.nights.specs.TranscriptLines.{IsLineOf, can_come, TranscriptLine, RightSlot}
use Rattle.nights.proofs.Answers.{line_good}
use Rattle.nights.proofs.Nights.{fair_after, fair_fed, fair_answers}
use Rattle.nights.proofs.SlotLines.{line_bytes, line_time}
use Rattle.nights.proofs.TranscriptLines.{night_lines, slot_form, refusal_form}

-- ---- every session

-- Whatever lines have come, there is no set, or one that admission accepts, at a time of the calendar and with the counts that its own
-- slots from time 0 on have handed back: every task has had e·t/p slots, rounded down or up.
pub every_session_is_fair : (lines : List (List ℕ)) → FairSession (session_after no_set lines)
every_session_is_fair = fair_after no_set tt

-- So it is after any number of bytes, also while a line is still coming in.
pub every_byte_leaves_it_fair : (bytes : List ℕ) → FairSession (feed no_set [] bytes).reader.session
every_byte_leaves_it_fair = fair_fed no_set tt []

-- ---- every answer

-- Whatever line comes next, its answer has one of the forms.
pub every_answer_has_its_form : (lines : List (List ℕ)) (line : List ℕ) →
    let was = session_after no_set lines in
    let reply = answer_to was line in
    Answered was (read line) reply.text reply.session
every_answer_has_its_form lines line = (line_good (session_after no_set lines) (every_session_is_fair lines) line).0

-- So what is written for a whole input is, line by line, an answer of one of the forms, from a fair session to a fair session.
pub the_program_is_fair : (input : List ℕ) → FairNight no_set (lines_of input) (transcript input)
unfolding transcript
the_program_is_fair input = fair_answers no_set tt (lines_of input)

-- ---- every line that is written

module _ (input line : List ℕ) (l : IsLineOf line (transcript input)) where
  -- It tells of an accepted set, of a slot with its right choice, of a fair set's standings, or of a refusal that can come.
  pub every_line_stands : TranscriptLine (line ++ line_feed ∷ [])
  every_line_stands = night_lines (the_program_is_fair input) line l

  -- A line that begins with 82 lists the one right choice of a fair set, with the right time.
  pub every_slot_line_is_right : (rest : List ℕ) → line ≡ 0x38 ∷ 0x32 ∷ rest → RightSlot (line ++ line_feed ∷ [])
  every_slot_line_is_right rest e = slot_form every_line_stands (ap (λ l. at (l ++ line_feed ∷ []) 1) e)

  -- The line of a refusal is one of 2 to 7 or of 10: never 1, never 8, never 9.
  pub no_refusal_1_8_9 : (r : Refusal) → line ++ line_feed ∷ [] ≡ refusal_line r → can_come (number_of r) ≡ true
  no_refusal_1_8_9 r e = refusal_form every_line_stands r e

-- What such a line tells can be read back from its digits: 82, the time, how many tasks were chosen, and their places.
pub a_slot_line_tells : {m : ℕ} {es ps ks : List ℕ} {t : ℕ} {line : SlotLine} → RightLine m es ps ks t line
    → (bytes_of (written line) ≡ 0x82 ∷ field 4 t ++ length line.places ∷ line.places) × (field_at 4 (bytes_of (written line)) 1 ≡ t)
a_slot_line_tells R = (line_bytes R, line_time R)
