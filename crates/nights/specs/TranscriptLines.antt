-- A line of a transcript by itself, with its line feed: what can stand there.
use Rattle.std.specs.Prelude.{◌≡◌, Bool, true, ◌||◌, ℕ, ◌≤◌, eqb, length, Ok}
use mathlib.Core.List.{List, Memᴰ}
use Rattle.rule.specs.declared.Refusal.{Refusal}
use Rattle.rule.specs.Answers.{number_of}
use Rattle.rule.specs.Limits.{time_most, within}
use Rattle.rule.specs.Places.{each}
use Rattle.rule.specs.Outcomes.{acceptance, admission, mark_at}
use Rattle.writing.specs.AnswerLines.{refusal_line, malformed_line, accepted_line, listing_line}
use Rattle.frames.specs.Lines.{lines_of}
use Rattle.nights.specs.Sessions.{FairSet}
use Rattle.nights.specs.SlotLines.{SlotLine, written, RightLine}

-- The line, without its line feed, is one of a text's.
abbrev pub IsLineOf : List ℕ → List ℕ → Type 0
IsLineOf line text = Memᴰ line (lines_of text)

-- The refusals that the program gives, by their numbers: 2 to 7 and 10. Beside them there is 11, which has its own line.
abbrev pub can_come : ℕ → Bool
can_come number = within 2 7 number || eqb number 10

pub data TranscriptLine : List ℕ → Type 0 where
  -- 81: M, L and the spare of a set that was accepted
  accepted : (m : ℕ) (es ps : List ℕ) → admission es ps m ≡ Ok (acceptance es ps) → TranscriptLine (accepted_line (acceptance es ps))
  -- 82: a slot with the one right choice
  slot : {m : ℕ} {es ps ks : List ℕ} {t : ℕ} {line : SlotLine} → RightLine m es ps ks t line → TranscriptLine (written line)
  -- 83: the standings of a fair set
  listing : {m : ℕ} {es ps ks : List ℕ} {t : ℕ} → FairSet m es ps ks t → t ≤ time_most
      → TranscriptLine (listing_line t (each (length es) (mark_at es ps ks t)))
  -- 8F: a refusal that can come
  refusal : (r : Refusal) → can_come (number_of r) ≡ true → TranscriptLine (refusal_line r)
  malformed : TranscriptLine malformed_line

-- The text is the right line of a slot of a fair set.
pub record RightSlot (text : List ℕ) : Type 0 where
  pub m : ℕ
  pub es : List ℕ
  pub ps : List ℕ
  pub ks : List ℕ
  pub t : ℕ
  pub line : SlotLine
  pub right : RightLine m es ps ks t line
  pub is : text ≡ written line
