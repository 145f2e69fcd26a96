-- The line of a slot, and when it is the right one: its time, and the tasks of the one right choice.
use Rattle.std.specs.Prelude.{◌≡◌, ◌↔◌, Bool, true, List, [], ◌∷◌, ◌++◌, ℕ, suc, ◌≤◌, ◌<◌, length}
use Rattle.rule.specs.Limits.{time_most}
use Rattle.rule.specs.Places.{at}
use Rattle.rule.specs.Sets.{units_in_use, field as field_of}
use Rattle.rule.specs.Slot.{chosen}
use Rattle.rule.proofs.Choice.{IsChoice}
use Rattle.digits.specs.Fields.{field}
use Rattle.writing.specs.AnswerLines.{line_of}
use Rattle.fair.specs.FromStart.{stepped}
use Rattle.nights.specs.Sessions.{FairSet}

pub record SlotLine : Type 0 where
  pub time : ℕ
  pub places : List ℕ

-- "82, t (4), number of chosen tasks (1), their places (1 each) rising."
unfoldable pub written : SlotLine → List ℕ
written line = line_of (0x82 ∷ field 4 line.time ++ length line.places ∷ line.places)

-- "One line a slot."
unfoldable pub written_all : List SlotLine → List ℕ
written_all [] = []
written_all (line ∷ lines) = written line ++ written_all lines

-- The place is one of these.
abbrev pub Listed : ℕ → List ℕ → Type 0
Listed i places = (a : ℕ) × (a < length places) × (at places a ≡ i)

-- The line of the slot at time t of a set on m units with counts ks.
pub record RightLine (m : ℕ) (es ps ks : List ℕ) (t : ℕ) (line : SlotLine) : Type 0 where
  -- until then every task has had its share
  pub fair : FairSet m es ps ks t
  -- it tells the slot's time, which is within the calendar
  pub time : line.time ≡ t
  pub early : t ≤ time_most
  -- its places rise, and are at most M, and so at most m
  pub rising : (a b : ℕ) → a < b → b < length line.places → at line.places a < at line.places b
  pub few : length line.places ≤ units_in_use es ps
  pub units : units_in_use es ps ≤ m
  -- there is a right choice: all urgent tasks and then the first contenders in the order, M in all, the spare included
  pub choice : IsChoice (units_in_use es ps) t (field_of es ps ks t) (chosen (units_in_use es ps) t (field_of es ps ks t))
  -- and every right choice has just the listed tasks
  pub right : (ch : ℕ → Bool) → IsChoice (units_in_use es ps) t (field_of es ps ks t) ch
      → (i : ℕ) → Listed i line.places ↔ ((i < length es) × (ch i ≡ true))

-- Slots of a set one after the other, from time t on: each is right with the counts that those before it hand back.
pub data RightLines (m : ℕ) (es ps : List ℕ) : ℕ → List SlotLine → Type 0 where
  none : {t : ℕ} → RightLines m es ps t []
  and : {t : ℕ} {line : SlotLine} {lines : List SlotLine}
      → RightLine m es ps (stepped es ps m t) t line → RightLines m es ps (suc t) lines → RightLines m es ps t (line ∷ lines)
