-- What document 01 sets out for the cases of an answer: the number of each refusal and what it carries, and the byte of each standing.
use Rattle.std.specs.Prelude.{ℕ}
use Rattle.rule.specs.declared.Refusal.{Refusal}
use Rattle.rule.specs.declared.Refusal.TheVariants.{Lengths, Tasks, Units, Record, Multiple, Load, Time, Lag, Stuck, Slots}
use Rattle.rule.specs.declared.Standing.{Standing}
use Rattle.rule.specs.declared.Standing.TheVariants.{Ahead, Punctual, Behind}

-- The column "no." of the table of refusals.
abbrev pub number_of : Refusal → ℕ
number_of Lengths = 1
number_of Tasks = 2
number_of Units = 3
number_of (Record place) = 4
number_of Multiple = 5
number_of (Load excess) = 6
number_of Time = 7
number_of (Lag place) = 8
number_of Stuck = 9
number_of Slots = 10

pub data Carried : Type 0 where
  nothing : Carried
  place : ℕ → Carried
  excess : ℕ → Carried

-- The column "carries" of the table of refusals.
abbrev pub carried_by : Refusal → Carried
carried_by Lengths = nothing
carried_by Tasks = nothing
carried_by Units = nothing
carried_by (Record i) = place i
carried_by Multiple = nothing
carried_by (Load x) = excess x
carried_by Time = nothing
carried_by (Lag i) = place i
carried_by Stuck = nothing
carried_by Slots = nothing

-- "The listing writes one byte per task: 41 hexadecimal if ahead, 50 if punctual, 4C ("late") if behind."
unfoldable pub mark : Standing → ℕ
mark Ahead = 0x41
mark Punctual = 0x50
mark Behind = 0x4c
