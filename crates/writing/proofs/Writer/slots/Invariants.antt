-- The loop's invariant: the lines of the slots before the next are written. Assumes nothing.
use Rattle.writing.specs.AnswerLines.{slot_lines}
use Rattle.writing.specs.Writing.{Writes}
use Rattle.writing.proofs.Writer.slots.Given as goal

abbrev pub invariant-loop-slot : goal.invariant-loop-slot
invariant-loop-slot l = Writes l.initial.self l.self (slot_lines l.slot l.n l.t l.log)
