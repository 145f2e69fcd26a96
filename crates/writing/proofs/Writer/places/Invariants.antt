-- The loop's invariant: the places before the next are written, of the tasks that ran. Assumes nothing.
use lib.ListN.{take}
use Rattle.digits.specs.Digits.{digits_of}
use Rattle.writing.specs.AnswerLines.{places_from}
use Rattle.writing.specs.Writing.{Writes}
use Rattle.writing.proofs.Writer.places.Given as goal

abbrev pub invariant-loop-task : goal.invariant-loop-task
invariant-loop-task l = Writes l.initial.self l.self (digits_of (places_from 0 (take l.task l.bytes)))
