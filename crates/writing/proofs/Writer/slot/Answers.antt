-- `slot` meets its contract: each part of the line is written where the one before ends. Assumes nothing.
use Rattle.digits.specs.Digits.{digits_of}
use Rattle.digits.specs.Fields.{field}
use Rattle.writing.specs.AnswerLines.{line_of, slot_line}
use Rattle.writing.proofs.Writes.{then}
use Rattle.writing.proofs.Writer.slot.Goals as goal

pub returns : goal.returns
unfolding slot_line line_of digits_of field
returns c = rw (← c.count_ran.ensures) (then (then (then (then c.byte.ensures c.field.ensures) c.byte-2.ensures) c.places.ensures) c.end.ensures)
