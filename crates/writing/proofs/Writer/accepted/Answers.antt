-- `accepted` meets its contract: each part of the line is written where the one before ends. Assumes nothing.
use Rattle.digits.specs.Digits.{digits_of}
use Rattle.digits.specs.Fields.{field}
use Rattle.writing.specs.AnswerLines.{line_of, accepted_line}
use Rattle.writing.proofs.Writes.{then}
use Rattle.writing.proofs.Writer.accepted.Goals as goal

pub returns : goal.returns
unfolding accepted_line line_of digits_of field
returns c = then (then (then (then c.byte.ensures c.field.ensures) c.field-2.ensures) c.spare.ensures) c.end.ensures
