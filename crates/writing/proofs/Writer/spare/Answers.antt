-- `spare` meets its contract: no spare is written as one of 0 and 0. Assumes nothing.
use Rattle.writing.proofs.Writes.{then_digits, spare_fields}
use Rattle.writing.proofs.Writer.spare.Goals as goal

pub returns : goal.returns
returns c = rw (← spare_fields c.args.spare, ← c.unwrap_or-e.ensures) (then_digits _ _ c.field.ensures c.field-2.ensures)
