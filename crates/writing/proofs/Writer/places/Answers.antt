-- `places` meets its contract: a task that ran adds its place, and another adds nothing. Assumes nothing.
use mathlib.Core.List.{append-nil}
use native.Mathlib.Omega.{arith}
use borrow.Author.Tests.{eq-eqb, ne_eqb}
use Rattle.digits.specs.Digits.{digits_of}
use Rattle.writing.specs.AnswerLines.{places_from}
use Rattle.writing.proofs.Writes.{none, then_digits, places_more}
use Rattle.writing.proofs.Writer.places.Goals as goal
use Rattle.writing.proofs.Writer.places.Goals.{then-byte-eq1, else-byte-eq1}

pub loop-task-init : goal.loop-task-init
unfolding digits_of places_from
loop-task-init c = none _

pub loop-task-preserved : goal.loop-task-preserved
loop-task-preserved c =
    let more = places_more c.args.bytes.now c.loop-task.task (omega arith) in
    elim c.if-byte-eq1.branch [
      | then-byte-eq1 w ↦ rw (more, eq-eqb _ _ w.if-byte-eq1.true, w.self-is) (then_digits _ _ c.loop-task.invariant w.byte.ensures)
      | else-byte-eq1 w ↦ rw (more, ne_eqb _ _ w.if-byte-eq1.false, w.self-is, append-nil) c.loop-task.invariant
    ]
