-- `bytes` meets its contract: each byte's digits are written where those before end. Assumes nothing.
use native.Mathlib.Omega.{arith}
use Rattle.std.proofs.lemmas.List.{take_more}
use Rattle.digits.specs.Digits.{digits_of}
use Rattle.writing.proofs.Writes.{none, then_digits}
use Rattle.writing.proofs.Writer.bytes.Goals as goal

pub loop-byte-init : goal.loop-byte-init
unfolding digits_of
loop-byte-init c = none _

pub loop-byte-preserved : goal.loop-byte-preserved
loop-byte-preserved c = rw (take_more c.args.bytes.now c.loop-byte.byte-index 0 (omega arith)) (then_digits _ _ c.loop-byte.invariant c.byte.ensures)
