-- `slots` meets its contract: each line is written where the one before ends, from its own part of the log. Assumes nothing.
use mathlib.Core.Path.{◌≡◌, ap}
use Prim.Native.Nat.{◌+◌, ◌-◌, ◌*◌}
use native.Mathlib.Numerals.{add-one}
use native.Mathlib.Omega.{arith}
use lib.ListN.{take, drop}
use Rattle.writing.specs.AnswerLines.{slot_lines}
use Rattle.writing.proofs.Writes.{none, then, slots_more}
use Rattle.writing.proofs.Writer.slots.Goals as goal

pub loop-slot-init : goal.loop-slot-init
unfolding slot_lines
loop-slot-init c = none _

pub loop-slot-preserved : goal.loop-slot-preserved
loop-slot-preserved c =
    let n = c.args.slots.n in
    let from = c.loop-slot.slot * n in
    let left = drop from c.args.slots.log.now in
    let whole : from + n - from ≡ n = omega arith in
    let bytes : take (from + n - from) left ≡ take n left = ap (λ m. take m left) whole in
    rw (add-one, slots_more, ← bytes) (then c.loop-slot.invariant c.slot.ensures)
