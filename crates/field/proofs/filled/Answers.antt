-- `filled` meets its contract: it takes the front of the list, and has `rest` after it. Assumes nothing.
use native.Mathlib.Omega.{arith}
use Rattle.field.specs.LayOut.{filled_with}
use Rattle.field.proofs.Laws.{all_filled}
use Rattle.field.proofs.filled.Goals as goal

pub returns : goal.returns
unfolding filled_with
returns c =
    let n = c.min-n.result in
    rw c.copy_from_slice.ensures.after (all_filled 65 n c.args.list.now c.args.rest (omega arith) (omega arith) (λ l. omega arith))
