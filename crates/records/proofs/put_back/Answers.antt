-- `put_back` meets its contract: a turn puts back one count more.
use native.Mathlib.Numerals.{add-one}
use native.Mathlib.Omega.{arith}
use Rattle.records.proofs.Laws.{with_none, with_next}
use Rattle.records.proofs.put_back.Goals as goal

pub loop-i-init : goal.loop-i-init
loop-i-init c = with_none _

pub loop-i-preserved : goal.loop-i-preserved
loop-i-preserved c = rw (c.loop-i.invariant, add-one) (with_next _ _ _ (omega arith))
