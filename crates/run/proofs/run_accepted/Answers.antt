-- `run_accepted` meets its contract: what is laid out is the accepted set's field, so that each turn is a turn of the set's own slots.
-- Assumes nothing.
use mathlib.Core.Path.{sym, ◌∙◌}
use Prim.Native.Nat.{◌<◌}
use native.Mathlib.Omega.{arith}
use Rattle.run.proofs.Accepted.{laid_set}
use Rattle.run.proofs.Turns.{going_start, going_end}
use Rattle.run.proofs.Laid.{parts, turned_refused, turned_done}
use Rattle.run.proofs.run_accepted.Goals as goal

pub loop-done-init : goal.loop-done-init
loop-done-init c =
    going_start _ _ _ _ _ _ _ c.requires.lists_fit.0 c.requires.lists_fit.1

pub returns-then-is_err : goal.returns-then-is_err
returns-then-is_err c =
    let a = c.args in
    let set = laid_set a.requirements.now a.periods.now a.m a.accepted c.requires.admitted c.lay_out-laid.result c.lay_out-laid.ensures
    _ _ c.requirements.ensures c.periods.ensures in
    let more : c.loop-done.done < a.slots = omega arith in
    parts
    (turned_refused _ _ _ _ _ _ set _ _ _ _ _ _ _ c.loop-done.invariant more _ _ _
    c.deal-end.ensures.answer c.deal-end.ensures.counts c.deal-end.ensures.bytes (sym c.is_err.ensures.value ∙ c.if-is_err.true))

pub loop-done-preserved : goal.loop-done-preserved
loop-done-preserved c =
    let a = c.args in
    let set = laid_set a.requirements.now a.periods.now a.m a.accepted c.requires.admitted c.lay_out-laid.result c.lay_out-laid.ensures
    _ _ c.requirements.ensures c.periods.ensures in
    let more : c.loop-done.done < a.slots = omega arith in
    turned_done _ _ _ _ _ _ set _ _ _ _ _ _ _ c.loop-done.invariant more _ _ _
    c.deal-end.ensures.answer c.deal-end.ensures.counts c.deal-end.ensures.bytes (sym c.is_err.ensures.value ∙ c.if-is_err.false)

pub returns : goal.returns
returns c = parts (sym (going_end _ _ _ _ _ _ _ _ _ _ c.loop-done.invariant c.loop-done-test.false))
