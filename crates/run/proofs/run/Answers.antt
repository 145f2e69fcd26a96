-- `run` meets its contract: each way out is the run's own first refusal, a run of no slots, or the slots of an accepted set. Assumes
-- nothing.
use mathlib.Core.Path.{sym, ap, ◌∙◌}
use mathlib.Core.Bool.{not}
use mathlib.Core.List.{[], ◌∷◌}
use borrow.Author.Tests.{eqb-true}
use lib.ListN.{length}
use Rattle.rule.specs.Refusals.{differ}
use Rattle.rule.proofs.Refusals.{differ_here, differ_later}
use Rattle.rule.proofs.Tests.{or_left, or_right}
use Rattle.run.proofs.Laid.{parts}
use Rattle.run.proofs.Accepted.{run_too_long, run_lengths, run_none, run_not_admitted, run_slots}
use Rattle.run.proofs.run.Goals.{then-periods-n-via-then-periods-n, then-periods-n-via-else-periods-n+then-counts-n, then-periods-n-via-else-periods-n+else-counts-n+then-not-is_log}
use Rattle.run.proofs.run.Goals as goal

pub returns-then-slots-gt-SLOTS_MOST : goal.returns-then-slots-gt-SLOTS_MOST
returns-then-slots-gt-SLOTS_MOST c = rw c.stopped.ensures (parts (run_too_long _ _ _ _ _ _ _ c.if-slots-gt-SLOTS_MOST.true))

pub returns-then-periods-n : goal.returns-then-periods-n
returns-then-periods-n c =
    let a = c.args in
    rw c.stopped-then-periods-n.ensures (parts (run_lengths _ _ _ _ _ _ _ c.if-slots-gt-SLOTS_MOST.false (elim c.then-periods-n.branch [
      | then-periods-n-via-then-periods-n w ↦ or_left _ _ (differ_here _ _ _ w.if-periods-n.true)
      | then-periods-n-via-else-periods-n+then-counts-n w ↦ or_left _ _ (differ_later _ _ _ (differ_here _ _ _ w.if-counts-n.true))
      | then-periods-n-via-else-periods-n+else-counts-n+then-not-is_log w ↦ or_right (differ (length a.requirements.now) (length a.periods.now ∷ length a.counts.now ∷ [])) _ (ap not (sym w.is_log.ensures ∙ w.if-not-is_log.true))
    ])))

pub returns-then-slots-eq0 : goal.returns-then-slots-eq0
returns-then-slots-eq0 c =
    parts (run_none _ _ _ _ _ _ _ c.if-slots-gt-SLOTS_MOST.false c.if-periods-n.false c.if-counts-n.false
    (eqb-true _ _ (sym c.is_log.ensures ∙ c.if-not-is_log.false)) c.if-slots-eq0.true)

pub returns-in-Err : goal.returns-in-Err
returns-in-Err c =
    rw c.stopped-in-Err.ensures (parts (run_not_admitted _ _ _ _ _ _ _ c.if-slots-gt-SLOTS_MOST.false c.if-periods-n.false c.if-counts-n.false
    (eqb-true _ _ (sym c.is_log.ensures ∙ c.if-not-is_log.false)) c.if-slots-eq0.false _ (sym c.admit.ensures ∙ c.in-Err.is)))

pub returns-in-Ok : goal.returns-in-Ok
returns-in-Ok c =
    rw (c.run_accepted.ensures.answer, c.run_accepted.ensures.counts, c.run_accepted.ensures.log)
    (parts (run_slots _ _ _ _ _ _ _ c.if-slots-gt-SLOTS_MOST.false c.if-periods-n.false c.if-counts-n.false
    (eqb-true _ _ (sym c.is_log.ensures ∙ c.if-not-is_log.false))))
