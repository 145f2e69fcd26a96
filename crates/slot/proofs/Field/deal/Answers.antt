-- The two tests are refusal 9's, and the room that is left for contenders is M less the urgent ones.
use native.Mathlib.Omega.{arith}
use lib.ListN.{length}
use Rattle.slot.specs.Rungs.{is_urgent, contends, on_urgent, on_contending}
use Rattle.slot.proofs.Laws.{count_few}
use Rattle.slot.proofs.Parts.{parts, stuck_urgent, stuck_few, not_stuck}
use Rattle.slot.proofs.Field.deal.Goals as goal

pub returns-then-units-urgent : goal.returns-then-units-urgent
returns-then-units-urgent c =
    let f = c.args.self.now in
    let urgent_is = c.count_rungs-urgent.ensures is_urgent (λ r b q. q.1) in
    let contending_is = c.count_rungs-contending.ensures contends (λ r b q. q.1) in
    let r = parts (stuck_urgent c.args.units f.requirements.now f.periods.now f.rungs.now _ _ f.t _ _ urgent_is contending_is c.if-units-urgent.true) in
    record {
      answer = r.0;
      counts = r.1.0;
      bytes = r.1.1;
    }

pub overflow_add-urgent : goal.overflow_add-urgent
overflow_add-urgent c =
    let f = c.args.self.now in
    let urgent_is = c.count_rungs-urgent.ensures is_urgent (λ r b q. q.1) in
    let contending_is = c.count_rungs-contending.ensures contends (λ r b q. q.1) in
    let few = f.choosing.few in
    let urgent = count_few (length f.requirements.now) (on_urgent f.rungs.now) in
    let contending = count_few (length f.requirements.now) (on_contending f.rungs.now) in
    omega arith

pub returns-then-urgent-contending : goal.returns-then-urgent-contending
returns-then-urgent-contending c =
    let f = c.args.self.now in
    let urgent_is = c.count_rungs-urgent.ensures is_urgent (λ r b q. q.1) in
    let contending_is = c.count_rungs-contending.ensures contends (λ r b q. q.1) in
    let r = parts
    (stuck_few c.args.units f.requirements.now f.periods.now f.rungs.now _ _ f.t _ _ urgent_is contending_is c.if-units-urgent.false
    c.if-urgent-contending.true) in
    record {
      answer = r.0;
      counts = r.1.0;
      bytes = r.1.1;
    }

pub choose-requires-clause-contenders : goal.choose-requires-clause-contenders
choose-requires-clause-contenders c = c.count_rungs-contending.ensures contends (λ r b q. q.1)

pub returns : goal.returns
returns c =
    let f = c.args.self.now in
    let urgent_is = c.count_rungs-urgent.ensures is_urgent (λ r b q. q.1) in
    let contending_is = c.count_rungs-contending.ensures contends (λ r b q. q.1) in
    let r = parts
    (not_stuck c.args.units f.requirements.now f.periods.now f.rungs.now _ _ f.t _ _ urgent_is contending_is c.if-units-urgent.false
    c.if-urgent-contending.false _ _ c.choose.ensures.counts c.choose.ensures.bytes) in
    record {
      answer = r.0;
      counts = r.1.0;
      bytes = r.1.1;
    }
