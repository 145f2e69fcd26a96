-- `slot` meets its contract: each way out is the slot's own first refusal, or the slot of an accepted set. Assumes nothing.
use mathlib.Core.Path.{sym, ◌∙◌}
use mathlib.Core.List.{[], ◌∷◌}
use lib.ListN.{length}
use Rattle.rule.proofs.Refusals.{differ_here, differ_later}
use Rattle.slot.proofs.Parts.{parts}
use Rattle.slot.proofs.Accepted.{slot_lengths, slot_refused, dealt_set}
use Rattle.std.proofs.Common.{rules}
use Rattle.slot.proofs.slot.Goals as goal

pub returns-then-counts-n : goal.returns-then-counts-n
returns-then-counts-n c =
    let a = c.args in
    let r = parts
    (slot_lengths a.requirements.now a.periods.now a.counts.now a.bytes.now a.m a.t
    (differ_later (length a.requirements.now) (length a.periods.now) (length a.counts.now ∷ length a.bytes.now ∷ []) (differ_here _ _ _ c.if-counts-n.true))) in
    record {
      answer = r.0;
      counts = r.1.0;
      bytes = r.1.1;
    }

pub returns-then-bytes-n : goal.returns-then-bytes-n
returns-then-bytes-n c =
    let a = c.args in
    let r = parts
    (slot_lengths a.requirements.now a.periods.now a.counts.now a.bytes.now a.m a.t
    (differ_later (length a.requirements.now) (length a.periods.now) (length a.counts.now ∷ length a.bytes.now ∷ [])
    (differ_later _ _ _ (differ_here _ _ _ c.if-bytes-n.true)))) in
    record {
      answer = r.0;
      counts = r.1.0;
      bytes = r.1.1;
    }

pub returns-in_err-accepted : goal.returns-in_err-accepted
returns-in_err-accepted c =
    let a = c.args in
    let r = parts
    (slot_refused a.requirements.now a.periods.now a.counts.now a.bytes.now a.m a.t c.if-counts-n.false c.if-bytes-n.false _
    (sym c.admit.ensures ∙ c.in_err-accepted.was)) in
    record {
      answer = search (rules, r.0);
      counts = r.1.0;
      bytes = r.1.1;
    }

pub returns : goal.returns
returns c =
    let a = c.args in
    let same = parts
    (dealt_set a.requirements.now a.periods.now a.counts.now a.bytes.now a.m a.t c.if-counts-n.false c.if-bytes-n.false
    c.in_ok-accepted.accepted (sym c.admit.ensures ∙ c.in_ok-accepted.was) c.lay_out-laid.result c.lay_out-laid.ensures) in
    let laid = rw (c.requirements.ensures, c.periods.ensures) at c.deal.ensures in
    record {
      answer = laid.answer ∙ same.0;
      counts = laid.counts ∙ same.1.0;
      bytes = laid.bytes ∙ same.1.1;
    }
