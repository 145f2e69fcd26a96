-- `deal` meets its contract: what the judge refuses the slot refuses, and where it refuses nothing its rungs are the field's, so that
-- what is dealt by them is the slot. Assumes nothing.
use mathlib.Core.Path.{sym, ◌∙◌}
use borrow.Author.Rules.{rules}
use Rattle.slot.proofs.Parts.{parts}
use Rattle.slot.proofs.Judged.{dealt_lengths, dealt_refused, ready, dealable, dealt_judged}
use Rattle.slot.proofs.deal.Goals as goal

pub returns-then-bytes-counts : goal.returns-then-bytes-counts
returns-then-bytes-counts c =
    let a = c.args in
    let r = parts (sym (dealt_lengths a.units a.requirements.now a.periods.now a.counts.now a.bytes.now a.t c.if-bytes-counts.true)) in
    record {
      answer = r.0;
      counts = r.1.0;
      bytes = r.1.1;
    }

pub returns-in_err-rungs : goal.returns-in_err-rungs
returns-in_err-rungs c =
    let a = c.args in
    let r = parts
    (sym
    (dealt_refused a.units a.requirements.now a.periods.now a.counts.now a.bytes.now a.t c.if-bytes-counts.false _
    (sym c.judge.ensures ∙ c.in_err-rungs.was))) in
    record {
      answer = search (rules, r.0);
      counts = r.1.0;
      bytes = r.1.1;
    }

pub invariant_of-field : goal.invariant_of-field
invariant_of-field c =
    let a = c.args in
    record {
      choosing = ready a.units a.requirements.now a.periods.now a.counts.now a.bytes.now a.t c.if-bytes-counts.false c.in_ok-rungs.rungs
          (sym c.judge.ensures ∙ c.in_ok-rungs.was);
    }

pub deal-requires : goal.deal-requires
deal-requires c =
    let a = c.args in
    let r = dealable a.units a.requirements.now a.periods.now a.counts.now a.bytes.now a.t c.if-bytes-counts.false c.in_ok-rungs.rungs
    (sym c.judge.ensures ∙ c.in_ok-rungs.was) in
    record {
      lengths = r.0;
      countable = r.1;
    }

pub returns : goal.returns
returns c =
    let a = c.args in
    let same = parts
    (dealt_judged a.units a.requirements.now a.periods.now a.counts.now a.bytes.now a.t c.if-bytes-counts.false c.in_ok-rungs.rungs
    (sym c.judge.ensures ∙ c.in_ok-rungs.was)) in
    record {
      answer = c.deal.ensures.answer ∙ same.0;
      counts = c.deal.ensures.counts ∙ same.1.0;
      bytes = c.deal.ensures.bytes ∙ same.1.1;
    }
