-- `slot` meets its contract: refusals leave the records as they were. Assumes nothing.
use mathlib.Core.Path.{sym, ◌∙◌}
use borrow.Author.Rules.{rules}
use Rattle.std.proofs.lemmas.Result.{err_from_is_err_and}
use Rattle.records.proofs.Laws.{nothing_back, refused_back, slot_other_length, slot_too_many, refused_counts}
use Rattle.records.proofs.slot.Goals as goal

pub returns-then-bytes-n-clause-answer : goal.returns-then-bytes-n-clause-answer
returns-then-bytes-n-clause-answer c = (refused_back _ _ _ _ _ (slot_other_length _ _ _ _ c.if-bytes-n.true)).answer

pub returns-then-bytes-n-clause-bytes : goal.returns-then-bytes-n-clause-bytes
returns-then-bytes-n-clause-bytes c = (refused_back _ _ _ _ _ (slot_other_length _ _ _ _ c.if-bytes-n.true)).bytes

pub returns-then-bytes-n-clause-counts : goal.returns-then-bytes-n-clause-counts
returns-then-bytes-n-clause-counts c =
    let same = refused_back _ _ _ _ _ (slot_other_length c.args.tasks.now c.args.bytes.now c.args.m c.args.t c.if-bytes-n.true) in
    search (rules, nothing_back) ∙ same.counts

pub returns-in_err-requirements : goal.returns-in_err-requirements
returns-in_err-requirements c =
    let p = err_from_is_err_and c.from_residual.result c.from_residual.ensures.1 in
    let e = c.in_err-requirements.ensures in
    rw (p.1, p.2, e.0) (refused_back _ _ _ _ _ (slot_too_many _ _ _ _ c.if-bytes-n.false e.1))

pub returns-in_err-slot-clause-counts : goal.returns-in_err-slot-clause-counts
returns-in_err-slot-clause-counts c =
    let a = c.in_ok-requirements.ensures in
    let e = rw (a.requirements, a.periods, a.counts) at c.slot.ensures.answer in
    refused_counts _ _ _ _ _ (sym e ∙ c.in_err-slot.was)
