-- `order::compare` meets its contract: each way out is the first check that holds, and where none does the engine takes
-- both records, so its answer is the comparison's. Assumes nothing.
use mathlib.Core.Path.{sym, ap}
use mathlib.Core.Bool.{not}
use native.Mathlib.Omega.{arith}
use borrow.Author.Tests.{lt-ltb}
use Rattle.rule.specs.Limits.{time_most}
use Rattle.rule.specs.Refusals.{comparison_checks}
use Rattle.rule.proofs.Refusals.{this, next, comparison_refusal}
use Rattle.order.proofs.Limits.{denied, granted, comparison_answers}
use Rattle.order.proofs.compare.Goals as goal

pub returns-then-not-is_valid : goal.returns-then-not-is_valid
unfolding comparison_checks
returns-then-not-is_valid c =
    let invalid = denied c.is_valid.ensures (ap not c.if-not-is_valid.true) in
    sym ((comparison_refusal _ _ _ _ _ _).1 (this (ap not invalid)))

pub returns-then-not-is_valid-2 : goal.returns-then-not-is_valid-2
unfolding comparison_checks
returns-then-not-is_valid-2 c =
    let valid = granted c.is_valid.ensures (ap not c.if-not-is_valid.false) in
    let invalid = denied c.is_valid-2.ensures (ap not c.if-not-is_valid-2.true) in
    sym ((comparison_refusal _ _ _ _ _ _).1 (next (ap not valid) (this (ap not invalid))))

pub returns-then-t-gt-TIME_MOST : goal.returns-then-t-gt-TIME_MOST
unfolding comparison_checks
returns-then-t-gt-TIME_MOST c =
    let valid = granted c.is_valid.ensures (ap not c.if-not-is_valid.false) in
    let valid2 = granted c.is_valid-2.ensures (ap not c.if-not-is_valid-2.false) in
    let late = lt-ltb time_most c.args.t (omega arith) in
    sym ((comparison_refusal _ _ _ _ _ _).1 (next (ap not valid) (next (ap not valid2) (this late))))

pub returns : goal.returns
returns c =
    let valid = granted c.is_valid.ensures (ap not c.if-not-is_valid.false) in
    let valid2 = granted c.is_valid-2.ensures (ap not c.if-not-is_valid-2.false) in
    comparison_answers _ _ _ _ _ _ valid valid2 (omega arith) c.plain.ensures
