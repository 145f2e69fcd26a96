use mathlib.Core.Path.{◌≡◌}
use Prim.Native.Nat.{◌+◌, ◌-◌}
use native.Mathlib.Nat.{sub-zero}
use native.Mathlib.Omega.{arith}
use borrow.Author.Tests.{eqb-true, eqb-false}
use lib.ListN.{length}
use lib.Seq.{drop-length}
use Rattle.std.proofs.lemmas.List.{length-reverse, length_push}
use Rattle.std.proofs.lemmas.Iterator.Adapters.{YieldsList-from_rev_slice}
use Rattle.std.proofs.lemmas.Bool.Decides.{nat_tests}
use Rattle.std.proofs.lemmas.Iterator.Consumers.{YieldsList-turn, YieldsList-end}
use Rattle.numbers.specs.Multiple.{lcm_all}
use Rattle.numbers.proofs.Common.{lcm_all_last, lcm_all_zero, rest_le_lcm_all}
use Rattle.numbers.proofs.least_multiple.Goals as goal

pub returns-then-contains : goal.returns-then-contains
returns-then-contains c =
    let zero = c.if-contains.ensures.cases in
    let e = lcm_all_zero c.args.periods.now zero.0 zero.1 (eqb-true _ 0 (zero.2 0)) in
    grind (arith, nat_tests)

pub loop-period-init : goal.loop-period-init
unfolding lcm_all
loop-period-init c = rw (sub-zero, drop-length)

pub loop-period-preserved : goal.loop-period-preserved
loop-period-preserved c =
    let ps = c.args.periods.now in
    let turn = YieldsList-turn (YieldsList-from_rev_slice ps cc) c.loop-period.yielded _ c.loop-period.yielded_by _ _ c.in-Some.field-0 c.in-Some.is c.next.ensures.steps in
    let more = lcm_all_last ps _ _ turn.0 turn.1 in
    let told = c.in_ok-multiple.was in
    rw (length_push, more) (grind (arith, nat_tests))

pub returns-in_err-multiple : goal.returns-in_err-multiple
returns-in_err-multiple c =
    let ps = c.args.periods.now in
    let turn = YieldsList-turn (YieldsList-from_rev_slice ps cc) c.loop-period.yielded _ c.loop-period.yielded_by _ _ c.in-Some.field-0 c.in-Some.is c.next.ensures.steps in
    let more = lcm_all_last ps _ _ turn.0 turn.1 in
    let positive = c.if-contains.ensures.cases in
    let rest = rest_le_lcm_all ps (length ps - (length c.loop-period.yielded + 1)) (λ k h. omega (arith, eqb-false _ 0 (positive k 0 (omega arith) h))) in
    let told = c.in_err-multiple.was in
    grind (arith, nat_tests)
