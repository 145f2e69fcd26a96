-- `order::plain` meets its contract: the three tests are those of `engine`, and where all three hold both tasks are
-- within the bounds that `follow` asks. Assumes nothing.
use mathlib.Core.Path.{ap}
use mathlib.Core.Bool.{not}
use native.Mathlib.Omega.{arith}
use borrow.Author.Tests.{le-leb, lt-leb}
use Rattle.rule.specs.Limits.{time_most}
use Rattle.order.specs.Engine.{engine}
use Rattle.order.proofs.Limits.{denied, granted, takes_bounds}
use Rattle.order.proofs.plain.Goals as goal

pub returns-then-not-bounded : goal.returns-then-not-bounded
unfolding engine
returns-then-not-bounded c = rw (denied c.bounded.ensures (ap not c.if-not-bounded.true))

pub returns-then-not-bounded-2 : goal.returns-then-not-bounded-2
unfolding engine
returns-then-not-bounded-2 c =
    let takes1 = granted c.bounded.ensures (ap not c.if-not-bounded.false) in
    rw (takes1, denied c.bounded-2.ensures (ap not c.if-not-bounded-2.true))

pub returns-then-t-gt-TIME_MOST : goal.returns-then-t-gt-TIME_MOST
unfolding engine
returns-then-t-gt-TIME_MOST c =
    let takes1 = granted c.bounded.ensures (ap not c.if-not-bounded.false) in
    let takes2 = granted c.bounded-2.ensures (ap not c.if-not-bounded-2.false) in
    let t = c.args.t in
    rw (takes1, takes2, lt-leb t time_most (omega arith))

pub follow-requires : goal.follow-requires
follow-requires c =
    let takes1 = granted c.bounded.ensures (ap not c.if-not-bounded.false) in
    let takes2 = granted c.bounded-2.ensures (ap not c.if-not-bounded-2.false) in
    record {
      first_bounds = takes_bounds _ _ takes1;
      second_bounds = takes_bounds _ _ takes2;
      t_le_time_most = omega arith;
    }

pub returns : goal.returns
unfolding engine
returns c =
    let takes1 = granted c.bounded.ensures (ap not c.if-not-bounded.false) in
    let takes2 = granted c.bounded-2.ensures (ap not c.if-not-bounded-2.false) in
    let t = c.args.t in
    rw (takes1, takes2, le-leb t time_most (omega arith)) c.follow.ensures
