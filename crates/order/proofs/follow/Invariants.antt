-- `order::follow` meets its contract. The loop's invariant: from i on the comparison still answers what it answers from
-- t + 1 on, and one of the symbols from i to t + p is 0. A turn that does not break has two equal symbols that are not 0.
-- Assumes nothing.
use Prim.Native.Nat.{◌+◌, ◌-◌, ◌≤◌}
use Rattle.rule.specs.Task.{symbol, compare}
use Rattle.rule.proofs.Strings.{Compared, EndsBy}
use Rattle.order.proofs.follow.Given as goal

abbrev pub invariant-places : goal.invariant-places
invariant-places l =
    let a = symbol l.first.e l.first.p in
    let b = symbol l.second.e l.second.p in
    (l.i ≤ l.t + l.first.p)
    × Compared a b l.i (compare l.t l.first.e l.first.p l.second.e l.second.p)
    × EndsBy a (l.t + 1 + l.first.p - l.i) l.i

abbrev pub decreases-places : goal.decreases-places
decreases-places l = l.t + 1 + l.first.p - l.i
