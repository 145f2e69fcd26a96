use mathlib.Core.Path.{sym}
use Prim.Native.Nat.{◌+◌}
use native.Mathlib.Omega.{arith}
use borrow.Author.Tests.{not-false}
use denote.Enum.Bare.{same_true, same_false, differs_true}
use Rattle.std.proofs.Common.{rules}
use Rattle.rule.specs.contracts.Symbol as symbols
use Rattle.rule.specs.contracts.Order as orders
use Rattle.rule.specs.Task.{symbol, compare}
use Rattle.order.proofs.Turns.{starts, ends, Turn, decided, zero_tie, goes_on, ends_later, before_end}
use Rattle.order.proofs.follow.Goals.{After-higher-order}
use Rattle.order.proofs.follow.Goals.{then-ne-via-then-ne, then-ne-via-else-ne+then-eq}
use Rattle.order.proofs.follow.Goals as goal

-- Once both symbols are read and compared.
turn : (c : After-higher-order)
    → let x = c.args in
    Turn (symbol x.first.e x.first.p) (symbol x.second.e x.second.p) (x.t + 1 + x.first.p) c.places.i
    (compare x.t x.first.e x.first.p x.second.e x.second.p) c.symbol_at-symbol.result c.higher-order.result
turn c =
    let inv = c.places.invariant in
    record {
      answers = inv.1;
      ends = inv.2;
      first = c.symbol_at-symbol.ensures;
      order = rw (c.symbol_at-symbol.ensures, c.symbol_at.ensures) at c.higher-order.ensures;
    }

pub places-init : goal.places-init
places-init c = (omega arith, starts _ _ _ _ _ c.requires.first_bounds c.requires.second_bounds, ends _ _ _ c.requires.first_bounds)

pub places-preserved : goal.places-preserved
places-preserved c =
    let w = turn c.before.before.before.before.before.before.before.before in
    let tie = same_true orders.the_type (search rules) _ _ (not-false _ (sym c.if-ne.ensures)) in
    let not-zero = same_false symbols.the_type _ _ (sym c.if-eq.ensures) in
    let later = ends_later w not-zero in
    (omega (arith, before_end _ _ later), goes_on w tie not-zero, later)

pub returns : goal.returns
returns c =
    let w = turn c.before.before.before.before in
    elim c.then-ne.branch [
      | then-ne-via-then-ne v ↦ decided w (differs_true orders.the_type _ _ (sym v.if-ne.ensures))
      | then-ne-via-else-ne+then-eq v ↦
          zero_tie w (same_true orders.the_type (search rules) _ _ (not-false _ (sym v.if-ne.ensures))) (same_true symbols.the_type (search rules) _ _ (sym v.if-eq.ensures))
    ]
