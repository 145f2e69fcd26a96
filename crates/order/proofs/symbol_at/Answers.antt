-- `order::symbol_at` meets its contract: e·(i+1) fits 63 bits, so all of its numbers do, and the difference whose sign it
-- takes is the definition's. Assumes nothing.
use mathlib.Core.Path.{ap, ◌∙◌}
use native.Mathlib.Omega.{arith}
use mir.Syntax.{w64}
use mir.ValLaws.{to_z-of_z}
use Rattle.rule.specs.Task.{sign}
use Rattle.order.proofs.Signs.{next_fits, floor_low, floor_fits, symbol_is}
use Rattle.order.proofs.symbol_at.Goals as goal

pub returns : goal.returns
returns c =
    let d = c.difference in
    let read = to_z-of_z w64 d.result (record { sfits = d.type_inv }) in
    c.sign_of.ensures ∙ ap sign (read ∙ d.ensures) ∙ symbol_is _ _ _
