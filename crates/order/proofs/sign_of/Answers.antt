-- `order::sign_of` meets its contract: a signed number fits its width, so its bits are read back as the number, and the
-- two tests are those of the sign. Assumes nothing.
use mathlib.Core.Path.{sym, ap, ◌∙◌}
use mir.Syntax.{w64}
use mir.Val.{to_z, of_z}
use mir.ValLaws.{to_z-of_z}
use Rattle.order.proofs.Signs.{sign_minus, sign_zero, sign_plus}
use Rattle.order.proofs.sign_of.Goals as goal

pub returns-then-difference-lt0 : goal.returns-then-difference-lt0
returns-then-difference-lt0 c =
    let z = c.args.difference in
    sign_minus z (rw (to_z-of_z w64 z c.ranges.difference) at c.if-difference-lt0.true)

pub returns-then-difference-eq0 : goal.returns-then-difference-eq0
returns-then-difference-eq0 c =
    let z = c.args.difference in
    sign_zero z (sym (to_z-of_z w64 z c.ranges.difference) ∙ ap (λ n. to_z w64 n) c.if-difference-eq0.true)

pub returns-else-difference-eq0 : goal.returns-else-difference-eq0
returns-else-difference-eq0 c =
    let z = c.args.difference in
    let not-below = rw (to_z-of_z w64 z c.ranges.difference) at c.if-difference-lt0.false in
    sign_plus z not-below (λ q. c.if-difference-eq0.false (ap (λ v. of_z w64 v) q))
