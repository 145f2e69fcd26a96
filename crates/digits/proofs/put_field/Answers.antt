use mathlib.Core.Path.{◌≡◌, sym, ◌∙◌}
use Prim.Native.Nat.{suc, ◌+◌, ◌-◌, ◌*◌}
use native.Mathlib.Omega.{arith}
use Rattle.digits.specs.Digits.{digits_of}
use Rattle.digits.specs.Fields.{field}
use Rattle.digits.proofs.Fields.{field_stored}
use Rattle.digits.proofs.Stores.{sets_out}
use Rattle.digits.proofs.put_field.Goals as goal

pub returns-then-at-out : goal.returns-then-at-out
returns-then-at-out c =
    let a = c.args in
    sym (sets_out _ _ (digits_of (field a.width a.value)) c.if-at-out.true)

pub loop-i-preserved : goal.loop-i-preserved
loop-i-preserved c =
    let l = c.loop-i in
    let a = c.args in
    let w = a.width - 1 - l.i in
    let more : a.width - l.i ≡ suc w = omega arith in
    let left : a.width - (l.i + 1) ≡ w = omega arith in
    let on : a.at + 2 * (l.i + 1) ≡ a.at + 2 * l.i + 2 = omega arith in
    rw (left, on, c.put_byte.ensures, c.byte_of.ensures, c.from.ensures) (field_stored l.out (a.at + 2 * l.i) w a.value ∙ rw more at l.invariant)

pub returns : goal.returns
unfolding digits_of field
returns c =
    let none : c.args.width - c.loop-i.i ≡ 0 = omega arith in
    rw none at c.loop-i.invariant
