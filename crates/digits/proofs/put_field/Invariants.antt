-- `put_field` meets its contract. The loop's invariant: with the bytes that are left stored, the whole field is stored. Each turn stores
-- the first of them. Assumes nothing.
use mathlib.Core.Path.{◌≡◌}
use Prim.Native.Nat.{◌+◌, ◌-◌, ◌*◌}
use lib.Seq.{sets}
use Rattle.digits.specs.Digits.{digits_of}
use Rattle.digits.specs.Fields.{field}
use Rattle.digits.proofs.put_field.Given as goal

abbrev pub invariant-loop-i : goal.invariant-loop-i
invariant-loop-i l =
    sets l.out (l.at + 2 * l.i) (digits_of (field (l.width - l.i) l.value)) ≡ sets l.initial.out l.at (digits_of (field l.width l.value))
