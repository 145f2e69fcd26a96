-- `byte_at` meets its contract: the pair at a place has the byte's two digits, and past the last pair there is no byte. Assumes nothing.
use mathlib.Core.Path.{◌≡◌, sym}
use Prim.Native.Nat.{◌/◌}
use native.Mathlib.Omega.{arith}
use lib.ListN.{length}
use Rattle.rule.specs.Places.{at}
use Rattle.digits.specs.Digits.{digit_value}
use Rattle.digits.proofs.Bytes.{byte_of_pair, byte_past}
use Rattle.digits.proofs.byte_at.Goals as goal

pub returns-in_default-clause-value : goal.returns-in_default-clause-value
returns-in_default-clause-value c =
    let none = c.in_default.ensures.lookup in
    sym (byte_past _ _ (omega (arith, c.as_chunks.ensures.front_len)))

pub returns-clause-value : goal.returns-clause-value
returns-clause-value c =
    let line = c.args.line.now in
    let pair = c.in-Some.field-0.now in
    let found = c.in-Some.ensures.lookup in
    let high : c.digit_value.result ≡ digit_value (at pair 0) = c.digit_value.ensures.value in
    let low : c.digit_value-2.result ≡ digit_value (at pair 1) = c.digit_value-2.ensures.value in
    rw (high, low) (sym (byte_of_pair line (length line / 2) c.args.i pair (omega arith) (omega (arith, c.as_chunks.ensures.front_len)) (rw c.as_chunks.ensures.front at found.1)))
