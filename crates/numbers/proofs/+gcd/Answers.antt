-- The call's divisor is the one of a and b too, since the remainder keeps the common divisors; and two numbers have one greatest common divisor.
use Rattle.std.proofs.lemmas.Nat.Gcd.{IsGcd-from_zero, IsGcd-from_mod, same_from_IsGcd}
use Rattle.numbers.proofs.Euclid.{gcd_is_gcd}
use Rattle.numbers.proofs.+gcd.Goals as goal

pub returns-then-b-eq0 : goal.returns-then-b-eq0
returns-then-b-eq0 t c =
    let which = IsGcd-from_zero c.args.a c.args.b c.if-b-eq0.true in
    record { value = same_from_IsGcd c.args.a c.args.b _ _ which (gcd_is_gcd c.args.a c.args.b); which = which }

pub returns-else-b-eq0 : goal.returns-else-b-eq0
returns-else-b-eq0 t c =
    let which = IsGcd-from_mod c.args.a c.args.b c.gcd.result c.gcd.ensures.which in
    record { value = same_from_IsGcd c.args.a c.args.b _ _ which (gcd_is_gcd c.args.a c.args.b); which = which }
