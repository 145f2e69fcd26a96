-- `byte_of` meets its contract: the bytes are those of the value, the lowest first, and past the fourth nothing is left. Assumes nothing.
use mathlib.Core.Path.{◌≡◌}
use native.Mathlib.Omega.{arith}
use Rattle.std.proofs.Common.{rules}
use Rattle.std.proofs.lemmas.Option.{gets}
use Rattle.std.specs.Prelude.{slice_get}
use Rattle.digits.proofs.Fields.{byte_after}
use Rattle.digits.proofs.byte_of.Goals as goal

pub returns : goal.returns
returns c =
    let found : c.copied.result ≡ slice_get c.to_le_bytes.result c.args.after = search (rules, gets) in
    cc (byte_after c.args.value c.args.after (omega arith))
