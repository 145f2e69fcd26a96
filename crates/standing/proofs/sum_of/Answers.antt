-- The library sums the list, and the definition its places. At most 64 counts, each a u32, so the sum fits.
use mathlib.Core.Path.{◌≡◌, ◌∙◌}
use Rattle.std.specs.Prelude.{sum as list_sum}
use Rattle.std.proofs.Common.{rules}
use Rattle.standing.proofs.Lists.{sum_places}
use Rattle.standing.proofs.sum_of.Goals as goal

pub returns : goal.returns
returns c =
    let summed : c.sum.result ≡ list_sum c.args.counts.now = search rules in
    summed ∙ sum_places c.args.counts.now
