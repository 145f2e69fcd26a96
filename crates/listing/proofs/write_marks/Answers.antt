use mathlib.Core.Path.{◌≡◌, ap, ◌∙◌}
use native.Mathlib.Omega.{arith}
use lib.ListN.{length}
use Rattle.rule.specs.Places.{each}
use Rattle.rule.proofs.Written.{written_none, written_rest}
use Rattle.standing.specs.Judged.{rung_at}
use Rattle.listing.specs.Marks.{mark_by, marks_by}
use Rattle.listing.proofs.write_marks.Goals as goal

pub returns : goal.returns
unfolding marks_by
returns c =
    let mark = λ (i : _). mark_by (rung_at c.args.rungs.now i) in
    let all : length c.loop-i.bytes ≡ length c.args.bytes.now = omega arith in
    record {
      bytes =
          written_none mark c.loop-i.bytes ∙ written_rest 0 mark c.loop-i.bytes (λ j z l. c.loop-i.invariant j (omega arith)) ∙ ap (λ n. each n mark) all;
    }
