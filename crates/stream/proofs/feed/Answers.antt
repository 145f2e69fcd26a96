-- `feed` meets its contract: without room nothing is taken, and with room it is `feed_lines`. Assumes nothing.
use mathlib.Core.Path.{refl, sym, ◌∙◌}
use borrow.Author.Rules.{rules}
use lib.ListN.{length}
use Rattle.stream.specs.Pieces.{session_at, line_at, is_roomy}
use Rattle.stream.proofs.Rooms.{room_is, roomy_is, not_roomy}
use Rattle.stream.proofs.Pieces.{none_taken, some_taken, nothing_yet}
use Rattle.stream.proofs.feed.Goals as goal

pub returns-then-not-is_roomy : goal.returns-then-not-is_roomy
returns-then-not-is_roomy c =
    let r = c.args.reader.now in
    let none = none_taken (is_roomy r) (length c.args.out.now) (session_at r) (line_at r) c.args.piece.now (not_roomy r (λ h. search rules)) in
    let so = nothing_yet (session_at r) (line_at r) c.args.piece.now c.args.out.now in
    record {
      same = search rules;
      at = none;
      session = so.0;
      line = so.1;
      text = so.2;
      size = so.3;
      roomy = refl;
      within = search rules;
    }

pub returns-clause-at : goal.returns-clause-at
returns-clause-at c =
    let r = c.args.reader.now in
    c.feed_lines-fed.ensures.at ∙ some_taken (is_roomy r) (length c.args.out.now) (session_at r) (line_at r) c.args.piece.now (roomy_is r (search rules))

pub returns-clause-roomy : goal.returns-clause-roomy
returns-clause-roomy c = room_is _ _ _ (search rules) ∙ sym (roomy_is c.args.reader.now (search rules))
