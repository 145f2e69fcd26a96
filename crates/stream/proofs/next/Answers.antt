-- `next` meets its contract: the line goes on, or it is answered. Assumes nothing.
use mathlib.Core.Path.{sym, ap, ◌∙◌}
use borrow.Author.Rules.{rules}
use lib.ListN.{length}
use lib.Seq.{sets}
use Rattle.stream.specs.Taking.{scan}
use Rattle.stream.specs.Pieces.{held_of}
use Rattle.frames.proofs.Room.{is_roomy, roomy}
use Rattle.frames.specs.Keeping.{session_of}
use Rattle.stream.proofs.Taking.{told_none, told_some, scan_whole}
use Rattle.stream.proofs.Steps.{answer_fits, step_waits, step_answers}
use Rattle.stream.proofs.next.Goals as goal

pub returns-in_default : goal.returns-in_default
returns-in_default c =
    let l = c.args.line.now in
    let bs = c.args.piece.now in
    let t = c.take_line.ensures in
    let goes = told_none (scan (held_of l) bs) (sym t.end ∙ c.in_default.is) in
    let waits = step_waits (session_of c.args.kept.now) (held_of l) bs goes in
    record {
      same = search rules;
      session = waits.0;
      line = t.line ∙ waits.1;
      text = ap (sets c.args.out.now 0) waits.2;
      size = ap length waits.2;
      at = scan_whole bs (held_of l) goes;
      room = search rules;
      small = search rules;
    }

pub returns : goal.returns
returns c =
    let k = c.args.kept.now in
    let l = c.args.line.now in
    let bs = c.args.piece.now in
    let t = c.take_line in
    let a = c.answer-size in
    let ends = told_some (scan (held_of l) bs) c.in-Some.at (sym t.ensures.end ∙ c.in-Some.is) in
    let said = step_answers k (held_of l) bs (held_of t.new.self) c.requires.0 ends.0 t.ensures.line in
    record {
      same = search rules;
      session = a.ensures.session ∙ said.0;
      line = said.1;
      text = a.ensures.text ∙ ap (sets c.args.out.now 0) said.2;
      size = a.ensures.size ∙ ap length said.2;
      at = ends.1;
      room = (roomy a.new.kept (a.ensures.room ∙ is_roomy k c.requires.0), search rules);
      small = answer_fits k (held_of t.new.self) c.requires.0 a.result a.ensures.size;
    }
