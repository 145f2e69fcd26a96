-- `finish` meets its contract: there is no line at hand, no room, or the line is answered. Assumes nothing.
use mathlib.Core.Path.{◌≡◌, refl, ap, ◌∙◌}
use Prim.Native.Nat.{◌<◌}
use mathlib.Core.List.{[]}
use borrow.Author.Rules.{rules}
use lib.ListN.{length, take}
use lib.Seq.{sets}
use Rattle.frames.specs.Replies.{Reply}
use Rattle.frames.specs.Keeping.{session_of}
use Rattle.stream.specs.Pieces.{has_room_for, HasRoomFor, ended_by}
use Rattle.stream.proofs.Rooms.{room_is, no_room}
use Rattle.stream.proofs.Steps.{answer_fits, ended_none, ended_no_room, ended_line}
use Rattle.stream.proofs.finish.Goals.{then-held-eq0-via-then-held-eq0, then-held-eq0-via-else-held-eq0+then-not-has_room_for}
use Rattle.stream.proofs.finish.Goals as goal

pub returns-then-held-eq0 : goal.returns-then-held-eq0
returns-then-held-eq0 c =
    let k = c.args.kept.now in
    let line = c.args.line.now in
    let nothing : Reply = record { session = session_of k; text = [] } in
    let none : nothing ≡ ended_by (has_room_for k c.args.held line) (session_of k) (take c.args.held line) =
    elim c.then-held-eq0.branch [
      | then-held-eq0-via-then-held-eq0 w ↦ ended_none (has_room_for k c.args.held line) (session_of k) line c.args.held w.if-held-eq0.true
      | then-held-eq0-via-else-held-eq0+then-not-has_room_for w ↦ ended_no_room (has_room_for k c.args.held line) (session_of k) (take c.args.held line) (no_room k c.args.held line (λ h. search rules))
    ] in
    record {
      same = search rules;
      session = ap (λ x. x.session) none;
      text = ap (λ x. sets c.args.out.now 0 x.text) none;
      size = ap (λ x. length x.text) none;
      small = search rules;
      room = refl;
    }

pub returns : goal.returns
returns c =
    let k = c.args.kept.now in
    let line = c.args.line.now in
    let a = c.answer in
    let room : HasRoomFor k c.args.held line = search rules in
    let some : 0 < c.args.held = search rules in
    let said = ended_line (has_room_for k c.args.held line) k line c.args.held (room_is k c.args.held line room) room.0 some (search rules) in
    record {
      same = search rules;
      session = a.ensures.session ∙ ap (λ x. x.session) said;
      text = a.ensures.text ∙ ap (λ x. sets c.args.out.now 0 x.text) said;
      size = a.ensures.size ∙ ap (λ x. length x.text) said;
      small = answer_fits k (take c.args.held line) room.0 a.result a.ensures.size;
      room = a.ensures.room;
    }
