-- A byte at least is taken, and no more than the piece has.
use Rattle.std.proofs.Common.{arith, length, ◌<◌}
use Rattle.stream.specs.Pieces.{session_at, line_at, is_roomy}
use Rattle.stream.proofs.Pieces.{taken_onward}
use Rattle.prettavorn.proofs.Server.serve_part.Goals as goal

pub returns : goal.returns
returns g c =
    let s = c.args.self.now in
    let fed = c.feed-fed in
    let more = taken_onward (is_roomy s.reader) (length s.out.now) (session_at s.reader) (line_at s.reader) c.args.piece.now s.roomy s.room_for_answer c.requires in
    let some : 0 < fed.result.at = omega (arith, fed.ensures.at, more) in
    record { onward = (some, fed.ensures.within.0) }
