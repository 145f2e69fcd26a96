-- `feed_lines` meets its contract: the lines so far are the piece byte by byte, until its end or no more room. Assumes nothing.
use mathlib.Core.Path.{◌≡◌}
use Prim.Native.Nat.{◌-◌, ◌≤◌}
use lib.ListN.{length}
use Rattle.frames.specs.Keeping.{session_of, HasRoom, SameLists}
use Rattle.stream.specs.Pieces.{held_of, HasBytes, SameLine}
use Rattle.stream.proofs.Pieces.{SoFar}
use Rattle.stream.proofs.feed_lines.Given as goal

abbrev pub invariant-loop-at : goal.invariant-loop-at
invariant-loop-at l =
    (HasRoom l.kept × HasBytes l.line) × (SameLists l.initial.kept l.kept × SameLine l.initial.line l.line)
    × (l.at ≤ length l.piece) × (l.size ≤ length l.initial.out) × (length l.out ≡ length l.initial.out)
    × SoFar (session_of l.initial.kept) (held_of l.initial.line) l.piece l.initial.out (session_of l.kept) (held_of l.line) l.at l.size l.out

abbrev pub decreases-loop-at : goal.decreases-loop-at
decreases-loop-at l = length l.piece - l.at
