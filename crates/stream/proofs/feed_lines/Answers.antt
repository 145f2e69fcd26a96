use mathlib.Core.Path.{ap, ◌∙◌}
use Prim.Native.Nat.{ℕ, ◌+◌, ◌-◌, ◌<◌, ◌≤◌}
use native.Mathlib.Omega.{arith}
use borrow.Author.Rules.{rules}
use lib.ListN.{length, take, drop}
use lib.Seq.{sets}
use mathlib.Core.List.{List}
use Rattle.frames.specs.Keeping.{session_of, answer_most}
use Rattle.stream.specs.Taking.{scan, Step, step}
use Rattle.stream.specs.Pieces.{held_of}
use Rattle.stream.proofs.Taking.{scan_within, scan_onward}
use Rattle.stream.proofs.Steps.{rest_is, rest_length, stored_after}
use Rattle.stream.proofs.Pieces.{nothing_yet, a_line_more, piece_ends, room_ends}
use Rattle.stream.proofs.feed_lines.Goals as goal

pub loop-at-init : goal.loop-at-init
loop-at-init c = (search rules, search rules, search rules, search rules, search rules, nothing_yet _ _ _ _)

pub overflow_add-at : goal.overflow_add-at
overflow_add-at c =
    let l = c.loop-at in
    let n = c.next-fed in
    let used = scan_within (held_of l.line) (take (length c.args.piece.now - l.at) (drop l.at c.args.piece.now)) in
    let all = rest_length c.args.piece.now l.at in
    let wide : length c.args.piece.now < 18446744073709551616 = search rules in
    record { fits = omega (arith, n.ensures.at, used, all, l.invariant.2, wide) }

pub loop-at-smaller : goal.loop-at-smaller
loop-at-smaller c =
    let l = c.loop-at in
    let n = c.next-fed in
    let all = rest_length c.args.piece.now l.at in
    let some : l.at < length c.args.piece.now = c.loop-at-test.true in
    let onward = scan_onward (held_of l.line) (take (length c.args.piece.now - l.at) (drop l.at c.args.piece.now)) (omega (arith, all, some)) in
    let falls : length c.args.piece.now - (l.at + n.result.at) < length c.args.piece.now - l.at = omega (arith, n.ensures.at, onward, some) in
    falls

pub loop-at-preserved : goal.loop-at-preserved
loop-at-preserved c =
    let l = c.loop-at in
    let n = c.next-fed in
    let k = c.args.kept.now in
    let line = c.args.line.now in
    let bs = c.args.piece.now in
    let rest = rest_is bs l.at in
    let used = scan_within (held_of l.line) (take (length bs - l.at) (drop l.at bs)) in
    let all = rest_length bs l.at in
    let made : List ℕ → Step = step (session_of l.kept) (held_of l.line) in
    let room : answer_most ≤ length c.args.out.now - l.size = omega (arith, c.if-out-size-ge-ANSWER_MOST.true, l.invariant.4) in
    let stored = stored_after l.out l.size n.new.out (made (drop l.at bs)).text (omega (arith, l.invariant.4, l.invariant.3))
    (n.ensures.text ∙ ap (λ xs. sets (take (length l.out - l.size) (drop l.size l.out)) 0 (made xs).text) rest) in (
      n.ensures.room,
      search rules,
      omega (arith, n.ensures.at, used, all, l.invariant.2),
      omega (arith, n.ensures.small, room, l.invariant.3),
      search rules,
      a_line_more (session_of k) (held_of line) bs c.args.out.now (session_of l.kept) (held_of l.line) l.at l.size l.out l.invariant.5 room _ _ _ _ _
          (n.ensures.session ∙ ap (λ xs. (made xs).session) rest)
          (n.ensures.line ∙ ap (λ xs. (made xs).line) rest)
          stored
          (ap (λ i. l.size + i) (n.ensures.size ∙ ap (λ xs. length (made xs).text) rest))
          (ap (λ i. l.at + i) (n.ensures.at ∙ ap (λ xs. (scan (held_of l.line) xs).used) rest)),
    )

pub returns-else-out-size-ge-ANSWER_MOST-clause-at : goal.returns-else-out-size-ge-ANSWER_MOST-clause-at
returns-else-out-size-ge-ANSWER_MOST-clause-at c =
    let l = c.loop-at in
    let k = c.args.kept.now in
    let line = c.args.line.now in
    let full : length c.args.out.now - l.size < answer_most = omega (arith, c.if-out-size-ge-ANSWER_MOST.false, l.invariant.4) in
    room_ends (session_of k) (held_of line) c.args.piece.now c.args.out.now (session_of l.kept) (held_of l.line) l.at l.size l.out l.invariant.5 full

pub returns-after-loop-at-clause-at : goal.returns-after-loop-at-clause-at
returns-after-loop-at-clause-at c =
    let l = c.loop-at in
    let k = c.args.kept.now in
    let line = c.args.line.now in
    piece_ends (session_of k) (held_of line) c.args.piece.now c.args.out.now (session_of l.kept) (held_of l.line) l.at l.size l.out l.invariant.5 c.loop-at-test.false
