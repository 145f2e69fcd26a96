-- `list` meets its contract: each way out is the listing's own first refusal, or the listing of an accepted set. Assumes nothing.
use mathlib.Core.Path.{sym, ◌∙◌}
use mathlib.Core.List.{[], ◌∷◌}
use lib.ListN.{length}
use Rattle.rule.proofs.Refusals.{differ_here, differ_later}
use Rattle.listing.proofs.Accepted.{parts, listing_lengths, listing_refused, listing_not_judged, rungs_cover, listing_marked}
use Rattle.std.proofs.Common.{rules}
use Rattle.listing.proofs.list.Goals as goal

pub returns-then-counts-n : goal.returns-then-counts-n
returns-then-counts-n c =
    let a = c.args in
    let r = parts
    (listing_lengths a.requirements.now a.periods.now a.counts.now a.bytes.now a.m a.t
    (differ_later (length a.requirements.now) (length a.periods.now) (length a.counts.now ∷ length a.bytes.now ∷ []) (differ_here _ _ _ c.if-counts-n.true))) in
    record {
      answer = r.0;
      bytes = r.1;
    }

pub returns-then-bytes-n : goal.returns-then-bytes-n
returns-then-bytes-n c =
    let a = c.args in
    let r = parts
    (listing_lengths a.requirements.now a.periods.now a.counts.now a.bytes.now a.m a.t
    (differ_later (length a.requirements.now) (length a.periods.now) (length a.counts.now ∷ length a.bytes.now ∷ [])
    (differ_later _ _ _ (differ_here _ _ _ c.if-bytes-n.true)))) in
    record {
      answer = r.0;
      bytes = r.1;
    }

pub returns-in_err-accepted : goal.returns-in_err-accepted
returns-in_err-accepted c =
    let a = c.args in
    let r = parts
    (listing_refused a.requirements.now a.periods.now a.counts.now a.bytes.now a.m a.t c.if-counts-n.false c.if-bytes-n.false _
    (sym c.admit.ensures ∙ c.in_err-accepted.was)) in
    record {
      answer = search (rules, r.0);
      bytes = r.1;
    }

pub returns-in_err-rungs : goal.returns-in_err-rungs
returns-in_err-rungs c =
    let a = c.args in
    let judged = rw (c.requirements.ensures, c.periods.ensures) at c.judge.ensures in
    let r = parts
    (listing_not_judged a.requirements.now a.periods.now a.counts.now a.bytes.now a.m a.t c.if-counts-n.false c.if-bytes-n.false
    c.in_ok-accepted.accepted (sym c.admit.ensures ∙ c.in_ok-accepted.was) c.lay_out-laid.result c.lay_out-laid.ensures c.judge.result judged _ c.in_err-rungs.was) in
    record {
      answer = search (rules, r.0);
      bytes = r.1;
    }

pub write_marks-requires : goal.write_marks-requires
write_marks-requires c =
    let a = c.args in
    let judged = rw (c.requirements.ensures, c.periods.ensures) at c.judge.ensures in
    rungs_cover a.requirements.now a.periods.now a.counts.now a.bytes.now a.m a.t c.if-counts-n.false c.if-bytes-n.false
    c.in_ok-accepted.accepted (sym c.admit.ensures ∙ c.in_ok-accepted.was) c.lay_out-laid.result c.lay_out-laid.ensures c.judge.result judged c.in_ok-rungs.rungs c.in_ok-rungs.was

pub returns : goal.returns
returns c =
    let a = c.args in
    let judged = rw (c.requirements.ensures, c.periods.ensures) at c.judge.ensures in
    let r = parts
    (listing_marked a.requirements.now a.periods.now a.counts.now a.bytes.now a.m a.t c.if-counts-n.false c.if-bytes-n.false
    c.in_ok-accepted.accepted (sym c.admit.ensures ∙ c.in_ok-accepted.was) c.lay_out-laid.result c.lay_out-laid.ensures c.judge.result judged
    c.in_ok-rungs.rungs c.in_ok-rungs.was _ c.write_marks.ensures.bytes) in
    record {
      answer = r.0;
      bytes = r.1;
    }
