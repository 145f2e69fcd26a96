-- `listed` meets its contract: the listing into the cleared front of the log is the one that the answer is of. Assumes nothing.
use mathlib.Core.Path.{◌≡◌, sym, ap, ◌∙◌}
use Prim.Native.Nat.{◌≤◌}
use borrow.Author.Rules.{rules}
use lib.ListN.{length, take, take-append-drop}
use lib.Seq.{sets, length-take-le}
use Rattle.rule.specs.Places.{each}
use Rattle.writing.specs.AnswerLines.{refusal_line, listing_text}
use Rattle.reading.specs.Kinds.{list}
use Rattle.frames.specs.Keeping.{session_of}
use Rattle.frames.specs.Replies.{reply}
use Rattle.frames.proofs.Keeping.{list_keeps, cleared}
use Rattle.frames.proofs.Listings.{list_done, list_refused}
use Rattle.frames.proofs.listed.Goals as goal

pub returns-in-Ok : goal.returns-in-Ok
returns-in-Ok c =
    let k = c.args.kept.now in
    let s = c.args.set in
    let whole = length-take-le s.n k.requirements.now (search rules) in
    let room = length-take-le s.n k.log.now (search rules) in
    let clean : c.fill.new.self ≡ each s.n (λ i. 0) = c.fill.ensures.after (λ y h. h) ∙ rw room (cleared s.n) in
    let few : length c.list.new.bytes ≤ 64 = search rules in
    let text : listing_text s.t c.list.new.bytes ≡ (reply (session_of k) list).text =
    rw (c.requires.in_force) (list_done s.m (take s.n k.requirements.now) (take s.n k.periods.now) (take s.n k.counts.now) s.t s.n whole c.fill.new.self clean c.list.result c.list.new.bytes c.list.ensures.answer c.list.ensures.bytes c.in-Ok.is few) in
    record {
      same = search rules;
      session = rw (take-append-drop s.n k.requirements.now, take-append-drop s.n k.periods.now, take-append-drop s.n k.counts.now) (sym (list_keeps _));
      text = c.put_listing.ensures.out ∙ ap (sets _ 0) text;
      size = c.put_listing.ensures.place ∙ ap length text;
      tasks = search rules;
    }

pub returns-in-Err : goal.returns-in-Err
returns-in-Err c =
    let k = c.args.kept.now in
    let s = c.args.set in
    let whole = length-take-le s.n k.requirements.now (search rules) in
    let room = length-take-le s.n k.log.now (search rules) in
    let clean : c.fill.new.self ≡ each s.n (λ i. 0) = c.fill.ensures.after (λ y h. h) ∙ rw room (cleared s.n) in
    let text : refusal_line c.in-Err.refusal ≡ (reply (session_of k) list).text =
    rw (c.requires.in_force) (list_refused s.m (take s.n k.requirements.now) (take s.n k.periods.now) (take s.n k.counts.now) s.t s.n whole c.fill.new.self clean c.list.result c.list.ensures.answer c.in-Err.refusal c.in-Err.is) in
    record {
      same = search rules;
      session = rw (take-append-drop s.n k.requirements.now, take-append-drop s.n k.periods.now, take-append-drop s.n k.counts.now) (sym (list_keeps _));
      text = c.put_refused.ensures.out ∙ ap (sets _ 0) text;
      size = c.put_refused.ensures.place ∙ ap length text;
      tasks = search rules;
    }
