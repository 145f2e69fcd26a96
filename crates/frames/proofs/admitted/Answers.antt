-- `admitted` meets its contract: the lists of the line are admitted, and kept with the time and the counts at 0 if they are accepted. Assumes nothing.
use mathlib.Core.Path.{◌≡◌, sym, ap, ◌∙◌}
use borrow.Author.Rules.{rules}
use lib.ListN.{length}
use lib.Seq.{sets, length-take-le, take_at}
use Rattle.rule.specs.Places.{each}
use Rattle.frames.specs.Keeping.{session_of}
use Rattle.frames.proofs.Keeping.{cleared}
use Rattle.frames.proofs.Sets.{set_text, set_session}
use Rattle.frames.proofs.admitted.Goals as goal

pub returns-in-Ok : goal.returns-in-Ok
returns-in-Ok c =
    let a = c.args in
    let q = sym c.admit.ensures ∙ c.in-Ok.is in
    let text = set_text a.line.now a.m a.n c.requires.asked.0 c.column-es.result c.column-ps.result c.column-es.ensures c.column-ps.ensures (session_of a.kept.now) _ q in
    let room = length-take-le a.n a.kept.now.counts.now (search rules) in
    let clean : c.fill.new.self ≡ each a.n (λ i. 0) = c.fill.ensures.after (λ y h. h) ∙ rw room (cleared a.n) in
    record {
      same = search rules;
      session = set_session a.line.now a.m a.n c.requires.asked.0 c.column-es.result c.column-ps.result c.column-es.ensures c.column-ps.ensures (session_of a.kept.now) _ q _ _ _ (take_at c.copy_from_slice.new.self _ a.n (search rules) ∙ c.copy_from_slice.ensures.after) (take_at c.copy_from_slice-in-Ok.new.self _ a.n (search rules) ∙ c.copy_from_slice-in-Ok.ensures.after) (take_at c.fill.new.self _ a.n (search rules) ∙ clean);
      text = c.put_accepted.ensures.out ∙ ap (sets _ 0) text;
      size = c.put_accepted.ensures.place ∙ ap length text;
      tasks = search rules;
    }
