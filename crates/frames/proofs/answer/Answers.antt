-- `answer` meets its contract: without room nothing is done, and with room each arm is the answer to the frame that the line is. Assumes nothing.
use mathlib.Core.Path.{◌≡◌, refl, sym, ap, ◌∙◌}
use borrow.Author.Rules.{rules}
use lib.ListN.{length}
use lib.Seq.{sets}
use Rattle.std.specs.Prelude.{Some}
use Rattle.frames.specs.Replies.{reply}
use Rattle.reading.specs.Kinds.{read}
use Rattle.frames.specs.Keeping.{session_of, has_room}
use Rattle.frames.proofs.Keeping.{eleven, run_none, list_none, malformed_reply}
use Rattle.frames.proofs.Asking.{asked_admit, asked_run, asked_list, asked_malformed}
use Rattle.frames.proofs.Room.{is_roomy, not_roomy, with_room, without_room, room_stays}
use Rattle.frames.proofs.answer.Goals.{in_default-None-via-in-Run+in-None, in_default-None-via-in-List+in-None}
use Rattle.frames.proofs.answer.Goals as goal

pub returns-then-not-has_room : goal.returns-then-not-has_room
returns-then-not-has_room c =
    let k = c.args.kept.now in
    let none = without_room (has_room k) (session_of k) c.args.line.now (not_roomy k (λ h. search rules)) in
    record {
      same = search rules;
      session = ap (λ r. r.session) none;
      text = ap (λ r. sets c.args.out.now 0 r.text) none;
      size = ap (λ r. length r.text) none;
      room = refl;
    }

pub admitted-requires-clause-asked : goal.admitted-requires-clause-asked
admitted-requires-clause-asked c =
    let asks = sym c.what_is_asked.ensures ∙ c.in-Some.is ∙ ap Some c.in-Admit-default.is-0 in
    (asks, (asked_admit _ _ _ asks).1)

pub returns-in-Admit-default : goal.returns-in-Admit-default
returns-in-Admit-default c =
    let k = c.args.kept.now in
    let r = c.admitted in
    let all = with_room (has_room k) (session_of k) c.args.line.now (is_roomy k (search rules)) in
    record {
      same = r.ensures.same;
      session = r.ensures.session ∙ ap (λ x. x.session) all;
      text = r.ensures.text ∙ ap (λ x. sets c.args.out.now 0 x.text) all;
      size = r.ensures.size ∙ ap (λ x. length x.text) all;
      room = room_stays k r.new.kept (search rules) r.ensures.tasks r.ensures.same.4 r.ensures.same.5 r.ensures.same.6 r.ensures.same.7;
    }

pub returns-in-Run-Some : goal.returns-in-Run-Some
returns-in-Run-Some c =
    let k = c.args.kept.now in
    let line = c.args.line.now in
    let r = c.ran in
    let asked = asked_run (read line) _ (sym c.what_is_asked.ensures ∙ c.in-Some.is ∙ ap Some c.in-Run-Some.is-0) in
    let all = ap (reply (session_of k)) (sym asked) ∙ with_room (has_room k) (session_of k) line (is_roomy k (search rules)) in
    record {
      same = r.ensures.same;
      session = r.ensures.session ∙ ap (λ x. x.session) all;
      text = r.ensures.text ∙ ap (λ x. sets c.args.out.now 0 x.text) all;
      size = r.ensures.size ∙ ap (λ x. length x.text) all;
      room = room_stays k r.new.kept (search rules) r.ensures.tasks r.ensures.same.4 r.ensures.same.5 r.ensures.same.6 r.ensures.same.7;
    }

pub returns-in-List-Some : goal.returns-in-List-Some
returns-in-List-Some c =
    let k = c.args.kept.now in
    let line = c.args.line.now in
    let r = c.listed in
    let asked = asked_list (read line) (sym c.what_is_asked.ensures ∙ c.in-Some.is ∙ ap Some c.in-List-Some.is-0) in
    let all = ap (reply (session_of k)) (sym asked) ∙ with_room (has_room k) (session_of k) line (is_roomy k (search rules)) in
    record {
      same = r.ensures.same;
      session = r.ensures.session ∙ ap (λ x. x.session) all;
      text = r.ensures.text ∙ ap (λ x. sets c.args.out.now 0 x.text) all;
      size = r.ensures.size ∙ ap (λ x. length x.text) all;
      room = room_stays k r.new.kept (search rules) r.ensures.tasks r.ensures.same.4 r.ensures.same.5 r.ensures.same.6 r.ensures.same.7;
    }

pub returns-in_default-None : goal.returns-in_default-None
returns-in_default-None c =
    let k = c.args.kept.now in
    let line = c.args.line.now in
    let said : reply (session_of k) (read line) ≡ eleven (session_of k) =
    elim c.in_default-None.branch [
      | in_default-None-via-in-Run+in-None w ↦ rw (w.in_default-None.is-1, asked_run (read line) _ (sym c.what_is_asked.ensures ∙ c.in-Some.is ∙ ap Some w.in_default-None.is-0)) (run_none _)
      | in_default-None-via-in-List+in-None w ↦ rw (w.in_default-None.is-1, asked_list (read line) (sym c.what_is_asked.ensures ∙ c.in-Some.is ∙ ap Some w.in_default-None.is-0)) list_none
    ] in
    let all = sym said ∙ with_room (has_room k) (session_of k) line (is_roomy k (search rules)) in
    record {
      same = search rules;
      session = ap (λ x. x.session) all;
      text = c.put_malformed-in_default-None.ensures.out ∙ ap (λ x. sets c.args.out.now 0 x.text) all;
      size = c.put_malformed-in_default-None.ensures.place ∙ ap (λ x. length x.text) all;
      room = refl;
    }

pub returns-in_default : goal.returns-in_default
returns-in_default c =
    let k = c.args.kept.now in
    let line = c.args.line.now in
    let said : reply (session_of k) (read line) ≡ eleven (session_of k) = rw (asked_malformed (read line) (sym c.what_is_asked.ensures ∙ c.in_default.is)) (malformed_reply _) in
    let all = sym said ∙ with_room (has_room k) (session_of k) line (is_roomy k (search rules)) in
    record {
      same = search rules;
      session = ap (λ x. x.session) all;
      text = c.put_malformed.ensures.out ∙ ap (λ x. sets c.args.out.now 0 x.text) all;
      size = c.put_malformed.ensures.place ∙ ap (λ x. length x.text) all;
      room = refl;
    }
