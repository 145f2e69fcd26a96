-- No answer is longer than the longest one: 1,024 lines of a slot and a refusal's. Assumes nothing.
use Rattle.std.specs.Prelude.{Err, Ok, Result}
use mathlib.Core.List.{List, ◌∷◌, ◌++◌}
use Prim.Native.Nat.{ℕ, ◌*◌, ◌≤◌}
use native.Mathlib.Omega.{arith}
use lib.ListN.{length, length-append}
use Rattle.rule.specs.declared.Refusal.{Refusal}
use Rattle.rule.specs.declared.Accepted.{Accepted}
use Rattle.rule.specs.Places.{each}
use Rattle.rule.specs.Refusals.{Verdict, passed, refused, first, listing_checks}
use Rattle.rule.specs.Outcomes.{admission, run as run_of, listing, listing_by, mark_at}
use Rattle.rule.proofs.Places.{length_each}
use Rattle.digits.specs.Fields.{field}
use Rattle.digits.proofs.Fields.{length_field}
use Rattle.run.proofs.Done.{done_few}
use Rattle.writing.specs.AnswerLines.{slot_lines, end_line}
use Rattle.writing.proofs.Sizes.{length_line, length_refusal, length_malformed, length_accepted, take_few, slots_small, end_small}
use Rattle.reading.specs.Kinds.{Frame, admit, run, list, malformed, read}
use Rattle.frames.specs.declared.Kept.{Kept}
use Rattle.frames.specs.Session.{Session, no_set, in_force}
use Rattle.frames.specs.Replies.{admit_reply, run_reply, list_text, reply}
use Rattle.frames.specs.Transcript.{answer_to}
use Rattle.std.specs.Prelude.{Option, Some, None}
use Rattle.frames.specs.Keeping.{session_with, tasks_of, answer_most}

-- How many tasks the set in force has.
abbrev all_tasks : Session → ℕ
all_tasks no_set = 0
all_tasks (in_force m es ps ks t) = length es

admit_small : (was : Session) (m : ℕ) (es ps : List ℕ) (a : Result Accepted Refusal) → length (admit_reply was m es ps a).text ≤ answer_most
unfolding admit_reply
admit_small was m es ps (Ok a) = let h = length_accepted a in omega arith
admit_small was m es ps (Err r) = let h = length_refusal r in omega arith

list_small : (v : Verdict) (es ps ks bytes : List ℕ) (t : ℕ) → length es ≤ 64
    → length (list_text t (listing_by v es ps ks bytes t) (listing_by v es ps ks bytes t).answer) ≤ answer_most
unfolding list_text listing_by
list_small passed es ps ks bytes t few =
    let marks = each (length es) (mark_at es ps ks t) in
    let n = length_each (length es) (mark_at es ps ks t) in
    let four = length_field 4 t in
    let both = length-append (field 4 t) marks in
    let all = length_line (0x83 ∷ field 4 t ++ marks) in
    omega arith
list_small (refused r) es ps ks bytes t few = let h = length_refusal r in omega arith

reply_small : (was : Session) (f : Frame) → all_tasks was ≤ 64 → length (reply was f).text ≤ answer_most
unfolding reply run_reply listing
reply_small was malformed few = let h = length_malformed in omega arith
reply_small was (admit m es ps) few = admit_small was m es ps (admission es ps m)
reply_small no_set (run s) few = let h = length_malformed in omega arith
reply_small (in_force m es ps ks t) (run s) few =
    let r = run_of s es ps ks (each (s * length es) (λ i. 0)) m t in
    let done = done_few s es ps ks (each (s * length es) (λ i. 0)) m t in
    let slots = slots_small r.answer.done (length es) t r.log few in
    let end = end_small r.answer.end in
    let both = length-append (slot_lines r.answer.done (length es) t r.log) (end_line r.answer.end) in
    omega arith
reply_small no_set list few = let h = length_malformed in omega arith
reply_small (in_force m es ps ks t) list few =
    list_small (first (listing_checks es ps ks (each (length es) (λ i. 0)) m t)) es ps ks (each (length es) (λ i. 0)) t few

pub answer_small : (set : Option Kept) (es ps ks line : List ℕ) → tasks_of set ≤ 64 → length (answer_to (session_with set es ps ks) line).text ≤ answer_most
unfolding answer_to
answer_small None es ps ks line few = reply_small no_set (read line) (omega arith)
answer_small (Some s) es ps ks line few =
    let h = take_few s.n es in
    reply_small (session_with (Some s) es ps ks) (read line) (omega arith)
