-- Document 01, "Frames": the answer to one line, in the same form. Its lines are those of `writing`.
use Rattle.std.specs.Prelude.{List, ◌++◌, ℕ, ◌+◌, ◌*◌, length, Err, Ok, Result}
use Rattle.rule.specs.declared.Accepted.{Accepted}
use Rattle.rule.specs.declared.Refusal.{Refusal}
use Rattle.rule.specs.Places.{each}
use Rattle.rule.specs.Outcomes.{admission, RunAfter, run as run_of, ListingAfter, listing}
use Rattle.reading.specs.Kinds.{Frame, admit, run, list, malformed}
use Rattle.writing.specs.AnswerLines.{refusal_line, malformed_line, accepted_line, listing_line, slot_lines, end_line}
use Rattle.frames.specs.Session.{Session, no_set, in_force, fresh}

-- The session afterwards, and what is written.
pub record Reply : Type 0 where
  pub session : Session
  pub text : List ℕ

-- "A refused set leaves the former one in force."
unfoldable pub admit_reply : Session → (m : ℕ) (es ps : List ℕ) → Result Accepted Refusal → Reply
admit_reply was m es ps (Ok a) = record { session = fresh m es ps; text = accepted_line a }
admit_reply was m es ps (Err r) = record { session = was; text = refusal_line r }

unfoldable pub run_reply : (m : ℕ) (es ps : List ℕ) (t : ℕ) → RunAfter → Reply
run_reply m es ps t r =
    record {
      session = in_force m es ps r.counts (t + r.answer.done);
      text = slot_lines r.answer.done (length es) t r.log ++ end_line r.answer.end;
    }

-- A listing that is not refused has a line of its bytes.
unfoldable pub list_text : ℕ → ListingAfter → Result Unit Refusal → List ℕ
list_text t l (Ok tt) = listing_line t l.bytes
list_text t l (Err r) = refusal_line r

-- The answer to a frame: refusal 11 for a malformed one, and for "02 or 03 before any set is accepted".
unfoldable pub reply : Session → Frame → Reply
reply was malformed = record { session = was; text = malformed_line }
reply was (admit m es ps) = admit_reply was m es ps (admission es ps m)
reply no_set (run s) = record { session = no_set; text = malformed_line }
reply (in_force m es ps ks t) (run s) = run_reply m es ps t (run_of s es ps ks (each (s * length es) (λ i. 0)) m t)
reply no_set list = record { session = no_set; text = malformed_line }
reply (in_force m es ps ks t) list =
    let l = listing es ps ks (each (length es) (λ i. 0)) m t in
    record { session = in_force m es ps ks t; text = list_text t l l.answer }
