-- The answer to one line has one of the forms, and leaves a fair session fair: by cases on what the line asks. Assumes nothing.
use Rattle.std.specs.Prelude.{Result}
use mathlib.Core.Path.{◌≡◌, refl, sym, ap, ◌∙◌, subst}
use mathlib.Core.Logic.{inl, inr}
use mathlib.Core.Bool.{Bool, true, false, cond, ◌&&◌, true≢false}
use mathlib.Core.List.{List, ◌++◌, append-nil}
use Prim.Native.Nat.{ℕ, suc, ◌+◌, ◌*◌, ◌≤◌, ◌<◌}
use native.Mathlib.Nat.{add-zero}
use native.Mathlib.Decide.{dec_le}
use native.Mathlib.Omega.{arith}
use borrow.Author.Tests.{le-ltb, eq-eqb}
use lib.Dec.{leb, eqb}
use lib.ListN.{length}
use Rattle.rule.specs.declared.Refusal.{Refusal}
use Rattle.rule.specs.declared.Refusal.TheVariants.{Time}
use Rattle.rule.specs.Answers.{number_of}
use Rattle.rule.specs.Limits.{time_most, slots_most}
use Rattle.rule.specs.Places.{at, each}
use Rattle.rule.specs.Refusals.{Verdict, passed, refused, first, differ, set_checks, admission_checks, listing_checks}
use Rattle.rule.specs.Outcomes.{acceptance, admission_by, admission, RunAfter, run as run_of, listing_by, listing}
use Rattle.rule.proofs.Places.{length_each}
use Rattle.rule.proofs.Refusals.{Given, this, next, none, and, none_first, first_given, first_append}
use Rattle.digits.specs.Digits.{bytes_of}
use Rattle.digits.specs.Fields.{field_at}
use Rattle.reading.specs.Kinds.{Frame, admit, run, list, malformed, admit_frame, run_frame, list_frame, frame_of, well_formed, read}
use Rattle.writing.specs.AnswerLines.{slot_lines, end_line}
use Rattle.fair.specs.FromStart.{zeros, stepped}
use Rattle.fair.proofs.NeverStuck.{checks}
use Rattle.frames.specs.Session.{Session, no_set, in_force}
use Rattle.frames.specs.Replies.{Reply, admit_reply, run_reply, list_text, reply}
use Rattle.frames.specs.Transcript.{answer_to}
use Rattle.nights.specs.Sessions.{FairSet, FairSession}
use Rattle.nights.specs.SlotLines.{written_all}
use Rattle.nights.specs.Answers.{Answered, set_accepted, set_refused, all_slots, slots_to_the_end, too_many_slots, listing as listed, listing_too_late, malformed_frame, run_before_set, listing_before_set}
use Rattle.nights.proofs.FairSets.{fair_set}
use Rattle.nights.proofs.Runs.{Ended, RanFair, length_stepped, late_first, run_fair, run_ten}

-- An answer of one of the forms, after which the session is fair.
abbrev pub Good : Session → Frame → Reply → Type 0
Good was asked r = Answered was asked r.text r.session × FairSession r.session

-- ---- a set

-- Lists that are equally long are refused by 2 to 6 alone.
two_to_six : (es ps : List ℕ) (m : ℕ) (r : Refusal) → length ps ≡ length es → Given (admission_checks es ps m) r → (2 ≤ number_of r) × (number_of r ≤ 6)
unfolding admission_checks set_checks differ
two_to_six es ps m r same (this l) = absurd (true≢false (sym l ∙ rw (eq-eqb (length ps) (length es) same)))
two_to_six es ps m r same (next l (this h)) = omega arith
two_to_six es ps m r same (next l (next n (this h))) = omega arith
two_to_six es ps m r same (next l (next n (next u (this h)))) = omega arith
two_to_six es ps m r same (next l (next n (next u (next e (this h))))) = omega arith
two_to_six es ps m r same (next l (next n (next u (next e (next x (this h)))))) = omega arith
two_to_six es ps m r same (next l (next n (next u (next e (next x (next _ h)))))) = elim h [ ]

set_good : (was : Session) → FairSession was → (m : ℕ) (es ps : List ℕ) → length ps ≡ length es
    → Good was (admit m es ps) (admit_reply was m es ps (admission es ps m))
unfolding admission admission_by admit_reply stepped
set_good was F m es ps same = go (first (admission_checks es ps m)) refl
  where
    go : (v : Verdict) → first (admission_checks es ps m) ≡ v → Good was (admit m es ps) (admit_reply was m es ps (admission_by v es ps))
    go passed q = let a = ap (λ v. admission_by v es ps) q in (set_accepted a, fair_set es ps m a 0 (omega arith))
    go (refused r) q =
        let n = two_to_six es ps m r same (first_given (admission_checks es ps m) r q) in
        (set_refused (ap (λ v. admission_by v es ps) q) n.0 n.1, F)

-- ---- a run and a listing of a set on its way

module _ (m : ℕ) (es ps : List ℕ) (t : ℕ) (F : FairSet m es ps (stepped es ps m t) t) where
  abbrev now : Session
  now = in_force m es ps (stepped es ps m t) t

  ran_good : (s : ℕ) → s ≤ slots_most → (r : RunAfter) → RanFair es ps m s t r → Good now (run s) (run_reply m es ps t r)
  unfolding run_reply end_line
  ran_good s few r R = rw (R.done, R.text, R.counts) (go r.answer.end R.ended, fair_set es ps m F.admitted (t + d) R.calendar)
    where
      d : ℕ
      d = length R.lines

      go : (end : Result Unit Refusal) → Ended s t d end
          → Answered now (run s) (written_all R.lines ++ end_line end) (in_force m es ps (stepped es ps m (t + d)) (t + d))
      go end (inl (all, e)) =
          rw (e, append-nil)
          (subst (λ s. Answered now (run s) (written_all R.lines) (in_force m es ps (stepped es ps m (t + d)) (t + d))) all
          (all_slots R.lines (omega arith) R.right))
      go end (inr (less, over, e)) = rw e (slots_to_the_end R.lines less few over R.right)

  run_good : (s : ℕ) → Good now (run s) (reply now (run s))
  unfolding reply run_reply slot_lines end_line
  run_good s = go (dec_le s slots_most)
    where
      log : List ℕ
      log = each (s * length es) (λ i. 0)

      go : Dec (s ≤ slots_most) → Good now (run s) (run_reply m es ps t (run_of s es ps (stepped es ps m t) log m t))
      go (yes few) =
          ran_good s few _ (run_fair es ps m F.admitted s t log few F.calendar (length_each (s * length es) (λ i. 0)))
      go (no n) =
          let many : slots_most < s = omega arith in
          rw (run_ten es ps (stepped es ps m t) log m s t many, add-zero t) (too_many_slots many, F)

  list_passes : t ≤ time_most → first (listing_checks es ps (stepped es ps m t) (zeros es) m t) ≡ passed
  unfolding listing_checks first differ
  list_passes h =
      let pass = checks es ps m (acceptance es ps) F.admitted in
      rw (
        eq-eqb (length ps) (length es) pass.0,
        eq-eqb (length (stepped es ps m t)) (length es) (length_stepped es ps m F.admitted t F.calendar),
        eq-eqb (length (zeros es)) (length es) (length_each (length es) (λ i. 0)),
      )
      (first_append (set_checks es ps m) _ pass.1 ∙ none_first (and (le-ltb time_most t h) (and F.fair.no_lag_refusal none)))

  list_late : t ≡ suc time_most → first (listing_checks es ps (stepped es ps m t) (zeros es) m t) ≡ refused Time
  unfolding listing_checks
  list_late h =
      late_first es ps m F.admitted (stepped es ps m t) (zeros es) t _ (length_stepped es ps m F.admitted t F.calendar)
      (length_each (length es) (λ i. 0)) (omega arith)

  list_good : Good now list (reply now list)
  unfolding reply listing listing_by list_text
  list_good = go (dec_le t time_most)
    where
      go : Dec (t ≤ time_most) → Good now list (reply now list)
      go (yes h) = rw (list_passes h) (listed h, F)
      go (no n) = let last : t ≡ suc time_most = omega arith in rw (list_late last) (listing_too_late last, F)

-- ---- any line

-- If a frame is a set, its lists are equally long.
data EquallyLong : Frame → Type 0 where
  a_set : {m : ℕ} {es ps : List ℕ} → length ps ≡ length es → EquallyLong (admit m es ps)
  a_run : {s : ℕ} → EquallyLong (run s)
  a_list : EquallyLong list
  no_frame : EquallyLong malformed

either : (b : Bool) {x y : Frame} → EquallyLong x → EquallyLong y → EquallyLong (cond b x y)
either true X Y = X
either false X Y = Y

-- Both lists of a set that is read from a line have the frame's n.
frame_equally : (bs : List ℕ) → EquallyLong (frame_of bs)
unfolding frame_of admit_frame run_frame list_frame
frame_equally bs =
    either (eqb (at bs 0) 1) (either (leb 3 (length bs) && eqb (length bs) (3 + 4 * at bs 2)) (a_set both) no_frame)
    (either (eqb (at bs 0) 2) (either (eqb (length bs) 3) a_run no_frame)
    (either (eqb (at bs 0) 3) (either (eqb (length bs) 1) a_list no_frame) no_frame))
  where
    both : length (each (at bs 2) (λ i. field_at 2 bs (5 + 4 * i))) ≡ length (each (at bs 2) (λ i. field_at 2 bs (3 + 4 * i)))
    both = length_each (at bs 2) (λ i. field_at 2 bs (5 + 4 * i)) ∙ sym (length_each (at bs 2) (λ i. field_at 2 bs (3 + 4 * i)))

read_equally : (line : List ℕ) → EquallyLong (read line)
unfolding read
read_equally line = either (well_formed line) (frame_equally (bytes_of line)) no_frame

-- A set in force is at the counts of its way.
on_its_way : {m : ℕ} {es ps ks : List ℕ} {t : ℕ} (asked : Frame) → FairSet m es ps ks t
    → (FairSet m es ps (stepped es ps m t) t → Good (in_force m es ps (stepped es ps m t) t) asked (reply (in_force m es ps (stepped es ps m t) t) asked))
    → Good (in_force m es ps ks t) asked (reply (in_force m es ps ks t) asked)
on_its_way {m} {es} {ps} {ks} {t} asked F good =
    subst (λ ks. FairSet m es ps ks t → Good (in_force m es ps ks t) asked (reply (in_force m es ps ks t) asked)) (sym F.counts) good F

frame_good : (was : Session) → FairSession was → {asked : Frame} → EquallyLong asked → Good was asked (reply was asked)
unfolding reply
frame_good was F no_frame = (malformed_frame, F)
frame_good was F (a_set {m} {es} {ps} same) = set_good was F m es ps same
frame_good no_set F a_run = (run_before_set, F)
frame_good (in_force m es ps ks t) F (a_run {s}) = on_its_way (run s) F (λ G. run_good m es ps t G s)
frame_good no_set F a_list = (listing_before_set, F)
frame_good (in_force m es ps ks t) F a_list = on_its_way list F (λ G. list_good m es ps t G)

pub line_good : (was : Session) → FairSession was → (line : List ℕ) → Good was (read line) (answer_to was line)
unfolding answer_to
line_good was F line = frame_good was F (read_equally line)
