-- A piece a line at a time is the piece byte by byte. Assumes nothing.
use mathlib.Core.Path.{◌≡◌, refl, sym, ap, ◌∙◌}
use mathlib.Core.Bool.{Bool, true, false, cond}
use mathlib.Core.List.{List, [], ◌∷◌, ◌++◌, append-nil, append_assoc}
use Prim.Native.Nat.{ℕ, zero, suc, ◌+◌, ◌-◌, ◌≤◌, ◌<◌, min}
use native.Mathlib.Omega.{arith}
use borrow.Author.Tests.{ltb-false, leb-true, leb-false, le-leb, lt-leb}
use Rattle.std.specs.Prelude.{Option, Some, None, position}
use Rattle.std.specs.List.{position_or_len}
use Rattle.std.proofs.lemmas.List.Sums.{fails_before_first}
use Rattle.std.proofs.lemmas.List.Quantifiers.{position-Some}
use lib.Dec.{eqb, leb, ltb}
use lib.ListN.{length, get_or, take, drop, length-append}
use lib.Seq.{length-take-le, take_all}
use Rattle.reading.specs.Kinds.{digits_most}
use Rattle.writing.specs.AnswerLines.{line_feed}
use Rattle.frames.specs.Session.{Session}
use Rattle.frames.specs.Transcript.{answer_to}
use Rattle.frames.specs.Stream.{Fed, with_byte, feed}
use Rattle.frames.specs.Keeping.{answer_most}
use Rattle.stream.specs.Taking.{hold, Scan, scan, Step, step_by, step}
use Rattle.stream.specs.Pieces.{line_most, reach}

-- ---- one line of a piece

-- What a byte makes of the rest of a scan.
abbrev pub after : Bool → List ℕ → Scan → Scan
after t line later =
    let ended : Scan = record { line = line; used = 1; ended = true } in
    let goesOn : Scan = record { line = later.line; used = suc later.used; ended = later.ended } in
    cond t ended goesOn

pub scan_within : (line bs : List ℕ) → (scan line bs).used ≤ length bs
unfolding scan
scan_within line [] = omega arith
scan_within line (b ∷ bs) = go (eqb b line_feed) (scan_within (with_byte line b) bs)
  where
    go : (t : Bool) → (scan (with_byte line b) bs).used ≤ length bs → (after t line (scan (with_byte line b) bs)).used ≤ suc (length bs)
    go true h = omega arith
    go false h = omega arith

-- What is kept and written after a step.
abbrev pub as_fed : Step → Fed
as_fed s = record { reader = record { session = s.session; line = s.line }; text = s.text }

-- As far as a step goes, it is the same as a byte at a time.
pub step_feed : (was : Session) (line bs : List ℕ) → feed was line (take (scan line bs).used bs) ≡ as_fed (step was line bs)
unfolding feed scan step_by
step_feed was line [] = refl
step_feed was line (b ∷ bs) = go (eqb b line_feed) refl (step_feed was (with_byte line b) bs)
  where
    answered_fed : List ℕ → Fed
    answered_fed text = record { reader = record { session = (answer_to was line).session; line = [] }; text = text }

    go : (t : Bool) → eqb b line_feed ≡ t
        → feed was (with_byte line b) (take (scan (with_byte line b) bs).used bs) ≡ as_fed (step was (with_byte line b) bs)
        → feed was line (take (scan line (b ∷ bs)).used (b ∷ bs)) ≡ as_fed (step was line (b ∷ bs))
    go true q ih =
        let seen : scan line (b ∷ bs) ≡ after true line (scan (with_byte line b) bs) = rw q in
        let fed : feed was line (b ∷ []) ≡ as_fed (step_by was (after true line (scan (with_byte line b) bs))) = rw q (ap (λ z. answered_fed z) (append-nil (answer_to was line).text)) in
        ap (λ s. feed was line (take s.used (b ∷ bs))) seen ∙ fed ∙ sym (ap (λ s. as_fed (step_by was s)) seen)
    go false q ih =
        let later = scan (with_byte line b) bs in
        let seen : scan line (b ∷ bs) ≡ after false line later = rw q in
        let fed : feed was line (b ∷ take later.used bs) ≡ feed was (with_byte line b) (take later.used bs) = rw q in
        ap (λ s. feed was line (take s.used (b ∷ bs))) seen ∙ fed ∙ ih ∙ sym (ap (λ s. as_fed (step_by was s)) seen)

-- With room for the longest answer, what is taken is the step's bytes and what is taken of the rest.
pub step_reach : (room : ℕ) (was : Session) (line bs : List ℕ) → answer_most ≤ room
    → reach room was line bs
    ≡ (scan line bs).used + reach (room - length (step was line bs).text) (step was line bs).session (step was line bs).line (drop (scan line bs).used bs)
unfolding reach scan step_by
step_reach room was line [] h = refl
step_reach room was line (b ∷ bs) h = go (eqb b line_feed) refl (step_reach room was (with_byte line b) bs h)
  where
    go : (t : Bool) → eqb b line_feed ≡ t
        → reach room was (with_byte line b) bs
        ≡ (scan (with_byte line b) bs).used + reach (room - length (step was (with_byte line b) bs).text) (step was (with_byte line b) bs).session (step was (with_byte line b) bs).line (drop (scan (with_byte line b) bs).used bs)
        → reach room was line (b ∷ bs)
        ≡ (scan line (b ∷ bs)).used + reach (room - length (step was line (b ∷ bs)).text) (step was line (b ∷ bs)).session (step was line (b ∷ bs)).line (drop (scan line (b ∷ bs)).used (b ∷ bs))
    go true q ih = rw (q, le-leb answer_most room h) (omega arith)
    go false q ih = rw (q, le-leb answer_most room h) (omega (arith, ih))

-- Nothing more is taken where the longest answer has no room.
pub reach_stops : (room : ℕ) (was : Session) (line bs : List ℕ) → room < answer_most → reach room was line bs ≡ 0
unfolding reach
reach_stops room was line [] h = refl
reach_stops room was line (b ∷ bs) h = rw (lt-leb answer_most room h)

-- ---- the bytes up to a line feed, all at once

take_min : (bs : List ℕ) (n : ℕ) → take (min (length bs) n) bs ≡ take n bs
take_min bs n = elim (leb (length bs) n) as (λ t. leb (length bs) n ≡ t → take (min (length bs) n) bs ≡ take n bs) [
  | true ↦ (λ q. let h = leb-true (length bs) n q in let m : min (length bs) n ≡ length bs = omega (arith, h) in rw m (take_all (length bs) bs (omega arith) ∙ sym (take_all n bs h)))
  | false ↦ (λ q. let h = leb-false (length bs) n q in let m : min (length bs) n ≡ n = omega (arith, h) in rw m refl)
] refl

-- A line that is not too long takes as many bytes more as it has room for.
pub hold_is : (bs line : List ℕ) → length line ≤ line_most → hold line bs ≡ line ++ take (line_most - length line) bs
unfolding hold with_byte
hold_is [] line h = sym (ap (λ l. line ++ l) (take_all (line_most - length line) [] (omega arith)) ∙ append-nil line)
hold_is (b ∷ bs) line h = go (leb (length line) digits_most) refl (λ l short. hold_is bs l short)
  where
    go : (t : Bool) → leb (length line) digits_most ≡ t → ((l : List ℕ) → length l ≤ line_most → hold l bs ≡ l ++ take (line_most - length l) bs)
        → hold (cond t (line ++ b ∷ []) line) bs ≡ line ++ take (line_most - length line) (b ∷ bs)
    go true q later =
        let some = leb-true (length line) digits_most q in
        let longer = length-append line (b ∷ []) in
        let left : line_most - length line ≡ suc (line_most - length (line ++ b ∷ [])) = omega (arith, some, longer) in
        later (line ++ b ∷ []) (omega (arith, some, longer)) ∙ append_assoc line (b ∷ []) _ ∙ rw left refl
    go false q later =
        let full = leb-false (length line) digits_most q in
        let none : line_most - length line ≡ 0 = omega (arith, full, h) in
        later line h ∙ rw none refl

-- Of no bytes there is nothing to hold.
pub held_none : (line bs : List ℕ) → length bs ≡ 0 → line ≡ hold line bs
unfolding hold
held_none line [] none = refl
held_none line (b ∷ bs) none = absurd (omega arith)

-- as the code says it, of a line at the front of a list
pub held_part : (list bs : List ℕ) (held n : ℕ) → held ≤ line_most → held ≤ length list → n ≡ min (length bs) (line_most - held)
    → take held list ++ take n bs ≡ hold (take held list) bs
held_part list bs held n short inside is =
    let all = length-take-le held list inside in
    ap (λ l. take held list ++ l) (ap (λ i. take i bs) is ∙ take_min bs (line_most - held))
    ∙ sym (hold_is bs (take held list) (omega (arith, all, short)) ∙ rw all refl)

-- A scan ends at the first line feed.
pub scan_ends : (bs line : List ℕ) (i : ℕ) → i < length bs → eqb (get_or bs i 0) line_feed ≡ true → ((k : ℕ) → k < i → eqb (get_or bs k 0) line_feed ≡ false)
    → scan line bs ≡ record { line = hold line (take i bs); used = suc i; ended = true }
unfolding scan hold
scan_ends [] line i h here before = absurd (omega arith)
scan_ends (b ∷ bs) line zero h here before = rw here refl
scan_ends (b ∷ bs) line (suc i) h here before =
    rw (before 0 (omega arith), scan_ends bs (with_byte line b) i (omega arith) here (λ k less. before (suc k) (omega arith))) refl

-- With no line feed it takes all the bytes.
pub scan_all : (bs line : List ℕ) → ((k : ℕ) → k < length bs → eqb (get_or bs k 0) line_feed ≡ false)
    → scan line bs ≡ record { line = hold line bs; used = length bs; ended = false }
unfolding scan hold
scan_all [] line none = refl
scan_all (b ∷ bs) line none = rw (none 0 (omega arith), scan_all bs (with_byte line b) (λ k less. none (suc k) (omega arith))) refl

-- The same of a line feed that the library's `position` looks for.
abbrev feeds : ℕ → Bool
feeds b = eqb b line_feed

pub scan_found : (bs line : List ℕ) (i : ℕ) → position feeds bs ≡ Some i → scan line bs ≡ record { line = hold line (take i bs); used = suc i; ended = true }
scan_found bs line i q = let found = position-Some feeds bs i 0 q in scan_ends bs line i found.0 found.1 found.2

nowhere : (bs : List ℕ) → position feeds bs ≡ None → (k : ℕ) → k < length bs → feeds (get_or bs k 0) ≡ false
nowhere bs q k less = fails_before_first feeds bs k 0 (go (ltb (position_or_len feeds bs) (length bs)) refl q)
  where
    go : (t : Bool) → ltb (position_or_len feeds bs) (length bs) ≡ t → cond t (Some (position_or_len feeds bs)) None ≡ None → k < position_or_len feeds bs
    go true e h = absurd (let z : ◌≡◌ {A = ℕ} 0 1 = cc in omega arith)
    go false e h = let over = ltb-false _ _ e in omega (arith, over, less)

pub scan_not_found : (bs line : List ℕ) → position feeds bs ≡ None → scan line bs ≡ record { line = hold line bs; used = length bs; ended = false }
scan_not_found bs line q = scan_all bs line (nowhere bs q)

-- What the code is told of a scan: how many bytes it took where a line feed ended it.
abbrev told : Scan → Option ℕ
told s = cond s.ended (Some s.used) None

pub told_none : (s : Scan) → told s ≡ None → s.ended ≡ false
told_none s q = go s.ended refl q
  where
    go : (t : Bool) → s.ended ≡ t → cond t (Some s.used) None ≡ None → s.ended ≡ false
    go true e h = absurd (let z : ◌≡◌ {A = ℕ} 0 1 = cc in omega arith)
    go false e h = e

pub told_some : (s : Scan) (i : ℕ) → told s ≡ Some i → (s.ended ≡ true) × (i ≡ s.used)
told_some s i q = go s.ended refl q
  where
    go : (t : Bool) → s.ended ≡ t → cond t (Some s.used) None ≡ Some i → (s.ended ≡ true) × (i ≡ s.used)
    go true e h = (e, cc)
    go false e h = absurd (let z : ◌≡◌ {A = ℕ} 0 1 = cc in omega arith)

-- Without a line feed all the bytes are taken.
pub scan_whole : (bs line : List ℕ) → (scan line bs).ended ≡ false → length bs ≡ (scan line bs).used
unfolding scan
scan_whole [] line q = refl
scan_whole (b ∷ bs) line q = go (eqb b line_feed) q (λ h. scan_whole bs (with_byte line b) h)
  where
    go : (t : Bool) → (after t line (scan (with_byte line b) bs)).ended ≡ false → ((scan (with_byte line b) bs).ended ≡ false → length bs ≡ (scan (with_byte line b) bs).used)
        → suc (length bs) ≡ (after t line (scan (with_byte line b) bs)).used
    go true h later = absurd (let z : ◌≡◌ {A = ℕ} 0 1 = cc in omega arith)
    go false h later = ap suc (later h)

-- A byte at least is taken where there is one.
pub scan_onward : (line bs : List ℕ) → 0 < length bs → 0 < (scan line bs).used
unfolding scan
scan_onward line [] some = absurd (omega arith)
scan_onward line (b ∷ bs) some = go (eqb b line_feed)
  where
    go : (t : Bool) → 0 < (after t line (scan (with_byte line b) bs)).used
    go true = omega arith
    go false = omega arith
