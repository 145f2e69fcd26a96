-- The lines of a fair night, each by itself. Every part of an answer ends with its only line feed, so that a text's lines are the parts,
-- and the second digit of a line tells its form. Assumes nothing.
use mathlib.Core.Path.{◌≡◌, refl, sym, ap, ◌∙◌, subst}
use mathlib.Core.Logic.{◌⊎◌, inl, inr, ⊎_elim}
use mathlib.Core.Bool.{Bool, true, false, cond}
use mathlib.Core.List.Memᴰ
use mathlib.Core.List.{List, [], ◌∷◌, ◌++◌, append_assoc, append-nil, Memᴰ}
use Prim.Native.Nat.{ℕ, ◌+◌, ◌≤◌, ◌/◌, ◌%◌}
use native.Mathlib.Omega.{arith}
use borrow.Author.Tests.{ne_eqb}
use lib.Dec.{ltb, eqb}
use Rattle.rule.specs.declared.Refusal.{Refusal}
use Rattle.rule.specs.declared.Refusal.TheVariants.{Lengths, Tasks, Units, Record, Multiple, Load, Time, Lag, Stuck, Slots}
use Rattle.rule.specs.Answers.{number_of}
use Rattle.rule.specs.Places.{at}
use Rattle.digits.specs.Digits.{digit_of, digit_value, digits_of}
use Rattle.digits.specs.Fields.{field}
use Rattle.reading.specs.Kinds.{Frame}
use Rattle.writing.specs.AnswerLines.{line_feed, line_of, refusal_line, malformed_line, accepted_line}
use Rattle.frames.specs.Lines.{lines_after, lines_of}
use Rattle.frames.specs.Session.{Session}
use Rattle.nights.specs.Sessions.{FairSession}
use Rattle.nights.specs.SlotLines.{SlotLine, written, written_all, RightLines, none, and}
use Rattle.nights.specs.Answers.{Answered, set_accepted, set_refused, all_slots, slots_to_the_end, too_many_slots, listing, listing_too_late, malformed_frame, run_before_set, listing_before_set}
use Rattle.nights.specs.Nights.{FairNight, over, next}
use Rattle.nights.specs.TranscriptLines.{IsLineOf, can_come, TranscriptLine, accepted, slot, listing as standings, refusal, malformed, RightSlot}

-- ---- a line of digits

no_feed : (v : ℕ) → eqb (digit_of v) line_feed ≡ false
no_feed v = go (ltb v 10)
  where
    go : (b : Bool) → eqb (cond b (v + 0x30) (v + 0x37)) line_feed ≡ false
    go true = ne_eqb (v + 0x30) line_feed (λ e. absurd (omega arith))
    go false = ne_eqb (v + 0x37) line_feed (λ e. absurd (omega arith))

-- The lines of an input, by its first byte.
by_byte : (line : List ℕ) (b : ℕ) (bs : List ℕ)
    → lines_after line (b ∷ bs) ≡ cond (eqb b line_feed) (line ∷ lines_after [] bs) (lines_after (line ++ b ∷ []) bs)
unfolding lines_after
by_byte [] b bs = refl
by_byte (c ∷ cs) b bs = refl

digits_then : (bytes line rest : List ℕ) → lines_after line (line_of bytes ++ rest) ≡ (line ++ digits_of bytes) ∷ lines_of rest
unfolding line_of digits_of
digits_then [] line rest = by_byte line line_feed rest ∙ ap (λ l. l ∷ lines_of rest) (sym (append-nil line))
digits_then (b ∷ bytes) line rest =
    by_byte line (digit_of (b / 16)) _
    ∙ rw (no_feed (b / 16))
    (by_byte (line ++ digit_of (b / 16) ∷ []) (digit_of (b % 16)) _
    ∙ rw (no_feed (b % 16))
    (digits_then bytes ((line ++ digit_of (b / 16) ∷ []) ++ digit_of (b % 16) ∷ []) rest ∙ ap (λ l. l ∷ lines_of rest) (simp append_assoc)))

-- ---- the lines of a text

-- A line of this part, which can stand in a transcript, or of what comes after it.
abbrev Stands : List ℕ → List ℕ → Type 0
Stands line rest = TranscriptLine (line ++ line_feed ∷ []) ⊎ IsLineOf line rest

one_line : (bytes rest line : List ℕ) → TranscriptLine (line_of bytes) → IsLineOf line (line_of bytes ++ rest) → Stands line rest
unfolding line_of
one_line bytes rest line T m =
    ⊎_elim (λ e. inl (rw e T)) (λ l. inr l) (Memᴰ.cases_cons (subst (λ ls. Memᴰ line ls) (digits_then bytes [] rest) m))

slot_lines : {m : ℕ} {es ps : List ℕ} {t : ℕ} {lines : List SlotLine} → RightLines m es ps t lines
    → (rest line : List ℕ) → IsLineOf line (written_all lines ++ rest) → Stands line rest
unfolding written_all written
slot_lines none rest line m = inr m
slot_lines (and {line = here} {lines} R more) rest line m =
    ⊎_elim inl (slot_lines more rest line) (one_line _ (written_all lines ++ rest) line (slot R) (rw append_assoc at m))

two_to_six_come : (r : Refusal) → 2 ≤ number_of r → number_of r ≤ 6 → can_come (number_of r) ≡ true
two_to_six_come Lengths l m = absurd (omega arith)
two_to_six_come Tasks l m = refl
two_to_six_come Units l m = refl
two_to_six_come (Record i) l m = refl
two_to_six_come Multiple l m = refl
two_to_six_come (Load x) l m = refl
two_to_six_come Time l m = refl
two_to_six_come (Lag i) l m = absurd (omega arith)
two_to_six_come Stuck l m = absurd (omega arith)
two_to_six_come Slots l m = absurd (omega arith)

answer_lines : {was after : Session} {asked : Frame} {text : List ℕ} → FairSession was → Answered was asked text after
    → (rest line : List ℕ) → IsLineOf line (text ++ rest) → Stands line rest
unfolding accepted_line refusal_line malformed_line
answer_lines F (set_accepted {m = m} {es} {ps} a) rest line l = one_line _ rest line (accepted m es ps a) l
answer_lines F (set_refused {r = r} q two six) rest line l = one_line _ rest line (refusal r (two_to_six_come r two six)) l
answer_lines F (all_slots lines few R) rest line l = slot_lines R rest line l
answer_lines F (slots_to_the_end lines less few end R) rest line l =
    ⊎_elim inl (one_line _ rest line (refusal Time refl)) (slot_lines R (refusal_line Time ++ rest) line (rw append_assoc at l))
answer_lines F (too_many_slots many) rest line l = one_line _ rest line (refusal Slots refl) l
answer_lines F (listing h) rest line l = one_line _ rest line (standings F h) l
answer_lines F (listing_too_late h) rest line l = one_line _ rest line (refusal Time refl) l
answer_lines F malformed_frame rest line l = one_line _ rest line malformed l
answer_lines F run_before_set rest line l = one_line _ rest line malformed l
answer_lines F listing_before_set rest line l = one_line _ rest line malformed l

pub night_lines : {was : Session} {lines : List (List ℕ)} {text : List ℕ} → FairNight was lines text
    → (line : List ℕ) → IsLineOf line text → TranscriptLine (line ++ line_feed ∷ [])
unfolding lines_after
night_lines (over F) line l = absurd (Memᴰ.not-nil l)
night_lines (next {rest = rest} F A N) line l = ⊎_elim (λ T. T) (λ m. night_lines N line m) (answer_lines F A rest line l)

-- ---- what a line's digits tell

pub slot_form : {text : List ℕ} → TranscriptLine text → at text 1 ≡ 0x32 → RightSlot text
unfolding accepted_line written refusal_line malformed_line line_of digits_of
slot_form (accepted m es ps a) e = absurd (omega arith)
slot_form (slot {m} {es} {ps} {ks} {t} {line} R) e =
    record { m = m; es = es; ps = ps; ks = ks; t = t; line = line; right = R; is = refl }
slot_form (standings F h) e = absurd (omega arith)
slot_form (refusal r c) e = absurd (omega arith)
slot_form malformed e = absurd (omega arith)

refusal_number : (r : Refusal) → digit_value (at (refusal_line r) 3) ≡ number_of r
unfolding refusal_line line_of digits_of field
refusal_number Lengths = refl
refusal_number Tasks = refl
refusal_number Units = refl
refusal_number (Record i) = refl
refusal_number Multiple = refl
refusal_number (Load x) = refl
refusal_number Time = refl
refusal_number (Lag i) = refl
refusal_number Stuck = refl
refusal_number Slots = refl

ten_at_most : (r : Refusal) → number_of r ≤ 10
ten_at_most Lengths = omega arith
ten_at_most Tasks = omega arith
ten_at_most Units = omega arith
ten_at_most (Record i) = omega arith
ten_at_most Multiple = omega arith
ten_at_most (Load x) = omega arith
ten_at_most Time = omega arith
ten_at_most (Lag i) = omega arith
ten_at_most Stuck = omega arith
ten_at_most Slots = omega arith

pub refusal_form : {text : List ℕ} → TranscriptLine text → (r : Refusal) → text ≡ refusal_line r → can_come (number_of r) ≡ true
unfolding accepted_line written refusal_line malformed_line line_of digits_of
refusal_form (accepted m es ps a) r e = absurd (let z = ap (λ l. at l 1) e in omega arith)
refusal_form (slot R) r e = absurd (let z = ap (λ l. at l 1) e in omega arith)
refusal_form (standings F h) r e = absurd (let z = ap (λ l. at l 1) e in omega arith)
refusal_form (refusal r' c) r e =
    let same : number_of r' ≡ number_of r = sym (refusal_number r') ∙ ap (λ l. digit_value (at l 3)) e ∙ refusal_number r in
    subst (λ n. can_come n ≡ true) same c
refusal_form malformed r e =
    let same : 11 ≡ number_of r = ap (λ l. digit_value (at l 3)) e ∙ refusal_number r in
    absurd (omega (arith, ten_at_most r))
