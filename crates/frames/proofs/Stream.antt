-- However the input is cut into pieces, what is written is the transcript, and no more than 519 bytes of a line are kept. Assumes nothing.
use mathlib.Core.Path.{◌≡◌, refl, sym, ap, ◌∙◌}
use mathlib.Core.Logic.{◌⊎◌, inl, inr}
use mathlib.Core.Bool.{Bool, true, false, cond}
use mathlib.Core.List.{List, [], ◌∷◌, ◌++◌, append_assoc, append-nil}
use Prim.Native.Nat.{ℕ, suc, ◌≤◌, ◌<◌}
use native.Mathlib.Omega.{arith}
use borrow.Author.Tests.{leb-true, leb-false, le-leb, lt-leb}
use lib.Dec.{leb, eqb}
use lib.ListN.{length, length-append}
use Rattle.writing.specs.AnswerLines.{line_feed}
use Rattle.frames.specs.Lines.{lines_after}
use Rattle.reading.specs.Kinds.{malformed, digits_most, well_formed, read}
use Rattle.frames.specs.Session.{Session, no_set}
use Rattle.frames.specs.Replies.{reply}
use Rattle.frames.specs.Transcript.{answer_to, answers, transcript}
use Rattle.frames.specs.Stream.{Fed, with_byte, feed, finish}

-- What a byte does before the rest of a piece: it ends the line, or it is a byte more of it.
abbrev turn : Bool → Session → List ℕ → ℕ → List ℕ → Fed
turn t was line b bs =
    let answer = answer_to was line in
    let after = feed answer.session [] bs in
    let ended : Fed = record { reader = after.reader; text = answer.text ++ after.text } in
    cond t ended (feed was (with_byte line b) bs)

-- ---- pieces

-- What two pieces in a row give together: the second goes on where the first ended.
abbrev pub Cut : Fed → Fed → List ℕ → Type 0
Cut whole first ys =
    let second = feed first.reader.session first.reader.line ys in
    (whole.reader ≡ second.reader) × (whole.text ≡ first.text ++ second.text)

-- Two pieces in a row are one.
pub fed_cut : (was : Session) (line xs ys : List ℕ) → Cut (feed was line (xs ++ ys)) (feed was line xs) ys
unfolding feed
fed_cut was line [] ys = (refl, refl)
fed_cut was line (b ∷ xs) ys =
    go (eqb b line_feed) (fed_cut (answer_to was line).session [] xs ys) (fed_cut was (with_byte line b) xs ys)
  where
    go : (t : Bool) → Cut (feed (answer_to was line).session [] (xs ++ ys)) (feed (answer_to was line).session [] xs) ys
        → Cut (feed was (with_byte line b) (xs ++ ys)) (feed was (with_byte line b) xs) ys → Cut (turn t was line b (xs ++ ys)) (turn t was line b xs) ys
    go true r s = (r.0, ap (λ z. (answer_to was line).text ++ z) r.1 ∙ sym (append_assoc (answer_to was line).text _ _))
    go false r s = s

-- ---- the line at hand

-- A line and what is kept of it: the same, or both too long.
abbrev Same : List ℕ → List ℕ → Type 0
Same line kept = (line ≡ kept) ⊎ ((digits_most < length line) × (digits_most < length kept))

too_long : (line : List ℕ) → digits_most < length line → read line ≡ malformed
unfolding read well_formed
too_long line h = rw (le-leb 1 (length line) (omega arith), lt-leb (length line) digits_most h)

same_answer : (was : Session) (line kept : List ℕ) → Same line kept → answer_to was line ≡ answer_to was kept
unfolding answer_to
same_answer was line kept (inl e) = ap (λ l. reply was (read l)) e
same_answer was line kept (inr h) = ap (reply was) (too_long line h.0 ∙ sym (too_long kept h.1))

same_byte : (line kept : List ℕ) (b : ℕ) → Same line kept → Same (line ++ b ∷ []) (with_byte kept b)
unfolding with_byte
same_byte line kept b (inr h) =
    rw (lt-leb (length kept) digits_most h.1) (inr (simp length-append (omega (arith, h.0)), h.1))
same_byte line kept b (inl e) = go (leb (length kept) digits_most) refl
  where
    go : (t : Bool) → leb (length kept) digits_most ≡ t → Same (line ++ b ∷ []) (cond t (kept ++ b ∷ []) kept)
    go true h = inl (ap (λ l. l ++ b ∷ []) e)
    go false h =
        let over = leb-false (length kept) digits_most h in
        inr (rw e (simp length-append (omega (arith, over))), over)

byte_short : (line : List ℕ) (b : ℕ) → length line ≤ suc digits_most → length (with_byte line b) ≤ suc digits_most
unfolding with_byte
byte_short line b h = go (leb (length line) digits_most) refl
  where
    go : (t : Bool) → leb (length line) digits_most ≡ t → length (cond t (line ++ b ∷ []) line) ≤ suc digits_most
    go true k = simp length-append (let few = leb-true (length line) digits_most k in omega arith)
    go false k = h

-- No more than one byte past the longest line is kept.
pub line_short : (was : Session) (line bs : List ℕ) → length line ≤ suc digits_most → length (feed was line bs).reader.line ≤ suc digits_most
unfolding feed with_byte
line_short was line [] h = h
line_short was line (b ∷ bs) h =
    go (eqb b line_feed) (line_short (answer_to was line).session [] bs (omega arith)) (line_short was (with_byte line b) bs (byte_short line b h))
  where
    go : (t : Bool) → length (feed (answer_to was line).session [] bs).reader.line ≤ suc digits_most
        → length (feed was (with_byte line b) bs).reader.line ≤ suc digits_most → length (turn t was line b bs).reader.line ≤ suc digits_most
    go true r s = r
    go false r s = s

-- ---- the transcript

-- The lines of an input, by its first byte.
lines_byte : (line : List ℕ) (b : ℕ) (bs : List ℕ)
    → lines_after line (b ∷ bs) ≡ cond (eqb b line_feed) (line ∷ lines_after [] bs) (lines_after (line ++ b ∷ []) bs)
unfolding lines_after
lines_byte [] b bs = refl
lines_byte (c ∷ cs) b bs = refl

last_line : (was : Session) (line kept : List ℕ) → Same line kept → answers was (lines_after line []) ≡ finish was kept
unfolding lines_after answers finish
last_line was [] [] same = refl
last_line was [] (c ∷ cs) (inl e) = absurd (let z = ap length e in omega arith)
last_line was [] (c ∷ cs) (inr h) = absurd (let z = h.0 in omega arith)
last_line was (c ∷ cs) [] (inl e) = absurd (let z = ap length e in omega arith)
last_line was (c ∷ cs) [] (inr h) = absurd (let z = h.1 in omega arith)
last_line was (c ∷ cs) (d ∷ ds) same = append-nil _ ∙ ap (λ r. r.text) (same_answer was (c ∷ cs) (d ∷ ds) same)

-- All that is written, the last line's answer included.
abbrev pub in_all : Fed → List ℕ
in_all fed = fed.text ++ finish fed.reader.session fed.reader.line

written : (was : Session) (line kept bs : List ℕ) → Same line kept → answers was (lines_after line bs) ≡ in_all (feed was kept bs)
unfolding feed answers
written was line kept [] same = last_line was line kept same
written was line kept (b ∷ bs) same =
    rw (lines_byte line b bs)
    (go (eqb b line_feed) (written (answer_to was kept).session [] [] bs (inl refl))
    (written was (line ++ b ∷ []) (with_byte kept b) bs (same_byte line kept b same)))
  where
    go : (t : Bool) → answers (answer_to was kept).session (lines_after [] bs) ≡ in_all (feed (answer_to was kept).session [] bs)
        → answers was (lines_after (line ++ b ∷ []) bs) ≡ in_all (feed was (with_byte kept b) bs)
        → answers was (cond t (line ∷ lines_after [] bs) (lines_after (line ++ b ∷ []) bs)) ≡ in_all (turn t was kept b bs)
    go true r s =
        rw (same_answer was line kept same) (ap (λ z. (answer_to was kept).text ++ z) r ∙ sym (append_assoc (answer_to was kept).text _ _))
    go false r s = s

-- What is written for the pieces of an input, and at its end, is its transcript.
pub fed_transcript : (input : List ℕ) → transcript input ≡ in_all (feed no_set [] input)
unfolding transcript
fed_transcript input = written no_set [] [] input (inl refl)
