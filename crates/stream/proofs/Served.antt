-- However the input is cut into calls, what they write is the transcript. Assumes nothing.
use mathlib.Core.Path.{◌≡◌, refl, sym, ap, ◌∙◌, subst}
use mathlib.Core.Bool.{true}
use mathlib.Core.List.{List, [], ◌∷◌, ◌++◌, append_assoc}
use Prim.Native.Nat.{ℕ, ◌+◌, ◌≤◌}
use native.Mathlib.Nat.{zero-add}
use native.Mathlib.Omega.{arith}
use lib.ListN.{length, take, drop, take-append-drop}
use lib.Seq.{sets, take-append-le}
use Rattle.digits.proofs.Stores.{take_sets}
use Rattle.frames.specs.Session.{Session, no_set}
use Rattle.frames.specs.Transcript.{transcript}
use Rattle.frames.specs.Stream.{feed, finish}
use Rattle.frames.proofs.Stream.{fed_cut, in_all, fed_transcript}
use Rattle.stream.specs.Pieces.{ended, ended_by}
use Rattle.stream.specs.Served.{Served, ends, takes}

served_all : (was : Session) (line left text : List ℕ) → Served was line left text → text ≡ in_all (feed was line left)
unfolding feed
served_all _ _ _ _ (ends was line) = refl
served_all _ _ _ _ (takes was line left n later rest) =
    let first = feed was line (take n left) in
    let second = feed first.reader.session first.reader.line (drop n left) in
    let cut = fed_cut was line (take n left) (drop n left) in
    let whole = ap (feed was line) (take-append-drop n left) in
    let reader = sym (ap (λ f. f.reader) whole) ∙ cut.0 in
    let written = sym (ap (λ f. f.text) whole) ∙ cut.1 in
    ap (λ z. first.text ++ z) (served_all _ _ _ _ rest)
    ∙ sym (append_assoc first.text second.text (finish second.reader.session second.reader.line))
    ∙ ap (λ z. z ++ finish second.reader.session second.reader.line) (sym written)
    ∙ ap (λ r. (feed was line left).text ++ finish r.session r.line) (sym reader)

-- ---- the calls of the code are such calls

-- A call takes bytes from the front of what is left of the input, of which its piece is a part.
pub feed_takes : (was : Session) (line piece rest : List ℕ) (n : ℕ) (later : List ℕ) → n ≤ length piece
    → Served (feed was line (take n piece)).reader.session (feed was line (take n piece)).reader.line (drop n (piece ++ rest)) later
    → Served was line (piece ++ rest) ((feed was line (take n piece)).text ++ later)
feed_takes was line piece rest n later inside after =
    let same : take n (piece ++ rest) ≡ take n piece = take-append-le n piece rest inside in
    subst (λ bytes. Served was line (piece ++ rest) ((feed was line bytes).text ++ later)) same
    (takes was line (piece ++ rest) n later
    (subst (λ bytes. Served (feed was line bytes).reader.session (feed was line bytes).reader.line (drop n (piece ++ rest)) later) (sym same) after))

-- With room, what is answered at the end is what the end writes.
pub finish_ends : (was : Session) (line : List ℕ) → (ended_by true was line).text ≡ finish was line
unfolding ended_by ended finish
finish_ends was [] = refl
finish_ends was (c ∷ cs) = refl

-- What a call stored from the start of its buffer on stands there whole, where there is room for it.
pub stands : (out text : List ℕ) (size : ℕ) → size ≡ length text → size ≤ length out → take size (sets out 0 text) ≡ text
stands out text size is room =
    let begins : size ≡ 0 + length text = is ∙ sym (zero-add _) in
    ap (λ n. take n (sets out 0 text)) begins ∙ take_sets out 0 text (omega arith)

-- ---- the transcript

-- From the start, with no set and no line at hand.
pub served_transcript : (input text : List ℕ) → Served no_set [] input text → text ≡ transcript input
served_transcript input text calls = served_all no_set [] input text calls ∙ sym (fed_transcript input)
