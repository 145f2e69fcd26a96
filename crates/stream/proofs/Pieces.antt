-- Lines of a piece in a row are the piece byte by byte, as far as the answers have room. Assumes nothing.
use mathlib.Core.Path.{◌≡◌, refl, sym, ap, ◌∙◌}
use mathlib.Core.Bool.{Bool, true, false}
use mathlib.Core.List.{List, [], ◌∷◌, ◌++◌}
use Prim.Native.Nat.{ℕ, ◌+◌, ◌-◌, ◌≤◌, ◌<◌}
use native.Mathlib.Nat.{zero-add}
use native.Mathlib.Omega.{arith}
use borrow.Author.Tests.{le-leb}
use lib.ListN.{length, take, drop, drop_of_length-le, length-append}
use lib.Seq.{sets, take-add, drop-drop}
use Rattle.digits.proofs.Stores.{sets_append}
use Rattle.frames.specs.Session.{Session}
use Rattle.frames.specs.Stream.{feed}
use Rattle.frames.specs.Keeping.{answer_most}
use Rattle.frames.proofs.Stream.{fed_cut}
use Rattle.stream.specs.Taking.{scan, step}
use Rattle.stream.specs.Pieces.{reach, taken}
use Rattle.stream.proofs.Taking.{as_fed, step_feed, step_reach, reach_stops}

-- ---- what is taken

reach_onward : (room : ℕ) (was : Session) (line piece : List ℕ) → answer_most ≤ room → 0 < length piece → 0 < reach room was line piece
unfolding reach
reach_onward room was line [] h some = absurd (omega arith)
reach_onward room was line (b ∷ bs) h some = rw (le-leb answer_most room h) (omega arith)

module _ (b : Bool) (room : ℕ) (was : Session) (line piece : List ℕ) where
  pub none_taken : b ≡ false → 0 ≡ taken b room was line piece
  unfolding taken
  none_taken q = rw q

  pub some_taken : b ≡ true → reach room was line piece ≡ taken b room was line piece
  unfolding taken
  some_taken q = rw q

  -- A byte at least is taken where there is one.
  pub taken_onward : b ≡ true → answer_most ≤ room → 0 < length piece → 0 < taken b room was line piece
  unfolding taken
  taken_onward q h some = rw q (reach_onward room was line piece h some)

-- ---- the lines so far

module _ (was : Session) (line piece out : List ℕ) where
  -- What is kept and written after a part of the piece, and how much of it is still to be taken.
  abbrev pub SoFar : Session → List ℕ → ℕ → ℕ → List ℕ → Type 0
  SoFar was' line' at size out' =
      let fed = feed was line (take at piece) in
      (was' ≡ fed.reader.session) × (line' ≡ fed.reader.line) × (out' ≡ sets out 0 fed.text) × (size ≡ length fed.text) × (reach (length out) was line piece ≡ at + reach (length out - size) was' line' (drop at piece))

  pub nothing_yet : SoFar was line 0 0 out
  unfolding feed
  nothing_yet =
      let all : length out - 0 ≡ length out = omega arith in
      (refl, refl, refl, refl, sym (zero-add _ ∙ ap (λ n. reach n was line piece) all))

  module _ (was' : Session) (line' : List ℕ) (at size : ℕ) (out' : List ℕ) (so : SoFar was' line' at size out') where
    pub a_line_more : answer_most ≤ length out - size
        → (was'' : Session) (line'' : List ℕ) (at' size' : ℕ) (out'' : List ℕ)
        → was'' ≡ (step was' line' (drop at piece)).session
        → line'' ≡ (step was' line' (drop at piece)).line
        → out'' ≡ sets out' size (step was' line' (drop at piece)).text
        → size' ≡ size + length (step was' line' (drop at piece)).text
        → at' ≡ at + (scan line' (drop at piece)).used
        → SoFar was'' line'' at' size' out''
    a_line_more room was'' line'' at' size' out'' a b c d e =
        let rest = drop at piece in
        let used = (scan line' rest).used in
        let before = feed was line (take at piece) in
        let cut = fed_cut was line (take at piece) (take used rest) in
        let whole : take at' piece ≡ take at piece ++ take used rest = ap (λ n. take n piece) e ∙ take-add at used piece in
        let here : feed before.reader.session before.reader.line (take used rest) ≡ as_fed (step was' line' rest) =
        ap (λ w. feed w before.reader.line (take used rest)) (sym so.0) ∙ ap (λ l. feed was' l (take used rest)) (sym so.1) ∙ step_feed was' line' rest in
        let reader = ap (λ l. (feed was line l).reader) whole ∙ cut.0 ∙ ap (λ f. f.reader) here in
        let text = ap (λ l. (feed was line l).text) whole ∙ cut.1 ∙ ap (λ f. before.text ++ f.text) here in
        let written = (step was' line' rest).text in
        let less : length out - size' ≡ length out - size - length written = omega (arith, d) in
        let same : reach (length out - size') was'' line'' (drop at' piece) ≡ reach (length out - size - length written) (step was' line' rest).session (step was' line' rest).line (drop used rest) =
        ap (λ n. reach n was'' line'' (drop at' piece)) less
        ∙ ap (λ w. reach (length out - size - length written) w line'' (drop at' piece)) a
        ∙ ap (λ l. reach (length out - size - length written) (step was' line' rest).session l (drop at' piece)) b
        ∙ ap (reach (length out - size - length written) (step was' line' rest).session (step was' line' rest).line) (ap (λ n. drop n piece) e ∙ sym (drop-drop used at piece)) in
        let left = step_reach (length out - size) was' line' rest room in (
          a ∙ sym (ap (λ r. r.session) reader),
          b ∙ sym (ap (λ r. r.line) reader),
          c ∙ ap (λ o. sets o size written) so.2 ∙ ap (λ n. sets (sets out 0 before.text) n written) (so.3 ∙ sym (zero-add _)) ∙ sets_append out 0 before.text written ∙ ap (sets out 0) (sym text),
          d ∙ ap (λ n. n + length written) so.3 ∙ sym (length-append before.text written) ∙ ap length (sym text),
          omega (arith, so.4, left, e, same),
        )

    pub piece_ends : length piece ≤ at → at ≡ reach (length out) was line piece
    unfolding reach
    piece_ends over =
        let none = ap (reach (length out - size) was' line') (drop_of_length-le piece {i = at} over) in
        omega (arith, none, so.4)

    pub room_ends : length out - size < answer_most → at ≡ reach (length out) was line piece
    room_ends full = let none = reach_stops (length out - size) was' line' (drop at piece) full in omega (arith, none, so.4)
