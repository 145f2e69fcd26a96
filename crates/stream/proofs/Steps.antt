-- One line of a piece as the code deals with it: the line goes on, or it is answered and its answer stored after the others. Assumes nothing.
use mathlib.Core.Path.{◌≡◌, refl, sym, ap, ◌∙◌}
use mathlib.Core.Bool.{Bool, true, false}
use mathlib.Core.List.{List, [], ◌∷◌, ◌++◌, append-nil}
use Prim.Native.Nat.{ℕ, zero, suc, ◌-◌, ◌≤◌, ◌<◌}
use native.Mathlib.Omega.{arith}
use lib.ListN.{length, set, take, drop, length-drop, drop_of_length-le}
use lib.Seq.{sets, take_all}
use Rattle.frames.specs.declared.Lent.{Lent}
use Rattle.frames.specs.Session.{Session}
use Rattle.frames.specs.Transcript.{answer_to}
use Rattle.frames.specs.Keeping.{session_of, has_room, HasRoom, answer_most, answered}
use Rattle.frames.proofs.Sizes.{answer_small}
use Rattle.stream.specs.Taking.{scan, step_by, step}
use Rattle.stream.specs.Pieces.{ended, ended_by}
use Rattle.frames.proofs.Room.{is_roomy}

-- ---- the line goes on, or is answered

pub step_waits : (was : Session) (line bs : List ℕ) → (scan line bs).ended ≡ false
    → (was ≡ (step was line bs).session) × ((scan line bs).line ≡ (step was line bs).line) × ([] ≡ (step was line bs).text)
unfolding step_by
step_waits was line bs q = (rw q, rw q, rw q)

answered_roomy : (b : Bool) (was : Session) (line : List ℕ) → b ≡ true → answered b was line ≡ answer_to was line
unfolding answered
answered_roomy b was line q = rw q

-- An answer, by its size as the code tells it, is no longer than the longest one.
pub answer_fits : (k : Lent) (line : List ℕ) → HasRoom k → (size : ℕ) → size ≡ length (answered (has_room k) (session_of k) line).text → size ≤ answer_most
answer_fits k line room size is =
    let said = ap (λ r. length r.text) (answered_roomy (has_room k) (session_of k) line (is_roomy k room)) in
    let small = answer_small k.set k.requirements.now k.periods.now k.counts.now line room.0 in
    omega arith

module _ (k : Lent) (line bs : List ℕ) where
  pub step_answers : (l : List ℕ) → HasRoom k → (scan line bs).ended ≡ true → l ≡ (scan line bs).line
      → ((answered (has_room k) (session_of k) l).session ≡ (step (session_of k) line bs).session)
      × ([] ≡ (step (session_of k) line bs).line)
      × ((answered (has_room k) (session_of k) l).text ≡ (step (session_of k) line bs).text)
      × (length (step (session_of k) line bs).text ≤ answer_most)
  unfolding step_by
  step_answers l room ends is =
      let was = session_of k in
      let here : step_by was (scan line bs) ≡ record { session = (answer_to was (scan line bs).line).session; line = []; text = (answer_to was (scan line bs).line).text } = rw ends in
      let said = answered_roomy (has_room k) was l (is_roomy k room) ∙ ap (answer_to was) is in
      let small = answer_small k.set k.requirements.now k.periods.now k.counts.now (scan line bs).line room.0 in
      let size = ap (λ s. length s.text) here in (
        ap (λ r. r.session) said ∙ sym (ap (λ s. s.session) here),
        sym (ap (λ s. s.line) here),
        ap (λ r. r.text) said ∙ sym (ap (λ s. s.text) here),
        omega arith,
      )

-- ---- stored after the others

sets_cons : (x : ℕ) (l : List ℕ) (i : ℕ) (vs : List ℕ) → sets (x ∷ l) (suc i) vs ≡ x ∷ sets l i vs
sets_cons x l i [] = refl
sets_cons x l i (v ∷ vs) = sets_cons x (set l i v) (suc i) vs

sets_after : (n : ℕ) (l vs : List ℕ) → n ≤ length l → take n l ++ sets (drop n l) 0 vs ≡ sets l n vs
sets_after zero l vs h = refl
sets_after (suc n) [] vs h = absurd (omega arith)
sets_after (suc n) (x ∷ l) vs h = ap (λ z. x ∷ z) (sets_after n l vs (omega arith)) ∙ sym (sets_cons x l n vs)

-- The part of a list from a place on, as a slice has it.
pub rest_is : (xs : List ℕ) (i : ℕ) → take (length xs - i) (drop i xs) ≡ drop i xs
rest_is xs i = let long = length-drop i xs in take_all (length xs - i) (drop i xs) (omega arith)

pub rest_length : (xs : List ℕ) (i : ℕ) → length (take (length xs - i) (drop i xs)) ≡ length xs - i
rest_length xs i = ap length (rest_is xs i) ∙ length-drop i xs

-- What is stored in the part of a list from a place on is stored there in the list.
pub stored_after : (out : List ℕ) (size : ℕ) (part text : List ℕ) → size ≤ length out
    → part ≡ sets (take (length out - size) (drop size out)) 0 text
    → take size out ++ (part ++ drop (length out - size) (drop size out)) ≡ sets out size text
stored_after out size part text inside is =
    let long = length-drop size out in
    let whole = take_all (length out - size) (drop size out) (omega arith) in
    let none = drop_of_length-le (drop size out) {i = length out - size} (omega arith) in
    ap (λ z. take size out ++ (part ++ z)) none
    ∙ ap (λ z. take size out ++ z) (append-nil part ∙ is ∙ ap (λ z. sets z 0 text) whole)
    ∙ sets_after size out text inside

-- ---- the end of the input

pub ended_none : (b : Bool) (was : Session) (line : List ℕ) (held : ℕ) → held ≡ 0 → record { session = was; text = [] } ≡ ended_by b was (take held line)
unfolding ended_by ended
ended_none true was line held none = rw none
ended_none false was line held none = refl

pub ended_no_room : (b : Bool) (was : Session) (line : List ℕ) → b ≡ false → record { session = was; text = [] } ≡ ended_by b was line
unfolding ended_by
ended_no_room b was line q = rw q

some_line : (was : Session) (line : List ℕ) (held : ℕ) → 0 < held → held ≤ length line → ended was (take held line) ≡ answer_to was (take held line)
unfolding ended
some_line was line zero some inside = absurd (omega arith)
some_line was [] (suc n) some inside = absurd (omega arith)
some_line was (c ∷ cs) (suc n) some inside = refl

pub ended_line : (b : Bool) (k : Lent) (line : List ℕ) (held : ℕ) → b ≡ true → HasRoom k → 0 < held → held ≤ length line
    → answered (has_room k) (session_of k) (take held line) ≡ ended_by b (session_of k) (take held line)
unfolding ended_by
ended_line b k line held roomy room some inside =
    rw roomy (answered_roomy (has_room k) (session_of k) (take held line) (is_roomy k room) ∙ sym (some_line (session_of k) line held some inside))
