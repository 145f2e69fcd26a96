-- How long the lines of an answer are. Assumes nothing.
use Rattle.std.specs.Prelude.{Err, None, Ok, Option, Result, Some}
use mathlib.Core.Path.{◌≡◌, refl}
use mathlib.Core.Bool.{Bool, true, false, cond}
use mathlib.Core.List.{List, [], ◌∷◌, ◌++◌}
use Prim.Native.Nat.{ℕ, zero, suc, ◌+◌, ◌*◌, ◌≤◌}
use native.Mathlib.Omega.{arith}
use borrow.Author.Tests.{leb-true}
use lib.Dec.{eqb}
use lib.ListN.{length, take, drop, length-append, length-take}
use Rattle.std.specs.List.{count_by}
use Rattle.std.proofs.lemmas.List.Sums.{sum_by-cons, count_by-le-length}
use Rattle.rule.specs.declared.Weight.{Weight}
use Rattle.rule.specs.declared.Accepted.{Accepted}
use Rattle.rule.specs.declared.Refusal.{Refusal}
use Rattle.rule.specs.Limits.{tasks_most, slots_most}
use Rattle.rule.proofs.Tests.{both_true}
use Rattle.digits.specs.Digits.{digits_of}
use Rattle.digits.specs.Fields.{field}
use Rattle.digits.proofs.Digits.{length_digits}
use Rattle.digits.proofs.Fields.{length_field}
use Rattle.writing.specs.AnswerLines.{line_of, refusal_line, malformed_line, spare_bytes, accepted_line}
use Rattle.writing.specs.AnswerLines.{places_from, slot_line, slot_lines, end_line, run_fits_in}

pub length_line : (bytes : List ℕ) → length (line_of bytes) ≡ 2 * length bytes + 1
unfolding line_of
length_line bytes = let all = length_digits bytes in simp length-append (omega arith)

pub length_refusal : (r : Refusal) → length (refusal_line r) ≡ 7
unfolding refusal_line line_of digits_of field
length_refusal r = refl

pub length_malformed : length malformed_line ≡ 7
unfolding malformed_line line_of digits_of
length_malformed = refl

pub length_spare : (spare : Option Weight) → length (spare_bytes spare) ≡ 8
unfolding spare_bytes field
length_spare None = refl
length_spare (Some w) = refl

pub length_accepted : (a : Accepted) → length (accepted_line a) ≡ 29
unfolding accepted_line line_of digits_of field spare_bytes
length_accepted a = go a.spare
  where
    go : (s : Option Weight) → length (line_of (0x81 ∷ field 1 a.units ++ field 4 a.multiple ++ spare_bytes s)) ≡ 29
    go None = refl
    go (Some w) = refl

-- ---- a run

pub length_places : (i : ℕ) (bytes : List ℕ) → length (places_from i bytes) ≡ count_by (λ b. eqb b 1) bytes
unfolding places_from
length_places i [] = refl
length_places i (b ∷ bytes) = rw (sum_by-cons (λ x. cond (eqb x 1) 1 0) b bytes) (go (eqb b 1) (length_places (suc i) bytes))
  where
    go : {n : ℕ} (t : Bool) → let rest = places_from (suc i) bytes in length rest ≡ n → length (cond t (i ∷ rest) rest) ≡ cond t 1 0 + n
    go true same = omega arith
    go false same = omega arith

pub places_few : (i : ℕ) (bytes : List ℕ) → length (places_from i bytes) ≤ length bytes
places_few i bytes = rw (length_places i bytes) (count_by-le-length (λ b. eqb b 1) bytes)

pub take_few : (n : ℕ) (l : List ℕ) → length (take n l) ≤ n
take_few n l = simp length-take (omega arith)

pub slot_small : (t : ℕ) (bytes : List ℕ) → length bytes ≤ 64 → length (slot_line t bytes) ≤ 141
unfolding slot_line field
slot_small t bytes h = let few = places_few 0 bytes in simp length_line (omega arith)

pub slots_small : (s n t : ℕ) (log : List ℕ) → n ≤ 64 → length (slot_lines s n t log) ≤ s * 141
unfolding slot_lines
slots_small zero n t log few = omega arith
slots_small (suc s) n t log few =
    let here = slot_small t (take n log) (let h = take_few n log in omega arith) in
    let later = slots_small s n (suc t) (drop n log) few in
    let both = length-append (slot_line t (take n log)) (slot_lines s n (suc t) (drop n log)) in
    omega arith

pub end_small : (end : Result Unit Refusal) → length (end_line end) ≤ 7
unfolding end_line
end_small (Ok tt) = omega arith
end_small (Err r) = let seven = length_refusal r in omega arith

-- What a run that fits keeps to.
pub within_room : (slots n t size : ℕ) → run_fits_in slots n t size ≡ true
    → (slots ≤ slots_most) × (n ≤ tasks_most) × (slots * n ≤ size) × (t + slots ≤ 4294967295)
unfolding run_fits_in
within_room slots n t size fits = grind (arith, leb-true, both_true)

-- What the bounds on a writer's place need.
pub ruleset sizes = (length-take, length_digits, length_field, length_spare, places_few, slots_small, within_room)
