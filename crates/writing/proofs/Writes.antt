-- What is written call after call. Assumes nothing.
use mathlib.Core.Path.{◌≡◌, refl, sym, ap, ◌∙◌}
use mathlib.Core.Bool.{Bool, true, false, cond}
use mathlib.Core.List.{List, [], ◌∷◌, ◌++◌, append_assoc, append-nil}
use Prim.Native.Nat.{ℕ, zero, suc, ◌+◌, ◌*◌, ◌<◌}
use native.Mathlib.Nat.{add-zero}
use native.Mathlib.Omega.{arith}
use lib.Dec.{eqb}
use lib.ListN.{length, take, drop, length-append, length-take}
use lib.Seq.{drop-drop}
use Rattle.std.specs.Prelude.{Option, None, Some}
use Rattle.std.specs.Option.{unwrap_or}
use Rattle.std.proofs.lemmas.List.{take_more}
use Rattle.rule.specs.declared.Weight.{Weight}
use Rattle.digits.specs.Fields.{field}
use Rattle.rule.specs.Places.{at}
use Rattle.digits.specs.Digits.{digits_of}
use Rattle.digits.proofs.Digits.{digits_append}
use Rattle.digits.proofs.Stores.{sets_append}
use Rattle.writing.specs.declared.Writer.{Writer}
use Rattle.writing.specs.AnswerLines.{spare_bytes, places_from, slot_line, slot_lines}
use Rattle.writing.specs.Writing.{Writes}

pub none : (a : Writer) → Writes a a []
none a = record { same_reference = refl; out = refl; at = sym (add-zero a.at) }

pub then : {a b c : Writer} {xs ys : List ℕ} → Writes a b xs → Writes b c ys → Writes a c (xs ++ ys)
then {a} {b} {c} {xs} {ys} first second = record {
  same_reference = second.same_reference ∙ first.same_reference;
  out = second.out ∙ rw (first.out, first.at) (sets_append a.out.now a.at xs ys);
  at = simp length-append (omega (arith, first.at, second.at));
}

pub then_digits : (xs ys : List ℕ) {a b c : Writer} → Writes a b (digits_of xs) → Writes b c (digits_of ys) → Writes a c (digits_of (xs ++ ys))
then_digits xs ys first second = rw (digits_append xs ys) (then first second)

-- ---- the places of the tasks that ran

pub places_append : (i : ℕ) (xs ys : List ℕ) → places_from i (xs ++ ys) ≡ places_from i xs ++ places_from (i + length xs) ys
unfolding places_from
places_append i [] ys = rw add-zero
places_append i (x ∷ xs) ys =
    let next : i + suc (length xs) ≡ suc i + length xs = omega arith in
    rw (next, places_append (suc i) xs ys) (go (eqb x 1))
  where
    go : (t : Bool) → let rest = places_from (suc i) xs in
        let more = places_from (suc i + length xs) ys in
        cond t (i ∷ (rest ++ more)) (rest ++ more) ≡ cond t (i ∷ rest) rest ++ more
    go true = refl
    go false = refl

-- The places of the tasks up to the next are those before it, and its own if it ran.
pub places_more : (bytes : List ℕ) (i : ℕ) → i < length bytes
    → places_from 0 (take (i + 1) bytes) ≡ places_from 0 (take i bytes) ++ cond (eqb (at bytes i) 1) (i ∷ []) []
unfolding places_from
places_more bytes i l =
    let before : 0 + length (take i bytes) ≡ i = simp length-take (omega arith) in
    rw (take_more bytes i 0 l, places_append 0 (take i bytes) (at bytes i ∷ []), before)

-- ---- a spare

pub spare_fields : (spare : Option Weight) → let w = unwrap_or spare (record { e = 0; p = 0 }) in field 4 w.e ++ field 4 w.p ≡ spare_bytes spare
unfolding spare_bytes
spare_fields None = refl
spare_fields (Some w) = refl

-- ---- slots

pub slots_more : (k n t : ℕ) (log : List ℕ) → slot_lines (suc k) n t log ≡ slot_lines k n t log ++ slot_line (t + k) (take n (drop (k * n) log))
unfolding slot_lines
slots_more zero n t log = let start : 0 * n ≡ 0 = omega arith in rw (add-zero, start) (append-nil _)
slots_more (suc k) n t log =
    let time : t + suc k ≡ suc t + k = omega arith in
    let from : suc k * n ≡ n + k * n = omega arith in
    rw (time, from, ← drop-drop (k * n) n log, append_assoc) (ap (λ lines. slot_line t (take n log) ++ lines) (slots_more k n (suc t) (drop n log)))
