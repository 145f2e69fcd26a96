-- What a right slot line tells can be read back from its digits: every byte of it is below 256, and the time fits its four bytes. Assumes
-- nothing.
use mathlib.Core.Path.{◌≡◌, refl, ap, ◌∙◌}
use mathlib.Core.List.{List, [], ◌∷◌, ◌++◌}
use Prim.Native.Nat.{ℕ, zero, suc, ◌≤◌, ◌<◌}
use native.Mathlib.Omega.{arith}
use lib.ListN.{length}
use Rattle.rule.specs.Limits.{time_most}
use Rattle.rule.specs.Places.{at}
use Rattle.rule.specs.Sets.{units_in_use, field as field_of}
use Rattle.rule.specs.Slot.{chosen}
use Rattle.rule.specs.Outcomes.{acceptance}
use Rattle.digits.specs.Digits.{bytes_of, digits_of}
use Rattle.digits.specs.Fields.{field_at, field}
use Rattle.digits.proofs.Bytes.{bytes_of_digits}
use Rattle.writing.specs.AnswerLines.{line_of}
use Rattle.fair.proofs.NeverStuck.{set}
use Rattle.nights.specs.SlotLines.{SlotLine, written, RightLine}

-- A line feed after whole bytes is none.
bytes_of_line : (bytes : List ℕ) → bytes_of (line_of bytes) ≡ bytes_of (digits_of bytes)
unfolding line_of bytes_of digits_of
bytes_of_line [] = refl
bytes_of_line (b ∷ bytes) = rw (bytes_of_line bytes)

-- A time of the calendar is what its four bytes stand for.
time_back : (t first : ℕ) (rest : List ℕ) → t ≤ time_most → field_at 4 (first ∷ field 4 t ++ rest) 1 ≡ t
unfolding field_at field
time_back t first rest h = omega arith

module _ {m : ℕ} {es ps ks : List ℕ} {t : ℕ} {line : SlotLine} (R : RightLine m es ps ks t line) where
  places_small : (a : ℕ) → a < length line.places → at line.places a < 256
  places_small a h =
      let task = (R.right (chosen (units_in_use es ps) t (field_of es ps ks t)) R.choice (at line.places a)).0 (a, h, refl) in
      omega (arith, task.0, (set es ps m (acceptance es ps) R.fair.admitted).tasks_le)

  few : length line.places < 256
  few = omega (arith, R.few, R.units, (set es ps m (acceptance es ps) R.fair.admitted).units_le)

  all_small : (i : ℕ) → i < length (0x82 ∷ field 4 t ++ length line.places ∷ line.places)
      → at (0x82 ∷ field 4 t ++ length line.places ∷ line.places) i < 256
  unfolding field
  all_small zero h = omega arith
  all_small (suc zero) h = omega arith
  all_small (suc (suc zero)) h = omega arith
  all_small (suc (suc (suc zero))) h = omega arith
  all_small (suc (suc (suc (suc zero)))) h = omega arith
  all_small (suc (suc (suc (suc (suc zero))))) h = few
  all_small (suc (suc (suc (suc (suc (suc a)))))) h = places_small a (omega arith)

  pub line_bytes : bytes_of (written line) ≡ 0x82 ∷ field 4 t ++ length line.places ∷ line.places
  unfolding written
  line_bytes = rw R.time (bytes_of_line (0x82 ∷ field 4 t ++ length line.places ∷ line.places) ∙ bytes_of_digits _ all_small)

  pub line_time : field_at 4 (bytes_of (written line)) 1 ≡ t
  line_time = ap (λ bs. field_at 4 bs 1) line_bytes ∙ time_back t 0x82 _ R.early
