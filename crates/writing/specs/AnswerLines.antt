-- Document 01, "Frames": the lines of an answer, in the form of a frame, each ended by a line feed.
use Rattle.std.specs.Prelude.{Bool, cond, ◌&&◌, List, [], ◌∷◌, ◌++◌, ℕ, zero, suc, ◌+◌, ◌*◌, eqb, leb, length, take, drop, Err, None, Ok, Option, Result, Some}
use Rattle.rule.specs.declared.Weight.{Weight}
use Rattle.rule.specs.declared.Refusal.{Refusal}
use Rattle.rule.specs.declared.Accepted.{Accepted}
use Rattle.rule.specs.Answers.{number_of, Carried, nothing, place, excess, carried_by}
use Rattle.rule.specs.Limits.{tasks_most, slots_most}
use Rattle.digits.specs.Digits.{digits_of}
use Rattle.digits.specs.Fields.{field}

abbrev pub line_feed : ℕ
line_feed = 0x0a

-- One line of an answer.
unfoldable pub line_of : List ℕ → List ℕ
line_of bytes = digits_of bytes ++ line_feed ∷ []

-- "Refusal: 8F, number (1), place (1) for 4 and 8, FF for the others."
abbrev pub place_byte : Carried → ℕ
place_byte nothing = 0xff
place_byte (place i) = i
place_byte (excess x) = 0xff

abbrev pub refusal_by : (number named : ℕ) → List ℕ
refusal_by number named = line_of (0x8f ∷ field 1 number ++ field 1 named)

unfoldable pub refusal_line : Refusal → List ℕ
refusal_line r = refusal_by (number_of r) (place_byte (carried_by r))

-- Refusal 11
unfoldable pub malformed_line : List ℕ
malformed_line = line_of (0x8f ∷ 11 ∷ 0xff ∷ [])

-- "Answer 81, M (1), L (4), spare e (4), spare p (4); spare 0 and 0 if none."
unfoldable pub spare_bytes : Option Weight → List ℕ
spare_bytes None = field 4 0 ++ field 4 0
spare_bytes (Some w) = field 4 w.e ++ field 4 w.p

unfoldable pub accepted_line : Accepted → List ℕ
accepted_line a = line_of (0x81 ∷ field 1 a.units ++ field 4 a.multiple ++ spare_bytes a.spare)

-- "Answer 83, t (4), the n bytes."
abbrev pub listing_line : ℕ → List ℕ → List ℕ
listing_line t bytes = line_of (0x83 ∷ field 4 t ++ bytes)

-- The places of the tasks that ran, rising, from place i on.
unfoldable pub places_from : ℕ → List ℕ → List ℕ
places_from i [] = []
places_from i (b ∷ bs) = let rest = places_from (suc i) bs in cond (eqb b 1) (i ∷ rest) rest

-- "82, t (4), number of chosen tasks (1), their places (1 each) rising."
unfoldable pub slot_line : ℕ → List ℕ → List ℕ
slot_line t bytes = let ran = places_from 0 bytes in line_of (0x82 ∷ field 4 t ++ length ran ∷ ran)

-- "One line a slot", of so many slots of n tasks from t on.
unfoldable pub slot_lines : ℕ → ℕ → ℕ → List ℕ → List ℕ
slot_lines zero n t log = []
slot_lines (suc s) n t log = slot_line t (take n log) ++ slot_lines s n (suc t) (drop n log)

-- "After a refusal within the run its line follows."
unfoldable pub end_line : Result Unit Refusal → List ℕ
end_line (Ok tt) = []
end_line (Err r) = refusal_line r

-- ---- what is written, whatever is asked

-- No listing has more bytes than a set has tasks: of more nothing is written.
unfoldable pub listing_text : ℕ → List ℕ → List ℕ
listing_text t bytes = cond (leb (length bytes) tasks_most) (listing_line t bytes) []

-- A run within the limits, whose slots all have their bytes in the log, and whose times are fields of four bytes.
unfoldable pub run_fits_in : (slots n t size : ℕ) → Bool
run_fits_in slots n t size = leb slots slots_most && leb n tasks_most && leb (slots * n) size && leb (t + slots) 4294967295

-- The lines of a run: its slots', and that of the refusal that stopped it, if one did. Of a run that does not fit nothing is written.
unfoldable pub run_text : (slots n t : ℕ) → List ℕ → Result Unit Refusal → List ℕ
run_text slots n t log end = cond (run_fits_in slots n t (length log)) (slot_lines slots n t log ++ end_line end) []
