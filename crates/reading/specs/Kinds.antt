-- Document 01, "Frames": the kinds, their layouts, and what is malformed.
use Rattle.std.specs.Prelude.{Bool, cond, ◌&&◌, List, ℕ, ◌+◌, ◌*◌, ◌%◌, leb, eqb, length}
use Rattle.rule.specs.Places.{at, each}
use Rattle.digits.specs.Digits.{all_digits, bytes_of}
use Rattle.digits.specs.Fields.{field_at}

pub data Frame : Type 0 where
  -- 01: a set to admit
  admit : (m : ℕ) (es ps : List ℕ) → Frame
  -- 02: a run of so many slots
  run : (slots : ℕ) → Frame
  -- 03: a listing
  list : Frame
  malformed : Frame

-- "at most 518 digits"
abbrev pub digits_most : ℕ
digits_most = 518

-- "01, m (1 byte), n (1), then n times e (2) and p (2)": the frame's own n decides its length.
unfoldable pub admit_frame : List ℕ → Frame
admit_frame bs =
    let n = at bs 2 in
    let set = admit (at bs 1) (each n (λ i. field_at 2 bs (3 + 4 * i))) (each n (λ i. field_at 2 bs (5 + 4 * i))) in
    cond (leb 3 (length bs) && eqb (length bs) (3 + 4 * n)) set malformed

-- "02, slots (2): a run."
unfoldable pub run_frame : List ℕ → Frame
run_frame bs = cond (eqb (length bs) 3) (run (field_at 2 bs 1)) malformed

-- "03: listing."
unfoldable pub list_frame : List ℕ → Frame
list_frame bs = cond (eqb (length bs) 1) list malformed

-- "unknown kind, wrong length for the kind"
unfoldable pub frame_of : List ℕ → Frame
frame_of bs =
    cond (eqb (at bs 0) 1) (admit_frame bs) (cond (eqb (at bs 0) 2) (run_frame bs) (cond (eqb (at bs 0) 3) (list_frame bs) malformed))

-- "odd digits, other characters, an empty line, .. over 518 digits"
unfoldable pub well_formed : List ℕ → Bool
well_formed line = leb 1 (length line) && leb (length line) digits_most && eqb (length line % 2) 0 && all_digits line

-- What a line asks.
unfoldable pub read : List ℕ → Frame
read line = let frame = frame_of (bytes_of line) in cond (well_formed line) frame malformed
