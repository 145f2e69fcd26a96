-- What a line asks, test by test: None where it is malformed. Assumes nothing.
use mathlib.Core.Path.{◌≡◌, sym}
use mathlib.Core.Bool.{true, false}
use mathlib.Core.List.{List}
use Prim.Native.Nat.{ℕ, ◌+◌, ◌*◌, ◌/◌, ◌%◌, ◌<◌, ◌≤◌}
use borrow.Author.Tests.{eq-eqb, ne_eqb, le-leb, lt-leb}
use lib.ListN.{length}
use Rattle.std.specs.Prelude.{None, Some}
use Rattle.rule.specs.Places.{at}
use Rattle.rule.proofs.Places.{length_each}
use Rattle.digits.specs.Digits.{all_digits, bytes_of}
use Rattle.digits.specs.Fields.{field_at}
use Rattle.digits.proofs.Bytes.{length_bytes}
use Rattle.reading.specs.declared.Asked.TheVariants.{Admit, Run, List as Listing}
use Rattle.reading.specs.Kinds.{well_formed, admit_frame, run_frame, list_frame, frame_of, read}
use Rattle.reading.specs.Asking.{asked_by}

-- ---- well-formed lines

module _ (line : List ℕ) where
  -- An empty line is not well-formed.
  pub empty_line : length line < 1 → false ≡ well_formed line
  unfolding well_formed
  empty_line none = rw (lt-leb 1 (length line) none)

  -- Nor is one of more than 518 digits.
  pub long_line : 1 ≤ length line → 518 < length line → false ≡ well_formed line
  unfolding well_formed
  long_line some over = rw (le-leb 1 (length line) some, lt-leb (length line) 518 over)

  -- Nor is one of an odd number of digits.
  pub odd_line : 1 ≤ length line → length line ≤ 518 → (length line % 2 ≡ 0 → ⊥) → false ≡ well_formed line
  unfolding well_formed
  odd_line some fits odd = rw (le-leb 1 (length line) some, le-leb (length line) 518 fits, ne_eqb (length line % 2) 0 odd)

  -- Any other is well-formed where it has digits alone.
  pub even_line : 1 ≤ length line → length line ≤ 518 → length line % 2 ≡ 0 → all_digits line ≡ well_formed line
  unfolding well_formed
  even_line some fits even = rw (le-leb 1 (length line) some, le-leb (length line) 518 fits, eq-eqb (length line % 2) 0 even)

-- ---- a frame of a known kind, by the length of its bytes

module _ (line : List ℕ) where
  -- Of kind 3, one byte asks a listing.
  pub list_asked : length line / 2 ≡ 1 → Some Listing ≡ asked_by (list_frame (bytes_of line))
  unfolding asked_by list_frame
  list_asked one = rw (length_bytes line, one)

  -- Of any other length it is malformed.
  pub list_malformed : (length line / 2 ≡ 1 → ⊥) → None ≡ asked_by (list_frame (bytes_of line))
  unfolding asked_by list_frame
  list_malformed other = rw (length_bytes line, ne_eqb (length line / 2) 1 other)

  -- Of kind 2, three bytes ask a run, of so many slots as the last two say.
  pub run_asked : length line / 2 ≡ 3 → Some (Run (field_at 2 (bytes_of line) 1)) ≡ asked_by (run_frame (bytes_of line))
  unfolding asked_by run_frame
  run_asked three = rw (length_bytes line, three)

  -- Of any other length it is malformed.
  pub run_malformed : (length line / 2 ≡ 3 → ⊥) → None ≡ asked_by (run_frame (bytes_of line))
  unfolding asked_by run_frame
  run_malformed other = rw (length_bytes line, ne_eqb (length line / 2) 3 other)

  -- Of kind 1, fewer than three bytes are malformed.
  pub admit_short : length line / 2 < 3 → None ≡ asked_by (admit_frame (bytes_of line))
  unfolding asked_by admit_frame
  admit_short few = rw (length_bytes line, lt-leb 3 (length line / 2) few)

  -- So are three and more where they are not as many as the frame's own n says.
  pub admit_ragged : 3 ≤ length line / 2 → (n : ℕ) → n ≡ at (bytes_of line) 2 → (length line / 2 ≡ 3 + 4 * n → ⊥)
      → None ≡ asked_by (admit_frame (bytes_of line))
  unfolding asked_by admit_frame
  admit_ragged three n is other =
      rw (length_bytes line, le-leb 3 (length line / 2) three, sym is, ne_eqb (length line / 2) (3 + 4 * n) other)

  -- Where they are, n tasks ask to be admitted on m units.
  pub admit_asked : 3 ≤ length line / 2 → (m n : ℕ) → m ≡ at (bytes_of line) 1 → n ≡ at (bytes_of line) 2
      → length line / 2 ≡ 3 + 4 * n → Some (Admit m n) ≡ asked_by (admit_frame (bytes_of line))
  unfolding asked_by admit_frame
  admit_asked three m n units is whole =
      rw (
        length_bytes line,
        le-leb 3 (length line / 2) three,
        sym units,
        sym is,
        eq-eqb (length line / 2) (3 + 4 * n) whole,
        length_each n (λ i. field_at 2 (bytes_of line) (3 + 4 * i)),
      )

-- ---- a frame by its kind

-- A line that is not well-formed is malformed.
pub not_well_formed : (line : List ℕ) → well_formed line ≡ false → None ≡ asked_by (read line)
unfolding read asked_by
not_well_formed line w = rw w

module _ (line : List ℕ) (w : well_formed line ≡ true) (kind : ℕ) (is : kind ≡ at (bytes_of line) 0) where
  -- Kind 1 is a set to admit.
  pub kind_1 : kind ≡ 1 → asked_by (admit_frame (bytes_of line)) ≡ asked_by (read line)
  unfolding read frame_of
  kind_1 h = rw (w, sym is, h)

  -- Kind 2 is a run.
  pub kind_2 : (kind ≡ 1 → ⊥) → kind ≡ 2 → asked_by (run_frame (bytes_of line)) ≡ asked_by (read line)
  unfolding read frame_of
  kind_2 h k = rw (w, sym is, k)

  -- Kind 3 is a listing.
  pub kind_3 : (kind ≡ 1 → ⊥) → (kind ≡ 2 → ⊥) → kind ≡ 3 → asked_by (list_frame (bytes_of line)) ≡ asked_by (read line)
  unfolding read frame_of
  kind_3 h k m = rw (w, sym is, m)

  -- Any other kind is malformed.
  pub kind_unknown : (kind ≡ 1 → ⊥) → (kind ≡ 2 → ⊥) → (kind ≡ 3 → ⊥) → None ≡ asked_by (read line)
  unfolding read frame_of asked_by
  kind_unknown h k m = rw (w, sym is, ne_eqb kind 1 h, ne_eqb kind 2 k, ne_eqb kind 3 m)
