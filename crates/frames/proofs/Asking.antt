-- What a line asks, and the frame that it is. Assumes nothing.
use mathlib.Core.Path.{◌≡◌, refl, sym, ◌∙◌}
use mathlib.Core.Bool.{Bool, true, false, cond, ◌&&◌}
use mathlib.Core.List.{List}
use Prim.Native.Nat.{ℕ, ◌+◌, ◌*◌, ◌%◌, ◌≤◌}
use native.Mathlib.Omega.{arith}
use borrow.Author.Tests.{leb-true, eqb-true}
use lib.Dec.{leb, eqb}
use lib.ListN.{length, take}
use Rattle.std.specs.Prelude.{Some, None}
use Rattle.rule.specs.Places.{at, each}
use Rattle.rule.proofs.Places.{length_each}
use Rattle.rule.proofs.Written.{take_each}
use Rattle.digits.specs.Digits.{all_digits, bytes_of}
use Rattle.digits.specs.Fields.{field_at}
use Rattle.digits.proofs.Bytes.{length_bytes}
use Rattle.reading.specs.declared.Asked.TheVariants.{Admit, Run, List as Listing}
use Rattle.reading.specs.Kinds.{Frame, admit, run, list, malformed, well_formed, admit_frame, run_frame, list_frame, frame_of, read}
use Rattle.reading.specs.Asking.{asked_by, column}

pub asked_run : (f : Frame) (s : ℕ) → asked_by f ≡ Some (Run s) → f ≡ run s
unfolding asked_by
asked_run (admit m es ps) s q = absurd (let z : ◌≡◌ {A = ℕ} 0 1 = cc in omega arith)
asked_run (run x) s q = cc
asked_run list s q = absurd (let z : ◌≡◌ {A = ℕ} 0 1 = cc in omega arith)
asked_run malformed s q = absurd (let z : ◌≡◌ {A = ℕ} 0 1 = cc in omega arith)

pub asked_list : (f : Frame) → asked_by f ≡ Some Listing → f ≡ list
unfolding asked_by
asked_list (admit m es ps) q = absurd (let z : ◌≡◌ {A = ℕ} 0 1 = cc in omega arith)
asked_list (run x) q = absurd (let z : ◌≡◌ {A = ℕ} 0 1 = cc in omega arith)
asked_list list q = refl
asked_list malformed q = absurd (let z : ◌≡◌ {A = ℕ} 0 1 = cc in omega arith)

pub asked_malformed : (f : Frame) → asked_by f ≡ None → f ≡ malformed
unfolding asked_by
asked_malformed (admit m es ps) q = absurd (let z : ◌≡◌ {A = ℕ} 0 1 = cc in omega arith)
asked_malformed (run x) q = absurd (let z : ◌≡◌ {A = ℕ} 0 1 = cc in omega arith)
asked_malformed list q = absurd (let z : ◌≡◌ {A = ℕ} 0 1 = cc in omega arith)
asked_malformed malformed q = refl

-- A set's lists are the first n places of the line's columns, and a line has room for 64 records.
second : (a b c d : Bool) → (a && b && c && d) ≡ true → b ≡ true
second true true c d q = refl
second true false c d q = q
second false b c d q = absurd (let z : ◌≡◌ {A = ℕ} 0 1 = cc in omega arith)

module _ (line : List ℕ) (m n : ℕ) where
  -- The numbers that each record has at this place of the line.
  abbrev record_at : ℕ → ℕ → ℕ
  record_at k i = field_at 2 (bytes_of line) (k + 4 * i)

  short : well_formed line ≡ true → length line ≤ 518
  unfolding well_formed
  short w = leb-true (length line) 518 (second (leb 1 (length line)) (leb (length line) 518) (eqb (length line % 2) 0) (all_digits line) w)

  abbrev Admits : Frame → Type 0
  Admits f = asked_by f ≡ Some (Admit m n) → (f ≡ admit m (take n (column line 3)) (take n (column line 5))) × (n ≤ 64)

  set_admits : length line ≤ 518 → length (bytes_of line) ≡ 3 + 4 * at (bytes_of line) 2
      → Admits (admit (at (bytes_of line) 1) (each (at (bytes_of line) 2) (record_at 3)) (each (at (bytes_of line) 2) (record_at 5)))
  unfolding asked_by column
  set_admits h size q =
      let units : at (bytes_of line) 1 ≡ m = cc in
      let count : length (each (at (bytes_of line) 2) (record_at 3)) ≡ n = cc in
      let tasks : at (bytes_of line) 2 ≡ n = sym (length_each (at (bytes_of line) 2) (record_at 3)) ∙ count in
      let half = length_bytes line in
      let few : n ≤ 64 = omega arith in (
        rw (units, tasks, take_each n 64 (record_at 3) few, take_each n 64 (record_at 5) few),
        few,
      )

  malformed_admits : Admits malformed
  unfolding asked_by
  malformed_admits q = absurd (let z : ◌≡◌ {A = ℕ} 0 1 = cc in omega arith)

  run_admits : (s : ℕ) → Admits (run s)
  unfolding asked_by
  run_admits s q = absurd (let z : ◌≡◌ {A = ℕ} 0 1 = cc in omega arith)

  list_admits : Admits list
  unfolding asked_by
  list_admits q = absurd (let z : ◌≡◌ {A = ℕ} 0 1 = cc in omega arith)

  by : (b : Bool) (f g : Frame) → (b ≡ true → Admits f) → Admits g → Admits (cond b f g)
  by true f g h k = h refl
  by false f g h k = k

  pub asked_admit : Admits (read line)
  unfolding read frame_of admit_frame run_frame list_frame
  asked_admit =
      let bs = bytes_of line in
      by (well_formed line) (frame_of bs) malformed
      (λ w. by (eqb (at bs 0) 1) (admit_frame bs) (cond (eqb (at bs 0) 2) (run_frame bs) (cond (eqb (at bs 0) 3) (list_frame bs) malformed))
      (λ one. by (leb 3 (length bs) && eqb (length bs) (3 + 4 * at bs 2)) _ malformed
      (λ t. set_admits (short w) (eqb-true (length bs) (3 + 4 * at bs 2) (last (leb 3 (length bs)) (eqb (length bs) (3 + 4 * at bs 2)) t)))
      malformed_admits)
      (by (eqb (at bs 0) 2) (run_frame bs) (cond (eqb (at bs 0) 3) (list_frame bs) malformed)
      (λ two. by (eqb (length bs) 3) (run (field_at 2 bs 1)) malformed (λ t. run_admits (field_at 2 bs 1)) malformed_admits)
      (by (eqb (at bs 0) 3) (list_frame bs) malformed
      (λ three. by (eqb (length bs) 1) list malformed (λ t. list_admits) malformed_admits) malformed_admits)))
      malformed_admits
    where
      last : (a b : Bool) → (a && b) ≡ true → b ≡ true
      last true b q = q
      last false b q = absurd (let z : ◌≡◌ {A = ℕ} 0 1 = cc in omega arith)
