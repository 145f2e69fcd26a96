-- Room for a line, 64 tasks and the longest log: what it says, and when it is there. Assumes nothing.
use mathlib.Core.Path.{◌≡◌, refl}
use mathlib.Core.Bool.{Bool, true, false, ◌&&◌}
use mathlib.Core.List.{List}
use Prim.Native.Nat.{ℕ}
use native.Mathlib.Omega.{arith}
use borrow.Author.Tests.{leb-true, le-leb}
use lib.Dec.{leb}
use lib.ListN.{length}
use Rattle.frames.specs.declared.Lent.{Lent}
use Rattle.frames.specs.Keeping.{has_room}
use Rattle.frames.proofs.Room as rooms
use Rattle.stream.specs.declared.Reader.{Reader}
use Rattle.stream.specs.Pieces.{line_most, lists_of, has_room_for, HasRoomFor, is_roomy, IsRoomy}

both : (a b : Bool) → (a && b) ≡ true → (a ≡ true) × (b ≡ true)
both true b q = (refl, q)
both false b q = absurd (let z : ◌≡◌ {A = ℕ} 0 1 = cc in omega arith)

module _ (k : Lent) (held : ℕ) (line : List ℕ) where
  pub room_is : HasRoomFor k held line → has_room_for k held line ≡ true
  unfolding has_room_for
  room_is h = rw (rooms.is_roomy k h.0, le-leb _ _ h.1.0, le-leb _ _ h.1.1)

  pub room : has_room_for k held line ≡ true → HasRoomFor k held line
  unfolding has_room_for
  room q =
      let first = both (has_room k && leb held line_most) (leb line_most (length line)) q in
      let second = both (has_room k) (leb held line_most) first.0 in
      (rooms.roomy k second.0, (leb-true _ _ second.1, leb-true _ _ first.1))

  pub no_room : ¬ HasRoomFor k held line → has_room_for k held line ≡ false
  no_room n = elim (has_room_for k held line) as (λ b. has_room_for k held line ≡ b → has_room_for k held line ≡ false) [ true ↦ (λ q. absurd (n (room q))) | false ↦ (λ q. q) ] refl

-- of a reader's own line
module _ (r : Reader) where
  pub roomy_is : IsRoomy r → is_roomy r ≡ true
  roomy_is = room_is (lists_of r) r.held r.line.now

  pub roomy : is_roomy r ≡ true → IsRoomy r
  roomy = room (lists_of r) r.held r.line.now

  pub not_roomy : ¬ IsRoomy r → is_roomy r ≡ false
  not_roomy = no_room (lists_of r) r.held r.line.now
