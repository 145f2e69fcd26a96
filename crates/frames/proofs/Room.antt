-- Room for 64 tasks and the longest log: what it says, what is answered with and without it, and that an answer leaves it as it was.
-- Assumes nothing.
use mathlib.Core.Path.{◌≡◌, refl}
use mathlib.Core.Bool.{Bool, true, false, ◌&&◌}
use mathlib.Core.List.{List, []}
use Prim.Native.Nat.{ℕ, ◌≤◌}
use native.Mathlib.Omega.{arith}
use borrow.Author.Tests.{leb-true, le-leb}
use lib.Dec.{leb}
use lib.ListN.{length}
use Rattle.reading.specs.Kinds.{read}
use Rattle.frames.specs.declared.Lent.{Lent}
use Rattle.frames.specs.Session.{Session}
use Rattle.frames.specs.Replies.{reply}
use Rattle.frames.specs.Transcript.{answer_to}
use Rattle.frames.specs.Keeping.{log_most, tasks_of, has_room, HasRoom, answered}

parts : (a b c d e : Bool) → (a && b && c && d && e) ≡ true → (a ≡ true) × (b ≡ true) × (c ≡ true) × (d ≡ true) × (e ≡ true)
parts true true true true e q = (refl, refl, refl, refl, q)
parts true true true false e q = absurd (let z : ◌≡◌ {A = ℕ} 0 1 = cc in omega arith)
parts true true false d e q = absurd (let z : ◌≡◌ {A = ℕ} 0 1 = cc in omega arith)
parts true false c d e q = absurd (let z : ◌≡◌ {A = ℕ} 0 1 = cc in omega arith)
parts false b c d e q = absurd (let z : ◌≡◌ {A = ℕ} 0 1 = cc in omega arith)

-- Of any number of tasks and any lengths, as `has_room` of lists that are lent one by one answers.
pub room_told : (n a b c d : ℕ) → (leb n 64 && leb 64 a && leb 64 b && leb 64 c && leb log_most d) ≡ true → (n ≤ 64) × (64 ≤ a) × (64 ≤ b) × (64 ≤ c) × (log_most ≤ d)
room_told n a b c d q =
    let p = parts (leb n 64) (leb 64 a) (leb 64 b) (leb 64 c) (leb log_most d) q in
    (leb-true n 64 p.0, leb-true 64 a p.1, leb-true 64 b p.2, leb-true 64 c p.3, leb-true log_most d p.4)

module _ (k : Lent) where
  pub roomy : has_room k ≡ true → HasRoom k
  unfolding has_room
  roomy q = room_told (tasks_of k.set) (length k.requirements.now) (length k.periods.now) (length k.counts.now) (length k.log.now) q

  pub is_roomy : HasRoom k → has_room k ≡ true
  unfolding has_room
  is_roomy h = rw (le-leb _ 64 h.0, le-leb 64 _ h.1, le-leb 64 _ h.2, le-leb 64 _ h.3, le-leb log_most _ h.4)

  pub not_roomy : ¬ HasRoom k → has_room k ≡ false
  not_roomy n = elim (has_room k) as (λ b. has_room k ≡ b → has_room k ≡ false) [ true ↦ (λ q. absurd (n (roomy q))) | false ↦ (λ q. q) ] refl

  -- Lists of the same lengths, and a set of no more than 64 tasks before and after.
  pub room_stays : (k' : Lent) → tasks_of k.set ≤ 64 → tasks_of k'.set ≤ 64
      → length k'.requirements.now ≡ length k.requirements.now → length k'.periods.now ≡ length k.periods.now
      → length k'.counts.now ≡ length k.counts.now → length k'.log.now ≡ length k.log.now
      → has_room k' ≡ has_room k
  unfolding has_room
  room_stays k' few few' a b c d = rw (le-leb _ 64 few, le-leb _ 64 few', a, b, c, d)

module _ (b : Bool) (w : Session) (line : List ℕ) where
  pub with_room : b ≡ true → reply w (read line) ≡ answered b w line
  unfolding answered answer_to
  with_room q = rw q

  pub without_room : b ≡ false → record { session = w; text = [] } ≡ answered b w line
  unfolding answered
  without_room q = rw q
