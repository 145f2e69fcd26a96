-- What is kept, as a session, and the answers that leave it: a listing, refusal 11, and whatever is asked before any set. Assumes nothing.
use mathlib.Core.List.{List, [], ◌∷◌}
use lib.ListN.{replicate, length, take}
use Rattle.rule.specs.Places.{each}
use Rattle.rule.proofs.Written.{written}
use Prim.Native.Nat.{ℕ, zero, suc, ◌≤◌}
use native.Mathlib.Omega.{arith}
use mathlib.Core.Path.{◌≡◌, refl, ap}
use Rattle.writing.specs.AnswerLines.{malformed_line}
use Rattle.reading.specs.Kinds.{run, list, malformed}
use Rattle.frames.specs.Session.{Session, no_set, in_force}
use Rattle.frames.specs.Replies.{Reply, reply}

-- Neither a listing nor refusal 11 changes the session.
pub list_keeps : (w : Session) → (reply w list).session ≡ w
unfolding reply
list_keeps no_set = refl
list_keeps (in_force m es ps ks t) = refl

-- Refusal 11.
abbrev pub eleven : Session → Reply
eleven w = record { session = w; text = malformed_line }

pub malformed_reply : (w : Session) → reply w malformed ≡ eleven w
unfolding reply
malformed_reply w = refl

-- Before any set is accepted a run or a listing is refusal 11.
pub run_none : (s : ℕ) → reply no_set (run s) ≡ eleven no_set
unfolding reply
run_none s = refl

pub list_none : reply no_set list ≡ eleven no_set
unfolding reply
list_none = refl

-- A list that the library's `fill` cleared.
pub cleared : (n : ℕ) → replicate n 0 ≡ each n (λ i. 0)
unfolding each
cleared zero = refl
cleared (suc n) = ap (λ xs. 0 ∷ xs) (cleared n)

-- A list whose front was written place by place.
pub take_written : (n : ℕ) (f : ℕ → ℕ) (xs : List ℕ) → n ≤ length xs → take n (written n f xs) ≡ each n f
unfolding written each
take_written zero f xs h = refl
take_written (suc n) f [] h = absurd (omega arith)
take_written (suc n) f (x ∷ xs) h = ap (λ ys. f 0 ∷ ys) (take_written n (λ j. f (suc j)) xs (omega arith))
