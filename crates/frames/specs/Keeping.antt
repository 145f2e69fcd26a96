-- What the code keeps between frames, as a session, and the answer to a line where the caller lends room for it.
use Rattle.std.specs.Prelude.{Bool, cond, ◌≡◌, ◌&&◌, List, [], ℕ, ◌≤◌, leb, length, take, Option, Some, None}
use Rattle.frames.specs.declared.Kept.{Kept}
use Rattle.frames.specs.declared.Lent.{Lent}
use Rattle.frames.specs.Session.{Session, no_set, in_force}
use Rattle.frames.specs.Replies.{Reply}
use Rattle.frames.specs.Transcript.{answer_to}

-- The first n places of three lists are the set in force and its counts.
abbrev pub session_with : Option Kept → List ℕ → List ℕ → List ℕ → Session
session_with None es ps ks = no_set
session_with (Some s) es ps ks = in_force s.m (take s.n es) (take s.n ps) (take s.n ks) s.t

abbrev pub session_of : Lent → Session
session_of k = session_with k.set k.requirements.now k.periods.now k.counts.now

-- The longest log: 1,024 slots of 64 tasks.
abbrev pub log_most : ℕ
log_most = 65536

-- No answer is longer: 1,024 lines that name 64 tasks each, and the line of a refusal.
abbrev pub answer_most : ℕ
answer_most = 144391

-- How many tasks are kept.
abbrev pub tasks_of : Option Kept → ℕ
tasks_of None = 0
tasks_of (Some s) = s.n

-- Room for 64 tasks in each list, and for the longest log.
unfoldable pub has_room : Lent → Bool
has_room k =
    leb (tasks_of k.set) 64 && leb 64 (length k.requirements.now) && leb 64 (length k.periods.now) && leb 64 (length k.counts.now) && leb log_most (length k.log.now)

-- as facts
abbrev pub HasRoom : Lent → Type 0
HasRoom k =
    (tasks_of k.set ≤ 64) × (64 ≤ length k.requirements.now) × (64 ≤ length k.periods.now) × (64 ≤ length k.counts.now) × (log_most ≤ length k.log.now)

-- The lent lists are the caller's all along: each is the one that was lent, and as long as it was.
abbrev pub SameLists : Lent → Lent → Type 0
SameLists a b =
    (b.requirements.ghost_name ≡ a.requirements.ghost_name) × (b.periods.ghost_name ≡ a.periods.ghost_name) × (b.counts.ghost_name ≡ a.counts.ghost_name) × (b.log.ghost_name ≡ a.log.ghost_name)
    × (length b.requirements.now ≡ length a.requirements.now) × (length b.periods.now ≡ length a.periods.now) × (length b.counts.now ≡ length a.counts.now) × (length b.log.now ≡ length a.log.now)

-- Without room nothing is answered, and nothing changes.
unfoldable pub answered : Bool → Session → List ℕ → Reply
answered room was line = let nothing : Reply = record { session = was; text = [] } in cond room (answer_to was line) nothing
