-- What is kept between pieces of input, and how far into a piece the answers have room.
use Rattle.std.specs.Prelude.{Bool, cond, ◌≡◌, ◌&&◌, List, [], ◌∷◌, ℕ, suc, ◌-◌, ◌≤◌, leb, eqb, length, take}
use Rattle.writing.specs.AnswerLines.{line_feed}
use Rattle.frames.specs.declared.Lent.{Lent}
use Rattle.frames.specs.Session.{Session}
use Rattle.frames.specs.Replies.{Reply}
use Rattle.frames.specs.Transcript.{answer_to}
use Rattle.frames.specs.Stream.{with_byte}
use Rattle.frames.specs.Keeping.{session_with, has_room, HasRoom, SameLists, answer_most}
use Rattle.stream.specs.declared.Line.{Line}
use Rattle.stream.specs.declared.Reader.{Reader}

-- One byte past the longest line.
abbrev pub line_most : ℕ
line_most = 519

-- The lists of a session among a reader's, and the set in force.
abbrev pub lists_of : Reader → Lent
lists_of r = record { set = r.set; requirements = r.requirements; periods = r.periods; counts = r.counts; log = r.log }

-- The session that is kept.
abbrev pub session_at : Reader → Session
session_at r = session_with r.set r.requirements.now r.periods.now r.counts.now

-- The line at hand.
abbrev pub line_at : Reader → List ℕ
line_at r = take r.held r.line.now

-- The same where the line stands by itself.
abbrev pub held_of : Line → List ℕ
held_of l = take l.held l.bytes.now

-- Room for 64 tasks, the longest log, and a line of which so much is held.
unfoldable pub has_room_for : Lent → ℕ → List ℕ → Bool
has_room_for k held line = has_room k && leb held line_most && leb line_most (length line)

abbrev pub is_roomy : Reader → Bool
is_roomy r = has_room_for (lists_of r) r.held r.line.now

-- as facts
abbrev pub HasLineFor : ℕ → List ℕ → Type 0
HasLineFor held line = (held ≤ line_most) × (line_most ≤ length line)

abbrev pub HasRoomFor : Lent → ℕ → List ℕ → Type 0
HasRoomFor k held line = HasRoom k × HasLineFor held line

abbrev pub HasBytes : Line → Type 0
HasBytes l = HasLineFor l.held l.bytes.now

abbrev pub HasLine : Reader → Type 0
HasLine r = HasLineFor r.held r.line.now

abbrev pub IsRoomy : Reader → Type 0
IsRoomy r = HasRoom (lists_of r) × HasLine r

-- The lent lists are the caller's all along.
abbrev pub SameReader : Reader → Reader → Type 0
SameReader a b = SameLists (lists_of a) (lists_of b) × (b.line.ghost_name ≡ a.line.ghost_name) × (length b.line.now ≡ length a.line.now)

abbrev pub SameLine : Line → Line → Type 0
SameLine a b = (b.bytes.ghost_name ≡ a.bytes.ghost_name) × (length b.bytes.now ≡ length a.bytes.now)

-- How many bytes of a piece are taken where so much room is left for answers: a byte is taken if the longest answer has room.
unfoldable pub reach : ℕ → Session → List ℕ → List ℕ → ℕ
reach room was line [] = 0
reach room was line (b ∷ bs) =
    let answer = answer_to was line in
    let ended = reach (room - length answer.text) answer.session [] bs in
    let goesOn = reach room was (with_byte line b) bs in
    cond (leb answer_most room) (suc (cond (eqb b line_feed) ended goesOn)) 0

-- Without room for the session and a line nothing is taken.
unfoldable pub taken : Bool → ℕ → Session → List ℕ → List ℕ → ℕ
taken roomy room was line bs = cond roomy (reach room was line bs) 0

-- The end of the input: a last line that lacks its line feed is answered as if it had it.
unfoldable pub ended : Session → List ℕ → Reply
ended was [] = record { session = was; text = [] }
ended was (c ∷ cs) = answer_to was (c ∷ cs)

unfoldable pub ended_by : Bool → Session → List ℕ → Reply
ended_by roomy was line = let nothing : Reply = record { session = was; text = [] } in cond roomy (ended was line) nothing
