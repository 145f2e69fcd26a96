-- A fair session: no set is in force, or one that admission accepts, on its way from time 0, with its shares served.
use Rattle.std.specs.Prelude.{◌≡◌, ◌⊎◌, List, [], ◌∷◌, ℕ, suc, ◌≤◌, ◌<◌, length, Ok}
use Rattle.rule.specs.Limits.{time_most}
use Rattle.rule.specs.Places.{at}
use Rattle.rule.specs.Outcomes.{acceptance, admission}
use Rattle.fair.specs.Share.{share_down, share_up}
use Rattle.fair.specs.FromStart.{stepped}
use Rattle.fair.proofs.NeverStuck.{FairAt}
use Rattle.frames.specs.Session.{Session, no_set, in_force}
use Rattle.frames.specs.Transcript.{answer_to}

-- A set on m units at time t, with counts ks.
pub record FairSet (m : ℕ) (es ps ks : List ℕ) (t : ℕ) : Type 0 where
  -- admission accepts it
  pub admitted : admission es ps m ≡ Ok (acceptance es ps)
  -- t slots were run, of the 16,777,216 that the calendar has
  pub calendar : t ≤ suc time_most
  -- the counts are those that its own slots hand back, from time 0 with counts 0 on
  pub counts : ks ≡ stepped es ps m t
  -- each task has had e·t/p slots, rounded down or up
  pub shares : (i : ℕ) → i < length es
      → (at ks i ≡ share_down (at es i) (at ps i) t) ⊎ (at ks i ≡ share_up (at es i) (at ps i) t)
  -- so has the spare; at most M run, M is at most m, and refusals 8 and 9 do not hold
  pub fair : FairAt es ps m t ks

-- With no set there is nobody to serve.
abbrev pub FairSession : Session → Type 0
FairSession no_set = Unit {0}
FairSession (in_force m es ps ks t) = FairSet m es ps ks t

-- The session after these lines.
unfoldable pub session_after : Session → List (List ℕ) → Session
session_after was [] = was
session_after was (line ∷ lines) = session_after (answer_to was line).session lines
