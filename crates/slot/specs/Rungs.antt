-- The choice read off the rungs of the places: urgent ones, then contenders by their order.
use Rattle.std.specs.Prelude.{◌≡◌, Bool, true, false, ◌&&◌, ◌||◌, List, ℕ, ◌+◌, ◌≤◌, ◌<◌, ltb, length, Option, Some, Err, Ok}
use Rattle.rule.specs.Limits.{bounded_by, multiple_most, time_most}
use Rattle.rule.specs.declared.Refusal.TheVariants.{Stuck}
use Rattle.rule.specs.Places.{at, bit, count, each}
use Rattle.rule.specs.Task.{compare}
use Rattle.rule.specs.Slot.{goes_first}
use Rattle.standing.specs.declared.Rung.{Rung}
use Rattle.standing.specs.declared.Rung.TheVariants.{Tnegru, Urgent}
use Rattle.standing.specs.Judged.{rung_at}
use Rattle.rule.specs.Outcomes.{SlotAfter}

-- The rung of an urgent task, and those of a contender.
abbrev pub is_urgent : Rung → Bool
is_urgent Urgent = true
is_urgent _ = false

abbrev pub contends : Rung → Bool
contends Tnegru = false
contends Urgent = false
contends _ = true

abbrev pub on_urgent : List Rung → ℕ → Bool
on_urgent rungs i = is_urgent (rung_at rungs i)

abbrev pub on_contending : List Rung → ℕ → Bool
on_contending rungs i = contends (rung_at rungs i)

-- How many of the first n places are urgent, and how many contend.
abbrev pub urgent_to : ℕ → List Rung → ℕ
urgent_to n rungs = count n (on_urgent rungs)

abbrev pub contending_to : ℕ → List Rung → ℕ
contending_to n rungs = count n (on_contending rungs)

-- Does place j go before place i?
abbrev pub goes_before : List ℕ → List ℕ → ℕ → ℕ → ℕ → Bool
goes_before es ps t j i = goes_first (compare t (at es j) (at ps j) (at es i) (at ps i)) (ltb j i)

-- How many of the first n places contend and go before place i.
abbrev pub rank_to : ℕ → List ℕ → List ℕ → List Rung → ℕ → ℕ → ℕ
rank_to n es ps rungs t i = count n (λ j. on_contending rungs j && goes_before es ps t j i)

unfoldable pub chosen_by : (units : ℕ) → List ℕ → List ℕ → List Rung → ℕ → ℕ → Bool
chosen_by units es ps rungs t i =
    on_urgent rungs i
    || (on_contending rungs i && ltb (urgent_to (length es) rungs + rank_to (length es) es ps rungs t i) units)

-- What the choice may rely on: lists of one length, at most 65 places, each a task's or a spare's, and a time of the calendar.
pub record Choosing (es ps : List ℕ) (rungs : List Rung) (t : ℕ) : Type 0 where
  pub same_length : length ps ≡ length es
  pub few : length es ≤ 65
  pub rung_each : length es ≤ length rungs
  pub bounded : (i : ℕ) → i < length es → bounded_by multiple_most (at es i) (at ps i) ≡ true
  pub on_calendar : t ≤ time_most

-- What is known of the cut between the contenders that have room and those that have none: a place on either side of it, if one was met.
pub record Cut (es ps : List ℕ) (rungs : List Rung) (t room : ℕ) (inside outside : Option ℕ) : Type 0 where
  pub has_room : (i : ℕ) → inside ≡ Some i → (i < length es) × (rank_to (length es) es ps rungs t i < room)
  pub no_room : (i : ℕ) → outside ≡ Some i → (i < length es) × (room ≤ rank_to (length es) es ps rungs t i)

-- Refusal 9 read off the rungs, and what a slot does that it does not refuse.
unfoldable pub stuck_by : (units : ℕ) → ℕ → List Rung → Bool
stuck_by units n rungs = ltb units (urgent_to n rungs) || ltb (urgent_to n rungs + contending_to n rungs) units

unfoldable pub dealt_or_stuck : Bool → (units : ℕ) → List ℕ → List ℕ → List Rung → List ℕ → List ℕ → ℕ → SlotAfter
dealt_or_stuck true units es ps rungs ks bytes t = record { answer = Err Stuck; counts = ks; bytes = bytes }
dealt_or_stuck false units es ps rungs ks bytes t =
    record {
      answer = Ok tt;
      counts = each (length ks) (λ i. at ks i + bit (chosen_by units es ps rungs t i));
      bytes = each (length ks) (λ i. bit (chosen_by units es ps rungs t i));
    }

unfoldable pub dealt_rungs : (units : ℕ) → List ℕ → List ℕ → List Rung → List ℕ → List ℕ → ℕ → SlotAfter
dealt_rungs units es ps rungs ks bytes t = dealt_or_stuck (stuck_by units (length es) rungs) units es ps rungs ks bytes t
