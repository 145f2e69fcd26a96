-- An accepted set on its way from time 0: it is fair at every time of the calendar, each slot within the calendar is done, and the
-- slot's line is the right one. Assumes nothing.
use Rattle.std.specs.Prelude.{Ok}
use mathlib.Core.Path.{◌≡◌, refl, sym, ap, ◌∙◌, subst}
use mathlib.Core.Logic.{◌⊎◌, inl, inr, ⊎_elim, ◌↔◌}
use mathlib.Core.Bool.{Bool, true}
use mathlib.Core.List.{List}
use Prim.Native.Nat.{ℕ, suc, ◌≤◌, ◌<◌}
use native.Mathlib.Omega.{arith}
use borrow.Author.Tests.{lt-ltb}
use lib.ListN.{length}
use Rattle.rule.specs.Limits.{time_most}
use Rattle.rule.specs.Places.{at}
use Rattle.rule.specs.Sets.{units_in_use, field}
use Rattle.rule.specs.Outcomes.{acceptance, admission, runs_at, bytes_after, slot}
use Rattle.rule.proofs.Choice.{IsChoice}
use Rattle.rule.proofs.Placed.{field_size, field_entry_free, task_place, requirement_task, period_task}
use Rattle.rule.proofs.Places.{length_each}
use Rattle.rule.proofs.Slots.{done_slot}
use Rattle.writing.specs.AnswerLines.{places_from, slot_line}
use Rattle.fair.specs.Share.{share_down, share_up}
use Rattle.fair.proofs.NeverStuck.{FairAt}
use Rattle.fair.specs.FromStart.{zeros, stepped}
use Rattle.fair.proofs.NeverStuck.{never_refused, stepped_fair}
use Rattle.fair.proofs.OneChoice.{outcome_is_choice, same_choice}
use Rattle.nights.specs.Sessions.{FairSet}
use Rattle.nights.specs.SlotLines.{SlotLine, written, Listed, RightLine}
use Rattle.nights.proofs.Listed.{places_rise, places_count, listed_tested}

-- A task has had its share where the field's entry has.
task_share : (es ps ks : List ℕ) (m t : ℕ) → FairAt es ps m t ks → (i : ℕ) → i < length es
    → (at ks i ≡ share_down (at es i) (at ps i) t) ⊎ (at ks i ≡ share_up (at es i) (at ps i) t)
task_share es ps ks m t F i l =
    let place = task_place es ps i l in
    let inside : i < (field es ps ks t).size = subst (λ n. i < n) (sym (field_size es ps ks t)) place in
    let here = rw (field_entry_free es ps ks t i place, requirement_task es ps i l, period_task es ps i l, lt-ltb i (length es) l) at (F.shares i inside) in
    ⊎_elim (λ q. inl (cc)) (λ q. inr (cc)) here

module _ (es ps : List ℕ) (m : ℕ) (q : admission es ps m ≡ Ok (acceptance es ps)) where
  pub fair_set : (t : ℕ) → t ≤ suc time_most → FairSet m es ps (stepped es ps m t) t
  fair_set t h =
      let F = stepped_fair es ps m (acceptance es ps) q t h in
      record { admitted = q; calendar = h; counts = refl; shares = task_share es ps (stepped es ps m t) m t F; fair = F }

  module _ (t : ℕ) (h : t ≤ time_most) where
    abbrev ks : List ℕ
    ks = stepped es ps m t

    done : (bytes : List ℕ) → length bytes ≡ length es → (slot es ps ks bytes m t).answer ≡ Ok tt
    done bytes b = never_refused es ps m (acceptance es ps) q t bytes b h

    -- The slot is done, with the counts of the next time.
    pub slot_stepped : (bytes : List ℕ) → length bytes ≡ length es
        → slot es ps ks bytes m t ≡ record { answer = Ok tt; counts = stepped es ps m (suc t); bytes = bytes_after es ps ks t }
    unfolding stepped
    slot_stepped bytes b =
        done_slot es ps ks bytes m t (done bytes b)
        ∙ ap (λ cs. record { answer = Ok tt; counts = cs; bytes = bytes_after es ps ks t })
        (sym (ap (λ r. r.counts) (done_slot es ps ks (zeros es) m t (done (zeros es) (length_each (length es) (λ i. 0))))))

    abbrev pub line : SlotLine
    line = record { time = t; places = places_from 0 (bytes_after es ps ks t) }

    pub line_written : written line ≡ slot_line t (bytes_after es ps ks t)
    unfolding written slot_line
    line_written = refl

    listed_chosen : (ch : ℕ → Bool) → IsChoice (units_in_use es ps) t (field es ps ks t) ch
        → (i : ℕ) → Listed i line.places ↔ ((i < length es) × (ch i ≡ true))
    unfolding bytes_after runs_at
    listed_chosen ch C i =
        let b = listed_tested (length es) (runs_at es ps ks t) i in
        (λ l. let r = b.0 l in (r.0, same r.0 ∙ r.1), λ (l, c). b.1 (l, sym (same l) ∙ c))
      where
        same : i < length es → ch i ≡ runs_at es ps ks t i
        same l =
            same_choice es ps ks (zeros es) m t (done (zeros es) (length_each (length es) (λ i. 0))) ch C i
            (subst (λ n. i < n) (sym (field_size es ps ks t)) (task_place es ps i l))

    pub right_line : RightLine m es ps ks t line
    unfolding bytes_after
    right_line =
        let F = fair_set t (omega arith) in
        record {
          fair = F;
          time = refl;
          early = h;
          rising = places_rise 0 (bytes_after es ps ks t);
          few = omega (arith, places_count (length es) 0 (runs_at es ps ks t), F.fair.few_run);
          units = F.fair.units_enough;
          choice = outcome_is_choice es ps ks (zeros es) m t (done (zeros es) (length_each (length es) (λ i. 0)));
          right = listed_chosen;
        }
