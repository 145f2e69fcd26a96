-- One slot of a field that is laid out in lists, M given.
use Rattle.std.specs.Prelude.{Bool, not, ◌||◌, List, [], ◌∷◌, ◌++◌, ℕ, ◌+◌, ltb, eqb, length, Err, Ok}
use Rattle.rule.specs.declared.Refusal.TheVariants.{Lengths, Stuck}
use Rattle.rule.specs.Places.{at, bit, each}
use Rattle.rule.specs.Sets.{Field}
use Rattle.rule.specs.Slot.{urgents, not_tnegrus, chosen}
use Rattle.rule.specs.Refusals.{Check, check, Verdict, passed, refused, first}
use Rattle.rule.specs.Outcomes.{SlotAfter}
use Rattle.standing.specs.Laid.{laid_field, laid_checks}

-- 9: "more than M tasks are urgent, or fewer than M are not tnegru (spare included)"
unfoldable pub stuck : (units : ℕ) → Field → ℕ → Bool
stuck units f t = ltb units (urgents t f) || ltb (not_tnegrus t f) units

unfoldable pub deal_checks : (units : ℕ) → List ℕ → List ℕ → List ℕ → List ℕ → ℕ → List Check
deal_checks units es ps ks bytes t =
    check (not (eqb (length bytes) (length ks))) Lengths
    ∷ laid_checks units es ps ks t ++ check (stuck units (laid_field units es ps ks t) t) Stuck ∷ []

-- Who runs of the tasks, in counts and in bytes.
unfoldable pub dealt_counts : (units : ℕ) → List ℕ → List ℕ → List ℕ → ℕ → List ℕ
dealt_counts units es ps ks t = each (length ks) (λ i. at ks i + bit (chosen units t (laid_field units es ps ks t) i))

unfoldable pub dealt_bytes : (units : ℕ) → List ℕ → List ℕ → List ℕ → ℕ → List ℕ
dealt_bytes units es ps ks t = each (length ks) (λ i. bit (chosen units t (laid_field units es ps ks t) i))

unfoldable pub dealt_by : Verdict → (units : ℕ) → List ℕ → List ℕ → List ℕ → List ℕ → ℕ → SlotAfter
dealt_by passed units es ps ks bytes t =
    record { answer = Ok tt; counts = dealt_counts units es ps ks t; bytes = dealt_bytes units es ps ks t }
dealt_by (refused r) units es ps ks bytes t = record { answer = Err r; counts = ks; bytes = bytes }

unfoldable pub dealt : (units : ℕ) → List ℕ → List ℕ → List ℕ → List ℕ → ℕ → SlotAfter
dealt units es ps ks bytes t = dealt_by (first (deal_checks units es ps ks bytes t)) units es ps ks bytes t
