-- Document 01, "Refusals": a check for each line of its table, and the first that holds.
use Rattle.std.specs.Prelude.{Bool, false, not, cond, ◌||◌, List, [], ◌∷◌, ◌++◌, ℕ, suc, ◌*◌, ◌-◌, ltb, leb, eqb, length}
use Rattle.rule.specs.declared.Refusal.{Refusal}
use Rattle.rule.specs.declared.Refusal.TheVariants.{Lengths, Tasks, Units, Record, Multiple, Load, Time, Lag, Stuck, Slots}
use Rattle.rule.specs.Limits.{tasks_most, units_most, multiple_most, time_most, slots_most, within, valid}
use Rattle.rule.specs.Places.{at, sum, lowest}
use Rattle.rule.specs.Task.{fair}
use Rattle.rule.specs.Sets.{multiple, load, units_in_use, field}
use Rattle.rule.specs.Slot.{urgents, not_tnegrus}

-- A line of the table: when it is given, and the refusal with what it carries.
pub record Check : Type 0 where
  pub holds : Bool
  pub gives : Refusal

abbrev pub check : Bool → Refusal → Check
check b r = record { holds = b; gives = r }

pub data Verdict : Type 0 where
  passed : Verdict
  refused : Refusal → Verdict

-- "Checked in this order; the first that holds is given, and none is given unless its condition holds."
unfoldable pub first : List Check → Verdict
first [] = passed
first (c ∷ cs) = let later = first cs in cond c.holds (refused c.gives) later

-- ---- the lines of the table

-- Is one of the lengths other than n?
unfoldable pub differ : ℕ → List ℕ → Bool
differ n [] = false
differ n (l ∷ ls) = not (eqb l n) || differ n ls

-- 1: "lent lists differ in length". The requirements have n, and these are the lengths of the others.
abbrev pub lengths : ℕ → List ℕ → Check
lengths n others = check (differ n others) Lengths

-- 2: "n is 0 or above 64"
abbrev pub tasks : ℕ → Check
tasks n = check (not (within 1 tasks_most n)) Tasks

-- 3: "m is 0 or above 32"
abbrev pub units : ℕ → Check
units m = check (not (within 1 units_most m)) Units

-- 4: "some e or p is outside its limits", with the lowest such place
unfoldable pub invalid_place : List ℕ → List ℕ → ℕ
invalid_place es ps = lowest (length es) (λ i. not (valid (at es i) (at ps i)))

abbrev pub records : List ℕ → List ℕ → Check
records es ps = check (ltb (invalid_place es ps) (length es)) (Record (invalid_place es ps))

-- 5: "L is above 1,048,576"
abbrev pub multiples : List ℕ → Check
multiples ps = check (ltb multiple_most (multiple ps)) Multiple

-- 6: "the load is above m·L", with the excess
abbrev pub loads : List ℕ → List ℕ → ℕ → Check
loads es ps m = check (ltb (m * multiple ps) (load es ps)) (Load (load es ps - m * multiple ps))

-- 7: "t is above 16,777,215"
abbrev pub times : ℕ → Check
times t = check (ltb time_most t) Time

-- 8: "some task, the spare included, has e·t - p·k not strictly between -p and p, or there is no spare and the counts
-- don't add up to M·t", with the lowest such place, "n for the spare or the sum". In a field without a spare place n is
-- past the last.
unfoldable pub unfair_at : List ℕ → List ℕ → List ℕ → ℕ → ℕ → Bool
unfair_at es ps ks t i =
    let f = field es ps ks t in
    cond (ltb i f.size) (not (fair t (f.entry i))) (not (eqb (sum (length ks) (at ks)) (units_in_use es ps * t)))

unfoldable pub unfair_place : List ℕ → List ℕ → List ℕ → ℕ → ℕ
unfair_place es ps ks t = lowest (suc (length es)) (unfair_at es ps ks t)

abbrev pub lags : List ℕ → List ℕ → List ℕ → ℕ → Check
lags es ps ks t = check (leb (unfair_place es ps ks t) (length es)) (Lag (unfair_place es ps ks t))

-- 9: "more than M tasks are urgent, or fewer than M are not tnegru (spare included)"
abbrev pub classes : List ℕ → List ℕ → List ℕ → ℕ → Check
classes es ps ks t =
    let f = field es ps ks t in
    check (ltb (units_in_use es ps) (urgents t f) || ltb (not_tnegrus t f) (units_in_use es ps)) Stuck

-- 10: "a run asks more than 1,024 slots"
abbrev pub slots : ℕ → Check
slots s = check (ltb slots_most s) Slots

-- ---- which entry uses which

-- 2 to 6, what a set is asked
unfoldable pub set_checks : List ℕ → List ℕ → ℕ → List Check
set_checks es ps m = tasks (length es) ∷ units m ∷ records es ps ∷ multiples ps ∷ loads es ps m ∷ []

-- "Admission uses 1 to 6."
unfoldable pub admission_checks : List ℕ → List ℕ → ℕ → List Check
admission_checks es ps m = lengths (length es) (length ps ∷ []) ∷ set_checks es ps m

-- "A slot uses 1 to 9." The bytes that it writes are a lent list too.
unfoldable pub slot_checks : List ℕ → List ℕ → List ℕ → List ℕ → ℕ → ℕ → List Check
slot_checks es ps ks bytes m t =
    lengths (length es) (length ps ∷ length ks ∷ length bytes ∷ [])
    ∷ set_checks es ps m ++ times t ∷ lags es ps ks t ∷ classes es ps ks t ∷ []

-- "The listing uses 1 to 8."
unfoldable pub listing_checks : List ℕ → List ℕ → List ℕ → List ℕ → ℕ → ℕ → List Check
listing_checks es ps ks bytes m t =
    lengths (length es) (length ps ∷ length ks ∷ length bytes ∷ []) ∷ set_checks es ps m ++ times t ∷ lags es ps ks t ∷ []

-- "A run checks 10 first, then 1"; "a run's log must have slots times n bytes". 2 to 9 belong to its slots.
unfoldable pub run_checks : ℕ → List ℕ → List ℕ → List ℕ → List ℕ → List Check
run_checks s es ps ks log =
    slots s ∷ check (differ (length es) (length ps ∷ length ks ∷ []) || not (eqb (length log) (s * length es))) Lengths ∷ []

-- "Comparison takes two (e, p) and a time and uses 4 (place 0 or 1) and 7."
unfoldable pub comparison_checks : ℕ → ℕ → ℕ → ℕ → ℕ → List Check
comparison_checks e p e' p' t = check (not (valid e p)) (Record 0) ∷ check (not (valid e' p')) (Record 1) ∷ times t ∷ []
