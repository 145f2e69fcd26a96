-- A mark by rung is the mark by standing: who is tnegru is ahead, who is urgent is behind, and the rungs between them are the three
-- standings. Assumes nothing.
use Rattle.std.specs.Prelude.{None, Option, Some}
use mathlib.Core.Path.{◌≡◌, refl, ap, ◌∙◌}
use mathlib.Core.Bool.{Bool, true, false, cond, not, ◌&&◌}
use mathlib.Core.List.{List}
use Prim.Native.Nat.{ℕ, ◌<◌}
use native.Mathlib.Omega.{arith}
use borrow.Author.Tests.{lt-ltb}
use lib.ListN.{length}
use Rattle.rule.specs.declared.Weight.{Weight}
use Rattle.rule.specs.declared.Standing.{Standing}
use Rattle.rule.specs.declared.Standing.TheVariants.{Ahead, Punctual, Behind}
use Rattle.rule.specs.Answers.{mark}
use Rattle.rule.specs.Outcomes.{mark_at}
use Rattle.rule.specs.Places.{each}
use Rattle.rule.specs.Sets.{units_in_use, spare, task_at, field_with, field}
use Rattle.rule.specs.Slot.{is_ahead, is_behind, is_plus, is_minus, tnegru, urgent}
use Rattle.rule.specs.Task.{Entry, symbol, standing}
use Rattle.rule.proofs.Placed.{task_place}
use Rattle.rule.proofs.Places.{each_ext}
use Rattle.rule.proofs.Sets.{AcceptedSet}
use Rattle.field.proofs.OfSet.{laid_requirements, laid_periods, size_fits}
use Rattle.standing.specs.declared.Rung.{Rung}
use Rattle.standing.specs.declared.Rung.TheVariants.{Tnegru, Urgent}
use Rattle.standing.specs.Judged.{between, rung, rung_at, rungs_of}
use Rattle.standing.proofs.OfSet.{length_laid, laid_entry_lem}
use Rattle.standing.proofs.Told.{at_rungs}
use Rattle.listing.specs.Marks.{mark_by, marks_by}

mark_of_rung : (t : ℕ) (x : Entry) → mark_by (rung t x) ≡ mark (standing t x)
unfolding rung mark tnegru urgent
mark_of_rung t x = go (standing t x) (not (is_plus (symbol x.e x.p t))) (not (is_minus (symbol x.e x.p t)))
  where
    go : (s : Standing) (a b : Bool) → mark_by (cond (is_ahead s && a) Tnegru (cond (is_behind s && b) Urgent (between s))) ≡ mark s
    go Ahead true b = refl
    go Ahead false b = refl
    go Punctual a b = refl
    go Behind a true = refl
    go Behind a false = refl

-- A place below n of a set's field has the task of the lent lists.
task_entry : (es ps ks : List ℕ) (t i : ℕ) → i < length es → (field es ps ks t).entry i ≡ task_at es ps ks i
unfolding field field_with
task_entry es ps ks t i l = go (spare es ps)
  where
    go : (s : Option Weight) → (field_with (units_in_use es ps) s es ps ks t).entry i ≡ task_at es ps ks i
    go None = refl
    go (Some w) = rw (lt-ltb i (length es) l)

-- The marks that are read off the rungs of an accepted set's field are the listing's.
pub marks_of_set : (es ps : List ℕ) (m : ℕ) → AcceptedSet es ps m → (ks : List ℕ) → length ks ≡ length es → (t : ℕ)
    → marks_by (length es) (rungs_of (units_in_use es ps) (laid_requirements es ps) (laid_periods es ps) ks t) ≡ each (length es) (mark_at es ps ks t)
unfolding marks_by mark_at
marks_of_set es ps m A ks same t = each_ext (length es) _ (mark_at es ps ks t) here
  where
    rungs : List Rung
    rungs = rungs_of (units_in_use es ps) (laid_requirements es ps) (laid_periods es ps) ks t

    here : (i : ℕ) → i < length es → mark_by (rung_at rungs i) ≡ mark (standing t (task_at es ps ks i))
    here i l =
        let place = task_place es ps i l in
        let sized = length_laid es ps in
        let fits = size_fits es ps A.same_length A.tasks_le in
        let told = at_rungs (units_in_use es ps) (laid_requirements es ps) (laid_periods es ps) ks t (omega arith) i (omega arith) in
        ap mark_by (told ∙ ap (rung t) (laid_entry_lem es ps ks same t i place ∙ task_entry es ps ks t i l)) ∙ mark_of_rung t (task_at es ps ks i)
