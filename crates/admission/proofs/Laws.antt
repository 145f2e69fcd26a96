-- Admission step by step: where the lengths agree the checks of the set decide, a check of a limit holds just outside it, and what
-- passes the first four checks is judged by the last two.
use Rattle.std.specs.Prelude.{Err, Ok, Some, None, position, zip}
use mathlib.Core.Bool.{Bool, true, false, not, ◌&&◌, ◌||◌}
use mathlib.Core.List.{List, [], ◌∷◌}
use mathlib.Core.Logic.{◌⊎◌, inl, inr}
use mathlib.Core.Path.{◌≡◌, refl, sym, ap, ◌∙◌}
use Prim.Native.Nat.{ℕ, ◌*◌, ◌/◌, ◌-◌, ◌≤◌, ◌<◌}
use denote.Ref.{Bor}
use Rattle.std.proofs.iter.Yields.{fronts}
use Rattle.std.proofs.lemmas.Iterator.{zips}
use Rattle.std.proofs.lemmas.Slice.Zip.{zip_turn}
use Rattle.std.specs.declared.iter.Zip.{Zip}
use Rattle.std.specs.declared.slice.Iter.{Iter}
use Rattle.std.specs.Iterator.{Yields}
use Rattle.std.specs.Iterator.Adapters.{zip_first, zip_second}
use Rattle.std.specs.Slice.Iter.{iter_rest}
use native.Mathlib.Omega.{arith}
use borrow.Author.Tests.{eqb-true, eq-eqb, ne_eqb, le-leb, lt-leb, lt-ltb, le-ltb}
use lib.Dec.{eqb, leb, ltb}
use lib.ListN.{length}
use Rattle.numbers.specs.Multiple.{lcm_all, within as limited}
use Rattle.std.specs.Prelude.{Option, Some, None}
use Rattle.std.proofs.lemmas.Bool.Decides.{nat_tests}
use Rattle.rule.specs.declared.Accepted.{Accepted}
use Rattle.rule.specs.declared.Refusal.{Refusal}
use Rattle.rule.specs.declared.Refusal.TheVariants.{Multiple as too_large, Load}
use Rattle.rule.specs.Limits.{within, bounded_by, tasks_most, units_most, period_most, multiple_most}
use Rattle.rule.specs.Places.{at}
use Rattle.rule.specs.Sets.{units_in_use, room, spare, multiple, load}
use Rattle.rule.specs.Refusals.{Check, Verdict, passed, refused, first, differ, lengths, tasks, units, records, multiples, loads, invalid_place, set_checks, admission_checks}
use Rattle.rule.specs.Outcomes.{acceptance, admission_by, admission}
use Rattle.rule.proofs.Searches.{found_some, found_none, lowest_zip}
use Rattle.rule.proofs.Sets.{invalid_place_le, ValidSet, period_pos, share_lt}
use Rattle.rule.proofs.Refusals.{Given, this, next, NoneHolds, none, and, given_first, none_first, first_none, first_append}
use Rattle.admission.specs.Parts.{spare_of, acceptance_of}

-- ---- single checks

pub inside : (least most x : ℕ) → least ≤ x → x ≤ most → not (within least most x) ≡ false
inside least most x l h = simp (le-leb least x l, le-leb x most h)

pub outside : (least most x : ℕ) → (x < least) ⊎ (most < x) → not (within least most x) ≡ true
outside least most x (inl l) = simp (lt-leb least x l)
outside least most x (inr h) = go (leb least x)
  where
    go : (b : Bool) → not (b && leb x most) ≡ true
    go true = simp (lt-leb x most h)
    go false = refl

pub same_lengths : (n l : ℕ) → l ≡ n → differ n (l ∷ []) ≡ false
unfolding differ
same_lengths n l e = simp (eq-eqb l n e)

pub other_lengths : (n l : ℕ) → (l ≡ n → ⊥) → differ n (l ∷ []) ≡ true
unfolding differ
other_lengths n l e = simp (ne_eqb l n e)

-- The first record that the search finds outside the limits is that of refusal 4, and where it finds none there is none.
pub invalid_some : (es ps : List ℕ) → length ps ≡ length es → (i : ℕ)
    → position (λ r. not (bounded_by period_most r.0 r.1)) (zip es ps) ≡ Some i → (invalid_place es ps < length es) × (i ≡ invalid_place es ps)
unfolding invalid_place
invalid_some es ps same i q =
    found_some _ _ i (sym q ∙ lowest_zip es ps (λ e p. not (bounded_by period_most e p)) same)

pub invalid_never : (es ps : List ℕ) → length ps ≡ length es
    → position (λ r. not (bounded_by period_most r.0 r.1)) (zip es ps) ≡ None → invalid_place es ps ≡ length es
unfolding invalid_place
invalid_never es ps same q =
    let all = found_none _ _ (sym q ∙ lowest_zip es ps (λ e p. not (bounded_by period_most e p)) same) in
    omega (arith, all, invalid_place_le es ps)

pub lengths_tell : (n l : ℕ) → differ n (l ∷ []) ≡ false → l ≡ n
unfolding differ
lengths_tell n l h = go (eqb l n) refl h
  where
    go : (test : Bool) → eqb l n ≡ test → not test || false ≡ false → l ≡ n
    go true e q = eqb-true l n e
    go false e q = absurd (let z : ◌≡◌ {A = ℕ} 0 1 = cc in omega arith)

-- ---- the answer

module _ (es ps : List ℕ) where
  pub refused_by : {cs : List Check} {r : Refusal} → Given cs r → admission_by (first cs) es ps ≡ Err r
  unfolding admission_by
  refused_by g = ap (λ v. admission_by v es ps) (given_first g)

  pub accepted_by : {cs : List Check} → NoneHolds cs → admission_by (first cs) es ps ≡ Ok (acceptance es ps)
  unfolding admission_by
  accepted_by n = ap (λ v. admission_by v es ps) (none_first n)

  pub acceptance_is : acceptance es ps ≡ acceptance_of (load es ps) (multiple ps)
  unfolding acceptance acceptance_of spare_of units_in_use room spare
  acceptance_is = refl

-- ---- refusals 5 and 6

-- The answer of `least_multiple` under the limit of L tells L itself, or that refusal 5 is given.
module _ (ps : List ℕ) (answer : Option ℕ) (is : answer ≡ limited multiple_most (lcm_all ps)) where
  pub multiple_told : (l : ℕ) → answer ≡ Some l → (l ≡ multiple ps) × (l ≤ multiple_most)
  unfolding multiple
  multiple_told l told = grind (arith, nat_tests)

  pub none_told : answer ≡ None → multiple_most < multiple ps
  unfolding multiple
  none_told told = grind (arith, nat_tests)

module _ (es ps : List ℕ) (m : ℕ) where
  pub multiple_refused : multiple_most < multiple ps → Err too_large ≡ admission_by (first (multiples ps ∷ loads es ps m ∷ [])) es ps
  multiple_refused above = sym (refused_by es ps (this (lt-ltb multiple_most (multiple ps) above)))

  module _ (l k : ℕ) (l-is : l ≡ multiple ps) (k-is : k ≡ load es ps) (limit : l ≤ multiple_most) where
    within_limit : ltb multiple_most (multiple ps) ≡ false
    within_limit = le-ltb multiple_most (multiple ps) (omega arith)

    pub load_refused : m * l < k → Err (Load (k - m * l)) ≡ admission_by (first (multiples ps ∷ loads es ps m ∷ [])) es ps
    load_refused above =
        rw (l-is, k-is)
        (sym (refused_by es ps (next within_limit (this (lt-ltb (m * multiple ps) (load es ps) (rw (l-is, k-is) at above))))))

    pub set_accepted : k ≤ m * l → Ok (acceptance_of k l) ≡ admission_by (first (multiples ps ∷ loads es ps m ∷ [])) es ps
    set_accepted enough =
        rw (l-is, k-is, ← acceptance_is es ps)
        (sym (accepted_by es ps (and within_limit (and (le-ltb (m * multiple ps) (load es ps) (rw (l-is, k-is) at enough)) none))))

-- ---- from the whole list of checks

module _ (es ps : List ℕ) (m : ℕ) (same : length ps ≡ length es) where
  pub admission_when_same_length : admission es ps m ≡ admission_by (first (set_checks es ps m)) es ps
  unfolding admission admission_checks
  admission_when_same_length =
      ap (λ v. admission_by v es ps)
      (first_append (lengths (length es) (length ps ∷ []) ∷ []) (set_checks es ps m)
      (none_first (and (same_lengths (length es) (length ps) same) none)))

  pub admission_when_valid : 1 ≤ length es → length es ≤ tasks_most → 1 ≤ m → m ≤ units_most
      → length es ≤ invalid_place es ps
      → admission es ps m ≡ admission_by (first (multiples ps ∷ loads es ps m ∷ [])) es ps
  unfolding admission admission_checks set_checks
  admission_when_valid some few least most all =
      ap (λ v. admission_by v es ps)
      (first_append (lengths (length es) (length ps ∷ []) ∷ tasks (length es) ∷ units m ∷ records es ps ∷ [])
      (multiples ps ∷ loads es ps m ∷ [])
      (none_first
      (and (same_lengths (length es) (length ps) same)
      (and (inside 1 tasks_most (length es) some few)
      (and (inside 1 units_most m least most) (and (le-ltb (invalid_place es ps) (length es) all) none))))))

-- ---- what an answer tells

module _ (es ps : List ℕ) (m : ℕ) where
  pub accepted_tells : (a : Accepted) → admission es ps m ≡ Ok a
      → (length ps ≡ length es) × (first (set_checks es ps m) ≡ passed) × (a ≡ acceptance es ps)
  unfolding admission admission_by admission_checks
  accepted_tells a is = go (first (admission_checks es ps m)) refl is
    where
      checked : NoneHolds (admission_checks es ps m) → (length ps ≡ length es) × (first (set_checks es ps m) ≡ passed)
      checked (and h rest) = (lengths_tell (length es) (length ps) h, none_first rest)

      go : (v : Verdict) → first (admission_checks es ps m) ≡ v → admission_by v es ps ≡ Ok a
          → (length ps ≡ length es) × (first (set_checks es ps m) ≡ passed) × (a ≡ acceptance es ps)
      go passed v-is q =
          let both = checked (first_none (admission_checks es ps m) v-is) in
          (both.0, both.1, cc)
      go (refused r) v-is q = absurd (let z : ◌≡◌ {A = ℕ} 0 1 = cc in omega arith)

  pub refused_tells : length ps ≡ length es → (r : Refusal) → admission es ps m ≡ Err r → first (set_checks es ps m) ≡ refused r
  unfolding admission_by
  refused_tells same r is = go (first (set_checks es ps m)) (sym (admission_when_same_length es ps m same) ∙ is)
    where
      go : (v : Verdict) → admission_by v es ps ≡ Err r → v ≡ refused r
      go passed q = absurd (let z : ◌≡◌ {A = ℕ} 0 1 = cc in omega arith)
      go (refused r') q = cc

-- ---- the load

-- What a turn over the requirements and the periods adds: the share of the record at the turn's place, which is below L.
pub share_of_turn : (es ps : List ℕ) (set : ValidSet es ps) (xs : List (Bor ℕ × Bor ℕ)) (s t u : Zip (Iter ℕ) (Iter ℕ)) {r : Option (Bor ℕ × Bor ℕ)} {e p : Bor ℕ}
    → iter_rest (zip_first s) ≡ es → iter_rest (zip_second s) ≡ ps → Yields (zips fronts fronts) s xs t → r ≡ Some (e, p) → zips fronts fronts t r u
    → let share = e.now * multiple ps / p.now in
    record {
      here : length xs < length es;
      period : 0 < p.now;
      small : share < multiple ps;
      placed : share ≡ at es (length xs) * multiple ps / at ps (length xs);
    }
share_of_turn es ps set xs s t u {r} {e} {p} these those so_far is steps =
    let turn = zip_turn es ps xs s t u r these those so_far (e, p) is steps in
    record {
      here = turn.0;
      period = rw (turn.3 0) (period_pos es ps set (length xs) turn.0);
      small = rw (turn.2 0, turn.3 0) (share_lt es ps set (length xs) turn.0);
      placed = rw (turn.2 0, turn.3 0);
    }
