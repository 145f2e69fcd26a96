-- The answer of a judge, check by check: a refusal is given where its condition holds and the conditions before it do not.
use mathlib.Core.Bool.{Bool, true, false, not, ◌||◌}
use mathlib.Core.List.{List}
use mathlib.Core.Logic.{◌⊎◌, inl, inr}
use mathlib.Core.Path.{◌≡◌, refl, sym, ap, ◌∙◌}
use Prim.Native.Nat.{ℕ, suc, ◌≤◌, ◌<◌}
use native.Mathlib.Omega.{arith}
use lib.Dec.{eqb}
use lib.ListN.{length}
use borrow.Author.Tests.{lt-ltb, le-ltb, le-leb, lt-leb, eqb-true, not-false}
use Rattle.std.specs.Prelude.{Ok, Err, Some, None, position, zip}
use Rattle.rule.specs.declared.Refusal.{Refusal}
use Rattle.rule.specs.declared.Refusal.TheVariants.{Lengths, Tasks, Units, Record, Time, Lag}
use Rattle.rule.specs.Limits.{tasks_most, units_most, multiple_most, time_most, within, bounded_by}
use Rattle.rule.specs.Places.{at, found}
use Rattle.rule.specs.Task.{fair}
use Rattle.rule.proofs.Places.{lowest_first}
use Rattle.rule.proofs.Refusals.{Given, this, next, none, and, given_first, none_first}
use Rattle.rule.proofs.Tests.{both_true}
use Rattle.standing.specs.Judged.{rungs_of, judged_by, judged}
use Rattle.standing.specs.Laid.{is_laid_out, laid_entry, laid_unfair, laid_unfair_place, laid_checks, wild_place}
use Rattle.rule.proofs.Searches.{lowest_zip, found_some, found_none}
use Rattle.standing.specs.Sound.{Sound}

-- ---- single checks

tasks_inside : (n : ℕ) → 1 ≤ n → n ≤ tasks_most → not (within 1 tasks_most n) ≡ false
tasks_inside n l h = rw (le-leb 1 n l, le-leb n tasks_most h)

tasks_outside : (n : ℕ) → (n ≡ 0) ⊎ (tasks_most < n) → not (within 1 tasks_most n) ≡ true
tasks_outside n (inl z) = rw z
tasks_outside n (inr h) = rw (le-leb 1 n (omega arith), lt-leb n tasks_most h)

-- What the lengths of a field's lists are.
pub laid_lengths : (es ps ks : List ℕ) → is_laid_out es ps ks ≡ true → (length ps ≡ length es) × (length ks ≤ length es) × (length es ≤ suc (length ks))
unfolding is_laid_out
laid_lengths es ps ks h =
    let b = both_true (eqb (length ps) (length es)) (eqb (length es) (length ks) || eqb (length es) (suc (length ks))) h in
    let s = size (eqb (length es) (length ks)) refl b.1 in
    (eqb-true (length ps) (length es) b.0, s.0, s.1)
  where
    size : (test : Bool) → eqb (length es) (length ks) ≡ test → test || eqb (length es) (suc (length ks)) ≡ true
        → (length ks ≤ length es) × (length es ≤ suc (length ks))
    size true q o = let e = eqb-true (length es) (length ks) q in (omega arith, omega arith)
    size false q o = let e = eqb-true (length es) (suc (length ks)) o in (omega arith, omega arith)

-- ---- the checks in their order

module _ (units : ℕ) (es ps ks : List ℕ) (t : ℕ) where
  refused_by : {r : Refusal} → Given (laid_checks units es ps ks t) r → Err r ≡ judged units es ps ks t
  unfolding judged judged_by
  refused_by g = sym (ap (λ v. judged_by v units es ps ks t) (given_first g))

  pub lengths_refused : is_laid_out es ps ks ≡ false → Err Lengths ≡ judged units es ps ks t
  unfolding laid_checks
  lengths_refused other = refused_by (this (rw other))

  module _ (laid : is_laid_out es ps ks ≡ true) where
    pub tasks_refused : (length ks ≡ 0) ⊎ (tasks_most < length ks) → Err Tasks ≡ judged units es ps ks t
    unfolding laid_checks
    tasks_refused beyond = refused_by (next (rw laid) (this (tasks_outside (length ks) beyond)))

    module _ (some : 1 ≤ length ks) (few : length ks ≤ tasks_most) where
      pub units_refused : units_most < units → Err Units ≡ judged units es ps ks t
      unfolding laid_checks
      units_refused above = refused_by (next (rw laid) (next (tasks_inside (length ks) some few) (this (lt-ltb units_most units above))))

      module _ (low : units ≤ units_most) where
        searched : position (λ r. not (bounded_by multiple_most r.0 r.1)) (zip es ps) ≡ found (length es) (wild_place es ps)
        unfolding wild_place
        searched = lowest_zip es ps (λ e p. not (bounded_by multiple_most e p)) (laid_lengths es ps ks laid).0

        pub wild_found : (i : ℕ) → Some i ≡ position (λ r. not (bounded_by multiple_most r.0 r.1)) (zip es ps) → (wild_place es ps < length es) × (i ≡ wild_place es ps)
        wild_found i q = found_some (length es) (wild_place es ps) i (q ∙ searched)

        pub wild_never : None ≡ position (λ r. not (bounded_by multiple_most r.0 r.1)) (zip es ps) → length es ≤ wild_place es ps
        wild_never q = found_none (length es) (wild_place es ps) (q ∙ searched)

        pub record_refused : (i : ℕ) → Some i ≡ position (λ r. not (bounded_by multiple_most r.0 r.1)) (zip es ps) → Err (Record i) ≡ judged units es ps ks t
        unfolding laid_checks
        record_refused i q =
            let wild = wild_found i q in
            ap (λ place. Err (Record place)) wild.1
            ∙ refused_by
            (next (rw laid)
            (next (tasks_inside (length ks) some few)
            (next (le-ltb units_most units low) (this (lt-ltb (wild_place es ps) (length es) wild.0)))))

        module _ (tame : length es ≤ wild_place es ps) where
          pub time_refused : time_most < t → Err Time ≡ judged units es ps ks t
          unfolding laid_checks
          time_refused late =
              refused_by
              (next (rw laid)
              (next (tasks_inside (length ks) some few)
              (next (le-ltb units_most units low)
              (next (le-ltb (wild_place es ps) (length es) tame) (this (lt-ltb time_most t late))))))

          module _ (early : t ≤ time_most) where
            pub lag_refused : (i : ℕ) → Some i ≡ found (suc (length ks)) (laid_unfair_place units es ps ks t) → Err (Lag i) ≡ judged units es ps ks t
            unfolding laid_checks
            lag_refused i q =
                let unfair = found_some (suc (length ks)) (laid_unfair_place units es ps ks t) i q in
                ap (λ place. Err (Lag place)) unfair.1
                ∙ refused_by
                (next (rw laid)
                (next (tasks_inside (length ks) some few)
                (next (le-ltb units_most units low)
                (next (le-ltb (wild_place es ps) (length es) tame)
                (next (le-ltb time_most t early)
                (this (le-leb (laid_unfair_place units es ps ks t) (length ks) (omega arith))))))))

            pub all_judged : None ≡ found (suc (length ks)) (laid_unfair_place units es ps ks t) → Ok (rungs_of units es ps ks t) ≡ judged units es ps ks t
            unfolding judged judged_by laid_checks
            all_judged q =
                let fair = found_none (suc (length ks)) (laid_unfair_place units es ps ks t) q in
                sym
                (ap (λ v. judged_by v units es ps ks t)
                (none_first
                (and (rw laid)
                (and (tasks_inside (length ks) some few)
                (and (le-ltb units_most units low)
                (and (le-ltb (wild_place es ps) (length es) tame)
                (and (le-ltb time_most t early)
                (and (lt-leb (laid_unfair_place units es ps ks t) (length ks) (omega arith)) none))))))))

  -- ---- what the parts rely on

  pub sound_lists : is_laid_out es ps ks ≡ true → length ks ≤ tasks_most → length es ≤ wild_place es ps → t ≤ time_most → Sound es ps ks t
  unfolding wild_place
  sound_lists laid few tame early =
      let l = laid_lengths es ps ks laid in
      record {
        same = l.0;
        least = l.1;
        most = l.2;
        few = few;
        bounded = λ i h. not-false _ (lowest_first (length es) (λ j. not (bounded_by multiple_most (at es j) (at ps j))) i (omega arith));
        early = early;
      }

  pub all_fair : length es ≤ suc (length ks) → length ks < laid_unfair_place units es ps ks t
      → (i : ℕ) → i < length es → fair t (laid_entry units es ps ks t i) ≡ true
  unfolding laid_unfair_place laid_unfair
  all_fair most late i h =
      let unfair = lowest_first (suc (length ks)) (laid_unfair units es ps ks t) i (omega arith) in
      not-false _ (rw (lt-ltb i (length es) h) at unfair)
