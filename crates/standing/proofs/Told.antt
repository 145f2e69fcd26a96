-- What a judge's answer tells: the first of the laid-out checks that holds, and where none does the rungs of the field, place by place.
-- Assumes nothing.
use mathlib.Core.Path.{◌≡◌, refl, ◌∙◌}
use mathlib.Core.Bool.{cond}
use mathlib.Core.List.{List}
use Prim.Native.Nat.{ℕ, ◌≤◌, ◌<◌}
use native.Mathlib.Omega.{arith}
use borrow.Author.Tests.{lt-ltb}
use lib.Dec.{ltb}
use lib.ListN.{length}
use Rattle.std.specs.Prelude.{Ok, Err}
use Rattle.std.proofs.lemmas.List.FromFn.{length-map-range_with_len, get_or-map-range_with_len}
use Rattle.rule.specs.declared.Refusal.{Refusal}
use Rattle.rule.specs.Refusals.{Verdict, passed, refused, first}
use Rattle.standing.specs.Laid.{laid_entry, laid_checks}
use Rattle.standing.specs.declared.Rung.{Rung}
use Rattle.standing.specs.declared.Rung.TheVariants.{Tnegru}
use Rattle.standing.specs.Judged.{rung, rung_at, rungs_of, judged_by, judged}

module _ (units : ℕ) (es ps ks : List ℕ) (t : ℕ) where
  pub judged_refused : (r : Refusal) → judged units es ps ks t ≡ Err r → first (laid_checks units es ps ks t) ≡ refused r
  unfolding judged judged_by
  judged_refused r q = go (first (laid_checks units es ps ks t)) q
    where
      go : (v : Verdict) → judged_by v units es ps ks t ≡ Err r → v ≡ refused r
      go passed q = cc
      go (refused r') q = cc

  pub judged_passed : (rungs : List Rung) → judged units es ps ks t ≡ Ok rungs
      → (first (laid_checks units es ps ks t) ≡ passed) × (rungs ≡ rungs_of units es ps ks t)
  unfolding judged judged_by
  judged_passed rungs q = go (first (laid_checks units es ps ks t)) q
    where
      go : (v : Verdict) → judged_by v units es ps ks t ≡ Ok rungs → (v ≡ passed) × (rungs ≡ rungs_of units es ps ks t)
      go passed q = (refl, cc)
      go (refused r) q = (cc, cc)

  pub length_rungs : length (rungs_of units es ps ks t) ≡ 65
  unfolding rungs_of
  length_rungs = length-map-range_with_len (λ i. cond (ltb i (length es)) (rung t (laid_entry units es ps ks t i)) Tnegru) 0 65

  pub at_rungs : length es ≤ 65 → (i : ℕ) → i < length es → rung_at (rungs_of units es ps ks t) i ≡ rung t (laid_entry units es ps ks t i)
  unfolding rungs_of
  at_rungs few i l =
      get_or-map-range_with_len (λ i. cond (ltb i (length es)) (rung t (laid_entry units es ps ks t i)) Tnegru) 0 65 i i Tnegru (omega arith) (omega arith)
      ∙ rw (lt-ltb i (length es) l)
