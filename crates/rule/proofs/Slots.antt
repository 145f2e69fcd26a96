-- A slot by its answer: a done one passed every check, wrote n bytes and handed n counts back; a refused one changed nothing. Assumes
-- nothing.
use Rattle.std.specs.Prelude.{Err, Ok}
use mathlib.Core.Path.{◌≡◌, refl, ap, ◌∙◌}
use mathlib.Core.List.{List}
use Prim.Native.Nat.{ℕ, ◌+◌, ◌≤◌}
use native.Mathlib.Omega.{arith}
use borrow.Author.Tests.{ltb-false}
use lib.ListN.{length}
use Rattle.rule.specs.declared.Refusal.{Refusal}
use Rattle.rule.specs.Limits.{time_most}
use Rattle.rule.specs.Places.{at, bit}
use Rattle.rule.specs.Refusals.{Verdict, passed, refused, first, set_checks, slot_checks}
use Rattle.rule.specs.Outcomes.{slot_by, slot, runs_at, counts_after, bytes_after}
use Rattle.rule.proofs.Places.{length_each}
use Rattle.rule.proofs.Refusals.{NoneHolds, none, and, given_first, first_none, slot_refusal}

verdict_passed : (es ps ks bytes : List ℕ) (t : ℕ) (v : Verdict) → (slot_by v es ps ks bytes t).answer ≡ Ok tt → v ≡ passed
unfolding slot_by
verdict_passed es ps ks bytes t passed q = refl
verdict_passed es ps ks bytes t (refused r) q = absurd (let z : ◌≡◌ {A = ℕ} 0 1 = cc in omega arith)

early : (es ps ks bytes : List ℕ) (m t : ℕ) → NoneHolds (slot_checks es ps ks bytes m t) → t ≤ time_most
unfolding slot_checks set_checks
early es ps ks bytes m t (and l (and n (and u (and r (and x (and o (and c (and g (and s none))))))))) = ltb-false time_most t c

module _ (es ps ks bytes : List ℕ) (m t : ℕ) where
  pub refused_slot : (r : Refusal) → (slot es ps ks bytes m t).answer ≡ Err r
      → slot es ps ks bytes m t ≡ record { answer = Err r; counts = ks; bytes = bytes }
  unfolding slot slot_by
  refused_slot r q = rw (given_first ((slot_refusal es ps ks bytes m t r).0 q))

  module _ (q : (slot es ps ks bytes m t).answer ≡ Ok tt) where
    pub slot_passed : first (slot_checks es ps ks bytes m t) ≡ passed
    unfolding slot
    slot_passed = verdict_passed es ps ks bytes t (first (slot_checks es ps ks bytes m t)) q

    pub done_slot : slot es ps ks bytes m t ≡ record { answer = Ok tt; counts = counts_after es ps ks t; bytes = bytes_after es ps ks t }
    unfolding slot slot_by
    done_slot = rw slot_passed

    pub done_counts : length (slot es ps ks bytes m t).counts ≡ length es
    unfolding counts_after
    done_counts = ap (λ r. length r.counts) done_slot ∙ length_each (length es) (λ i. at ks i + bit (runs_at es ps ks t i))

    pub done_bytes : length (slot es ps ks bytes m t).bytes ≡ length es
    unfolding bytes_after
    done_bytes = ap (λ r. length r.bytes) done_slot ∙ length_each (length es) (λ i. bit (runs_at es ps ks t i))

    pub done_early : t ≤ time_most
    done_early = early es ps ks bytes m t (first_none (slot_checks es ps ks bytes m t) slot_passed)
