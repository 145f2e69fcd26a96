-- Each refusal is given exactly when its condition holds and no earlier one does: the first check that holds is the one
-- whose earlier ones do not. Assumes nothing.
use Rattle.std.specs.Prelude.{Err, Ok, Result}
use mathlib.Core.Path.{◌≡◌, refl, sym, ap, ◌∙◌, subst}
use mathlib.Core.Logic.{◌↔◌}
use mathlib.Core.Bool.{Bool, true, false, cond, not, ◌||◌, true≢false}
use mathlib.Core.List.{List, [], ◌∷◌, ◌++◌, map}
use Prim.Native.Nat.{ℕ}
use native.Mathlib.Omega.{arith}
use borrow.Author.Tests.{eqb-true, ne_eqb}
use lib.Dec.{eqb}
use Rattle.rule.specs.declared.Refusal.{Refusal}
use Rattle.rule.specs.Answers.{number_of}
use Rattle.rule.proofs.Tests.{or_right}
use Rattle.rule.specs.Task.{compare}
use Rattle.rule.specs.Refusals.{Check, Verdict, passed, refused, first, differ, set_checks, admission_checks, slot_checks, listing_checks, run_checks, comparison_checks}
use Rattle.rule.specs.Outcomes.{admission_by, admission, comparison_by, comparison, slot_by, slot, listing_by, listing}

-- The refusal r is given: its check holds, and none before it does.
pub data Given : List Check → Refusal → Type 0 where
  this : {c : Check} {cs : List Check} → c.holds ≡ true → Given (c ∷ cs) c.gives
  next : {c : Check} {cs : List Check} {r : Refusal} → c.holds ≡ false → Given cs r → Given (c ∷ cs) r

-- No check holds.
pub data NoneHolds : List Check → Type 0 where
  none : NoneHolds []
  and : {c : Check} {cs : List Check} → c.holds ≡ false → NoneHolds cs → NoneHolds (c ∷ cs)

-- ---- `first` gives just those

pub given_first : {cs : List Check} {r : Refusal} → Given cs r → first cs ≡ refused r
unfolding first
given_first (this h) = rw h
given_first (next h g) = rw h (given_first g)

pub none_first : {cs : List Check} → NoneHolds cs → first cs ≡ passed
unfolding first
none_first none = refl
none_first (and h n) = rw h (none_first n)

refused_one : {r r' : Refusal} → refused r ≡ refused r' → r ≡ r'
refused_one q = cc

passed≢refused : {r : Refusal} → passed ≡ refused r → ⊥
passed≢refused q = let z : ◌≡◌ {A = ℕ} 0 1 = cc in omega arith

pub first_given : (cs : List Check) (r : Refusal) → first cs ≡ refused r → Given cs r
unfolding first
first_given [] r q = absurd (passed≢refused q)
first_given (c ∷ cs) r q = go c.holds refl q (first_given cs r)
  where
    go : (b : Bool) → c.holds ≡ b → cond b (refused c.gives) (first cs) ≡ refused r → (first cs ≡ refused r → Given cs r) → Given (c ∷ cs) r
    go true h q ih = subst (λ x. Given (c ∷ cs) x) (refused_one q) (this h)
    go false h q ih = next h (ih q)

pub first_none : (cs : List Check) → first cs ≡ passed → NoneHolds cs
unfolding first
first_none [] q = none
first_none (c ∷ cs) q = go c.holds refl q (first_none cs)
  where
    go : (b : Bool) → c.holds ≡ b → cond b (refused c.gives) (first cs) ≡ passed → (first cs ≡ passed → NoneHolds cs) → NoneHolds (c ∷ cs)
    go true h q ih = absurd (passed≢refused (sym q))
    go false h q ih = and h (ih q)

-- The first refusal, or what comes after it.
unfoldable pub or_next : Verdict → Verdict → Verdict
or_next passed later = later
or_next (refused r) later = refused r

pub first_or : (cs ds : List Check) → first (cs ++ ds) ≡ or_next (first cs) (first ds)
unfolding first or_next
first_or [] ds = refl
first_or (c ∷ cs) ds = go c.holds (first_or cs ds)
  where
    go : (b : Bool) → first (cs ++ ds) ≡ or_next (first cs) (first ds)
        → cond b (refused c.gives) (first (cs ++ ds)) ≡ or_next (cond b (refused c.gives) (first cs)) (first ds)
    go true ih = refl
    go false ih = ih

-- What passes the first checks is judged by the rest.
pub first_append : (cs ds : List Check) → first cs ≡ passed → first (cs ++ ds) ≡ first ds
unfolding or_next
first_append cs ds q = first_or cs ds ∙ ap (λ v. or_next v (first ds)) q

-- ---- refusal 1

-- Where no length differs, each is n.
pub same_length : (n l : ℕ) (ls : List ℕ) → differ n (l ∷ ls) ≡ false → (l ≡ n) × (differ n ls ≡ false)
unfolding differ
same_length n l ls h = go (eqb l n) refl h
  where
    go : (b : Bool) → eqb l n ≡ b → (not b || differ n ls) ≡ false → (l ≡ n) × (differ n ls ≡ false)
    go true q h = (eqb-true l n q, h)
    go false q h = absurd (true≢false h)

-- A length that is not n, here or later, is a difference.
pub differ_here : (n l : ℕ) (ls : List ℕ) → (l ≡ n → ⊥) → differ n (l ∷ ls) ≡ true
unfolding differ
differ_here n l ls h = rw (ne_eqb l n h)

pub differ_later : (n l : ℕ) (ls : List ℕ) → differ n ls ≡ true → differ n (l ∷ ls) ≡ true
unfolding differ
differ_later n l ls h = or_right (not (eqb l n)) (differ n ls) h

-- ---- the entries

-- An answer that is made from a verdict refuses by r exactly when r is given.
module _ {A : Type 0} (by : Verdict → A) (refuse : Refusal → A) (refuses : (r : Refusal) → by (refused r) ≡ refuse r)
    (passes : (r : Refusal) → by passed ≡ refuse r → ⊥) (one : (r r' : Refusal) → refuse r ≡ refuse r' → r ≡ r') where
  answered : (v : Verdict) (r : Refusal) → by v ≡ refuse r → v ≡ refused r
  answered passed r q = absurd (passes r q)
  answered (refused r') r q = ap refused (one r' r (sym (refuses r') ∙ q))

  exact : (cs : List Check) (r : Refusal) → (by (first cs) ≡ refuse r) ↔ Given cs r
  exact cs r = (λ q. first_given cs r (answered (first cs) r q), λ g. ap by (given_first g) ∙ refuses r)

pub admission_refusal : (es ps : List ℕ) (m : ℕ) (r : Refusal) → (admission es ps m ≡ Err r) ↔ Given (admission_checks es ps m) r
unfolding admission admission_by
admission_refusal es ps m r =
    exact (λ v. admission_by v es ps) Err (λ r. refl) (λ r q. let z : ◌≡◌ {A = ℕ} 0 1 = cc in omega arith) (λ r r' q. cc)
    (admission_checks es ps m) r

pub comparison_refusal : (e p e' p' t : ℕ) (r : Refusal) → (comparison e p e' p' t ≡ Err r) ↔ Given (comparison_checks e p e' p' t) r
unfolding comparison comparison_by
comparison_refusal e p e' p' t r =
    exact (λ v. comparison_by v (compare t e p e' p')) Err (λ r. refl) (λ r q. let z : ◌≡◌ {A = ℕ} 0 1 = cc in omega arith)
    (λ r r' q. cc) (comparison_checks e p e' p' t) r

not_done : (r : Refusal) → ◌≡◌ {A = Result Unit Refusal} (Ok tt) (Err r) → ⊥
not_done r q = let z : ◌≡◌ {A = ℕ} 0 1 = cc in omega arith

one_refused : (r r' : Refusal) → ◌≡◌ {A = Result Unit Refusal} (Err r) (Err r') → r ≡ r'
one_refused r r' q = cc

pub slot_refusal : (es ps ks bytes : List ℕ) (m t : ℕ) (r : Refusal) → ((slot es ps ks bytes m t).answer ≡ Err r) ↔ Given (slot_checks es ps ks bytes m t) r
unfolding slot slot_by
slot_refusal es ps ks bytes m t r =
    exact (λ v. (slot_by v es ps ks bytes t).answer) Err (λ r. refl) not_done one_refused (slot_checks es ps ks bytes m t) r

pub listing_refusal : (es ps ks bytes : List ℕ) (m t : ℕ) (r : Refusal) → ((listing es ps ks bytes m t).answer ≡ Err r) ↔ Given (listing_checks es ps ks bytes m t) r
unfolding listing listing_by
listing_refusal es ps ks bytes m t r =
    exact (λ v. (listing_by v es ps ks bytes t).answer) Err (λ r. refl) not_done one_refused (listing_checks es ps ks bytes m t) r

-- ---- the order is document 01's

pub slot_numbers : (es ps ks bytes : List ℕ) (m t : ℕ) → map (λ c. number_of c.gives) (slot_checks es ps ks bytes m t) ≡ 1 ∷ 2 ∷ 3 ∷ 4 ∷ 5 ∷ 6 ∷ 7 ∷ 8 ∷ 9 ∷ []
unfolding slot_checks set_checks
slot_numbers es ps ks bytes m t = refl

pub listing_numbers : (es ps ks bytes : List ℕ) (m t : ℕ) → map (λ c. number_of c.gives) (listing_checks es ps ks bytes m t) ≡ 1 ∷ 2 ∷ 3 ∷ 4 ∷ 5 ∷ 6 ∷ 7 ∷ 8 ∷ []
unfolding listing_checks set_checks
listing_numbers es ps ks bytes m t = refl

pub admission_numbers : (es ps : List ℕ) (m : ℕ) → map (λ c. number_of c.gives) (admission_checks es ps m) ≡ 1 ∷ 2 ∷ 3 ∷ 4 ∷ 5 ∷ 6 ∷ []
unfolding admission_checks set_checks
admission_numbers es ps m = refl

pub run_numbers : (s : ℕ) (es ps ks log : List ℕ) → map (λ c. number_of c.gives) (run_checks s es ps ks log) ≡ 10 ∷ 1 ∷ []
unfolding run_checks
run_numbers s es ps ks log = refl

pub comparison_numbers : (e p e' p' t : ℕ) → map (λ c. number_of c.gives) (comparison_checks e p e' p' t) ≡ 4 ∷ 4 ∷ 7 ∷ []
unfolding comparison_checks
comparison_numbers e p e' p' t = refl
