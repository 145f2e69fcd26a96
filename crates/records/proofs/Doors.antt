-- The two doors agree: "A second door .. takes the same set as a lent list of records .. and answers the same". What the second answers and
-- leaves is what the first answers and leaves of the three lists that the records come apart into. Assumes nothing.
use Rattle.std.specs.Prelude.{Err, Ok, Result}
use mathlib.Core.Path.{◌≡◌, refl, sym, ap, ◌∙◌}
use mathlib.Core.List.{List, [], ◌∷◌}
use Prim.Native.Nat.{ℕ}
use lib.ListN.{length, length-map}
use native.Mathlib.Omega.{arith}
use Rattle.rule.specs.declared.Accepted.{Accepted}
use Rattle.rule.specs.declared.Refusal.{Refusal}
use Rattle.rule.specs.Outcomes.{admission, slot}
use Rattle.rule.proofs.Slots.{refused_slot, done_counts}
use Rattle.records.specs.declared.Task.{Task}
use Rattle.records.specs.Door.{requirements_of, periods_of, counts_of, with_counts}

-- ---- records with other counts

pub left_requirements : (ts : List Task) (ks : List ℕ) → requirements_of (with_counts ts ks) ≡ requirements_of ts
unfolding with_counts
left_requirements [] ks = refl
left_requirements (a ∷ ts) [] = refl
left_requirements (a ∷ ts) (k ∷ ks) = ap (λ es. a.e ∷ es) (left_requirements ts ks)

pub left_periods : (ts : List Task) (ks : List ℕ) → periods_of (with_counts ts ks) ≡ periods_of ts
unfolding with_counts
left_periods [] ks = refl
left_periods (a ∷ ts) [] = refl
left_periods (a ∷ ts) (k ∷ ks) = ap (λ ps. a.p ∷ ps) (left_periods ts ks)

pub left_counts : (ts : List Task) (ks : List ℕ) → length ks ≡ length ts → counts_of (with_counts ts ks) ≡ ks
unfolding with_counts
left_counts [] [] l = refl
left_counts [] (k ∷ ks) l = absurd (omega (arith, l))
left_counts (a ∷ ts) [] l = absurd (omega (arith, l))
left_counts (a ∷ ts) (k ∷ ks) l = ap (λ js. k ∷ js) (left_counts ts ks (omega (arith, l)))

-- A slot leaves as many counts as there are tasks.
counts_length : (es ps ks bytes : List ℕ) (m t : ℕ) → length ks ≡ length es → length (slot es ps ks bytes m t).counts ≡ length es
counts_length es ps ks bytes m t same = go (slot es ps ks bytes m t).answer refl
  where
    go : (o : Result Unit Refusal) → (slot es ps ks bytes m t).answer ≡ o → length (slot es ps ks bytes m t).counts ≡ length es
    go (Ok tt) q = done_counts es ps ks bytes m t q
    go (Err r) q = ap (λ s. length s.counts) (refused_slot es ps ks bytes m t r q) ∙ same

-- ---- what each door's contract says of a set of records

-- Of admission, with what the first door and the second answer.
pub admissions_agree : (ts : List Task) (m : ℕ) (first second : Result Accepted Refusal) → first ≡ admission (requirements_of ts) (periods_of ts) m
    → second ≡ admission (requirements_of ts) (periods_of ts) m → second ≡ first
admissions_agree ts m first second is as-well = as-well ∙ sym is

-- Of a slot of the three lists: the answer, the counts and the bytes that the first door leaves.
pub record First (ts : List Task) (bytes : List ℕ) (m t : ℕ) (o : Result Unit Refusal) (ks bs : List ℕ) : Type 0 where
  pub answer : o ≡ (slot (requirements_of ts) (periods_of ts) (counts_of ts) bytes m t).answer
  pub counts : ks ≡ (slot (requirements_of ts) (periods_of ts) (counts_of ts) bytes m t).counts
  pub written : bs ≡ (slot (requirements_of ts) (periods_of ts) (counts_of ts) bytes m t).bytes

-- Of a slot of the records: the answer, the records and the bytes that the second door leaves.
pub record Second (ts : List Task) (bytes : List ℕ) (m t : ℕ) (o : Result Unit Refusal) (us : List Task) (bs : List ℕ) : Type 0 where
  pub answer : o ≡ (slot (requirements_of ts) (periods_of ts) (counts_of ts) bytes m t).answer
  pub records : us ≡ with_counts ts (slot (requirements_of ts) (periods_of ts) (counts_of ts) bytes m t).counts
  pub written : bs ≡ (slot (requirements_of ts) (periods_of ts) (counts_of ts) bytes m t).bytes

-- The same answer and bytes, and records that come apart into the first door's lists.
pub record Agree (ts : List Task) (o o' : Result Unit Refusal) (ks : List ℕ) (us : List Task) (bs bs' : List ℕ) : Type 0 where
  pub answer : o' ≡ o
  pub written : bs' ≡ bs
  pub requirements : requirements_of us ≡ requirements_of ts
  pub periods : periods_of us ≡ periods_of ts
  pub counts : counts_of us ≡ ks

pub doors_agree : (ts : List Task) (bytes : List ℕ) (m t : ℕ) (o o' : Result Unit Refusal) (ks : List ℕ) (us : List Task) (bs bs' : List ℕ)
    → First ts bytes m t o ks bs → Second ts bytes m t o' us bs' → Agree ts o o' ks us bs bs'
doors_agree ts bytes m t o o' ks us bs bs' first second =
    let after = (slot (requirements_of ts) (periods_of ts) (counts_of ts) bytes m t).counts in
    let es = length-map ts (λ a. a.e) in
    let long : length after ≡ length ts = counts_length _ _ _ bytes m t (length-map ts (λ a. a.k) ∙ sym es) ∙ es in
    record {
      answer = second.answer ∙ sym first.answer;
      written = second.written ∙ sym first.written;
      requirements = ap requirements_of second.records ∙ left_requirements ts after;
      periods = ap periods_of second.records ∙ left_periods ts after;
      counts = ap counts_of second.records ∙ left_counts ts after long ∙ sym first.counts;
    }
