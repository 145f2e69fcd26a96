-- What a host program is told: each answer as one number, and an accepted set as four.
use Rattle.std.specs.Prelude.{List, [], ◌∷◌, ℕ, ◌+◌, ◌*◌, Err, Ok, Result}
use Rattle.std.proofs.lemmas.List.Edits.{sets}
use Rattle.rule.specs.declared.Refusal.{Refusal}
use Rattle.rule.specs.declared.Order.{Order}
use Rattle.rule.specs.declared.Order.TheVariants.{First, Second, Tie}
use Rattle.rule.specs.declared.Accepted.{Accepted}
use Rattle.rule.specs.declared.Ran.{Ran}
use Rattle.rule.specs.Layout.{requirement_of, period_of}
use Rattle.rule.specs.Answers.{number_of, Carried, nothing, place, excess, carried_by}

-- ---- refusals

-- The place or the excess that a refusal carries, 0 for one that carries nothing.
abbrev pub amount : Carried → ℕ
amount nothing = 0
amount (place i) = i
amount (excess x) = x

-- A refusal: its number times 2^32, and in the 32 bits below what it carries.
abbrev pub code_of : Refusal → ℕ
code_of r = number_of r * 0x100000000 + amount (carried_by r)

-- ---- answers

-- An answer by a number of its own, and a refusal by its code.
abbrev pub coded : {X : Type 0} → (X → ℕ) → Result X Refusal → ℕ
coded own (Ok x) = own x
coded own (Err r) = code_of r

-- Done is 0. No refusal has the number 0, so that no refusal is mistaken for it.
abbrev pub outcome_code : Result Unit Refusal → ℕ
outcome_code = coded (λ done. 0)

-- A run: the slots done times 2^40, and in the 40 bits below how it ended.
abbrev pub ran_code : Ran → ℕ
ran_code r = r.done * 0x10000000000 + outcome_code r.end

-- "first, second or tie"
abbrev pub order_code : Order → ℕ
order_code First = 0
order_code Second = 1
order_code Tie = 2

-- The order, or a refusal, whose code is 2^32 or more.
abbrev pub comparison_code : Result Order Refusal → ℕ
comparison_code = coded order_code

-- Accepted is 0; what was accepted is stored.
abbrev pub admission_code : Result Accepted Refusal → ℕ
admission_code = coded (λ accepted. 0)

-- ---- what admission stores

-- M, L, and the spare's e and p, which are 0 and 0 where there is none.
abbrev pub four : Accepted → List ℕ
four a = a.units ∷ a.multiple ∷ requirement_of a.spare ∷ period_of a.spare ∷ []

-- The lent list after an admission: the four stored from place 0 on, as far as there is room, and "Every refusal leaves every lent list
-- unchanged."
abbrev pub answer_after : Result Accepted Refusal → List ℕ → List ℕ
answer_after (Ok a) places = sets places 0 (four a)
answer_after (Err r) places = places
