-- The rung of a task at t: its standing and its class in one word, from the most ahead to the most behind.
use Rattle.std.specs.Prelude.{cond, List, map, ℕ, ltb, length, Result, Ok, Err, slice_index_or}
use Rattle.std.specs.List.{range_with_len}
use Rattle.rule.specs.declared.Refusal.{Refusal}
use Rattle.rule.specs.declared.Standing.{Standing}
use Rattle.rule.specs.declared.Standing.TheVariants.{Ahead as stands_ahead, Punctual as stands_punctual, Behind as stands_behind}
use Rattle.rule.specs.Task.{Entry, standing}
use Rattle.rule.specs.Slot.{tnegru, urgent}
use Rattle.rule.specs.Refusals.{Verdict, passed, refused, first}
use Rattle.standing.specs.declared.Rung.{Rung}
use Rattle.standing.specs.declared.Rung.TheVariants.{Tnegru, Ahead, Punctual, Behind, Urgent}
use Rattle.standing.specs.Laid.{laid_entry, laid_checks}

-- The rung of a task that is neither tnegru nor urgent.
abbrev pub between : Standing → Rung
between stands_ahead = Ahead
between stands_punctual = Punctual
between stands_behind = Behind

unfoldable pub rung : ℕ → Entry → Rung
rung t x = cond (tnegru t x) Tnegru (cond (urgent t x) Urgent (between (standing t x)))

-- What a list of rungs has at a place, and Tnegru past its end.
abbrev pub rung_at : List Rung → ℕ → Rung
rung_at rungs i = slice_index_or rungs i Tnegru

-- The rungs of all places of a field, in a list of 65.
unfoldable pub rungs_of : (units : ℕ) → List ℕ → List ℕ → List ℕ → ℕ → List Rung
rungs_of units es ps ks t = map (λ i. cond (ltb i (length es)) (rung t (laid_entry units es ps ks t i)) Tnegru) (range_with_len 0 65)

-- What a judge answers: the rungs, or the first refusal.
unfoldable pub judged_by : Verdict → (units : ℕ) → List ℕ → List ℕ → List ℕ → ℕ → Result (List Rung) Refusal
judged_by passed units es ps ks t = Ok (rungs_of units es ps ks t)
judged_by (refused r) units es ps ks t = Err r

unfoldable pub judged : (units : ℕ) → List ℕ → List ℕ → List ℕ → ℕ → Result (List Rung) Refusal
judged units es ps ks t = judged_by (first (laid_checks units es ps ks t)) units es ps ks t
