-- Document 01, "Cases (P: to be proved of the definitions)": P1 to P9 as rows of one table, and one theorem over it.
use Rattle.std.specs.Prelude.{◌≡◌, refl, List, [], ◌∷◌, map, ℕ, Err, None, Ok, Option, Result, Some}
use Rattle.rule.specs.declared.Weight.{Weight}
use Rattle.rule.specs.declared.Order.{Order}
use Rattle.rule.specs.declared.Refusal.{Refusal}
use Rattle.rule.specs.declared.Accepted.{Accepted}
use Rattle.rule.specs.declared.Symbol.{Symbol}
use Rattle.rule.specs.declared.Symbol.TheVariants.{Minus, Zero}
use Rattle.rule.specs.declared.Order.TheVariants.{Second, Tie}
use Rattle.rule.specs.declared.Refusal.TheVariants.{Record, Load, Lag, Stuck}
use Rattle.rule.specs.Limits.{bounded_by}
use Rattle.rule.specs.Places.{sum, lowest, each, bit}
use Rattle.rule.specs.Task.{lag, sign, standing_of, standing, fair, symbol, go_on, symbols_from, string, higher, or_later, compare_strings, compare}
use Rattle.rule.specs.Sets.{multiple, load, units_in_use, room, spare, task_at, spare_entry, field_with, field, weight}
use Rattle.rule.specs.Slot.{tnegru, urgent, contending, urgents, not_tnegrus, precedes, contenders_before, chosen}
use Rattle.rule.specs.Refusals.{first, differ, invalid_place, unfair_at, unfair_place, set_checks, admission_checks, slot_checks, run_checks, comparison_checks}
use Rattle.rule.specs.Outcomes.{admission_by, admission, acceptance, comparison_by, comparison, SlotAfter, slot_by, slot, runs_at, counts_after, bytes_after, RunAfter, run_by, run, slots_from, after_slot}
use Rattle.numbers.specs.Divide.{euclid, gcd, lowest_terms}
use Rattle.numbers.specs.Multiple.{lcm, lcm_all}
use Rattle.numbers.specs.Round.{round_up}

-- What a case asks: the requirements, the periods, then what the entry takes besides.
pub data Question : Type 0 where
  admit : (es ps : List ℕ) (m : ℕ) → Question
  deal : (es ps ks bytes : List ℕ) (m t : ℕ) → Question
  -- who of the whole field runs, the spare last
  deal_field : (es ps ks : List ℕ) (t : ℕ) → Question
  -- a run from time 0 with counts 0
  run_from0 : (s : ℕ) (es ps ks log : List ℕ) (m : ℕ) → Question
  against : (e p e' p' t : ℕ) → Question
  read : (e p t : ℕ) → Question

pub data Reply : Type 0 where
  admitted : Result Accepted Refusal → Reply
  dealt : SlotAfter → Reply
  ran : RunAfter → Reply
  bytes : List ℕ → Reply
  compared : Result Order Refusal → Reply
  symbols : List Symbol → Reply

pub record Row : Type 0 where
  pub question : Question
  pub reply : Reply

-- What the definitions say.
unfoldable pub defined : Question → Reply
defined (admit es ps m) = admitted (admission es ps m)
defined (deal es ps ks bs m t) = dealt (slot es ps ks bs m t)
defined (deal_field es ps ks t) = let f = field es ps ks t in bytes (each f.size (λ i. bit (runs_at es ps ks t i)))
defined (run_from0 s es ps ks log m) = ran (run s es ps ks log m 0)
defined (against e p e' p' t) = compared (comparison e p e' p' t)
defined (read e p t) = symbols (string e p t)

-- ---- how the rows are written

infix 5 ◌gives◌
abbrev ◌gives◌ : Question → Reply → Row
q gives r = record { question = q; reply = r }

abbrev set : ℕ → ℕ → Option Weight → Reply
set m l s = admitted (Ok (record { units = m; multiple = l; spare = s }))

abbrev done : List ℕ → List ℕ → Reply
done ks bs = dealt (record { answer = Ok tt; counts = ks; bytes = bs })

-- ---- the table

unfoldable pub table : List Row
table =
    -- P1: the set of the whole case, six slots; at time 3 task 1 and the spare tie
    (admit (1 ∷ 1 ∷ []) (2 ∷ 3 ∷ []) 1 gives set 1 6 (Some (weight 1 6))) ∷
    (run_from0 6 (1 ∷ 1 ∷ []) (2 ∷ 3 ∷ []) (0 ∷ 0 ∷ []) (9 ∷ 9 ∷ 9 ∷ 9 ∷ 9 ∷ 9 ∷ 9 ∷ 9 ∷ 9 ∷ 9 ∷ 9 ∷ 9 ∷ []) 1
    gives ran (record {
      answer = record { done = 6; end = Ok tt };
      counts = 3 ∷ 2 ∷ [];
      log = 1 ∷ 0 ∷ 0 ∷ 1 ∷ 1 ∷ 0 ∷ 0 ∷ 1 ∷ 1 ∷ 0 ∷ 0 ∷ 0 ∷ [];
    })) ∷
    (against 1 3 1 6 3 gives compared (Ok Tie)) ∷
    -- P2: the paper's set on 3 units
    (admit (1 ∷ 2 ∷ 5 ∷ 8 ∷ []) (3 ∷ 4 ∷ 7 ∷ 11 ∷ []) 3 gives set 3 924 (Some (weight 335 462))) ∷
    -- P3: its slots 0, 1, 2, the spare in slots 0 and 1
    (run_from0 3 (1 ∷ 2 ∷ 5 ∷ 8 ∷ []) (3 ∷ 4 ∷ 7 ∷ 11 ∷ []) (0 ∷ 0 ∷ 0 ∷ 0 ∷ []) (9 ∷ 9 ∷ 9 ∷ 9 ∷ 9 ∷ 9 ∷ 9 ∷ 9 ∷ 9 ∷ 9 ∷ 9 ∷ 9 ∷ []) 3
    gives ran (record {
      answer = record { done = 3; end = Ok tt };
      counts = 1 ∷ 2 ∷ 2 ∷ 2 ∷ [];
      log = 0 ∷ 0 ∷ 1 ∷ 1 ∷ 0 ∷ 1 ∷ 0 ∷ 1 ∷ 1 ∷ 1 ∷ 1 ∷ 0 ∷ [];
    })) ∷
    (deal_field (1 ∷ 2 ∷ 5 ∷ 8 ∷ []) (3 ∷ 4 ∷ 7 ∷ 11 ∷ []) (0 ∷ 0 ∷ 0 ∷ 0 ∷ []) 0 gives bytes (0 ∷ 0 ∷ 1 ∷ 1 ∷ 1 ∷ [])) ∷
    (deal_field (1 ∷ 2 ∷ 5 ∷ 8 ∷ []) (3 ∷ 4 ∷ 7 ∷ 11 ∷ []) (0 ∷ 0 ∷ 1 ∷ 1 ∷ []) 1 gives bytes (0 ∷ 1 ∷ 0 ∷ 1 ∷ 1 ∷ [])) ∷
    (deal_field (1 ∷ 2 ∷ 5 ∷ 8 ∷ []) (3 ∷ 4 ∷ 7 ∷ 11 ∷ []) (0 ∷ 1 ∷ 1 ∷ 2 ∷ []) 2 gives bytes (1 ∷ 1 ∷ 1 ∷ 0 ∷ 0 ∷ [])) ∷
    -- P4
    (admit (1 ∷ 1 ∷ []) (2 ∷ 2 ∷ []) 1 gives set 1 2 None) ∷
    -- P5
    (admit (2 ∷ 2 ∷ []) (3 ∷ 3 ∷ []) 1 gives admitted (Err (Load 1))) ∷
    (admit (2 ∷ 2 ∷ []) (3 ∷ 3 ∷ []) 2 gives set 2 3 (Some (weight 2 3))) ∷
    -- P6
    (deal (2 ∷ 2 ∷ 1 ∷ 1 ∷ []) (5 ∷ 5 ∷ 10 ∷ 10 ∷ []) (0 ∷ 0 ∷ 1 ∷ 1 ∷ []) (9 ∷ 9 ∷ 9 ∷ 9 ∷ []) 1 2
    gives dealt (record { answer = Err Stuck; counts = 0 ∷ 0 ∷ 1 ∷ 1 ∷ []; bytes = 9 ∷ 9 ∷ 9 ∷ 9 ∷ [] })) ∷
    -- P7: refused at place 0; and counts 1 0 pass, since the spare ran
    (deal (1 ∷ 1 ∷ []) (2 ∷ 3 ∷ []) (0 ∷ 1 ∷ []) (9 ∷ 9 ∷ []) 1 2
    gives dealt (record { answer = Err (Lag 0); counts = 0 ∷ 1 ∷ []; bytes = 9 ∷ 9 ∷ [] })) ∷
    (deal (1 ∷ 1 ∷ []) (2 ∷ 3 ∷ []) (1 ∷ 0 ∷ []) (9 ∷ 9 ∷ []) 1 2 gives done (1 ∷ 1 ∷ []) (0 ∷ 1 ∷ [])) ∷
    -- P8: strings "-0" and "0"; second
    (read 1 2 1 gives symbols (Minus ∷ Zero ∷ [])) ∷
    (read 1 3 1 gives symbols (Zero ∷ [])) ∷
    (against 1 2 1 3 1 gives compared (Ok Second)) ∷
    -- P9
    (admit (2 ∷ []) (2 ∷ []) 1 gives admitted (Err (Record 0))) ∷
    (admit (1 ∷ []) (2 ∷ []) 1 gives set 1 2 (Some (weight 1 2))) ∷ []

-- Every row's question has the reply that the row gives.
pub cases_right : map (λ r. defined r.question) table ≡ map (λ r. r.reply) table
unfolding table defined admission admission_by acceptance comparison comparison_by slot slot_by runs_at counts_after bytes_after run run_by slots_from after_slot first differ invalid_place unfair_at unfair_place set_checks admission_checks slot_checks run_checks comparison_checks tnegru urgent contending urgents not_tnegrus precedes contenders_before chosen multiple load units_in_use room spare task_at spare_entry field_with field lag sign standing_of standing fair symbol go_on symbols_from string higher or_later compare_strings compare bounded_by sum lowest each euclid gcd lowest_terms lcm lcm_all round_up
cases_right = refl
