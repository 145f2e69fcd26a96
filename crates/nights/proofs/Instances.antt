-- The theorems at the whole session of frames/specs/Cases.antt, so that nobody need ask whether their hypotheses can be met. Assumes nothing.
use mathlib.Core.Path.{◌≡◌, refl, subst}
use mathlib.Core.List.Memᴰ
use mathlib.Core.List.{List, [], ◌∷◌, ◌++◌}
use Prim.Native.Nat.{ℕ}
use Rattle.numbers.specs.Divide.{euclid, gcd, lowest_terms}
use Rattle.numbers.specs.Multiple.{lcm, lcm_all}
use Rattle.numbers.specs.Round.{round_up}
use Rattle.rule.specs.Limits.{bounded_by}
use Rattle.rule.specs.Places.{sum, lowest, each}
use Rattle.rule.specs.Task.{lag, sign, standing_of, standing, fair, symbol, go_on, symbols_from, string, higher, or_later, compare_strings, compare}
use Rattle.rule.specs.Sets.{multiple, load, units_in_use, room, spare, task_at, spare_entry, field_with, field as field_of}
use Rattle.rule.specs.Slot.{tnegru, urgent, contending, urgents, not_tnegrus, precedes, contenders_before, chosen}
use Rattle.rule.specs.Refusals.{first, differ, invalid_place, unfair_at, unfair_place, set_checks, admission_checks, slot_checks, run_checks}
use Rattle.rule.specs.Outcomes.{admission_by, admission, acceptance, slot_by, slot, runs_at, counts_after, bytes_after, run_by, run, slots_from, after_slot}
use Rattle.digits.specs.Digits.{all_digits, bytes_of, digits_of}
use Rattle.digits.specs.Fields.{field_at, field}
use Rattle.reading.specs.Kinds.{admit_frame, run_frame, list_frame, frame_of, well_formed, read}
use Rattle.writing.specs.AnswerLines.{line_feed, line_of, spare_bytes, accepted_line, places_from, slot_line, slot_lines, end_line}
use Rattle.frames.specs.Lines.{lines_after}
use Rattle.frames.specs.Session.{no_set, in_force}
use Rattle.frames.specs.Replies.{admit_reply, run_reply, reply}
use Rattle.frames.specs.Transcript.{answer_to, answers, transcript}
use Rattle.nights.specs.Sessions.{FairSet, FairSession, session_after}
use Rattle.nights.specs.TranscriptLines.{IsLineOf, RightSlot}
use Rattle.nights.proofs.TheProgramIsFair.{every_session_is_fair, every_slot_line_is_right}

-- Its two lines, by their bytes: the set of 1/2 and 1/3 on one unit, and a run of six slots.
abbrev the_set : List ℕ
the_set = 0x01 ∷ 0x01 ∷ 0x02 ∷ 0x00 ∷ 0x01 ∷ 0x00 ∷ 0x02 ∷ 0x00 ∷ 0x01 ∷ 0x00 ∷ 0x03 ∷ []

abbrev the_run : List ℕ
the_run = 0x02 ∷ 0x00 ∷ 0x06 ∷ []

-- After them the session is at time 6 with counts 3 and 2.
pub whole_case_session : session_after no_set (digits_of the_set ∷ digits_of the_run ∷ []) ≡ in_force 1 (1 ∷ 1 ∷ []) (2 ∷ 3 ∷ []) (3 ∷ 2 ∷ []) 6
unfolding session_after answer_to reply admit_reply run_reply read well_formed frame_of list_frame run_frame admit_frame field_at digits_of bytes_of all_digits admission admission_by acceptance slot slot_by runs_at counts_after bytes_after run run_by slots_from after_slot first differ invalid_place unfair_at unfair_place set_checks admission_checks slot_checks run_checks tnegru urgent contending urgents not_tnegrus precedes contenders_before chosen multiple load units_in_use room spare task_at spare_entry field_with field_of lag sign standing_of standing fair symbol go_on symbols_from string higher or_later compare_strings compare bounded_by sum lowest each euclid gcd lowest_terms lcm lcm_all round_up
whole_case_session = refl

pub whole_case_fair : FairSet 1 (1 ∷ 1 ∷ []) (2 ∷ 3 ∷ []) (3 ∷ 2 ∷ []) 6
whole_case_fair = subst FairSession whole_case_session (every_session_is_fair (digits_of the_set ∷ digits_of the_run ∷ []))

-- The line of its slot at time 3, of place 1, is one of its transcript's and the right one.
abbrev whole_case : List ℕ
whole_case = line_of the_set ++ line_of the_run

abbrev slot_three : List ℕ
slot_three = 0x38 ∷ 0x32 ∷ 0x30 ∷ 0x30 ∷ 0x30 ∷ 0x30 ∷ 0x30 ∷ 0x30 ∷ 0x30 ∷ 0x33 ∷ 0x30 ∷ 0x31 ∷ 0x30 ∷ 0x31 ∷ []

slot_three_stands : IsLineOf slot_three (transcript whole_case)
unfolding transcript answers lines_after line_of slot_lines slot_line places_from end_line accepted_line spare_bytes field answer_to reply admit_reply run_reply read well_formed frame_of list_frame run_frame admit_frame field_at digits_of bytes_of all_digits admission admission_by acceptance slot slot_by runs_at counts_after bytes_after run run_by slots_from after_slot first differ invalid_place unfair_at unfair_place set_checks admission_checks slot_checks run_checks tnegru urgent contending urgents not_tnegrus precedes contenders_before chosen multiple load units_in_use room spare task_at spare_entry field_with field_of lag sign standing_of standing fair symbol go_on symbols_from string higher or_later compare_strings compare bounded_by sum lowest each euclid gcd lowest_terms lcm lcm_all round_up
slot_three_stands = Memᴰ.tail (Memᴰ.tail (Memᴰ.tail (Memᴰ.tail (Memᴰ.head refl))))

pub slot_three_right : RightSlot (slot_three ++ line_feed ∷ [])
slot_three_right = every_slot_line_is_right whole_case slot_three slot_three_stands _ refl
