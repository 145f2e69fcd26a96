-- The answer to a listing, whose bytes are made in the cleared front of the log. Assumes nothing.
use mathlib.Core.Path.{◌≡◌, sym, ap, ◌∙◌}
use mathlib.Core.List.{List}
use Prim.Native.Nat.{ℕ, ◌≤◌}
use lib.ListN.{length}
use Rattle.std.specs.Prelude.{Err, Ok, Result}
use Rattle.rule.specs.declared.Refusal.{Refusal}
use Rattle.rule.specs.Limits.{tasks_most}
use Rattle.rule.specs.Places.{each}
use Rattle.rule.specs.Outcomes.{ListingAfter, listing}
use Rattle.writing.specs.AnswerLines.{refusal_line, listing_line, listing_text}
use Rattle.writing.proofs.Texts.{listing_fits}
use Rattle.reading.specs.Kinds.{list}
use Rattle.frames.specs.Session.{in_force}
use Rattle.frames.specs.Replies.{list_text, reply}

module _ (m : ℕ) (es ps ks : List ℕ) (t n : ℕ) (whole : length es ≡ n) (zeros : List ℕ) (clean : zeros ≡ each n (λ i. 0)) where
  abbrev after : ListingAfter
  after = listing es ps ks zeros m t

  list_reply : (reply (in_force m es ps ks t) list).text ≡ list_text t after after.answer
  unfolding reply
  list_reply = rw (whole, clean)

  -- It has a byte for each task, no more than 64, so that its line is written.
  pub list_done : (o : Result Unit Refusal) (bytes : List ℕ) → o ≡ after.answer → bytes ≡ after.bytes → o ≡ Ok tt → length bytes ≤ tasks_most
      → listing_text t bytes ≡ (reply (in_force m es ps ks t) list).text
  unfolding list_text
  list_done o bytes answer made q few =
      listing_fits t bytes few ∙ ap (listing_line t) made ∙ sym (list_reply ∙ ap (list_text t after) (sym answer ∙ q))

  pub list_refused : (o : Result Unit Refusal) → o ≡ after.answer → (r : Refusal) → o ≡ Err r → refusal_line r ≡ (reply (in_force m es ps ks t) list).text
  unfolding list_text
  list_refused o answer r q = sym (list_reply ∙ ap (list_text t after) (sym answer ∙ q))
