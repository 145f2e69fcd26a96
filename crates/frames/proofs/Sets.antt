-- The answer to a set: the lists of its line are admitted, and kept from time 0 on if they are accepted. Assumes nothing.
use Rattle.std.specs.Prelude.{Err, Ok}
use mathlib.Core.Path.{◌≡◌, sym, ap, ◌∙◌}
use mathlib.Core.List.{List}
use Prim.Native.Nat.{ℕ, ◌+◌, ◌*◌}
use native.Mathlib.Omega.{arith}
use lib.ListN.{length, take}
use lib.Seq.{length-take-le}
use Rattle.std.specs.Prelude.{Some}
use Rattle.rule.specs.declared.Accepted.{Accepted}
use Rattle.rule.specs.declared.Refusal.{Refusal}
use Rattle.rule.specs.Places.{each}
use Rattle.rule.specs.Outcomes.{admission}
use Rattle.rule.proofs.Places.{length_each}
use Rattle.writing.specs.AnswerLines.{refusal_line, accepted_line}
use Rattle.digits.specs.Digits.{bytes_of}
use Rattle.digits.specs.Fields.{field_at}
use Rattle.reading.specs.declared.Asked.TheVariants.{Admit}
use Rattle.reading.specs.Kinds.{read}
use Rattle.reading.specs.Asking.{asked_by, column}
use Rattle.frames.specs.Session.{Session, in_force}
use Rattle.frames.specs.Replies.{admit_reply, reply}
use Rattle.frames.proofs.Asking.{asked_admit}

pub column_wide : (line : List ℕ) (k : ℕ) (es : List ℕ) → es ≡ column line k → length es ≡ 64
unfolding column
column_wide line k es is = ap length is ∙ length_each 64 (λ i. field_at 2 (bytes_of line) (k + 4 * i))

module _ (line : List ℕ) (m n : ℕ) (asks : asked_by (read line) ≡ Some (Admit m n)) (es ps : List ℕ)
    (first-column : es ≡ column line 3) (second-column : ps ≡ column line 5) (w : Session) where
  set_reply : reply w (read line) ≡ admit_reply w m (take n es) (take n ps) (admission (take n es) (take n ps) m)
  unfolding reply
  set_reply = rw (first-column, second-column) (ap (reply w) (asked_admit line m n asks).0)

  pub set_refused : (r : Refusal) → admission (take n es) (take n ps) m ≡ Err r
      → (w ≡ (reply w (read line)).session) × (refusal_line r ≡ (reply w (read line)).text)
  unfolding admit_reply
  set_refused r q =
      let all = set_reply ∙ ap (admit_reply w m (take n es) (take n ps)) q in
      (sym (ap (λ x. x.session) all), sym (ap (λ x. x.text) all))

  module _ (a : Accepted) (q : admission (take n es) (take n ps) m ≡ Ok a) where
    all_accepted : reply w (read line) ≡ admit_reply w m (take n es) (take n ps) (Ok a)
    all_accepted = set_reply ∙ ap (admit_reply w m (take n es) (take n ps)) q

    pub set_text : accepted_line a ≡ (reply w (read line)).text
    unfolding admit_reply
    set_text = sym (ap (λ x. x.text) all_accepted)

    pub set_session : (es' ps' ks' : List ℕ) → es' ≡ take n es → ps' ≡ take n ps → ks' ≡ each n (λ i. 0)
        → in_force m es' ps' ks' 0 ≡ (reply w (read line)).session
    unfolding admit_reply
    set_session es' ps' ks' same-es same-ps zeros =
        let few = (asked_admit line m n asks).1 in
        let wide = column_wide line 3 es first-column in
        let whole : length (take n es) ≡ n = length-take-le n es (omega arith) in
        rw (same-es, same-ps, zeros) (ap (λ i. in_force m (take n es) (take n ps) (each i (λ j. 0)) 0) (sym whole) ∙ sym (ap (λ x. x.session) all_accepted))
