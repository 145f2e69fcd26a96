-- Facts that a walk adds to what it holds, as a contract of two clauses or of three asks. Assumes nothing.
use seplogic.Ra.Ura.{Ura}
use base.Logic.{SProp, ent, sep, via, emp, emp∗, mono∗, mono_l, comm∗}
use contract.Monad.{fact, fact_i}

module _ {M : Type 1} (𝓤 : Ura M) where
  -- What nothing gives may be had beside anything.
  beside : (P Q : SProp 𝓤) → ent 𝓤 (emp 𝓤) Q → ent 𝓤 P (sep 𝓤 P Q)
  beside P Q q = via 𝓤 (sep 𝓤 (emp 𝓤) P) (emp∗ 𝓤 P) (via 𝓤 (sep 𝓤 Q P) (mono_l 𝓤 P q) (comm∗ 𝓤 Q P))

  -- What nothing gives, of two things, may be had together.
  both : (P Q : SProp 𝓤) → ent 𝓤 (emp 𝓤) P → ent 𝓤 (emp 𝓤) Q → ent 𝓤 (emp 𝓤) (sep 𝓤 P Q)
  both P Q p q = via 𝓤 (sep 𝓤 (emp 𝓤) (emp 𝓤)) (emp∗ 𝓤 (emp 𝓤)) (mono∗ 𝓤 p q)

  -- Two facts that hold may be added.
  pub says_two : (P : SProp 𝓤) {φ ψ : Type 0} → φ → ψ → ent 𝓤 P (sep 𝓤 P (sep 𝓤 (fact 𝓤 φ) (fact 𝓤 ψ)))
  says_two P {φ} {ψ} a b = beside P _ (both _ _ (fact_i 𝓤 φ (emp 𝓤) a) (fact_i 𝓤 ψ (emp 𝓤) b))

  -- So may three.
  pub says_three : (P : SProp 𝓤) {φ ψ χ : Type 0} → φ → ψ → χ → ent 𝓤 P (sep 𝓤 P (sep 𝓤 (fact 𝓤 φ) (sep 𝓤 (fact 𝓤 ψ) (fact 𝓤 χ))))
  says_three P {φ} {ψ} {χ} a b c = beside P _ (both _ _ (fact_i 𝓤 φ (emp 𝓤) a) (both _ _ (fact_i 𝓤 ψ (emp 𝓤) b) (fact_i 𝓤 χ (emp 𝓤) c)))
