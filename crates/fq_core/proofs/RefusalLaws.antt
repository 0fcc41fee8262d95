-- What follows from an answer that is a refusal, and from one that is given unless memory runs out.
use Rattle.std.proofs.Common.{◌≡◌, ℕ, Result, Ok, Err, refl, sym, ap, subst, ◌∙◌}
use Rattle.std.specs.Prelude.{IfOk, IsErrOf}
use Rattle.fq_core.specs.declared.refusal.Place.{Place}
use Rattle.fq_core.specs.declared.refusal.Place.TheVariants as place
use Rattle.fq_core.specs.declared.refusal.Fault.{Fault}
use Rattle.fq_core.specs.declared.refusal.Fault.TheVariants as fault
use Rattle.fq_core.specs.Refusals.{refusal, IsUnlessMemory}

code_in : {X : Type 0} → Result X Fault → ℕ
code_in (Err (fault.Refused r)) = r.code
code_in _ = 0

place_in : {X : Type 0} → Result X Fault → Place
place_in (Err (fault.Refused r)) = r.place
place_in _ = place.Nowhere

-- a refusal tells its code and its place
pub same_refusal : {X : Type 0} (a b : ℕ) (p q : Place) (P : ℕ → Place → Type 0) → (let x : Result X Fault = Err (refusal a p) in let y : Result X Fault = Err (refusal b q) in x ≡ y) → P a p → P b q
unfolding code_in place_in
same_refusal {X} a b p q P e h =
    let one : a ≡ b = ap (code_in {X = X}) e in
    let two : p ≡ q = ap (place_in {X = X}) e in
    rw (← one, ← two) h

-- a call that answers the outcome, unless memory runs out
module _ {X : Type 0} (result : Result X Fault) (outcome : Result X Fault) (is : IsUnlessMemory result outcome) where
  pub ok-is : {P : X → Type 0} → ((x : X) → outcome ≡ Ok x → P x) → IfOk result P
  ok-is {P} f = at result is
    where
      at : (r : Result X Fault) → IsUnlessMemory r outcome → IfOk r P
      at (Ok x) e = f x e
      at (Err e) h = tt

  pub err-is : (code : ℕ) (p : Place) → IsErrOf result (refusal code p) → outcome ≡ Err (refusal code p)
  err-is code p failed = at result is failed
    where
      at : (r : Result X Fault) → IsUnlessMemory r outcome → IsErrOf r (refusal code p) → outcome ≡ Err (refusal code p)
      at (Ok x) e failed = absurd cc
      at (Err fault.Memory) e failed = absurd cc
      at (Err (fault.Refused r)) e failed = e ∙ cc

  pub answer-is : (answer : Result X Fault) → outcome ≡ answer → IsUnlessMemory result answer
  answer-is answer e = subst (λ (o : Result X Fault). IsUnlessMemory result o) e is
