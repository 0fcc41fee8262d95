-- Tokens have one outcome.
use Rattle.std.proofs.Common.{◌≡◌, ℕ, List, [], ◌∷◌, length, Option, Some, None, Result, Ok, Err, inl, inr, refl, sym, ap, ◌∙◌}
use Rattle.std.specs.Prelude.{◌⊎◌}
use Rattle.fq_core.specs.declared.refusal.Place.{Place}
use Rattle.fq_core.specs.declared.refusal.Place.TheVariants as place
use Rattle.fq_core.specs.declared.refusal.Fault.{Fault}
use Rattle.fq_core.specs.declared.refusal.Fault.TheVariants as fault
use Rattle.c_parse.specs.declared.sign.Terminal.{Terminal}
use Rattle.c_parse.specs.declared.expr.ExprTree.{ExprTree}
use Rattle.c_parse.specs.declared.unit.Item.{Item}
use Rattle.c_parse.specs.declared.unit.Unit.{Unit as Whole}
use Rattle.fq_core.specs.Refusals.{refusal}
use Rattle.c_parse.specs.Expression.{IsExpression, IsRefusedExpression}
use Rattle.c_parse.specs.UnitForm.{IsUnit, IsRefusedUnit}
use Rattle.c_parse.specs.Outcome.{early_cause, by_early, by_rest, or_syntax, if_unsequenced, expression_outcome, unit_outcome}
use Rattle.c_parse.specs.Reading.{whole_at}
use Rattle.c_parse.specs.ReadingItems.{items_at}
use Rattle.c_parse.specs.Laws.{HasOneOutcome}
use Rattle.fq_core.proofs.RefusalLaws.{same_refusal}
use Rattle.c_parse.proofs.OutcomeLaws.{accepted, accepts, refused, refuses}
use Rattle.c_parse.proofs.UnitOutcome.{unit_accepted, unit_accepts, unit_refused, unit_refuses}

-- what a computed outcome decides
module _ {X Y : Type 0} (outcome : Result Y Fault) (whole : X → Y) (Is : X → Type 0) (IsRefused : ℕ → Place → Type 0)
    (part : Y → X) (part_of : (x : X) → part (whole x) ≡ x)
    (taken : (y : Y) → outcome ≡ Ok y → Is (part y)) (takes : (x : X) → Is x → outcome ≡ Ok (whole x))
    (failed : (code : ℕ) (p : Place) → outcome ≡ Err (refusal code p) → IsRefused code p) (fails : (code : ℕ) (p : Place) → IsRefused code p → outcome ≡ Err (refusal code p))
    (remembers : outcome ≡ Err fault.Memory → ⊥) where
  some : ((x : X) × Is x) ⊎ ((code : ℕ) × ((p : Place) × IsRefused code p))
  some = at outcome refl
    where
      at : (r : Result Y Fault) → outcome ≡ r → ((x : X) × Is x) ⊎ ((code : ℕ) × ((p : Place) × IsRefused code p))
      at (Ok y) e = inl (part y, taken y e)
      at (Err fault.Memory) e = absurd (remembers e)
      at (Err (fault.Refused r)) e = inr (r.code, (r.place, failed r.code r.place e))

  value_in : Result Y Fault → Y → Y
  value_in (Ok y) z = y
  value_in (Err e) z = z

  one_answer : (x y : X) → Is x → Is y → x ≡ y
  unfolding value_in
  one_answer x y a b =
      let same : (let r : Result Y Fault = Ok (whole x) in let s : Result Y Fault = Ok (whole y) in r ≡ s) = sym (takes x a) ∙ takes y b in
      let wholes : whole x ≡ whole y = ap (λ r. value_in r (whole x)) same in
      sym (part_of x) ∙ (ap part wholes ∙ part_of y)

  one_refusal : (code other : ℕ) (p q : Place) → IsRefused code p → IsRefused other q → (code ≡ other) × (p ≡ q)
  one_refusal code other p q a b = same_refusal {X = Y} code other p q (λ c r. (code ≡ c) × (p ≡ r)) (sym (fails code p a) ∙ fails other q b) (refl, refl)

  not_both : (x : X) (code : ℕ) (p : Place) → Is x → IsRefused code p → ⊥
  not_both x code p a b = let same : (let r : Result Y Fault = Ok (whole x) in let s : Result Y Fault = Err (refusal code p) in r ≡ s) = sym (takes x a) ∙ fails code p b in absurd cc

  decided : HasOneOutcome Is IsRefused
  decided = record { some = some; one_answer = one_answer; one_refusal = one_refusal; not_both = not_both }

unit_remembers : (ts : List Terminal) → unit_outcome ts ≡ Err fault.Memory → ⊥
unfolding unit_outcome
unit_remembers ts e = at (early_cause ts) (items_at (length ts) ts).0 (items_at (length ts) ts).1 e
  where
    at : (c : Option (ℕ × Place)) (is : List Item) (rest : List Terminal) → by_early c (by_rest is rest) ≡ Err fault.Memory → ⊥
    at (Some c) is rest e = absurd cc
    at None is (t ∷ rest) e = absurd cc
    at None is [] e = absurd cc

expression_remembers : (ts : List Terminal) → expression_outcome ts ≡ Err fault.Memory → ⊥
unfolding expression_outcome
expression_remembers ts e = at (early_cause ts) (if_unsequenced (whole_at ts)) e
  where
    at : (c : Option (ℕ × Place)) (o : Option ExprTree) → by_early c (or_syntax o place.Nowhere) ≡ Err fault.Memory → ⊥
    at (Some c) o e = absurd cc
    at None (Some t) e = absurd cc
    at None None e = absurd cc

pub one_unit_outcome : (ts : List Terminal) → HasOneOutcome (IsUnit ts) (IsRefusedUnit ts)
one_unit_outcome ts =
    decided (unit_outcome ts) (λ (is : List Item). (let x : Whole = record { items = is } in x)) (IsUnit ts) (IsRefusedUnit ts) (λ u. u.items) (λ is. refl)
    (unit_accepted ts) (unit_accepts ts) (unit_refused ts) (λ code p r. unit_refuses r) (unit_remembers ts)

pub one_expression_outcome : (ts : List Terminal) → HasOneOutcome (IsExpression ts) (IsRefusedExpression ts)
one_expression_outcome ts =
    decided (expression_outcome ts) (λ t. t) (IsExpression ts) (IsRefusedExpression ts) (λ t. t) (λ t. refl)
    (accepted ts) (accepts ts) (refused ts) (λ code p r. refuses r) (expression_remembers ts)
