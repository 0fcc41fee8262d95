use Rattle.std.proofs.Common.{◌≡◌, ℕ, ◌<◌, ◌≤◌, ◌++◌, All, sym, subst, ◌∙◌}
use Rattle.std.specs.List.{flat_map}
use Rattle.goal_formula.specs.declared.goal.GoalFormula.{GoalFormula}
use Rattle.least_input.specs.Fixing.{variables_in_order}
use Rattle.least_input.specs.Parts.{AreLowered, IsDescent, IsLowest}
use Rattle.least_input.proofs.Bits.{in_order}
use Rattle.least_input.proofs.Descents.{cut_back, ended}
use Rattle.least_input.proofs.Rows.{listed_numbers, numbers_in_order, numbers_of_contains}
use Rattle.least_input.proofs.lowest.lowest_model.Goals as goal

pub lower_all-requires-clause-variables : goal.lower_all-requires-clause-variables
lower_all-requires-clause-variables c =
    let g = c.args.whole in
    let P : ℕ → Type 0 = λ n. (0 < n) × (n ≤ g.formula.variables) in
    let here = numbers_of_contains P (flat_map (λ row. row) g.words ++ flat_map (λ row. row) g.answers) c.requires.inputs in
    subst (All P) (sym (c.deref.ensures.value ∙ c.in_ok-variables.ensures)) (listed_numbers P (in_order g) (numbers_in_order P g.words g.answers here))

pub returns : goal.returns
returns c =
    let g = c.args.whole in
    let vs = c.deref.result.now in
    let new = c.lower_all.new.descent in
    let is : vs ≡ variables_in_order g = c.deref.ensures.value ∙ c.in_ok-variables.ensures in
    let done : IsDescent g.formula c.args.budget vs new = subst (AreLowered g.formula c.args.budget vs new) c.in-None.is c.in_ok-spent.ensures in
    let low : IsLowest g.formula c.args.budget (variables_in_order g) new.model new.fixed = subst (λ xs. IsLowest g.formula c.args.budget xs new.model new.fixed) is (ended g.formula c.args.budget vs new done) in
    let cut : c.cut.result ≡ g.formula = c.cut.ensures ∙ cut_back g.formula new.formula new.units c.len-count.result done.has.formula c.len-count.ensures in
    let whole : ◌≡◌ {A = GoalFormula} (record { formula = c.cut.result; variable = g.variable; words = g.words; answers = g.answers }) g =
    λ i. record { formula = cut i; variable = g.variable; words = g.words; answers = g.answers } in
    (whole, low)
