use Rattle.std.proofs.Common.{◌≡◌, ◌<◌, ◌^◌, true, false, List, [], ◌∷◌, ◌++◌, Bool, refl, sym, ap, subst, ◌∙◌, arith}
use Rattle.goal_formula.specs.Bits.{assignment}
use Rattle.search_checked.specs.Outcomes.{IsOutcome}
use Rattle.search.specs.Nexts.{IsModel}
use Rattle.least_input.specs.Fixing.{literal_of}
use Rattle.least_input.specs.Parts.{Adds}
use Rattle.least_input.specs.declared.descent.Descent.{Descent}
use Rattle.least_input.specs.declared.least.Fixed.{Fixed}
use Rattle.least_input.proofs.Descents.{one_fixed, one_is, zero_found, zero_is, zero_kept}
use Rattle.least_input.proofs.descent.lower.Goals as goal

pub returns-then-not-is_one : goal.returns-then-not-is_one
returns-then-not-is_one c = λ base variables h.
    let d = c.args.descent.now in
    let v = c.args.variable in
    let few : v < 2 ^ 31 = (let there = c.requires.there in let small = c.requires.small in omega (arith, there, small)) in
    let after = c.add_unit.new.descent in
    let adds : Adds d (literal_of false v) after = subst (λ x. Adds d x after) (zero_is v c.negation.result c.requires.some few c.negation.ensures.value) c.in_ok-add_unit.ensures in
    let off : assignment d.model v ≡ false = sym (c.if-not-is_one.ensures ∙ ap (λ (m : List Bool). assignment m v) c.deref.ensures) in
    zero_kept base c.args.budget variables d v c.requires.some after h c.requires.there adds off

pub returns-in-Model : goal.returns-in-Model
returns-in-Model c = λ base variables h.
    let d = c.args.descent.now in
    let v = c.args.variable in
    let few : v < 2 ^ 31 = (let there = c.requires.there in let small = c.requires.small in omega (arith, there, small)) in
    let after = c.add_unit.new.descent in
    let adds : Adds d (literal_of false v) after = subst (λ x. Adds d x after) (zero_is v c.negation.result c.requires.some few c.negation.ensures.value) c.in_ok-add_unit.ensures in
    let model : IsModel after.formula c.in-Model.model = subst (IsOutcome after.formula c.args.budget) c.in-Model.is c.in_ok-model.ensures in
    zero_found base c.args.budget variables d v c.requires.some after c.in-Model.model h c.requires.there adds model

pub returns-in_ok-add_unit-in-Refuted : goal.returns-in_ok-add_unit-in-Refuted
returns-in_ok-add_unit-in-Refuted c = λ base variables h.
    let d = c.args.descent.now in
    let v = c.args.variable in
    let few : v < 2 ^ 31 = (let there = c.requires.there in let small = c.requires.small in omega (arith, there, small)) in
    let unset = c.add_unit.new.descent in
    let last = c.add_unit-in-Refuted.new.descent in
    let derivation = c.in-Refuted.derivation in
    let fixed = c.keep_part.new.descent.fixed in
    let part : Fixed = record { units = unset.units; derivation = derivation } in
    let adds : Adds d (literal_of false v) unset = subst (λ x. Adds d x unset) (zero_is v c.negation.result c.requires.some few c.negation.ensures.value) c.in_ok-add_unit.ensures in
    let on : assignment d.model v ≡ true = sym (c.if-not-is_one.ensures ∙ ap (λ (m : List Bool). assignment m v) c.deref.ensures) in
    let refutes = subst (IsOutcome unset.formula c.args.budget) c.in-Refuted.is c.in_ok-model.ensures in
    let kept = c.in_ok-keep_part-in-Refuted.ensures in
    let more : fixed ≡ d.fixed ++ part ∷ [] = ap (λ (x : Descent). x.fixed) kept ∙ ap (λ (xs : List Fixed). xs ++ part ∷ []) adds.fixed in
    let before : Descent = record d { fixed = fixed } in
    let with_unit : Adds before (literal_of false v) c.keep_part.new.descent = record {
      formula = ap (λ (x : Descent). x.formula) kept ∙ adds.formula;
      units = ap (λ (x : Descent). x.units) kept ∙ adds.units;
      model = ap (λ (x : Descent). x.model) kept ∙ adds.model;
      fixed = refl;
    } in
    let dropped : c.drop_unit.new.descent ≡ before = c.drop_unit.ensures before (literal_of false v) with_unit in
    let with_one : Adds c.drop_unit.new.descent (literal_of true v) last = subst (λ x. Adds c.drop_unit.new.descent x last) (one_is v few) c.in_ok-add_unit-in-Refuted.ensures in
    let one : Adds before (literal_of true v) last = subst (λ x. Adds x (literal_of true v) last) dropped with_one in
    one_fixed base c.args.budget variables d v c.requires.some unset last derivation fixed h c.requires.there on adds refutes.0 refutes.1 more one
