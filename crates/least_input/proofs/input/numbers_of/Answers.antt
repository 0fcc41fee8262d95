use Rattle.std.proofs.Common.{◌≡◌, All, List, map, sym, ap, subst, ◌∙◌}
use Rattle.std.proofs.lemmas.Result.{IfOk-weaker}
use Rattle.c_meaning.specs.declared.input.Input.{Input}
use Rattle.c_values.specs.Kind.{IsKind}
use Rattle.c_values.specs.declared.kinds.Kind.{Kind}
use Rattle.goal_formula.specs.Bits.{assignment, input_from}
use Rattle.least_input.specs.Parts.{numbers_in}
use Rattle.least_input.proofs.Numbers.{input_is, widths_same, without_sign_kinds}
use Rattle.least_input.proofs.input.numbers_of.Goals as goal

pub input_of-requires-clause-kinds : goal.input_of-requires-clause-kinds
input_of-requires-clause-kinds c = subst (All IsKind) (sym (c.deref.ensures.value ∙ c.in_ok-kinds.ensures)) (without_sign_kinds c.args.kinds.now c.requires.kinds)

pub input_of-requires-clause-words : goal.input_of-requires-clause-words
input_of-requires-clause-words c =
    let is = c.deref.ensures.value ∙ c.in_ok-kinds.ensures in
    c.requires.words ∙ sym (widths_same c.args.kinds.now) ∙ ap (map (λ (kind : Kind). kind.width)) (sym is)

pub returns : goal.returns
returns c =
    let value = assignment c.args.model.now in
    let g = c.args.formula.now in
    let is = c.deref.ensures.value ∙ c.in_ok-kinds.ensures in
    IfOk-weaker c.input_of.result (λ (x : Input). x ≡ input_from value c.deref.result.now g) (λ (x : Input). x ≡ numbers_in value g)
    (λ x e. e ∙ ap (λ (kinds : List Kind). input_from value kinds g) is ∙ input_is value c.args.kinds.now g c.requires.words c.requires.kinds) c.input_of.ensures
