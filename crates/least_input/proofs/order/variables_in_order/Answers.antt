use Rattle.std.proofs.Common.{◌≡◌, ◌++◌, ◌∙◌, sym, reverse}
use Rattle.std.specs.List.{filter_map, flat_map}
use Rattle.std.proofs.lemmas.List.Elements.{filter_map-append}
use Rattle.least_input.proofs.order.variables_in_order.Goals as goal

pub returns : goal.returns
returns c =
    let words = flat_map reverse c.args.formula.now.words in
    let answers = flat_map reverse c.args.formula.now.answers in
    let first : c.add_rows.new.variables.items ≡ filter_map (λ v. v) words = c.in_ok-add_rows.ensures ∙ (λ i. c.new-variables.ensures.items i ++ filter_map (λ v. v) (flat_map reverse (c.deref.ensures i))) in
    c.in_ok-add_rows-2.ensures ∙ (λ i. first i ++ filter_map (λ v. v) (flat_map reverse (c.deref-2.ensures i))) ∙ sym (filter_map-append (λ v. v) words answers)
