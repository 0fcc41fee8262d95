use Rattle.std.proofs.Common.{◌≡◌, ap}
use Rattle.cfa.proofs.Exits.{given}
use Rattle.cfa.specs.declared.parts.Function.{Function}
use Rattle.filters_paths.specs.Borders.{function_node}
use Rattle.filters_paths.proofs.BorderLaws.{read_within, within_by}
use Rattle.filters_paths.proofs.borders.function_node.Goals as goal

pub returns-in-Start-clause-within : goal.returns-in-Start-clause-within
returns-in-Start-clause-within c =
    let there = read_within _ _ c.functions.ensures c.args.number c.index-functions-number.result c.requires c.index-functions-number.is in
    within_by c.args.graph.now.nodes _ _ (c.well_formed-2.ensures.rest.functions c.args.number c.index-functions-number.result there).entry

pub returns-in-End-clause-within : goal.returns-in-End-clause-within
returns-in-End-clause-within c =
    let there = read_within _ _ c.functions.ensures c.args.number c.index-functions-number.result c.requires c.index-functions-number.is in
    within_by c.args.graph.now.nodes _ _ (c.well_formed-2.ensures.rest.functions c.args.number c.index-functions-number.result there).exit

pub returns-in-End-clause-node : goal.returns-in-End-clause-node
returns-in-End-clause-node c =
    let there = read_within _ _ c.functions.ensures c.args.number c.index-functions-number.result c.requires c.index-functions-number.is in
    given (λ (f : Function). function_node c.args.border f ≡ c.index-functions-number.result.exit) _ c.index-functions-number.result there (ap (λ b. function_node b c.index-functions-number.result) c.in-End.is)
