use Rattle.std.proofs.Common.{◌≡◌, length, ap, ◌∙◌}
use Rattle.std.proofs.lemmas.List.{length-map}
use Rattle.std.proofs.lemmas.Result.{err_from_is_err_and}
use Rattle.c_front.specs.Automata.{at_types}
use Rattle.c_front.proofs.Refusals.{edges_refused, handed_on}
use Rattle.c_front.proofs.automaton.automaton.Goals as goal

pub returns-in_err-typed-clause-refused : goal.returns-in_err-typed-clause-refused
returns-in_err-typed-clause-refused c = λ code p is.
    let from = err_from_is_err_and c.from_residual-in_err-typed.result c.from_residual-in_err-typed.ensures.1 in
    at_types c.in_ok-unit.unit.items c.in_ok-unit.ensures.accepted
    (c.check.ensures.refused code p (handed_on c.args.texts.now _ c.from_residual-in_err-typed.result code p is from.0 _ from.1 from.2 _ c.check.result c.in_err-typed.was))

pub lower-requires : goal.lower-requires
lower-requires c =
    let unit = c.in_ok-unit.ensures.accepted in
    let long : length c.in_ok-names.names ≡ length c.args.texts.now = ap length c.in_ok-names.ensures ∙ length-map c.args.texts.now _ in
    rw (c.in_ok-typed.ensures.accepted.tree, long)
    (c.units_of_texts_fit.ensures c.args.texts.now unit.tokens c.in_ok-unit.unit.items unit.cut unit.unit.spelled c.in_ok-typed.ensures.accepted.faultless)

pub returns-clause-refused : goal.returns-clause-refused
returns-clause-refused c = λ code p is.
    edges_refused c.args.texts.now c.in_ok-unit.unit.items c.in_ok-typed.typed c.in_ok-names.names code p c.in_ok-unit.ensures.accepted
    c.in_ok-typed.ensures.accepted c.in_ok-names.ensures (rw is at c.lower.ensures.err)
