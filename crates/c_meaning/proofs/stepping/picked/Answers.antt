use Rattle.cfa.proofs.Exits.{taken}
use Rattle.std.proofs.Common.{sym, ◌∙◌, subst}
use Rattle.std.specs.Prelude.{slice_get}
use Rattle.std.proofs.lemmas.Option.{same_Some}
use Rattle.c_meaning.specs.Places.{Leaves}
use Rattle.c_meaning.proofs.Operands.{operands_of}
use Rattle.c_meaning.proofs.stepping.picked.Goals as goal

pub value_in-requires-clause-fits : goal.value_in-requires-clause-fits
value_in-requires-clause-fits c =
    let l = taken (Leaves c.args.graph.now c.args.state.now c.args.yes_at) (slice_get c.args.graph.now.edges c.args.yes_at) c.requires.yes_leaves in
    let same = same_Some l.0 c.edge_of.result.now (sym l.1 ∙ c.edge_of.ensures) in
    let leaves : Leaves c.args.graph.now c.args.state.now c.args.yes_at c.edge_of.result.now = subst (Leaves c.args.graph.now c.args.state.now c.args.yes_at) same l.2 in
    operands_of c.args.graph.now c.args.state.now c.args.yes_at c.edge_of.result.now _ c.well_formed-2.ensures c.requires.state leaves c.in-Guard.is
