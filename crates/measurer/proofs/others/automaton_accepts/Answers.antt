use Rattle.std.proofs.Common.{length, ap, arith}
use Rattle.measurer.proofs.FirstPlaces.{never_opened, opened}
use Rattle.measurer.proofs.others.automaton_accepts.Goals as goal

pub returns-then-start-edges : goal.returns-then-start-edges
returns-then-start-edges c = λ pattern first last of opens.
    let size = ap length c.edges.ensures.edges in
    let far = c.if-start-edges.true in
    never_opened c.args.opening c.in-Some.edge c.first_state-start.result first last pattern c.args.path.now c.in-Some.is opens c.first_state-start.ensures (omega arith)

pub returns : goal.returns
returns c = λ pattern first last of opens.
    let size = ap length c.edges.ensures.edges in
    let near = c.if-start-edges.false in
    opened c.args.opening c.in-Some.edge c.first_state-start.result first last pattern c.args.path.now c.in-Some.is opens c.first_state-start.ensures
    c.has_match-2.result c.starting_at.result (omega arith) c.starting_at.ensures (c.has_match-2.ensures pattern first last of)
