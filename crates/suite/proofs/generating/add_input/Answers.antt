use Rattle.suite.proofs.Models.{has_made}
use Rattle.suite.proofs.generating.add_input.Goals as goal

pub run_of-requires : goal.run_of-requires
run_of-requires c =
    let g = c.args.sought.now.goal.given.now in
    let e = g.planned.entry in
    let made = c.requires.input.1 in
    has_made e.graph.now g.planned.predicates e.function.now g.bounds g.ends c.args.input made.run e.startable made.made
