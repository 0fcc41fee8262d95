use Rattle.suite.proofs.Models.{has_made}
use Rattle.command.proofs.GivesLaws.{ok_tells}
use Rattle.command.proofs.GoalLaws.{covered_said, has_words}
use Rattle.command.proofs.prove.covered.Goals as goal

pub replay-requires : goal.replay-requires
replay-requires c =
    let g = c.args.sought.now.goal.given.now in
    let made = c.requires.1 in
    has_made g.planned.entry.graph.now g.planned.predicates g.planned.entry.function.now g.bounds g.ends c.args.input.now made.run g.planned.entry.startable made.made

pub proved_text-requires : goal.proved_text-requires
proved_text-requires c = rw c.goal-goal.ensures (has_words _ _ _ _ _ _ _ _ c.requires.1 _ c.args.sought.now.goal.given.now.planned.entry.there)

pub returns : goal.returns
returns c =
    let x = c.args.sought.now.goal in
    let g = x.given.now in
    ok_tells c.proved_text.result _ _ (rw (c.deref.ensures, c.goal-goal.ensures) at c.proved_text.ensures) (λ text is. λ one made.
    covered_said g.planned.entry.graph.now g.planned.entry.function.now g.planned.predicates g.planned.plan g.bounds g.ends one c.args.input.now made
    g.planned.entry.number x.number _ text.items is c.in_ok-run.ensures)
