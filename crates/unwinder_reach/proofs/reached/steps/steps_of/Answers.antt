use Rattle.std.proofs.Common.{◌<◌, length, refl, sym, ◌∙◌, subst, arith}
use Rattle.std.proofs.lemmas.Option.{same_Some}
use Rattle.cfa.proofs.Eaches.{read_at}
use Rattle.unwinder_reach.specs.reached.Searching.{AreWays}
use Rattle.unwinder_reach.proofs.reached.StepLaws.{all_steps}
use Rattle.unwinder_reach.proofs.reached.steps.steps_of.Goals as goal

pub returns-clause-steps : goal.returns-clause-steps
returns-clause-steps c p own =
    let inside : c.args.from < length c.args.places.now.pairs.items = omega arith in
    let there = read_at c.args.places.now.pairs.items c.args.places.now.pairs.items refl c.args.from c.index.result.now inside c.index.ensures in
    let same = same_Some c.index.result.now p (sym there ∙ own) in
    all_steps c.args.graph.now c.args.bounds.now c.args.places.now.pairs.items p c.in_ok-ways.ways.items c.deref.result.now c.in_ok-steps.steps c.deref.ensures.value (subst (λ r. AreWays c.args.graph.now r c.in_ok-ways.ways.items) same c.in_ok-ways.ensures.all)
    (c.in_ok-steps.ensures.steps p own)
