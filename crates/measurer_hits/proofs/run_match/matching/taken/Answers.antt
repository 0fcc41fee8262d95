use Rattle.std.proofs.Common.{[], length, refl, ap, arith}
use Rattle.measurer_hits.proofs.run_match.Taken.{first_stands, more_stands, settled, all_taken}
use Rattle.measurer_hits.proofs.run_match.matching.taken.Goals as goal

pub loop-at-init : goal.loop-at-init
loop-at-init c = (c.in_ok-reach.ensures.reach, first_stands _ _ _ c.args.path.now c.step.result c.step.ensures c.in_ok-reach.ensures.stands)

pub returns-then-is_settled : goal.returns-then-is_settled
returns-then-is_settled c = λ pattern first last of.
    let nodes = c.nodes-at-end.ensures.path.nodes_fit in
    let size = ap length c.nodes-at-end.ensures.nodes in
    let lt = c.loop-at-test.true in
    let found = c.is_settled.ensures c.if-is_settled.true pattern first last _ of c.loop-at.invariant.1 [] in
    (λ e. settled pattern first last c.args.path.now c.loop-at.at (omega arith) found, λ h. refl)

pub loop-at-preserved : goal.loop-at-preserved
loop-at-preserved c = (c.advance.ensures.reach, more_stands _ _ _ c.args.path.now c.step-in-loop-at.result c.loop-at.at c.step-in-loop-at.ensures (c.in_ok-advance.ensures.stands _ c.loop-at.invariant.1))

pub returns : goal.returns
returns c = λ pattern first last of.
    let nodes = c.nodes-at-end.ensures.path.nodes_fit in
    let size = ap length c.nodes-at-end.ensures.nodes in
    let ge = c.loop-at-test.false in
    all_taken pattern first last c.args.path.now c.accepted.result c.loop-at.at (omega arith) (c.accepted.ensures.value pattern first last _ of c.loop-at.invariant.1)
