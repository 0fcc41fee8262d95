use Rattle.std.proofs.Common.{◌∷◌, [], ap, subst, length, length-append, arith}
use Rattle.measurer_index.specs.word_index.Groups.{IsNarrowed}
use Rattle.measurer_index.specs.word_index.Tables.{root, step}
use Rattle.measurer_index.proofs.word_index.Begun.{begun_more}
use Rattle.measurer_index.proofs.word_index.tables.begun.Goals as goal

pub loop-number-preserved : goal.loop-number-preserved
loop-number-preserved c =
    let pushed = c.in_ok-push.ensures.ok in
    let long = ap length pushed in
    let narrowed : IsNarrowed c.args.goals.now c.args.order.now (step c.args.edges c.loop-number.number) (root c.args.order.now c.args.absents) c.in_ok-group.group =
    subst (λ l. IsNarrowed c.args.goals.now c.args.order.now l (root c.args.order.now c.args.absents) c.in_ok-group.group) c.step.ensures
    (subst (λ g. IsNarrowed c.args.goals.now c.args.order.now c.step.result g c.in_ok-group.group) c.root-all.ensures c.in_ok-group.ensures)
    in
    record {
      length = omega (arith, long, length-append c.loop-number.groups (c.in_ok-group.group ∷ []), c.loop-number.invariant.length);
      begun = begun_more c.args.goals.now c.args.order.now c.args.absents c.args.edges c.loop-number.groups _ c.loop-number.number c.in_ok-group.group c.loop-number.invariant.length c.loop-number.invariant.begun narrowed pushed;
    }

pub returns : goal.returns
returns c = record {
  at = c.loop-number.invariant.begun;
  all = λ g n e. let below = c.in_ok-number-end.ensures g n e in omega (arith, below, c.loop-number-test.false, c.loop-number.invariant.length);
}
