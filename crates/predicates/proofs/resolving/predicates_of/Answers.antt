use Rattle.std.proofs.Common.{◌≤◌, length, arith}
use Rattle.fq_core.specs.declared.refusal.Place.TheVariants as place
use Rattle.predicates.specs.Outcome.{most, nowhere, too_many, unread}
use Rattle.predicates.proofs.OneOutcome.{refused_with}
use Rattle.predicates.proofs.resolving.predicates_of.Goals as goal

pub returns-then-len-gt-MOST : goal.returns-then-len-gt-MOST
returns-then-len-gt-MOST c =
    refused_with c.args.graph.now c.args.texts.now c.refusal.result 67 (place.Limit most) c.refusal.ensures (too_many (omega arith))

pub returns-in_default : goal.returns-in_default
returns-in_default c =
    let few : length c.args.texts.now ≤ most = omega arith in
    let one = rw c.in_default.is at c.in_ok-trees.ensures in
    refused_with c.args.graph.now c.args.texts.now c.refusal-in_default.result 65 place.QueryWhole c.refusal-in_default.ensures
    (unread few (rw c.deref.ensures at one))

pub returns-in_default-2 : goal.returns-in_default-2
returns-in_default-2 c =
    let few : length c.args.texts.now ≤ most = omega arith in
    let read = rw c.in-Some.is at c.in_ok-trees.ensures in
    let none = rw c.in_default-2.is at c.in_ok-meanings.ensures in
    refused_with c.args.graph.now c.args.texts.now c.refusal-in_default-2.result 66 place.QueryWhole c.refusal-in_default-2.ensures
    (nowhere c.in-Some.trees.items few (rw c.deref.ensures at read) (rw c.deref-2.ensures.value at none))
