use Rattle.std.proofs.Common.{◌≡◌, Some, subst, arith}
use Rattle.std.specs.Prelude.{slice_get, slice_index_or}
use Rattle.std.proofs.lemmas.Option.{slice_get-get_or}
use Rattle.c_meaning.proofs.Outgoing.{outgoing_leaves}
use Rattle.c_meaning.proofs.stepping.onward.Goals as goal

pub along-requires-clause-leaves : goal.along-requires-clause-leaves
along-requires-clause-leaves c =
    let row = c.outgoing.result.now in
    outgoing_leaves c.args.graph.now c.args.state.now 0 (slice_index_or row 0 0) c.well_formed-2.ensures c.requires.inner (subst (λ r. slice_get r 0 ≡ Some (slice_index_or row 0 0)) c.outgoing.ensures (slice_get-get_or row 0 0 (omega arith)))

pub picked-requires-clause-yes_leaves : goal.picked-requires-clause-yes_leaves
picked-requires-clause-yes_leaves c =
    let row = c.outgoing.result.now in
    outgoing_leaves c.args.graph.now c.args.state.now 0 (slice_index_or row 0 0) c.well_formed-2.ensures c.requires.inner (subst (λ r. slice_get r 0 ≡ Some (slice_index_or row 0 0)) c.outgoing.ensures (slice_get-get_or row 0 0 (omega arith)))

pub picked-requires-clause-no_leaves : goal.picked-requires-clause-no_leaves
picked-requires-clause-no_leaves c =
    let row = c.outgoing.result.now in
    outgoing_leaves c.args.graph.now c.args.state.now 1 (slice_index_or row 1 0) c.well_formed-2.ensures c.requires.inner (subst (λ r. slice_get r 1 ≡ Some (slice_index_or row 1 0)) c.outgoing.ensures (slice_get-get_or row 1 0 (omega arith)))
