use Rattle.std.proofs.Common.{false, arith, get_or}
use Rattle.std.proofs.lemmas.List.{get_or_default}
use Rattle.std.proofs.lemmas.List.Sums.{sum_by_more_le}
use Rattle.c_values.specs.declared.kinds.Kind.{Kind}
use Rattle.goal_formula.proofs.Rooted.{word_rows_more}
use Rattle.goal_formula.proofs.encoding.word_rows.Goals as goal

pub loop-kind-preserved : goal.loop-kind-preserved
loop-kind-preserved c =
    let none : Kind = record { width = 0; signed = false } in
    let lt = c.loop-kind-test.true in
    let most = sum_by_more_le (λ (k : Kind). k.width) c.args.parameters.now c.loop-kind.kind-index none lt in
    let place = c.loop-kind.invariant.place in
    let within = c.requires in
    rw c.in_ok-push.ensures.ok
    (word_rows_more c.args.bits.now c.args.parameters.now c.loop-kind.kind-index c.loop-kind.from c.loop-kind.rows c.in_ok-row.field-0 (get_or c.args.parameters.now c.loop-kind.kind-index none) lt (get_or_default c.args.parameters.now c.loop-kind.kind-index none _ lt)
    (omega (arith, most, place, within)) c.in_ok-row.ensures c.loop-kind.invariant)
