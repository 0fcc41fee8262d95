use Rattle.std.proofs.Common.{◌≤◌, length, ap, arith}
use Rattle.std.proofs.lemmas.Result.{err_from_is_err_and}
use Rattle.command.specs.Inputs.{at_read, most_inputs}
use Rattle.command.proofs.DueLaws.{ok_map}
use Rattle.command.proofs.InputsLaws.{inputs_as}
use Rattle.command.proofs.DueLaws.{can_start}
use Rattle.command.proofs.ReadsLaws.{refused_map}
use Rattle.command.proofs.inputs.read_inputs.Goals as goal

pub returns-in_err-bytes-clause-answer : goal.returns-in_err-bytes-clause-answer
returns-in_err-bytes-clause-answer g c =
    let p = err_from_is_err_and c.from_residual.result c.from_residual.ensures.1 in
    rw (p.1, p.2) (refused_map c.in_err-bytes.field-0.0 c.in_err-bytes.ensures.unread (λ x unread. at_read unread))

pub returns-clause-answer : goal.returns-clause-answer
returns-clause-answer g c =
    let short : length c.in_ok-bytes.bytes.items ≤ most_inputs = omega (arith, ap length c.deref.ensures.value, c.deref.ensures.len, c.in_ok-bytes.ensures.short) in
    let ok = rw (c.deref.ensures.value, c.in_ok-parameters.ensures) at c.inputs.ensures.ok in
    let refused = rw (c.deref.ensures.value, c.in_ok-parameters.ensures) at c.inputs.ensures.refused in
    inputs_as _ _ _ c.in_ok-bytes.bytes.items c.in_ok-bytes.ensures.held short c.inputs.result ok refused

pub returns-clause-start : goal.returns-clause-start
returns-clause-start g c =
    ok_map c.inputs.result c.inputs.ensures.words (λ given words. can_start c.args.entry.now.function.now _ _ c.in_ok-parameters.ensures c.args.entry.now.startable words)
