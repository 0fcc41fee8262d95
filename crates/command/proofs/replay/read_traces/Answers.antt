use Rattle.std.proofs.Common.{◌≤◌, length, arith}
use Rattle.std.proofs.lemmas.Result.{err_from_is_err_and}
use Rattle.command.specs.TraceFile.{at_read, most_trace_bytes}
use Rattle.command.proofs.BoundsLaws.{some_function}
use Rattle.command.proofs.ReadsLaws.{refused_map}
use Rattle.command.proofs.TraceFileLaws.{traces_as}
use Rattle.command.proofs.replay.read_traces.Goals as goal

pub returns-in_err-bytes : goal.returns-in_err-bytes
returns-in_err-bytes g c =
    let p = err_from_is_err_and c.from_residual.result c.from_residual.ensures.1 in
    rw (p.1, p.2) (refused_map c.in_err-bytes.field-0.0 c.in_err-bytes.ensures.unread (λ x unread. at_read unread))

pub read_trace-requires-clause-start : goal.read_trace-requires-clause-start
read_trace-requires-clause-start g c =
    let e = c.args.planned.now.entry in
    some_function e.graph.now e.number e.function.now e.there e.startable

pub returns : goal.returns
returns g c =
    let short : length c.in_ok-bytes.bytes.items ≤ most_trace_bytes = omega (arith, c.in_ok-bytes.ensures.short) in
    traces_as _ c.args.planned.now c.args.ends c.args.file.now c.in_ok-bytes.bytes.items c.in_ok-bytes.ensures.held short c.read_trace.result
    (rw c.deref.ensures.value at c.read_trace.ensures.ok) (rw c.deref.ensures.value at c.read_trace.ensures.refused)
