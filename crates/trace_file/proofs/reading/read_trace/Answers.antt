use Rattle.std.proofs.Common.{◌≤◌, length, arith}
use Rattle.std.specs.Prelude.{slice_get}
use Rattle.std.specs.Option.{IsSomeAnd}
use Rattle.std.proofs.lemmas.Result.{IfOk-weaker}
use Rattle.trace_file.specs.Reading.{HasWrongLine, IsRefused, most_traces}
use Rattle.trace_file.proofs.ReadLaws.{can_start, file_is, refused_weaker, wrong_is}
use Rattle.trace_file.proofs.reading.read_trace.Goals as goal

pub traces_of-requires-clause-start : goal.traces_of-requires-clause-start
traces_of-requires-clause-start c =
    can_start c.args.graph.now c.args.predicates.now c.args.ends c.args.bytes.now c.parameter_count-parameters.result (slice_get c.args.graph.now.functions c.args.entry) c.in_ok-lines.lines.items c.requires.start
    c.parameter_count-parameters.ensures c.in_ok-lines.ensures.ok

pub returns-clause-ok : goal.returns-clause-ok
returns-clause-ok c =
    let few : length c.in_ok-lines.lines.items ≤ most_traces = omega arith in
    IfOk-weaker c.traces_of.result _ _ (λ traces each. file_is c.args.graph.now c.args.predicates.now c.args.ends c.args.bytes.now c.parameter_count-parameters.result (slice_get c.args.graph.now.functions c.args.entry) c.in_ok-lines.lines.items traces.items
    c.parameter_count-parameters.ensures c.in_ok-lines.ensures.ok few each) c.traces_of.ensures.ok

pub returns-clause-refused : goal.returns-clause-refused
returns-clause-refused c =
    let few : length c.in_ok-lines.lines.items ≤ most_traces = omega arith in
    let o = slice_get c.args.graph.now.functions c.args.entry in
    refused_weaker c.traces_of.result (λ refusal. IsSomeAnd o (λ f. HasWrongLine c.args.graph.now f c.args.ends c.in_ok-lines.lines.items refusal)) (λ refusal. IsSomeAnd o (λ f. IsRefused c.args.graph.now f c.args.ends c.args.bytes.now refusal))
    (λ refusal wrong. wrong_is c.args.graph.now c.args.predicates.now c.args.ends c.args.bytes.now c.parameter_count-parameters.result o c.in_ok-lines.lines.items refusal c.parameter_count-parameters.ensures c.in_ok-lines.ensures.ok few wrong)
    c.traces_of.ensures.refused
