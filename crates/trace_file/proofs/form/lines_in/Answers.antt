use Rattle.std.proofs.Common.{◌+◌, ◌∙◌, sym, ap, arith}
use Rattle.fq_core.specs.declared.refusal.Fault.TheVariants as fault
use Rattle.trace_file.specs.Form.{lines_from}
use Rattle.trace_file.specs.Reading.{line_place, refused_at}
use Rattle.trace_file.proofs.FormLaws.{line_here, other_form, other_here, split}
use Rattle.trace_file.proofs.form.lines_in.Goals as goal

pub returns-in-None-clause-refused : goal.returns-in-None-clause-refused
returns-in-None-clause-refused c =
    let whole = lines_from c.args.parameters 2 (split c.args.text.now) in
    let number = c.loop-rest.lines.len + 2 in
    other_form whole number c.refused_at-in-None.result
    (other_here c.args.parameters c.loop-rest.lines.items whole c.loop-rest.rest.now number c.loop-rest.invariant c.in-Some.line.now c.in-Some.more.now c.in-Some.ensures.lines (sym c.in-None.is ∙ c.in_ok-line.ensures))
    (c.refused_at-in-None.ensures ∙ ap (λ n. fault.Refused (refused_at 55 (line_place (n + 2)))) c.len-number.ensures)

pub loop-rest-preserved : goal.loop-rest-preserved
loop-rest-preserved c =
    let whole = lines_from c.args.parameters 2 (split c.args.text.now) in
    let number = c.loop-rest.lines.len + 2 in
    rw (c.in_ok-push-in-Some-2.ensures.items, c.in_ok-push-in-Some-2.ensures.len)
    (line_here c.args.parameters c.loop-rest.lines.items whole c.loop-rest.rest.now number c.loop-rest.invariant c.in-Some.line.now c.in-Some.more.now c.in-Some.ensures.lines c.in-Some-2.line (c.loop-rest.lines.len + 1 + 2) (sym c.in-Some-2.is ∙ c.in_ok-line.ensures) (omega arith))
