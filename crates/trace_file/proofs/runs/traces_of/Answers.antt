use Rattle.std.proofs.Common.{◌∙◌, ◌++◌, ◌∷◌, [], ap, append_assoc, refl, sym, arith}
use Rattle.std.specs.Prelude.{slice_get}
use Rattle.trace_file.proofs.RunLaws.{first_wrong, one_more}
use Rattle.trace_file.proofs.runs.traces_of.Goals as goal

pub loop-line-preserved : goal.loop-line-preserved
loop-line-preserved c =
    let o = slice_get c.args.graph.now.functions c.args.entry in
    let run = rw c.in-Some-2.is at c.in_ok-run.ensures in
    record {
      each = rw (c.in_ok-push-in-Some-2.ensures.items, c.with_run.ensures)
          (one_more c.args.graph.now c.args.predicates.now c.args.ends o c.loop-line.yielded c.loop-line.traces.items c.in-Some.line (record { input = c.in-Some.line.input; run = c.in-Some-2.run' }) c.loop-line.invariant.each run refl);
      all = c.loop-line.invariant.all ∙ ap (λ rest. c.loop-line.yielded ++ rest) c.in-Some.ensures.steps.0 ∙ sym (append_assoc c.loop-line.yielded (c.in-Some.line ∷ []) c.next.new.self.rest.items);
    }

pub returns-in-None-2-clause-refused : goal.returns-in-None-2-clause-refused
returns-in-None-2-clause-refused c =
    first_wrong c.args.graph.now c.args.predicates.now c.args.ends (slice_get c.args.graph.now.functions c.args.entry) c.args.lines.items c.loop-line.yielded c.loop-line.traces.items c.in-Some.line c.next.new.self.rest.items _ c.refused_at.result
    c.loop-line.invariant.each (rw c.in-None-2.is at c.in_ok-run.ensures) (c.loop-line.invariant.all ∙ ap (λ rest. c.loop-line.yielded ++ rest) c.in-Some.ensures.steps.0) (omega (arith, c.len-number.ensures)) c.refused_at.ensures
