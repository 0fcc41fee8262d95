use Rattle.std.proofs.Common.{◌≡◌, ◌++◌, ◌∷◌, [], ap, append-nil, append_assoc, sym, ◌∙◌, arith}
use Rattle.std.proofs.lemmas.List.{nil_from_length}
use Rattle.command.specs.Entries.{seen}
use Rattle.command.proofs.TracesLaws.{edges_after, have_words, own_kinds, too_many, trace_kept}
use Rattle.command.proofs.traces.trace_inputs.Goals as goal

pub loop-input-preserved : goal.loop-input-preserved
loop-input-preserved c =
    let is = rw (c.new.ensures, c.new-2.ensures) at c.in_ok-run.ensures in
    let more = edges_after c.args.entry.now.graph.now (seen c.args.entry.now) c.args.ends c.args.steps c.loop-input.yielded c.in-Some.input c.in_ok-run.run' is in
    record {
      all = c.loop-input.invariant.all ∙ ap (λ rest. c.loop-input.yielded ++ rest) c.in-Some.ensures.steps.0 ∙ sym (append_assoc c.loop-input.yielded (c.in-Some.input ∷ []) c.next.new.self.rest.items);
      few = omega arith;
      listed = omega (arith, c.loop-input.invariant.listed, c.len.ensures, more);
      traces = trace_kept c.args.entry.now.graph.now (seen c.args.entry.now) c.args.ends c.args.steps c.loop-input.yielded c.in-Some.input c.in_ok-run.run' c.loop-input.traces.items _ c.in_ok-keep_counted.ensures c.loop-input.invariant.traces is;
    }

pub returns-then-listed-gt-MOST_LISTED : goal.returns-then-listed-gt-MOST_LISTED
returns-then-listed-gt-MOST_LISTED c =
    let is = rw (c.new.ensures, c.new-2.ensures) at c.in_ok-run.ensures in
    let more = edges_after c.args.entry.now.graph.now (seen c.args.entry.now) c.args.ends c.args.steps c.loop-input.yielded c.in-Some.input c.in_ok-run.run' is in
    let all = c.loop-input.invariant.all ∙ ap (λ rest. c.loop-input.yielded ++ rest) c.in-Some.ensures.steps.0 ∙ sym (append_assoc c.loop-input.yielded (c.in-Some.input ∷ []) c.next.new.self.rest.items) in
    rw (c.too_many_edges.ensures, all) (λ names. sym (too_many c.args.entry.now.graph.now (seen c.args.entry.now) c.args.ends c.args.steps (c.loop-input.yielded ++ c.in-Some.input ∷ []) c.next.new.self.rest.items names
    (omega (arith, c.if-listed-gt-MOST_LISTED.true, c.loop-input.invariant.listed, c.len.ensures, more))))

pub trace_text-requires-clause-words : goal.trace_text-requires-clause-words
trace_text-requires-clause-words c =
    let rest = c.loop-input.input-iterator.rest in
    let none : rest.items ≡ [] = nil_from_length rest.items (omega (arith, c.in-None.ensures.steps.0, rest.ok.0)) in
    let all = c.loop-input.invariant.all ∙ ap (λ items. c.loop-input.yielded ++ items) none ∙ append-nil c.loop-input.yielded in
    let start = rw all at c.requires in
    rw (c.deref.ensures.value, c.deref-2.ensures, c.loop-input.invariant.traces)
    (have_words c.args.entry.now.graph.now (seen c.args.entry.now) c.args.ends c.args.steps c.loop-input.yielded start)

pub trace_text-requires-clause-kinds : goal.trace_text-requires-clause-kinds
trace_text-requires-clause-kinds c =
    rw c.deref-2.ensures (own_kinds c.args.entry.now.graph.now c.well_formed-2.ensures c.args.entry.now.number c.args.entry.now.function.now c.args.entry.now.there)
