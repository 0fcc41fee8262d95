use Rattle.std.proofs.Common.{◌≡◌}
use Rattle.std.proofs.lemmas.Result.{err_from_is_err_and}
use Rattle.std.specs.Prelude.{Err}
use Rattle.fq_core.specs.Refusals.{refusal}
use Rattle.c_front.proofs.typed_sources.Causes.{edges_refused, no_automaton}
use Rattle.c_front.proofs.typed_sources.Refusals.{handed_on}
use Rattle.c_front.proofs.typed_sources.lowered.lowered_of_texts.Goals as goal

pub returns-in_err-typed-clause-refused : goal.returns-in_err-typed-clause-refused
returns-in_err-typed-clause-refused c = λ code p is.
    let from = err_from_is_err_and c.from_residual.result c.from_residual.ensures.1 in
    no_automaton c.args.texts.now code p
    (c.typed_of_texts.ensures.refused code p (handed_on c.args.texts.now _ c.from_residual.result code p is from.0 _ from.1 from.2 _ c.typed_of_texts.result c.in_err-typed.was))

pub returns-in_err-graph-clause-refused : goal.returns-in_err-graph-clause-refused
returns-in_err-graph-clause-refused c = λ code p is.
    let from = err_from_is_err_and c.from_residual-in_err-graph.result c.from_residual-in_err-graph.ensures.1 in
    let same : c.lower.result ≡ Err (refusal code p) =
    handed_on c.args.texts.now _ c.from_residual-in_err-graph.result code p is from.0 _ from.1 from.2 _ c.lower.result c.in_err-graph.was in
    edges_refused c.args.texts.now c.in_ok-typed.typed c.in_ok-names.names c.in_ok-typed.ensures.accepted c.in_ok-names.ensures code p
    (rw same at c.lower.ensures.err)
