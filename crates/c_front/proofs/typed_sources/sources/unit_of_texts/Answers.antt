use Rattle.std.proofs.lemmas.Result.{err_from_is_err_and}
use Rattle.c_front.specs.typed_sources.Trees.{at_unit}
use Rattle.c_front.proofs.typed_sources.Refusals.{tokens_refused}
use Rattle.c_front.proofs.typed_sources.sources.unit_of_texts.Goals as goal

pub returns-in_err-tokens-clause-refused : goal.returns-in_err-tokens-clause-refused
returns-in_err-tokens-clause-refused c = λ code p is.
    let from = err_from_is_err_and c.from_residual.result c.from_residual.ensures.1 in
    tokens_refused c.args.texts.now _ c.from_residual.result code p is from.0 _ from.1 from.2 c.in_err-tokens.ensures

pub returns-clause-refused : goal.returns-clause-refused
returns-clause-refused c = λ code p is.
    at_unit c.in_ok-tokens.tokens.items c.in_ok-tokens.ensures (rw c.as_slice.ensures.value at (c.parse.ensures.refused code p is))
