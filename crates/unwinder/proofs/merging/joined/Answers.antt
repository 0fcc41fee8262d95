use Rattle.std.proofs.Common.{◌∙◌, arith}
use Rattle.bit_words.proofs.Steps.{grows_then, grows_within}
use Rattle.sym_expr.proofs.ElementLemmas.{cells_later}
use Rattle.unwinder.proofs.merging.joined.Goals as goal

pub returns-in_err-guard-clause-grows : goal.returns-in_err-guard-clause-grows
returns-in_err-guard-clause-grows c = grows_within _ (grows_then c.chosen.ensures.grows c.either_guard.ensures.grows) (omega arith)

pub returns-clause-grows : goal.returns-clause-grows
returns-clause-grows c = grows_within _ (grows_then c.chosen.ensures.grows c.either_guard.ensures.grows) (omega arith)

pub returns-clause-value : goal.returns-clause-value
returns-clause-value c = λ w. cells_later c.either_guard.ensures.grows c.in_ok-store.store.cells c.in_ok-store.ensures.wires w ∙ c.in_ok-store.ensures.value w
