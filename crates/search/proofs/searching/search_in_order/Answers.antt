use Rattle.search.proofs.HistoryLaws.{spent_never}
use Rattle.search.proofs.searching.search_in_order.Goals as goal

pub returns-clause-enough : goal.returns-clause-enough
returns-clause-enough c = λ most. spent_never c.args.formula.now c.args.budget c.requires.formula most c.found_in_order.result c.found_in_order.ensures
