use Rattle.search.proofs.HistoryLaws.{spent_never}
use Rattle.search.proofs.orders.search_whole.Goals as goal

pub returns-clause-enough : goal.returns-clause-enough
returns-clause-enough c = λ most. spent_never c.args.formula.now c.args.budget c.requires.formula most c.found_whole.result c.found_whole.ensures
