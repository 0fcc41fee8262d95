use Rattle.std.proofs.Common.{sym, ◌∙◌}
use Rattle.filters_paths.proofs.SearchLaws.{keeps_search, no_way}
use Rattle.filters_paths.proofs.search.Search.reaches_end.Goals as goal

pub returns-then-is_dead-clause-none : goal.returns-then-is_dead-clause-none
returns-then-is_dead-clause-none c = λ never.
    let search = keeps_search c.args.graph.now c.args.ends.now c.args.left.now c.args.self.now c.goes_on_by.new.self c.requires.search c.goes_on_by.ensures in
    no_way c.args.graph.now c.args.ends.now c.args.left.now c.goes_on_by.new.self search c.args.from (sym c.is_dead.ensures ∙ c.if-is_dead.true)
