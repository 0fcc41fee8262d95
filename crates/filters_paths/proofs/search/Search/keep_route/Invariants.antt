use Rattle.filters_paths.specs.Searching.{KeepsMarks}
use Rattle.filters_paths.proofs.search.Search.keep_route.Given as goal

abbrev pub invariant-loop : goal.invariant-loop
invariant-loop l = KeepsMarks l.initial.self l.self
