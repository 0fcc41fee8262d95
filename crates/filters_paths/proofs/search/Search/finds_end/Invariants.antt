use Rattle.std.proofs.Common.{◌≡◌, true}
use Rattle.filters_paths.specs.Searching.{IsSearching, is_past}
use Rattle.filters_paths.proofs.search.Search.finds_end.Given as goal

abbrev pub invariant-loop : goal.invariant-loop
invariant-loop l = record {
  state : IsSearching l.graph l.ends l.left (λ n. ⊥) l.self;
  from : is_past l.self l.from ≡ true;
}
