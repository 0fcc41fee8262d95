use Rattle.unwinder_reach.specs.reached.Searching.{IsBetween, work_of}
use Rattle.unwinder_reach.proofs.reached.search.search_from.Given as goal

abbrev pub invariant-pairs : goal.invariant-pairs
invariant-pairs l = IsBetween l.graph l.bounds l.fn.function l.search

abbrev pub decreases-pairs : goal.decreases-pairs
decreases-pairs l = work_of l.search
