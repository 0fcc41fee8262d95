-- What the proofs about filters share.
use Rattle.std.proofs.Common.{◌≡◌, rules}
use Rattle.cfa.specs.declared.parts.GraphParts.{GraphParts}
use Rattle.fql_read.specs.declared.filter.Filter.{Filter, out-Filter}
use Rattle.fql_read.specs.declared.filter.FilterForm.{the_lemmas}
use Rattle.filters.specs.Kept.{kept_by, kept_by_form}
use Rattle.filters.specs.Parts.{Part}

pub ruleset filter_laws = (the_lemmas)

-- a filter keeps what its form does
pub kept_form : (parts : GraphParts) (f : Filter) (x : Part) → kept_by parts f x ≡ kept_by_form parts (out-Filter f).form x
unfolding kept_by kept_by_form
kept_form parts f x = search (rules, filter_laws)
