use Rattle.std.proofs.Common.{◌≡◌, drop}
use Rattle.std.specs.Prelude.{find}
use Rattle.fql_tokens.specs.Spelling.{is_written, filter_spelling}
use Rattle.fql_tokens.proofs.spelling.filter_among.Given as goal

abbrev pub invariant-loop-filter : goal.invariant-loop-filter
invariant-loop-filter l = find (λ f. is_written (filter_spelling f) l.text) (drop l.filter-index l.filters) ≡ find (λ f. is_written (filter_spelling f) l.text) l.filters
