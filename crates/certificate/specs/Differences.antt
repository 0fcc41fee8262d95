-- What differs first in two formulas.
use Rattle.std.specs.Prelude.{◌≡◌, ◌≢◌, ◌-◌, ◌≤◌, take, slice_get, Option, None, Some}
use Rattle.cnf.specs.declared.formula.Formula.{Formula}
use Rattle.certificate.specs.declared.difference.Difference.{Difference}
use Rattle.certificate.specs.declared.difference.Difference.TheVariants as first

-- none, where they are one formula; their numbers of variables, where these differ; else the first clause, from 1, at which the lists differ
abbrev pub IsFirstDifference : Formula → Formula → Option Difference → Type 0
IsFirstDifference theirs ours None = theirs ≡ ours
IsFirstDifference theirs ours (Some (first.Variables t o)) = (t ≡ theirs.variables) × (o ≡ ours.variables) × (t ≢ o)
IsFirstDifference theirs ours (Some (first.ClauseAt index)) =
    (theirs.variables ≡ ours.variables) × (1 ≤ index) × (take (index - 1) theirs.clauses ≡ take (index - 1) ours.clauses)
    × (slice_get theirs.clauses (index - 1) ≢ slice_get ours.clauses (index - 1))
