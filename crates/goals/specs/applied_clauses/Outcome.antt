-- What the application of a clause's filters answers.
use Rattle.std.specs.Prelude.{◌≡◌, ℕ, Result, Ok, Err, Some, None}
use Rattle.fq_core.specs.declared.refusal.Fault.{Fault}
use Rattle.fq_core.specs.declared.refusal.Fault.TheVariants as fault
use Rattle.fq_core.specs.declared.refusal.Place.TheVariants as place
use Rattle.fq_core.specs.declared.refusal.Refusal.{Refusal}
use Rattle.goals.specs.declared.applied_clauses.applied_tree.AppliedTree.{AppliedTree}
use Rattle.goals.specs.applied_clauses.Limits.{passed_limit}
use Rattle.goals.specs.applied_clauses.Trees.{Tree, tree_of}

-- there are more paths, edges of paths, or words than this
abbrev pub too_many : ℕ → Refusal
too_many limit = record { code = 71; place = place.Limit limit }

-- this clause, where each of its `PATHS` is within the limits; else code 71 with the first limit that is passed
abbrev pub IsClauseOutcome : Tree → Result AppliedTree Fault → Type 0
IsClauseOutcome t (Ok clause) = (tree_of clause ≡ t) × (passed_limit t ≡ None)
IsClauseOutcome t (Err (fault.Refused r)) = (limit : ℕ) × (passed_limit t ≡ Some limit) × (r ≡ too_many limit)
IsClauseOutcome t (Err fault.Memory) = Unit {0}
