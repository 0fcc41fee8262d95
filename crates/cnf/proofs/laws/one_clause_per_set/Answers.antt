use Rattle.cnf.proofs.ChecksLaws.{same_clauses}
use Rattle.cnf.proofs.laws.one_clause_per_set.Goals as goal

pub returns : goal.returns
returns c = same_clauses 0 0
