use Rattle.cnf.proofs.ClauseLaws.{Grown}
use Rattle.cnf.proofs.clause.clause_of_keys.Given as goal

abbrev pub invariant-loop-key : goal.invariant-loop-key
invariant-loop-key l = Grown l.keys l.key-index l.literals.items l.last
