use Rattle.std.proofs.Common.{◌∙◌}
use Rattle.std.proofs.lemmas.Result.{IfOk-weaker}
use Rattle.cnf.proofs.ClauseLaws.{keys_of_literals, same_by_keys}
use Rattle.cnf.proofs.clause.Clause.new.Goals as goal

pub clause_of_keys-requires-clause-keys : goal.clause_of_keys-requires-clause-keys
clause_of_keys-requires-clause-keys c =
    rw (c.deref.ensures.value)
    (keys_of_literals c.args.literals.now _ (rw c.in_ok-keys.ensures at c.in_ok-sort.ensures.permutation) c.requires)

pub returns-clause-literals : goal.returns-clause-literals
returns-clause-literals c =
    IfOk-weaker c.clause_of_keys.result _ _
    (λ clause same x. same x ∙ rw c.deref.ensures.value (same_by_keys c.args.literals.now _ x (rw c.in_ok-keys.ensures at c.in_ok-sort.ensures.permutation)))
    c.clause_of_keys.ensures.literals
