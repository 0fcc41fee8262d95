use Rattle.c_type_rules.proofs.IndexLaws.{empty_indexed}
use Rattle.c_type_rules.proofs.scopes.Scopes.new.Goals as goal

pub invariant_of-result : goal.invariant_of-result
invariant_of-result c = empty_indexed c.new-2.result c.new.result c.new-3.result c.new-2.ensures.empty c.new.ensures c.new-3.ensures
