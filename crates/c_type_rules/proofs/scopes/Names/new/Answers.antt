use Rattle.c_type_rules.proofs.IndexLaws.{empty_named}
use Rattle.c_type_rules.proofs.scopes.Names.new.Goals as goal

pub invariant_of-result : goal.invariant_of-result
invariant_of-result c = empty_named c.new-2.result c.new.result c.new-2.ensures.empty c.new.ensures
