use Rattle.c_type_rules.proofs.CaseLaws.{no_cases}
use Rattle.c_type_rules.proofs.scopes.Cases.new.Goals as goal

pub invariant_of-result : goal.invariant_of-result
invariant_of-result c = no_cases c.new.result c.new-2.result c.new-2.ensures.empty c.new.ensures
