use Rattle.std.proofs.Common.{rules}
use Rattle.c_type_rules.proofs.CaseLaws.{default_more, value_more}
use Rattle.c_type_rules.proofs.scopes.Cases.push.Goals as goal

pub invariant_of-self-in-None : goal.invariant_of-self-in-None
invariant_of-self-in-None c = default_more c.self.inside.list c.push.new.self c.self.inside.has_default c.self.inside.values c.self.invariant (search rules)

pub invariant_of-self-in-Ok : goal.invariant_of-self-in-Ok
invariant_of-self-in-Ok c =
    value_more c.self.inside.list c.push.new.self c.self.inside.has_default c.self.inside.values c.insert.new.self c.in-Some.value c.self.invariant c.in-Ok.ensures.updates (search rules)
