use Rattle.std.proofs.Common.{rules, sym, ◌∙◌}
use Rattle.c_type_rules.proofs.IndexLaws.{there_named, new_named}
use Rattle.c_type_rules.proofs.scopes.Names.push.Goals as goal

pub invariant_of-self-then-is_some : goal.invariant_of-self-then-is_some
invariant_of-self-then-is_some c =
    there_named c.self.inside.places c.self.inside.list c.push.new.self c.args.name c.place-earlier.result c.self.invariant (search rules) (sym c.is_some.ensures ∙ c.if-is_some.true) (search rules)

pub invariant_of-self-in-Ok : goal.invariant_of-self-in-Ok
invariant_of-self-in-Ok c =
    new_named c.self.inside.places c.insert.new.self c.self.inside.list c.push.new.self c.args.name c.in_ok-key.key c.len-place.result c.place-earlier.result c.self.invariant (search rules) (sym c.is_some.ensures ∙ c.if-is_some.false)
    c.in-Ok.ensures.updates (search rules) (search rules) (search rules)
