use Rattle.c_type_rules.proofs.IndexLaws.{none_shadowed, last_is_there, popped_indexed}
use Rattle.c_type_rules.proofs.scopes.Scopes.unbind.Goals as goal

pub restore-requires : goal.restore-requires
restore-requires c = last_is_there c.self.inside.places c.pop.new.self c.self.inside.list c.self.inside.shadowed c.in-Some.bound c.in-Some.ensures c.self.invariant

pub invariant_of-self-in-None-pop : goal.invariant_of-self-in-None-pop
invariant_of-self-in-None-pop c = absurd (none_shadowed c.self.inside.places c.pop.new.self c.self.inside.list c.self.inside.shadowed c.in-Some.bound c.self.invariant c.in-Some.ensures c.in-None-pop.ensures.0)

pub invariant_of-self-in-None-pop-2 : goal.invariant_of-self-in-None-pop-2
invariant_of-self-in-None-pop-2 c = absurd (none_shadowed c.self.inside.places c.pop.new.self c.self.inside.list c.self.inside.shadowed c.in-Some.bound c.self.invariant c.in-Some.ensures c.in-None-pop.ensures.0)

pub invariant_of-self-in-None-pop-3 : goal.invariant_of-self-in-None-pop-3
invariant_of-self-in-None-pop-3 c = absurd (none_shadowed c.self.inside.places c.pop.new.self c.self.inside.list c.self.inside.shadowed c.in-Some.bound c.self.invariant c.in-Some.ensures c.in-None-pop.ensures.0)

pub invariant_of-self-in-Some-pop : goal.invariant_of-self-in-Some-pop
invariant_of-self-in-Some-pop c =
    popped_indexed c.self.inside.places c.restore.new.places c.pop.new.self c.self.inside.list c.self.inside.shadowed c.pop-in-Some.new.self c.in-Some.bound c.in-Some-pop.earlier
    c.self.invariant c.in-Some.ensures c.in-Some-pop.ensures c.restore.ensures

pub invariant_of-self-in-Some-pop-2 : goal.invariant_of-self-in-Some-pop-2
invariant_of-self-in-Some-pop-2 c =
    popped_indexed c.self.inside.places c.restore.new.places c.pop.new.self c.self.inside.list c.self.inside.shadowed c.pop-in-Some.new.self c.in-Some.bound c.in-Some-pop.earlier
    c.self.invariant c.in-Some.ensures c.in-Some-pop.ensures c.restore.ensures

pub invariant_of-self-in-Some-pop-3 : goal.invariant_of-self-in-Some-pop-3
invariant_of-self-in-Some-pop-3 c =
    popped_indexed c.self.inside.places c.restore.new.places c.pop.new.self c.self.inside.list c.self.inside.shadowed c.pop-in-Some.new.self c.in-Some.bound c.in-Some-pop.earlier
    c.self.invariant c.in-Some.ensures c.in-Some-pop.ensures c.restore.ensures
