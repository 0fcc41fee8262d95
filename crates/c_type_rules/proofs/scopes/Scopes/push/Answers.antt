use Rattle.std.proofs.Common.{rules}
use Rattle.c_type_rules.proofs.IndexLaws.{pushed_indexed, unchanged_indexed, taken_off}
use Rattle.c_type_rules.proofs.scopes.Scopes.push.Goals as goal

pub invariant_of-self-in-Ok : goal.invariant_of-self-in-Ok
invariant_of-self-in-Ok c =
    pushed_indexed c.self.inside.places c.insert.new.self c.self.inside.list c.push-2.new.self c.self.inside.shadowed c.push.new.self c.args.bound c.in_ok-key.key c.len-place.result c.last_place-earlier.result c.self.invariant c.in-Ok.ensures.updates
    (search rules) (search rules) (search rules) (search rules) (search rules)

pub invariant_of-self-in-Err : goal.invariant_of-self-in-Err
invariant_of-self-in-Err c =
    unchanged_indexed c.self.inside.places c.insert.new.self c.self.inside.list _ c.self.inside.shadowed _ c.self.invariant c.in-Err.ensures.err
    (taken_off _ _ _ _ c.args.bound c.pop-in-Err.ensures (search rules)) (taken_off _ _ _ _ c.last_place-earlier.result c.pop-in-Err-2.ensures (search rules))
