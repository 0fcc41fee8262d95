use Rattle.std.proofs.Common.{ap, sym, ◌∙◌}
use Rattle.std.specs.Prelude.{◌&&◌, nat_le}
use Rattle.std.specs.List.{list_all}
use Rattle.c_values.specs.Kind.{is_kind}
use Rattle.cfa.specs.declared.parts.Variable.{Variable as OneVariable}
use Rattle.cfa.specs.Graph.{global_fits}
use Rattle.cfa.proofs.NeedsLaws.{are_within}
use Rattle.cfa.proofs.variables.Variables.are_within.Goals as goal

pub returns-then-self : goal.returns-then-self
returns-then-self c =
    sym (ap (λ b. b && nat_le c.self.inside.needs.globals c.args.globals) c.if-self.true)
    ∙ are_within c.self.inside.list c.self.inside.needs c.args.globals c.self.invariant.0
    ∙ ap (list_all (λ (v : OneVariable). is_kind v.kind && global_fits c.args.globals v.length v.place)) c.self.view_is

pub returns-else-self : goal.returns-else-self
returns-else-self c =
    c.if-self.false
    ∙ sym (ap (λ b. b && nat_le c.self.inside.needs.globals c.args.globals) c.if-self.false)
    ∙ are_within c.self.inside.list c.self.inside.needs c.args.globals c.self.invariant.0
    ∙ ap (list_all (λ (v : OneVariable). is_kind v.kind && global_fits c.args.globals v.length v.place)) c.self.view_is
