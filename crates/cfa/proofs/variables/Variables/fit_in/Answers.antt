use Rattle.std.proofs.Common.{ap, sym, ◌∙◌}
use Rattle.std.specs.Prelude.{◌&&◌}
use Rattle.std.specs.List.{list_all}
use Rattle.cfa.specs.declared.parts.Variable.{Variable as OneVariable}
use Rattle.cfa.specs.declared.variables.Lent.{Lent}
use Rattle.cfa.specs.Graph.{lent_fits, variable_fits}
use Rattle.cfa.proofs.NeedsLaws.{fit_in}
use Rattle.cfa.proofs.variables.Variables.fit_in.Goals as goal

pub returns-then-has_cells : goal.returns-then-has_cells
returns-then-has_cells c =
    c.all_lent_fit.ensures
    ∙ sym (ap (λ b. b && list_all (λ (l : Lent). lent_fits c.args.room.now l.parameter l.length) c.self.inside.needs.lent) (sym c.has_cells.ensures ∙ c.if-has_cells.true))
    ∙ fit_in c.self.inside.list c.self.inside.needs c.args.room.now c.self.invariant.0
    ∙ ap (list_all (λ (v : OneVariable). variable_fits c.args.room.now v.length v.place)) c.self.view_is

pub returns-else-has_cells : goal.returns-else-has_cells
returns-else-has_cells c =
    c.if-has_cells.false
    ∙ sym (ap (λ b. b && list_all (λ (l : Lent). lent_fits c.args.room.now l.parameter l.length) c.self.inside.needs.lent) (sym c.has_cells.ensures ∙ c.if-has_cells.false))
    ∙ fit_in c.self.inside.list c.self.inside.needs c.args.room.now c.self.invariant.0
    ∙ ap (list_all (λ (v : OneVariable). variable_fits c.args.room.now v.length v.place)) c.self.view_is
