use Rattle.std.proofs.Common.{◌≡◌, Ok, refl, rules}
use Rattle.c_typed_trees.specs.declared.expression.TypedPlace.{out-TypedPlace}
use Rattle.tree_meaning.specs.declared.stop.Stop.TheVariants as stop
use Rattle.tree_meaning.specs.Running.{placed_in}
use Rattle.tree_meaning.proofs.AssignSteps.{assign_own_kind, assign_operator_kind, assign_value_fits, assigned_made, made_traps}
use Rattle.tree_meaning.proofs.Forms.{value_kind}
use Rattle.tree_meaning.proofs.statements.assigned.Goals as goal

pub combined-requires-clause-own : goal.combined-requires-clause-own
combined-requires-clause-own c = assign_own_kind c.args.parts.place.now c.args.parts.operator c.args.parts.value.now c.requires

pub combined-requires-clause-value : goal.combined-requires-clause-value
combined-requires-clause-value c =
    let x = c.args.parts.value.now in
    let fits = assign_value_fits c.args.parts.place.now c.args.parts.operator x c.requires in
    value_kind c.args.scene.now x c.args.vs.now c.args.store.now.cells c.in-Ok-rest.value fits c.in-Ok-rest.ensures

pub combined-requires-clause-operator : goal.combined-requires-clause-operator
combined-requires-clause-operator c = assign_operator_kind c.args.parts.place.now c.args.parts.operator c.args.parts.value.now c.requires

pub returns-in-Ok-combined-clause-made : goal.returns-in-Ok-combined-clause-made
returns-in-Ok-combined-clause-made c =
    let p = c.args.parts.place.now in
    let x = c.args.parts.value.now in
    let s = c.args.store.now in
    let at : (placed_in c.args.scene.now c.args.parts.place.now).cell c.args.index.now c.args.store.now.cells ≡ Ok c.in-Ok.cell = search rules in
    let fits = assign_value_fits p c.args.parts.operator x c.requires in
    assigned_made c.args.scene.now p c.args.parts.operator x c.args.index.now c.args.vs.now s c.in-Ok.cell at c.in-Ok-rest.value c.at-held.result (out-TypedPlace p).variable.kind x.kind c.combined.result
    c.in-Ok-rest.ensures refl refl c.at-held.ensures fits c.combined.ensures c.in-Ok-combined.made c.put.new.self c.in-Ok-combined.is c.put.ensures

pub returns-in-Err-combined-clause-err : goal.returns-in-Err-combined-clause-err
returns-in-Err-combined-clause-err c =
    let p = c.args.parts.place.now in
    let x = c.args.parts.value.now in
    let s = c.args.store.now in
    let at : (placed_in c.args.scene.now c.args.parts.place.now).cell c.args.index.now c.args.store.now.cells ≡ Ok c.in-Ok.cell = search rules in
    let fits = assign_value_fits p c.args.parts.operator x c.requires in
    made_traps c.args.scene.now p c.args.parts.operator x c.args.index.now c.args.vs.now s c.in-Ok.cell at c.in-Ok-rest.value c.at-held.result (out-TypedPlace p).variable.kind x.kind c.combined.result
    c.in-Ok-rest.ensures refl refl c.at-held.ensures fits c.combined.ensures c.in-Err-combined.trap (stop.Trapped c.in-Err-combined.trap) c.in-Err-combined.is refl
