use Rattle.std.proofs.Common.{refl}
use Rattle.tree_meaning.proofs.DoSteps.{assign_place_fits}
use Rattle.tree_meaning.proofs.DoSteps as fits
use Rattle.tree_meaning.proofs.StatementFits.{local_fit, assign_fit, call_fit_of, else_fit, for_test_fit, for_next_fit, switch_value_fit, return_fit, assert_fit, assume_fit}
use Rattle.tree_meaning.proofs.statements.perform.Goals as goal

pub push-requires : goal.push-requires
push-requires c = fits.block_fits c.args.tree c.requires c.in-Block.body c.deref.result c.in-Block.is c.deref.ensures

pub declare-requires : goal.declare-requires
declare-requires c = local_fit c.args.tree.now c.in-Local.variable c.in-Local.first c.in-Local.is c.requires

pub declare_array-requires : goal.declare_array-requires
declare_array-requires c = fits.array_fits c.args.tree c.requires c.in-LocalArray.variable c.in-LocalArray.list c.deref-in-LocalArray.result c.in-LocalArray.is c.deref-in-LocalArray.ensures

pub push-requires-in-Assign : goal.push-requires-in-Assign
push-requires-in-Assign c = assign_fit c.args.tree.now c.in-Assign.place c.in-Assign.operator c.in-Assign.value c.in-Assign.is c.requires

pub push-requires-in-Assign-2 : goal.push-requires-in-Assign-2
push-requires-in-Assign-2 c = assign_place_fits c.in-Assign.place c.in-Assign.operator c.in-Assign.value (assign_fit c.args.tree.now c.in-Assign.place c.in-Assign.operator c.in-Assign.value c.in-Assign.is c.requires)

pub push-requires-in-Call-2 : goal.push-requires-in-Call-2
push-requires-in-Call-2 c = call_fit_of c.args.tree.now c.in-Call.call c.in-Call.is c.requires

pub push-requires-in-If : goal.push-requires-in-If
push-requires-in-If c = (
  fits.if_fits c.args.tree c.requires c.in-If.arms c.in-If.otherwise c.deref-in-If.result c.in-If.is c.deref-in-If.ensures,
  else_fit c.args.tree.now c.in-If.arms c.in-If.otherwise c.in-If.is c.requires,
)

pub push-requires-in-While : goal.push-requires-in-While
push-requires-in-While c = fits.while_fits c.args.tree c.requires c.in-While.test c.in-While.body _ c.deref-in-While.result c.in-While.is refl c.deref-in-While.ensures

pub push-requires-in-Do : goal.push-requires-in-Do
push-requires-in-Do c = fits.do_fits c.args.tree c.requires c.in-Do.body c.in-Do.test c.deref-in-Do.result _ c.in-Do.is c.deref-in-Do.ensures refl

pub parts_of-parts-requires-clause-test : goal.parts_of-parts-requires-clause-test
parts_of-parts-requires-clause-test c = for_test_fit c.args.tree.now c.in-For.first c.in-For.test c.in-For.next c.in-For.body c.in-For.is c.requires

pub parts_of-parts-requires-clause-next : goal.parts_of-parts-requires-clause-next
parts_of-parts-requires-clause-next c = for_next_fit c.args.tree.now c.in-For.first c.in-For.test c.in-For.next c.in-For.body c.in-For.is c.requires

pub push-requires-in-For-2 : goal.push-requires-in-For-2
push-requires-in-For-2 c = fits.first_fits c.args.tree c.requires c.in-For.first c.in-For.test c.in-For.next c.in-For.body c.deref-in-For-2.result c.in-For.is c.deref-in-For-2.ensures

pub push-requires-in-Switch : goal.push-requires-in-Switch
push-requires-in-Switch c = fits.groups_fits c.args.tree c.requires c.in-Switch.value c.in-Switch.cell c.in-Switch.groups c.deref-in-Switch.result c.in-Switch.is c.deref-in-Switch.ensures

pub push-requires-in-Switch-2 : goal.push-requires-in-Switch-2
push-requires-in-Switch-2 c = switch_value_fit c.args.tree.now c.in-Switch.value c.in-Switch.cell c.in-Switch.groups c.in-Switch.is c.requires

pub leave-requires : goal.leave-requires
leave-requires c = return_fit c.args.tree.now _ c.in-Return.is c.requires

pub push-requires-in-Assert-2 : goal.push-requires-in-Assert-2
push-requires-in-Assert-2 c = assert_fit c.args.tree.now _ c.in-Assert.is c.requires

pub push-requires-in-Assume-2 : goal.push-requires-in-Assume-2
push-requires-in-Assume-2 c = assume_fit c.args.tree.now _ c.in-Assume.is c.requires
