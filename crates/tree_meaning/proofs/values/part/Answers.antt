use Rattle.std.proofs.lemmas.Result.{on_ok_weaker}
use Rattle.tree_meaning.proofs.ValueSteps.{part_choice, fit_choice_test, fit_choice_yes, fit_choice_no, fit_call}
use Rattle.tree_meaning.proofs.values.part.Goals as goal

pub push-requires-in-Choice : goal.push-requires-in-Choice
push-requires-in-Choice c = (
  fit_choice_yes c.args.tree c.deref-in-Choice.result c.requires c.in-Choice.test c.in-Choice.yes c.in-Choice.no c.in-Choice.cell c.in-Choice.is c.deref-in-Choice.ensures,
  fit_choice_no c.args.tree c.deref-in-Choice-2.result c.requires c.in-Choice.test c.in-Choice.yes c.in-Choice.no c.in-Choice.cell c.in-Choice.is c.deref-in-Choice-2.ensures,
)

pub push-requires-in-Choice-2 : goal.push-requires-in-Choice-2
push-requires-in-Choice-2 c = fit_choice_test c.args.tree c.deref-in-Choice-3.result c.requires c.in-Choice.test c.in-Choice.yes c.in-Choice.no c.in-Choice.cell c.in-Choice.is c.deref-in-Choice-3.ensures

pub push-requires-in-Call : goal.push-requires-in-Call
push-requires-in-Call c = fit_call c.args.tree c.requires c.deref-in-Call.result c.in-Call.call c.in-Call.is c.deref-in-Call.ensures

pub returns-in_ok-push-in-Choice : goal.returns-in_ok-push-in-Choice
returns-in_ok-push-in-Choice c =
    on_ok_weaker c.push-in-Choice-2.result
    (λ h. part_choice c.args.tasks.now c.push-in-Choice-2.new.self c.args.machine.now c.args.tree c.deref-in-Choice-3.result c.deref-in-Choice.result c.deref-in-Choice-2.result c.in-Choice.test c.in-Choice.yes c.in-Choice.no c.in-Choice.cell
    c.in-Choice.is c.deref-in-Choice-3.ensures c.deref-in-Choice.ensures c.deref-in-Choice-2.ensures c.push-in-Choice.new.self h c.in_ok-push-in-Choice.ensures)
    c.push-in-Choice-2.ensures
