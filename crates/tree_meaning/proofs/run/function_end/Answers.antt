use Rattle.std.proofs.Common.{◌≡◌, ℕ, Some, ap, ◌∙◌}
use Rattle.std.specs.Prelude.{slice_index}
use Rattle.std.specs.Option.{option_map}
use Rattle.std.proofs.lemmas.Result.{IfOk-weaker}
use Rattle.tree_meaning.specs.declared.activation.Activation.{Activation}
use Rattle.tree_meaning.specs.declared.ends.TreeEnd.{TreeEnd}
use Rattle.tree_meaning.specs.declared.machine.Machine.{Machine}
use Rattle.tree_meaning.specs.Activations.{as_kind}
use Rattle.tree_meaning.specs.Ends.{first_activation, function_end}
use Rattle.tree_meaning.specs.Stopping.{stop_end}
use Rattle.tree_meaning.proofs.EndSteps.{end_returned, end_stopped}
use Rattle.tree_meaning.proofs.run.function_end.Goals as goal

pub returns-in-Err : goal.returns-in-Err
returns-in-Err c =
    let t = c.args.typed.now in
    let f = c.args.function.now in
    let input = c.args.input.now in
    IfOk-weaker c.end_of.result (λ (end : TreeEnd). stop_end c.in-Err.stop ≡ Some end) (λ (end : TreeEnd). end ≡ function_end t f input c.args.turns)
    (λ end. end_stopped t f input c.args.turns c.in_ok-machine.machine c.deref.result c.new-tasks.result c.push.new.self c.in_ok-machine.ensures c.new-tasks.ensures c.deref.ensures c.in_ok-push.ensures c.in-Err.stop end c.in-Err.ensures.err) c.end_of.ensures

pub returns : goal.returns
returns c =
    let t = c.args.typed.now in
    let f = c.args.function.now in
    let s = c.run.new.machine.store in
    let base : c.activation.result.now.base ≡ (first_activation t f).base = ap (λ (a : Activation). a.base) c.activation.ensures ∙ ap (λ (m : Machine). m.scene.activation.base) c.in_ok-machine.ensures in
    let value : c.returned.result ≡ option_map (λ kind. as_kind kind (slice_index s.cells c.activation.result.now.base)) f.result = c.returned.ensures in
    end_returned t f c.args.input.now c.args.turns c.in_ok-machine.machine c.deref.result c.new-tasks.result c.push.new.self c.in_ok-machine.ensures c.new-tasks.ensures c.deref.ensures c.in_ok-push.ensures c.run.new.machine.way s c.returned.result c.in-Ok.ensures.made
    (value ∙ ap (λ (b : ℕ). option_map (λ kind. as_kind kind (slice_index s.cells b)) f.result) base)
