use Rattle.std.proofs.Common.{◌∙◌, ap, length}
use Rattle.std.proofs.lemmas.List.{length-replicate}
use Rattle.search.proofs.TurnLaws.{at_first}
use Rattle.search.proofs.machine.Machine.new.Goals as goal

pub returns-clause-at : goal.returns-clause-at
returns-clause-at c =
    at_first c.args.formula.now _ c.requires.formula c.requires.few c.new-2.ensures.items (ap (λ lines. record { lines = lines }) c.new-3.ensures) c.new-4.ensures.items
    (c.in_ok-values.ensures.items_if_clones_equal (λ y same. same)) (c.in_ok-marks.ensures.items_if_clones_equal (λ y same. same)) (ap length (c.in_ok-places.ensures.items_if_clones_equal (λ y same. same)) ∙ length-replicate _ _) c.in_ok-order.ensures
