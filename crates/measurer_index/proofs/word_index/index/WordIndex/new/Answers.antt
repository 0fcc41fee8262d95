use Rattle.std.proofs.Common.{true, false, sym, subst}
use Rattle.measurer_index.specs.word_index.Groups.{IsGroup}
use Rattle.measurer_index.specs.word_index.Order.{IsOrderOf}
use Rattle.measurer_index.specs.word_index.Tables.{AreBegun, root}
use Rattle.measurer_index.proofs.word_index.Begun.{root_group}
use Rattle.measurer_index.proofs.word_index.index.WordIndex.new.Goals as goal

pub begun-requires : goal.begun-requires
begun-requires c =
    let ordered = subst (IsOrderOf c.args.goals.now) (sym c.from_vec-order.ensures) c.in_ok-sorted_places.ensures in
    subst (λ o. IsGroup c.args.goals.now o (root o c.in_ok-absents.absents)) (sym c.deref.ensures) (root_group c.args.goals.now c.from_vec-order.result c.in_ok-absents.absents ordered.sorted c.in_ok-absents.ensures)

pub begun-requires-2 : goal.begun-requires-2
begun-requires-2 c =
    let ordered = subst (IsOrderOf c.args.goals.now) (sym c.from_vec-order.ensures) c.in_ok-sorted_places.ensures in
    subst (λ o. IsGroup c.args.goals.now o (root o c.in_ok-absents.absents)) (sym c.deref-2.ensures) (root_group c.args.goals.now c.from_vec-order.result c.in_ok-absents.absents ordered.sorted c.in_ok-absents.ensures)

pub returns : goal.returns
returns c = record {
  ordered = subst (IsOrderOf c.args.goals.now) (sym c.from_vec-order.ensures) c.in_ok-sorted_places.ensures;
  absents = c.in_ok-absents.ensures;
  by_edge = subst (λ o. AreBegun c.args.goals.now o c.in_ok-absents.absents true c.in_ok-by_edge.by_edge) c.deref.ensures c.in_ok-by_edge.ensures;
  by_node = subst (λ o. AreBegun c.args.goals.now o c.in_ok-absents.absents false c.in_ok-by_node.by_node) c.deref-2.ensures c.in_ok-by_node.ensures;
  only_steps = c.all_begin_with_steps-only_steps.ensures;
}
