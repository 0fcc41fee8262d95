use Rattle.std.proofs.Common.{◌≡◌, true, map, take}
use Rattle.predicates.specs.Typing.{all_typable, meanings_in}
use Rattle.predicates.proofs.typing.meanings_of.Given as goal

abbrev pub invariant-loop-tree : goal.invariant-loop-tree
invariant-loop-tree l = record {
  typable : all_typable l.graph (take l.tree-index l.trees) ≡ true;
  rows : l.rows ≡ map (meanings_in l.graph.scopes) (take l.tree-index l.trees);
}
