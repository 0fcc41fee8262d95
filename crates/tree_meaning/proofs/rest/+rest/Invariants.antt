use Rattle.c_typed_trees.specs.declared.expression.TypedExpr.{size-TypedExpr}
use Rattle.c_typed_trees.specs.declared.expression.TypedPlace.{size-TypedPlace}
use Rattle.tree_meaning.proofs.rest.+rest.Given as goal

abbrev pub decreases-value_of : goal.decreases-value_of
decreases-value_of l = size-TypedExpr l.tree.now

abbrev pub decreases-cell_of : goal.decreases-cell_of
decreases-cell_of l = size-TypedPlace l.place.now
