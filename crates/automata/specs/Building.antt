-- Parts of an unrolled pattern, with their counts of leaves.
use Rattle.std.specs.Prelude.{◌≡◌}
use Rattle.automata.specs.Tree.{Tree, nothing, empty, leaves, Sized}
use Rattle.automata.specs.Views.{view}
use Rattle.automata.specs.declared.part.Part.{Part}
use Rattle.automata.specs.declared.part.Extent.{Extent}
use Rattle.automata.specs.declared.part.Extent.TheVariants.{Never, State, Leaves}

-- the count is that of the tree, at each node of it too
pub record Counted (part : Part) : Type 0 where
  pub leaves_counted : part.leaves ≡ leaves (view part.node)
  pub sized : Sized (view part.node)

abbrev pub extent_of : Tree → Extent
extent_of nothing = Never
extent_of empty = State
extent_of t = Leaves

abbrev pub by_extent : Extent → Tree → Tree → Tree → Tree
by_extent Never a b c = a
by_extent State a b c = b
by_extent Leaves a b c = c
