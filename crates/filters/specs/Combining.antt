-- How marks are combined.
use Rattle.std.specs.Prelude.{Bool, not, ◌&&◌, ◌||◌}
use Rattle.filters.specs.Parts.{Part}
use Rattle.filters.specs.declared.marks.Combination.{Combination}
use Rattle.filters.specs.declared.marks.Combination.TheVariants.{Without, Either, Both}

abbrev pub combined_mark : Combination → Bool → Bool → Bool
combined_mark Without a b = a && not b
combined_mark Either a b = a || b
combined_mark Both a b = a && b

-- what two parts make, node by node and edge by edge
abbrev pub joined : Combination → Part → Part → Part
joined c a b = record { node = λ n. combined_mark c (a.node n) (b.node n); edge = λ k. combined_mark c (a.edge k) (b.edge k) }
