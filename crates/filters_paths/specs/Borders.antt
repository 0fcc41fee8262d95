-- Where paths begin and end, in one definition.
use Rattle.std.specs.Prelude.{ℕ, Bool, ◌&&◌, ◌||◌, ◌==◌}
use Rattle.std.specs.List.{list_any}
use Rattle.cfa.specs.declared.parts.Edge.{Edge}
use Rattle.cfa.specs.declared.parts.Function.{Function}
use Rattle.cfa.specs.declared.parts.GraphParts.{GraphParts}
use Rattle.filters.specs.Parts.{Part}
use Rattle.filters_paths.specs.declared.borders.Border.{Border}
use Rattle.filters_paths.specs.declared.borders.Border.TheVariants.{Start, End}
use Rattle.filters_paths.specs.Paths.{some_edge_outside}

-- the node of a function at which its paths begin or end
abbrev pub function_node : Border → Function → ℕ
function_node Start f = f.entry
function_node End f = f.exit

-- the node of an edge from outside at which paths begin or end
abbrev pub outside_node : Border → Edge → ℕ
outside_node Start e = e.target
outside_node End e = e.source

-- some function begins or ends at a node, or some edge from outside comes in or goes out there
abbrev pub is_border : GraphParts → Part → Border → ℕ → Bool
is_border parts a border n = list_any (λ (f : Function). function_node border f == n) parts.functions || some_edge_outside parts a (λ (e : Edge). outside_node border e == n)

-- a node of the part at which paths begin or end
abbrev pub is_border_node : GraphParts → Part → Border → ℕ → Bool
is_border_node parts a border n = a.node n && is_border parts a border n
