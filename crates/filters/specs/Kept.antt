-- What a filter keeps of a part of a control flow automaton (FQL: Holzer, Schallhart, Tautschnig, Veith, VMCAI 2009).
use Rattle.std.specs.Prelude.{ℕ, Bool, false, ◌&&◌, List, slice_get}
use Rattle.std.specs.Option.{option_map_or}
use Rattle.cfa.specs.declared.parts.Edge.{Edge}
use Rattle.cfa.specs.declared.parts.GraphParts.{GraphParts}
use Rattle.cfa.specs.declared.parts.Node.{Node}
use Rattle.cfa.specs.Names.{first_named}
use Rattle.fql_read.specs.declared.filter.Filter.{Filter, fold-Filter}
use Rattle.fql_read.specs.declared.filter.FilterForm.TheOpen.{Filter-F, FilterForm-F}
use Rattle.fql_read.specs.declared.filter.FilterForm.{FilterForm, fold-FilterForm}
use Rattle.filters.specs.Parts.{Part, keeping, without, either, both, edge_has}
use Rattle.filters.specs.Properties.{is_number, has_property}

-- a node belongs to the function with this name
abbrev pub is_node_of : GraphParts → List ℕ → ℕ → Bool
is_node_of parts name n = option_map_or (λ (node : Node). is_number (first_named parts.functions name) node.function) (slice_get parts.nodes n) false

-- the edges of a part that have a property, and the nodes of the part that belong to the function with this name
abbrev pub function_part : GraphParts → List ℕ → (Edge → Bool) → Part → Part
function_part parts name property a = record { node = λ n. a.node n && is_node_of parts name n; edge = λ k. a.edge k && edge_has parts property k }

module _ (parts : GraphParts) where
  -- what a form keeps of the part A, from what its filters keep: the operators first, then the filters of edges
  abbrev pub form_step : FilterForm-F (Part → Part) (Part → Part) → Part → Part
  form_step FilterForm-F.Id a = a
  form_step (FilterForm-F.Not f) a = without parts a (f a)
  form_step (FilterForm-F.Complement f) a = without parts a (f a)
  form_step (FilterForm-F.Union f g) a = either (f a) (g a)
  form_step (FilterForm-F.Intersect f g) a = both (f a) (g a)
  form_step (FilterForm-F.SetMinus f g) a = without parts (f a) (g a)
  form_step (FilterForm-F.Compose f g) a = f (g a)
  form_step (FilterForm-F.Func name) a = function_part parts name (has_property {A = Part → Part} {B = Part → Part} parts (FilterForm-F.Func name)) a
  form_step form a = keeping parts (has_property parts form) a

  abbrev pub filter_step : Filter-F (Part → Part) (Part → Part) → Part → Part
  filter_step f = f.form

  -- what a form keeps of a part
  unfoldable pub kept_by_form : FilterForm → Part → Part
  kept_by_form = fold-FilterForm (Part → Part) (Part → Part) form_step filter_step

  -- what a filter keeps of a part
  unfoldable pub kept_by : Filter → Part → Part
  kept_by = fold-Filter (Part → Part) (Part → Part) form_step filter_step
