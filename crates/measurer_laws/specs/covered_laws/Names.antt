-- `@DEF` and `@LABEL`: what is done with a name.
use Rattle.std.specs.Prelude.{ℕ, Bool, false, not, ◌&&◌, List}
use Rattle.c_typed_trees.specs.declared.unit.Typed.{Typed}
use Rattle.c_lower_rules.specs.graph_of.GraphOf.{graph_of}
use Rattle.tree_events.specs.declared.edge_events.event.Event.{Event}
use Rattle.tree_events.specs.declared.edge_events.event.What.{What}
use Rattle.tree_events.specs.declared.edge_events.event.What.TheVariants.{Did}
use Rattle.measurer_laws.specs.table_laws.Marks.{is_label}
use Rattle.fql_read.specs.declared.filter.FilterForm.TheVariants as form
use Rattle.filters.specs.Properties.{is_name}
use Rattle.measurer_laws.specs.covered_laws.Filters.{Selects, filter_of}

-- ---- tests of events

-- something is done with this name
abbrev pub is_done : List ℕ → What → Bool
is_done name (Did own) = is_name own name
is_done name _ = false

-- a variable of this name is changed
abbrev pub defines : List ℕ → Event → Bool
defines name v = not (is_label v.statement) && is_done name v.what

-- control comes to a label of this name
abbrev pub labels : List ℕ → Event → Bool
labels name v = is_label v.statement && is_done name v.what

-- ---- the filters, in the automaton of a typed unit

abbrev pub DefinitionsSelect : Type 0
DefinitionsSelect = (t : Typed) (files : List (List ℕ)) (column : ℕ) (name : List ℕ) → Selects (graph_of t files) (filter_of column (form.Writes name)) (defines name)

abbrev pub LabelsSelect : Type 0
LabelsSelect = (t : Typed) (files : List (List ℕ)) (column : ℕ) (name : List ℕ) → Selects (graph_of t files) (filter_of column (form.Label name)) (labels name)
