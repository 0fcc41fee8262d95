-- The names that filters need.
use Rattle.std.specs.Prelude.{ℕ, Bool, true, false, ◌||◌, min, List, Option, Some, None, if◌then◌else◌, slice_get}
use Rattle.std.specs.List.{list_any}
use Rattle.std.specs.Option.{is_some, option_map_or}
use Rattle.cfa.specs.declared.parts.Edge.{Edge}
use Rattle.cfa.specs.declared.parts.GraphParts.{GraphParts}
use Rattle.cfa.specs.declared.parts.Node.{Node}
use Rattle.cfa.specs.declared.parts.Scope.{Scope}
use Rattle.cfa.specs.Names.{first_named, visible}
use Rattle.fql_read.specs.declared.filter.Filter.{Filter, fold-Filter}
use Rattle.fql_read.specs.declared.filter.FilterForm.TheOpen.{Filter-F, FilterForm-F}
use Rattle.fql_read.specs.declared.filter.FilterForm.{FilterForm, fold-FilterForm}
use Rattle.filters.specs.Properties.{is_name, has_name}

-- the name of a variable is visible in a scope
abbrev pub scope_has : List ℕ → Scope → Bool
scope_has name s = is_some (visible name s.variables)

-- a variable of this name is in the scope of a node
abbrev pub sees : GraphParts → List ℕ → Node → Bool
sees parts name n = option_map_or (scope_has name) (slice_get parts.scopes n.scope) false

-- an edge writes or reads a variable of this name
abbrev pub uses : List ℕ → Edge → Bool
uses name e = has_name e.writes name || has_name e.reads name

-- the name of a variable that some edge uses or some node sees
abbrev pub is_variable : GraphParts → List ℕ → Bool
is_variable parts name = list_any (uses name) parts.edges || list_any (sees parts name) parts.nodes

-- the lesser of two columns
abbrev pub lesser : Option ℕ → Option ℕ → Option ℕ
lesser None b = b
lesser (Some a) None = Some a
lesser (Some a) (Some b) = Some (min a b)

module _ (parts : GraphParts) where
  -- the name that a form needs is in the graph: a defined function, a declared one, a label of some edge, a file, or
  -- the name of a variable
  abbrev pub has_its_name : {A B : Type 0} → FilterForm-F A B → Bool
  has_its_name (FilterForm-F.File name) = has_name parts.files name
  has_its_name (FilterForm-F.Func name) = is_some (first_named parts.functions name)
  has_its_name (FilterForm-F.Entry name) = is_some (first_named parts.functions name)
  has_its_name (FilterForm-F.Exit name) = is_some (first_named parts.functions name)
  has_its_name (FilterForm-F.Call name) = has_name parts.declared name
  has_its_name (FilterForm-F.Label name) = list_any (λ (e : Edge). is_name e.label name) parts.edges
  has_its_name (FilterForm-F.Writes name) = is_variable parts name
  has_its_name (FilterForm-F.Reads name) = is_variable parts name
  has_its_name _ = true

  -- where a form whose first token has this column needs a name that isn't there, from where its filters do
  abbrev pub missing_step : FilterForm-F (ℕ → Option ℕ) (Option ℕ) → ℕ → Option ℕ
  missing_step (FilterForm-F.Not f) column = f
  missing_step (FilterForm-F.Complement f) column = f
  missing_step (FilterForm-F.Union f g) column = lesser f g
  missing_step (FilterForm-F.Intersect f g) column = lesser f g
  missing_step (FilterForm-F.SetMinus f g) column = lesser f g
  missing_step (FilterForm-F.Compose f g) column = lesser f g
  missing_step form column = if has_its_name form then None else Some column

  abbrev pub missing_filter_step : Filter-F (ℕ → Option ℕ) (Option ℕ) → Option ℕ
  missing_filter_step f = f.form f.column

  -- the least column of a filter whose name isn't in the graph
  unfoldable pub missing_name : Filter → Option ℕ
  missing_name = fold-Filter (ℕ → Option ℕ) (Option ℕ) missing_step missing_filter_step

  unfoldable pub missing_in_form : FilterForm → ℕ → Option ℕ
  missing_in_form = fold-FilterForm (ℕ → Option ℕ) (Option ℕ) missing_step missing_filter_step
