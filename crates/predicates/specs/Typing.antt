-- The expressions of trees in the scopes of an automaton.
use Rattle.std.specs.Prelude.{◌≡◌, ◌<◌, ℕ, Bool, true, false, ◌&&◌, ◌==◌, List, map, length, Option, Some, None, slice_get, slice_index_or, option_and_then}
use Rattle.std.specs.List.{list_all, list_any, zip}
use Rattle.std.specs.Option.{is_some}
use Rattle.c_parse.specs.declared.expr.ExprTree.{ExprTree}
use Rattle.c_types.specs.Scoped.{expression_in}
use Rattle.cfa.specs.declared.expr.Expr.{Expr}
use Rattle.cfa.specs.declared.parts.GraphParts.{GraphParts}
use Rattle.cfa.specs.declared.parts.Node.{Node}
use Rattle.cfa.specs.declared.parts.Scope.{Scope}

-- the expression of a tree in each of these scopes, in order, where it has one
abbrev pub meanings_in : List Scope → ExprTree → List (Option Expr)
meanings_in scopes t = map (λ s. expression_in s t) scopes

-- the expression of a tree in the scope of a node
abbrev pub meaning_at : List Scope → ExprTree → Node → Option Expr
meaning_at scopes t n = option_and_then (λ s. expression_in s t) (slice_get scopes n.scope)

-- a tree has an expression in the scope of some node
abbrev pub is_typable : GraphParts → ExprTree → Bool
is_typable parts t = list_any (λ (n : Node). is_some (meaning_at parts.scopes t n)) parts.nodes

-- each tree has
abbrev pub all_typable : GraphParts → List ExprTree → Bool
all_typable parts trees = list_all (is_typable parts) trees

-- the meanings of trees, or none where some tree has an expression in no node's scope
abbrev pub AreMeanings : GraphParts → List ExprTree → Option (List (List (Option Expr))) → Type 0
AreMeanings parts trees None = all_typable parts trees ≡ false
AreMeanings parts trees (Some rows) = (all_typable parts trees ≡ true) × (rows ≡ map (meanings_in parts.scopes) trees)

-- ---- which scopes have a node

-- the scope of this number is that of some node
abbrev pub has_node : List Node → ℕ → Bool
has_node nodes scope = list_any (λ (n : Node). n.scope == scope) nodes

-- a table that says so for the first scopes, so many
pub record IsTableOf (nodes : List Node) (scopes : ℕ) (table : List Bool) : Type 0 where
  pub size : length table ≡ scopes
  pub says : (i : ℕ) → i < scopes → slice_index_or table i false ≡ has_node nodes i

-- there is an expression in a scope that the table has
abbrev pub is_met : List (Option Expr) → List Bool → Bool
is_met row table = list_any (λ (at : Option Expr × Bool). is_some at.0 && at.1) (zip row table)
