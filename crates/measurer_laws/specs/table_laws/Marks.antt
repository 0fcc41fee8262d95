-- How the edges of an automaton are marked: outcomes, names that are written, labels.
use Rattle.std.specs.Prelude.{◌≡◌, ℕ, Bool, true, false, List, [], ◌∷◌, Option, Some, None, slice_get}
use Rattle.fq_core.specs.declared.statement_kind.StatementKind.{StatementKind}
use Rattle.fq_core.specs.declared.statement_kind.StatementKind.TheVariants as kinds
use Rattle.cfa.specs.declared.parts.Edge.{Edge}
use Rattle.cfa.specs.declared.parts.GraphParts.{GraphParts}
use Rattle.cfa.specs.declared.parts.Operation.{Operation}
use Rattle.cfa.specs.declared.parts.Operation.TheVariants.{Skip, Assign, Clear}
use Rattle.cfa.specs.Graph.{is_guard}
use Rattle.c_typed_trees.specs.declared.unit.Typed.{Typed}
use Rattle.c_lower_rules.specs.graph_of.GraphOf.{graph_of}

-- ---- outcomes

-- no edge but guards has the mark `outcome`
abbrev pub OutcomesAreGuards : GraphParts → Type 0
OutcomesAreGuards parts = (k : ℕ) (e : Edge) → slice_get parts.edges k ≡ Some e → e.outcome ≡ true → is_guard e.operation ≡ true

-- ---- names

abbrev pub is_label : StatementKind → Bool
is_label kinds.Label = true
is_label _ = false

abbrev pub is_skip : Operation → Bool
is_skip Skip = true
is_skip _ = false

abbrev pub puts : Operation → Bool
puts (Assign place value) = true
puts (Clear array length) = true
puts _ = false

-- an edge that writes a variable is an Assign or a Clear, and writes one
abbrev pub WritesOne : List (List ℕ) → Operation → Type 0
WritesOne [] op = Unit {0}
WritesOne (name ∷ []) op = puts op ≡ true
WritesOne (name ∷ other ∷ rest) op = ⊥

-- the edges with a label are those of label statements, and they are Skips that neither enter a loop nor lead back
abbrev pub IsLabelled : Option (List ℕ) → Edge → Type 0
IsLabelled None e = is_label e.statement ≡ false
IsLabelled (Some name) e = (is_label e.statement ≡ true) × (is_skip e.operation ≡ true) × (e.enter ≡ false) × (e.back ≡ false)

pub record NamesStand (e : Edge) : Type 0 where
  pub writes : WritesOne e.writes e.operation
  pub label : IsLabelled e.label e

abbrev pub AllNamesStand : GraphParts → Type 0
AllNamesStand parts = (k : ℕ) (e : Edge) → slice_get parts.edges k ≡ Some e → NamesStand e

-- ---- the laws

-- so it is of the automaton of each typed unit
abbrev pub GraphsMarkGuards : Type 0
GraphsMarkGuards = (t : Typed) (files : List (List ℕ)) → OutcomesAreGuards (graph_of t files)

abbrev pub NamesStandInGraphs : Type 0
NamesStandInGraphs = (t : Typed) (files : List (List ℕ)) → AllNamesStand (graph_of t files)
