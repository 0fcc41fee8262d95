-- What the definitions imply.
use Rattle.std.specs.Prelude.{◌≡◌, ◌⊎◌, ℕ, List, IsTrue}
use Rattle.std.specs.List.{list_all}
use Rattle.c_parse.specs.Laws.{HasOneOutcome}
use Rattle.cfa.specs.declared.parts.GraphParts.{GraphParts}
use Rattle.cfa.specs.declared.state.Predicates.{Predicates}
use Rattle.cfa.specs.Graph.{IsGraph}
use Rattle.cfa.specs.Predicates.{IsPredicates}
use Rattle.c_type_rules.specs.Scopes.{has_name}
use Rattle.c_types.specs.Scoped.{expression_in}
use Rattle.cfa.specs.declared.parts.Scope.{Scope}
use Rattle.predicates.specs.Narrowing.{names_of, narrowed}
use Rattle.predicates.specs.Outcome.{ArePredicatesOf, IsRefused}
use Rattle.predicates.specs.Reading.{IsTreeOf, IsUnread}
use Rattle.c_parse.specs.declared.expr.ExprTree.{ExprTree}

-- a text is read as one expression, or isn't read
pub record IsReadOnce (text : List ℕ) : Type 0 where
  pub some : ((t : ExprTree) × IsTreeOf text t) ⊎ IsUnread text
  pub one : (t u : ExprTree) → IsTreeOf text t → IsTreeOf text u → t ≡ u
  pub not_both : (t : ExprTree) → IsTreeOf text t → IsUnread text → ⊥

-- texts have predicates beside an automaton or are refused with a code and a place, and there is only one of all these
abbrev pub OneOutcome : Type 0
OneOutcome = (parts : GraphParts) (texts : List (List ℕ)) → HasOneOutcome (ArePredicatesOf parts texts) (IsRefused parts texts)

-- the predicates of texts beside an automaton go with it
abbrev pub PredicatesFit : Type 0
PredicatesFit = (parts : GraphParts) (texts : List (List ℕ)) (p : Predicates) → IsGraph parts → ArePredicatesOf parts texts p → IsPredicates parts p

-- an expression in a scope depends on the variables alone that have its names
abbrev pub Narrowing : Type 0
Narrowing = (names : List (List ℕ)) (s : Scope) (t : ExprTree) → IsTrue (list_all (has_name names) (names_of t)) → expression_in (narrowed names s) t ≡ expression_in s t
