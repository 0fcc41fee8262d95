-- When predicates go with a graph.
use Rattle.std.specs.Prelude.{◌≡◌, ◌≤◌, length, Some, slice_get, IsTrue}
use Rattle.cfa.specs.declared.expr.Expr.{Expr}
use Rattle.cfa.specs.declared.parts.Function.{Function}
use Rattle.cfa.specs.declared.parts.GraphParts.{GraphParts}
use Rattle.cfa.specs.declared.state.Predicates.{Predicates}
use Rattle.cfa.specs.Each.{Each}
use Rattle.cfa.specs.Graph.{room_of}
use Rattle.cfa.specs.Rules.{expr_fits}

-- There are at most 64 predicates, each with one entry for each scope, and each expression meets the rules for
-- expressions in every function that has a node of its scope.
pub record IsPredicates (parts : GraphParts) (p : Predicates) : Type 0 where
  pub texts : length p.texts ≡ length p.meanings
  pub most : length p.meanings ≤ 64
  pub scopes : Each p.meanings (λ i row. length row ≡ length parts.scopes)
  pub rules : Each p.meanings (λ i row. Each parts.nodes (λ j n. (e : Expr) (f : Function) → slice_get row n.scope ≡ Some (Some e) → slice_get parts.functions n.function ≡ Some f → IsTrue (expr_fits (room_of parts f) e)))
