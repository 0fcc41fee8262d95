-- What a few edges add, one after another.
use Rattle.std.proofs.Common.{◌≡◌, ℕ, List, [], ◌∷◌, map, true, false, Option, length}
use Rattle.fq_core.specs.declared.span.Span.{Span}
use Rattle.cfa.specs.declared.expr.CellPlace.{CellPlace}
use Rattle.cfa.specs.declared.expr.Expr.{Expr}
use Rattle.cfa.specs.declared.parts.Operation.TheVariants.{Call, Return}
use Rattle.cfa.specs.declared.parts.Variable.{Variable}
use Rattle.c_typed_trees.specs.declared.expression.Callee.TheVariants.{Defined}
use Rattle.c_lower_rules.specs.declared.graph_of.parts.Around.{Around}
use Rattle.c_lower_rules.specs.declared.graph_of.parts.Operand.{Operand}
use Rattle.c_lower_rules.specs.declared.graph_of.parts.Parts.{Parts}
use Rattle.c_lower_rules.specs.graph_of.Builder.{after}
use Rattle.c_lower_rules.specs.graph_of.Edges.{entry_of, exit_of, step, guard, guards}
use Rattle.c_lower_rules.specs.graph_of.Expressions.{array_of, reads_of, call_edges}
use Rattle.c_lower_rules.proofs.graph_of.After.{after_numbered}
use Rattle.c_lower.proofs.Stops.{stop_grows}

pub guards_law : (u : Around) (span : Span) (test : Expr) (reads : List (List ℕ)) (a t f : ℕ) (m : Parts)
    → after (guards u span test reads a t f) m ≡ after (guard u span test reads false a f) (after (guard u span test reads true a t) m)
guards_law u span test reads a t f m = after_numbered (λ n e k. _ ∷ _ ∷ []) m

pub ruleset edge_laws = (guards_law, stop_grows)

pub call_law : (i : ℕ) (arrays : List Variable) (u : Around) (words : List Operand) (dest : Option CellPlace) (a z : ℕ) (m : Parts)
    → after (call_edges (Defined i) arrays u words dest a z) m
    ≡ after (step u (Return (length m.edges) dest) [] [] (exit_of i) z) (after (step u (Call i (map (λ (w : Operand). w.value) words) (map (λ (v : Variable). array_of v.place) arrays)) [] (reads_of words arrays) a (entry_of i)) m)
call_law i arrays u words dest a z m = after_numbered (λ n e k. _ ∷ _ ∷ []) m

pub ruleset call_laws = (call_law, stop_grows)
