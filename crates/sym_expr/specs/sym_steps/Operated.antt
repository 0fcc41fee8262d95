-- Steps along one edge.
use Rattle.std.specs.Prelude.{ℕ, List}
use Rattle.circuit.specs.declared.lit.Lit.{Lit}
use Rattle.circuit.specs.declared.lit.Gate.{Gate}
use Rattle.cfa.specs.declared.parts.Edge.{Edge}
use Rattle.cfa.specs.declared.parts.GraphParts.{GraphParts}
use Rattle.c_meaning.specs.Steps.{operated}
use Rattle.sym_expr.specs.declared.sym_steps.state.SymState.{SymState}
use Rattle.sym_expr.specs.declared.sym_steps.state.SymStep.{SymStep}
use Rattle.sym_expr.specs.sym_steps.Steps.{IsStep}

-- a step of a symbolic state that does what an edge's operation does
abbrev pub IsOperated : GraphParts → List Gate → List Gate → List (List Lit) → SymState → ℕ → Edge → SymStep → Type 0
IsOperated parts old new answers s at e t = IsStep parts old new answers s (λ input x. operated parts input x at e e.operation) t
