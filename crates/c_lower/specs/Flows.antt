-- Where a flow ends and what is known there, behind parts that are there.
use Rattle.std.specs.Prelude.{ℕ, length}
use Rattle.c_lower_rules.specs.declared.graph_of.parts.Parts.{Parts}
use Rattle.c_lower_rules.specs.graph_of.Builder.{Flow}

unfoldable pub end_of : {A : Type 0} → Flow A → ℕ → Parts → ℕ
end_of x a m = (x a (length m.nodes) (length m.edges) (length m.scopes)).end

unfoldable pub gives_of : {A : Type 0} → Flow A → ℕ → Parts → A
gives_of x a m = (x a (length m.nodes) (length m.edges) (length m.scopes)).gives
