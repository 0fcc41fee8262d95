use Rattle.std.proofs.Common.{◌≡◌, map}
use Rattle.std.specs.List.{flat_map}
use Rattle.c_lower_rules.specs.declared.graph_of.parts.Operand.{Operand}
use Rattle.c_lower.proofs.operands.split_operands.Given as goal

abbrev pub invariant-loop-operand : goal.invariant-loop-operand
invariant-loop-operand l = record { values : l.values ≡ map (λ (w : Operand). w.value) l.yielded; reads : l.names ≡ flat_map (λ (w : Operand). w.reads) l.yielded }
