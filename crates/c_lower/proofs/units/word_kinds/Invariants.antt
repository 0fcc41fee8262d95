use Rattle.std.proofs.Common.{◌≡◌, take}
use Rattle.std.specs.Prelude.{filter_map}
use Rattle.c_lower_rules.specs.graph_of.GraphOf.{word_kind}
use Rattle.c_lower.proofs.units.word_kinds.Given as goal

abbrev pub invariant-loop-parameter : goal.invariant-loop-parameter
invariant-loop-parameter l = l.kinds ≡ filter_map word_kind (take l.parameter-index l.parameters)
