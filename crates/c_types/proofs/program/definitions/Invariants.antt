use Rattle.std.proofs.Common.{◌≡◌, [], drop}
use Rattle.std.specs.List.{fold}
use Rattle.c_types.specs.Units.{with_definition}
use Rattle.c_types.proofs.program.definitions.Given as goal

abbrev pub invariant-loop-item : goal.invariant-loop-item
invariant-loop-item l = fold with_definition l.names (drop l.item-index l.items) ≡ fold with_definition [] l.items
