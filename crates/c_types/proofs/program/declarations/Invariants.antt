use Rattle.std.proofs.Common.{◌≡◌, [], drop}
use Rattle.std.specs.List.{fold}
use Rattle.c_types.specs.Units.{with_declaration}
use Rattle.c_types.proofs.program.declarations.Given as goal

abbrev pub invariant-loop-item : goal.invariant-loop-item
invariant-loop-item l = fold with_declaration l.names (drop l.item-index l.items) ≡ fold with_declaration [] l.items
