use Rattle.std.proofs.Common.{◌≡◌, drop}
use Rattle.c_type_rules.specs.Rule.{after}
use Rattle.c_types.specs.Declarations.{constants_from}
use Rattle.c_types.proofs.globals.constants.Given as goal

abbrev pub invariant-loop-one : goal.invariant-loop-one
invariant-loop-one l = after (constants_from l.next (drop l.one-index l.list)) l.typer ≡ after (constants_from 0 l.list) l.initial.typer
