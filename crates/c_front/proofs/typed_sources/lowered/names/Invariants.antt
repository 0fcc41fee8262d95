use Rattle.std.proofs.Common.{◌≡◌, take}
use Rattle.c_front.specs.Automata.{names_of}
use Rattle.c_front.proofs.typed_sources.lowered.names.Given as goal

abbrev pub invariant-loop-text : goal.invariant-loop-text
invariant-loop-text l = l.names ≡ names_of (take l.text-index l.texts)
