use Rattle.std.proofs.Common.{length}
use Rattle.unwinder.proofs.input_words.ListLemmas.{ArgumentsSoFar}
use Rattle.unwinder.proofs.input_words.words.argument_words.Given as goal

abbrev pub invariant-loop-kind : goal.invariant-loop-kind
invariant-loop-kind l = ArgumentsSoFar (length l.initial.circuit) l.parameters l.circuit l.words l.kind-index
