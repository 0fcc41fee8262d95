use Rattle.search_lemmas.specs.Store.{Hold}
use Rattle.search_lemmas_tests.proofs.tests.learn_gates.Given as goal

abbrev pub invariant-loop-k : goal.invariant-loop-k
invariant-loop-k g l = Hold l.circuit l.store
