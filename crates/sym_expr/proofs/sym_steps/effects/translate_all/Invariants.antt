use Rattle.sym_expr.proofs.sym_steps.EffectLemmas.{WordsSoFar}
use Rattle.sym_expr.proofs.sym_steps.effects.translate_all.Given as goal

abbrev pub invariant-loop-word : goal.invariant-loop-word
invariant-loop-word l = WordsSoFar l.initial.circuit l.circuit l.store.cells l.frame l.words l.values l.fine l.word-index
