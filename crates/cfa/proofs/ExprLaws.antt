-- What the proofs about expressions share.
use Rattle.cfa.specs.declared.expr.CellPlace.{the_lemmas}

pub ruleset expr_laws = (the_lemmas)
