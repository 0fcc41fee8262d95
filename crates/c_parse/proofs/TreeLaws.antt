-- What the proofs about trees share.
use Rattle.c_parse.specs.declared.expr.ExprForm.{the_lemmas as expr_lemmas}

pub ruleset expr_laws = (expr_lemmas)
