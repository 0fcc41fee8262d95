use Rattle.std.proofs.Common.{sym, subst}
use Rattle.goal_formula.specs.Forms.{HasWorlds}
use Rattle.search_lemmas.specs.Store.{Hold}
use Rattle.unwinder.specs.declared.unwound.Unwound.{Unwound}
use Rattle.suite.proofs.sought.Sought.formula_given.Goals as goal

pub given-requires-clause-lessons : goal.given-requires-clause-lessons
given-requires-clause-lessons c = subst (λ (u : Unwound). Hold u.circuit c.self.inside.lessons) (sym c.in_ok-formula.ensures.same) c.self.invariant.lessons_hold

pub given-requires-clause-worlds : goal.given-requires-clause-worlds
given-requires-clause-worlds c = subst (λ (u : Unwound). HasWorlds u.circuit c.in_ok-formula.formula) (sym c.in_ok-formula.ensures.same) c.in_ok-formula.ensures.worlds
