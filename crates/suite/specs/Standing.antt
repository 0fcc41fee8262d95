-- What holds where a goal is sought.
use Rattle.std.specs.Prelude.{List, ℕ}
use Rattle.c_meaning.specs.declared.input.Input.{Input}
use Rattle.suite_problem.specs.declared.given.Given.{Given}
use Rattle.suite_problem.specs.declared.goal.Goal.{Goal}
use Rattle.search_lemmas.specs.Store.{Hold}
use Rattle.search_lemmas.specs.declared.lesson.Lessons.{Lessons}
use Rattle.unwinder.specs.declared.unwound.Unwound.{Unwound}
use Rattle.suite.specs.Pool.{IsPool, IsPooled}
use Rattle.suite.specs.Seeking.{IsSmall, IsUnwindingOf}
use Rattle.suite.specs.declared.pool.Pool.{Pool}

module _ (given : Given) where
  abbrev pub IsPoolOf : Pool → Type 0
  IsPoolOf pool =
      IsPool given.planned.entry.graph.now given.planned.entry.function.now given.planned.predicates given.planned.plan given.bounds given.ends pool

  abbrev pub IsPooledOf : Input → List ℕ → Type 0
  IsPooledOf input numbers =
      IsPooled given.planned.entry.graph.now given.planned.entry.function.now given.planned.predicates given.planned.plan given.bounds given.ends input numbers

-- The unwinding is that of what is given, the goal's size is within its limit over it, the inputs beside are of its plan, and
-- lessons hold in every world of the unwinding.
pub record IsSought (goal : Goal) (u : Unwound) (pool : Pool) (lessons : Lessons) : Type 0 where
  pub unwound : IsUnwindingOf goal.given.now u
  pub small : IsSmall goal u.pairs
  pub pool_is : IsPoolOf goal.given.now pool
  pub lessons_hold : Hold u.circuit lessons
