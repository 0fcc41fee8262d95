-- What is said of an entry and bounds, over what stands on their types.
use Rattle.std.specs.Prelude.{ℕ}
use Rattle.cfa.specs.declared.parts.Function.{Function}
use Rattle.cfa.specs.declared.parts.GraphParts.{GraphParts}
use Rattle.cnf.specs.declared.formula.Formula.{Formula}
use Rattle.fq_core.specs.declared.refusal.Fault.{Fault}
use Rattle.goal_formula.specs.declared.goal.GoalFormula.{GoalFormula}
use Rattle.unwinder.specs.Unwinding.{IsUnwindFault}
use Rattle.bounds_check.specs.Leaving.{IsExactForLeaving, IsForLeaving, no_predicates}
use Rattle.bounds_check.specs.Sufficing.{IsOpenWhereShort, IsSuffice, IsWithinLimits}
use Rattle.bounds_check.specs.declared.bounded.Bounded.{Bounded}
use Rattle.bounds_check.specs.declared.suffice.Suffice.{Suffice}

module _ (bounded : Bounded) where
  abbrev graph_of : GraphParts
  graph_of = bounded.entry.graph.now

  abbrev function_of : Function
  function_of = bounded.entry.function.now

  -- a formula is exact for leaving the bounds, with its input bits and alone
  abbrev pub IsExactFor : GoalFormula → Type 0
  IsExactFor formula = IsExactForLeaving graph_of function_of bounded.bounds formula

  abbrev pub IsFormulaFor : Formula → Type 0
  IsFormulaFor formula = IsForLeaving graph_of function_of bounded.bounds formula

  abbrev pub IsWithin : Type 0
  IsWithin = IsWithinLimits graph_of function_of bounded.bounds

  abbrev pub CannotUnwind : Fault → Type 0
  CannotUnwind fault = IsUnwindFault graph_of no_predicates bounded.bounds function_of fault

  -- what is said of an answer, and where it is open
  abbrev pub IsSufficeFor : ℕ → Suffice → Type 0
  IsSufficeFor budget suffice = IsSuffice graph_of function_of bounded.bounds budget suffice

  abbrev pub IsOpenFor : ℕ → Suffice → Type 0
  IsOpenFor budget suffice = IsOpenWhereShort graph_of function_of bounded.bounds budget suffice
