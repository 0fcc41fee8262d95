-- Where the answer is open, the budget falls short; a derivation that checks shows that no input leaves the bounds.
use Rattle.std.proofs.Common.{ℕ, ◌^◌, ◌<◌, ◌≤◌, refl, subst, sym, arith}
use Rattle.std.proofs.Math.Nat.{pow-le-pow_right}
use Rattle.cfa.specs.declared.parts.Function.{Function}
use Rattle.cfa.specs.declared.parts.GraphParts.{GraphParts}
use Rattle.cnf.proofs.ChecksLaws.{no_model}
use Rattle.cnf.specs.Checks.{Checks}
use Rattle.cnf.specs.declared.derivation.Derivation.{Derivation}
use Rattle.cnf.specs.declared.formula.Formula.{Formula}
use Rattle.goal_formula.specs.declared.goal.GoalFormula.{GoalFormula}
use Rattle.unwinder_reach.specs.declared.reached.bounds.Bounds.{Bounds}
use Rattle.search.proofs.HistoryLaws.{histories_end_law}
use Rattle.search.specs.declared.moves.History.{History}
use Rattle.bounds_check.specs.Laws.{DerivationsSuffice}
use Rattle.bounds_check.specs.Leaving.{IsExactForLeaving, IsForLeaving, NoneLeaves, most_variables}
use Rattle.bounds_check.specs.Sufficing.{FallsShort, IsOpenWhereShort, IsSpent, IsSuffice}
use Rattle.bounds_check.specs.declared.suffice.Suffice.{Suffice}
use Rattle.bounds_check.specs.declared.suffice.Suffice.TheVariants.{Left, Open, Yes}

pub own_bits : (parts : GraphParts) (f : Function) (bounds : Bounds) (g : GoalFormula) → IsExactForLeaving parts f bounds g → IsForLeaving parts f bounds g.formula
own_bits parts f bounds g exact = record { bits = g; same = refl; exact = exact }

pub none_leaves : (parts : GraphParts) (f : Function) (bounds : Bounds) (g : GoalFormula) (derivation : Derivation) → IsExactForLeaving parts f bounds g → Checks g.formula derivation → NoneLeaves parts f bounds
none_leaves parts f bounds g derivation exact checks = λ input given leaves.
    let it = exact.complete input given leaves in
    no_model g.formula derivation it.0 checks it.2

pub derivations_suffice_law : DerivationsSuffice
derivations_suffice_law parts f bounds formula derivation is checks = none_leaves parts f bounds is.bits derivation is.exact (subst (λ (x : Formula). Checks x derivation) (sym is.same) checks)

-- a history of so many moves has fewer than 3 to the number of the variables
short_of : (parts : GraphParts) (f : Function) (bounds : Bounds) (g : GoalFormula) (budget : ℕ) (history : History) → IsExactForLeaving parts f bounds g → IsSpent g.formula budget history → FallsShort parts f bounds budget
short_of parts f bounds g budget history exact spent = record {
  pairs = exact.pairs;
  steps = exact.steps;
  reached = exact.reached;
  short =
      (let own = histories_end_law g.formula history.moves spent.1.0 exact.over spent.1.1 in
      let three : 0 < 3 = omega arith in
      let most : 3 ^ g.formula.variables ≤ 3 ^ most_variables parts f bounds exact.pairs exact.steps = pow-le-pow_right three exact.few_variables in
      let count = spent.0 in
      omega (arith, own, most, count));
}

pub open_where_short : (parts : GraphParts) (f : Function) (bounds : Bounds) (budget : ℕ) (s : Suffice) → IsSuffice parts f bounds budget s → IsOpenWhereShort parts f bounds budget s
open_where_short parts f bounds budget (Yes formula derivation) h = tt
open_where_short parts f bounds budget (Left input) h = tt
open_where_short parts f bounds budget (Open formula history) h = short_of parts f bounds h.0.bits budget history h.0.exact (subst (λ (x : Formula). IsSpent x budget history) (sym h.0.same) h.1)
