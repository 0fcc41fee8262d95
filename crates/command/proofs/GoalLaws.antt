-- One goal over an unwinding.
use Rattle.std.proofs.Common.{◌≡◌, ℕ, List, [], length, Some, slice_get, sym, ap, subst, ◌∙◌}
use Rattle.std.specs.Prelude.{Option}
use Rattle.std.specs.Option.{IsSomeAnd, option_map_or}
use Rattle.std.proofs.lemmas.Slice.Zip.{AllZip-long}
use Rattle.c_meaning.specs.Runs.{IsRun, Run}
use Rattle.c_meaning.specs.declared.ends.Ends.{Ends}
use Rattle.c_meaning.specs.declared.input.Input.{Input}
use Rattle.c_values.specs.Kind.{IsValue}
use Rattle.cfa.specs.declared.parts.Function.{Function}
use Rattle.cfa.specs.declared.parts.GraphParts.{GraphParts}
use Rattle.cfa.specs.declared.state.Predicates.{Predicates}
use Rattle.cnf.proofs.ChecksLaws.{no_model}
use Rattle.cnf.specs.Checks.{Checks}
use Rattle.cnf.specs.declared.derivation.Derivation.{Derivation}
use Rattle.goal_formula.specs.Exact.{IsExact}
use Rattle.goal_formula.specs.declared.goal.GoalFormula.{GoalFormula}
use Rattle.goals.specs.GoalForm.{GoalForm}
use Rattle.goals.specs.declared.plan.Plan.{Plan}
use Rattle.input_text.specs.Laws.{HasWords}
use Rattle.path_runner.specs.Paths.{record_of}
use Rattle.path_runner.specs.declared.path.PathRecord.{PathRecord}
use Rattle.unwinder_reach.specs.declared.reached.bounds.Bounds.{Bounds}
use Rattle.report.specs.Generated.{proved_text}
use Rattle.report.specs.Made.{parameter_kinds}
use Rattle.suite.specs.Made.{IsMadeFor, NoneHits}
use Rattle.suite.specs.declared.decided.Decided.TheVariants.{Covered}
use Rattle.unwinder.specs.Unwinding.{IsUnwound}
use Rattle.unwinder.specs.declared.unwound.Unwound.{Unwound}
use Rattle.command.specs.Prove.{IsSaidOf}
use Rattle.command.specs.Said.{answered}

module _ (parts : GraphParts) (f : Function) (p : Predicates) (plan : Plan) (bounds : Bounds) (goal : GoalForm) where
  -- no input at all hits a goal, for which there is a formula that is exact and a derivation that checks over it
  pub none_hits : (ends : Ends) (g : GoalFormula) (d : Derivation) → IsExact parts p f bounds ends plan goal g → Checks g.formula d → NoneHits parts f p plan bounds ends goal
  none_hits ends g d exact checks = λ input for hits.
      let found = exact.complete input for hits in
      no_model g.formula d found.0 checks found.2

module _ (parts : GraphParts) (p : Predicates) (f : Function) (entry : ℕ) (bounds : Bounds) (ends : Ends) (u : Unwound) (is : IsUnwound parts p f entry bounds ends u) where
  itself : IsUnwound parts p f u.entry u.bounds u.ends u
  itself =
      subst (λ (n : ℕ). IsUnwound parts p f n u.bounds u.ends u) (sym is.given_entry)
      (subst (λ (b : Bounds). IsUnwound parts p f entry b u.ends u) (sym is.given_bounds) (subst (λ (e : Ends). IsUnwound parts p f entry bounds e u) (sym is.given_ends) is))

  -- it is the unwinding of its own entry, bounds and ends
  pub unwound_some : slice_get parts.functions entry ≡ Some f → IsSomeAnd (slice_get parts.functions u.entry) (λ g. IsUnwound parts p g u.entry u.bounds u.ends u)
  unwound_some there =
      subst (λ (o : Option Function). IsSomeAnd o (λ g. IsUnwound parts p g u.entry u.bounds u.ends u)) (sym (ap (slice_get parts.functions) is.given_entry ∙ there)) itself

  pub there_still : slice_get parts.functions entry ≡ Some f → slice_get parts.functions u.entry ≡ Some f
  there_still there = ap (slice_get parts.functions) is.given_entry ∙ there

  module _ (plan : Plan) (goal : GoalForm) where
    pub exact_at : (g : GoalFormula) → IsExact parts p f u.bounds u.ends plan goal g → IsExact parts p f bounds ends plan goal g
    exact_at g exact =
        subst (λ (e : Ends). IsExact parts p f bounds e plan goal g) is.given_ends (subst (λ (b : Bounds). IsExact parts p f b u.ends plan goal g) is.given_bounds exact)

module _ (parts : GraphParts) (f : Function) (p : Predicates) (plan : Plan) (bounds : Bounds) (ends : Ends) (goal : GoalForm) (input : Input) (made : IsMadeFor parts f p plan bounds ends goal input) where
  -- an input that was made has a word for each parameter
  pub has_words : (number : ℕ) → slice_get parts.functions number ≡ Some f → HasWords (length (parameter_kinds parts number)) input
  has_words number there =
      AllZip-long IsValue f.parameters input.words made.made.words_fit ∙ ap length (sym (ap (λ (o : Option Function). option_map_or (λ (g : Function). g.parameters) o []) there))

  -- what is said of it, with the answers of its recorded run
  pub covered_said : (n number : ℕ) (run : PathRecord) (text : List ℕ) → text ≡ proved_text parts n number input run.taken
      → ((r : Run) → IsRun parts f input ends r → run ≡ record_of parts input p r)
      → IsSaidOf parts (record { number = n; function = f }) p plan bounds ends number goal (Covered input) (answered text)
  covered_said n number run text is_text is_run =
      (made.run, made.made, made.hits, ap answered (is_text ∙ ap (λ (x : PathRecord). proved_text parts n number input x.taken) (is_run made.run made.made.is_run)))
