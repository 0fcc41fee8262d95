-- What a generation says of all runs.
use Rattle.std.proofs.Common.{◌≡◌, ℕ, [], ◌∷◌, length, sym, ap, ◌∙◌, arith}
use Rattle.std.proofs.lemmas.Slice.Zip.{AllZip-long}
use Rattle.cfa.specs.declared.parts.Function.{Function}
use Rattle.c_values.specs.Kind.{IsValue}
use Rattle.c_meaning.proofs.RunLaws.{one_run}
use Rattle.c_meaning.specs.Runs.{Run}
use Rattle.c_meaning.specs.Starts.{CanStart}
use Rattle.c_meaning.specs.declared.ends.Ends.TheVariants as counted
use Rattle.c_meaning.specs.declared.input.Input.{Input}
use Rattle.goals.specs.Forms.{Pattern}
use Rattle.goals.specs.GoalForm.{GoalForm}
use Rattle.goals.specs.declared.answer.Answer.TheVariants as answer
use Rattle.patterns.proofs.Forms.{form_letter}
use Rattle.patterns.specs.Letters.{form}
use Rattle.patterns.specs.Match.{letter}
use Rattle.patterns.specs.declared.letter.Letter.TheVariants.{Nodes}
use Rattle.measurer_hits.specs.run_laws.Laws.{IsGiven}
use Rattle.unwinder.specs.Lists.{IsInputFor}
use Rattle.bounds_check_laws.proofs.ending_laws.Asked.{each_run_returns, no_run_time_error}
use Rattle.bounds_check_laws.proofs.ending_laws.Short.{bounded_runs_are_short}
use Rattle.bounds_check_laws.specs.ending_laws.Asking.{AsksFor}
use Rattle.command_laws.specs.made_laws.Laws.{AnswersRefuteEnds, EachReturns, MadeRunsAreShort, NoneTraps}

pub made_runs_are_short : MadeRunsAreShort
made_runs_are_short graph k f p plan bounds ends budget made shown g own arrays generated place input run there is =
    let measured = generated.answered.inputs place input there in
    let start : CanStart f input.words = (AllZip-long IsValue f.parameters input.words measured.is_made.words_fit, arrays) in
    let same : measured.run ≡ run = one_run graph f input ends ends measured.run run measured.is_made.is_run is in
    let limits = generated.limits in
    let short = bounded_runs_are_short graph k f bounds limits.pairs limits.steps input measured.run g own start limits.reached measured.is_made.is_run.begins measured.is_made.within in
    let few = limits.few_pairs in
    let long = ap (λ (r : Run). length r.moves) same in
    omega (arith, short, few, long)

-- two nodes of one goal are one
one_node : (a b : ℕ) (goal : GoalForm) → AsksFor a goal → AsksFor b goal → a ≡ b
one_node a b goal one other =
    let e : letter (Nodes (a ∷ [])) ≡ letter (Nodes (b ∷ [])) = sym (form_letter (Nodes (a ∷ []))) ∙ ap (λ (q : Pattern). form q) (sym one ∙ other) ∙ form_letter (Nodes (b ∷ [])) in
    cc

pub answers_refute_ends : AnswersRefuteEnds
answers_refute_ends graph f p plan bounds ends e = record {
  plainly = e.plainly;
  asks = e.asks;
  stay = λ input given. e.stay input (record { start = given.0; answers = given.1 });
  unhit = λ place node goal there asks other input given hits.
      let refuted = e.others place goal there (λ exit. other (one_node node f.exit goal asks exit)) in
      e.generated.answered.answers place goal answer.Refuted there refuted input (record { start = given.0; answers = given.1 }) hits;
}

given_of : (f : Function) (input : Input) → IsInputFor f input → IsGiven f input
given_of f input given = (given.start, given.answers)

pub none_traps : NoneTraps
none_traps graph k f p plan bounds g own e input given trap =
    no_run_time_error bounds.turns bounds.frames bounds.answers graph k f p plan g own (answers_refute_ends graph f p plan bounds counted.Trapped e) input (given_of f input given) trap

pub each_returns : EachReturns
each_returns graph k f p plan bounds g own e input given =
    let limits = e.generated.limits in
    each_run_returns graph k f bounds limits.pairs limits.steps p plan g own limits.reached limits.few_pairs (answers_refute_ends graph f p plan bounds counted.Any e) input (given_of f input given)
