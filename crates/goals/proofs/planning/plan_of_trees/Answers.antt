use Rattle.std.proofs.Common.{◌≡◌, ap, sym, ◌∙◌}
use Rattle.std.specs.Prelude.{option_map}
use Rattle.goals.specs.applied_clauses.Trees.{tree_of}
use Rattle.indexmap.specs.IndexSet.{insert_all}
use Rattle.goals.specs.CountedCauses.{counted_causes}
use Rattle.goals.specs.Plans.{first_cause}
use Rattle.goals.specs.Quotes.{quotes_in}
use Rattle.goals.specs.Words.{quoted, quotes_of, same_text}
use Rattle.goals.proofs.Causes.{first_counted}
use Rattle.goals.proofs.planning.plan_of_trees.Goals as goal

pub returns-in-Some : goal.returns-in-Some
returns-in-Some c =
    let cover = tree_of c.args.cover.now in
    let passing = option_map tree_of c.args.passing.now in
    let own = c.in_ok-quotes.quotes.items in
    let same : quotes_in own ≡ quotes_of cover = c.in_ok-quotes.ensures ∙ ap (λ x. insert_all same_text (quotes_in x) (quoted cover)) c.new.ensures.items in
    first_counted cover passing (quotes_in own) same c.requires.cover c.requires.passing
    ∙ ap (λ x. first_cause (counted_causes (quotes_in x) cover passing)) (sym c.deref.ensures.value) ∙ sym c.refusal_of.ensures ∙ c.in-Some.is

pub returns : goal.returns
returns c =
    let cover = tree_of c.args.cover.now in
    let passing = option_map tree_of c.args.passing.now in
    let own = c.in_ok-quotes.quotes.items in
    let same : quotes_in own ≡ quotes_of cover = c.in_ok-quotes.ensures ∙ ap (λ x. insert_all same_text (quotes_in x) (quoted cover)) c.new.ensures.items in (
      first_counted cover passing (quotes_in own) same c.requires.cover c.requires.passing
          ∙ ap (λ x. first_cause (counted_causes (quotes_in x) cover passing)) (sym c.deref.ensures.value) ∙ sym c.refusal_of.ensures ∙ c.in-None.is,
      c.in_ok-plan_with-in-None.ensures,
    )
