use Rattle.std.proofs.Common.{◌≡◌, Option, ap, length, ◌∙◌, subst}
use Rattle.std.specs.Prelude.{option_map}
use Rattle.goals.specs.applied_clauses.Applied.{applied}
use Rattle.goals.specs.applied_clauses.Trees.{Tree, tree_of}
use Rattle.fql_read.specs.declared.query.Clause.{Clause}
use Rattle.goals.specs.Plans.{IsTreeOutcome, cover_tree, passing_tree}
use Rattle.goals.proofs.OverLaws.{mapped, outcome_over}
use Rattle.goals.proofs.planning.plan_named.Goals as goal

pub returns-clause-outcome : goal.returns-clause-outcome
returns-clause-outcome c =
    let parts = c.args.graph.now in
    let query = c.args.query.now in
    let cover : tree_of c.in_ok-cover.cover ≡ cover_tree parts query =
    c.in_ok-cover.ensures.outcome.0 ∙ ap (λ p. applied parts p query.cover.body) c.in_ok-base.ensures.part in
    let passing : option_map tree_of c.in_ok-passing.passing ≡ passing_tree parts query =
    c.in_ok-passing.ensures.outcome.0 ∙ ap (λ p. option_map (λ (clause : Clause). applied parts p clause.body) query.passing) c.requires.all in
    let P : Tree → Type 0 = λ t. IsTreeOutcome query t (option_map tree_of c.in_ok-passing.passing) c.plan_of_trees.result in
    let Q : Option Tree → Type 0 = λ t. IsTreeOutcome query (cover_tree parts query) t c.plan_of_trees.result in
    subst Q passing (subst P cover c.plan_of_trees.ensures)

pub returns-clause-over : goal.returns-clause-over
returns-clause-over c usable =
    let count = length c.args.query.now.predicates in
    outcome_over c.args.graph.now c.args.query.now (tree_of c.in_ok-cover.cover) (option_map tree_of c.in_ok-passing.passing) c.plan_of_trees.result
    (c.in_ok-cover.ensures.within count usable.cover_within)
    (mapped c.args.graph.now count c.in_ok-passing.passing (c.in_ok-passing.ensures.within count usable.passing_within))
    c.plan_of_trees.ensures
