use Rattle.std.proofs.Common.{◌≡◌, [], length, IfOk, None, ap, ◌∙◌, subst, codes}
use Rattle.goals.specs.applied_clauses.Applied.{numbers}
use Rattle.goals.specs.applied_clauses.Trees.{Tree, edges, quoted, repeat, tree_of}
use Rattle.filters.specs.Parts.{is_among}
use Rattle.goals.proofs.applied_clauses.Numbers.{rising_numbers}
use Rattle.goals.proofs.applied_clauses.applying.anywhere.Goals as goal

pub returns : goal.returns
returns c =
    let own = c.args.base.now.edges in
    let n = length c.args.graph.now.edges in
    let same : c.in_ok-try_clone.field-0 ≡ numbers (is_among own) n = c.in_ok-try_clone.ensures ∙ rising_numbers own n c.as_slice-edges.ensures.rise c.requires.edges in
    let any : tree_of c.in_ok-any.any ≡ repeat (edges (numbers (is_among own) n) []) 0 None =
    c.in_ok-any.ensures ∙ ap (λ t. repeat t 0 None) (c.edges.ensures ∙ (λ i. edges (same i) (c.new-unsplit.ensures i))) in
    let P : Tree → Type 0 = λ b. IfOk c.quoted.result (λ t. tree_of t ≡ quoted b (codes "ID*")) in
    subst P any c.quoted.ensures
