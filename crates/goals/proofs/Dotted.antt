-- The number of words of a product in memory.
use Rattle.std.proofs.Common.{rules, ◌≡◌, ℕ, ◌*◌, ap, ◌∙◌}
use Rattle.goals.specs.applied_clauses.Trees.{tree_of, dot}
use Rattle.goals.specs.declared.applied_clauses.applied_tree.AppliedTree.{AppliedTree, the_lemmas}
use Rattle.goals.specs.declared.applied_clauses.applied_tree.AppliedTree.TheVariants.{Dot}
use Rattle.goals.specs.Counts.{word_count}

tree_of-dot : (a b : AppliedTree) → tree_of (Dot a b) ≡ dot (tree_of a) (tree_of b)
unfolding tree_of
tree_of-dot a b = search (rules, the_lemmas)

pub dotted_count : (t a b : AppliedTree) → t ≡ Dot a b → word_count (tree_of t) ≡ word_count (tree_of a) * word_count (tree_of b)
dotted_count t a b e = ap (λ x. word_count (tree_of x)) e ∙ ap word_count (tree_of-dot a b)
