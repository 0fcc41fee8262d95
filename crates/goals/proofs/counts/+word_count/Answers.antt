use Rattle.std.proofs.Common.{◌≡◌, ℕ, ◌*◌, min, ap, sym, ◌∙◌}
use Rattle.goals.specs.applied_clauses.Trees.{tree_of}
use Rattle.goals.specs.Counts.{word_count}
use Rattle.goals.proofs.Capped.{capped_product}
use Rattle.goals.proofs.Dotted.{dotted_count}
use Rattle.goals.proofs.counts.+word_count.Goals as goal

pub returns-in-Dot : goal.returns-in-Dot
returns-in-Dot t c =
    let m : ℕ = 18446744073709551615 in
    let first : c.word_count.result ≡ min (word_count (tree_of c.in-Dot.a)) m = c.word_count.ensures ∙ ap (λ x. min (word_count (tree_of x)) m) c.deref-in-Dot.ensures in
    let second : c.word_count-in-Dot.result ≡ min (word_count (tree_of c.in-Dot.b)) m = c.word_count-in-Dot.ensures ∙ ap (λ x. min (word_count (tree_of x)) m) c.deref-in-Dot-2.ensures in
    c.saturating_mul.ensures ∙ (λ i. min (first i * second i) m) ∙ capped_product (word_count (tree_of c.in-Dot.a)) (word_count (tree_of c.in-Dot.b)) m ∙ ap (λ v. min v m) (sym (dotted_count c.args.tree.now c.in-Dot.a c.in-Dot.b c.in-Dot.is))
