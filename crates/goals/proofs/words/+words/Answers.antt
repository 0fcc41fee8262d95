use Rattle.std.proofs.Common.{◌≡◌, ◌∙◌, sym, arith}
use Rattle.goals.specs.applied_clauses.Trees.{tree_of}
use Rattle.goals.specs.Quotes.{quotes_in}
use Rattle.goals.specs.Words.{texts}
use Rattle.goals.specs.Counts.{word_count}
use Rattle.goals.proofs.Products.{no_words}
use Rattle.goals.proofs.words.+words.Goals as goal

pub returns-then-word_count-eq0 : goal.returns-then-word_count-eq0
returns-then-word_count-eq0 t c =
    let none : word_count (tree_of c.args.tree.now) ≡ 0 = omega (arith, c.word_count.ensures, c.if-word_count-eq0.true) in
    c.new.ensures ∙ sym (no_words (texts (quotes_in c.args.quotes.now)) (tree_of c.args.tree.now) none)
