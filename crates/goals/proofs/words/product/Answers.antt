use Rattle.std.proofs.Common.{◌++◌, ◌∙◌, sym, map}
use Rattle.goals.proofs.Products.{product_more}
use Rattle.goals.proofs.words.product.Goals as goal

pub loop-word-preserved : goal.loop-word-preserved
loop-word-preserved c =
    let v = c.word-item.result in
    c.in_ok-words.ensures ∙ (λ i. c.loop-word.invariant i ++ map (λ w. c.deref.ensures i ++ w) c.args.others.now)
    ∙ sym (product_more c.args.firsts.now c.args.others.now c.loop-word.word-index v c.loop-word-test.true c.word-item.is)
