use Rattle.std.proofs.Common.{◌≡◌, ◌≤◌, List, length, subst}
use Rattle.c_meaning.specs.Starts.{fitted_words}
use Rattle.cfa.specs.declared.parts.Variable.{Variable}
use Rattle.c_typed_trees.specs.Fitting.{word_kinds}
use Rattle.tree_meaning.proofs.Beginnings.{words_end}
use Rattle.tree_meaning.proofs.run.words_of.Goals as goal

pub returns : goal.returns
returns c =
    let vs = c.args.function.now.parameters in
    let i = c.loop-parameter.parameter-index in
    let same : c.as_slice-parameter-items.result.now ≡ vs = c.as_slice-parameter-items.ensures in
    let le : length vs ≤ i = subst (λ (xs : List Variable). length xs ≤ i) same c.loop-parameter-test.false in
    words_end vs (fitted_words c.args.words.now (word_kinds c.args.function.now)) i c.loop-parameter.values c.loop-parameter.left.now c.loop-parameter.invariant le
