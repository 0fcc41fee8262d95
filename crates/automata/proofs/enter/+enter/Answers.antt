use Rattle.std.proofs.Common.{length, refl, ◌∙◌, ap, subst}
use Rattle.std.proofs.lemmas.Result.{IfOk-weaker}
use Rattle.automata.specs.Tree.{leaf, dot, either, leaves, Below}
use Rattle.automata.specs.Views.{view}
use Rattle.automata.proofs.Parts.{dot_viewed, either_viewed, leaf_viewed, entered_view, if_both, told_still, numbered_at, entered_idle, entered_leaf, entered_dot, entered_either}
use Rattle.automata.proofs.enter.+enter.Goals as goal

pub returns-then-is_known_no-clause-entered : goal.returns-then-is_known_no-clause-entered
returns-then-is_known_no-clause-entered g t c =
    entered_idle c.args.truth.now _ (view c.args.node.now) c.args.guard c.args.begin c.args.marks.now c.requires.sized c.requires.marks c.requires.mark_bits c.requires.begin (c.if-is_known_no.ensures refl)

pub returns-in_ok-end-in-Leaf-clause-entered : goal.returns-in_ok-end-in-Leaf-clause-entered
returns-in_ok-end-in-Leaf-clause-entered g t c =
    let e = leaf_viewed c.args.node.now c.in-Leaf.number c.in-Leaf.is in
    let below : Below (length c.args.letters.now) (leaf c.in-Leaf.number) = subst (Below (length c.args.letters.now)) e c.requires.letters in
    entered_view c.args.node.now (leaf c.in-Leaf.number) e
    (entered_leaf c.args.truth.now c.enter_leaf.new.truth _ c.in-Leaf.number c.args.guard c.args.begin c.in_ok-end-in-Leaf.end c.index-marks-0.result c.in_ok-end-in-Leaf.mark c.args.marks.now
    (λ w. g.S.StepMeaning.state_tells c.args.truth.now c.args.step.now c.index-letters-number.result w)
    (c.requires.marks ∙ ap leaves e) c.index-marks-0.is c.in_ok-end-in-Leaf.ensures.end_bit c.in_ok-end-in-Leaf.ensures.mark_bit
    (λ w. numbered_at c.args.letters.now c.in-Leaf.number c.index-letters-number.result (λ l. g.S.StepMeaning.state_tells c.args.truth.now c.args.step.now l w) below c.index-letters-number.is)
    c.in_ok-end-in-Leaf.ensures.end_is c.in_ok-end-in-Leaf.ensures.mark_is)

pub returns-in_ok-middle-in-Dot-clause-entered : goal.returns-in_ok-middle-in-Dot-clause-entered
returns-in_ok-middle-in-Dot-clause-entered g t c =
    let e = dot_viewed c.args.node.now c.in-Dot.left c.in-Dot.right c.deref.result.now c.deref-in-Dot.result.now c.in-Dot.leaves c.in-Dot.is c.deref.ensures c.deref-in-Dot.ensures in
    IfOk-weaker c.enter-in-Dot.result _ _ (λ end q.
    entered_view c.args.node.now (dot c.in-Dot.leaves (view c.deref.result.now) (view c.deref-in-Dot.result.now)) e
    (entered_dot c.in_ok-middle-in-Dot.ensures.older c.enter-in-Dot.ensures.older _ _ (told_still g.S.StepMeaning.edge_tells g.S.StepMeaning.state_tells c.args.truth.now c.enter.new.truth c.args.step.now c.args.letters.now (λ l w. g.met.S.StepMeaning.tells_still c.args.truth.now c.enter.new.truth c.args.step.now l w c.in_ok-middle-in-Dot.ensures.older c.requires.fits))
    c.in-Dot.leaves (view c.deref.result.now) (view c.deref-in-Dot.result.now) c.args.marks.now c.split_at_mut-left_marks.result.0.now c.split_at_mut-left_marks.result.1.now c.enter.new.marks c.enter-in-Dot.new.marks
    c.args.guard c.args.begin c.in_ok-middle-in-Dot.middle c.in_ok-middle-in-Dot.middle end c.requires.guard c.requires.begin c.requires.mark_bits
    c.split_at_mut-left_marks.ensures.front c.split_at_mut-left_marks.ensures.back c.in_ok-middle-in-Dot.ensures.entered q refl)) c.enter-in-Dot.ensures.entered

pub returns-in_ok-second-in-Either-clause-entered : goal.returns-in_ok-second-in-Either-clause-entered
returns-in_ok-second-in-Either-clause-entered g t c =
    let e = either_viewed c.args.node.now c.in-Either.left c.in-Either.right c.deref-in-Either.result.now c.deref-in-Either-2.result.now c.in-Either.leaves c.in-Either.is c.deref-in-Either.ensures c.deref-in-Either-2.ensures in
    if_both c.or.result (λ end b v.
    entered_view c.args.node.now (either c.in-Either.leaves (view c.deref-in-Either.result.now) (view c.deref-in-Either-2.result.now)) e
    (entered_either c.in_ok-first-in-Either.ensures.older c.in_ok-second-in-Either.ensures.older _ _ (told_still g.S.StepMeaning.edge_tells g.S.StepMeaning.state_tells c.args.truth.now c.enter-in-Either.new.truth c.args.step.now c.args.letters.now (λ l w. g.met.S.StepMeaning.tells_still c.args.truth.now c.enter-in-Either.new.truth c.args.step.now l w c.in_ok-first-in-Either.ensures.older c.requires.fits))
    c.in-Either.leaves (view c.deref-in-Either.result.now) (view c.deref-in-Either-2.result.now) c.args.marks.now c.split_at_mut-left_marks-in-Either.result.0.now c.split_at_mut-left_marks-in-Either.result.1.now c.enter-in-Either.new.marks c.enter-in-Either-2.new.marks
    c.args.guard c.args.begin c.args.begin c.in_ok-first-in-Either.first c.in_ok-second-in-Either.second c.requires.guard c.requires.begin c.requires.mark_bits
    c.split_at_mut-left_marks-in-Either.ensures.front c.split_at_mut-left_marks-in-Either.ensures.back c.in_ok-first-in-Either.ensures.entered c.in_ok-second-in-Either.ensures.entered end c.or.ensures.older refl b v)) c.or.ensures.bit c.or.ensures.value
