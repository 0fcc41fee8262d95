use Rattle.std.proofs.Common.{◌≡◌, length, refl, sym, ◌∙◌, ap, subst}
use Rattle.std.proofs.lemmas.Result.{IfOk-weaker}
use Rattle.automata.specs.Tree.{leaf, dot, either, many, maybe, leaves, Below, Sized}
use Rattle.automata.specs.Views.{view}
use Rattle.automata.proofs.Parts.{dot_viewed, either_viewed, leaf_viewed, many_viewed, maybe_viewed, entered_same, passed_many, passed_maybe, passed_view, if_both, told_still, numbered_at, passed_idle, passed_leaf, passed_dot, passed_either}
use Rattle.automata.proofs.pass.+pass.Goals as goal

pub returns-then-is_idle_part-clause-passed : goal.returns-then-is_idle_part-clause-passed
returns-then-is_idle_part-clause-passed g t c =
    passed_idle c.args.truth.now _ (view c.args.node.now) c.args.guard.taken c.args.begin c.args.marks.now c.requires.sized c.requires.marks c.requires.mark_bits c.requires.begin (c.if-is_known_no.ensures refl) (c.if-is_idle_part.ensures refl)

pub returns-in_ok-end-in-Leaf-clause-passed : goal.returns-in_ok-end-in-Leaf-clause-passed
returns-in_ok-end-in-Leaf-clause-passed g t c =
    let e = leaf_viewed c.args.node.now c.in-Leaf.number c.in-Leaf.is in
    let below : Below (length c.args.letters.now) (leaf c.in-Leaf.number) = subst (Below (length c.args.letters.now)) e c.requires.letters in
    passed_view c.args.node.now (leaf c.in-Leaf.number) e
    (passed_leaf c.args.truth.now c.pass_leaf.new.truth _ c.in-Leaf.number c.args.guard.taken c.args.begin c.in_ok-end-in-Leaf.end c.index-marks-0.result c.in_ok-end-in-Leaf.mark c.args.marks.now
    (g.S.StepMeaning.edge_tells c.args.step.now c.index-letters-number.result) (λ w. g.S.StepMeaning.state_tells c.args.truth.now c.args.step.now c.index-letters-number.result w)
    (c.requires.marks ∙ ap leaves e) c.index-marks-0.is c.in_ok-end-in-Leaf.ensures.end_bit c.in_ok-end-in-Leaf.ensures.mark_bit
    (λ w. numbered_at c.args.letters.now c.in-Leaf.number c.index-letters-number.result (g.S.StepMeaning.edge_tells c.args.step.now) below c.index-letters-number.is)
    (λ w. numbered_at c.args.letters.now c.in-Leaf.number c.index-letters-number.result (λ l. g.S.StepMeaning.state_tells c.args.truth.now c.args.step.now l w) below c.index-letters-number.is)
    c.in_ok-end-in-Leaf.ensures.end_is c.in_ok-end-in-Leaf.ensures.mark_is)

pub returns-in_ok-middle-in-Dot-clause-passed : goal.returns-in_ok-middle-in-Dot-clause-passed
returns-in_ok-middle-in-Dot-clause-passed g t c =
    let e = dot_viewed c.args.node.now c.in-Dot.left c.in-Dot.right c.deref.result.now c.deref-in-Dot.result.now c.in-Dot.leaves c.in-Dot.is c.deref.ensures c.deref-in-Dot.ensures in
    IfOk-weaker c.pass-in-Dot.result _ _ (λ end q.
    passed_view c.args.node.now (dot c.in-Dot.leaves (view c.deref.result.now) (view c.deref-in-Dot.result.now)) e
    (passed_dot c.in_ok-middle-in-Dot.ensures.older c.pass-in-Dot.ensures.older _ _ (told_still g.S.StepMeaning.edge_tells g.S.StepMeaning.state_tells c.args.truth.now c.pass.new.truth c.args.step.now c.args.letters.now (λ l w. g.met.S.StepMeaning.tells_still c.args.truth.now c.pass.new.truth c.args.step.now l w c.in_ok-middle-in-Dot.ensures.older c.requires.fits))
    c.in-Dot.leaves (view c.deref.result.now) (view c.deref-in-Dot.result.now) c.args.marks.now c.split_at_mut-left_marks.result.0.now c.split_at_mut-left_marks.result.1.now c.pass.new.marks c.pass-in-Dot.new.marks
    c.args.guard.taken c.args.begin c.in_ok-middle-in-Dot.middle c.in_ok-middle-in-Dot.middle end c.requires.guard.taken c.requires.begin c.requires.mark_bits
    c.split_at_mut-left_marks.ensures.front c.split_at_mut-left_marks.ensures.back c.in_ok-middle-in-Dot.ensures.passed q refl)) c.pass-in-Dot.ensures.passed

pub returns-in_ok-second-in-Either-clause-passed : goal.returns-in_ok-second-in-Either-clause-passed
returns-in_ok-second-in-Either-clause-passed g t c =
    let e = either_viewed c.args.node.now c.in-Either.left c.in-Either.right c.deref-in-Either.result.now c.deref-in-Either-2.result.now c.in-Either.leaves c.in-Either.is c.deref-in-Either.ensures c.deref-in-Either-2.ensures in
    if_both c.or.result (λ end b v.
    passed_view c.args.node.now (either c.in-Either.leaves (view c.deref-in-Either.result.now) (view c.deref-in-Either-2.result.now)) e
    (passed_either c.in_ok-first-in-Either.ensures.older c.in_ok-second-in-Either.ensures.older _ _ (told_still g.S.StepMeaning.edge_tells g.S.StepMeaning.state_tells c.args.truth.now c.pass-in-Either.new.truth c.args.step.now c.args.letters.now (λ l w. g.met.S.StepMeaning.tells_still c.args.truth.now c.pass-in-Either.new.truth c.args.step.now l w c.in_ok-first-in-Either.ensures.older c.requires.fits))
    c.in-Either.leaves (view c.deref-in-Either.result.now) (view c.deref-in-Either-2.result.now) c.args.marks.now c.split_at_mut-left_marks-in-Either.result.0.now c.split_at_mut-left_marks-in-Either.result.1.now c.pass-in-Either.new.marks c.pass-in-Either-2.new.marks
    c.args.guard.taken c.args.begin c.args.begin c.in_ok-first-in-Either.first c.in_ok-second-in-Either.second c.requires.guard.taken c.requires.begin c.requires.mark_bits
    c.split_at_mut-left_marks-in-Either.ensures.front c.split_at_mut-left_marks-in-Either.ensures.back c.in_ok-first-in-Either.ensures.passed c.in_ok-second-in-Either.ensures.passed end c.or.ensures.older refl b v)) c.or.ensures.bit c.or.ensures.value

pub returns-in_ok-enter-in-Many-clause-passed : goal.returns-in_ok-enter-in-Many-clause-passed
returns-in_ok-enter-in-Many-clause-passed g t c =
    let e = many_viewed c.args.node.now c.in-Many.body c.deref-in-Many.result.now c.in-Many.is c.deref-in-Many.ensures in
    let again : view c.deref-in-Many-2.result.now ≡ view c.deref-in-Many.result.now = ap view (c.deref-in-Many-2.ensures ∙ sym c.deref-in-Many.ensures) in
    let sized : Sized (many (view c.deref-in-Many.result.now)) = subst Sized e c.requires.sized in
    if_both c.or-in-Many.result (λ out b v.
    passed_view c.args.node.now (many (view c.deref-in-Many.result.now)) e
    (passed_many c.in_ok-ended-in-Many.ensures.older c.in_ok-enter-in-Many.ensures.older c.or-in-Many.ensures.older _ _
    (told_still g.S.StepMeaning.edge_tells g.S.StepMeaning.state_tells c.args.truth.now c.pass-in-Many.new.truth c.args.step.now c.args.letters.now (λ l w. g.met.S.StepMeaning.tells_still c.args.truth.now c.pass-in-Many.new.truth c.args.step.now l w c.in_ok-ended-in-Many.ensures.older c.requires.fits))
    (view c.deref-in-Many.result.now) c.args.guard.taken c.args.begin c.in_ok-ended-in-Many.ended c.in_ok-enter-in-Many.field-0 out c.args.marks.now c.pass-in-Many.new.marks c.enter.new.marks
    sized c.requires.guard.taken c.requires.begin c.in_ok-ended-in-Many.ensures.passed
    (entered_same (view c.deref-in-Many-2.result.now) (view c.deref-in-Many.result.now) again c.in_ok-enter-in-Many.ensures.entered) b v)) c.or-in-Many.ensures.bit c.or-in-Many.ensures.value

pub returns-in_ok-ended-in-Maybe-clause-passed : goal.returns-in_ok-ended-in-Maybe-clause-passed
returns-in_ok-ended-in-Maybe-clause-passed g t c =
    let e = maybe_viewed c.args.node.now c.in-Maybe.body c.deref-in-Maybe.result.now c.in-Maybe.is c.deref-in-Maybe.ensures in
    if_both c.or-in-Maybe.result (λ out b v.
    passed_view c.args.node.now (maybe (view c.deref-in-Maybe.result.now)) e
    (passed_maybe c.in_ok-ended-in-Maybe.ensures.older c.or-in-Maybe.ensures.older _
    (view c.deref-in-Maybe.result.now) c.args.guard.taken c.args.begin c.in_ok-ended-in-Maybe.ended out c.args.marks.now c.pass-in-Maybe.new.marks
    c.requires.begin c.in_ok-ended-in-Maybe.ensures.passed b v)) c.or-in-Maybe.ensures.bit c.or-in-Maybe.ensures.value
