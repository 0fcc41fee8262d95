use Rattle.std.proofs.Common.{length, not, All, sym, ◌∙◌, ap, subst}
use Rattle.std.proofs.lemmas.List.{with_items_is}
use Rattle.automata.specs.Passing.{Silent}
use Rattle.automata.specs.Still.{silent_still}
use Rattle.automata.specs.Views.{view}
use Rattle.automata.specs.Values.{at}
use Rattle.automata.specs.Reach.{StandsFor, steps_after, told}
use Rattle.automata.proofs.OneStep.{says_more, still_begun, begin_later}
use Rattle.automata.proofs.reach.advance.Goals as goal

pub take_step-requires-clause-fits : goal.take_step-requires-clause-fits
take_step-requires-clause-fits g c = g.met.S.StepMeaning.fits_still c.args.truth.now c.not.new.self c.args.step.now c.in_ok-skipped.ensures.older c.requires.fits

pub take_step-requires-clause-rests : goal.take_step-requires-clause-rests
take_step-requires-clause-rests g c = λ rests.
    let old = c.requires.reach.ready c.if-reach.false in
    subst (Silent g.T.Truth.holds c.not.new.self) (sym c.deref_mut.ensures.value)
    (silent_still c.in_ok-skipped.ensures.older c.args.reach.now.marks.items old.mark_bits (old.idle (c.is_at_rest-rests.ensures.idle rests)))

pub take_step-requires-clause-never : goal.take_step-requires-clause-never
take_step-requires-clause-never g c = λ rests w. c.first_bit-begin.ensures.value w ∙ ap not (c.is_at_rest-rests.ensures.first rests)

pub returns-clause-reach : goal.returns-clause-reach
returns-clause-reach g c = let old = c.requires.reach.ready c.if-reach.false in record {
  why_spent = λ e. cc;
  ready = λ e. record {
    marks_fit = ap length (with_items_is c.args.reach.now.marks c.take_step.new.marks (c.take_step.auto.marks ∙ c.deref_mut.ensures.len)) ∙ c.take_step.auto.marks ∙ ap length c.deref_mut.ensures.value ∙ old.marks_fit;
    mark_bits = subst (All (g.T.Truth.is_bit c.take_step.new.truth)) (sym (with_items_is c.args.reach.now.marks c.take_step.new.marks (c.take_step.auto.marks ∙ c.deref_mut.ensures.len))) c.in_ok-hit.ensures.bits;
    idle = λ known. subst (Silent g.T.Truth.holds c.take_step.new.truth) (sym (with_items_is c.args.reach.now.marks c.take_step.new.marks (c.take_step.auto.marks ∙ c.deref_mut.ensures.len))) (c.in_ok-hit.ensures.idle known);
    hit_bit = c.in_ok-hit.ensures.bit;
  };
}

pub returns-clause-stands : goal.returns-clause-stands
returns-clause-stands g c = λ path h. record {
  begun = λ w. still_begun (g.T.Truth.holds c.args.truth.now c.args.guard w) (path w) _ (h.begun w);
  says = λ w. let old = c.requires.reach.ready c.if-reach.false in
      subst (λ x. StandsFor c.args.nfa.now.letters (view c.args.nfa.now.node) c.args.nfa.now.first c.args.nfa.now.last (at g.T.Truth.holds c.take_step.new.truth x w) (g.T.Truth.holds c.take_step.new.truth c.in_ok-hit.hit w)
      (steps_after (g.T.Truth.holds c.args.truth.now c.args.guard w) (path w) (told g.S.StepMeaning.edge_tells g.S.StepMeaning.state_tells c.args.truth.now c.args.step.now w)))
      (sym (with_items_is c.args.reach.now.marks c.take_step.new.marks (c.take_step.auto.marks ∙ c.deref_mut.ensures.len)))
      (says_more c.take_step.new.truth c.in_ok-skipped.ensures.older g.S.StepMeaning.edge_tells g.S.StepMeaning.state_tells c.args.step.now c.args.nfa.now.letters (view c.args.nfa.now.node) c.args.nfa.now.last
      c.args.reach.now.marks.items c.take_step.new.marks c.args.guard c.first_bit-begin.result c.args.reach.now.hit c.in_ok-hit.hit old.mark_bits c.requires.guard old.hit_bit
      (λ l v. g.met.S.StepMeaning.tells_still c.args.truth.now c.not.new.self c.args.step.now l v c.in_ok-skipped.ensures.older c.requires.fits)
      c.args.nfa.now.fits.0 old.marks_fit c.deref.result.now c.deref_mut.result.now c.deref.ensures c.deref_mut.ensures.value
      c.in_ok-hit.ensures.marked c.in_ok-hit.ensures.found c.args.nfa.now.first (path w) w
      (begin_later c.args.nfa.now.first _ _ (c.first_bit-begin.ensures.value w) (h.begun w)) (h.says w));
}
