use Rattle.std.proofs.Common.{◌∷◌, [], length, All, sym, ◌∙◌, ap, subst, refl, arith}
use Rattle.std.proofs.lemmas.List.{with_items_is}
use Rattle.circuit.specs.Truth.{extends_self}
use Rattle.automata.specs.Passing.{Silent}
use Rattle.automata.specs.Views.{view}
use Rattle.automata.specs.Values.{at}
use Rattle.automata.specs.Reach.{StandsFor, told}
use Rattle.automata.proofs.OneStep.{says_more}
use Rattle.automata.proofs.Acceptance.{marks_say_no, all_bits, begin_first, stands_unset, one_step}
use Rattle.automata.proofs.reach.begin.Goals as goal

pub returns-clause-reach : goal.returns-clause-reach
returns-clause-reach g c = record {
  why_spent = λ e. cc;
  ready = λ e. record {
    marks_fit = ap length (with_items_is c.in_ok-marks.marks c.take_step.new.marks (c.take_step.auto.marks ∙ c.deref_mut.ensures.len)) ∙ c.take_step.auto.marks ∙ ap length c.deref_mut.ensures.value ∙ c.in_ok-marks.ensures.length ∙ c.args.nfa.now.fits.1.1;
    mark_bits = subst (All (g.T.Truth.is_bit c.take_step.new.truth)) (sym (with_items_is c.in_ok-marks.marks c.take_step.new.marks (c.take_step.auto.marks ∙ c.deref_mut.ensures.len))) c.in_ok-hit.ensures.bits;
    idle = λ known. subst (Silent g.T.Truth.holds c.take_step.new.truth) (sym (with_items_is c.in_ok-marks.marks c.take_step.new.marks (c.take_step.auto.marks ∙ c.deref_mut.ensures.len))) (c.in_ok-hit.ensures.idle known);
    hit_bit = c.in_ok-hit.ensures.bit;
  };
}

pub returns-clause-stands : goal.returns-clause-stands
returns-clause-stands g c = record {
  begun = λ w. omega arith;
  says = λ w.
      subst (λ x. StandsFor c.args.nfa.now.letters (view c.args.nfa.now.node) c.args.nfa.now.first c.args.nfa.now.last (at g.T.Truth.holds c.take_step.new.truth x w) (g.T.Truth.holds c.take_step.new.truth c.in_ok-hit.hit w) ((told g.S.StepMeaning.edge_tells g.S.StepMeaning.state_tells c.args.truth.now c.args.step.now w) ∷ []))
      (sym (with_items_is c.in_ok-marks.marks c.take_step.new.marks (c.take_step.auto.marks ∙ c.deref_mut.ensures.len)))
      (one_step c.args.nfa.now.letters (view c.args.nfa.now.node) c.args.nfa.now.first c.args.nfa.now.last (at g.T.Truth.holds c.take_step.new.truth c.take_step.new.marks w) (g.T.Truth.holds c.take_step.new.truth c.in_ok-hit.hit w) (g.T.Truth.holds c.args.truth.now c.yes-yes.result w) (told g.S.StepMeaning.edge_tells g.S.StepMeaning.state_tells c.args.truth.now c.args.step.now w) (c.yes-yes.ensures.value w)
      (says_more {is_bit = g.T.Truth.is_bit} {holds = g.T.Truth.holds} c.take_step.new.truth (extends_self {is_bit = g.T.Truth.is_bit} {holds = g.T.Truth.holds} c.args.truth.now) g.S.StepMeaning.edge_tells g.S.StepMeaning.state_tells c.args.step.now c.args.nfa.now.letters (view c.args.nfa.now.node) c.args.nfa.now.last
      c.in_ok-marks.marks.items c.take_step.new.marks c.yes-yes.result c.yes-yes.result c.no-no.result c.in_ok-hit.hit
      (all_bits g.T.Truth.is_bit c.args.truth.now c.in_ok-marks.marks.items c.no-no.result c.in_ok-marks.ensures.value c.no-no.ensures.bit) c.yes-yes.ensures.bit c.no-no.ensures.bit
      (λ l v. refl)
      c.args.nfa.now.fits.0 (c.in_ok-marks.ensures.length ∙ c.args.nfa.now.fits.1.1) c.deref.result.now c.deref_mut.result.now c.deref.ensures c.deref_mut.ensures.value
      c.in_ok-hit.ensures.marked c.in_ok-hit.ensures.found c.args.nfa.now.first [] w
      (begin_first c.args.nfa.now.first _ (c.yes-yes.ensures.value w))
      (stands_unset c.args.nfa.now.letters (view c.args.nfa.now.node) c.args.nfa.now.first c.args.nfa.now.last _ _
      (marks_say_no g.T.Truth.holds c.args.truth.now c.in_ok-marks.marks.items c.no-no.result w c.in_ok-marks.ensures.value (c.no-no.ensures.value w)) (c.no-no.ensures.value w))));
}
