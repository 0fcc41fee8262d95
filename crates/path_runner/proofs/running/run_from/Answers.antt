use Rattle.std.proofs.Common.{◌≡◌, ◌-◌, sym, ap, subst, ◌∙◌, arith, Ok, Err}
use Rattle.cfa.specs.States.{IsState}
use Rattle.c_meaning.specs.Steps.{next, IfMoved}
use Rattle.path_runner.specs.declared.path.Path.{Path}
use Rattle.path_runner.specs.declared.path.RunEnd.TheVariants as ended
use Rattle.path_runner.specs.Fits.{further, leading}
use Rattle.path_runner.specs.Paths.{path_of}
use Rattle.path_runner.proofs.Walk.{behind, finished, went_on, ended_so, cut_here, kept_on, visited, crossed}
use Rattle.path_runner.proofs.running.run_from.Goals as goal

pub returns-in-Err : goal.returns-in-Err
returns-in-Err c =
    let parts = c.args.graph.now in
    let input = c.args.input.now in
    let p = c.args.predicates.now in
    let s = c.loop-state.state in
    let on : further (next parts input s) ≡ Err c.in-Err.end = ap further (sym c.in_ok-step.ensures.next) ∙ c.further.ensures c.step.new.state ∙ ap (leading c.step.new.state) c.in-Err.is in
    let whole = ended_so parts input p c.loop-state.left s c.loop-state.path (path_of parts input p c.args.limit c.args.first) c.in-Err.end c.loop-state.invariant.follows on in
    c.ended.ensures ∙ ap (λ (q : Path). finished q c.in-Err.end) (visited parts input p c.loop-state.path c.visit.new.self s c.mask_of.result c.mask_of.ensures c.in_ok-visit.ensures) ∙ sym whole

pub returns-then-left-eq0 : goal.returns-then-left-eq0
returns-then-left-eq0 c =
    let parts = c.args.graph.now in
    let input = c.args.input.now in
    let p = c.args.predicates.now in
    let s = c.loop-state.state in
    let on : further (next parts input s) ≡ Ok (c.in-Ok.edge, c.step.new.state) = ap further (sym c.in_ok-step.ensures.next) ∙ c.further.ensures c.step.new.state ∙ ap (leading c.step.new.state) c.in-Ok.is in
    let whole = cut_here parts input p c.loop-state.left s c.step.new.state c.in-Ok.edge c.loop-state.path (path_of parts input p c.args.limit c.args.first) c.loop-state.invariant.follows on (omega arith) in
    c.ended-then-left-eq0.ensures ∙ ap (λ (q : Path). finished q ended.Cut) (visited parts input p c.loop-state.path c.visit.new.self s c.mask_of.result c.mask_of.ensures c.in_ok-visit.ensures) ∙ sym whole

pub loop-state-preserved : goal.loop-state-preserved
loop-state-preserved c =
    let parts = c.args.graph.now in
    let input = c.args.input.now in
    let p = c.args.predicates.now in
    let s = c.loop-state.state in
    let rest = c.loop-state.left - 1 in
    let on : further (next parts input s) ≡ Ok (c.in-Ok.edge, c.step.new.state) = ap further (sym c.in_ok-step.ensures.next) ∙ c.further.ensures c.step.new.state ∙ ap (leading c.step.new.state) c.in-Ok.is in
    let kept = kept_on parts input p s c.step.new.state c.in-Ok.edge (subst (λ x. IfMoved x (IsState parts)) c.in_ok-step.ensures.next c.in_ok-step.ensures.kept) on in
    let whole = went_on parts input p c.loop-state.left rest s c.step.new.state c.in-Ok.edge c.loop-state.path (path_of parts input p c.args.limit c.args.first) c.loop-state.invariant.follows on (omega arith) in
    let few = kept.1 in
    let here = visited parts input p c.loop-state.path c.visit.new.self s c.mask_of.result c.mask_of.ensures c.in_ok-visit.ensures in
    let now = crossed parts input p c.loop-state.path c.visit.new.self c.cross.new.self s c.in-Ok.edge c.answer_along.result here c.answer_along.ensures c.in_ok-cross-in-Ok.ensures in
    record {
      follows = whole ∙ ap (λ (q : Path). behind q (path_of parts input p rest c.step.new.state)) (sym now);
      state = kept.0;
      few = omega arith;
    }
