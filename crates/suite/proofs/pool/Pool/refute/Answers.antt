use Rattle.std.proofs.Common.{◌≡◌, ◌-◌, Some, inl, inr, set, subst, true}
use Rattle.std.specs.Prelude.{slice_get}
use Rattle.suite.proofs.Early.{noted_more}
use Rattle.suite.proofs.pool.Pool.refute.Goals as goal

pub returns : goal.returns
returns c = λ parts f p plan bounds ends pool none. record {
  measures = pool.measures;
  inputs = pool.inputs;
  refuted = λ place g there noted. elim (noted_more c.args.self.now.refuted.items (c.args.goal - 1) place (subst (λ k. slice_get (set c.args.self.now.refuted.items k true) place ≡ Some true) c.saturating_sub-place.ensures noted)) [
    | inl same ↦ none g (subst (λ k. slice_get plan.goals k ≡ Some g) same there)
    | inr before ↦ pool.refuted place g there before
  ];
}
