use Rattle.std.proofs.Common.{subst}
use Rattle.measurer_index.proofs.word_index.Steps.{on_ok}
use Rattle.measurer_hits.specs.hits.Hits.{MeetsPassing}
use Rattle.measurer.proofs.Gathered.{all_hits}
use Rattle.measurer.proofs.measurer.gather.Goals as goal

pub returns : goal.returns
returns c ends counted =
    let passing = subst (MeetsPassing c.args.plan.now.passing) c.path_in-path.ensures ((c.in_ok-meets_passing.ensures c.args.plan.now.passing c.requires.plan.passing).0 c.if-not-branch.false) in
    on_ok c.add_found.result _ _ (λ h. all_hits c.args.plan.now ends c.args.run.now c.requires.plan.patterns counted passing c.path_in-path.result _ _ c.path_in-path.ensures c.clear.ensures h) c.add_found.ensures
