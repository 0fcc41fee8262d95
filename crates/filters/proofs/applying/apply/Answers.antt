use Rattle.std.proofs.Common.{◌∙◌, ap, sym}
use Rattle.fql_read.specs.declared.filter.Filter.{out-Filter}
use Rattle.filters.specs.Kept.{kept_by_form}
use Rattle.filters.specs.Parts.{part_of}
use Rattle.filters.proofs.KeptLaws.{kept_form}
use Rattle.filters.proofs.TargetLaws.{within_by}
use Rattle.filters.proofs.applying.apply.Goals as goal

pub returns-clause-part : goal.returns-clause-part
returns-clause-part c = c.in_ok-target.ensures ∙ c.in_ok-kept.ensures.kept
    ∙ ap (kept_by_form c.args.graph.now (out-Filter c.args.filter.now).form) c.in_ok-marks.ensures.part
    ∙ sym (kept_form c.args.graph.now c.args.filter.now (part_of c.args.base.now))

pub returns-clause-within : goal.returns-clause-within
returns-clause-within c = within_by c.args.graph.now c.in_ok-kept.kept c.in_ok-target.target c.in_ok-kept.ensures.full c.in_ok-target.ensures
