use Rattle.std.proofs.Common.{sym, ◌∙◌}
use Rattle.input_text.proofs.LineLaws.{part_found, part_missing}
use Rattle.trace_file.proofs.form.first_line.Goals as goal

pub returns-in-Some-clause-lines : goal.returns-in-Some-clause-lines
returns-in-Some-clause-lines c = part_found _ _ _ (sym c.line_feed.ensures ∙ c.in-Some.is)

pub returns-in-None-clause-lines : goal.returns-in-None-clause-lines
returns-in-None-clause-lines c = part_missing _ _ (sym c.line_feed.ensures ∙ c.in-None.is)
