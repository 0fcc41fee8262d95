use Rattle.std.proofs.Common.{sym, ◌∙◌}
use Rattle.input_text.proofs.LineLaws.{part_found, part_missing}
use Rattle.trace_file.proofs.parts.first_part.Goals as goal

pub returns-in-Some-clause-parts : goal.returns-in-Some-clause-parts
returns-in-Some-clause-parts c = part_found _ _ _ (sym c.space.ensures ∙ c.in-Some.is)

pub returns-in-None-clause-parts : goal.returns-in-None-clause-parts
returns-in-None-clause-parts c = part_missing _ _ (sym c.space.ensures ∙ c.in-None.is)
