use Rattle.std.proofs.Common.{◌≡◌, ◌+◌, length, vec_len}
use Rattle.trace_file.specs.Form.{lines_from}
use Rattle.trace_file.proofs.FormLaws.{after, split}
use Rattle.trace_file.proofs.form.lines_in.Given as goal

abbrev pub invariant-loop-rest : goal.invariant-loop-rest
invariant-loop-rest l = lines_from l.parameters 2 (split l.text) ≡ after l.lines.items (lines_from l.parameters (vec_len l.lines + 2) (split l.rest))

abbrev pub decreases-loop-rest : goal.decreases-loop-rest
decreases-loop-rest l = length l.rest
