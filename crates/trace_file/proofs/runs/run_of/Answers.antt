use Rattle.std.proofs.Common.{◌∙◌, sym, ap, length, true, false, ◌≡◌}
use Rattle.std.specs.Prelude.{slice_get}
use Rattle.trace_file.proofs.RunLaws.{right_by, wrong_by}
use Rattle.trace_file.proofs.runs.run_of.Goals as goal

pub returns-then-is_run_along : goal.returns-then-is_run_along
returns-then-is_run_along c =
    let both = c.is_run_along.ensures.0 c.if-is_run_along.true in
    right_by c.args.graph.now c.args.predicates.now c.args.ends c.args.line.now c.in_ok-run.run' _ (slice_get c.args.graph.now.functions c.args.entry) c.in_ok-run.ensures.path both.0 (both.1 ∙ c.as_slice-wanted.ensures)

pub returns-else-is_run_along : goal.returns-else-is_run_along
returns-else-is_run_along c =
    wrong_by c.args.graph.now c.args.predicates.now c.args.ends c.args.line.now c.in_ok-run.run' _ (slice_get c.args.graph.now.functions c.args.entry) c.in_ok-run.ensures.path (ap length c.as_slice-wanted.ensures)
    (λ counted same. let yes : c.is_run_along.result ≡ true = c.is_run_along.ensures.1 (counted, same ∙ sym c.as_slice-wanted.ensures) in let no : true ≡ false = sym yes ∙ c.if-is_run_along.false in cc)
