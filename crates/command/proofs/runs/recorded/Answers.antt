use Rattle.std.proofs.Common.{◌+◌, refl, arith}
use Rattle.command.specs.Entries.{seen}
use Rattle.command.proofs.RunListLaws.{edges_more, many_in}
use Rattle.command.proofs.runs.recorded.Goals as goal

pub returns-then-listed-gt-MOST_LISTED : goal.returns-then-listed-gt-MOST_LISTED
returns-then-listed-gt-MOST_LISTED c =
    let is = rw (c.new.ensures, c.new-2.ensures, c.input-item.is) at c.in_ok-run.ensures in
    let more = edges_more c.args.starts.now.entry.graph.now (seen c.args.starts.now.entry) c.args.steps c.args.starts.now.inputs.now c.loop-input.input-index _ c.loop-input-test.true c.in_ok-run.run' is in
    rw c.too_many_edges.ensures (
      refl,
      many_in c.args.starts.now.entry.graph.now (seen c.args.starts.now.entry) c.args.steps c.args.starts.now.inputs.now (c.loop-input.input-index + 1)
          (omega (arith, c.if-listed-gt-MOST_LISTED.true, c.loop-input.invariant.listed, c.len.ensures, more)),
    )
