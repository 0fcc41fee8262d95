use Rattle.std.proofs.Common.{◌-◌, arith}
use Rattle.measurer_index.proofs.gap_words.Starts.{no_room, too_early, not_last, at_last}
use Rattle.measurer_index.proofs.gap_words.parts.start_to_last.Goals as goal

pub returns-then-count-size : goal.returns-then-count-size
returns-then-count-size c = no_room c.args.path.now c.args.part.now c.requires c.args.start (omega arith)

pub returns-then-at-start : goal.returns-then-at-start
returns-then-at-start c = too_early c.args.path.now c.args.part.now c.requires c.args.start (omega arith)

pub returns-in-None : goal.returns-in-None
returns-in-None c = not_last c.args.path.now c.args.part.now c.requires c.args.start (c.count-2.result - c.edge_count-size.result) (omega arith) (omega arith) c.in-None.ensures

pub returns-in-Some : goal.returns-in-Some
returns-in-Some c = at_last c.args.path.now c.args.part.now c.requires c.args.start (c.count-2.result - c.edge_count-size.result) c.in-Some.field-0 (omega arith) (omega arith) (omega arith) c.in-Some.ensures
