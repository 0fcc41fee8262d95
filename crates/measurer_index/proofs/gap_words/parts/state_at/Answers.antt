use Rattle.std.proofs.Common.{arith}
use Rattle.measurer_index.proofs.gap_words.Starts.{any_start, no_start}
use Rattle.measurer_index.proofs.gap_words.parts.state_at.Goals as goal

pub returns-then-start-count : goal.returns-then-start-count
returns-then-start-count c = λ part. any_start c.args.path.now part c.args.start (omega arith)

pub returns-else-start-count : goal.returns-else-start-count
returns-else-start-count c = λ part. no_start c.args.path.now part c.args.start (omega arith)
