use Rattle.std.proofs.Common.{length, arith, ◌≡◌}
use Rattle.search.proofs.RoundLaws.{end_more}
use Rattle.search.proofs.searching.searched.Goals as goal

pub returns-in-Model : goal.returns-in-Model
returns-in-Model c = end_more c.args.formula.now 0 c.args.budget (omega arith) c.in_ok-satisfied-in-Model.field-0 c.in_ok-satisfied-in-Model.ensures

pub returns-in-Refuted : goal.returns-in-Refuted
returns-in-Refuted c =
    let round = rw c.in-Refuted.is at c.in_ok-next_round.ensures in
    end_more c.args.formula.now (length c.next_round.new.machine.moves.items) c.args.budget round.3 c.in_ok-refuted-in-Refuted.field-0 c.in_ok-refuted-in-Refuted.ensures

pub returns : goal.returns
returns c =
    let count = c.loop.invariant.count in
    let paid = c.loop.invariant.searching.paid in
    let ended = c.loop-test.false in
    let same : length c.loop.machine.moves.items ≡ c.args.budget = omega (arith, count, paid, ended) in
    rw same at c.end-2.ensures
