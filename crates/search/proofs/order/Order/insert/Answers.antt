use Rattle.std.proofs.Common.{sym}
use Rattle.search.proofs.OrderLaws.{is_there}
use Rattle.search.proofs.order.Order.insert.Goals as goal

pub returns-then-is_some-clause-here : goal.returns-then-is_some-clause-here
returns-then-is_some-clause-here c = is_there c.args.self.now.heap.items c.args.variable c.place_of.result c.place_of.ensures (sym c.if-is_some.ensures)
