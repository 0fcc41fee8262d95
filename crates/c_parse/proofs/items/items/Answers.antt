use Rattle.std.proofs.Common.{◌-◌, length, arith}
use Rattle.c_parse.specs.ReadingItems.{items_at}
use Rattle.c_parse.proofs.LoopsItems.{with_no_items, items_stop, items_go_on}
use Rattle.c_parse.proofs.ShorterStatements.{item_fewer}
use Rattle.c_parse.proofs.items.items.Goals as goal

pub items-init : goal.items-init
items-init c = record {
  bound = length c.args.tokens.now;
  enough = omega arith;
  so_far = rw c.new-list.ensures (with_no_items (items_at (length c.args.tokens.now) c.args.tokens.now));
}

pub items-preserved : goal.items-preserved
items-preserved c =
    let few = item_fewer c.items.rest.now c.in-Ok.after.now c.in-Ok.next c.in-Ok.ensures in
    record {
      bound = c.items.invariant.bound - 1;
      enough = omega (arith, few, c.items.invariant.enough);
      so_far = rw c.in_ok-push-in-Ok.ensures.ok (items_go_on c.items.list _ c.items.rest.now _ c.items.invariant.so_far c.in-Ok.next c.in-Ok.after.now (omega (arith, few, c.items.invariant.enough)) c.in-Ok.ensures);
    }

pub items-smaller : goal.items-smaller
items-smaller c = omega (arith, item_fewer c.items.rest.now c.in-Ok.after.now c.in-Ok.next c.in-Ok.ensures)

pub returns-in-Err-Syntax : goal.returns-in-Err-Syntax
returns-in-Err-Syntax c = items_stop c.items.list _ c.items.rest.now _ c.items.invariant.so_far (rw c.in-Err-Syntax.field-0-is at c.in-Err-Syntax.ensures)
