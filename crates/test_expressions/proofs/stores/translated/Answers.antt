use Rattle.std.proofs.Common.{length, rules, arith}
use Rattle.test_expressions.specs.Rooms.{room_of}
use Rattle.test_expressions.proofs.Rooms.{has_room}
use Rattle.test_expressions.proofs.stores.translated.Goals as goal

pub translate-requires-clause-fits : goal.translate-requires-clause-fits
translate-requires-clause-fits c = record {
  room = room_of c.args.places.now;
  has = has_room (length c.args.store.now.cells) c.in_ok-frame.frame c.args.places.now c.in_ok-frame.ensures.base c.in_ok-frame.ensures.arrays (grind arith) (grind arith) (grind arith);
  fits = first_of (search rules, grind arith);
}
