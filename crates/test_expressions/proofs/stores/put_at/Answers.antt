use Rattle.std.proofs.Common.{◌≡◌, length, rules, sym, ap, ◌∙◌, arith}
use Rattle.sym_expr.specs.Stores.{FitsWithin}
use Rattle.sym_expr.specs.Weights.{place_weight, weight_of}
use Rattle.sym_expr.proofs.ExprRules.{fits_load, fits_place, weight_load}
use Rattle.test_expressions.specs.Rooms.{room_of}
use Rattle.test_expressions.proofs.Rooms.{has_room}
use Rattle.test_expressions.proofs.stores.put_at.Goals as goal

pub extended-word-requires : goal.extended-word-requires
extended-word-requires c =
    let e = c.in-Load in
    let f : FitsWithin (length c.args.store.now.cells) c.in_ok-frame.frame c.args.load.now = record {
      room = room_of c.args.places.now;
      has = has_room (length c.args.store.now.cells) c.in_ok-frame.frame c.args.places.now c.in_ok-frame.ensures.base c.in_ok-frame.ensures.arrays (grind arith) (grind arith) (grind arith);
      fits = first_of (search rules, grind arith);
    } in
    fits_load (length c.args.store.now.cells) c.in_ok-frame.frame e.place e.kind (rw e.is at f)

pub put-requires-clause-kind : goal.put-requires-clause-kind
put-requires-clause-kind c =
    let e = c.in-Load in
    let f : FitsWithin (length c.args.store.now.cells) c.in_ok-frame.frame c.args.load.now = record {
      room = room_of c.args.places.now;
      has = has_room (length c.args.store.now.cells) c.in_ok-frame.frame c.args.places.now c.in_ok-frame.ensures.base c.in_ok-frame.ensures.arrays (grind arith) (grind arith) (grind arith);
      fits = first_of (search rules, grind arith);
    } in
    fits_load (length c.args.store.now.cells) c.in_ok-frame.frame e.place e.kind (rw e.is at f)

pub put-requires-clause-fits : goal.put-requires-clause-fits
put-requires-clause-fits c =
    let e = c.in-Load in
    let f : FitsWithin (length c.args.store.now.cells) c.in_ok-frame.frame c.args.load.now = record {
      room = room_of c.args.places.now;
      has = has_room (length c.args.store.now.cells) c.in_ok-frame.frame c.args.places.now c.in_ok-frame.ensures.base c.in_ok-frame.ensures.arrays (grind arith) (grind arith) (grind arith);
      fits = first_of (search rules, grind arith);
    } in
    fits_place (length c.args.store.now.cells) c.in_ok-frame.frame e.place e.kind (rw e.is at f)

pub put-requires-clause-room : goal.put-requires-clause-room
put-requires-clause-room c =
    let e = c.in-Load in
    let same : place_weight e.place e.kind.width ≡ weight_of c.args.load.now = sym (ap weight_of e.is ∙ weight_load e.place e.kind) in
    rw same (first_of (search rules, grind arith))
