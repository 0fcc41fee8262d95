use Rattle.std.proofs.Common.{refl, arith}
use Rattle.std.proofs.lemmas.Option.{slice_get_read}
use Rattle.bit_words.proofs.Steps.{grows_then, grows_within}
use Rattle.goal_formula.proofs.Ends.{ends_more, ends_none}
use Rattle.bounds_check.proofs.staying.some_ended.Goals as goal

pub loop-entry-init : goal.loop-entry-init
loop-entry-init c = ends_none c.args.circuit.now c.args.entries.now

pub both-requires-clause-left : goal.both-requires-clause-left
both-requires-clause-left c =
    let own = c.requires.entries c.loop-entry.entry-index c.entry-item.result (slice_get_read c.args.entries.now _ c.loop-entry.entry-index c.entry-item.result refl c.loop-entry-test.true c.entry-item.is) in
    c.loop-entry.invariant.grows.older.bit c.entry-item.result.guard own.guard

pub both-requires-clause-right : goal.both-requires-clause-right
both-requires-clause-right c =
    let own = c.requires.entries c.loop-entry.entry-index c.entry-item.result (slice_get_read c.args.entries.now _ c.loop-entry.entry-index c.entry-item.result refl c.loop-entry-test.true c.entry-item.is) in
    c.loop-entry.invariant.grows.older.bit c.entry-item.result.ended own.ended

pub returns-in_err-here-clause-grows : goal.returns-in_err-here-clause-grows
returns-in_err-here-clause-grows c = grows_within _ (grows_then c.loop-entry.invariant.grows c.both.ensures.grows) (omega arith)

pub returns-in_err-some-clause-grows : goal.returns-in_err-some-clause-grows
returns-in_err-some-clause-grows c = grows_within _ (grows_then (grows_then c.loop-entry.invariant.grows c.both.ensures.grows) c.either.ensures.grows) (omega arith)

pub loop-entry-preserved : goal.loop-entry-preserved
loop-entry-preserved c =
    let there = slice_get_read c.args.entries.now _ c.loop-entry.entry-index c.entry-item.result refl c.loop-entry-test.true c.entry-item.is in
    ends_more c.entry-item.result c.in_ok-here.here c.in_ok-some.some there (c.requires.entries c.loop-entry.entry-index c.entry-item.result there) c.loop-entry.invariant c.both.ensures.grows c.in_ok-here.ensures.wire c.in_ok-here.ensures.value c.either.ensures.grows c.in_ok-some.ensures.wire c.in_ok-some.ensures.value
