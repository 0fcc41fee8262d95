use Rattle.std.proofs.Common.{arith, sym, ◌∙◌}
use Rattle.c_meaning.proofs.Calls.{call_word, call_array, call_made}
use Rattle.c_meaning.proofs.stepping.call.Goals as goal

pub starts_of-requires-clause-fits : goal.starts_of-requires-clause-fits
starts_of-requires-clause-fits c =
    rw c.store_of-store.ensures.store (call_array _ c.args.function.now c.args.words.now c.args.arrays.now c.requires.call)

pub values_of-requires-clause-fits : goal.values_of-requires-clause-fits
values_of-requires-clause-fits c =
    rw c.store_of-store.ensures.store (call_word _ c.args.function.now c.args.words.now c.args.arrays.now c.requires.call)

pub returns-in-Ok : goal.returns-in-Ok
returns-in-Ok c =
    let starts = rw c.store_of-store.ensures.store at c.in_ok-starts.ensures in
    let values = rw c.store_of-store.ensures.store at c.in_ok-values.ensures in
    call_made c.args.state.now c.pushed.new.state c.args.at c.args.edge.now c.args.words.now c.args.arrays.now c.args.function.now c.in_ok-starts.starts c.in-Ok.values c.pushed.result (omega arith) starts (sym c.in-Ok.is ∙ values) (rw c.deref.ensures at c.pushed.ensures)
