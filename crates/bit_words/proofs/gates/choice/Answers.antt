use Rattle.std.proofs.Common.{arith}
use Rattle.circuit.specs.Wires.{lit_holds}
use Rattle.bit_words.proofs.Steps.{grows_then, grows_within, same}
use Rattle.bit_words.proofs.Truths.{chosen_of_gates}
use Rattle.bit_words.proofs.gates.choice.Goals as goal

pub returns-in_err-first-clause-grows : goal.returns-in_err-first-clause-grows
returns-in_err-first-clause-grows c = grows_within 4 c.both.ensures.grows (omega arith)

pub returns-in_err-other-clause-grows : goal.returns-in_err-other-clause-grows
returns-in_err-other-clause-grows c = grows_within 4 (grows_then c.both.ensures.grows c.inverse.ensures.grows) (omega arith)

pub returns-in_err-second-clause-grows : goal.returns-in_err-second-clause-grows
returns-in_err-second-clause-grows c = grows_within 4 (grows_then (grows_then c.both.ensures.grows c.inverse.ensures.grows) c.both-2.ensures.grows) (omega arith)

pub returns-in_err-chosen-clause-grows : goal.returns-in_err-chosen-clause-grows
returns-in_err-chosen-clause-grows c = grows_within 4 (grows_then (grows_then (grows_then c.both.ensures.grows c.inverse.ensures.grows) c.both-2.ensures.grows) c.either.ensures.grows) (omega arith)

pub returns-clause-grows : goal.returns-clause-grows
returns-clause-grows c = grows_within 4 (grows_then (grows_then (grows_then c.both.ensures.grows c.inverse.ensures.grows) c.both-2.ensures.grows) c.either.ensures.grows) (omega arith)

pub returns-clause-value : goal.returns-clause-value
returns-clause-value c = λ w.
    let first = same (grows_then c.inverse.ensures.grows c.both-2.ensures.grows) c.in_ok-first.first c.in_ok-first.ensures.wire w in
    let test = same c.both.ensures.grows c.args.test c.requires.test w in
    let no = same (grows_then c.both.ensures.grows c.inverse.ensures.grows) c.args.no c.requires.right w in
    let is_first = c.in_ok-first.ensures.value w in
    let is_other = c.in_ok-other.ensures.value w in
    let is_second = c.in_ok-second.ensures.value w in
    let is_chosen = c.in_ok-chosen.ensures.value w in
    let lemma = chosen_of_gates (lit_holds c.args.circuit.now c.args.test w) (lit_holds c.args.circuit.now c.args.yes w) (lit_holds c.args.circuit.now c.args.no w) in
    cc
