use Rattle.std.proofs.Common.{length, refl, sym, subst, arith}
use Rattle.std.proofs.lemmas.Option.{slice_get_read}
use Rattle.automata.specs.Standing.{gates_of}
use Rattle.bit_words.proofs.Steps.{grows_then, grows_within}
use Rattle.bit_words.specs.Words.{Grows}
use Rattle.patterns.specs.Letters.{form}
use Rattle.goal_formula.specs.Parts.{most_match_gates}
use Rattle.goal_formula.specs.Sizes.{pattern_size}
use Rattle.goal_formula.proofs.Rooms.{gates_fit, gates_next, room_next}
use Rattle.goal_formula.proofs.StepLaws.{wires_still}
use Rattle.goal_formula.proofs.Taken.{taken_more, taken_ok}
use Rattle.goal_formula.proofs.matching.matched.Goals as goal

pub advanced-requires-clause-entry : goal.advanced-requires-clause-entry
advanced-requires-clause-entry c =
    let there = slice_get_read c.args.entries.now _ c.loop-at.at c.index-entries-at.result refl c.loop-at-test.true c.index-entries-at.is in
    wires_still c.args.circuit.now c.loop-at.circuit c.index-entries-at.result c.loop-at.invariant.grows.older (c.requires.entries c.loop-at.at c.index-entries-at.result there)

pub advanced-requires-clause-room : goal.advanced-requires-clause-room
advanced-requires-clause-room c =
    room_next (gates_of c.in_ok-nfa.nfa) (pattern_size (form c.args.pattern.now)) c.loop-at.at (length c.args.entries.now) (length c.args.circuit.now) (length c.loop-at.circuit)
    c.in_ok-nfa.ensures.gates c.loop-at-test.true c.loop-at.invariant.grows.used c.requires.room

pub returns-in_err-advanced-clause-grows : goal.returns-in_err-advanced-clause-grows
returns-in_err-advanced-clause-grows c =
    grows_within _ (grows_then c.loop-at.invariant.grows c.advanced.ensures.grows)
    (gates_next (gates_of c.in_ok-nfa.nfa) (pattern_size (form c.args.pattern.now)) c.loop-at.at (length c.args.entries.now) c.in_ok-nfa.ensures.gates c.loop-at-test.true)

pub loop-at-preserved : goal.loop-at-preserved
loop-at-preserved c =
    let there = slice_get_read c.args.entries.now _ c.loop-at.at c.index-entries-at.result refl c.loop-at-test.true c.index-entries-at.is in
    taken_more (gates_of c.in_ok-nfa.nfa) c.args.circuit.now c.in_ok-nfa.nfa c.args.entries.now c.requires.entries c.loop-at.circuit c.advanced.new.circuit c.loop-at.reach c.advanced.new.reach c.loop-at.at c.index-entries-at.result
    there c.loop-at.auto.at c.loop-at.invariant c.in_ok-advanced.ensures.grows c.in_ok-advanced.ensures.reach c.in_ok-advanced.ensures.stands

pub returns-clause-grows : goal.returns-clause-grows
returns-clause-grows c =
    let s = pattern_size (form c.args.pattern.now) in
    let n = length c.args.entries.now in
    subst (λ new. Grows c.args.circuit.now new (most_match_gates s n)) (sym c.accepted.ensures.same)
    (grows_within _ c.loop-at.invariant.grows (gates_fit (gates_of c.in_ok-nfa.nfa) s c.loop-at.at n c.in_ok-nfa.ensures.gates (c.loop-at.auto.at-end (omega (arith, c.requires.some)))))

pub returns-clause-bit : goal.returns-clause-bit
returns-clause-bit c =
    taken_ok (gates_of c.in_ok-nfa.nfa) c.args.circuit.now c.in_ok-nfa.nfa c.args.entries.now c.requires.entries c.loop-at.circuit c.accepted.new.truth c.loop-at.reach c.loop-at.at (form c.args.pattern.now) c.args.first c.args.last
    c.accepted.result (omega (arith, c.loop-at-test.false)) c.loop-at.invariant c.accepted.ensures.same c.accepted.ensures.bit
    (λ path before. c.accepted.ensures.value (form c.args.pattern.now) c.args.first c.args.last path c.in_ok-nfa.ensures.of before)
