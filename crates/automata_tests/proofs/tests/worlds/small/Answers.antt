use Rattle.std.proofs.Common.{◌≤◌, arith}
use Rattle.automata.specs.Standing.{gates_of}
use Rattle.patterns.specs.Letters.{form, letter_count}
use Rattle.automata_tests.proofs.Few.{few_gates}
use Rattle.automata_tests.proofs.tests.worlds.small.Goals as goal

pub returns : goal.returns
returns c =
    let few : letter_count (form c.args.pattern.now) ≤ 100 = omega (arith, c.letters.ensures, c.if-letters-gt100.false) in
    few_gates (gates_of c.in_ok-build.field-0) (letter_count (form c.args.pattern.now)) c.in_ok-build.ensures.gates few
