use Rattle.std.proofs.Common.{◌≡◌, ◌++◌, drop}
use Rattle.report.specs.GraphText.{input_line, numbered}
use Rattle.report.proofs.automaton.push_inputs.Given as goal

abbrev pub invariant-loop-number : goal.invariant-loop-number
invariant-loop-number l =
    l.text.items ++ numbered input_line l.number (drop l.number l.inputs) ≡ l.initial.text.items ++ numbered input_line 0 l.inputs
