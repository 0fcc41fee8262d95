use Rattle.std.proofs.Common.{◌≡◌, ◌++◌, drop}
use Rattle.report.specs.GraphText.{function_line, numbered}
use Rattle.report.proofs.automaton.push_functions.Given as goal

abbrev pub invariant-loop-number : goal.invariant-loop-number
invariant-loop-number l =
    l.text.items ++ numbered function_line l.number (drop l.number l.functions) ≡ l.initial.text.items ++ numbered function_line 0 l.functions
