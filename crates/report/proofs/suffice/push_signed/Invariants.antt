use Rattle.std.proofs.Common.{◌≡◌, ◌++◌, drop}
use Rattle.std.specs.List.{flat_map}
use Rattle.report.specs.Ends.{spaced_value}
use Rattle.report.specs.Suffice.{long}
use Rattle.report.proofs.suffice.push_signed.Given as goal

abbrev pub invariant-loop-number : goal.invariant-loop-number
invariant-loop-number l =
    l.text.items ++ flat_map (spaced_value long) (drop l.number-index l.numbers) ≡ l.initial.text.items ++ flat_map (spaced_value long) l.numbers
