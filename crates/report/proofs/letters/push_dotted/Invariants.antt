use Rattle.std.proofs.Common.{◌≡◌, ◌++◌, drop}
use Rattle.report.specs.Letters.{dotted}
use Rattle.report.proofs.letters.push_dotted.Given as goal

abbrev pub invariant-loop-letter : goal.invariant-loop-letter
invariant-loop-letter l =
    l.text.items ++ dotted l.graph l.plan (drop l.letter-index l.letters) ≡ l.initial.text.items ++ dotted l.graph l.plan l.letters
