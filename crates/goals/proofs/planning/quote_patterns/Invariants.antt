use Rattle.std.proofs.Common.{◌≡◌, take}
use Rattle.goals.specs.Forms.{quote_patterns}
use Rattle.goals.specs.Quotes.{quotes_in}
use Rattle.goals.proofs.planning.quote_patterns.Given as goal

abbrev pub invariant-loop-quote : goal.invariant-loop-quote
invariant-loop-quote l = l.patterns.items ≡ quote_patterns (quotes_in (take l.quote-index l.quotes))
