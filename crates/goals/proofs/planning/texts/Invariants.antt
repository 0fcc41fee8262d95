use Rattle.std.proofs.Common.{◌≡◌, take}
use Rattle.goals.specs.Quotes.{quotes_in}
use Rattle.goals.specs.Words.{texts}
use Rattle.goals.proofs.planning.texts.Given as goal

abbrev pub invariant-loop-quote : goal.invariant-loop-quote
invariant-loop-quote l = l.names ≡ texts (quotes_in (take l.quote-index l.quotes))
