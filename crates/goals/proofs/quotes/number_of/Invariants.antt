use Rattle.std.proofs.Common.{◌≡◌, ◌<◌, ℕ, [], get_or, false}
use Rattle.std.specs.Str.{bytes_eq}
use Rattle.goals.specs.Quotes.{quotes_in}
use Rattle.goals.specs.Words.{texts}
use Rattle.goals.proofs.quotes.number_of.Given as goal

abbrev pub invariant-loop-number : goal.invariant-loop-number
invariant-loop-number l = (k : ℕ) → k < l.number → bytes_eq (get_or (texts (quotes_in l.quotes)) k []) l.text ≡ false
