-- Quoted letters as they lie in memory.
use Rattle.std.specs.Prelude.{List, map}
use Rattle.goals.specs.applied_clauses.Trees.{tree_of}
use Rattle.goals.specs.Words.{Quote}
use Rattle.goals.specs.declared.quotes.QuotedLetter.{QuotedLetter}

abbrev pub quote_of : QuotedLetter → Quote
quote_of q = record { text = q.text.now; body = tree_of q.body.now }

abbrev pub quotes_in : List QuotedLetter → List Quote
quotes_in qs = map quote_of qs
