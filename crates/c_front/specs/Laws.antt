-- What the definitions imply.
use Rattle.std.specs.Prelude.{List}
use Rattle.c_lex.specs.declared.token.SourceText.{SourceText}
use Rattle.c_parse.specs.Laws as parse
use Rattle.c_front.specs.Automata.{IsAutomatonOf, IsRefused}

-- texts have an automaton or are refused with a code at a place, and there is only one of all these
abbrev pub HasOneOutcome : List SourceText → Type 0
HasOneOutcome texts = parse.HasOneOutcome (IsAutomatonOf texts) (IsRefused texts)
