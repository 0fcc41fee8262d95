-- What the definitions imply.
use Rattle.std.specs.Prelude.{List}
use Rattle.c_lex.specs.declared.token.SourceText.{SourceText}
use Rattle.c_parse.specs.Laws as parse
use Rattle.c_front.specs.typed_sources.Trees.{IsRefused, IsTypedOf}

-- texts have a typed tree or are refused with a code at a place, and there is only one of all these
abbrev pub HasOneOutcome : List SourceText → Type 0
HasOneOutcome texts = parse.HasOneOutcome (IsTypedOf texts) (IsRefused texts)
