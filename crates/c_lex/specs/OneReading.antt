-- What the definitions imply, as the law `one_reading` promises: texts have one list of tokens or one refusal.
use Rattle.std.specs.Prelude.{◌≡◌, ◌⊎◌, ℕ, List}
use Rattle.fq_core.specs.declared.refusal.Place.{Place}
use Rattle.c_lex.specs.declared.token.SourceText.{SourceText}
use Rattle.c_lex.specs.declared.token.Token.{Token}
use Rattle.c_lex.specs.Lexed.{Outcome, ReadsTexts, Lexed, Refused}

-- what comes of texts is determined
abbrev pub OneReading : Type 0
OneReading = (texts : List SourceText) (file made replaced : ℕ) (o p : Outcome) → ReadsTexts file made replaced texts o → ReadsTexts file made replaced texts p → o ≡ p

-- texts have tokens, or are refused
abbrev pub SomeReading : Type 0
SomeReading = (texts : List SourceText) → ((tokens : List Token) × Lexed texts tokens) ⊎ ((code : ℕ) × ((place : Place) × Refused texts code place))
