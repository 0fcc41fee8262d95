-- The units that the laws speak of.
use Rattle.std.specs.Prelude.{◌≡◌, ℕ, List, [], map, length}
use Rattle.c_lex.specs.declared.token.SourceText.{SourceText}
use Rattle.c_lex.specs.declared.token.Token.{Token}
use Rattle.c_lex.specs.Lexed.{Lexed}
use Rattle.c_parse.specs.declared.unit.Item.{Item}
use Rattle.c_parse.specs.Items.{DerivesItems}
use Rattle.c_parse.specs.Signs.{terminal_of}
use Rattle.c_types.specs.Units.{faults_of, typed_of}
use Rattle.tree_meaning_laws.specs.tree_laws.Laws.{IsMade}

-- each unit of texts in which nothing is wrong
abbrev pub UnitsAreMade : Type 0
UnitsAreMade =
    (texts : List SourceText) (tokens : List Token) (items : List Item) (files : List (List ℕ))
    → Lexed texts tokens → DerivesItems items (map terminal_of tokens) → faults_of items ≡ [] → length files ≡ length texts → IsMade (typed_of items) (length files)
