-- Which codes a refusal of texts has.
use Rattle.std.specs.Prelude.{ℕ, List, [], ◌∷◌, ◌++◌}
use Rattle.fq_core.specs.declared.refusal.Place.{Place}
use Rattle.c_lex.specs.declared.token.SourceText.{SourceText}
use Rattle.c_front.specs.Automata.{IsRefused}
use Rattle.c_types_laws.specs.typing_faults.Laws.{IsOneOf, typing_codes}

-- the codes of tokens, of syntax, of types, and of the number of edges
abbrev pub text_codes : List ℕ
text_codes = 10 ∷ 11 ∷ 12 ∷ 13 ∷ 14 ∷ 15 ∷ 20 ∷ 21 ∷ 22 ∷ (typing_codes ++ 41 ∷ [])

abbrev pub RefusedByTheseCodes : Type 0
RefusedByTheseCodes = (texts : List SourceText) (code : ℕ) (p : Place) → IsRefused texts code p → IsOneOf text_codes code
