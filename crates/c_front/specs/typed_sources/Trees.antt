-- The typed tree of source texts, or why they have none.
use Rattle.std.specs.Prelude.{◌≡◌, ℕ, List, [], map}
use Rattle.fq_core.specs.declared.refusal.Place.{Place}
use Rattle.c_lex.specs.declared.token.SourceText.{SourceText}
use Rattle.c_lex.specs.declared.token.Token.{Token}
use Rattle.c_lex.specs.Lexed.{Lexed}
use Rattle.c_lex.specs.Lexed as tokens
use Rattle.c_parse.specs.declared.unit.Item.{Item}
use Rattle.c_parse.specs.Signs.{terminal_of}
use Rattle.c_parse.specs.UnitForm.{IsRefusedUnit}
use Rattle.c_types.specs.Refusal as types
use Rattle.c_types.specs.Units.{faults_of, typed_of}
use Rattle.c_typed_trees.specs.declared.unit.Typed.{Typed}
use Rattle.c_front.specs.Automata.{IsUnitOf}

-- it is the typed tree of the texts: nothing is wrong in their unit
pub record IsTypedOf (texts : List SourceText) (typed : Typed) : Type 0 where
  pub items : List Item
  pub unit : IsUnitOf texts items
  pub faultless : faults_of items ≡ []
  pub is : typed ≡ typed_of items

-- The texts have no typed tree, for the cause of this code, at this place: one in their tokens; one in the unit that the
-- tokens would be; or the first that is wrong in the unit.
pub data IsRefused (texts : List SourceText) : ℕ → Place → Type 0 where
  at_tokens : {code : ℕ} {p : Place} → tokens.Refused texts code p → IsRefused texts code p
  at_unit : {code : ℕ} {p : Place} (ts : List Token) → Lexed texts ts → IsRefusedUnit (map terminal_of ts) code p → IsRefused texts code p
  at_types : {code : ℕ} {p : Place} (items : List Item) → IsUnitOf texts items → types.IsRefused items code p → IsRefused texts code p
