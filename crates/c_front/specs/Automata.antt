-- The automaton of source texts, or why they have none.
use Rattle.std.specs.Prelude.{◌≡◌, ◌<◌, ◌≤◌, ℕ, List, [], length, map}
use Rattle.fq_core.specs.declared.refusal.Place.{Place}
use Rattle.fq_core.specs.declared.refusal.Place.TheVariants as place
use Rattle.c_lex.specs.declared.token.SourceText.{SourceText}
use Rattle.c_lex.specs.declared.token.Token.{Token}
use Rattle.c_lex.specs.Lexed.{Lexed}
use Rattle.c_lex.specs.Lexed as tokens
use Rattle.c_parse.specs.declared.unit.Item.{Item}
use Rattle.c_parse.specs.Signs.{terminal_of}
use Rattle.c_parse.specs.UnitForm.{IsUnit, IsRefusedUnit}
use Rattle.c_types.specs.Refusal as types
use Rattle.c_types.specs.Units.{faults_of, typed_of}
use Rattle.cfa.specs.declared.parts.GraphParts.{GraphParts}
use Rattle.c_lower_rules.specs.graph_of.GraphOf.{graph_of}

-- the names of texts, in order
abbrev pub names_of : List SourceText → List (List ℕ)
names_of texts = map (λ (t : SourceText). t.name) texts

-- the tokens of the texts are a unit of these items
pub record IsUnitOf (texts : List SourceText) (items : List Item) : Type 0 where
  pub tokens : List Token
  pub cut : Lexed texts tokens
  pub unit : IsUnit (map terminal_of tokens) items

-- the automaton of a unit of texts
abbrev pub automaton_of : List SourceText → List Item → GraphParts
automaton_of texts items = graph_of (typed_of items) (names_of texts)

abbrev pub most_edges : ℕ
most_edges = 40000

-- it is the automaton of the texts: nothing is wrong in their unit, and the unit's automaton has at most 40,000 edges
pub record IsAutomatonOf (texts : List SourceText) (graph : GraphParts) : Type 0 where
  pub items : List Item
  pub unit : IsUnitOf texts items
  pub faultless : faults_of items ≡ []
  pub few : length (automaton_of texts items).edges ≤ most_edges
  pub is : graph ≡ automaton_of texts items

-- The texts have no automaton, for the cause of this code, at this place: one in their tokens; one in the unit that the
-- tokens would be; the first that is wrong in the unit; or the number of edges.
pub data IsRefused (texts : List SourceText) : ℕ → Place → Type 0 where
  at_tokens : {code : ℕ} {p : Place} → tokens.Refused texts code p → IsRefused texts code p
  at_unit : {code : ℕ} {p : Place} (ts : List Token) → Lexed texts ts → IsRefusedUnit (map terminal_of ts) code p → IsRefused texts code p
  at_types : {code : ℕ} {p : Place} (items : List Item) → IsUnitOf texts items → types.IsRefused items code p → IsRefused texts code p
  at_edges : (items : List Item) → IsUnitOf texts items → faults_of items ≡ [] → most_edges < length (automaton_of texts items).edges
      → IsRefused texts 41 (place.Limit most_edges)
