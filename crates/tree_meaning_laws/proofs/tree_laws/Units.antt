-- Units of texts in which nothing is wrong.
use Rattle.std.proofs.Common.{◌≡◌, ℕ, List, [], map, length, sym, subst}
use Rattle.c_lex.specs.declared.token.SourceText.{SourceText}
use Rattle.c_lex.specs.declared.token.Token.{Token}
use Rattle.c_lex.specs.Lexed.{Lexed}
use Rattle.c_parse.specs.declared.unit.Item.{Item}
use Rattle.c_parse.specs.Items.{DerivesItems}
use Rattle.c_parse.specs.Signs.{terminal_of}
use Rattle.c_typed_trees.specs.Fitting.{IsFitting}
use Rattle.c_types.specs.Units.{faults_of, typed_of}
use Rattle.c_types_laws.proofs.tree_contents.Texts.{units_of_texts}
use Rattle.c_types_laws.proofs.typing_fits.Units.{unit_fits}
use Rattle.tree_meaning_laws.proofs.temporaries_apart.Units.{unit_apart}
use Rattle.tree_meaning_laws.proofs.for_steps.Typed.{units_have_steps}
use Rattle.tree_meaning_laws.specs.tree_laws.Laws.{IsMade, UnitsAgree, UnendingUnitsAgree}
use Rattle.tree_meaning_laws.proofs.tree_laws.Law.{trees_agree}
use Rattle.tree_meaning_laws.proofs.tree_laws.Unending.{unending_trees_agree}

-- they are made
unit_made : (texts : List SourceText) (tokens : List Token) (items : List Item) (files : List (List ℕ)) → Lexed texts tokens → DerivesItems items (map terminal_of tokens) → faults_of items ≡ [] → length files ≡ length texts → IsMade (typed_of items) (length files)
unit_made texts tokens items files lexed derived none long = record {
  fitting = subst (IsFitting (typed_of items)) (sym long) (unit_fits items (length texts) (units_of_texts texts tokens items lexed derived) none);
  apart = unit_apart items;
  steps = units_have_steps items (map terminal_of tokens) derived;
}

pub units_agree : UnitsAgree
units_agree texts tokens items files entry f input end lexed derived none long there starts some = trees_agree (typed_of items) files entry f input end (unit_made texts tokens items files lexed derived none long) there starts some

pub unending_units_agree : UnendingUnitsAgree
unending_units_agree texts tokens items files entry f input lexed derived none long there starts = unending_trees_agree (typed_of items) files entry f input (unit_made texts tokens items files lexed derived none long) there starts
