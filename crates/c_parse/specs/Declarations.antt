-- Which tokens spell which declarators (ISO/IEC 9899:2011, 6.7.6 and 6.7.9).
-- Public contracts rest on this.
use Rattle.std.specs.Prelude.{◌≡◌, true, false, List, [], ◌∷◌, ◌++◌, Option, Some, None}
use Rattle.fq_core.specs.declared.span.Span.{Span}
use Rattle.c_values.specs.declared.kinds.Kind.{Kind}
use Rattle.c_parse.specs.declared.sign.Symbol.TheVariants as symbols
use Rattle.c_parse.specs.declared.sign.TypeWord.{TypeWord}
use Rattle.c_parse.specs.declared.sign.Terminal.{Terminal}
use Rattle.c_parse.specs.declared.expr.ExprTree.{ExprTree}
use Rattle.c_parse.specs.declared.statement.Initial.{Initial}
use Rattle.c_parse.specs.declared.statement.Initial.TheVariants as initial
use Rattle.c_parse.specs.declared.statement.Declarator.{Declarator}
use Rattle.c_parse.specs.Types.{kind_of}
use Rattle.c_parse.specs.Grammar.{Text, symbol, name_token, AreWords, DerivesChoice}
use Rattle.c_parse.specs.StatementTrees.{declarator}
use Rattle.c_parse.specs.Separated.{DerivesSeparated}

-- a type: its words, in any order
pub data DerivesType : Kind → List Terminal → Type 0 where
  a_type : {kind : Kind} {words : List TypeWord} {ts : List Terminal} → AreWords words ts → kind_of words ≡ Some kind → DerivesType kind ts

-- an expression in brackets, or nothing: the length of an array (6.7.6.2), or the index of an element (6.5.2.1)
pub data DerivesBracketed : Option ExprTree → List Terminal → Type 0 where
  no_bracket : DerivesBracketed None []
  in_brackets : {t : ExprTree} {ts : List Terminal} (p q : Span) → DerivesChoice t ts
      → DerivesBracketed (Some t) (symbol symbols.OpenIndex p ∷ (ts ++ symbol symbols.CloseIndex q ∷ []))

-- what a name begins as, behind `=`, or nothing; a list may end in a comma
pub data DerivesFirst : Option Initial → List Terminal → Type 0 where
  no_first : DerivesFirst None []
  one_first : {t : ExprTree} {ts : List Terminal} (p : Span) → DerivesChoice t ts → DerivesFirst (Some (initial.One t)) (symbol symbols.Assign p ∷ ts)
  some_first : {es : List ExprTree} {ts : List Terminal} (p q : Span) → DerivesSeparated DerivesChoice true symbols.CloseBrace es ts
      → DerivesFirst (Some (initial.List es)) (symbol symbols.Assign p ∷ symbol symbols.OpenBrace q ∷ ts)

pub data DerivesDeclarator : Declarator → List Terminal → Type 0 where
  a_declarator : {w : Text} {p : Span} {length : Option ExprTree} {first : Option Initial} {xs ys : List Terminal} → DerivesBracketed length xs → DerivesFirst first ys
      → DerivesDeclarator (declarator w p length first) (name_token w p ∷ (xs ++ ys))

-- declarators with commas between them, and a semicolon
abbrev pub DerivesDeclarators : List Declarator → List Terminal → Type 0
DerivesDeclarators ds ts = DerivesSeparated DerivesDeclarator false symbols.Semicolon ds ts
