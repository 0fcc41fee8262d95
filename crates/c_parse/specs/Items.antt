-- Which tokens spell which item (ISO/IEC 9899:2011, 6.9 and 6.7).
-- Public contracts rest on this.
use Rattle.std.specs.Prelude.{true, false, List, [], ◌∷◌, ◌++◌, Option, Some, None}
use Rattle.fq_core.specs.declared.span.Span.{Span}
use Rattle.c_values.specs.declared.kinds.Kind.{Kind}
use Rattle.c_parse.specs.declared.sign.Symbol.{Symbol}
use Rattle.c_parse.specs.declared.sign.Symbol.TheVariants as symbols
use Rattle.c_parse.specs.declared.sign.Terminal.{Terminal}
use Rattle.c_parse.specs.declared.expr.Ident.{Ident}
use Rattle.c_parse.specs.declared.expr.ExprTree.{ExprTree}
use Rattle.c_parse.specs.declared.statement.Declarator.{Declarator}
use Rattle.c_parse.specs.declared.statement.Statement.{Statement}
use Rattle.c_parse.specs.declared.unit.Parameter.{Parameter}
use Rattle.c_parse.specs.declared.unit.Body.{Body}
use Rattle.c_parse.specs.declared.unit.Item.{Item}
use Rattle.c_parse.specs.declared.unit.Item.TheVariants as item
use Rattle.c_parse.specs.Grammar.{Text, symbol, name_token, first_span, DerivesChoice}
use Rattle.c_parse.specs.StatementTrees.{ident}
use Rattle.c_parse.specs.Separated.{DerivesSeparated}
use Rattle.c_parse.specs.Declarations.{DerivesType, DerivesBracketed, DerivesDeclarators}
use Rattle.c_parse.specs.Statements.{AreConsts, DerivesBody}

-- words that a function's declaration may begin with, and a variable's; they leave no trace (6.7.1, 6.7.3, 6.7.4)
pub data ForFunction : Symbol → Type 0 where
  static_function : ForFunction symbols.Static
  extern_function : ForFunction symbols.Extern
  inline_function : ForFunction symbols.Inline
  const_function : ForFunction symbols.Const

pub data ForVariable : Symbol → Type 0 where
  static_variable : ForVariable symbols.Static
  const_variable : ForVariable symbols.Const

pub data AreAll (Fits : Symbol → Type 0) : List Terminal → Type 0 where
  none_left : AreAll Fits []
  one_more_word : {ts : List Terminal} (m : Symbol) (p : Span) → Fits m → AreAll Fits ts → AreAll Fits (symbol m p ∷ ts)

-- the result of a function
pub data DerivesResult : Option Kind → List Terminal → Type 0 where
  nothing_given : (p : Span) → DerivesResult None (symbol symbols.Void p ∷ [])
  a_kind : {kind : Kind} {ts : List Terminal} → DerivesType kind ts → DerivesResult (Some kind) ts

-- the name and the length of a parameter, which may be left out (6.7.6, 6.7.7)
pub data DerivesNamed : Option Ident → Option ExprTree → List Terminal → Type 0 where
  without_name : DerivesNamed None None []
  with_name : {w : Text} {p : Span} {length : Option ExprTree} {ts : List Terminal} → DerivesBracketed length ts → DerivesNamed (Some (ident w p)) length (name_token w p ∷ ts)

pub data DerivesParameter : Parameter → List Terminal → Type 0 where
  a_parameter : {kind : Kind} {name : Option Ident} {length : Option ExprTree} {consts type ts : List Terminal} → AreConsts consts → DerivesType kind type → DerivesNamed name length ts
      → DerivesParameter (record { span = first_span (consts ++ type); kind = kind; name = name; length = length }) (consts ++ (type ++ ts))

-- the parameters, with the closing parenthesis; `void` stands for none (6.7.6.3p10)
pub data DerivesParameters : List Parameter → List Terminal → Type 0 where
  no_parameter : (q : Span) → DerivesParameters [] (symbol symbols.Close q ∷ [])
  void_parameter : (p q : Span) → DerivesParameters [] (symbol symbols.Void p ∷ symbol symbols.Close q ∷ [])
  some_parameters : {ps : List Parameter} {ts : List Terminal} → DerivesSeparated DerivesParameter false symbols.Close ps ts → DerivesParameters ps ts

-- the block of a function, or a semicolon where it is declared
pub data DerivesEnd : Option Body → List Terminal → Type 0 where
  declared : (p : Span) → DerivesEnd None (symbol symbols.Semicolon p ∷ [])
  defined : {ss : List Statement} {ts : List Terminal} (p q : Span) → DerivesBody ss ts
      → DerivesEnd (Some (record { statements = ss; close = q })) (symbol symbols.OpenBrace p ∷ (ts ++ symbol symbols.CloseBrace q ∷ []))

-- the name of an `enum`, which leaves no trace (6.7.2.2)
pub data AreTag : List Terminal → Type 0 where
  no_tag : AreTag []
  a_tag : {w : Text} {p : Span} → AreTag (name_token w p ∷ [])

-- an enum constant, with its value or without
pub data DerivesConstant : Ident × Option ExprTree → List Terminal → Type 0 where
  plain_constant : {w : Text} {p : Span} → DerivesConstant (ident w p, None) (name_token w p ∷ [])
  with_value : {w : Text} {p : Span} {t : ExprTree} {ts : List Terminal} (q : Span) → DerivesChoice t ts → DerivesConstant (ident w p, Some t) (name_token w p ∷ symbol symbols.Assign q ∷ ts)

pub data DerivesItem : Item → List Terminal → Type 0 where
  a_function : {result : Option Kind} {w : Text} {ps : List Parameter} {body : Option Body} {before type ts us : List Terminal} (p q : Span)
      → AreAll ForFunction before → DerivesResult result type → DerivesParameters ps ts → DerivesEnd body us
      → DerivesItem (item.Function (first_span (before ++ type)) result (ident w p) ps body) (before ++ (type ++ name_token w p ∷ symbol symbols.Open q ∷ (ts ++ us)))
  some_variables : {kind : Kind} {ds : List Declarator} {before type ts : List Terminal} → AreAll ForVariable before → DerivesType kind type → DerivesDeclarators ds ts
      → DerivesItem (item.Variables (first_span (before ++ type)) kind ds) (before ++ (type ++ ts))
  some_constants : {cs : List (Ident × Option ExprTree)} {tag ts : List Terminal} (p q r : Span) → AreTag tag → DerivesSeparated DerivesConstant true symbols.CloseBrace cs ts
      → DerivesItem (item.Constants p cs) (symbol symbols.Enum p ∷ (tag ++ symbol symbols.OpenBrace q ∷ (ts ++ symbol symbols.Semicolon r ∷ [])))

-- items, one after the other
pub data DerivesItems : List Item → List Terminal → Type 0 where
  no_items : DerivesItems [] []
  an_item_and : {i : Item} {is : List Item} {ts us : List Terminal} → DerivesItem i ts → DerivesItems is us → DerivesItems (i ∷ is) (ts ++ us)
