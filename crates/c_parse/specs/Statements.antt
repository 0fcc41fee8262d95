-- Which tokens spell which statement (ISO/IEC 9899:2011, 6.8).
-- Public contracts rest on this.
use Rattle.std.specs.Prelude.{◌≡◌, Bool, true, false, List, [], ◌∷◌, ◌++◌, Option, Some, None}
use Rattle.fq_core.specs.declared.span.Span.{Span}
use Rattle.c_values.specs.declared.kinds.Kind.{Kind}
use Rattle.c_values.specs.declared.operators.BinaryOp.{BinaryOp}
use Rattle.c_parse.specs.declared.sign.Symbol.{Symbol}
use Rattle.c_parse.specs.declared.sign.Symbol.TheVariants as symbols
use Rattle.c_parse.specs.declared.sign.Terminal.{Terminal}
use Rattle.c_parse.specs.declared.expr.ExprTree.{ExprTree}
use Rattle.c_parse.specs.declared.statement.PlaceTree.{PlaceTree}
use Rattle.c_parse.specs.declared.statement.Declarator.{Declarator}
use Rattle.c_parse.specs.declared.statement.CaseLabel.{CaseLabel}
use Rattle.c_parse.specs.declared.statement.Group.{Group}
use Rattle.c_parse.specs.declared.statement.Statement.{Statement}
use Rattle.c_parse.specs.declared.statement.Form.TheVariants as form
use Rattle.c_parse.specs.Grammar.{Text, symbol, name_token, first_span, DerivesChoice, DerivesArguments}
use Rattle.c_parse.specs.StatementTrees.{statement, ident, place_tree, case_label, group, assigned_by, step_by}
use Rattle.c_parse.specs.Declarations.{DerivesType, DerivesBracketed, DerivesDeclarators}

-- any number of words `const`, which leave no trace (6.7.3)
pub data AreConsts : List Terminal → Type 0 where
  no_const : AreConsts []
  a_const : {ts : List Terminal} (p : Span) → AreConsts ts → AreConsts (symbol symbols.Const p ∷ ts)

-- what may be assigned to: a variable, or an element
pub data DerivesPlace : PlaceTree → List Terminal → Type 0 where
  a_place : {w : Text} {p : Span} {index : Option ExprTree} {ts : List Terminal} → DerivesBracketed index ts → DerivesPlace (place_tree w p index) (name_token w p ∷ ts)

-- an assignment, a step or a call (6.5.16, 6.5.2.4, 6.5.3.1, 6.5.2.2)
pub data DerivesSimple : Statement → List Terminal → Type 0 where
  an_assignment : {to : PlaceTree} {op : Option BinaryOp} {t : ExprTree} {xs ys : List Terminal} (m : Symbol) (q : Span) → DerivesPlace to xs → assigned_by m ≡ Some op → DerivesChoice t ys
      → DerivesSimple (statement (first_span xs) (form.Assign to op t)) (xs ++ symbol m q ∷ ys)
  a_step_after : {to : PlaceTree} {up : Bool} {xs : List Terminal} (m : Symbol) (q : Span) → DerivesPlace to xs → step_by m ≡ Some up
      → DerivesSimple (statement (first_span xs) (form.Step to up)) (xs ++ symbol m q ∷ [])
  a_step_before : {to : PlaceTree} {up : Bool} {xs : List Terminal} (m : Symbol) (q : Span) → step_by m ≡ Some up → DerivesPlace to xs
      → DerivesSimple (statement q (form.Step to up)) (symbol m q ∷ xs)
  a_bare_run : {w : Text} {p : Span} (q r : Span)
      → DerivesSimple (statement p (form.Call (ident w p) [])) (name_token w p ∷ symbol symbols.Open q ∷ symbol symbols.Close r ∷ [])
  a_run : {w : Text} {p : Span} {args : List ExprTree} {ts : List Terminal} (q r : Span) → DerivesArguments args ts
      → DerivesSimple (statement p (form.Call (ident w p) args)) (name_token w p ∷ symbol symbols.Open q ∷ (ts ++ symbol symbols.Close r ∷ []))

-- a declaration in a block, with its semicolon (6.7)
pub data DerivesLocal : Statement → List Terminal → Type 0 where
  a_local : {kind : Kind} {ds : List Declarator} {consts type ts : List Terminal} → AreConsts consts → DerivesType kind type → DerivesDeclarators ds ts
      → DerivesLocal (statement (first_span (consts ++ type)) (form.Local kind ds)) (consts ++ (type ++ ts))

-- an expression, or nothing
pub data DerivesOptional : Option ExprTree → List Terminal → Type 0 where
  no_choice : DerivesOptional None []
  some_choice : {t : ExprTree} {ts : List Terminal} → DerivesChoice t ts → DerivesOptional (Some t) ts

-- what a `for` begins with, and what it does behind each turn (6.8.5.3)
pub data DerivesBegin : Option Statement → List Terminal → Type 0 where
  begins_not : (p : Span) → DerivesBegin None (symbol symbols.Semicolon p ∷ [])
  begins_simple : {s : Statement} {ts : List Terminal} (p : Span) → DerivesSimple s ts → DerivesBegin (Some s) (ts ++ symbol symbols.Semicolon p ∷ [])
  begins_local : {s : Statement} {ts : List Terminal} → DerivesLocal s ts → DerivesBegin (Some s) ts

pub data DerivesNext : Option Statement → List Terminal → Type 0 where
  no_next : DerivesNext None []
  a_next : {s : Statement} {ts : List Terminal} → DerivesSimple s ts → DerivesNext (Some s) ts

-- the labels of a group: all that stand in a row, one at least (6.8.1)
pub data DerivesLabel : CaseLabel → List Terminal → Type 0 where
  a_case : {t : ExprTree} {ts : List Terminal} (p q : Span) → DerivesChoice t ts → DerivesLabel (case_label p (Some t)) (symbol symbols.Case p ∷ (ts ++ symbol symbols.Colon q ∷ []))
  a_default : (p q : Span) → DerivesLabel (case_label p None) (symbol symbols.Default p ∷ symbol symbols.Colon q ∷ [])

pub data DerivesLabels : List CaseLabel → List Terminal → Type 0 where
  last_label : {l : CaseLabel} {ts : List Terminal} → DerivesLabel l ts → DerivesLabels (l ∷ []) ts
  more_labels : {l : CaseLabel} {ls : List CaseLabel} {ts us : List Terminal} → DerivesLabel l ts → DerivesLabels ls us → DerivesLabels (l ∷ ls) (ts ++ us)

-- no `if` comes first
abbrev pub NoIf : List Terminal → Type 0
NoIf ts = (p : Span) (rest : List Terminal) → ts ≡ symbol symbols.If p ∷ rest → ⊥

-- A statement. The first value says whether it ends in an `if` that has no `else`. An `else` behind it belongs to that
-- `if`, which is the lexically nearest that the syntax allows (6.8.4.1p3).
mutual
  pub data DerivesStatement : Bool → Statement → List Terminal → Type 0 where
    a_block : {p : Span} {ss : List Statement} {ts : List Terminal} (q : Span) → DerivesBody ss ts
        → DerivesStatement false (statement p (form.Block ss)) (symbol symbols.OpenBrace p ∷ (ts ++ symbol symbols.CloseBrace q ∷ []))
    an_empty : {p : Span} → DerivesStatement false (statement p form.Empty) (symbol symbols.Semicolon p ∷ [])
    a_simple : {s : Statement} {ts : List Terminal} (q : Span) → DerivesSimple s ts → DerivesStatement false s (ts ++ symbol symbols.Semicolon q ∷ [])
    a_label : {o : Bool} {w : Text} {p : Span} {s : Statement} {ts : List Terminal} (q : Span) → DerivesStatement o s ts
        → DerivesStatement o (statement p (form.Label (ident w p) s)) (name_token w p ∷ symbol symbols.Colon q ∷ ts)
    an_if : {o : Bool} {p : Span} {arms : List (ExprTree × Statement)} {otherwise : Option Statement} {ts : List Terminal} → DerivesArms o arms otherwise ts
        → DerivesStatement o (statement p (form.If arms otherwise)) (symbol symbols.If p ∷ ts)
    a_while : {o : Bool} {p : Span} {c : ExprTree} {s : Statement} {xs ys : List Terminal} (q r : Span) → DerivesChoice c xs → DerivesStatement o s ys
        → DerivesStatement o (statement p (form.While c s)) (symbol symbols.While p ∷ symbol symbols.Open q ∷ (xs ++ symbol symbols.Close r ∷ ys))
    a_do : {o : Bool} {p : Span} {s : Statement} {c : ExprTree} {xs ys : List Terminal} (q r u v : Span) → DerivesStatement o s xs → DerivesChoice c ys
        → DerivesStatement false (statement p (form.Do s c)) (symbol symbols.Do p ∷ (xs ++ symbol symbols.While q ∷ symbol symbols.Open r ∷ (ys ++ symbol symbols.Close u ∷ symbol symbols.Semicolon v ∷ [])))
    a_for : {o : Bool} {p : Span} {first next : Option Statement} {test : Option ExprTree} {s : Statement} {xs ys zs us : List Terminal} (q r u : Span)
        → DerivesBegin first xs → DerivesOptional test ys → DerivesNext next zs → DerivesStatement o s us
        → DerivesStatement o (statement p (form.For first test next s)) (symbol symbols.For p ∷ symbol symbols.Open q ∷ (xs ++ (ys ++ symbol symbols.Semicolon r ∷ (zs ++ symbol symbols.Close u ∷ us))))
    a_switch : {p : Span} {c : ExprTree} {gs : List Group} {xs ys : List Terminal} (q r u v : Span) → DerivesChoice c xs → DerivesGroups gs ys
        → DerivesStatement false (statement p (form.Switch c gs)) (symbol symbols.Switch p ∷ symbol symbols.Open q ∷ (xs ++ symbol symbols.Close r ∷ symbol symbols.OpenBrace u ∷ (ys ++ symbol symbols.CloseBrace v ∷ [])))
    a_break : {p : Span} (q : Span) → DerivesStatement false (statement p form.Break) (symbol symbols.Break p ∷ symbol symbols.Semicolon q ∷ [])
    a_continue : {p : Span} (q : Span) → DerivesStatement false (statement p form.Continue) (symbol symbols.Continue p ∷ symbol symbols.Semicolon q ∷ [])
    a_return : {p : Span} {value : Option ExprTree} {ts : List Terminal} (q : Span) → DerivesOptional value ts
        → DerivesStatement false (statement p (form.Return value)) (symbol symbols.Return p ∷ (ts ++ symbol symbols.Semicolon q ∷ []))
    an_assert : {p : Span} {t : ExprTree} {ts : List Terminal} (q r u : Span) → DerivesChoice t ts
        → DerivesStatement false (statement p (form.Assert t)) (symbol symbols.Assert p ∷ symbol symbols.Open q ∷ (ts ++ symbol symbols.Close r ∷ symbol symbols.Semicolon u ∷ []))
    an_assume : {p : Span} {t : ExprTree} {ts : List Terminal} (q r u : Span) → DerivesChoice t ts
        → DerivesStatement false (statement p (form.Assume t)) (symbol symbols.Assume p ∷ symbol symbols.Open q ∷ (ts ++ symbol symbols.Close r ∷ symbol symbols.Semicolon u ∷ []))

  -- declarations and statements, one after the other (6.8.2)
  pub data DerivesBody : List Statement → List Terminal → Type 0 where
    no_more : DerivesBody [] []
    local_then : {s : Statement} {ss : List Statement} {xs ys : List Terminal} → DerivesLocal s xs → DerivesBody ss ys → DerivesBody (s ∷ ss) (xs ++ ys)
    statement_then : {o : Bool} {s : Statement} {ss : List Statement} {xs ys : List Terminal} → DerivesStatement o s xs → DerivesBody ss ys → DerivesBody (s ∷ ss) (xs ++ ys)

  -- what follows an `if`: its test, the statement of its arm, and `else` if it has one. Behind an arm that ends in an `if`
  -- without `else` there is none of this `if`, since it would belong to the other (6.8.4.1p3).
  pub data DerivesArms : Bool → List (ExprTree × Statement) → Option Statement → List Terminal → Type 0 where
    an_arm : {o b : Bool} {c : ExprTree} {s : Statement} {arms : List (ExprTree × Statement)} {otherwise : Option Statement} {xs ys zs : List Terminal} (p q : Span)
        → DerivesChoice c xs → DerivesStatement b s ys → (b ≡ true → zs ≡ []) → DerivesElse o arms otherwise zs
        → DerivesArms o ((c, s) ∷ arms) otherwise (symbol symbols.Open p ∷ (xs ++ symbol symbols.Close q ∷ (ys ++ zs)))

  -- what follows an arm: nothing, another arm behind `else if`, or the last statement behind `else`
  pub data DerivesElse : Bool → List (ExprTree × Statement) → Option Statement → List Terminal → Type 0 where
    no_else : DerivesElse true [] None []
    an_else : {o : Bool} {s : Statement} {ts : List Terminal} (p : Span) → NoIf ts → DerivesStatement o s ts
        → DerivesElse o [] (Some s) (symbol symbols.Else p ∷ ts)
    else_if : {o : Bool} {arms : List (ExprTree × Statement)} {otherwise : Option Statement} {ts : List Terminal} (p q : Span) → DerivesArms o arms otherwise ts
        → DerivesElse o arms otherwise (symbol symbols.Else p ∷ symbol symbols.If q ∷ ts)

  -- the groups of a `switch`: another follows only behind a group that has statements, since a group takes all the labels
  -- that stand in a row
  pub data DerivesGroups : List Group → List Terminal → Type 0 where
    no_group : DerivesGroups [] []
    a_group : {ls : List CaseLabel} {ss : List Statement} {gs : List Group} {xs ys zs : List Terminal} → DerivesLabels ls xs → DerivesBody ss ys → (ys ≡ [] → zs ≡ []) → DerivesGroups gs zs
        → DerivesGroups (group ls ss ∷ gs) (xs ++ (ys ++ zs))
