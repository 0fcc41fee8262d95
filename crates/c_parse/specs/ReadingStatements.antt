-- Reading declarations and statements from left to right.
-- Only proofs rest on this: no public contract speaks of it.
use Rattle.std.specs.Prelude.{ℕ, zero, suc, Bool, true, false, ◌&&◌, ◌||◌, if◌then◌else◌, List, [], ◌∷◌, length, Option, Some, None}
use Rattle.fq_core.specs.declared.span.Span.{Span}
use Rattle.c_values.specs.declared.operators.BinaryOp.{BinaryOp}
use Rattle.c_parse.specs.declared.sign.Symbol.{Symbol}
use Rattle.c_parse.specs.declared.sign.Symbol.TheVariants as symbols
use Rattle.c_parse.specs.declared.sign.Sign.{Sign}
use Rattle.c_parse.specs.declared.sign.Sign.TheVariants as sign
use Rattle.c_parse.specs.declared.sign.Terminal.{Terminal}
use Rattle.c_parse.specs.declared.expr.ExprTree.{ExprTree}
use Rattle.c_parse.specs.declared.statement.PlaceTree.{PlaceTree}
use Rattle.c_parse.specs.declared.statement.Declarator.{Declarator}
use Rattle.c_parse.specs.declared.statement.Initial.{Initial}
use Rattle.c_parse.specs.declared.statement.Initial.TheVariants as initial
use Rattle.c_parse.specs.declared.statement.CaseLabel.{CaseLabel}
use Rattle.c_parse.specs.declared.statement.Group.{Group}
use Rattle.c_parse.specs.declared.statement.Statement.{Statement}
use Rattle.c_parse.specs.declared.statement.Form.TheVariants as form
use Rattle.c_parse.specs.Grammar.{Text, first_span}
use Rattle.c_parse.specs.StatementTrees.{statement, ident, place_tree, declarator, case_label, group, assigned_by, step_by}
use Rattle.c_parse.specs.Reading.{Read, ◌>>=◌, is_symbol, starts, starts_type, tail, expect, type_at, arguments_at, expr_in}

-- an expression
unfoldable pub choice_in : List Terminal → Read ExprTree
choice_in ts = expr_in 0 ts

-- forms with commas between them, and the symbol behind the last
unfoldable pub separated_at : {Y : Type 0} → (List Terminal → Read Y) → Bool → Symbol → ℕ → List Terminal → Read (List Y)
separated_at one comma last zero ts = None
separated_at one comma last (suc n) ts =
    one ts >>= λ y.
    if starts symbols.Comma y.1
    then (if comma && starts last (tail y.1)
    then Some (y.0 ∷ [], tail (tail y.1))
    else (separated_at one comma last n (tail y.1) >>= λ ys. Some (y.0 ∷ ys.0, ys.1)))
    else (expect last y.1 >>= λ rest. Some (y.0 ∷ [], rest))

-- the name in front
abbrev pub name_of : Sign → Option Text
name_of (sign.Name w) = Some w
name_of _ = None

abbrev pub name_at : List Terminal → Option Text
name_at [] = None
name_at (t ∷ ts) = name_of t.sign

-- the length of an array, or the index of an element, if there is one
unfoldable pub bracketed_at : List Terminal → Read (Option ExprTree)
bracketed_at ts =
    if starts symbols.OpenIndex ts
    then (choice_in (tail ts) >>= λ x. expect symbols.CloseIndex x.1 >>= λ rest. Some (Some x.0, rest))
    else Some (None, ts)

-- what a name begins as
unfoldable pub first_at : List Terminal → Read (Option Initial)
first_at ts =
    if starts symbols.Assign ts
    then (if starts symbols.OpenBrace (tail ts)
    then (separated_at choice_in true symbols.CloseBrace (length (tail (tail ts))) (tail (tail ts)) >>= λ es. Some (Some (initial.List es.0), es.1))
    else (choice_in (tail ts) >>= λ t. Some (Some (initial.One t.0), t.1)))
    else Some (None, ts)

unfoldable pub declarator_at : List Terminal → Read Declarator
declarator_at ts =
    name_at ts >>= λ w. bracketed_at (tail ts) >>= λ l. first_at l.1 >>= λ f. Some (declarator w (first_span ts) l.0 f.0, f.1)

abbrev pub declarators_at : List Terminal → Read (List Declarator)
declarators_at ts = separated_at declarator_at false symbols.Semicolon (length ts) ts

-- what follows the words `const` in front
abbrev pub past_consts : List Terminal → List Terminal
past_consts [] = []
past_consts (t ∷ ts) = if is_symbol symbols.Const t.sign then past_consts ts else t ∷ ts

-- a declaration in a block
abbrev pub starts_local : List Terminal → Bool
starts_local ts = starts symbols.Const ts || starts_type ts

unfoldable pub local_at : List Terminal → Read Statement
local_at ts =
    type_at (past_consts ts) >>= λ kind. declarators_at kind.1 >>= λ ds. Some (statement (first_span ts) (form.Local kind.0 ds.0), ds.1)

-- the symbol in front
abbrev pub symbol_of : Sign → Option Symbol
symbol_of (sign.Symbol m) = Some m
symbol_of _ = None

abbrev pub symbol_at : List Terminal → Option Symbol
symbol_at [] = None
symbol_at (t ∷ ts) = symbol_of t.sign

-- what is done with a place, by the symbol behind it
abbrev pub changed_by : Option Bool → Option (Option BinaryOp) → Span → PlaceTree → List Terminal → Read Statement
changed_by (Some up) how p to ts = Some (statement p (form.Step to up), ts)
changed_by None (Some op) p to ts = choice_in ts >>= λ t. Some (statement p (form.Assign to op t.0), t.1)
changed_by None None p to ts = None

unfoldable pub changed_at : Span → PlaceTree → List Terminal → Read Statement
changed_at p to ts = symbol_at ts >>= λ m. changed_by (step_by m) (assigned_by m) p to (tail ts)

-- a call, an assignment or a step that begins with a name
unfoldable pub named_at : Span → Text → List Terminal → Read Statement
named_at p w ts =
    if starts symbols.Open ts
    then (if starts symbols.Close (tail ts)
    then Some (statement p (form.Call (ident w p) []), tail (tail ts))
    else (arguments_at expr_in (length (tail ts)) (tail ts) >>= λ x. Some (statement p (form.Call (ident w p) x.0), x.1)))
    else (bracketed_at ts >>= λ i. changed_at p (place_tree w p i.0) i.1)

-- a step that begins with its symbol
unfoldable pub stepped_at : Span → Symbol → List Terminal → Read Statement
stepped_at p m ts =
    step_by m >>= λ up. name_at ts >>= λ w. bracketed_at (tail ts) >>= λ i. Some (statement p (form.Step (place_tree w (first_span ts) i.0) up), i.1)

abbrev pub simple_of : Sign → Span → List Terminal → Read Statement
simple_of (sign.Name w) p ts = named_at p w ts
simple_of (sign.Symbol m) p ts = stepped_at p m ts
simple_of _ p ts = None

unfoldable pub simple_at : List Terminal → Read Statement
simple_at [] = None
simple_at (t ∷ ts) = simple_of t.sign t.span ts

-- a test in parentheses
unfoldable pub test_at : List Terminal → Read ExprTree
test_at ts = expect symbols.Open ts >>= λ a. choice_in a >>= λ c. expect symbols.Close c.1 >>= λ b. Some (c.0, b)

-- an expression, or nothing before a semicolon
unfoldable pub optional_at : List Terminal → Read (Option ExprTree)
optional_at ts = if starts symbols.Semicolon ts then Some (None, ts) else (choice_in ts >>= λ t. Some (Some t.0, t.1))

-- what a `for` begins with, and what it does behind each turn
unfoldable pub begin_at : List Terminal → Read (Option Statement)
begin_at ts =
    if starts symbols.Semicolon ts then Some (None, tail ts)
    else (if starts_local ts then (local_at ts >>= λ s. Some (Some s.0, s.1))
    else (simple_at ts >>= λ s. expect symbols.Semicolon s.1 >>= λ rest. Some (Some s.0, rest)))

unfoldable pub next_at : List Terminal → Read (Option Statement)
next_at ts = if starts symbols.Close ts then Some (None, ts) else (simple_at ts >>= λ s. Some (Some s.0, s.1))

-- the labels in a row
abbrev pub starts_label : List Terminal → Bool
starts_label ts = starts symbols.Case ts || starts symbols.Default ts

unfoldable pub label_at : List Terminal → Read CaseLabel
label_at ts =
    if starts symbols.Case ts
    then (choice_in (tail ts) >>= λ t. expect symbols.Colon t.1 >>= λ rest. Some (case_label (first_span ts) (Some t.0), rest))
    else (expect symbols.Default ts >>= λ a. expect symbols.Colon a >>= λ rest. Some (case_label (first_span ts) None, rest))

unfoldable pub labels_at : ℕ → List Terminal → Read (List CaseLabel)
labels_at zero ts = None
labels_at (suc n) ts =
    label_at ts >>= λ l.
    if starts_label l.1 then (labels_at n l.1 >>= λ ls. Some (l.0 ∷ ls.0, ls.1)) else Some (l.0 ∷ [], l.1)

-- how a statement is read
abbrev pub Reads : Type 0
Reads = List Terminal → Read Statement

abbrev pub one_at : Reads → List Terminal → Read Statement
one_at r ts = if starts_local ts then local_at ts else r ts

-- declarations and statements up to a closing brace, or a label of a `switch`
abbrev pub ends_body : List Terminal → Bool
ends_body ts = starts symbols.CloseBrace ts || starts_label ts

unfoldable pub body_at : Reads → ℕ → List Terminal → Read (List Statement)
body_at r zero ts = None
body_at r (suc n) ts =
    if ends_body ts then Some ([], ts)
    else (one_at r ts >>= λ s. body_at r n s.1 >>= λ ss. Some (s.0 ∷ ss.0, ss.1))

-- groups up to the closing brace
unfoldable pub groups_at : Reads → ℕ → List Terminal → Read (List Group)
groups_at r zero ts = None
groups_at r (suc n) ts =
    if starts symbols.CloseBrace ts then Some ([], tail ts)
    else (labels_at (length ts) ts >>= λ ls. body_at r (length ls.1) ls.1 >>= λ ss. groups_at r n ss.1 >>= λ gs. Some (group ls.0 ss.0 ∷ gs.0, gs.1))

-- the arms behind an `if`, and what else
unfoldable pub arms_at : Reads → ℕ → List Terminal → Read (List (ExprTree × Statement) × Option Statement)
arms_at r zero ts = None
arms_at r (suc n) ts =
    test_at ts >>= λ c. r c.1 >>= λ s.
    if starts symbols.Else s.1
    then (if starts symbols.If (tail s.1)
    then (arms_at r n (tail (tail s.1)) >>= λ x. Some (((c.0, s.0) ∷ x.0.0, x.0.1), x.1))
    else (r (tail s.1) >>= λ o. Some (((c.0, s.0) ∷ [], Some o.0), o.1)))
    else Some (((c.0, s.0) ∷ [], None), s.1)

-- what follows `do`, `for`, `switch`, `return`, `assert` and `assume`
unfoldable pub do_at : Reads → Span → List Terminal → Read Statement
do_at r p ts = r ts >>= λ s. expect symbols.While s.1 >>= λ a. test_at a >>= λ c. expect symbols.Semicolon c.1 >>= λ rest. Some (statement p (form.Do s.0 c.0), rest)

unfoldable pub for_at : Reads → Span → List Terminal → Read Statement
for_at r p ts =
    expect symbols.Open ts >>= λ a. begin_at a >>= λ i. optional_at i.1 >>= λ c. expect symbols.Semicolon c.1 >>= λ b. next_at b >>= λ j. expect symbols.Close j.1 >>= λ d. r d >>= λ s.
    Some (statement p (form.For i.0 c.0 j.0 s.0), s.1)

unfoldable pub switch_at : Reads → Span → List Terminal → Read Statement
switch_at r p ts =
    test_at ts >>= λ c. expect symbols.OpenBrace c.1 >>= λ a. groups_at r (length a) a >>= λ gs. Some (statement p (form.Switch c.0 gs.0), gs.1)

unfoldable pub return_at : Span → List Terminal → Read Statement
return_at p ts = optional_at ts >>= λ t. expect symbols.Semicolon t.1 >>= λ rest. Some (statement p (form.Return t.0), rest)

unfoldable pub assert_at : Span → List Terminal → Read Statement
assert_at p ts = test_at ts >>= λ t. expect symbols.Semicolon t.1 >>= λ rest. Some (statement p (form.Assert t.0), rest)

unfoldable pub assume_at : Span → List Terminal → Read Statement
assume_at p ts = test_at ts >>= λ t. expect symbols.Semicolon t.1 >>= λ rest. Some (statement p (form.Assume t.0), rest)

-- what follows the first token
abbrev pub statement_of_symbol : Reads → Symbol → Span → List Terminal → Read Statement
statement_of_symbol r symbols.OpenBrace p ts = body_at r (length ts) ts >>= λ ss. expect symbols.CloseBrace ss.1 >>= λ rest. Some (statement p (form.Block ss.0), rest)
statement_of_symbol r symbols.Semicolon p ts = Some (statement p form.Empty, ts)
statement_of_symbol r symbols.If p ts = arms_at r (length ts) ts >>= λ x. Some (statement p (form.If x.0.0 x.0.1), x.1)
statement_of_symbol r symbols.While p ts = test_at ts >>= λ c. r c.1 >>= λ s. Some (statement p (form.While c.0 s.0), s.1)
statement_of_symbol r symbols.Do p ts = do_at r p ts
statement_of_symbol r symbols.For p ts = for_at r p ts
statement_of_symbol r symbols.Switch p ts = switch_at r p ts
statement_of_symbol r symbols.Break p ts = expect symbols.Semicolon ts >>= λ rest. Some (statement p form.Break, rest)
statement_of_symbol r symbols.Continue p ts = expect symbols.Semicolon ts >>= λ rest. Some (statement p form.Continue, rest)
statement_of_symbol r symbols.Return p ts = return_at p ts
statement_of_symbol r symbols.Assert p ts = assert_at p ts
statement_of_symbol r symbols.Assume p ts = assume_at p ts
statement_of_symbol r m p ts = stepped_at p m ts >>= λ s. expect symbols.Semicolon s.1 >>= λ rest. Some (s.0, rest)

-- a statement that begins with a name: a label has a colon behind it
unfoldable pub labelled_at : Reads → Span → Text → List Terminal → Read Statement
labelled_at r p w ts =
    if starts symbols.Colon ts
    then (r (tail ts) >>= λ s. Some (statement p (form.Label (ident w p) s.0), s.1))
    else (named_at p w ts >>= λ s. expect symbols.Semicolon s.1 >>= λ rest. Some (s.0, rest))

abbrev pub statement_of : Reads → Sign → Span → List Terminal → Read Statement
statement_of r (sign.Symbol m) p ts = statement_of_symbol r m p ts
statement_of r (sign.Name w) p ts = labelled_at r p w ts
statement_of r _ p ts = None

unfoldable pub statement_by : Reads → List Terminal → Read Statement
statement_by r [] = None
statement_by r (t ∷ ts) = statement_of r t.sign t.span ts

-- with a bound on how deep statements nest, and without: none nests deeper than it has tokens
unfoldable pub statement_at : ℕ → Reads
statement_at zero ts = None
statement_at (suc n) ts = statement_by (statement_at n) ts

unfoldable pub statement_in : Reads
statement_in ts = statement_at (suc (length ts)) ts
