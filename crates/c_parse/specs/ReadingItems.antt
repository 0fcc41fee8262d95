-- Reading items from left to right.
-- Only proofs rest on this: no public contract speaks of it.
use Rattle.std.specs.Prelude.{ℕ, zero, suc, Bool, true, false, ◌||◌, if◌then◌else◌, List, [], ◌∷◌, length, Option, Some, None}
use Rattle.fq_core.specs.declared.span.Span.{Span}
use Rattle.c_values.specs.declared.kinds.Kind.{Kind}
use Rattle.c_parse.specs.declared.sign.Symbol.TheVariants as symbols
use Rattle.c_parse.specs.declared.sign.Sign.{Sign}
use Rattle.c_parse.specs.declared.sign.Terminal.{Terminal}
use Rattle.c_parse.specs.declared.expr.Ident.{Ident}
use Rattle.c_parse.specs.declared.expr.ExprTree.{ExprTree}
use Rattle.c_parse.specs.declared.unit.Parameter.{Parameter}
use Rattle.c_parse.specs.declared.unit.Body.{Body}
use Rattle.c_parse.specs.declared.unit.Item.{Item}
use Rattle.c_parse.specs.declared.unit.Item.TheVariants as item
use Rattle.c_parse.specs.Grammar.{Text, first_span}
use Rattle.c_parse.specs.StatementTrees.{ident}
use Rattle.c_parse.specs.Reading.{Read, ◌>>=◌, is_symbol, starts, tail, expect, type_at}
use Rattle.c_parse.specs.ReadingStatements.{choice_in, separated_at, name_at, bracketed_at, declarators_at, past_consts, body_at, statement_in}

-- the words that the declarations of functions and of variables may begin with, those of functions alone, and what
-- follows such words
abbrev pub is_shared : Sign → Bool
is_shared s = is_symbol symbols.Static s || is_symbol symbols.Const s

abbrev pub is_of_functions : Sign → Bool
is_of_functions s = is_symbol symbols.Extern s || is_symbol symbols.Inline s

abbrev pub is_before : Sign → Bool
is_before s = is_shared s || is_of_functions s

abbrev pub starts_before : List Terminal → Bool
starts_before [] = false
starts_before (t ∷ ts) = is_before t.sign

abbrev pub past_before : List Terminal → List Terminal
past_before [] = []
past_before (t ∷ ts) = if is_before t.sign then past_before ts else t ∷ ts

-- that of variables begins with no other words than `static` and `const`
abbrev pub for_variables : List Terminal → Bool
for_variables [] = true
for_variables (t ∷ ts) = if is_shared t.sign then for_variables ts else (if is_of_functions t.sign then false else true)

-- the name of a parameter and its length, if it has a name
abbrev pub by_name : Option Text → List Terminal → Read (Option Ident × Option ExprTree)
by_name None ts = Some ((None, None), ts)
by_name (Some w) ts = bracketed_at (tail ts) >>= λ l. Some ((Some (ident w (first_span ts)), l.0), l.1)

unfoldable pub parameter_at : List Terminal → Read Parameter
parameter_at ts =
    type_at (past_consts ts) >>= λ kind. by_name (name_at kind.1) kind.1 >>= λ n.
    Some (record { span = first_span ts; kind = kind.0; name = n.0.0; length = n.0.1 }, n.1)

unfoldable pub parameters_at : List Terminal → Read (List Parameter)
parameters_at ts =
    if starts symbols.Close ts then Some ([], tail ts)
    else (if starts symbols.Void ts then (expect symbols.Close (tail ts) >>= λ rest. Some ([], rest))
    else separated_at parameter_at false symbols.Close (length ts) ts)

-- a semicolon, or the block of a function
unfoldable pub end_at : List Terminal → Read (Option Body)
end_at ts =
    if starts symbols.Semicolon ts then Some (None, tail ts)
    else (expect symbols.OpenBrace ts >>= λ a. body_at statement_in (length a) a >>= λ ss. expect symbols.CloseBrace ss.1 >>= λ rest.
    Some (Some (record { statements = ss.0; close = first_span ss.1 }), rest))

-- what follows the name of a function
unfoldable pub function_at : Span → Option Kind → Ident → List Terminal → Read Item
function_at p result name ts =
    expect symbols.Open ts >>= λ a. parameters_at a >>= λ ps. end_at ps.1 >>= λ b. Some (item.Function p result name ps.0 b.0, b.1)

-- what follows a name that may be there
abbrev pub past_named : Option Text → List Terminal → List Terminal
past_named None ts = ts
past_named (Some w) ts = tail ts

unfoldable pub constant_at : List Terminal → Read (Ident × Option ExprTree)
constant_at ts =
    name_at ts >>= λ w.
    if starts symbols.Assign (tail ts)
    then (choice_in (tail (tail ts)) >>= λ t. Some ((ident w (first_span ts), Some t.0), t.1))
    else Some ((ident w (first_span ts), None), tail ts)

-- what follows `enum`
unfoldable pub enum_at : Span → List Terminal → Read Item
enum_at p ts =
    expect symbols.OpenBrace (past_named (name_at ts) ts) >>= λ a. separated_at constant_at true symbols.CloseBrace (length a) a >>= λ cs. expect symbols.Semicolon cs.1 >>= λ rest.
    Some (item.Constants p cs.0, rest)

-- what follows the words that a declaration begins with: all is the tokens with these words
unfoldable pub typed_at : List Terminal → List Terminal → Read Item
typed_at all ts =
    type_at ts >>= λ kind. name_at kind.1 >>= λ w.
    if starts symbols.Open (tail kind.1)
    then function_at (first_span all) (Some kind.0) (ident w (first_span kind.1)) (tail kind.1)
    else (if for_variables all then (declarators_at kind.1 >>= λ ds. Some (item.Variables (first_span all) kind.0 ds.0, ds.1)) else None)

unfoldable pub void_at : List Terminal → List Terminal → Read Item
void_at all ts = name_at ts >>= λ w. function_at (first_span all) None (ident w (first_span ts)) (tail ts)

unfoldable pub item_at : List Terminal → Read Item
item_at ts =
    if starts symbols.Enum ts then enum_at (first_span ts) (tail ts)
    else (if starts symbols.Void (past_before ts) then void_at ts (tail (past_before ts)) else typed_at ts (past_before ts))

abbrev pub after_item : List Terminal → Option (Item × List Terminal) → (List Terminal → List Item × List Terminal) → List Item × List Terminal
after_item ts None go = ([], ts)
after_item ts (Some x) go = let y = go x.1 in (x.0 ∷ y.0, y.1)

-- as many items as there are, and the tokens behind them
unfoldable pub items_at : ℕ → List Terminal → List Item × List Terminal
items_at zero ts = ([], ts)
items_at (suc n) ts = after_item ts (item_at ts) (items_at n)
