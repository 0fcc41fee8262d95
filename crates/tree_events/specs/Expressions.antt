-- What happens as expressions are evaluated and conditions are decided (ISO/IEC 9899:2011, 6.5). Values, and the order of
-- evaluation, are those of tree_meaning. The operands of operators, conversions and places have no event of their own: only
-- outermost calls, `&&`, `||` and `?:` do something.
use Rattle.std.specs.Prelude.{ℕ, ◌+◌, Bool, true, false, not, if◌then◌else◌, List, [], ◌∷◌, ◌++◌, drop, Option, Some, None, Ok, slice_index}
use Rattle.fq_core.specs.declared.span.Span.{Span}
use Rattle.c_values.specs.Kind.{converted}
use Rattle.c_values.specs.Operations.{unary_value}
use Rattle.c_values.specs.declared.kinds.Kind.{Kind}
use Rattle.c_values.specs.declared.operators.BinaryOp.{BinaryOp}
use Rattle.c_values.specs.declared.operators.UnaryOp.{UnaryOp}
use Rattle.c_values.specs.declared.operators.UnaryOp.TheVariants as unary
use Rattle.cfa.specs.Values.{after_value}
use Rattle.cfa.specs.declared.parts.Variable.{Variable}
use Rattle.tree_events.specs.declared.edge_events.event.What.TheVariants.{Outcome, Valued}
use Rattle.tree_meaning.specs.Outcomes.{Store, is_true}
use Rattle.tree_meaning.specs.declared.activation.Activation.{Activation}
use Rattle.tree_meaning.specs.Activations.{start_of, element_at, as_kind, read}
use Rattle.tree_meaning.specs.Expressions.{Rest, operated, truth}
use Rattle.tree_events.specs.Outcomes.{Told, gives, behind, ◌thence◌, unless_trap, Evaluation, Deciding, At, happens, happens_at}

-- what the outermost calls, `&&`, `||` and `?:` do: each puts its value behind those that are there
abbrev pub First : Type 0
First = List ℕ → Store → Told (List ℕ)

-- An expression: its kind, how many outermost calls, `&&`, `||` and `?:` it has, what they do, and the rest; and what is done to
-- decide whether it is true, by whether it settles the decision around it where it is, and where it isn't.
pub record Telling : Type 0 where
  pub kind : Kind
  pub parts : ℕ
  pub first : First
  pub rest : Rest
  pub decide : Bool → Bool → Deciding

-- the whole evaluation, of a first part and the rest
abbrev pub evaluated : First → Rest → Evaluation
evaluated first rest s = first [] s thence λ vs s'. unless_trap (rest vs s'.cells) (λ v. gives v s')

abbrev pub evaluate : Telling → Evaluation
evaluate m = evaluated m.first m.rest

-- ---- deciding (6.5.3.3p5, 6.5.13, 6.5.14, 6.8.4.1p2)

-- whether a truth settles
abbrev pub settles : Bool → Bool → Bool → Bool
settles if_true if_false truth = if truth then if_true else if_false

-- an innermost condition is evaluated, and is true where its value isn't 0
abbrev pub decide_value : At → Span → Evaluation → Bool → Bool → Deciding
decide_value at span does if_true if_false s =
    does s thence λ v s'. behind (happens_at at span (Outcome (is_true v) (settles if_true if_false (is_true v)))) (gives (is_true v) s')

-- `!`: its operand's truth settles as its own, which is the other one
abbrev pub decide_not : (Bool → Bool → Deciding) → Bool → Bool → Deciding
decide_not x if_true if_false s = x if_false if_true s thence λ b s'. gives (not b) s'

abbrev pub where_true : Deciding → Bool → Deciding
where_true y true s = y s
where_true y false s = gives false s

-- `&&`: the second operand is decided where the first is true, which settles nothing
abbrev pub decide_both : (Bool → Bool → Deciding) → (Bool → Bool → Deciding) → Bool → Bool → Deciding
decide_both x y if_true if_false s = x false if_false s thence where_true (y if_true if_false)

abbrev pub where_false : Deciding → Bool → Deciding
where_false y true s = gives true s
where_false y false s = y s

-- `||`: the second operand is decided where the first isn't true, which settles nothing
abbrev pub decide_either : (Bool → Bool → Deciding) → (Bool → Bool → Deciding) → Bool → Bool → Deciding
decide_either x y if_true if_false s = x if_true false s thence where_false (y if_true if_false)

-- ---- what does nothing by itself

abbrev pub no_parts : First
no_parts vs s = gives vs s

abbrev pub both_parts : First → First → First
both_parts left right vs s = left vs s thence right

-- ---- places: a variable, or an element of an array by its index (6.5.2.1)

pub record Placing : Type 0 where
  pub variable : Variable
  pub parts : ℕ
  pub first : First
  pub cell : Rest

abbrev pub placed_at : Activation → Variable → Option Telling → Placing
placed_at a v None = record { variable = v; parts = 0; first = no_parts; cell = λ vs cells. Ok (start_of a v.place) }
placed_at a v (Some index) = record { variable = v; parts = index.parts; first = index.first; cell = λ vs cells. after_value (index.rest vs cells) (λ i. element_at a v index.kind i) }

-- ---- `&&`, `||`, `?:` and calls as values: each is an outermost part of its own

-- what does something for a value
abbrev pub part_first : Evaluation → First
part_first does vs s = does s thence λ v s'. gives (vs ++ v ∷ []) s'

abbrev pub part_rest : Kind → Rest
part_rest kind vs cells = Ok (as_kind kind (slice_index vs 0))

-- what has been decided is 1 or 0
abbrev pub decided : At → Deciding → Evaluation
decided at does s = does s thence λ b s'. behind (happens at Valued) (gives (truth b) s')

abbrev pub one_of : Evaluation → Evaluation → Bool → Evaluation
one_of second third true s = second s
one_of second third false s = third s

-- only the second or only the third is evaluated (6.5.15p4)
abbrev pub choice_does : At → Deciding → Evaluation → Evaluation → Evaluation
choice_does at test second third s = (test s thence one_of second third) thence λ v s'. behind (happens at Valued) (gives v s')

-- In the statement at hand: an expression with its first token that isn't split, so that it is an innermost condition.
module _ (at : At) (span : Span) (kind : Kind) where
  abbrev pub unsplit : ℕ → First → Rest → Telling
  unsplit parts first rest = record { kind = kind; parts = parts; first = first; rest = rest; decide = decide_value at span (evaluated first rest) }

  abbrev pub constant_told : ℕ → Telling
  constant_told v = unsplit 0 no_parts (λ vs cells. Ok v)

  abbrev pub convert_told : Telling → Telling
  convert_told x = unsplit x.parts x.first (λ vs cells. after_value (x.rest vs cells) (λ v. Ok (converted x.kind kind v)))

  abbrev pub load_told : Placing → Telling
  load_told p = unsplit p.parts p.first (λ vs cells. after_value (p.cell vs cells) (λ cell. Ok (read cells kind cell)))

  abbrev pub operator_rest : UnaryOp → Telling → Rest
  operator_rest op x vs cells = after_value (x.rest vs cells) (λ v. Ok (unary_value op x.kind v))

  -- `!x` is an operator as a value, and is split as a condition
  abbrev pub operator_decides : UnaryOp → Telling → Bool → Bool → Deciding
  operator_decides unary.Not x = decide_not x.decide
  operator_decides unary.Neg x = decide_value at span (evaluated x.first (operator_rest unary.Neg x))
  operator_decides unary.Complement x = decide_value at span (evaluated x.first (operator_rest unary.Complement x))

  abbrev pub unary_told : UnaryOp → Telling → Telling
  unary_told op x = record { kind = kind; parts = x.parts; first = x.first; rest = operator_rest op x; decide = operator_decides op x }

  abbrev pub binary_told : BinaryOp → Telling → Telling → Telling
  binary_told op x y =
      unsplit (x.parts + y.parts) (both_parts x.first y.first)
      (λ vs cells. after_value (x.rest vs cells) (λ v. after_value (y.rest (drop x.parts vs) cells) (λ w. operated op x.kind y.kind v w)))

  -- `&&` or `||`, by how it is decided
  abbrev pub split_told : (Bool → Bool → Deciding) → Telling
  split_told decide = record { kind = kind; parts = 1; first = part_first (decided at (decide true true)); rest = part_rest kind; decide = decide }

  abbrev pub part_told : Evaluation → Telling
  part_told does = unsplit 1 (part_first does) (part_rest kind)
