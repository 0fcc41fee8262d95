-- What expressions do and which values they have (ISO/IEC 9899:2011, 6.5). An expression is evaluated in two parts: first
-- its outermost calls, `&&`, `||` and `?:`, from left to right; then the rest, which does nothing by itself, has its value
-- with theirs in their places.
use Rattle.std.specs.Prelude.{ℕ, ◌+◌, Bool, true, false, List, [], ◌∷◌, ◌++◌, drop, Option, Some, None, Result, Ok, slice_index}
use Rattle.c_values.specs.Kind.{converted}
use Rattle.c_values.specs.Operations.{unary_value, binary_value}
use Rattle.c_values.specs.declared.kinds.Kind.{Kind}
use Rattle.c_values.specs.declared.operators.BinaryOp.{BinaryOp}
use Rattle.c_values.specs.declared.operators.UnaryOp.{UnaryOp}
use Rattle.cfa.specs.Values.{after_value, operator_trap}
use Rattle.cfa.specs.declared.parts.Variable.{Variable}
use Rattle.cfa.specs.declared.state.Trap.{Trap}
use Rattle.std.specs.Prelude.{ok_or}
use Rattle.tree_meaning.specs.Outcomes.{Store, Done, Gives, ◌andthen◌, unless_trap, Evaluation, is_true}
use Rattle.tree_meaning.specs.declared.activation.Activation.{Activation}
use Rattle.tree_meaning.specs.Activations.{start_of, element_at, as_kind, read}

-- what the outermost calls, `&&`, `||` and `?:` do: each puts its value behind those that are there
abbrev pub First : Type 0
First = List ℕ → Store → Done (List ℕ)

-- A value by theirs, which stand first in a list, and by what the cells hold; or the trap that ends the evaluation.
abbrev pub Rest : Type 0
Rest = List ℕ → List ℕ → Result ℕ Trap

-- an expression's kind, how many outermost calls, `&&`, `||` and `?:` it has, what they do, and the rest
pub record Meant : Type 0 where
  pub kind : Kind
  pub parts : ℕ
  pub first : First
  pub rest : Rest

-- the whole evaluation
abbrev pub evaluate : Meant → Evaluation
evaluate m s = m.first [] s andthen λ vs s'. unless_trap (m.rest vs s'.cells) (λ v. Gives v s')

-- nothing is done first
abbrev pub no_parts : First
no_parts vs s = Gives vs s

-- one thing after another
abbrev pub both_parts : First → First → First
both_parts left right vs s = left vs s andthen right

-- ---- primary expressions and conversions (6.5.1, 6.3.1.3)

abbrev pub constant_meant : ℕ → Kind → Meant
constant_meant v kind = record { kind = kind; parts = 0; first = no_parts; rest = λ vs cells. Ok v }

abbrev pub convert_meant : Meant → Kind → Meant
convert_meant x kind = record { kind = kind; parts = x.parts; first = x.first; rest = λ vs cells. after_value (x.rest vs cells) (λ v. Ok (converted x.kind kind v)) }

-- ---- places: a variable, or an element of an array by its index (6.5.2.1)

-- how many outermost calls, `&&`, `||` and `?:` the index has, what they do, and the place of the cell
pub record Placed : Type 0 where
  pub variable : Variable
  pub parts : ℕ
  pub first : First
  pub cell : Rest

abbrev pub placed_at : Activation → Variable → Option Meant → Placed
placed_at a v None = record { variable = v; parts = 0; first = no_parts; cell = λ vs cells. Ok (start_of a v.place) }
placed_at a v (Some index) = record { variable = v; parts = index.parts; first = index.first; cell = λ vs cells. after_value (index.rest vs cells) (λ i. element_at a v index.kind i) }

abbrev pub load_meant : Placed → Kind → Meant
load_meant p kind = record { kind = kind; parts = p.parts; first = p.first; rest = λ vs cells. after_value (p.cell vs cells) (λ cell. Ok (read cells kind cell)) }

-- ---- operators (6.5.3, 6.5.5 to 6.5.12): operands have their values from left to right, and the first trap ends all

abbrev pub operated : BinaryOp → Kind → Kind → ℕ → ℕ → Result ℕ Trap
operated op kind right_kind left right = ok_or (binary_value op kind right_kind left right) (operator_trap op kind right)

abbrev pub unary_meant : UnaryOp → Meant → Kind → Meant
unary_meant op x kind = record { kind = kind; parts = x.parts; first = x.first; rest = λ vs cells. after_value (x.rest vs cells) (λ v. Ok (unary_value op x.kind v)) }

abbrev pub binary_meant : BinaryOp → Meant → Meant → Kind → Meant
binary_meant op x y kind = record {
  kind = kind;
  parts = x.parts + y.parts;
  first = both_parts x.first y.first;
  rest = λ vs cells. after_value (x.rest vs cells) (λ v. after_value (y.rest (drop x.parts vs) cells) (λ w. operated op x.kind y.kind v w));
}

-- ---- `&&`, `||`, `?:` and calls: each is an outermost part of its own

-- what does something for a value, of a kind
abbrev pub part_meant : Evaluation → Kind → Meant
part_meant does kind = record { kind = kind; parts = 1; first = λ vs s. does s andthen λ v s'. Gives (vs ++ v ∷ []) s'; rest = λ vs cells. Ok (as_kind kind (slice_index vs 0)) }

abbrev pub truth : Bool → ℕ
truth true = 1
truth false = 0

-- 1 where both are other than 0; the second isn't evaluated where the first is 0 (6.5.13p3, p4)
abbrev pub if_true : Evaluation → Bool → Store → Done ℕ
if_true right true s = right s andthen λ v s'. Gives (truth (is_true v)) s'
if_true right false s = Gives 0 s

abbrev pub both_does : Evaluation → Evaluation → Evaluation
both_does left right s = left s andthen λ v s'. if_true right (is_true v) s'

-- 1 where one is other than 0; the second isn't evaluated where the first is other than 0 (6.5.14p3, p4)
abbrev pub if_false : Evaluation → Bool → Store → Done ℕ
if_false right true s = Gives 1 s
if_false right false s = right s andthen λ v s'. Gives (truth (is_true v)) s'

abbrev pub either_does : Evaluation → Evaluation → Evaluation
either_does left right s = left s andthen λ v s'. if_false right (is_true v) s'

-- only the second or only the third is evaluated (6.5.15p4)
abbrev pub chosen : Evaluation → Evaluation → Bool → Store → Done ℕ
chosen second third true s = second s
chosen second third false s = third s

abbrev pub choice_does : Evaluation → Evaluation → Evaluation → Evaluation
choice_does test second third s = test s andthen λ v s'. chosen second third (is_true v) s'
