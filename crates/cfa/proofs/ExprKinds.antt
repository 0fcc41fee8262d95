-- The kinds and the values of expressions that meet the rules.
use Rattle.std.proofs.Common.{◌≡◌, ℕ, Bool, true, false, List, Option, Some, None, cond, refl, sym, ap, subst, ◌∙◌, rules, pos}
use Rattle.std.specs.Prelude.{Result, Ok, Err, IsTrue, ◌&&◌, ◌==◌, slice_index, ok_or}
use Rattle.std.specs.Option.{is_some}
use Rattle.std.proofs.lemmas.Bool.{eqb-true}
use Rattle.std.proofs.lemmas.Option.{same_Some}
use Rattle.c_values.specs.declared.kinds.Kind.{Kind}
use Rattle.c_values.specs.declared.operators.BinaryOp.{BinaryOp}
use Rattle.c_values.specs.declared.operators.UnaryOp.{UnaryOp}
use Rattle.c_values.specs.Kind.{IsValue, is_kind, is_value, number_of, converted, wrapped}
use Rattle.c_values.specs.Operations.{unary_kind, unary_value, binary_kind, binary_value, is_shift}
use Rattle.c_values.proofs.Consequences.{unary_values_are_values, binary_values_are_values}
use Rattle.c_values.proofs.Fitting.{and_left, and_right, IsValue-wrapped}
use Rattle.cfa.specs.declared.expr.CellPlace.{CellPlace, the_lemmas}
use Rattle.cfa.specs.declared.expr.CellPlace.TheOpen.{Expr-F}
use Rattle.cfa.specs.declared.expr.Expr.{Expr, roll-Expr, ind-Expr}
use Rattle.cfa.specs.declared.state.Frame.{Frame}
use Rattle.cfa.specs.declared.state.Trap.{Trap}
use Rattle.cfa.specs.Kinds.{same_kind, same_sign, kind_of}
use Rattle.cfa.specs.Rules.{Room, has_kind, right_fits, kind_if, checked_kind, place_fits}
use Rattle.cfa.specs.Values.{Valued, valued, cell_of, after_value, operator_outcome, operator_trap}

-- ---- kinds that are the same

same_sign_is : (a b : Bool) → IsTrue (same_sign a b) → a ≡ b
same_sign_is true true h = refl
same_sign_is true false h = absurd (cc)
same_sign_is false true h = absurd (cc)
same_sign_is false false h = refl

abbrev kind_made : ℕ → Bool → Kind
kind_made width signed = record { width = width; signed = signed }

same_kind_is : (a b : Kind) → IsTrue (same_kind a b) → a ≡ b
same_kind_is a b h =
    let width = eqb-true a.width b.width (and_left (a.width == b.width) (same_sign a.signed b.signed) h) in
    let signed = same_sign_is a.signed b.signed (and_right (a.width == b.width) (same_sign a.signed b.signed) h) in
    ap (λ n. kind_made n a.signed) width ∙ ap (kind_made b.width) signed

pub has_kind_is : (o : Option Kind) (kind : Kind) → IsTrue (has_kind o kind) → o ≡ Some kind
has_kind_is None kind h = absurd (cc)
has_kind_is (Some own) kind h = ap Some (same_kind_is own kind h)

-- what passed a test, and what it is
if_passed : (t : Bool) (kind k : Kind) → kind_if t kind ≡ Some k → IsTrue t
if_passed true kind k e = refl
if_passed false kind k e = absurd (cc)

if_same : (t : Bool) (kind k : Kind) → kind_if t kind ≡ Some k → kind ≡ k
if_same true kind k e = same_Some kind k e
if_same false kind k e = absurd (cc)

-- ---- what the rules give of an expression, beside its kind and what it comes to

pub record Agrees (checked : Option Kind) (own : Kind) (v : Valued) : Type 0 where
  pub kind : (k : Kind) → checked ≡ Some k → own ≡ k
  pub evaluated : (k : Kind) → checked ≡ Some k → v.kind ≡ k
  pub value : (k : Kind) (n : ℕ) → checked ≡ Some k → v.value ≡ Ok n → IsValue k n

-- a node whose kind is tested, from what it comes to where the test passes
tested : (t : Bool) (kind : Kind) (r : Result ℕ Trap) → (IsTrue t → (n : ℕ) → r ≡ Ok n → IsValue kind n) → Agrees (kind_if t kind) kind (record { kind = kind; value = r })
tested t kind r h = record {
  kind = if_same t kind;
  evaluated = if_same t kind;
  value = λ k n e f. subst (λ q. IsValue q n) (if_same t kind k e) (h (if_passed t kind k e) n f);
}

after_is : (r : Result ℕ Trap) (next : ℕ → Result ℕ Trap) (n : ℕ) → after_value r next ≡ Ok n → (a : ℕ) × (r ≡ Ok a) × (next a ≡ Ok n)
after_is (Ok a) next n e = (a, refl, e)
after_is (Err t) next n e = absurd (cc)

ok_is : (a n : ℕ) → (let r : Result ℕ Trap = Ok a in r) ≡ Ok n → a ≡ n
ok_is a n e = cc

constant_row : (n : ℕ) (kind : Kind) → Agrees (kind_if (is_value kind n) kind) kind (record { kind = kind; value = Ok n })
constant_row n kind = tested (is_value kind n) kind (Ok n) (λ t m e. subst (IsValue kind) (ok_is n m e) t)

load_row : (fits : Bool) (cells : List ℕ) (place : Result ℕ Trap) (kind : Kind) → Agrees (kind_if (fits && is_kind kind) kind) kind (record { kind = kind; value = after_value place (λ cell. Ok (wrapped kind (pos (slice_index cells cell)))) })
load_row fits cells place kind =
    tested (fits && is_kind kind) kind _ (λ t n e.
    let read = after_is place (λ cell. Ok (wrapped kind (pos (slice_index cells cell)))) n e in
    subst (IsValue kind) (ok_is _ n read.2) (IsValue-wrapped kind (pos (slice_index cells read.0)) (and_right fits (is_kind kind) t)))

convert_row : (o : Option Kind) (w : Valued) (kind : Kind) → Agrees (kind_if (is_some o && is_kind kind) kind) kind (record { kind = kind; value = after_value w.value (λ a. Ok (converted w.kind kind a)) })
unfolding converted
convert_row o w kind =
    tested (is_some o && is_kind kind) kind _ (λ t n e.
    let read = after_is w.value (λ a. Ok (converted w.kind kind a)) n e in
    subst (IsValue kind) (ok_is _ n read.2) (IsValue-wrapped kind (number_of w.kind read.0) (and_right (is_some o) (is_kind kind) t)))

unary_row : (op : UnaryOp) (o : Option Kind) (own : Kind) (w : Valued) (kind : Kind) → Agrees o own w → Agrees (kind_if (has_kind o kind) (unary_kind op kind)) (unary_kind op kind) (record { kind = unary_kind op kind; value = after_value w.value (λ a. Ok (unary_value op kind a)) })
unary_row op o own w kind part =
    tested (has_kind o kind) (unary_kind op kind) _ (λ t n e.
    let read = after_is w.value (λ a. Ok (unary_value op kind a)) n e in
    let operand = part.value kind read.0 (has_kind_is o kind t) read.1 in
    subst (IsValue (unary_kind op kind)) (ok_is _ n read.2) (unary_values_are_values op kind read.0 operand))

-- the right operand has some kind, which is that of the left one unless the operator shifts
right_is : (op : BinaryOp) (o : Option Kind) (kind : Kind) → IsTrue (right_fits op o kind) → (k : Kind) × (o ≡ Some k) × (is_shift op ≡ false → k ≡ kind)
right_is op o kind h = by (is_shift op) o h
  where
    by : (s : Bool) (o : Option Kind) → IsTrue (cond s (is_some o) (has_kind o kind)) → (k : Kind) × (o ≡ Some k) × (s ≡ false → k ≡ kind)
    by true None h = absurd (cc)
    by true (Some k) h = (k, refl, λ e. absurd (cc))
    by false o h = (kind, has_kind_is o kind h, λ e. refl)

outcome_is : (o : Option ℕ) (t : Trap) (n : ℕ) → ok_or o t ≡ Ok n → o ≡ Some n
outcome_is (Some m) t n e = cc
outcome_is None t n e = absurd (cc)

binary_row : (op : BinaryOp) (cells : List ℕ) (frame : Frame) (o p : Option Kind) (left_own right_own : Kind) (left right : Valued) (kind : Kind) → Agrees o left_own left → Agrees p right_own right → Agrees (kind_if (has_kind o kind && right_fits op p kind) (binary_kind op kind)) (binary_kind op kind) (record { kind = binary_kind op kind; value = after_value left.value (λ a. after_value right.value (λ b. operator_outcome cells frame op kind right.kind a b)) })
binary_row op cells frame o p left_own right_own left right kind first second =
    tested (has_kind o kind && right_fits op p kind) (binary_kind op kind) _ (λ t n e.
    let read = after_is left.value (λ a. after_value right.value (λ b. operator_outcome cells frame op kind right.kind a b)) n e in
    let next = after_is right.value (λ b. operator_outcome cells frame op kind right.kind read.0 b) n read.2 in
    let a_value = first.value kind read.0 (has_kind_is o kind (and_left (has_kind o kind) (right_fits op p kind) t)) read.1 in
    let other = right_is op p kind (and_right (has_kind o kind) (right_fits op p kind) t) in
    let b_kind = second.evaluated other.0 other.1 in
    let b_value = subst (λ q. IsValue q next.0) (sym b_kind) (second.value other.0 next.0 other.1 next.1) in
    binary_values_are_values op kind right.kind read.0 next.0 n a_value b_value (λ s. b_kind ∙ other.2 s) (outcome_is (binary_value op kind right.kind read.0 next.0) (operator_trap op kind next.0) n next.2))

-- ---- all expressions

module _ (room : Room) (cells : List ℕ) (frame : Frame) where
  abbrev Known : Expr → Type 0
  Known e = Agrees (checked_kind room e) (kind_of e) (valued cells frame e)

  abbrev Any : CellPlace → Type 0
  Any place = Unit {0}

  known_as : (e : Expr) (o : Option Kind) (k : Kind) (v : Valued) → checked_kind room e ≡ o → kind_of e ≡ k → valued cells frame e ≡ v → Agrees o k v → Known e
  known_as e o k v a b c h = subst (λ q. Agrees q (kind_of e) (valued cells frame e)) (sym a) (subst (λ q. Agrees o q (valued cells frame e)) (sym b) (subst (Agrees o k) (sym c) h))

  constant_at : (n : ℕ) (kind : Kind) → Known (roll-Expr (Expr-F.Constant n kind))
  unfolding checked_kind valued
  constant_at n kind = known_as _ _ _ _ (search (rules, the_lemmas)) (search (rules, the_lemmas)) (search (rules, the_lemmas)) (constant_row n kind)

  load_at : (place : CellPlace) (kind : Kind) → Known (roll-Expr (Expr-F.Load place kind))
  unfolding checked_kind place_fits valued cell_of
  load_at place kind = known_as _ _ _ _ (search (rules, the_lemmas)) (search (rules, the_lemmas)) (search (rules, the_lemmas)) (load_row (place_fits room place) cells (cell_of cells frame place) kind)

  convert_at : (a : Expr) (kind : Kind) → Known (roll-Expr (Expr-F.Convert a kind))
  unfolding checked_kind valued
  convert_at a kind = known_as _ _ _ _ (search (rules, the_lemmas)) (search (rules, the_lemmas)) (search (rules, the_lemmas)) (convert_row (checked_kind room a) (valued cells frame a) kind)

  unary_at : (op : UnaryOp) (a : Expr) (kind : Kind) → Known a → Known (roll-Expr (Expr-F.Unary op a kind))
  unfolding checked_kind valued
  unary_at op a kind h = known_as _ _ _ _ (search (rules, the_lemmas)) (search (rules, the_lemmas)) (search (rules, the_lemmas)) (unary_row op (checked_kind room a) (kind_of a) (valued cells frame a) kind h)

  binary_at : (op : BinaryOp) (a b : Expr) (kind : Kind) → Known a → Known b → Known (roll-Expr (Expr-F.Binary op a b kind))
  unfolding checked_kind valued
  binary_at op a b kind h k = known_as _ _ _ _ (search (rules, the_lemmas)) (search (rules, the_lemmas)) (search (rules, the_lemmas)) (binary_row op cells frame (checked_kind room a) (checked_kind room b) (kind_of a) (kind_of b) (valued cells frame a) (valued cells frame b) kind h k)

  pub agrees : (e : Expr) → Known e
  agrees e = ind-Expr Any Known (λ x y q. tt) (λ x. elim [
    | Expr-F.Constant n kind ↦ λ q. subst (λ z. Known (roll-Expr z)) q (constant_at n kind)
    | Expr-F.Load place kind ↦ λ q. subst (λ z. Known (roll-Expr z)) q (load_at _ kind)
    | Expr-F.Convert a kind ↦ λ q. subst (λ z. Known (roll-Expr z)) q (convert_at a.0 kind)
    | Expr-F.Unary op a kind ↦ λ q. subst (λ z. Known (roll-Expr z)) q (unary_at op a.0 kind a.1)
    | Expr-F.Binary op a b kind ↦ λ q. subst (λ z. Known (roll-Expr z)) q (binary_at op a.0 b.0 kind a.1 b.1)
  ]) e
