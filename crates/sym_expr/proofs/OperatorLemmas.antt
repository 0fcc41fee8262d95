-- Operators on words that may have no value.
use Rattle.std.proofs.Common.{◌≡◌, ℕ, ◌*◌, ◌≤◌, ◌&&◌, cond, List, Option, Some, None, ap, ◌∙◌, arith}
use Rattle.std.specs.Prelude.{All, option_and_then}
use Rattle.circuit.specs.Truth.{World}
use Rattle.circuit.specs.Wires.{IsWire, lit_holds}
use Rattle.circuit.specs.declared.lit.Lit.{Lit}
use Rattle.circuit.specs.declared.lit.Gate.{Gate}
use Rattle.c_values.specs.declared.kinds.Kind.{Kind}
use Rattle.c_values.specs.declared.operators.BinaryOp.{BinaryOp}
use Rattle.c_values.specs.declared.operators.BinaryOp.TheVariants.{Add, Sub, Mul, Div, Rem, Shl, Shr, And, Or, Xor, Less, LessEqual, Greater, GreaterEqual, Equal, NotEqual}
use Rattle.c_values.specs.Kind.{IsKind}
use Rattle.c_values.proofs.Fitting.{by_width}
use Rattle.bit_words.specs.Words.{Grows, word_value}
use Rattle.bit_words.proofs.Steps.{grows_then, same}
use Rattle.bit_words.proofs.Values.{word_value-later}
use Rattle.sym_expr.specs.Stores.{outcome_in}
use Rattle.sym_expr.specs.Weights.{binary_weight}
use Rattle.sym_expr.proofs.OutcomeLemmas.{three_given}

bitwise_some : (kind : Kind) → IsKind kind → 32 ≤ 4 * kind.width
bitwise_some kind k = by_width (λ w. 32 ≤ 4 * w) (omega arith) (omega arith) (omega arith) (omega arith) kind.width k

product_some : (kind : Kind) → IsKind kind → 32 ≤ 8 * (kind.width * kind.width)
product_some kind k = by_width (λ w. 32 ≤ 8 * (w * w)) (omega arith) (omega arith) (omega arith) (omega arith) kind.width k

-- what an operator weighs is more than the gates that join its literals
pub weight_some : (op : BinaryOp) (kind : Kind) → IsKind kind → 32 ≤ binary_weight op kind.width
weight_some Add kind k = omega (arith, bitwise_some kind k)
weight_some Sub kind k = omega (arith, bitwise_some kind k)
weight_some Mul kind k = product_some kind k
weight_some Div kind k = omega (arith, product_some kind k)
weight_some Rem kind k = omega (arith, product_some kind k)
weight_some Shl kind k = omega (arith, bitwise_some kind k)
weight_some Shr kind k = omega (arith, bitwise_some kind k)
weight_some And kind k = bitwise_some kind k
weight_some Or kind k = bitwise_some kind k
weight_some Xor kind k = bitwise_some kind k
weight_some Less kind k = omega (arith, bitwise_some kind k)
weight_some LessEqual kind k = omega (arith, bitwise_some kind k)
weight_some Greater kind k = omega (arith, bitwise_some kind k)
weight_some GreaterEqual kind k = omega (arith, bitwise_some kind k)
weight_some Equal kind k = omega (arith, bitwise_some kind k)
weight_some NotEqual kind k = omega (arith, bitwise_some kind k)

-- the literals of two operands and of their operation, joined
pub operated_value : {g0 g1 g2 g3 : List Gate} {m n k : ℕ} (first second : List Lit × Lit) (word : List Lit) (named operands fine : Lit) (f : ℕ → ℕ → Option ℕ) (w : World) → Grows g0 g1 m → Grows g1 g2 n → Grows g2 g3 k
    → IsWire g0 first.1 → IsWire g0 second.1 → All (IsWire g1) word → IsWire g1 named
    → outcome_in g1 (word, named) w ≡ f (word_value g0 first.0 w) (word_value g0 second.0 w)
    → lit_holds g2 operands w ≡ (lit_holds g1 first.1 w && lit_holds g1 second.1 w)
    → lit_holds g3 fine w ≡ (lit_holds g2 operands w && lit_holds g2 named w)
    → outcome_in g3 (word, fine) w ≡ option_and_then (λ a. option_and_then (λ b. f a b) (outcome_in g0 second w)) (outcome_in g0 first w)
operated_value {g0} {g1} {g2} {g3} first second word named operands fine f w grow then last fw sw wires nw is joined all =
    let p = lit_holds g0 first.1 w in
    let q = lit_holds g0 second.1 w in
    let n = lit_holds g1 named w in
    let held : lit_holds g3 fine w ≡ ((p && q) && n) =
    all ∙ ap (λ b. b && lit_holds g2 named w) (joined ∙ ap (λ b. b && lit_holds g1 second.1 w) (same grow first.1 fw w) ∙ ap (λ b. p && b) (same grow second.1 sw w))
    ∙ ap (λ b. (p && q) && b) (same then named nw w) in
    ap (λ t. cond t (Some (word_value g3 word w)) None) held
    ∙ ap (λ v. cond ((p && q) && n) (Some v) None) (word_value-later (grows_then then last) word wires w)
    ∙ three_given p q n (word_value g0 first.0 w) (word_value g0 second.0 w) (word_value g1 word w) f is
