-- What is computed of the parts of an expression or place that meets the rules is what the whole comes to.
use Rattle.std.proofs.Common.{◌≡◌, ℕ, List, sym, ap, ◌∙◌, pos}
use Rattle.std.specs.Prelude.{Result, Ok, IsTrue, slice_index, ok_or}
use Rattle.c_values.specs.declared.kinds.Kind.{Kind}
use Rattle.c_values.specs.declared.operators.BinaryOp.{BinaryOp}
use Rattle.c_values.specs.declared.operators.UnaryOp.{UnaryOp}
use Rattle.c_values.specs.Kind.{converted, wrapped}
use Rattle.c_values.specs.Operations.{unary_value, binary_value}
use Rattle.cfa.specs.declared.expr.ArrayPlace.{ArrayPlace}
use Rattle.cfa.specs.declared.expr.CellPlace.{CellPlace}
use Rattle.cfa.specs.declared.expr.CellPlace.TheVariants as place
use Rattle.cfa.specs.declared.expr.Expr.{Expr}
use Rattle.cfa.specs.declared.expr.Expr.TheVariants as expr
use Rattle.cfa.specs.declared.state.Frame.{Frame}
use Rattle.cfa.specs.declared.state.Trap.{Trap}
use Rattle.cfa.specs.Kinds.{kind_of}
use Rattle.cfa.specs.Rules.{Room, expr_fits, place_fits}
use Rattle.cfa.specs.Values.{after_value, element_at, value_of, cell_of, operator_trap}
use Rattle.cfa.proofs.ExprRules.{load_value, convert_value, unary_step, binary_comes, element_cell}

module _ (room : Room) (cells : List ℕ) (frame : Frame) where
  pub load_made : (p : CellPlace) (kind : Kind) (c r : Result ℕ Trap) → c ≡ cell_of cells frame p → r ≡ after_value c (λ n. Ok (wrapped kind (pos (slice_index cells n)))) → r ≡ value_of cells frame (expr.Load p kind)
  load_made p kind c r part is = is ∙ ap (λ q. after_value q (λ n. Ok (wrapped kind (pos (slice_index cells n))))) part ∙ sym (load_value room cells frame p kind)

  pub convert_made : (a : Expr) (kind own : Kind) (v r : Result ℕ Trap) → IsTrue (expr_fits room (expr.Convert a kind)) → v ≡ value_of cells frame a → own ≡ kind_of a → r ≡ after_value v (λ n. Ok (converted own kind n)) → r ≡ value_of cells frame (expr.Convert a kind)
  convert_made a kind own v r h part same is =
      is ∙ ap (λ q. after_value q (λ n. Ok (converted own kind n))) part ∙ ap (λ k. after_value (value_of cells frame a) (λ n. Ok (converted k kind n))) same
      ∙ sym (convert_value room cells frame a kind h)

  pub unary_made : (op : UnaryOp) (a : Expr) (kind : Kind) (v r : Result ℕ Trap) → v ≡ value_of cells frame a → r ≡ after_value v (λ n. Ok (unary_value op kind n)) → r ≡ value_of cells frame (expr.Unary op a kind)
  unary_made op a kind v r part is = is ∙ ap (λ q. after_value q (λ n. Ok (unary_value op kind n))) part ∙ sym (unary_step room cells frame op a kind)

  pub binary_made : (op : BinaryOp) (a b : Expr) (kind own : Kind) (v w r : Result ℕ Trap) → IsTrue (expr_fits room (expr.Binary op a b kind)) → v ≡ value_of cells frame a → w ≡ value_of cells frame b → own ≡ kind_of b → r ≡ after_value v (λ n. after_value w (λ m. ok_or (binary_value op kind own n m) (operator_trap op kind m))) → r ≡ value_of cells frame (expr.Binary op a b kind)
  binary_made op a b kind own v w r h first second same is =
      is ∙ ap (λ q. after_value q (λ n. after_value w (λ m. ok_or (binary_value op kind own n m) (operator_trap op kind m)))) first
      ∙ ap (λ q. after_value (value_of cells frame a) (λ n. after_value q (λ m. ok_or (binary_value op kind own n m) (operator_trap op kind m)))) second
      ∙ ap (λ k. after_value (value_of cells frame a) (λ n. after_value (value_of cells frame b) (λ m. ok_or (binary_value op kind k n m) (operator_trap op kind m)))) same
      ∙ sym (binary_comes room cells frame op a b kind h)

  pub element_made : (a : ArrayPlace) (i : Expr) (n : ℕ) (own : Kind) (v r : Result ℕ Trap) → IsTrue (place_fits room (place.Element a i n)) → v ≡ value_of cells frame i → own ≡ kind_of i → r ≡ after_value v (λ m. element_at cells frame a n own m) → r ≡ cell_of cells frame (place.Element a i n)
  element_made a i n own v r h part same is =
      is ∙ ap (λ q. after_value q (λ m. element_at cells frame a n own m)) part ∙ ap (λ k. after_value (value_of cells frame i) (λ m. element_at cells frame a n k m)) same
      ∙ sym (element_cell room cells frame a i n h)
