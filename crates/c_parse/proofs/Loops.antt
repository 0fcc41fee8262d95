-- Loops of the parser.
use Rattle.std.proofs.Common.{◌≡◌, ℕ, zero, suc, ◌+◌, ◌-◌, ◌≤◌, ◌<◌, true, false, leb, add-one, List, [], ◌∷◌, ◌++◌, length, Some, None, refl, sym, ap, ◌∙◌, append_assoc, arith}
use Rattle.std.proofs.lemmas.Bool.{le-leb}
use Rattle.c_parse.specs.declared.sign.Terminal.{Terminal}
use Rattle.c_parse.specs.declared.sign.Symbol.TheVariants as symbols
use Rattle.c_parse.specs.declared.stop.Stop.{Stop}
use Rattle.c_parse.specs.declared.stop.Stop.TheVariants.{Memory, Syntax}
use Rattle.c_parse.specs.declared.operator.Infix.{Infix}
use Rattle.c_parse.specs.declared.expr.ExprTree.{ExprTree}
use Rattle.fq_core.specs.declared.span.Span.{Span}
use Rattle.c_parse.specs.Gives.{Fails}
use Rattle.c_parse.specs.Trees.{tree, joined, level}
use Rattle.c_parse.specs.Grammar.{first_span}
use Rattle.c_parse.specs.Reading.{Read, Reader, ◌>>=◌, starts, tail, expect, infix_at, arguments_at, operand_at, operators_at, level_by, expr_in}
use Rattle.c_parse.proofs.Steps.{Stops}
use Rattle.c_parse.proofs.Again.{operators_end}

-- what was read before, and what is still read
abbrev pub with_front : {A : Type 0} → List A → Read (List A) → Read (List A)
with_front front read = read >>= λ x. Some (front ++ x.0, x.1)

pub with_no_front : {A : Type 0} (read : Read (List A)) → with_front [] read ≡ read
with_no_front None = refl
with_no_front (Some x) = refl

-- an operand at a level is an operand, and the operators behind it
pub operand_read : (k : ℕ) (ts : List Terminal) (t : ExprTree) (rest : List Terminal) → operand_at expr_in ts ≡ Some (t, rest) → operators_at expr_in (length rest) k (first_span ts) t rest ≡ level_by expr_in k ts
unfolding level_by
operand_read k ts t rest e = rw e refl

-- The n of a loop is a bound on what is still read; it is at least the number of the tokens that are left.
module _ (r : Reader) (list : List ExprTree) (n : ℕ) (rest : List Terminal) (total : Read (List ExprTree)) (so_far : with_front list (arguments_at r n rest) ≡ total) where
  none_is : arguments_at r n rest ≡ None → total ≡ None
  none_is e = sym so_far ∙ ap (λ (o : Read (List ExprTree)). with_front list o) e

  pub argument_fails : (e : Stop) → Fails e (r 0 rest) → Fails e total
  unfolding arguments_at
  argument_fails Memory h = tt
  argument_fails Syntax h = none_is (at n)
    where
      at : (m : ℕ) → arguments_at r m rest ≡ None
      at zero = refl
      at (suc m) = rw h refl

  pub close_fails : (e : Stop) (a : ExprTree) (after : List Terminal) → r 0 rest ≡ Some (a, after) → starts symbols.Comma after ≡ false → Fails e (expect symbols.Close after) → Fails e total
  unfolding arguments_at
  close_fails Memory a after h comma c = tt
  close_fails Syntax a after h comma c = none_is (at n)
    where
      at : (m : ℕ) → arguments_at r m rest ≡ None
      at zero = refl
      at (suc m) = rw (h, comma, c) refl

  pub arguments_end : (a : ExprTree) (after behind : List Terminal) → 0 < n → r 0 rest ≡ Some (a, after) → starts symbols.Comma after ≡ false → expect symbols.Close after ≡ Some behind → total ≡ Some ((list ++ a ∷ []), behind)
  unfolding arguments_at
  arguments_end a after behind lt h comma c = let k : n ≡ suc (n - 1) = omega arith in sym so_far ∙ rw (k, h, comma, c) refl

  pub arguments_go_on : (a : ExprTree) (after : List Terminal) → 0 < n → r 0 rest ≡ Some (a, after) → starts symbols.Comma after ≡ true → with_front (list ++ a ∷ []) (arguments_at r (n - 1) (tail after)) ≡ total
  unfolding arguments_at
  arguments_go_on a after lt h comma =
      let k : n ≡ suc (n - 1) = omega arith in
      let one : with_front list (arguments_at r n rest) ≡ with_front (list ++ a ∷ []) (arguments_at r (n - 1) (tail after)) = ap (λ (m : ℕ). with_front list (arguments_at r m rest)) k ∙ rw (h, comma) (regroup list a (arguments_at r (n - 1) (tail after))) in
      sym one ∙ so_far
    where
      regroup : (list : List ExprTree) (a : ExprTree) (read : Read (List ExprTree)) → with_front list (read >>= λ x. Some (a ∷ x.0, x.1)) ≡ with_front (list ++ a ∷ []) read
      regroup list a None = refl
      regroup list a (Some x) = ap (λ (ts : List ExprTree). Some (ts, x.1)) (sym (append_assoc list (a ∷ []) x.0))

module _ (r : Reader) (n k : ℕ) (p : Span) (t : ExprTree) (rest : List Terminal) (total : Read ExprTree) (enough : length rest ≤ n) (so_far : operators_at r n k p t rest ≡ total) where
  -- an operator in front is a token
  bound_left : (op : Infix) → Some op ≡ infix_at rest → n ≡ suc (n - 1)
  bound_left op o = at rest enough o
    where
      at : (ts : List Terminal) → length ts ≤ n → Some op ≡ infix_at ts → n ≡ suc (n - 1)
      at [] le e = absurd cc
      at (u ∷ us) le e = omega arith

  pub operand_fails : (e : Stop) (op : Infix) → Some op ≡ infix_at rest → k ≤ level op → Fails e (r (level op + 1) (tail rest)) → Fails e total
  unfolding operators_at
  operand_fails Memory op o le h = tt
  operand_fails Syntax op o le h =
      let at : leb k (level op) ≡ true = le-leb _ _ le in
      sym so_far ∙ ap (λ (m : ℕ). operators_at r m k p t rest) (bound_left op o) ∙ rw (← o, at, ← add-one, h) refl

  pub operators_go_on : (op : Infix) (b : ExprTree) (after : List Terminal) → Some op ≡ infix_at rest → k ≤ level op → r (level op + 1) (tail rest) ≡ Some (b, after) → operators_at r (n - 1) k p (tree p (joined op t b)) after ≡ total
  unfolding operators_at
  operators_go_on op b after o le h =
      let at : leb k (level op) ≡ true = le-leb _ _ le in
      let one : operators_at r n k p t rest ≡ operators_at r (n - 1) k p (tree p (joined op t b)) after = ap (λ (m : ℕ). operators_at r m k p t rest) (bound_left op o) ∙ rw (← o, at, ← add-one, h) refl in
      sym one ∙ so_far

  pub operators_stop : Stops k rest → total ≡ Some (t, rest)
  operators_stop stops = sym so_far ∙ operators_end r n k p t rest stops
