-- Readers that agree on fewer tokens read the same: a bound on how deep expressions nest that is above the number of
-- the tokens is none.
use Rattle.std.proofs.Common.{◌≡◌, ℕ, zero, suc, ◌≤◌, ◌<◌, Bool, true, false, cond, List, [], ◌∷◌, length, Option, Some, None, refl, ap, ◌∙◌, arith}
use Rattle.std.specs.Prelude.{nat_le, if◌then◌else◌}
use Rattle.fq_core.specs.declared.span.Span.{Span}
use Rattle.c_parse.specs.declared.sign.Terminal.{Terminal}
use Rattle.c_parse.specs.declared.sign.Sign.{Sign}
use Rattle.c_parse.specs.declared.sign.Sign.TheVariants as sign
use Rattle.c_parse.specs.declared.sign.Symbol.{Symbol}
use Rattle.c_parse.specs.declared.sign.Symbol.TheVariants as symbols
use Rattle.c_parse.specs.declared.expr.ExprTree.{ExprTree}
use Rattle.c_parse.specs.declared.expr.ExprForm.TheVariants as form
use Rattle.c_parse.specs.declared.operator.Prefix.{Prefix}
use Rattle.c_parse.specs.declared.operator.Infix.{Infix}
use Rattle.c_parse.specs.Trees.{tree, joined, level}
use Rattle.c_parse.specs.Grammar.{Text, first_span}
use Rattle.c_parse.specs.Reading.{◌>>=◌, Read, Reader, is_symbol, starts, starts_type, tail, expect, type_at, infix_at, by_operator, prefix_of, arguments_at, after_name, after_open, after_prefix, operand_of, operand_at, operators_at, level_by, choice_by, expr_at, expr_in}
use Rattle.c_parse.proofs.Steps.{expect_takes, infix_at-some}
use Rattle.c_parse.proofs.Takes.{IsSound, length-parts, type_takes, operand_takes, level_takes, expr_takes}

pub then_same : {A B : Type 0} (o : Option A) (f g : A → Option B) → ((x : A) → o ≡ Some x → f x ≡ g x) → (o >>= f) ≡ (o >>= g)
then_same None f g h = refl
then_same (Some x) f g h = h x refl

pub either_same : {A : Type 0} (b : Bool) (x y u v : A) → (b ≡ true → x ≡ u) → (b ≡ false → y ≡ v) → cond b x y ≡ cond b u v
either_same true x y u v f g = f refl
either_same false x y u v f g = g refl

by_operator_same : {A : Type 0} (k : ℕ) (o : Option Infix) (f g : Infix → A) (d : A) → ((op : Infix) → o ≡ Some op → f op ≡ g op) → by_operator k o f d ≡ by_operator k o g d
by_operator_same k None f g d h = refl
by_operator_same k (Some op) f g d h = either_same (nat_le k (level op)) (f op) d (g op) d (λ e. h op refl) (λ e. refl)

pub tail_most : (ts : List Terminal) → length (tail ts) ≤ length ts
tail_most [] = omega arith
tail_most (t ∷ ts) = omega arith

pub expect_fewer : (m : Symbol) (ts rest : List Terminal) → expect m ts ≡ Some rest → length rest < length ts
expect_fewer m ts rest e =
    let h = expect_takes m ts in
    let d = rw e at h in
    omega (arith, ap length d.1)

pub type_most : (ts : List Terminal) (x : _) → type_at ts ≡ Some x → length x.1 ≤ length ts
type_most ts x e =
    let h = type_takes ts in
    let d = rw e at h in
    length-parts ts d.1.front x.1 d.1.parts

pub read_most : (r : Reader) → IsSound r → (k : ℕ) (ts : List Terminal) (x : ExprTree × List Terminal) → r k ts ≡ Some x → length x.1 ≤ length ts
read_most r sound k ts x e =
    let h = sound k ts in
    let d = rw e at h in
    length-parts ts d.0.front x.1 d.0.parts

-- what follows the test of a choice, if there is one
abbrev behind_test : Reader → List Terminal → ExprTree × List Terminal → Read ExprTree
behind_test q ts c =
    if starts symbols.Question c.1
    then (q 0 (tail c.1) >>= λ a. expect symbols.Colon a.1 >>= λ rest. q 0 rest >>= λ b. Some (tree (first_span ts) (form.Choice c.0 a.0 b.0), b.1))
    else Some c

module _ (r s : Reader) (size : ℕ) (sound : IsSound r) (agree : (k : ℕ) (ts : List Terminal) → length ts < size → r k ts ≡ s k ts) where
  read_same : {B : Type 0} (k : ℕ) (ts : List Terminal) (f g : ExprTree × List Terminal → Option B) → length ts < size → ((x : ExprTree × List Terminal) → length x.1 ≤ length ts → f x ≡ g x) → (r k ts >>= f) ≡ (s k ts >>= g)
  read_same k ts f g lt h = then_same (r k ts) f g (λ x e. h x (read_most r sound k ts x e)) ∙ ap (λ (o : Read ExprTree). o >>= g) (agree k ts lt)

  pub arguments_same : (n : ℕ) (ts : List Terminal) → length ts < size → arguments_at r n ts ≡ arguments_at s n ts
  unfolding arguments_at
  arguments_same zero ts lt = refl
  arguments_same (suc n) ts lt =
      read_same 0 ts _ _ lt (λ first le.
      either_same (starts symbols.Comma first.1) _ _ _ _
      (λ e. ap (λ (o : Read (List ExprTree)). o >>= λ others. Some (first.0 ∷ others.0, others.1)) (arguments_same n (tail first.1) (omega (arith, tail_most first.1))))
      (λ e. refl))

  name_same : (p : Span) (w : Text) (ts : List Terminal) → length ts < size → after_name r p w ts ≡ after_name s p w ts
  unfolding after_name
  name_same p w ts lt =
      either_same (starts symbols.OpenIndex ts) _ _ _ _
      (λ e. read_same 0 (tail ts) _ _ (omega (arith, tail_most ts)) (λ x le. refl))
      (λ e. either_same (starts symbols.Open ts) _ _ _ _
      (λ f. either_same (starts symbols.Close (tail ts)) _ _ _ _
      (λ g. refl)
      (λ g. ap (λ (o : Read (List ExprTree)). o >>= λ x. Some (tree p (form.Call w x.0), x.1)) (arguments_same (length (tail ts)) (tail ts) (omega (arith, tail_most ts)))))
      (λ f. refl))

  open_same : (p : Span) (ts : List Terminal) → length ts < size → after_open r p ts ≡ after_open s p ts
  unfolding after_open
  open_same p ts lt =
      either_same (starts_type ts) _ _ _ _
      (λ e. then_same (type_at ts) _ _ (λ kind d.
      then_same (expect symbols.Close kind.1) _ _ (λ rest f.
      read_same 11 rest _ _ (omega (arith, type_most ts kind d, expect_fewer symbols.Close kind.1 rest f)) (λ x le. refl))))
      (λ e. read_same 0 ts _ _ lt (λ x le. refl))

  prefix_same : (o : Option Prefix) (p : Span) (ts : List Terminal) → length ts < size → after_prefix r o p ts ≡ after_prefix s o p ts
  prefix_same None p ts lt = refl
  prefix_same (Some op) p ts lt = read_same 11 ts _ _ lt (λ x le. refl)

  operand_of_same : (f : Sign) (p : Span) (ts : List Terminal) → length ts < size → operand_of r f p ts ≡ operand_of s f p ts
  operand_of_same (sign.Number n kind) p ts lt = refl
  operand_of_same (sign.Name w) p ts lt = name_same p w ts lt
  operand_of_same (sign.Symbol m) p ts lt = either_same (is_symbol symbols.Open (sign.Symbol m)) _ _ _ _ (λ e. open_same p ts lt) (λ e. prefix_same (prefix_of m) p ts lt)
  operand_of_same (sign.Type w) p ts lt = refl
  operand_of_same sign.Foreign p ts lt = refl
  operand_of_same sign.Unknown p ts lt = refl

  operand_same : (ts : List Terminal) → length ts ≤ size → operand_at r ts ≡ operand_at s ts
  unfolding operand_at
  operand_same [] le = refl
  operand_same (t ∷ ts) le = operand_of_same t.sign t.span ts (omega arith)

  operators_same : (n k : ℕ) (p : Span) (t : ExprTree) (ts : List Terminal) → length ts ≤ size → operators_at r n k p t ts ≡ operators_at s n k p t ts
  unfolding operators_at
  operators_same zero k p t ts le = refl
  operators_same (suc n) k p t ts le =
      by_operator_same k (infix_at ts) _ _ _ (λ op e.
      let f = infix_at-some op ts e in
      let fewer : length (tail ts) < length ts = omega (arith, ap length f.1) in
      read_same (suc (level op)) (tail ts) _ _ (omega (arith, fewer)) (λ x l. operators_same n k p (tree p (joined op t x.0)) x.1 (omega (arith, fewer))))

  level_same : (k : ℕ) (ts : List Terminal) → length ts ≤ size → level_by r k ts ≡ level_by s k ts
  unfolding level_by
  level_same k ts le =
      then_same (operand_at r ts) (λ t. operators_at r (length t.1) k (first_span ts) t.0 t.1) (λ t. operators_at s (length t.1) k (first_span ts) t.0 t.1) (λ t e.
      let h = operand_takes r sound ts in
      let d = rw e at h in
      operators_same (length t.1) k (first_span ts) t.0 t.1 (omega (arith, length-parts ts d.front t.1 d.parts)))
      ∙ ap (λ (o : Read ExprTree). o >>= λ t. operators_at s (length t.1) k (first_span ts) t.0 t.1) (operand_same ts le)

  choice_same : (ts : List Terminal) → length ts ≤ size → choice_by r ts ≡ choice_by s ts
  unfolding choice_by
  choice_same ts le =
      then_same (level_by r 1 ts) (behind_test r ts) (behind_test s ts) (λ c e.
      let h = level_takes r sound 1 ts in
      let d = rw e at h in
      let most = length-parts ts d.0.front c.1 d.0.parts in
      either_same (starts symbols.Question c.1) _ _ _ _
      (λ f.
      let fewer : length (tail c.1) < length c.1 = question_fewer c.1 f in
      read_same 0 (tail c.1) _ _ (omega (arith, most, fewer)) (λ a la.
      then_same (expect symbols.Colon a.1) _ _ (λ rest g.
      read_same 0 rest _ _ (omega (arith, most, fewer, expect_fewer symbols.Colon a.1 rest g)) (λ b lb. refl))))
      (λ f. refl))
      ∙ ap (λ (o : Read ExprTree). o >>= behind_test s ts) (level_same 1 ts le)
    where
      question_fewer : (us : List Terminal) → starts symbols.Question us ≡ true → length (tail us) < length us
      question_fewer [] e = absurd cc
      question_fewer (u ∷ us) e = omega arith

-- two bounds above the number of the tokens give the same
expr_enough : (n m k : ℕ) (ts : List Terminal) → length ts < n → length ts < m → expr_at n k ts ≡ expr_at m k ts
unfolding expr_at
expr_enough zero m k ts a b = absurd (omega arith)
expr_enough (suc n) zero k ts a b = absurd (omega arith)
expr_enough (suc n) (suc m) zero ts a b = choice_same (expr_at n) (expr_at m) (length ts) (expr_takes n) (λ k us lt. expr_enough n m k us (omega arith) (omega arith)) ts (omega arith)
expr_enough (suc n) (suc m) (suc k) ts a b = level_same (expr_at n) (expr_at m) (length ts) (expr_takes n) (λ k us lt. expr_enough n m k us (omega arith) (omega arith)) (suc k) ts (omega arith)

-- a bound that is large enough is none
pub expr_unbounded : (n k : ℕ) (ts : List Terminal) → length ts < n → expr_at n k ts ≡ expr_in k ts
unfolding expr_in
expr_unbounded n k ts lt = expr_enough n (suc (length ts)) k ts lt (omega arith)

pub arguments_unbounded : (n m : ℕ) (ts : List Terminal) → length ts < n → arguments_at (expr_at n) m ts ≡ arguments_at expr_in m ts
arguments_unbounded n m ts lt = arguments_same (expr_at n) expr_in n (expr_takes n) (λ k us l. expr_unbounded n k us l) m ts lt

-- an expression is read without a bound as with one
pub choice_unbounded : (ts : List Terminal) → expr_in 0 ts ≡ choice_by expr_in ts
unfolding expr_in expr_at
choice_unbounded ts = choice_same (expr_at (length ts)) expr_in (length ts) (expr_takes (length ts)) (λ k us lt. expr_unbounded (length ts) k us lt) ts (omega arith)

pub level_unbounded : (k : ℕ) (ts : List Terminal) → 0 < k → expr_in k ts ≡ level_by expr_in k ts
unfolding expr_in expr_at
level_unbounded zero ts lt = absurd (omega arith)
level_unbounded (suc k) ts lt = level_same (expr_at (length ts)) expr_in (length ts) (expr_takes (length ts)) (λ j us l. expr_unbounded (length ts) j us l) (suc k) ts (omega arith)
