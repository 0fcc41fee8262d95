-- The ways on that expressions make.
use Rattle.std.proofs.Common.{◌≡◌, ℕ, ◌+◌, List, [], ◌∷◌, ◌++◌, length, Option, None, Some, refl, ap, arith}
use Rattle.std.specs.List.{AllByRecursion}
use Rattle.std.specs.Prelude.{IfSome}
use Rattle.fq_core.specs.declared.span.Span.{Span}
use Rattle.c_values.specs.declared.kinds.Kind.{Kind}
use Rattle.c_values.specs.declared.operators.BinaryOp.{BinaryOp}
use Rattle.c_values.specs.declared.operators.UnaryOp.{UnaryOp}
use Rattle.c_values.specs.declared.operators.UnaryOp.TheVariants as unary
use Rattle.cfa.specs.declared.expr.CellPlace.{CellPlace}
use Rattle.cfa.specs.declared.expr.CellPlace.TheVariants as place
use Rattle.cfa.specs.declared.expr.Expr.TheVariants as expr
use Rattle.cfa.specs.declared.parts.Variable.{Variable}
use Rattle.c_typed_trees.specs.declared.expression.Callee.{Callee}
use Rattle.c_typed_trees.specs.declared.expression.Callee.TheVariants.{Defined, Input}
use Rattle.c_lower_rules.specs.declared.graph_of.parts.Around.{Around}
use Rattle.c_lower_rules.specs.declared.graph_of.parts.Parts.{Parts}
use Rattle.c_lower_rules.specs.graph_of.Builder.{Builder, Flow, in_order, give, ◌then◌, ending}
use Rattle.c_lower_rules.specs.graph_of.Edges.{put, guards}
use Rattle.c_lower_rules.specs.declared.graph_of.parts.Operand.{Operand}
use Rattle.c_lower_rules.specs.graph_of.Expressions.{Value, Spot, Calling, element_of, spot_index, spot_cell, words_in_order, call_edges, not_cond, both_cond, either_cond, other_cond, call_pure, truth_pure, part_row, choice_pure, load_pure, convert_pure, unary_pure, binary_pure, unary_value}
use Rattle.c_lower_rules.proofs.graph_of.Fits.{◌&◌}
use Rattle.c_lower_rules.proofs.graph_rules.Ways.{here, Leading, leading, lead_nil, lead_one, lead_return, lead_two, single}

-- one way is due from a node, and none is left
abbrev pub Closed : Parts → ℕ → ℕ → Type 0
Closed m n a = Leading m n (λ i. here i a) (λ i. 0)

-- one way is due from a node, and one is left where control ends
pub record IsFlow (A : Type 0) (x : Flow A) : Type 0 where
  pub flows : (a n e k : ℕ) → Leading (x a n e k).made n (λ i. here i a) (λ i. here i (x a n e k).end)

abbrev pub IsPure : {A : Type 0} → (Around → Flow A) → Type 0
IsPure {A} x = (u : Around) → IsFlow A (x u)

abbrev pub IsTesting : (Around → ℕ → ℕ → ℕ → Builder) → Type 0
IsTesting c = (u : Around) (a t f n e k : ℕ) → Closed (c u a t f n e k) n a

pub record IsValue (x : Value) : Type 0 where
  pub pure : IsPure x.pure
  pub cond : IsTesting x.cond

-- ---- combinators

pub give_is : {A : Type 0} (v : A) → IsFlow A (give v)
give_is v = record { flows = λ a n e k. leading [] n e k _ _ tt (λ i. omega arith) }

pub then_is : {A B : Type 0} (x : Flow A) (f : A → Flow B) → IsFlow A x → ((v : A) → IsFlow B (f v)) → IsFlow B (x then f)
then_is x f hx hf = record {
  flows = λ a n e k.
      let v = x a n e k in
      let X = hx.flows a n e k in
      let Y = (hf v.gives).flows v.end (n + length v.made.nodes) (e + length v.made.edges) (k + length v.made.scopes) in
      leading _ n e k _ _ (X.leads & Y.leads & tt) (λ i. omega (arith, X.same i, Y.same i));
}

pub then_gives : {A B : Type 0} (x : Flow A) (g : A → B) → IsFlow A x → IsFlow B (x then λ v. give (g v))
then_gives x g hx = then_is x (λ v. give (g v)) hx (λ v. give_is (g v))

pub ending_is : {A : Type 0} (x : Flow A) (f : A → ℕ → Builder) → IsFlow A x → ((v : A) (m p q r : ℕ) → Closed (f v m p q r) p m) → (a n e k : ℕ) → Closed (ending x f a n e k) n a
ending_is x f hx hf a n e k =
    let v = x a n e k in
    let X = hx.flows a n e k in
    let Y = hf v.gives v.end (n + length v.made.nodes) (e + length v.made.edges) (k + length v.made.scopes) in
    leading _ n e k _ _ (X.leads & Y.leads & tt) (λ i. omega (arith, X.same i, Y.same i))

-- ---- places and words

pub spot_index_is : (v : Variable) (index : Option Value) → IfSome index IsValue → IsPure (spot_index v index)
spot_index_is v None h u = give_is _
spot_index_is v (Some i) h u = then_gives (i.pure u) (λ w. record { place = element_of v w.value; reads = w.reads }) (h.pure u)

-- a place has an index that is a value
abbrev pub IsSpot : Spot → Type 0
IsSpot p = IfSome p.index IsValue

pub words_are : (xs : List Value) → AllByRecursion IsValue xs → IsPure (words_in_order xs)
words_are [] hs u = give_is []
words_are (x ∷ xs) hs u = then_is (x.pure u) _ (hs.0.pure u) (λ v. then_is (words_in_order xs u) _ (words_are xs hs.1 u) (λ vs. give_is (v ∷ vs)))

pub call_edges_are : (callee : Callee) (arrays : List Variable) (u : Around) (ws : List Operand) (dest : Option CellPlace) (a z n e k : ℕ) → Closed (call_edges callee arrays u ws dest a z n e k) n a
call_edges_are (Defined i) arrays u ws dest a z n e k = leading _ n e k _ _ (lead_one _ (refl, refl, refl) & lead_return _ refl refl & tt) (λ i. omega arith)
call_edges_are (Input i) arrays u ws dest a z n e k = single _ n (refl, refl, refl)

-- ---- cond

guards_are : (u : Around) (span : Span) (v : Operand) (t f m p q r : ℕ) → Closed (guards u span v.value v.reads m t f p q r) p m
unfolding in_order
guards_are u span v t f m p q r = record { leads = lead_two v.value _ _ refl refl refl; same = λ i. omega arith }

pub other_is : (span : Span) (x : Around → Flow Operand) → IsPure x → IsTesting (other_cond span x)
other_is span x hx u a t f n e k = ending_is (x u) (λ v m. guards u span v.value v.reads m t f) (hx u) (λ v m p q r. guards_are u span v t f m p q r) a n e k

pub not_is : (x : Value) → IsTesting x.cond → IsTesting (not_cond x)
not_is x hx u a t f n e k = hx u a f t n e k

pub both_is : (x y : Value) → IsTesting x.cond → IsTesting y.cond → IsTesting (both_cond x y)
both_is x y hx hy u a t f n e k =
    let mx = x.cond u a n f (n + 1) (e + 0) (k + 0) in
    let X = hx u a n f (n + 1) (e + 0) (k + 0) in
    let Y = hy u n t f (n + 1 + length mx.nodes) (e + 0 + length mx.edges) (k + 0 + length mx.scopes) in
    leading _ n e k _ _ (lead_nil & X.leads & Y.leads & tt) (λ i. omega (arith, X.same i, Y.same i))

pub either_is : (x y : Value) → IsTesting x.cond → IsTesting y.cond → IsTesting (either_cond x y)
either_is x y hx hy u a t f n e k =
    let mx = x.cond u a t n (n + 1) (e + 0) (k + 0) in
    let X = hx u a t n (n + 1) (e + 0) (k + 0) in
    let Y = hy u n t f (n + 1 + length mx.nodes) (e + 0 + length mx.edges) (k + 0 + length mx.scopes) in
    leading _ n e k _ _ (lead_nil & X.leads & Y.leads & tt) (λ i. omega (arith, X.same i, Y.same i))

-- ---- pure

pub call_pure_is : (c : Calling) (kind : Kind) → AllByRecursion IsValue c.words → IsPure (call_pure c kind)
call_pure_is c kind hs u = record {
  flows = λ a n e k.
      let E = ending_is (words_in_order c.words u) (λ ws b. call_edges c.callee c.arrays u ws (Some (place.Local c.cell)) b n) (words_are c.words hs u)
      (λ ws m p q r. call_edges_are c.callee c.arrays u ws (Some (place.Local c.cell)) m n p q r) a (n + 1) (e + 0) (k + 0) in
      leading _ n e k _ _ (lead_nil & E.leads & tt) (λ i. omega (arith, E.same i));
}

-- the third of three nodes
pub third : (i n : ℕ) → here i (n + 1 + 1) ≡ here i (n + 2)
third i n = let e : n + 1 + 1 ≡ n + 2 = omega arith in ap (here i) e

pub truth_is : (c : Around → ℕ → ℕ → ℕ → Builder) (cell : ℕ) (kind : Kind) → IsTesting c → IsPure (truth_pure c cell kind)
truth_is c cell kind hc u = record {
  flows = λ a n e k.
      let C = hc (record u { decision = Some (n, n + 1) }) a n (n + 1) (n + 1 + 1 + 1) (e + 0 + 0 + 0) (k + 0 + 0 + 0) in
      leading _ n e k _ _ (lead_nil & lead_nil & lead_nil & C.leads & lead_one _ (refl, refl, refl) & lead_one _ (refl, refl, refl) & tt)
      (λ i. omega (arith, C.same i, third i n));
}

pub part_is : (x : Value) (cell : ℕ) (u : Around) (a m n e k : ℕ) → IsPure x.pure → Closed (part_row x cell u a m n e k) n a
part_is x cell u a m n e k hx = ending_is (x.pure u) (λ v b. put u cell v.value v.reads b m) (hx u) (λ v b p q r. single _ p (refl, refl, refl)) a n e k

pub choice_is : (c x y : Value) (cell : ℕ) (kind : Kind) → IsTesting c.cond → IsPure x.pure → IsPure y.pure → IsPure (choice_pure c x y cell kind)
choice_is c x y cell kind hc hx hy u = record {
  flows = λ a n e k.
      let mc = c.cond (record u { decision = Some (n, n + 1) }) a n (n + 1) (n + 1 + 1 + 1) (e + 0 + 0 + 0) (k + 0 + 0 + 0) in
      let C = hc (record u { decision = Some (n, n + 1) }) a n (n + 1) (n + 1 + 1 + 1) (e + 0 + 0 + 0) (k + 0 + 0 + 0) in
      let mx = part_row x cell u n (n + 2) (n + 1 + 1 + 1 + length mc.nodes) (e + 0 + 0 + 0 + length mc.edges) (k + 0 + 0 + 0 + length mc.scopes) in
      let X = part_is x cell u n (n + 2) (n + 1 + 1 + 1 + length mc.nodes) (e + 0 + 0 + 0 + length mc.edges) (k + 0 + 0 + 0 + length mc.scopes) hx in
      let Y = part_is y cell u (n + 1) (n + 2) (n + 1 + 1 + 1 + length mc.nodes + length mx.nodes) (e + 0 + 0 + 0 + length mc.edges + length mx.edges) (k + 0 + 0 + 0 + length mc.scopes + length mx.scopes) hy in
      leading _ n e k _ _ (lead_nil & lead_nil & lead_nil & C.leads & X.leads & Y.leads & tt) (λ i. omega (arith, C.same i, X.same i, Y.same i, third i n));
}

pub load_is : (p : Spot) (kind : Kind) → IsSpot p → IsPure (load_pure p kind)
load_is p kind h u = then_gives (spot_cell p u) (λ c. record { value = expr.Load c.place kind; reads = p.variable.name ∷ c.reads }) (spot_index_is p.variable p.index h u)

pub convert_is : (x : Value) (kind : Kind) → IsPure x.pure → IsPure (convert_pure x kind)
convert_is x kind h u = then_gives (x.pure u) (λ v. record { value = expr.Convert v.value kind; reads = v.reads }) (h u)

pub unary_is : (op : UnaryOp) (x : Value) → IsPure x.pure → IsPure (unary_pure op x)
unary_is op x h u = then_gives (x.pure u) (λ v. record { value = expr.Unary op v.value x.kind; reads = v.reads }) (h u)

pub binary_is : (op : BinaryOp) (x y : Value) → IsPure x.pure → IsPure y.pure → IsPure (binary_pure op x y)
binary_is op x y h i u = then_is (x.pure u) _ (h u) (λ v. then_gives (y.pure u) (λ w. record { value = expr.Binary op v.value w.value x.kind; reads = v.reads ++ w.reads }) (i u))

-- an expression that a condition doesn't split
pub unsplit_is : (span : Span) (kind : Kind) (x : Around → Flow Operand) → IsPure x → IsValue (record { span = span; kind = kind; pure = x; cond = other_cond span x })
unsplit_is span kind x h = record { pure = h; cond = other_is span x h }

pub unary_value_is : (span : Span) (kind : Kind) (op : UnaryOp) (x : Value) → IsValue x → IsValue (unary_value span kind op x)
unary_value_is span kind unary.Not x h = record { pure = unary_is unary.Not x h.pure; cond = not_is x h.cond }
unary_value_is span kind unary.Neg x h = unsplit_is span kind _ (unary_is unary.Neg x h.pure)
unary_value_is span kind unary.Complement x h = unsplit_is span kind _ (unary_is unary.Complement x h.pure)
