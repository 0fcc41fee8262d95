-- Expressions make nodes and edges that stand in an order.
use Rattle.std.proofs.Common.{ℕ, ◌+◌, ◌≤◌, List, [], ◌∷◌, ◌++◌, length, Option, None, Some, refl, sym, ◌∙◌, arith, append-nil}
use Rattle.std.specs.List.{AllByRecursion}
use Rattle.std.specs.Prelude.{IfSome}
use Rattle.fq_core.specs.declared.span.Span.{Span}
use Rattle.c_values.specs.declared.kinds.Kind.{Kind}
use Rattle.c_values.specs.declared.operators.BinaryOp.{BinaryOp}
use Rattle.c_values.specs.declared.operators.UnaryOp.{UnaryOp}
use Rattle.c_values.specs.declared.operators.UnaryOp.TheVariants as unary
use Rattle.cfa.specs.declared.expr.CellPlace.{CellPlace}
use Rattle.cfa.specs.declared.expr.CellPlace.TheVariants as place
use Rattle.cfa.specs.declared.expr.Expr.TheVariants as expr
use Rattle.cfa.specs.declared.parts.Variable.{Variable}
use Rattle.c_lower_rules.specs.cfa_order.Order.{Standing, GoesOn, Resumes}
use Rattle.c_typed_trees.specs.declared.expression.Callee.{Callee}
use Rattle.c_typed_trees.specs.declared.expression.Callee.TheVariants.{Defined, Input}
use Rattle.c_lower_rules.specs.declared.graph_of.parts.Around.{Around}
use Rattle.c_lower_rules.specs.declared.graph_of.parts.Parts.{Parts}
use Rattle.c_lower_rules.specs.graph_of.Builder.{Builder, Flow, in_order, give, ◌then◌, ending}
use Rattle.c_lower_rules.specs.graph_of.Edges.{put, guards}
use Rattle.c_lower_rules.specs.declared.graph_of.parts.Operand.{Operand}
use Rattle.c_lower_rules.specs.graph_of.Expressions.{Value, Spot, Calling, element_of, spot_index, spot_cell, words_in_order, call_edges, not_cond, both_cond, either_cond, other_cond, call_pure, truth_pure, part_row, choice_pure, load_pure, convert_pure, unary_pure, binary_pure, unary_value}
use Rattle.c_lower_rules.proofs.graph_of.Fits.{Agrees, agrees_front, Fits, fits_given, fits_node, fits_edge, fits_nil, fits_cons, fits_after, ◌&◌}
use Rattle.c_lower_rules.proofs.graph_of.Given.{stand, From, To, Behind, Deep, Arranged, arrange, to_behind, behind, goes, resumes, from_at, to_at, third, later, stands}

-- what is made flows from a node to another: it has ranks above the first, and may be nothing
pub record Flows (made : Parts) (end n lo : ℕ) (loops : List ℕ) (a : ℕ) : Type 0 where
  pub standings : List Standing
  pub hi : ℕ
  pub wide : lo ≤ hi
  pub fits : Fits made n standings (λ at. From at lo loops a)
  pub ends : (at : ℕ → Standing) → Agrees at n standings → From at lo loops a → From at hi loops end

-- whatever loops it lies in, as many as this depth
pub record IsFlow (A : Type 0) (x : Flow A) (depth : ℕ) : Type 0 where
  pub flows : (a n e k lo : ℕ) (loops : List ℕ) → Deep depth lo loops → Flows (x a n e k).made (x a n e k).end n lo loops a

abbrev pub IsPure : {A : Type 0} → (Around → Flow A) → Type 0
IsPure {A} x = (u : Around) → IsFlow A (x u) u.depth

abbrev pub TestGiven : (ℕ → Standing) → ℕ → ℕ → List ℕ → ℕ → ℕ → ℕ → Type 0
TestGiven at lo hi loops a t f = From at lo loops a × Behind at hi loops t × Behind at hi loops f

abbrev pub IsTesting : (Around → ℕ → ℕ → ℕ → Builder) → Type 0
IsTesting c = (u : Around) (a t f n e k lo : ℕ) (loops : List ℕ) → Deep u.depth lo loops → Arranged (c u a t f n e k) n lo (λ at hi. TestGiven at lo hi loops a t f)

pub record IsValue (x : Value) : Type 0 where
  pub pure : IsPure x.pure
  pub cond : IsTesting x.cond

-- ---- combinators

pub give_is : {A : Type 0} (v : A) (depth : ℕ) → IsFlow A (give v) depth
give_is v depth = record { flows = λ a n e k lo loops d. record { standings = []; hi = lo; wide = omega arith; fits = fits_given _ (fits_nil n e k) (λ at ag g. tt); ends = λ at ag g. g } }

pub then_is : {A B : Type 0} (x : Flow A) (f : A → Flow B) (depth : ℕ) → IsFlow A x depth → ((v : A) → IsFlow B (f v) depth) → IsFlow B (x then f) depth
then_is x f depth hx hf = record {
  flows = λ a n e k lo loops d.
      let v = x a n e k in
      let X = hx.flows a n e k lo loops d in
      let Y = (hf v.gives).flows v.end (n + length v.made.nodes) (e + length v.made.edges) (k + length v.made.scopes) X.hi loops (later X.wide d) in
      record {
        standings = X.standings ++ (Y.standings ++ []);
        hi = Y.hi;
        wide = omega (arith, X.wide, Y.wide);
        fits = fits_given _ (fits_cons _ _ n e k X.fits (fits_cons _ _ _ _ _ Y.fits (fits_nil _ _ _))) (λ at ag g. (g, (X.ends at (agrees_front at n X.standings _ ag) g, tt)));
        ends = λ at ag g. Y.ends at (agrees_front at _ Y.standings [] (fits_after X.fits at _ ag)) (X.ends at (agrees_front at n X.standings _ ag) g);
      };
}

pub then_gives : {A B : Type 0} (x : Flow A) (g : A → B) (depth : ℕ) → IsFlow A x depth → IsFlow B (x then λ v. give (g v)) depth
then_gives x g depth hx = then_is x (λ v. give (g v)) depth hx (λ v. give_is (g v) depth)

-- a flow, and then what is made where it ends with no node
pub ending_is : {A : Type 0} (x : Flow A) (f : A → ℕ → Builder) (H : (ℕ → Standing) → ℕ → Type 0) (depth a n e k lo : ℕ) (loops : List ℕ) → IsFlow A x depth → Deep depth lo loops
    → ((v : A) (m p q r : ℕ) → Fits (f v m p q r) p [] (λ at. (hi : ℕ) × From at hi loops m × H at (hi + 1)))
    → Arranged (ending x f a n e k) n lo (λ at hi. From at lo loops a × H at hi)
ending_is x f H depth a n e k lo loops hx d hf =
    let v = x a n e k in
    let X = hx.flows a n e k lo loops d in
    arrange (X.hi + 1) (omega (arith, X.wide)) (fits_cons _ _ n e k X.fits (fits_cons _ _ _ _ _ (hf v.gives v.end _ _ _) (fits_nil _ _ _)))
    (λ at ag g. (g.0, ((X.hi, X.ends at (agrees_front at n X.standings _ ag) g.0, g.1), tt)))

-- ---- places and words

pub spot_index_is : (v : Variable) (index : Option Value) → IfSome index IsValue → IsPure (spot_index v index)
spot_index_is v None h u = give_is _ u.depth
spot_index_is v (Some i) h u = then_gives (i.pure u) (λ w. record { place = element_of v w.value; reads = w.reads }) u.depth (h.pure u)

-- a place has an index that is a value
abbrev pub IsSpot : Spot → Type 0
IsSpot p = IfSome p.index IsValue

pub words_are : (xs : List Value) → AllByRecursion IsValue xs → IsPure (words_in_order xs)
words_are [] hs u = give_is [] u.depth
words_are (x ∷ xs) hs u = then_is (x.pure u) _ u.depth (hs.0.pure u) (λ v. then_is (words_in_order xs u) _ u.depth (words_are xs hs.1 u) (λ vs. give_is (v ∷ vs) u.depth))

resumed : (at : ℕ → Standing) (a z : ℕ) → Resumes (at a) (at z) → GoesOn (at a) (at z)
resumed at a z r = record { rises = r.rises; left = []; loops = sym r.same ∙ sym (append-nil (at z).loops) }

pub call_fits : (callee : Callee) (arrays : List Variable) (u : Around) (ws : List Operand) (dest : Option CellPlace) (a z n e k : ℕ) → Fits (call_edges callee arrays u ws dest a z n e k) n [] (λ at. Resumes (at a) (at z))
unfolding in_order
call_fits (Defined i) arrays u ws dest a z n e k = record { nodes = tt; edges = λ at ag g. ((refl, g), (refl, tt)) }
call_fits (Input i) arrays u ws dest a z n e k = record { nodes = tt; edges = λ at ag g. (resumed at a z g, tt) }

-- ---- cond

guards_fit : (u : Around) (span : Span) (v : Operand) (t f : ℕ) (loops : List ℕ) (m p q r : ℕ) → Fits (guards u span v.value v.reads m t f p q r) p [] (λ at. (hi : ℕ) × From at hi loops m × (Behind at (hi + 1) loops t × Behind at (hi + 1) loops f))
guards_fit u span v t f loops m p q r = fits_given _ (fits_cons _ _ p q r fits_edge (fits_cons _ _ _ _ _ fits_edge (fits_nil _ _ _))) (λ at ag g. (goes (omega arith) g.1 g.2.0, (goes (omega arith) g.1 g.2.1, tt)))

pub other_is : (span : Span) (x : Around → Flow Operand) → IsPure x → IsTesting (other_cond span x)
other_is span x hx u a t f n e k lo loops d =
    let X = ending_is (x u) (λ v m. guards u span v.value v.reads m t f) (λ at hi. Behind at hi loops t × Behind at hi loops f) u.depth a n e k lo loops (hx u) d (λ v m p q r. guards_fit u span v t f loops m p q r) in
    arrange X.hi X.wide X.fits (λ at ag g. (g.0, (g.1, g.2)))

pub not_is : (x : Value) → IsTesting x.cond → IsTesting (not_cond x)
not_is x hx u a t f n e k lo loops d =
    let X = hx u a f t n e k lo loops d in
    arrange X.hi X.wide X.fits (λ at ag g. (g.0, g.2, g.1))

pub both_is : (x y : Value) → IsTesting x.cond → IsTesting y.cond → IsTesting (both_cond x y)
both_is x y hx hy u a t f n e k lo loops d =
    let mx = x.cond u a n f (n + 1) (e + 0) (k + 0) in
    let X = hx u a n f (n + 1) (e + 0) (k + 0) lo loops d in
    let Y = hy u n t f (n + 1 + length mx.nodes) (e + 0 + length mx.edges) (k + 0 + length mx.scopes) X.hi loops (later (omega (arith, X.wide)) d) in
    arrange Y.hi (omega (arith, X.wide, Y.wide)) (fits_cons _ _ _ _ _ (fits_node (stands X.hi (omega (arith, X.wide)) refl d)) (fits_cons _ _ _ _ _ X.fits (fits_cons _ _ _ _ _ Y.fits (fits_nil _ _ _))))
    (λ at ag g. tt & (g.0, to_behind (to_at ag.0 (omega arith)), behind (omega (arith, Y.wide)) g.2) & (from_at ag.0 (omega arith), g.1, g.2) & tt)

pub either_is : (x y : Value) → IsTesting x.cond → IsTesting y.cond → IsTesting (either_cond x y)
either_is x y hx hy u a t f n e k lo loops d =
    let mx = x.cond u a t n (n + 1) (e + 0) (k + 0) in
    let X = hx u a t n (n + 1) (e + 0) (k + 0) lo loops d in
    let Y = hy u n t f (n + 1 + length mx.nodes) (e + 0 + length mx.edges) (k + 0 + length mx.scopes) X.hi loops (later (omega (arith, X.wide)) d) in
    arrange Y.hi (omega (arith, X.wide, Y.wide)) (fits_cons _ _ _ _ _ (fits_node (stands X.hi (omega (arith, X.wide)) refl d)) (fits_cons _ _ _ _ _ X.fits (fits_cons _ _ _ _ _ Y.fits (fits_nil _ _ _))))
    (λ at ag g. tt & (g.0, behind (omega (arith, Y.wide)) g.1, to_behind (to_at ag.0 (omega arith))) & (from_at ag.0 (omega arith), g.1, g.2) & tt)

-- ---- pure

pub call_pure_is : (c : Calling) (kind : Kind) → AllByRecursion IsValue c.words → IsPure (call_pure c kind)
call_pure_is c kind hs u = record {
  flows = λ a n e k lo loops d.
      let E = ending_is (words_in_order c.words u) (λ ws b. call_edges c.callee c.arrays u ws (Some (place.Local c.cell)) b n) (λ at hi. To at hi loops n) u.depth a (n + 1) (e + 0) (k + 0) lo loops (words_are c.words hs u) d
      (λ ws m p q r. fits_given _ (call_fits c.callee c.arrays u ws (Some (place.Local c.cell)) m n p q r) (λ at ag g. resumes (omega arith) g.1 g.2)) in
      record {
        standings = stand E.hi loops ∷ (E.standings ++ []);
        hi = E.hi;
        wide = omega (arith, E.wide);
        fits = fits_given _ (fits_cons _ _ n e k (fits_node (stands E.hi (omega (arith, E.wide)) refl d)) (fits_cons _ _ _ _ _ E.fits (fits_nil _ _ _)))
            (λ at ag g. tt & (g, to_at ag.0 (omega arith)) & tt);
        ends = λ at ag g. from_at ag.0 (omega arith);
      };
}

pub truth_is : (c : Around → ℕ → ℕ → ℕ → Builder) (cell : ℕ) (kind : Kind) → IsTesting c → IsPure (truth_pure c cell kind)
truth_is c cell kind hc u = record {
  flows = λ a n e k lo loops d.
      let C = hc (record u { decision = Some (n, n + 1) }) a n (n + 1) (n + 1 + 1 + 1) (e + 0 + 0 + 0) (k + 0 + 0 + 0) lo loops d in
      let over : lo ≤ C.hi = omega (arith, C.wide) in
      record {
        standings = stand C.hi loops ∷ stand C.hi loops ∷ stand (C.hi + 1) loops ∷ (C.standings ++ []);
        hi = C.hi + 1;
        wide = omega arith;
        fits = fits_given _ (fits_cons _ _ n e k (fits_node (stands C.hi over refl d)) (fits_cons _ _ _ _ _ (fits_node (stands C.hi over refl d)) (fits_cons _ _ _ _ _ (fits_node (stands (C.hi + 1) (omega arith) refl d))
            (fits_cons _ _ _ _ _ C.fits (fits_cons _ _ _ _ _ fits_edge (fits_cons _ _ _ _ _ fits_edge (fits_nil _ _ _)))))))
            (λ at ag g.
            let m : To at (C.hi + 1) loops (n + 2) = to_at (third at n ag.1.1.0) (omega arith) in
            tt & tt & tt & (g, to_behind (to_at ag.0 (omega arith)), to_behind (to_at ag.1.0 (omega arith)))
            & goes {lo = C.hi} (omega arith) (from_at ag.0 (omega arith)) (to_behind m) & goes {lo = C.hi} (omega arith) (from_at ag.1.0 (omega arith)) (to_behind m) & tt);
        ends = λ at ag g. from_at (third at n ag.1.1.0) (omega arith);
      };
}

pub part_is : (x : Value) (cell : ℕ) (u : Around) (a m n e k lo : ℕ) (loops : List ℕ) → IsPure x.pure → Deep u.depth lo loops → Arranged (part_row x cell u a m n e k) n lo (λ at hi. From at lo loops a × Behind at hi loops m)
part_is x cell u a m n e k lo loops hx d =
    ending_is (x.pure u) (λ v b. put u cell v.value v.reads b m) (λ at hi. Behind at hi loops m) u.depth a n e k lo loops (hx u) d
    (λ v b p q r. fits_given _ fits_edge (λ at ag g. goes (omega arith) g.1 g.2))

pub choice_is : (c x y : Value) (cell : ℕ) (kind : Kind) → IsTesting c.cond → IsPure x.pure → IsPure y.pure → IsPure (choice_pure c x y cell kind)
choice_is c x y cell kind hc hx hy u = record {
  flows = λ a n e k lo loops d.
      let mc = c.cond (record u { decision = Some (n, n + 1) }) a n (n + 1) (n + 1 + 1 + 1) (e + 0 + 0 + 0) (k + 0 + 0 + 0) in
      let C = hc (record u { decision = Some (n, n + 1) }) a n (n + 1) (n + 1 + 1 + 1) (e + 0 + 0 + 0) (k + 0 + 0 + 0) lo loops d in
      let mx = part_row x cell u n (n + 2) (n + 1 + 1 + 1 + length mc.nodes) (e + 0 + 0 + 0 + length mc.edges) (k + 0 + 0 + 0 + length mc.scopes) in
      let X = part_is x cell u n (n + 2) (n + 1 + 1 + 1 + length mc.nodes) (e + 0 + 0 + 0 + length mc.edges) (k + 0 + 0 + 0 + length mc.scopes) C.hi loops hx (later (omega (arith, C.wide)) d) in
      let Y = part_is y cell u (n + 1) (n + 2) (n + 1 + 1 + 1 + length mc.nodes + length mx.nodes) (e + 0 + 0 + 0 + length mc.edges + length mx.edges) (k + 0 + 0 + 0 + length mc.scopes + length mx.scopes) X.hi loops hy (later (omega (arith, C.wide, X.wide)) d) in
      record {
        standings = stand C.hi loops ∷ stand X.hi loops ∷ stand Y.hi loops ∷ (C.standings ++ (X.standings ++ (Y.standings ++ [])));
        hi = Y.hi;
        wide = omega (arith, C.wide, X.wide, Y.wide);
        fits = fits_given _ (fits_cons _ _ n e k (fits_node (stands C.hi (omega (arith, C.wide)) refl d)) (fits_cons _ _ _ _ _ (fits_node (stands X.hi (omega (arith, C.wide, X.wide)) refl d)) (fits_cons _ _ _ _ _ (fits_node (stands Y.hi (omega (arith, C.wide, X.wide, Y.wide)) refl d))
            (fits_cons _ _ _ _ _ C.fits (fits_cons _ _ _ _ _ X.fits (fits_cons _ _ _ _ _ Y.fits (fits_nil _ _ _)))))))
            (λ at ag g.
            let m : Behind at Y.hi loops (n + 2) = to_behind (to_at (third at n ag.1.1.0) (omega arith)) in
            tt & tt & tt & (g, to_behind (to_at ag.0 (omega arith)), to_behind (to_at ag.1.0 (omega (arith, X.wide))))
            & (from_at ag.0 (omega arith), behind (omega (arith, Y.wide)) m) & (from_at ag.1.0 (omega arith), m) & tt);
        ends = λ at ag g. from_at (third at n ag.1.1.0) (omega arith);
      };
}

pub load_is : (p : Spot) (kind : Kind) → IsSpot p → IsPure (load_pure p kind)
load_is p kind h u = then_gives (spot_cell p u) (λ c. record { value = expr.Load c.place kind; reads = p.variable.name ∷ c.reads }) u.depth (spot_index_is p.variable p.index h u)

pub convert_is : (x : Value) (kind : Kind) → IsPure x.pure → IsPure (convert_pure x kind)
convert_is x kind h u = then_gives (x.pure u) (λ v. record { value = expr.Convert v.value kind; reads = v.reads }) u.depth (h u)

pub unary_is : (op : UnaryOp) (x : Value) → IsPure x.pure → IsPure (unary_pure op x)
unary_is op x h u = then_gives (x.pure u) (λ v. record { value = expr.Unary op v.value x.kind; reads = v.reads }) u.depth (h u)

pub binary_is : (op : BinaryOp) (x y : Value) → IsPure x.pure → IsPure y.pure → IsPure (binary_pure op x y)
binary_is op x y h i u = then_is (x.pure u) _ u.depth (h u) (λ v. then_gives (y.pure u) (λ w. record { value = expr.Binary op v.value w.value x.kind; reads = v.reads ++ w.reads }) u.depth (i u))

-- an expression that a condition doesn't split
pub unsplit_is : (span : Span) (kind : Kind) (x : Around → Flow Operand) → IsPure x → IsValue (record { span = span; kind = kind; pure = x; cond = other_cond span x })
unsplit_is span kind x h = record { pure = h; cond = other_is span x h }

pub unary_value_is : (span : Span) (kind : Kind) (op : UnaryOp) (x : Value) → IsValue x → IsValue (unary_value span kind op x)
unary_value_is span kind unary.Not x h = record { pure = unary_is unary.Not x h.pure; cond = not_is x h.cond }
unary_value_is span kind unary.Neg x h = unsplit_is span kind _ (unary_is unary.Neg x h.pure)
unary_value_is span kind unary.Complement x h = unsplit_is span kind _ (unary_is unary.Complement x h.pure)
