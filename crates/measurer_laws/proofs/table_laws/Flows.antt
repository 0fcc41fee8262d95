-- Edges that are marked as they should be, through what is made one after another.
use Rattle.std.proofs.Common.{◌≡◌, ℕ, Bool, true, false, List, [], ◌∷◌, ◌++◌, refl, sym, true≢false}
use Rattle.std.specs.List.{AllByRecursion}
use Rattle.fq_core.specs.declared.span.Span.{Span}
use Rattle.cfa.specs.declared.expr.Expr.{Expr}
use Rattle.cfa.specs.declared.parts.Edge.{Edge}
use Rattle.cfa.specs.declared.parts.Operation.{Operation}
use Rattle.cfa.specs.declared.parts.Operation.TheVariants.{Skip}
use Rattle.cfa.specs.Graph.{is_guard}
use Rattle.c_lower_rules.specs.graph_of.Builder.{Builder, Flow, in_order, give, ◌then◌, ending, made_by}
use Rattle.c_lower_rules.specs.graph_of.Edges.{back_edge, enter_edge, guard, label_edge, skip, step}
use Rattle.c_lower_rules.specs.declared.graph_of.parts.Around.{Around}
use Rattle.measurer_laws.specs.table_laws.Marks.{NamesStand, WritesOne, is_label}

-- an edge is marked as its operation and its statement want it
pub record IsMarked (e : Edge) : Type 0 where
  pub outcome : e.outcome ≡ true → is_guard e.operation ≡ true
  pub names : NamesStand e

abbrev pub AreMarked : List Edge → Type 0
AreMarked es = AllByRecursion IsMarked es

marked_append : (xs ys : List Edge) → AreMarked xs → AreMarked ys → AreMarked (xs ++ ys)
marked_append [] ys h k = k
marked_append (x ∷ xs) ys h k = (h.0, marked_append xs ys h.1 k)

-- ---- what is made

abbrev pub Marked : Builder → Type 0
Marked b = (n e k : ℕ) → AreMarked (b n e k).edges

abbrev pub AllMarked : List Builder → Type 0
AllMarked bs = AllByRecursion Marked bs

pub in_order_is : (bs : List Builder) → AllMarked bs → Marked (in_order bs)
unfolding in_order
in_order_is [] h n e k = tt
in_order_is (b ∷ bs) h n e k = marked_append (b n e k).edges _ (h.0 n e k) (in_order_is bs h.1 _ _ _)

-- ---- what is computed on the way

abbrev pub MarkedFlow : {A : Type 0} → Flow A → Type 0
MarkedFlow x = (a : ℕ) → Marked (made_by x a)

pub give_is : {A : Type 0} (v : A) → MarkedFlow (give v)
give_is v a n e k = in_order_is [] tt n e k

pub then_is : {A B : Type 0} (x : Flow A) (f : A → Flow B) → MarkedFlow x → ((v : A) → MarkedFlow (f v)) → MarkedFlow (x then f)
then_is x f h g a n e k =
    let v = x a n e k in
    in_order_is (made_by x a ∷ made_by (f v.gives) v.end ∷ []) (h a, (g v.gives v.end, tt)) n e k

pub ending_is : {A : Type 0} (x : Flow A) (f : A → ℕ → Builder) → MarkedFlow x → ((v : A) (b : ℕ) → Marked (f v b)) → (a : ℕ) → Marked (ending x f a)
ending_is x f h g a n e k =
    let v = x a n e k in
    in_order_is (made_by x a ∷ f v.gives v.end ∷ []) (h a, (g v.gives v.end, tt)) n e k

-- ---- single edges

-- what is made of a statement that is no label
abbrev pub IsOther : Around → Type 0
IsOther u = is_label u.statement ≡ false

not_so : (b : Bool) → false ≡ true → b ≡ true
not_so b ill = absurd (true≢false (sym ill))

pub step_is : (u : Around) (op : Operation) (writes reads : List (List ℕ)) (a z : ℕ) → IsOther u → WritesOne writes op → Marked (step u op writes reads a z)
step_is u op writes reads a z other w n e k = (record { outcome = not_so (is_guard op); names = record { writes = w; label = other } }, tt)

pub skip_is : (u : Around) (a z : ℕ) → IsOther u → Marked (skip u a z)
skip_is u a z other = step_is u Skip [] [] a z other tt

pub enter_is : (u : Around) (a z : ℕ) → IsOther u → Marked (enter_edge u a z)
enter_is u a z other n e k = (record { outcome = not_so false; names = record { writes = tt; label = other } }, tt)

pub back_is : (u : Around) (a z : ℕ) → IsOther u → Marked (back_edge u a z)
back_is u a z other n e k = (record { outcome = not_so false; names = record { writes = tt; label = other } }, tt)

pub label_is : (u : Around) (name : List ℕ) (a z : ℕ) → is_label u.statement ≡ true → Marked (label_edge u name a z)
label_is u name a z own n e k = (record { outcome = not_so false; names = record { writes = tt; label = (own, refl, refl, refl) } }, tt)

pub guard_is : (u : Around) (span : Span) (test : Expr) (reads : List (List ℕ)) (truth : Bool) (a z : ℕ) → IsOther u → Marked (guard u span test reads truth a z)
guard_is u span test reads truth a z other n e k = (record { outcome = λ so. refl; names = record { writes = tt; label = other } }, tt)

-- a node, and no edge
abbrev pub none : (n e k : ℕ) → Unit {0}
none n e k = tt
