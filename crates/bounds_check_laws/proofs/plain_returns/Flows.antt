-- Edges that return into plain cells alone, through what is made one after another.
use Rattle.std.proofs.Common.{ℕ, List, [], ◌∷◌, ◌++◌}
use Rattle.std.specs.List.{AllByRecursion}
use Rattle.cfa.specs.declared.parts.Edge.{Edge}
use Rattle.cfa.specs.declared.parts.Operation.{Operation}
use Rattle.cfa.specs.declared.parts.Operation.TheVariants.{Return}
use Rattle.bounds_check_laws.specs.ending_laws.Asking.{IsPlain}
use Rattle.c_lower_rules.specs.graph_of.Builder.{Builder, Flow, in_order, numbered, give, ◌then◌, ending, made_by}

-- a return puts its result into a plain cell, or nowhere
abbrev pub ReturnsInto : Operation → Type 0
ReturnsInto (Return call dest) = IsPlain dest
ReturnsInto _ = Unit {0}

abbrev pub IsPlainEdge : Edge → Type 0
IsPlainEdge e = ReturnsInto e.operation

abbrev pub ArePlain : List Edge → Type 0
ArePlain es = AllByRecursion IsPlainEdge es

plain_append : (xs ys : List Edge) → ArePlain xs → ArePlain ys → ArePlain (xs ++ ys)
plain_append [] ys h k = k
plain_append (x ∷ xs) ys h k = (h.0, plain_append xs ys h.1 k)

-- ---- what is made

abbrev pub Plain : Builder → Type 0
Plain b = (n e k : ℕ) → ArePlain (b n e k).edges

abbrev pub AllPlain : List Builder → Type 0
AllPlain bs = AllByRecursion Plain bs

pub in_order_is : (bs : List Builder) → AllPlain bs → Plain (in_order bs)
unfolding in_order
in_order_is [] h n e k = tt
in_order_is (b ∷ bs) h n e k = plain_append (b n e k).edges _ (h.0 n e k) (in_order_is bs h.1 _ _ _)

pub numbered_is : (parts : ℕ → ℕ → ℕ → List Builder) → ((n e k : ℕ) → AllPlain (parts n e k)) → Plain (numbered parts)
numbered_is parts h n e k = in_order_is (parts n e k) (h n e k) n e k

pub append_is : (bs cs : List Builder) → AllPlain bs → AllPlain cs → AllPlain (bs ++ cs)
append_is [] cs h k = k
append_is (b ∷ bs) cs h k = (h.0, append_is bs cs h.1 k)

-- ---- what is computed on the way

abbrev pub PlainFlow : {A : Type 0} → Flow A → Type 0
PlainFlow x = (a : ℕ) → Plain (made_by x a)

pub give_is : {A : Type 0} (v : A) → PlainFlow (give v)
give_is v a n e k = in_order_is [] tt n e k

pub then_is : {A B : Type 0} (x : Flow A) (f : A → Flow B) → PlainFlow x → ((v : A) → PlainFlow (f v)) → PlainFlow (x then f)
then_is x f h g a n e k =
    let v = x a n e k in
    in_order_is (made_by x a ∷ made_by (f v.gives) v.end ∷ []) (h a, (g v.gives v.end, tt)) n e k

pub ending_is : {A : Type 0} (x : Flow A) (f : A → ℕ → Builder) → PlainFlow x → ((v : A) (b : ℕ) → Plain (f v b)) → (a : ℕ) → Plain (ending x f a)
ending_is x f h g a n e k =
    let v = x a n e k in
    in_order_is (made_by x a ∷ f v.gives v.end ∷ []) (h a, (g v.gives v.end, tt)) n e k
