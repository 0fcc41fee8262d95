-- Names that stand: the temporaries ascend from one number to another, and the variables lie below a cell.
use Rattle.std.proofs.Common.{◌≡◌, ℕ, ◌+◌, ◌≤◌, Bool, true, false, List, [], ◌∷◌, ◌++◌, map, Option, Some, None, refl, sym, ap, subst, ◌∙◌, arith, rules}
use Rattle.std.specs.Prelude.{cond}
use Rattle.std.specs.List.{AllByRecursion}
use Rattle.std.proofs.lemmas.List.{append-nil, append_assoc, map-append}
use Rattle.fq_core.specs.declared.span.Span.{Span}
use Rattle.c_values.specs.declared.kinds.Kind.{Kind}
use Rattle.c_values.specs.declared.operators.UnaryOp.{UnaryOp}
use Rattle.c_values.specs.declared.operators.BinaryOp.{BinaryOp}
use Rattle.cfa.specs.declared.parts.Variable.{Variable}
use Rattle.cfa.specs.Kinds.{same_kind}
use Rattle.c_typed_trees.specs.declared.expression.Callee.{Callee}
use Rattle.c_typed_trees.specs.declared.expression.TypedCall.{TypedCall, roll-TypedCall}
use Rattle.c_typed_trees.specs.declared.expression.TypedExpr.{TypedExpr}
use Rattle.c_typed_trees.specs.declared.expression.TypedExprForm.{the_lemmas}
use Rattle.c_typed_trees.specs.declared.expression.TypedExprForm.TheVariants as forms
use Rattle.c_type_rules.specs.Expressions.{typed, converted_to, place_of, load_of}
use Rattle.tree_meaning_laws.specs.temporaries_apart.Named.{Named, no_names, names_then, names_in_order, names_at, with_variables, named, place_named, call_named, option_named, Ascend, IsBelow}
use Rattle.c_types_laws.proofs.typing_fits.Sound.{all_append}

-- ---- numbers that ascend

pub ascend_least : (from to : ℕ) (xs : List ℕ) → Ascend from to xs → from ≤ to
ascend_least from to [] h = h
ascend_least from to (x ∷ xs) h = (let l = ascend_least (x + 1) to xs h.1 in let k = h.0 in omega arith)

pub ascend_earlier : (before from to : ℕ) (xs : List ℕ) → before ≤ from → Ascend from to xs → Ascend before to xs
ascend_earlier before from to [] l h = omega arith
ascend_earlier before from to (x ∷ xs) l h = ((let k = h.0 in omega arith), h.1)

pub ascend_then : (from mid to : ℕ) (xs ys : List ℕ) → Ascend from mid xs → Ascend mid to ys → Ascend from to (xs ++ ys)
ascend_then from mid to [] ys h k = ascend_earlier from mid to ys h k
ascend_then from mid to (x ∷ xs) ys h k = (h.0, ascend_then (x + 1) mid to xs ys h.1 k)

-- a row that ascends is two, one behind the other
pub ascend_split : (from to : ℕ) (xs ys : List ℕ) → Ascend from to (xs ++ ys) → (mid : ℕ) × Ascend from mid xs × Ascend mid to ys
ascend_split from to [] ys h = (from, (let l : from ≤ from = omega arith in l), h)
ascend_split from to (x ∷ xs) ys h = (let r = ascend_split (x + 1) to xs ys h.1 in (r.0, (h.0, r.1), r.2))

-- ---- names

pub record Stands (end from to : ℕ) (n : Named) : Type 0 where
  pub ascend : Ascend from to n.temporaries
  pub below : AllByRecursion (IsBelow end) n.variables

pub all_front : {A : Type 0} (P : A → Type 0) (xs ys : List A) → AllByRecursion P (xs ++ ys) → AllByRecursion P xs
all_front P [] ys h = tt
all_front P (x ∷ xs) ys h = (h.0, all_front P xs ys h.1)

pub all_behind : {A : Type 0} (P : A → Type 0) (xs ys : List A) → AllByRecursion P (xs ++ ys) → AllByRecursion P ys
all_behind P [] ys h = h
all_behind P (x ∷ xs) ys h = all_behind P xs ys h.1

module _ (end : ℕ) where
  pub none_stands : (from to : ℕ) → from ≤ to → Stands end from to no_names
  none_stands from to l = record { ascend = l; below = tt }

  pub least : (from to : ℕ) (n : Named) → Stands end from to n → from ≤ to
  least from to n h = ascend_least from to n.temporaries h.ascend

  pub then_stands : (from mid to : ℕ) (a b : Named) → Stands end from mid a → Stands end mid to b → Stands end from to (names_then a b)
  then_stands from mid to a b h k = record {
    ascend = ascend_then from mid to a.temporaries b.temporaries h.ascend k.ascend;
    below = all_append (IsBelow end) a.variables b.variables h.below k.below;
  }

  -- the parts of what stands do, one behind the other
  pub stands_split : (from to : ℕ) (a b : Named) → Stands end from to (names_then a b) → (mid : ℕ) × Stands end from mid a × Stands end mid to b
  stands_split from to a b h =
      let r = ascend_split from to a.temporaries b.temporaries h.ascend in
      (r.0, record { ascend = r.1; below = all_front (IsBelow end) a.variables b.variables h.below }, record { ascend = r.2; below = all_behind (IsBelow end) a.variables b.variables h.below })

  pub at_stands : (cell to : ℕ) (a : Named) → Stands end (cell + 1) to a → Stands end cell to (names_at cell a)
  at_stands cell to a h = record { ascend = (omega arith, h.ascend); below = h.below }

  pub with_stands : (from to : ℕ) (vs : List Variable) (a : Named) → AllByRecursion (IsBelow end) vs → Stands end from to a → Stands end from to (with_variables vs a)
  with_stands from to vs a h k = record { ascend = k.ascend; below = all_append (IsBelow end) vs a.variables h k.below }

  -- names that are alone in a list
  pub alone_stands : (from to : ℕ) (a : Named) → Stands end from to a → Stands end from to (names_then a no_names)
  alone_stands from to a h = then_stands from to to a no_names h (none_stands to to (omega arith))

  pub only_stands : (from to : ℕ) (a : Named) → Stands end from to (names_then a no_names) → Stands end from to a
  only_stands from to a h = record {
    ascend = subst (Ascend from to) (append-nil a.temporaries) h.ascend;
    below = subst (AllByRecursion (IsBelow end)) (append-nil a.variables) h.below;
  }

in_order_append : (xs ys : List Named) → names_in_order (xs ++ ys) ≡ names_then (names_in_order xs) (names_in_order ys)
in_order_append [] ys = refl
in_order_append (x ∷ xs) ys =
    let e = in_order_append xs ys in
    let f = ap (λ (n : Named). x.temporaries ++ n.temporaries) e ∙ sym (append_assoc x.temporaries (names_in_order xs).temporaries (names_in_order ys).temporaries) in
    let g = ap (λ (n : Named). x.variables ++ n.variables) e ∙ sym (append_assoc x.variables (names_in_order xs).variables (names_in_order ys).variables) in
    λ i. record { temporaries = f i; variables = g i }

-- a list of things, by what each names
abbrev pub ListStands : {A : Type 0} → (A → Named) → (end from to : ℕ) → List A → Type 0
ListStands f end from to xs = Stands end from to (names_in_order (map f xs))

pub lists_stand : {A : Type 0} (f : A → Named) (end from mid to : ℕ) (xs ys : List A) → ListStands f end from mid xs → ListStands f end mid to ys → ListStands f end from to (xs ++ ys)
lists_stand f end from mid to xs ys h k =
    subst (Stands end from to) (sym (ap names_in_order (map-append f xs ys) ∙ in_order_append (map f xs) (map f ys)))
    (then_stands end from mid to (names_in_order (map f xs)) (names_in_order (map f ys)) h k)

-- ---- expressions

abbrev pub TreeStands : (end from to : ℕ) → TypedExpr → Type 0
TreeStands end from to e = Stands end from to (named e)

module _ (end : ℕ) (span : Span) where
  pub constant_stands : (kind : Kind) (v from to : ℕ) → from ≤ to → TreeStands end from to (typed span kind (forms.Constant v))
  unfolding named
  constant_stands kind v from to l = subst (Stands end from to) (sym is) (none_stands end from to l)
    where
      is : named (typed span kind (forms.Constant v)) ≡ no_names
      is = search (rules, the_lemmas)

  pub convert_stands : (kind : Kind) (a : TypedExpr) (from to : ℕ) → TreeStands end from to a → TreeStands end from to (typed span kind (forms.Convert a))
  unfolding named
  convert_stands kind a from to h = subst (Stands end from to) (sym is) h
    where
      is : named (typed span kind (forms.Convert a)) ≡ named a
      is = search (rules, the_lemmas)

  pub unary_stands : (kind : Kind) (op : UnaryOp) (a : TypedExpr) (from to : ℕ) → TreeStands end from to a → TreeStands end from to (typed span kind (forms.Unary op a))
  unfolding named
  unary_stands kind op a from to h = subst (Stands end from to) (sym is) h
    where
      is : named (typed span kind (forms.Unary op a)) ≡ named a
      is = search (rules, the_lemmas)

  pub binary_stands : (kind : Kind) (op : BinaryOp) (a b : TypedExpr) (from mid to : ℕ) → TreeStands end from mid a → TreeStands end mid to b → TreeStands end from to (typed span kind (forms.Binary op a b))
  unfolding named
  binary_stands kind op a b from mid to h k = subst (Stands end from to) (sym is) (then_stands end from mid to (named a) (named b) h k)
    where
      is : named (typed span kind (forms.Binary op a b)) ≡ names_then (named a) (named b)
      is = search (rules, the_lemmas)

  pub both_stands : (kind : Kind) (a b : TypedExpr) (cell mid to : ℕ) → TreeStands end (cell + 1) mid a → TreeStands end mid to b → TreeStands end cell to (typed span kind (forms.Both a b cell))
  unfolding named
  both_stands kind a b cell mid to h k =
      subst (Stands end cell to) (sym is) (at_stands end cell to (names_then (named a) (named b)) (then_stands end (cell + 1) mid to (named a) (named b) h k))
    where
      is : named (typed span kind (forms.Both a b cell)) ≡ names_at cell (names_then (named a) (named b))
      is = search (rules, the_lemmas)

  pub either_stands : (kind : Kind) (a b : TypedExpr) (cell mid to : ℕ) → TreeStands end (cell + 1) mid a → TreeStands end mid to b → TreeStands end cell to (typed span kind (forms.Either a b cell))
  unfolding named
  either_stands kind a b cell mid to h k =
      subst (Stands end cell to) (sym is) (at_stands end cell to (names_then (named a) (named b)) (then_stands end (cell + 1) mid to (named a) (named b) h k))
    where
      is : named (typed span kind (forms.Either a b cell)) ≡ names_at cell (names_then (named a) (named b))
      is = search (rules, the_lemmas)

  pub choice_stands : (kind : Kind) (c a b : TypedExpr) (cell mid next to : ℕ) → TreeStands end (cell + 1) mid c → TreeStands end mid next a → TreeStands end next to b → TreeStands end cell to (typed span kind (forms.Choice c a b cell))
  unfolding named
  choice_stands kind c a b cell mid next to h k l =
      subst (Stands end cell to) (sym is)
      (at_stands end cell to (names_then (named c) (names_then (named a) (named b)))
      (then_stands end (cell + 1) mid to (named c) (names_then (named a) (named b)) h (then_stands end mid next to (named a) (named b) k l)))
    where
      is : named (typed span kind (forms.Choice c a b cell)) ≡ names_at cell (names_then (named c) (names_then (named a) (named b)))
      is = search (rules, the_lemmas)

  pub called_stands : (kind : Kind) (c : TypedCall) (from to : ℕ) → Stands end from to (call_named c) → TreeStands end from to (typed span kind (forms.Call c))
  unfolding named call_named
  called_stands kind c from to h = subst (Stands end from to) (sym is) h
    where
      is : named (typed span kind (forms.Call c)) ≡ call_named c
      is = search (rules, the_lemmas)

-- ---- places and calls

module _ (end : ℕ) where
  pub whole_stands : (v : Variable) (from to : ℕ) → IsBelow end v → from ≤ to → Stands end from to (place_named (place_of v None))
  unfolding place_named
  whole_stands v from to h l = subst (Stands end from to) (sym is) (with_stands end from to (v ∷ []) no_names (h, tt) (none_stands end from to l))
    where
      is : place_named (place_of v None) ≡ with_variables (v ∷ []) no_names
      is = search (rules, the_lemmas)

  pub element_stands : (v : Variable) (i : TypedExpr) (from to : ℕ) → IsBelow end v → TreeStands end from to i → Stands end from to (place_named (place_of v (Some i)))
  unfolding place_named named
  element_stands v i from to h k = subst (Stands end from to) (sym is) (with_stands end from to (v ∷ []) (named i) (h, tt) k)
    where
      is : place_named (place_of v (Some i)) ≡ with_variables (v ∷ []) (named i)
      is = search (rules, the_lemmas)

  pub load_stands : (span : Span) (v : Variable) (index : Option TypedExpr) (from to : ℕ) → Stands end from to (place_named (place_of v index)) → TreeStands end from to (load_of span v index)
  unfolding place_named named
  load_stands span v index from to h = subst (Stands end from to) (sym is) h
    where
      is : named (load_of span v index) ≡ place_named (place_of v index)
      is = search (rules, the_lemmas)

  pub call_stands : (callee : Callee) (words : List TypedExpr) (arrays : List Variable) (cell to : ℕ) → AllByRecursion (IsBelow end) arrays → ListStands named end (cell + 1) to words
      → Stands end cell to (call_named (roll-TypedCall (record { callee = callee; words = words; arrays = arrays; cell = cell })))
  unfolding call_named named
  call_stands callee words arrays cell to h k =
      subst (Stands end cell to) (sym is) (at_stands end cell to (with_variables arrays (names_in_order (map named words))) (with_stands end (cell + 1) to arrays (names_in_order (map named words)) h k))
    where
      is : call_named (roll-TypedCall (record { callee = callee; words = words; arrays = arrays; cell = cell })) ≡ names_at cell (with_variables arrays (names_in_order (map named words)))
      is = search (rules, the_lemmas)

  -- a conversion names nothing
  pub converted_stands : (kind : Kind) (a : TypedExpr) (from to : ℕ) → TreeStands end from to a → TreeStands end from to (converted_to kind a)
  converted_stands kind a from to h = by (same_kind a.kind kind)
    where
      by : (t : Bool) → TreeStands end from to (cond t a (typed a.span kind (forms.Convert a)))
      by true = h
      by false = convert_stands end a.span kind a from to h

  pub option_stands : (o : Option TypedExpr) (from to : ℕ) → from ≤ to → ((a : TypedExpr) → o ≡ Some a → TreeStands end from to a) → Stands end from to (option_named o)
  option_stands None from to l h = none_stands end from to l
  option_stands (Some a) from to l h = h a refl
