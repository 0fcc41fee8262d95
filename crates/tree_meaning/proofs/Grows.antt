-- With more turns the same is done, if there were enough.
use Rattle.std.proofs.Common.{◌∙◌, ◌≡◌, ℕ, zero, suc, ◌+◌, ◌<◌, ◌≤◌, Bool, true, false, List, [], ◌∷◌, ◌++◌, map, drop, Option, Some, None, Result, Ok, Err, refl, sym, ap, subst, arith}
use Rattle.std.specs.Prelude.{nat_le, slice_get, cond}
use Rattle.c_values.specs.Kind.{converted}
use Rattle.c_values.specs.Operations.{unary_value}
use Rattle.c_values.specs.declared.kinds.Kind.{Kind}
use Rattle.c_values.specs.declared.operators.BinaryOp.{BinaryOp}
use Rattle.c_values.specs.declared.operators.UnaryOp.{UnaryOp}
use Rattle.c_meaning.specs.Steps.{value_before}
use Rattle.cfa.specs.Values.{after_value}
use Rattle.cfa.specs.declared.parts.InputFunction.{InputFunction}
use Rattle.cfa.specs.declared.parts.Variable.{Variable}
use Rattle.cfa.specs.declared.state.Trap.{Trap}
use Rattle.c_typed_trees.specs.declared.expression.Callee.{Callee}
use Rattle.c_typed_trees.specs.declared.expression.Callee.TheVariants.{Defined, Input}
use Rattle.c_typed_trees.specs.declared.unit.Typed.{Typed}
use Rattle.c_typed_trees.specs.declared.unit.TypedFunction.{TypedFunction}
use Rattle.tree_meaning.specs.Outcomes.{Store, End, Done, Gives, Ends, OutOfTurns, ◌andthen◌, unless_trap, Meaning, Evaluation, skip, is_true, turn_of}
use Rattle.tree_meaning.specs.declared.way.Way.{Way}
use Rattle.tree_meaning.specs.declared.way.Way.TheVariants.{GoesOn, Breaks, Continues, Returns}
use Rattle.tree_meaning.specs.declared.activation.Activation.{Activation}
use Rattle.tree_meaning.specs.Activations.{start_of, length_of, element_at, read, stored, cleared, with_activation, first_cells}
use Rattle.tree_meaning.specs.Expressions.{First, Rest, Meant, Placed, evaluate, both_parts, constant_meant, convert_meant, placed_at, load_meant, operated, unary_meant, binary_meant, part_meant, truth, if_true, both_does, if_false, either_does, chosen, choice_does}
use Rattle.tree_meaning.specs.Statements.{then_next, block, one_of, arms, combined, assign, put, declare, fill, declare_array, return_value, unless_false}
use Rattle.tree_meaning.specs.Loops.{after_body, pass, passes, while_loop, again_if, do_passes, do_loop, test_or, step_or, for_loop}
use Rattle.tree_meaning.specs.Switch.{Group, has_label, groups_from, groups_or, groups_at, after_switch, switch_on}
use Rattle.tree_meaning.specs.Calls.{Calls, first_parts, word_values, unless_deep, called, call_defined, answer, call_of, Bodies, give_result, run_function, calling}

abbrev pub more : ℕ → Store → Store
more d s = record { cells = s.cells; answers = s.answers; turns = s.turns + d }

-- what is done with more turns, where so many were there; turns never rise
abbrev pub Grown : {A : Type 0} → (d turns : ℕ) → Done A → Done A → Type 0
Grown d turns (Gives x s) r = (r ≡ Gives x (more d s)) × (s.turns ≤ turns)
Grown d turns (Ends end) r = r ≡ Ends end
Grown d turns OutOfTurns r = Unit {0}

pub grown_less : {A : Type 0} (d low high : ℕ) (x y : Done A) → low ≤ high → Grown d low x y → Grown d high x y
grown_less d low high (Gives v s) y l h = (h.0, omega (arith, l, h.1))
grown_less d low high (Ends end) y l h = h
grown_less d low high OutOfTurns y l h = tt

pub grown_then : {A B : Type 0} (d turns : ℕ) (x y : Done A) (k k' : A → Store → Done B) → Grown d turns x y
    → ((v : A) (s : Store) → s.turns ≤ turns → Grown d s.turns (k v s) (k' v (more d s))) → Grown d turns (x andthen k) (y andthen k')
grown_then d turns (Gives v s) y k k' h rest =
    let r = grown_less d s.turns turns (k v s) (k' v (more d s)) h.1 (rest v s h.1) in
    subst (λ (q : Done _). Grown d turns (k v s) (q andthen k')) (sym h.0) r
grown_then d turns (Ends end) y k k' h rest = ap (λ (q : Done _). q andthen k') h
grown_then d turns OutOfTurns y k k' h rest = tt

pub grown_trap : {A B : Type 0} (d turns : ℕ) (r : Result A Trap) (k k' : A → Done B) → ((v : A) → Grown d turns (k v) (k' v)) → Grown d turns (unless_trap r k) (unless_trap r k')
grown_trap d turns (Ok v) k k' h = h v
grown_trap d turns (Err t) k k' h = refl

pub grown_turn : {A : Type 0} (d q r : ℕ) (s : Store) (k k' : Store → Done A) → s.turns ≡ q → s.turns + d ≡ r → ((s' : Store) → s'.turns < s.turns → Grown d s'.turns (k s') (k' (more d s')))
    → Grown d s.turns (turn_of q s k) (turn_of r (more d s) k')
grown_turn d zero r s k k' is sum h = tt
grown_turn d (suc q) zero s k k' is sum h = absurd (omega (arith, is, sum))
grown_turn d (suc q) (suc r) s k k' is sum h =
    let s' : Store = record { cells = s.cells; answers = s.answers; turns = q } in
    let same : q + d ≡ r = omega (arith, is, sum) in
    let more_is : more d s' ≡ record { cells = s.cells; answers = s.answers; turns = r } = ap (λ t. record { cells = s.cells; answers = s.answers; turns = t }) same in
    let first : Grown d q (k s') (k' (record { cells = s.cells; answers = s.answers; turns = r })) = subst (λ (z : Store). Grown d q (k s') (k' z)) more_is (h s' (omega (arith, is))) in
    grown_less d q s.turns _ _ (omega (arith, is)) first

-- ---- what two meanings do, where calls within one another are bounded by two numbers

module _ (d n n' : ℕ) where
  -- the bounds lie above the turns
  abbrev pub Enough : ℕ → Type 0
  Enough q = (q < n) × (q + d < n')

  pub enough_less : (p q : ℕ) → p ≤ q → Enough q → Enough p
  enough_less p q l e = (omega (arith, l, e.0), omega (arith, l, e.1))

  abbrev pub Grows : {A : Type 0} → (Store → Done A) → (Store → Done A) → Type 0
  Grows m m' = (s : Store) → Enough s.turns → Grown d s.turns (m s) (m' (more d s))

  pub then_grows : {A B : Type 0} (m m' : Store → Done A) (k k' : A → Store → Done B) → Grows m m' → ((v : A) → Grows (k v) (k' v)) → Grows (λ s. m s andthen k) (λ s. m' s andthen k')
  then_grows m m' k k' h g s e = grown_then d s.turns (m s) (m' (more d s)) k k' (h s e) (λ v s' less. g v s' (enough_less s'.turns s.turns less e))

  pub give_grows : {A : Type 0} (x : A) → Grows (λ s. Gives x s) (λ s. Gives x s)
  give_grows x s e = (refl, omega arith)

  -- ---- expressions

  abbrev pub FirstGrows : First → First → Type 0
  FirstGrows m m' = (vs : List ℕ) → Grows (m vs) (m' vs)

  pub record MeantGrow (m m' : Meant) : Type 0 where
    pub kind : m.kind ≡ m'.kind
    pub parts : m.parts ≡ m'.parts
    pub first : FirstGrows m.first m'.first
    pub rest : m.rest ≡ m'.rest

  pub record PlacedGrow (p p' : Placed) : Type 0 where
    pub variable : p.variable ≡ p'.variable
    pub parts : p.parts ≡ p'.parts
    pub first : FirstGrows p.first p'.first
    pub cell : p.cell ≡ p'.cell

  pub evaluate_grows : (m m' : Meant) → MeantGrow m m' → Grows (evaluate m) (evaluate m')
  evaluate_grows m m' h =
      subst (λ (r : Rest). Grows (evaluate m) (λ s. m'.first [] s andthen λ vs s'. unless_trap (r vs s'.cells) (λ v. Gives v s'))) h.rest
      (then_grows (m.first []) (m'.first []) (λ vs s'. unless_trap (m.rest vs s'.cells) (λ v. Gives v s')) (λ vs s'. unless_trap (m.rest vs s'.cells) (λ v. Gives v s')) (h.first [])
      (λ vs s e. grown_trap d s.turns (m.rest vs s.cells) (λ v. Gives v s) (λ v. Gives v (more d s)) (λ v. (refl, omega arith))))

  pub constant_grows : (v : ℕ) (kind : Kind) → MeantGrow (constant_meant v kind) (constant_meant v kind)
  constant_grows v kind = record { kind = refl; parts = refl; first = λ vs. give_grows vs; rest = refl }

  pub convert_grows : (m m' : Meant) (kind : Kind) → MeantGrow m m' → MeantGrow (convert_meant m kind) (convert_meant m' kind)
  convert_grows m m' kind h = record { kind = refl; parts = h.parts; first = h.first; rest = λ i vs cells. after_value (h.rest i vs cells) (λ v. Ok (converted (h.kind i) kind v)) }

  pub whole_grows : (a : Activation) (v : Variable) → PlacedGrow (placed_at a v None) (placed_at a v None)
  whole_grows a v = record { variable = refl; parts = refl; first = λ vs. give_grows vs; cell = refl }

  pub element_grows : (a : Activation) (v : Variable) (m m' : Meant) → MeantGrow m m' → PlacedGrow (placed_at a v (Some m)) (placed_at a v (Some m'))
  element_grows a v m m' h = record { variable = refl; parts = h.parts; first = h.first; cell = λ i vs cells. after_value (h.rest i vs cells) (λ j. element_at a v (h.kind i) j) }

  pub load_grows : (p p' : Placed) (kind : Kind) → PlacedGrow p p' → MeantGrow (load_meant p kind) (load_meant p' kind)
  load_grows p p' kind h = record { kind = refl; parts = h.parts; first = h.first; rest = λ i vs cells. after_value (h.cell i vs cells) (λ cell. Ok (read cells kind cell)) }

  pub unary_grows : (op : UnaryOp) (m m' : Meant) (kind : Kind) → MeantGrow m m' → MeantGrow (unary_meant op m kind) (unary_meant op m' kind)
  unary_grows op m m' kind h = record { kind = refl; parts = h.parts; first = h.first; rest = λ i vs cells. after_value (h.rest i vs cells) (λ v. Ok (unary_value op (h.kind i) v)) }

  pub both_parts_grow : (m m' k k' : First) → FirstGrows m m' → FirstGrows k k' → FirstGrows (both_parts m k) (both_parts m' k')
  both_parts_grow m m' k k' h g vs = then_grows (m vs) (m' vs) k k' (h vs) g

  pub binary_grows : (op : BinaryOp) (x x' y y' : Meant) (kind : Kind) → MeantGrow x x' → MeantGrow y y' → MeantGrow (binary_meant op x y kind) (binary_meant op x' y' kind)
  binary_grows op x x' y y' kind h g = record {
    kind = refl;
    parts = λ i. h.parts i + g.parts i;
    first = both_parts_grow x.first x'.first y.first y'.first h.first g.first;
    rest = λ i vs cells. after_value (h.rest i vs cells) (λ v. after_value (g.rest i (drop (h.parts i) vs) cells) (λ w. operated op (h.kind i) (g.kind i) v w));
  }

  pub part_grows : (m m' : Evaluation) (kind : Kind) → Grows m m' → MeantGrow (part_meant m kind) (part_meant m' kind)
  part_grows m m' kind h = record { kind = refl; parts = refl; first = λ vs. then_grows m m' (λ v s. Gives (vs ++ v ∷ []) s) (λ v s. Gives (vs ++ v ∷ []) s) h (λ v. give_grows (vs ++ v ∷ [])); rest = refl }

  truth_grows : (m m' : Evaluation) → Grows m m' → Grows (λ s. m s andthen λ v s'. Gives (truth (is_true v)) s') (λ s. m' s andthen λ v s'. Gives (truth (is_true v)) s')
  truth_grows m m' h = then_grows m m' (λ v s. Gives (truth (is_true v)) s) (λ v s. Gives (truth (is_true v)) s) h (λ v. give_grows (truth (is_true v)))

  if_true_grows : (m m' : Evaluation) → Grows m m' → (b : Bool) → Grows (if_true m b) (if_true m' b)
  if_true_grows m m' h true = truth_grows m m' h
  if_true_grows m m' h false = give_grows 0

  if_false_grows : (m m' : Evaluation) → Grows m m' → (b : Bool) → Grows (if_false m b) (if_false m' b)
  if_false_grows m m' h true = give_grows 1
  if_false_grows m m' h false = truth_grows m m' h

  chosen_grows : (m m' k k' : Evaluation) → Grows m m' → Grows k k' → (b : Bool) → Grows (chosen m k b) (chosen m' k' b)
  chosen_grows m m' k k' h g true = h
  chosen_grows m m' k k' h g false = g

  pub both_grows : (m m' k k' : Evaluation) → Grows m m' → Grows k k' → Grows (both_does m k) (both_does m' k')
  both_grows m m' k k' h g = then_grows m m' (λ v s. if_true k (is_true v) s) (λ v s. if_true k' (is_true v) s) h (λ v. if_true_grows k k' g (is_true v))

  pub either_grows : (m m' k k' : Evaluation) → Grows m m' → Grows k k' → Grows (either_does m k) (either_does m' k')
  either_grows m m' k k' h g = then_grows m m' (λ v s. if_false k (is_true v) s) (λ v s. if_false k' (is_true v) s) h (λ v. if_false_grows k k' g (is_true v))

  pub choice_grows : (m m' x x' y y' : Evaluation) → Grows m m' → Grows x x' → Grows y y' → Grows (choice_does m x y) (choice_does m' x' y')
  choice_grows m m' x x' y y' h g k = then_grows m m' (λ v s. chosen x y (is_true v) s) (λ v s. chosen x' y' (is_true v) s) h (λ v. chosen_grows x x' y y' g k (is_true v))

  -- ---- calls

  abbrev pub AllGrow : List Meant → List Meant → Type 0
  AllGrow [] [] = Unit {0}
  AllGrow (x ∷ xs) (y ∷ ys) = MeantGrow x y × AllGrow xs ys
  AllGrow [] (y ∷ ys) = ⊥
  AllGrow (x ∷ xs) [] = ⊥

  abbrev pub CallsGrow : Calls → Calls → Type 0
  CallsGrow calls calls' = (callee : ℕ) (a : Activation) (words : List ℕ) → Grows (calls callee a words) (calls' callee a words)

  first_parts_grow : (xs ys : List Meant) → AllGrow xs ys → FirstGrows (first_parts xs) (first_parts ys)
  first_parts_grow [] [] h vs = give_grows vs
  first_parts_grow [] (y ∷ ys) h vs = absurd h
  first_parts_grow (x ∷ xs) [] h vs = absurd h
  first_parts_grow (x ∷ xs) (y ∷ ys) h vs = then_grows (x.first vs) (y.first vs) (first_parts xs) (first_parts ys) (h.0.first vs) (first_parts_grow xs ys h.1)

  values_same : (xs ys : List Meant) (vs : List ℕ) (cells : List ℕ) → AllGrow xs ys → word_values xs vs cells ≡ word_values ys vs cells
  values_same [] [] vs cells h = refl
  values_same [] (y ∷ ys) vs cells h = absurd h
  values_same (x ∷ xs) [] vs cells h = absurd h
  values_same (x ∷ xs) (y ∷ ys) vs cells h = (λ i. value_before (h.0.rest i vs cells) (word_values xs (drop (h.0.parts i) vs) cells)) ∙ ap (value_before (y.rest vs cells)) (values_same xs ys (drop y.parts vs) cells h.1)

  deep_grown : (turns : ℕ) (b : Bool) (x y : Done ℕ) → Grown d turns x y → Grown d turns (unless_deep b x) (unless_deep b y)
  deep_grown turns true x y h = refl
  deep_grown turns false x y h = h

  defined_grows : (calls calls' : Calls) → CallsGrow calls calls' → (a : Activation) (callee : ℕ) (xs ys : List Meant) (arrays : List Variable) → AllGrow xs ys → Grows (call_defined calls a callee xs arrays) (call_defined calls' a callee ys arrays)
  defined_grows calls calls' g a callee xs ys arrays h =
      then_grows (first_parts xs []) (first_parts ys [])
      (λ vss s. unless_deep (nat_le 64 a.depth) (unless_trap (word_values xs vss s.cells) (λ values. calls callee (called a arrays s) values s)))
      (λ vss s. unless_deep (nat_le 64 a.depth) (unless_trap (word_values ys vss s.cells) (λ values. calls' callee (called a arrays s) values s)))
      (first_parts_grow xs ys h [])
      (λ vss s e. deep_grown s.turns (nat_le 64 a.depth) _ _
      (subst (λ r. Grown d s.turns (unless_trap (word_values xs vss s.cells) (λ values. calls callee (called a arrays s) values s)) (unless_trap r (λ values. calls' callee (called a arrays s) values (more d s)))) (values_same xs ys vss s.cells h)
      (grown_trap d s.turns (word_values xs vss s.cells) (λ values. calls callee (called a arrays s) values s) (λ values. calls' callee (called a arrays s) values (more d s)) (λ values. g callee (called a arrays s) values s e))))

  answer_grows : (f : Option InputFunction) → Grows (answer f) (answer f)
  answer_grows None s e = refl
  answer_grows (Some f) s e = (refl, omega arith)

  pub call_grows : (t : Typed) (calls calls' : Calls) → CallsGrow calls calls' → (a : Activation) (callee : Callee) (xs ys : List Meant) (arrays : List Variable) → AllGrow xs ys
      → Grows (call_of t calls a callee xs arrays) (call_of t calls' a callee ys arrays)
  call_grows t calls calls' g a (Defined i) xs ys arrays h = defined_grows calls calls' g a i xs ys arrays h
  call_grows t calls calls' g a (Input i) xs ys arrays h = answer_grows (slice_get t.inputs i)

  -- ---- statements

  abbrev pub RowGrows : List Meaning → List Meaning → Type 0
  RowGrows [] [] = Unit {0}
  RowGrows (m ∷ ms) (m' ∷ ms') = Grows m m' × RowGrows ms ms'
  RowGrows [] (m' ∷ ms') = ⊥
  RowGrows (m ∷ ms) [] = ⊥

  next_grows : (k k' : Meaning) → Grows k k' → (way : Way) → Grows (then_next k way) (then_next k' way)
  next_grows k k' h GoesOn = h
  next_grows k k' h Breaks = give_grows Breaks
  next_grows k k' h Continues = give_grows Continues
  next_grows k k' h Returns = give_grows Returns

  pub block_grows : (ms ms' : List Meaning) → RowGrows ms ms' → Grows (block ms) (block ms')
  unfolding block
  block_grows [] [] h = give_grows GoesOn
  block_grows [] (m' ∷ ms') h = absurd h
  block_grows (m ∷ ms) [] h = absurd h
  block_grows (m ∷ ms) (m' ∷ ms') h = then_grows m m' (then_next (block ms)) (then_next (block ms')) h.0 (next_grows (block ms) (block ms') (block_grows ms ms' h.1))

  one_grows : (m m' k k' : Meaning) → Grows m m' → Grows k k' → (b : Bool) → Grows (one_of m k b) (one_of m' k' b)
  one_grows m m' k k' h g true = h
  one_grows m m' k k' h g false = g

  abbrev pub ArmsGrow : List (Evaluation × Meaning) → List (Evaluation × Meaning) → Type 0
  ArmsGrow [] [] = Unit {0}
  ArmsGrow (x ∷ xs) (y ∷ ys) = (Grows x.0 y.0 × Grows x.1 y.1) × ArmsGrow xs ys
  ArmsGrow [] (y ∷ ys) = ⊥
  ArmsGrow (x ∷ xs) [] = ⊥

  abbrev pub OptionGrows : {A : Type 0} → Option (Store → Done A) → Option (Store → Done A) → Type 0
  OptionGrows None None = Unit {0}
  OptionGrows (Some m) (Some m') = Grows m m'
  OptionGrows None (Some m') = ⊥
  OptionGrows (Some m) None = ⊥

  pub arms_grow : (xs ys : List (Evaluation × Meaning)) (o o' : Option Meaning) → ArmsGrow xs ys → OptionGrows o o' → Grows (arms xs o) (arms ys o')
  unfolding arms
  arms_grow [] [] None None h g = give_grows GoesOn
  arms_grow [] [] None (Some m') h g = absurd g
  arms_grow [] [] (Some m) None h g = absurd g
  arms_grow [] [] (Some m) (Some m') h g = g
  arms_grow [] (y ∷ ys) o o' h g = absurd h
  arms_grow (x ∷ xs) [] o o' h g = absurd h
  arms_grow (x ∷ xs) (y ∷ ys) o o' h g =
      then_grows x.0 y.0 (λ v s. one_of x.1 (arms xs o) (is_true v) s) (λ v s. one_of y.1 (arms ys o') (is_true v) s) h.0.0
      (λ v. one_grows x.1 y.1 (arms xs o) (arms ys o') h.0.1 (arms_grow xs ys o o' h.1 g) (is_true v))

  abbrev assigned : Variable → Option (BinaryOp × Kind) → (p : Rest) → Kind → Rest → List ℕ → List ℕ → Store → Done Way
  assigned v op cell kind rest is vs s = unless_trap (cell is s.cells) (λ c. unless_trap (after_value (rest vs s.cells) (combined v.kind op kind s.cells c)) (λ w. Gives GoesOn (stored s c w)))

  assigned_grows : (v : Variable) (op : Option (BinaryOp × Kind)) (cell : Rest) (kind : Kind) (rest : Rest) (is vs : List ℕ) → Grows (assigned v op cell kind rest is vs) (assigned v op cell kind rest is vs)
  assigned_grows v op cell kind rest is vs s e =
      grown_trap d s.turns (cell is s.cells) _ _ (λ c. grown_trap d s.turns (after_value (rest vs s.cells) (combined v.kind op kind s.cells c)) _ _ (λ w. (refl, omega arith)))

  pub assign_grows : (p p' : Placed) (op : Option (BinaryOp × Kind)) (x x' : Meant) → PlacedGrow p p' → MeantGrow x x' → Grows (assign p op x) (assign p' op x')
  assign_grows p p' op x x' h g =
      then_grows (p.first []) (p'.first []) (λ is s1. x.first [] s1 andthen λ vs s2. assigned p.variable op p.cell x.kind x.rest is vs s2) (λ is s1. x'.first [] s1 andthen λ vs s2. assigned p'.variable op p'.cell x'.kind x'.rest is vs s2) (h.first [])
      (λ is. then_grows (x.first []) (x'.first []) (assigned p.variable op p.cell x.kind x.rest is) (assigned p'.variable op p'.cell x'.kind x'.rest is) (g.first [])
      (λ vs. ends is vs))
    where
      ends : (is vs : List ℕ) → Grows (assigned p.variable op p.cell x.kind x.rest is vs) (assigned p'.variable op p'.cell x'.kind x'.rest is vs)
      ends is vs = subst (λ (m : Store → Done Way). Grows (assigned p.variable op p.cell x.kind x.rest is vs) m) (λ i. assigned (h.variable i) op (h.cell i) (g.kind i) (g.rest i) is vs) (assigned_grows p.variable op p.cell x.kind x.rest is vs)

  put_grows : (cell : ℕ) (x x' : Meant) → MeantGrow x x' → Grows (put cell x) (put cell x')
  put_grows cell x x' h = then_grows (evaluate x) (evaluate x') (λ v s. Gives GoesOn (stored s cell v)) (λ v s. Gives GoesOn (stored s cell v)) (evaluate_grows x x' h) (λ v s e. (refl, omega arith))

  abbrev pub OptionMeant : Option Meant → Option Meant → Type 0
  OptionMeant None None = Unit {0}
  OptionMeant (Some m) (Some m') = MeantGrow m m'
  OptionMeant None (Some m') = ⊥
  OptionMeant (Some m) None = ⊥

  pub declare_grows : (a : Activation) (v : Variable) (o o' : Option Meant) → OptionMeant o o' → Grows (declare a v o) (declare a v o')
  declare_grows a v None None h s e = (refl, omega arith)
  declare_grows a v None (Some m') h s e = absurd h
  declare_grows a v (Some m) None h s e = absurd h
  declare_grows a v (Some m) (Some m') h s e = put_grows (start_of a v.place) m m' h s e

  fill_grows : (cell : ℕ) (xs ys : List Meant) → AllGrow xs ys → Grows (fill cell xs) (fill cell ys)
  unfolding fill
  fill_grows cell [] [] h = give_grows GoesOn
  fill_grows cell [] (y ∷ ys) h = absurd h
  fill_grows cell (x ∷ xs) [] h = absurd h
  fill_grows cell (x ∷ xs) (y ∷ ys) h =
      then_grows (put cell x) (put cell y) (then_next (fill (cell + 1) xs)) (then_next (fill (cell + 1) ys)) (put_grows cell x y h.0) (next_grows (fill (cell + 1) xs) (fill (cell + 1) ys) (fill_grows (cell + 1) xs ys h.1))

  pub array_grows : (a : Activation) (v : Variable) (xs ys : List Meant) → AllGrow xs ys → Grows (declare_array a v xs) (declare_array a v ys)
  array_grows a v xs ys h s e = fill_grows (start_of a v.place) xs ys h (cleared s (start_of a v.place) (length_of v.length)) e

  pub return_grows : (a : Activation) (o o' : Option Meant) → OptionMeant o o' → Grows (return_value a o) (return_value a o')
  return_grows a None None h = give_grows Returns
  return_grows a None (Some m') h = absurd h
  return_grows a (Some m) None h = absurd h
  return_grows a (Some m) (Some m') h = then_grows (evaluate m) (evaluate m') (λ v s. Gives Returns (stored s a.base v)) (λ v s. Gives Returns (stored s a.base v)) (evaluate_grows m m' h) (λ v s e. (refl, omega arith))

  unless_grows : (end : End) (b : Bool) → Grows (unless_false end b) (unless_false end b)
  unless_grows end true s e = (refl, omega arith)
  unless_grows end false s e = refl

  pub tested_grows : (end : End) (m m' : Meant) → MeantGrow m m' → Grows (λ s. evaluate m s andthen λ v s'. unless_false end (is_true v) s') (λ s. evaluate m' s andthen λ v s'. unless_false end (is_true v) s')
  tested_grows end m m' h = then_grows (evaluate m) (evaluate m') (λ v s. unless_false end (is_true v) s) (λ v s. unless_false end (is_true v) s) (evaluate_grows m m' h) (λ v. unless_grows end (is_true v))

  pub call_statement_grows : (m m' : Evaluation) → Grows m m' → Grows (λ s. m s andthen λ v s'. Gives GoesOn s') (λ s. m' s andthen λ v s'. Gives GoesOn s')
  call_statement_grows m m' h = then_grows m m' (λ v s. Gives GoesOn s) (λ v s. Gives GoesOn s) h (λ v. give_grows GoesOn)

  -- ---- loops, whose passes are bounded by two numbers more

  abbrev Again : (p p' : ℕ) → Meaning → Meaning → Type 0
  Again p p' m m' = (s : Store) → s.turns < p → s.turns + d < p' → Enough s.turns → Grown d s.turns (m s) (m' (more d s))

  after_grown : (q : ℕ) (again again' : Meaning) → ((s : Store) → s.turns ≤ q → Grown d s.turns (again s) (again' (more d s))) → (way : Way) (s : Store) → s.turns ≤ q → Grown d s.turns (after_body again way s) (after_body again' way (more d s))
  after_grown q again again' h GoesOn s l = h s l
  after_grown q again again' h Breaks s l = (refl, omega arith)
  after_grown q again again' h Continues s l = h s l
  after_grown q again again' h Returns s l = (refl, omega arith)

  -- a pass takes a turn, so that what comes behind has fewer
  pass_grown : (body body' behind behind' : Meaning) → Grows body body' → (p p' : ℕ) → Again p p' behind behind' → (b : Bool) (s : Store) → s.turns ≤ p → s.turns + d ≤ p' → Enough s.turns → Grown d s.turns (pass body behind b s) (pass body' behind' b (more d s))
  pass_grown body body' behind behind' h p p' again false s l l' e = (refl, omega arith)
  pass_grown body body' behind behind' h p p' again true s l l' e =
      grown_turn d s.turns (s.turns + d) s (λ s'. body s' andthen after_body behind) (λ s'. body' s' andthen after_body behind') refl refl
      (λ s' less. grown_then d s'.turns (body s') (body' (more d s')) (after_body behind) (after_body behind') (h s' (enough_less s'.turns s.turns (omega (arith, less)) e))
      (after_grown s'.turns behind behind' (λ s'' few. again s'' (omega (arith, few, less, l)) (omega (arith, few, less, l')) (enough_less s''.turns s.turns (omega (arith, few, less)) e))))

  module _ (test test' : Evaluation) (body body' step step' : Meaning) (tests : Grows test test') (does : Grows body body') (steps : Grows step step') where
    pub passes_grow : (p p' : ℕ) → Again p p' (passes p test body step) (passes p' test' body' step')
    unfolding passes
    passes_grow zero p' s l l' e = absurd (omega (arith, l))
    passes_grow (suc p) zero s l l' e = absurd (omega (arith, l'))
    passes_grow (suc p) (suc p') s l l' e =
        grown_then d s.turns (test s) (test' (more d s))
        (λ v s'. pass body (λ s''. step s'' andthen then_next (passes p test body step)) (is_true v) s') (λ v s'. pass body' (λ s''. step' s'' andthen then_next (passes p' test' body' step')) (is_true v) s') (tests s e)
        (λ v s' few. pass_grown body body' (λ s''. step s'' andthen then_next (passes p test body step)) (λ s''. step' s'' andthen then_next (passes p' test' body' step')) does p p'
        (stepped p p' (passes_grow p p')) (is_true v) s' (omega (arith, few, l)) (omega (arith, few, l')) (enough_less s'.turns s.turns few e))
      where
        next_grown : (q : ℕ) (k k' : Meaning) → ((s : Store) → s.turns ≤ q → Grown d s.turns (k s) (k' (more d s))) → (way : Way) (s : Store) → s.turns ≤ q → Grown d s.turns (then_next k way s) (then_next k' way (more d s))
        next_grown q k k' h GoesOn s l = h s l
        next_grown q k k' h Breaks s l = (refl, omega arith)
        next_grown q k k' h Continues s l = (refl, omega arith)
        next_grown q k k' h Returns s l = (refl, omega arith)

        stepped : (p p' : ℕ) → Again p p' (passes p test body step) (passes p' test' body' step') → Again p p' (λ s''. step s'' andthen then_next (passes p test body step)) (λ s''. step' s'' andthen then_next (passes p' test' body' step'))
        stepped p p' again s l l' e =
            grown_then d s.turns (step s) (step' (more d s)) (then_next (passes p test body step)) (then_next (passes p' test' body' step')) (steps s e)
            (next_grown s.turns (passes p test body step) (passes p' test' body' step') (λ s'' few. again s'' (omega (arith, few, l)) (omega (arith, few, l')) (enough_less s''.turns s.turns few e)))

  pub while_grows : (test test' : Evaluation) (body body' : Meaning) → Grows test test' → Grows body body' → Grows (while_loop test body) (while_loop test' body')
  while_grows test test' body body' h g s e = passes_grow test test' body body' skip skip h g (give_grows GoesOn) (s.turns + 1) (s.turns + d + 1) s (omega arith) (omega arith) e

  module _ (test test' : Evaluation) (body body' : Meaning) (tests : Grows test test') (does : Grows body body') where
    again_grown : (p p' : ℕ) (again again' : Meaning) → ((s : Store) → s.turns ≤ p → Grown d s.turns (again s) (again' (more d s))) → (b : Bool) (s : Store) → s.turns ≤ p → Grown d s.turns (again_if again b s) (again_if again' b (more d s))
    again_grown p p' again again' h true s l = h s l
    again_grown p p' again again' h false s l = (refl, omega arith)

    do_grow : (p p' : ℕ) → Again p p' (do_passes p body test) (do_passes p' body' test')
    unfolding do_passes
    do_grow zero p' s l l' e = absurd (omega (arith, l))
    do_grow (suc p) zero s l l' e = absurd (omega (arith, l'))
    do_grow (suc p) (suc p') s l l' e =
        pass_grown body body' (λ s'. test s' andthen λ v s''. again_if (do_passes p body test) (is_true v) s'') (λ s'. test' s' andthen λ v s''. again_if (do_passes p' body' test') (is_true v) s'') does p p'
        (behind p p' (do_grow p p')) true s (omega (arith, l)) (omega (arith, l')) e
      where
        behind : (p p' : ℕ) → Again p p' (do_passes p body test) (do_passes p' body' test')
            → Again p p' (λ s'. test s' andthen λ v s''. again_if (do_passes p body test) (is_true v) s'') (λ s'. test' s' andthen λ v s''. again_if (do_passes p' body' test') (is_true v) s'')
        behind p p' again s l l' e =
            grown_then d s.turns (test s) (test' (more d s)) (λ v s''. again_if (do_passes p body test) (is_true v) s'') (λ v s''. again_if (do_passes p' body' test') (is_true v) s'') (tests s e)
            (λ v s' few. again_grown s.turns s.turns (do_passes p body test) (do_passes p' body' test') (λ s'' few'. again s'' (omega (arith, few', l)) (omega (arith, few', l')) (enough_less s''.turns s.turns few' e)) (is_true v) s' few)

    pub do_grows : Grows (do_loop body test) (do_loop body' test')
    do_grows s e = do_grow (s.turns + 1) (s.turns + d + 1) s (omega arith) (omega arith) e

  test_or_grows : (o o' : Option Evaluation) → OptionGrows o o' → Grows (test_or o) (test_or o')
  test_or_grows None None h = give_grows 1
  test_or_grows None (Some m') h = absurd h
  test_or_grows (Some m) None h = absurd h
  test_or_grows (Some m) (Some m') h = h

  step_or_grows : (o o' : Option Meaning) → OptionGrows o o' → Grows (step_or o) (step_or o')
  step_or_grows None None h = give_grows GoesOn
  step_or_grows None (Some m') h = absurd h
  step_or_grows (Some m) None h = absurd h
  step_or_grows (Some m) (Some m') h = h

  pub for_grows : (first first' : List Meaning) (test test' : Option Evaluation) (step step' : Option Meaning) (body body' : Meaning) → RowGrows first first' → OptionGrows test test' → OptionGrows step step' → Grows body body'
      → Grows (for_loop first test step body) (for_loop first' test' step' body')
  for_grows first first' test test' step step' body body' h k l g =
      then_grows (block first) (block first') (then_next (λ s'. passes (s'.turns + 1) (test_or test) body (step_or step) s')) (then_next (λ s'. passes (s'.turns + 1) (test_or test') body' (step_or step') s')) (block_grows first first' h)
      (next_grows (λ s'. passes (s'.turns + 1) (test_or test) body (step_or step) s') (λ s'. passes (s'.turns + 1) (test_or test') body' (step_or step') s')
      (λ s e. passes_grow (test_or test) (test_or test') body body' (step_or step) (step_or step') (test_or_grows test test' k) g (step_or_grows step step' l) (s.turns + 1) (s.turns + d + 1) s (omega arith) (omega arith) e))

  -- ---- `switch`

  abbrev pub GroupGrow : Group → Group → Type 0
  GroupGrow g g' = (g.labels ≡ g'.labels) × Grows g.does g'.does

  abbrev pub GroupsGrow : List Group → List Group → Type 0
  GroupsGrow [] [] = Unit {0}
  GroupsGrow (g ∷ gs) (g' ∷ gs') = GroupGrow g g' × GroupsGrow gs gs'
  GroupsGrow [] (g' ∷ gs') = ⊥
  GroupsGrow (g ∷ gs) [] = ⊥

  abbrev OptionGroups : Option (List Group) → Option (List Group) → Type 0
  OptionGroups None None = Unit {0}
  OptionGroups (Some gs) (Some gs') = GroupsGrow gs gs'
  OptionGroups None (Some gs') = ⊥
  OptionGroups (Some gs) None = ⊥

  if_groups : (b b' : Bool) (x x' y y' : Option (List Group)) → b ≡ b' → OptionGroups x x' → OptionGroups y y' → OptionGroups (cond b x y) (cond b' x' y')
  if_groups b b' x x' y y' e h k = subst (λ c. OptionGroups (cond b x y) (cond c x' y')) e (by b)
    where
      by : (c : Bool) → OptionGroups (cond c x y) (cond c x' y')
      by true = h
      by false = k

  from_grow : (label : Option ℕ) (gs gs' : List Group) → GroupsGrow gs gs' → OptionGroups (groups_from label gs) (groups_from label gs')
  from_grow label [] [] h = tt
  from_grow label [] (g' ∷ gs') h = absurd h
  from_grow label (g ∷ gs) [] h = absurd h
  from_grow label (g ∷ gs) (g' ∷ gs') h =
      if_groups (has_label label g.labels) (has_label label g'.labels) (Some (g ∷ gs)) (Some (g' ∷ gs')) (groups_from label gs) (groups_from label gs') (ap (has_label label) h.0.0) h (from_grow label gs gs' h.1)

  or_grow : (o o' : Option (List Group)) (gs gs' : List Group) → OptionGroups o o' → GroupsGrow gs gs' → GroupsGrow (groups_or o gs) (groups_or o' gs')
  or_grow None None gs gs' h k = k
  or_grow None (Some x') gs gs' h k = absurd h
  or_grow (Some x) None gs gs' h k = absurd h
  or_grow (Some x) (Some x') gs gs' h k = h

  at_grow : (v : ℕ) (gs gs' : List Group) → GroupsGrow gs gs' → GroupsGrow (groups_at v gs) (groups_at v gs')
  at_grow v gs gs' h =
      or_grow (groups_from (Some v) gs) (groups_from (Some v) gs') (groups_or (groups_from None gs) []) (groups_or (groups_from None gs') []) (from_grow (Some v) gs gs' h) (or_grow (groups_from None gs) (groups_from None gs') [] [] (from_grow None gs gs' h) tt)

  rows_of : (gs gs' : List Group) → GroupsGrow gs gs' → RowGrows (map (λ (g : Group). g.does) gs) (map (λ (g : Group). g.does) gs')
  rows_of [] [] h = tt
  rows_of [] (g' ∷ gs') h = absurd h
  rows_of (g ∷ gs) [] h = absurd h
  rows_of (g ∷ gs) (g' ∷ gs') h = (h.0.1, rows_of gs gs' h.1)

  after_switch_grows : (way : Way) → Grows (after_switch way) (after_switch way)
  after_switch_grows GoesOn = give_grows GoesOn
  after_switch_grows Breaks = give_grows GoesOn
  after_switch_grows Continues = give_grows Continues
  after_switch_grows Returns = give_grows Returns

  pub switch_grows : (m m' : Evaluation) (gs gs' : List Group) → Grows m m' → GroupsGrow gs gs' → Grows (switch_on m gs) (switch_on m' gs')
  switch_grows m m' gs gs' h k =
      then_grows m m' (λ v s. block (map (λ (g : Group). g.does) (groups_at v gs)) s andthen after_switch) (λ v s. block (map (λ (g : Group). g.does) (groups_at v gs')) s andthen after_switch) h
      (λ v. then_grows (block (map (λ (g : Group). g.does) (groups_at v gs))) (block (map (λ (g : Group). g.does) (groups_at v gs'))) after_switch after_switch
      (block_grows (map (λ (g : Group). g.does) (groups_at v gs)) (map (λ (g : Group). g.does) (groups_at v gs')) (rows_of (groups_at v gs) (groups_at v gs') (at_grow v gs gs' k))) after_switch_grows)

-- ---- calls within calls

-- bodies grow where the calls in them do
abbrev pub BodiesGrow : ℕ → Bodies → Type 0
BodiesGrow d bodies = (n n' : ℕ) (calls calls' : Calls) → CallsGrow d n n' calls calls' → (f : TypedFunction) (a : Activation) → Grows d n n' (bodies calls f a) (bodies calls' f a)

module _ (d : ℕ) (bodies : Bodies) (functions : List TypedFunction) (grow : BodiesGrow d bodies) where
  run_grows : (n n' : ℕ) (calls calls' : Calls) → CallsGrow d n n' calls calls' → (f : Option TypedFunction) (a : Activation) (words : List ℕ) → Grows d n n' (run_function bodies functions calls f a words) (run_function bodies functions calls' f a words)
  run_grows n n' calls calls' h None a words s e = refl
  run_grows n n' calls calls' h (Some f) a words s e =
      let s' = with_activation s (first_cells f.cells words) in
      grown_then d s.turns (bodies calls f a s') (bodies calls' f a (more d s')) (give_result bodies functions a.base) (give_result bodies functions a.base) (grow n n' calls calls' h f a s' e) (λ way s'' less. (refl, omega arith))

  pub calling_grows : (k n n' : ℕ) → CallsGrow d n n' (calling bodies functions k) (calling bodies functions k)
  unfolding calling
  calling_grows zero n n' callee a words s e = refl
  calling_grows (suc k) n n' callee a words s e =
      grown_turn d s.turns (s.turns + d) s (λ s'. run_function bodies functions (calling bodies functions k) (slice_get functions callee) a words s') (λ s'. run_function bodies functions (calling bodies functions k) (slice_get functions callee) a words s') refl refl
      (λ s' less. run_grows n n' (calling bodies functions k) (calling bodies functions k) (calling_grows k n n') (slice_get functions callee) a words s' (omega (arith, less, e.0), omega (arith, less, e.1)))
