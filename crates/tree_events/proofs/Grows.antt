-- With more turns the same happens first, and where there were enough, the same is done.
use Rattle.std.proofs.Common.{◌∙◌, ◌≡◌, ℕ, zero, suc, ◌+◌, ◌<◌, ◌≤◌, Bool, true, false, List, [], ◌∷◌, ◌++◌, map, drop, Option, Some, None, Result, Ok, Err, refl, sym, ap, subst, arith, append_assoc}
use Rattle.std.specs.Prelude.{nat_le, slice_get, cond, not}
use Rattle.std.specs.List.{flat_map}
use Rattle.std.proofs.lemmas.List.{append-nil}
use Rattle.fq_core.specs.declared.span.Span.{Span}
use Rattle.c_values.specs.Kind.{converted}
use Rattle.c_values.specs.Operations.{unary_value}
use Rattle.c_values.specs.declared.kinds.Kind.{Kind}
use Rattle.c_values.specs.declared.operators.BinaryOp.{BinaryOp}
use Rattle.c_values.specs.declared.operators.UnaryOp.{UnaryOp}
use Rattle.c_values.specs.declared.operators.UnaryOp.TheVariants as unary
use Rattle.c_meaning.specs.Steps.{value_before}
use Rattle.cfa.specs.Values.{after_value}
use Rattle.cfa.specs.declared.parts.InputFunction.{InputFunction}
use Rattle.cfa.specs.declared.parts.Variable.{Variable}
use Rattle.cfa.specs.declared.state.Trap.{Trap}
use Rattle.c_typed_trees.specs.declared.expression.Callee.{Callee}
use Rattle.c_typed_trees.specs.declared.expression.Callee.TheVariants.{Defined, Input}
use Rattle.c_typed_trees.specs.declared.unit.Typed.{Typed}
use Rattle.c_typed_trees.specs.declared.unit.TypedFunction.{TypedFunction}
use Rattle.tree_events.specs.declared.edge_events.event.Event.{Event}
use Rattle.tree_events.specs.declared.edge_events.event.What.TheVariants.{Did, Entered, Valued, Enters, Again as GoesBack}
use Rattle.tree_meaning.specs.Outcomes.{Store, End, Done, Gives, Ends, OutOfTurns, is_true}
use Rattle.tree_meaning.specs.declared.way.Way.{Way}
use Rattle.tree_meaning.specs.declared.way.Way.TheVariants.{GoesOn, Breaks, Continues, Returns}
use Rattle.tree_meaning.specs.declared.activation.Activation.{Activation}
use Rattle.tree_meaning.specs.Activations.{start_of, length_of, element_at, read, stored, cleared, with_activation, first_cells}
use Rattle.tree_meaning.specs.Expressions.{Rest, operated}
use Rattle.tree_meaning.specs.Statements.{combined}
use Rattle.tree_meaning.specs.Switch.{has_label}
use Rattle.tree_meaning.specs.Calls.{called}
use Rattle.tree_events.specs.Outcomes.{Told, gives, behind, continued, ◌thence◌, unless_trap, turn_of, Meaning, Evaluation, Deciding, skip, At, happens}
use Rattle.tree_events.specs.Expressions.{First, Telling, Placing, evaluated, evaluate, decide_value, where_true, decide_both, where_false, decide_either, no_parts, both_parts, placed_at, part_first, part_rest, decided, one_of as either_of, choice_does, unsplit, constant_told, convert_told, load_told, operator_rest, operator_decides, unary_told, binary_told, split_told, part_told}
use Rattle.tree_events.specs.Statements.{then_next, sequence, block, leaving, labelled, call_done, one_of, arms, putting, assign, put, declare, fill, declare_array, return_value, unless_false}
use Rattle.tree_events.specs.Loops.{after_body, pass, again_at, passes, entering, while_loop, again_if, do_passes, do_loop, test_or, step_or, for_loop}
use Rattle.tree_events.specs.Switch.{Group, case_of, cases, labels_told, groups_from, groups_or, groups_at, after_switch, chosen, switch_on}
use Rattle.tree_events.specs.Calls.{Calls, first_parts, word_values, unless_deep, call_defined, answer, call_of, Bodies, give_result, run_function, calling}

abbrev pub more : ℕ → Store → Store
more d s = record { cells = s.cells; answers = s.answers; turns = s.turns + d }

-- What is done with more turns, where so many were there, and these events happened; turns never rise.
abbrev pub GrownBy : {A : Type 0} → (d turns : ℕ) → List Event → Done A → Told A → Type 0
GrownBy d turns es (Gives x s) r = (r ≡ record { events = es; done = Gives x (more d s) }) × (s.turns ≤ turns)
GrownBy d turns es (Ends end) r = r ≡ record { events = es; done = Ends end }
GrownBy d turns es OutOfTurns r = (rest : List Event) × (r.events ≡ es ++ rest)

abbrev pub Grown : {A : Type 0} → (d turns : ℕ) → Told A → Told A → Type 0
Grown d turns t r = GrownBy d turns t.events t.done r

grown_less : {A : Type 0} (d low high : ℕ) (es : List Event) (q : Done A) (y : Told A) → low ≤ high → GrownBy d low es q y → GrownBy d high es q y
grown_less d low high es (Gives v s) y l h = (h.0, omega (arith, l, h.1))
grown_less d low high es (Ends end) y l h = h
grown_less d low high es OutOfTurns y l h = h

-- behind the same events
pub grown_behind : {A : Type 0} (d turns : ℕ) (es : List Event) (t r : Told A) → Grown d turns t r → Grown d turns (behind es t) (behind es r)
grown_behind {A} d turns es t r h = by t.done h
  where
    by : (q : Done A) → GrownBy d turns t.events q r → GrownBy d turns (es ++ t.events) q (behind es r)
    by (Gives v s) h = (ap (behind es) h.0, h.1)
    by (Ends end) h = ap (behind es) h
    by OutOfTurns h = (h.0, ap (λ (xs : List Event). es ++ xs) h.1 ∙ sym (append_assoc es t.events h.0))

pub grown_then : {A B : Type 0} (d turns : ℕ) (x y : Told A) (k k' : A → Store → Told B) → Grown d turns x y
    → ((v : A) (s : Store) → s.turns ≤ turns → Grown d s.turns (k v s) (k' v (more d s))) → Grown d turns (x thence k) (y thence k')
grown_then {A} {B} d turns x y k k' h rest = by x.done h
  where
    by : (q : Done A) → GrownBy d turns x.events q y → Grown d turns (behind x.events (continued q k)) (y thence k')
    by (Gives v s) h =
        let next = k v s in
        let less : Grown d turns next (k' v (more d s)) = grown_less d s.turns turns next.events next.done (k' v (more d s)) h.1 (rest v s h.1) in
        subst (λ (q : Told A). Grown d turns (behind x.events next) (q thence k')) (sym h.0) (grown_behind d turns x.events next (k' v (more d s)) less)
    by (Ends end) h = ap (λ (q : Told A). q thence k') h
    by OutOfTurns h =
        let more' = (continued y.done k').events in
        (h.0 ++ more', ap (λ (xs : List Event). xs ++ more') h.1 ∙ append_assoc x.events h.0 more' ∙ ap (λ (xs : List Event). xs ++ (h.0 ++ more')) (sym (append-nil x.events)))

pub grown_trap : {A B : Type 0} (d turns : ℕ) (r : Result A Trap) (k k' : A → Told B) → ((v : A) → Grown d turns (k v) (k' v)) → Grown d turns (unless_trap r k) (unless_trap r k')
grown_trap d turns (Ok v) k k' h = h v
grown_trap d turns (Err t) k k' h = refl

pub grown_turn : {A : Type 0} (d q r : ℕ) (s : Store) (k k' : Store → Told A) → s.turns ≡ q → s.turns + d ≡ r → ((s' : Store) → s'.turns < s.turns → Grown d s'.turns (k s') (k' (more d s')))
    → Grown d s.turns (turn_of q s k) (turn_of r (more d s) k')
grown_turn d zero r s k k' is sum h = ((turn_of r (more d s) k').events, refl)
grown_turn d (suc q) zero s k k' is sum h = absurd (omega (arith, is, sum))
grown_turn d (suc q) (suc r) s k k' is sum h =
    let s' : Store = record { cells = s.cells; answers = s.answers; turns = q } in
    let same : q + d ≡ r = omega (arith, is, sum) in
    let more_is : more d s' ≡ record { cells = s.cells; answers = s.answers; turns = r } = ap (λ t. record { cells = s.cells; answers = s.answers; turns = t }) same in
    let first : Grown d q (k s') (k' (record { cells = s.cells; answers = s.answers; turns = r })) = subst (λ (z : Store). Grown d q (k s') (k' z)) more_is (h s' (omega (arith, is))) in
    grown_less d q s.turns (k s').events (k s').done _ (omega (arith, is)) first

-- ---- what two meanings do, where calls within one another are bounded by two numbers

module _ (d n n' : ℕ) where
  -- the bounds lie above the turns
  abbrev pub Enough : ℕ → Type 0
  Enough q = (q < n) × (q + d < n')

  pub enough_less : (p q : ℕ) → p ≤ q → Enough q → Enough p
  enough_less p q l e = (omega (arith, l, e.0), omega (arith, l, e.1))

  abbrev pub Grows : {A : Type 0} → (Store → Told A) → (Store → Told A) → Type 0
  Grows m m' = (s : Store) → Enough s.turns → Grown d s.turns (m s) (m' (more d s))

  pub then_grows : {A B : Type 0} (m m' : Store → Told A) (k k' : A → Store → Told B) → Grows m m' → ((v : A) → Grows (k v) (k' v)) → Grows (λ s. m s thence k) (λ s. m' s thence k')
  then_grows m m' k k' h g s e = grown_then d s.turns (m s) (m' (more d s)) k k' (h s e) (λ v s' less. g v s' (enough_less s'.turns s.turns less e))

  pub give_grows : {A : Type 0} (x : A) → Grows (λ s. gives x s) (λ s. gives x s)
  give_grows x s e = (refl, omega arith)

  pub behind_grows : {A : Type 0} (es : List Event) (m m' : Store → Told A) → Grows m m' → Grows (λ s. behind es (m s)) (λ s. behind es (m' s))
  behind_grows es m m' h s e = grown_behind d s.turns es (m s) (m' (more d s)) (h s e)

  -- ---- expressions

  abbrev pub FirstGrows : First → First → Type 0
  FirstGrows m m' = (vs : List ℕ) → Grows (m vs) (m' vs)

  abbrev pub DecideGrows : (Bool → Bool → Deciding) → (Bool → Bool → Deciding) → Type 0
  DecideGrows m m' = (t f : Bool) → Grows (m t f) (m' t f)

  pub record TellingGrow (m m' : Telling) : Type 0 where
    pub kind : m.kind ≡ m'.kind
    pub parts : m.parts ≡ m'.parts
    pub first : FirstGrows m.first m'.first
    pub rest : m.rest ≡ m'.rest
    pub decide : DecideGrows m.decide m'.decide

  pub record PlacingGrow (p p' : Placing) : Type 0 where
    pub variable : p.variable ≡ p'.variable
    pub parts : p.parts ≡ p'.parts
    pub first : FirstGrows p.first p'.first
    pub cell : p.cell ≡ p'.cell

  evaluated_grows : (first first' : First) (rest rest' : Rest) → FirstGrows first first' → rest ≡ rest' → Grows (evaluated first rest) (evaluated first' rest')
  evaluated_grows first first' rest rest' h same =
      subst (λ (r : Rest). Grows (evaluated first rest) (evaluated first' r)) same
      (then_grows (first []) (first' []) (λ vs s'. unless_trap (rest vs s'.cells) (λ v. gives v s')) (λ vs s'. unless_trap (rest vs s'.cells) (λ v. gives v s')) (h [])
      (λ vs s e. grown_trap d s.turns (rest vs s.cells) (λ v. gives v s) (λ v. gives v (more d s)) (λ v. (refl, omega arith))))

  pub evaluate_grows : (m m' : Telling) → TellingGrow m m' → Grows (evaluate m) (evaluate m')
  evaluate_grows m m' h = evaluated_grows m.first m'.first m.rest m'.rest h.first h.rest

  value_grows : (at : At) (span : Span) (m m' : Evaluation) → Grows m m' → DecideGrows (decide_value at span m) (decide_value at span m')
  value_grows at span m m' h t f = then_grows m m' _ _ h (λ v s e. (refl, omega arith))

  unsplit_grows : (at : At) (span : Span) (kind : Kind) (parts parts' : ℕ) (first first' : First) (rest rest' : Rest) → parts ≡ parts' → FirstGrows first first' → rest ≡ rest'
      → TellingGrow (unsplit at span kind parts first rest) (unsplit at span kind parts' first' rest')
  unsplit_grows at span kind parts parts' first first' rest rest' e h r = record {
    kind = refl;
    parts = e;
    first = h;
    rest = r;
    decide = value_grows at span (evaluated first rest) (evaluated first' rest') (evaluated_grows first first' rest rest' h r);
  }

  pub whole_grows : (a : Activation) (v : Variable) → PlacingGrow (placed_at a v None) (placed_at a v None)
  whole_grows a v = record { variable = refl; parts = refl; first = λ vs. give_grows vs; cell = refl }

  pub element_grows : (a : Activation) (v : Variable) (m m' : Telling) → TellingGrow m m' → PlacingGrow (placed_at a v (Some m)) (placed_at a v (Some m'))
  element_grows a v m m' h = record { variable = refl; parts = h.parts; first = h.first; cell = λ i vs cells. after_value (h.rest i vs cells) (λ j. element_at a v (h.kind i) j) }

  module _ (at : At) (span : Span) where
    pub constant_grows : (v : ℕ) (kind : Kind) → TellingGrow (constant_told at span kind v) (constant_told at span kind v)
    constant_grows v kind = unsplit_grows at span kind 0 0 no_parts no_parts _ _ refl (λ vs. give_grows vs) refl

    pub convert_grows : (m m' : Telling) (kind : Kind) → TellingGrow m m' → TellingGrow (convert_told at span kind m) (convert_told at span kind m')
    convert_grows m m' kind h = unsplit_grows at span kind m.parts m'.parts m.first m'.first _ _ h.parts h.first (λ i vs cells. after_value (h.rest i vs cells) (λ v. Ok (converted (h.kind i) kind v)))

    pub load_grows : (p p' : Placing) (kind : Kind) → PlacingGrow p p' → TellingGrow (load_told at span kind p) (load_told at span kind p')
    load_grows p p' kind h = unsplit_grows at span kind p.parts p'.parts p.first p'.first _ _ h.parts h.first (λ i vs cells. after_value (h.cell i vs cells) (λ cell. Ok (read cells kind cell)))

    operator_same : (op : UnaryOp) (m m' : Telling) (kind : Kind) → TellingGrow m m' → operator_rest at span kind op m ≡ operator_rest at span kind op m'
    operator_same op m m' kind h = λ i vs cells. after_value (h.rest i vs cells) (λ v. Ok (unary_value op (h.kind i) v))

    pub unary_grows : (op : UnaryOp) (m m' : Telling) (kind : Kind) → TellingGrow m m' → TellingGrow (unary_told at span kind op m) (unary_told at span kind op m')
    unary_grows op m m' kind h = record { kind = refl; parts = h.parts; first = h.first; rest = operator_same op m m' kind h; decide = by op }
      where
        by : (op : UnaryOp) → DecideGrows (operator_decides at span kind op m) (operator_decides at span kind op m')
        by unary.Not = λ t f. then_grows (m.decide f t) (m'.decide f t) (λ b s'. gives (not b) s') (λ b s'. gives (not b) s') (h.decide f t) (λ b. give_grows (not b))
        by unary.Neg = value_grows at span (evaluated m.first (operator_rest at span kind unary.Neg m)) (evaluated m'.first (operator_rest at span kind unary.Neg m')) (evaluated_grows m.first m'.first _ _ h.first (operator_same unary.Neg m m' kind h))
        by unary.Complement = value_grows at span (evaluated m.first (operator_rest at span kind unary.Complement m)) (evaluated m'.first (operator_rest at span kind unary.Complement m')) (evaluated_grows m.first m'.first _ _ h.first (operator_same unary.Complement m m' kind h))

    both_parts_grow : (m m' k k' : First) → FirstGrows m m' → FirstGrows k k' → FirstGrows (both_parts m k) (both_parts m' k')
    both_parts_grow m m' k k' h g vs = then_grows (m vs) (m' vs) k k' (h vs) g

    pub binary_grows : (op : BinaryOp) (x x' y y' : Telling) (kind : Kind) → TellingGrow x x' → TellingGrow y y' → TellingGrow (binary_told at span kind op x y) (binary_told at span kind op x' y')
    binary_grows op x x' y y' kind h g =
        unsplit_grows at span kind (x.parts + y.parts) (x'.parts + y'.parts) (both_parts x.first y.first) (both_parts x'.first y'.first) _ _ (λ i. h.parts i + g.parts i) (both_parts_grow x.first x'.first y.first y'.first h.first g.first)
        (λ i vs cells. after_value (h.rest i vs cells) (λ v. after_value (g.rest i (drop (h.parts i) vs) cells) (λ w. operated op (h.kind i) (g.kind i) v w)))

    part_first_grows : (m m' : Evaluation) → Grows m m' → FirstGrows (part_first m) (part_first m')
    part_first_grows m m' h vs = then_grows m m' (λ v s. gives (vs ++ v ∷ []) s) (λ v s. gives (vs ++ v ∷ []) s) h (λ v. give_grows (vs ++ v ∷ []))

    pub part_grows : (m m' : Evaluation) (kind : Kind) → Grows m m' → TellingGrow (part_told at span kind m) (part_told at span kind m')
    part_grows m m' kind h = unsplit_grows at span kind 1 1 (part_first m) (part_first m') (part_rest kind) (part_rest kind) refl (part_first_grows m m' h) refl

    pub split_grows : (m m' : Bool → Bool → Deciding) (kind : Kind) → DecideGrows m m' → TellingGrow (split_told at span kind m) (split_told at span kind m')
    split_grows m m' kind h = record {
      kind = refl;
      parts = refl;
      first = part_first_grows (decided at (m true true)) (decided at (m' true true)) (then_grows (m true true) (m' true true) _ _ (h true true) (λ b s e. (refl, omega arith)));
      rest = refl;
      decide = h;
    }

    where_true_grows : (m m' : Deciding) → Grows m m' → (b : Bool) → Grows (where_true m b) (where_true m' b)
    where_true_grows m m' h true = h
    where_true_grows m m' h false = give_grows false

    where_false_grows : (m m' : Deciding) → Grows m m' → (b : Bool) → Grows (where_false m b) (where_false m' b)
    where_false_grows m m' h true = give_grows true
    where_false_grows m m' h false = h

    pub both_grows : (m m' k k' : Bool → Bool → Deciding) → DecideGrows m m' → DecideGrows k k' → DecideGrows (decide_both m k) (decide_both m' k')
    both_grows m m' k k' h g t f = then_grows (m false f) (m' false f) (where_true (k t f)) (where_true (k' t f)) (h false f) (where_true_grows (k t f) (k' t f) (g t f))

    pub either_grows : (m m' k k' : Bool → Bool → Deciding) → DecideGrows m m' → DecideGrows k k' → DecideGrows (decide_either m k) (decide_either m' k')
    either_grows m m' k k' h g t f = then_grows (m t false) (m' t false) (where_false (k t f)) (where_false (k' t f)) (h t false) (where_false_grows (k t f) (k' t f) (g t f))

    pub choice_grows : (m m' : Deciding) (x x' y y' : Evaluation) → Grows m m' → Grows x x' → Grows y y' → Grows (choice_does at m x y) (choice_does at m' x' y')
    choice_grows m m' x x' y y' h g k =
        then_grows (λ s. m s thence either_of x y) (λ s. m' s thence either_of x' y') _ _ (then_grows m m' (either_of x y) (either_of x' y') h by) (λ v s e. (refl, omega arith))
      where
        by : (b : Bool) → Grows (either_of x y b) (either_of x' y' b)
        by true = g
        by false = k

  -- ---- calls

  abbrev pub AllGrow : List Telling → List Telling → Type 0
  AllGrow [] [] = Unit {0}
  AllGrow (x ∷ xs) (y ∷ ys) = TellingGrow x y × AllGrow xs ys
  AllGrow [] (y ∷ ys) = ⊥
  AllGrow (x ∷ xs) [] = ⊥

  abbrev pub CallsGrow : Calls → Calls → Type 0
  CallsGrow calls calls' = (at : At) (callee : ℕ) (a : Activation) (words : List ℕ) → Grows (calls at callee a words) (calls' at callee a words)

  first_parts_grow : (xs ys : List Telling) → AllGrow xs ys → FirstGrows (first_parts xs) (first_parts ys)
  first_parts_grow [] [] h vs = give_grows vs
  first_parts_grow [] (y ∷ ys) h vs = absurd h
  first_parts_grow (x ∷ xs) [] h vs = absurd h
  first_parts_grow (x ∷ xs) (y ∷ ys) h vs = then_grows (x.first vs) (y.first vs) (first_parts xs) (first_parts ys) (h.0.first vs) (first_parts_grow xs ys h.1)

  values_same : (xs ys : List Telling) (vs : List ℕ) (cells : List ℕ) → AllGrow xs ys → word_values xs vs cells ≡ word_values ys vs cells
  values_same [] [] vs cells h = refl
  values_same [] (y ∷ ys) vs cells h = absurd h
  values_same (x ∷ xs) [] vs cells h = absurd h
  values_same (x ∷ xs) (y ∷ ys) vs cells h = (λ i. value_before (h.0.rest i vs cells) (word_values xs (drop (h.0.parts i) vs) cells)) ∙ ap (value_before (y.rest vs cells)) (values_same xs ys (drop y.parts vs) cells h.1)

  deep_grown : (turns : ℕ) (b : Bool) (x y : Told ℕ) → Grown d turns x y → Grown d turns (unless_deep b x) (unless_deep b y)
  deep_grown turns true x y h = refl
  deep_grown turns false x y h = h

  defined_grows : (at : At) (calls calls' : Calls) → CallsGrow calls calls' → (a : Activation) (callee : ℕ) (xs ys : List Telling) (arrays : List Variable) → AllGrow xs ys → Grows (call_defined at calls a callee xs arrays) (call_defined at calls' a callee ys arrays)
  defined_grows at calls calls' g a callee xs ys arrays h =
      then_grows (first_parts xs []) (first_parts ys [])
      (λ vss s. unless_deep (nat_le 64 a.depth) (unless_trap (word_values xs vss s.cells) (λ values. calls at callee (called a arrays s) values s)))
      (λ vss s. unless_deep (nat_le 64 a.depth) (unless_trap (word_values ys vss s.cells) (λ values. calls' at callee (called a arrays s) values s)))
      (first_parts_grow xs ys h [])
      (λ vss s e. deep_grown s.turns (nat_le 64 a.depth) _ _
      (subst (λ r. Grown d s.turns (unless_trap (word_values xs vss s.cells) (λ values. calls at callee (called a arrays s) values s)) (unless_trap r (λ values. calls' at callee (called a arrays s) values (more d s)))) (values_same xs ys vss s.cells h)
      (grown_trap d s.turns (word_values xs vss s.cells) (λ values. calls at callee (called a arrays s) values s) (λ values. calls' at callee (called a arrays s) values (more d s)) (λ values. g at callee (called a arrays s) values s e))))

  answer_grows : (at : At) (number : ℕ) (f : Option InputFunction) → Grows (answer at number f) (answer at number f)
  answer_grows at number None s e = refl
  answer_grows at number (Some f) s e = (refl, omega arith)

  pub call_grows : (at : At) (t : Typed) (calls calls' : Calls) → CallsGrow calls calls' → (a : Activation) (callee : Callee) (xs ys : List Telling) (arrays : List Variable) → AllGrow xs ys
      → Grows (call_of at t calls a callee xs arrays) (call_of at t calls' a callee ys arrays)
  call_grows at t calls calls' g a (Defined i) xs ys arrays h = defined_grows at calls calls' g a i xs ys arrays h
  call_grows at t calls calls' g a (Input i) xs ys arrays h = answer_grows at i (slice_get t.inputs i)

  -- ---- statements

  abbrev pub RowGrows : List Meaning → List Meaning → Type 0
  RowGrows [] [] = Unit {0}
  RowGrows (m ∷ ms) (m' ∷ ms') = Grows m m' × RowGrows ms ms'
  RowGrows [] (m' ∷ ms') = ⊥
  RowGrows (m ∷ ms) [] = ⊥

  next_grows : (k k' : Meaning) → Grows k k' → (way : Way) → Grows (then_next k way) (then_next k' way)
  next_grows k k' h GoesOn = h
  next_grows k k' h Breaks = give_grows Breaks
  next_grows k k' h Continues = give_grows Continues
  next_grows k k' h Returns = give_grows Returns

  pub sequence_grows : (ms ms' : List Meaning) → RowGrows ms ms' → Grows (sequence ms) (sequence ms')
  unfolding sequence
  sequence_grows [] [] h = give_grows GoesOn
  sequence_grows [] (m' ∷ ms') h = absurd h
  sequence_grows (m ∷ ms) [] h = absurd h
  sequence_grows (m ∷ ms) (m' ∷ ms') h = then_grows m m' (then_next (sequence ms)) (then_next (sequence ms')) h.0 (next_grows (sequence ms) (sequence ms') (sequence_grows ms ms' h.1))

  pub block_grows : (place : Span) (ms ms' : List Meaning) → RowGrows ms ms' → Grows (block place ms) (block place ms')
  block_grows place [] [] h = λ s e. (refl, omega arith)
  block_grows place [] (m' ∷ ms') h = absurd h
  block_grows place (m ∷ ms) [] h = absurd h
  block_grows place (m ∷ ms) (m' ∷ ms') h = sequence_grows (m ∷ ms) (m' ∷ ms') h

  pub leaving_grows : (at : At) (way : Way) → Grows (leaving at way) (leaving at way)
  leaving_grows at way s e = (refl, omega arith)

  pub labelled_grows : (at : At) (name : List ℕ) (m m' : Meaning) → Grows m m' → Grows (labelled at name m) (labelled at name m')
  labelled_grows at name m m' h = behind_grows (happens at (Did (Some name))) m m' h

  pub call_done_grows : (at : At) (m m' : Evaluation) → Grows m m' → Grows (call_done at m) (call_done at m')
  call_done_grows at m m' h = then_grows m m' _ _ h (λ v s e. (refl, omega arith))

  one_grows : (m m' k k' : Meaning) → Grows m m' → Grows k k' → (b : Bool) → Grows (one_of m k b) (one_of m' k' b)
  one_grows m m' k k' h g true = h
  one_grows m m' k k' h g false = g

  abbrev pub ArmsGrow : List (Deciding × Meaning) → List (Deciding × Meaning) → Type 0
  ArmsGrow [] [] = Unit {0}
  ArmsGrow (x ∷ xs) (y ∷ ys) = (Grows x.0 y.0 × Grows x.1 y.1) × ArmsGrow xs ys
  ArmsGrow [] (y ∷ ys) = ⊥
  ArmsGrow (x ∷ xs) [] = ⊥

  abbrev pub OptionGrows : {A : Type 0} → Option (Store → Told A) → Option (Store → Told A) → Type 0
  OptionGrows None None = Unit {0}
  OptionGrows (Some m) (Some m') = Grows m m'
  OptionGrows None (Some m') = ⊥
  OptionGrows (Some m) None = ⊥

  pub arms_grow : (xs ys : List (Deciding × Meaning)) (o o' : Option Meaning) → ArmsGrow xs ys → OptionGrows o o' → Grows (arms xs o) (arms ys o')
  unfolding arms
  arms_grow [] [] None None h g = give_grows GoesOn
  arms_grow [] [] None (Some m') h g = absurd g
  arms_grow [] [] (Some m) None h g = absurd g
  arms_grow [] [] (Some m) (Some m') h g = g
  arms_grow [] (y ∷ ys) o o' h g = absurd h
  arms_grow (x ∷ xs) [] o o' h g = absurd h
  arms_grow (x ∷ xs) (y ∷ ys) o o' h g = then_grows x.0 y.0 (one_of x.1 (arms xs o)) (one_of y.1 (arms ys o')) h.0.0 (one_grows x.1 y.1 (arms xs o) (arms ys o') h.0.1 (arms_grow xs ys o o' h.1 g))

  abbrev assigned : At → Variable → Option (BinaryOp × Kind) → (p : Rest) → Kind → Rest → List ℕ → List ℕ → Store → Told Way
  assigned at v op cell kind rest is vs s = unless_trap (cell is s.cells) (λ c. unless_trap (after_value (rest vs s.cells) (combined v.kind op kind s.cells c)) (λ w. putting at v c w s))

  assigned_grows : (at : At) (v : Variable) (op : Option (BinaryOp × Kind)) (cell : Rest) (kind : Kind) (rest : Rest) (is vs : List ℕ) → Grows (assigned at v op cell kind rest is vs) (assigned at v op cell kind rest is vs)
  assigned_grows at v op cell kind rest is vs s e =
      grown_trap d s.turns (cell is s.cells) _ _ (λ c. grown_trap d s.turns (after_value (rest vs s.cells) (combined v.kind op kind s.cells c)) _ _ (λ w. (refl, omega arith)))

  pub assign_grows : (at : At) (p p' : Placing) (op : Option (BinaryOp × Kind)) (x x' : Telling) → PlacingGrow p p' → TellingGrow x x' → Grows (assign at p op x) (assign at p' op x')
  assign_grows at p p' op x x' h g =
      then_grows (p.first []) (p'.first []) (λ is s1. x.first [] s1 thence λ vs s2. assigned at p.variable op p.cell x.kind x.rest is vs s2) (λ is s1. x'.first [] s1 thence λ vs s2. assigned at p'.variable op p'.cell x'.kind x'.rest is vs s2) (h.first [])
      (λ is. then_grows (x.first []) (x'.first []) (assigned at p.variable op p.cell x.kind x.rest is) (assigned at p'.variable op p'.cell x'.kind x'.rest is) (g.first [])
      (λ vs. ends is vs))
    where
      ends : (is vs : List ℕ) → Grows (assigned at p.variable op p.cell x.kind x.rest is vs) (assigned at p'.variable op p'.cell x'.kind x'.rest is vs)
      ends is vs = subst (λ (m : Store → Told Way). Grows (assigned at p.variable op p.cell x.kind x.rest is vs) m) (λ i. assigned at (h.variable i) op (h.cell i) (g.kind i) (g.rest i) is vs) (assigned_grows at p.variable op p.cell x.kind x.rest is vs)

  put_grows : (at : At) (v : Variable) (cell : ℕ) (x x' : Telling) → TellingGrow x x' → Grows (put at v cell x) (put at v cell x')
  put_grows at v cell x x' h = then_grows (evaluate x) (evaluate x') (putting at v cell) (putting at v cell) (evaluate_grows x x' h) (λ w s e. (refl, omega arith))

  abbrev pub OptionTelling : Option Telling → Option Telling → Type 0
  OptionTelling None None = Unit {0}
  OptionTelling (Some m) (Some m') = TellingGrow m m'
  OptionTelling None (Some m') = ⊥
  OptionTelling (Some m) None = ⊥

  pub declare_grows : (at : At) (a : Activation) (v : Variable) (o o' : Option Telling) → OptionTelling o o' → Grows (declare at a v o) (declare at a v o')
  declare_grows at a v None None h s e = (refl, omega arith)
  declare_grows at a v None (Some m') h s e = absurd h
  declare_grows at a v (Some m) None h s e = absurd h
  declare_grows at a v (Some m) (Some m') h s e = put_grows at v (start_of a v.place) m m' h s e

  fill_grows : (at : At) (v : Variable) (cell : ℕ) (xs ys : List Telling) → AllGrow xs ys → Grows (fill at v cell xs) (fill at v cell ys)
  unfolding fill
  fill_grows at v cell [] [] h = give_grows GoesOn
  fill_grows at v cell [] (y ∷ ys) h = absurd h
  fill_grows at v cell (x ∷ xs) [] h = absurd h
  fill_grows at v cell (x ∷ xs) (y ∷ ys) h =
      then_grows (put at v cell x) (put at v cell y) (then_next (fill at v (cell + 1) xs)) (then_next (fill at v (cell + 1) ys)) (put_grows at v cell x y h.0) (next_grows (fill at v (cell + 1) xs) (fill at v (cell + 1) ys) (fill_grows at v (cell + 1) xs ys h.1))

  pub array_grows : (at : At) (a : Activation) (v : Variable) (xs ys : List Telling) → AllGrow xs ys → Grows (declare_array at a v xs) (declare_array at a v ys)
  array_grows at a v xs ys h s e =
      let s' = cleared s (start_of a v.place) (length_of v.length) in
      grown_behind d s.turns (happens at (Did (Some v.name))) (fill at v (start_of a v.place) xs s') (fill at v (start_of a v.place) ys (more d s')) (fill_grows at v (start_of a v.place) xs ys h s' e)

  pub return_grows : (at : At) (a : Activation) (o o' : Option Telling) → OptionTelling o o' → Grows (return_value at a o) (return_value at a o')
  return_grows at a None None h = leaving_grows at Returns
  return_grows at a None (Some m') h = absurd h
  return_grows at a (Some m) None h = absurd h
  return_grows at a (Some m) (Some m') h = then_grows (evaluate m) (evaluate m') (λ v s'. leaving at Returns (stored s' a.base v)) (λ v s'. leaving at Returns (stored s' a.base v)) (evaluate_grows m m' h) (λ v s e. (refl, omega arith))

  unless_grows : (at : At) (end : End) (b : Bool) → Grows (unless_false at end b) (unless_false at end b)
  unless_grows at end true s e = (refl, omega arith)
  unless_grows at end false s e = refl

  pub tested_grows : (at : At) (end : End) (m m' : Telling) → TellingGrow m m' → Grows (λ s. evaluate m s thence λ v s'. unless_false at end (is_true v) s') (λ s. evaluate m' s thence λ v s'. unless_false at end (is_true v) s')
  tested_grows at end m m' h = then_grows (evaluate m) (evaluate m') (λ v s. unless_false at end (is_true v) s) (λ v s. unless_false at end (is_true v) s) (evaluate_grows m m' h) (λ v. unless_grows at end (is_true v))

  -- ---- loops, whose passes are bounded by two numbers more

  abbrev Again : (p p' : ℕ) → Meaning → Meaning → Type 0
  Again p p' m m' = (s : Store) → s.turns < p → s.turns + d < p' → Enough s.turns → Grown d s.turns (m s) (m' (more d s))

  again_behind : (at : At) (p p' : ℕ) (m m' : Meaning) → Again p p' m m' → Again p p' (again_at at m) (again_at at m')
  again_behind at p p' m m' h s l l' e = grown_behind d s.turns (happens at GoesBack) (m s) (m' (more d s)) (h s l l' e)

  after_grown : (q : ℕ) (again again' : Meaning) → ((s : Store) → s.turns ≤ q → Grown d s.turns (again s) (again' (more d s))) → (way : Way) (s : Store) → s.turns ≤ q → Grown d s.turns (after_body again way s) (after_body again' way (more d s))
  after_grown q again again' h GoesOn s l = h s l
  after_grown q again again' h Breaks s l = (refl, omega arith)
  after_grown q again again' h Continues s l = h s l
  after_grown q again again' h Returns s l = (refl, omega arith)

  -- a pass takes a turn, so that what comes behind has fewer
  pass_grown : (body body' next next' : Meaning) → Grows body body' → (p p' : ℕ) → Again p p' next next' → (b : Bool) (s : Store) → s.turns ≤ p → s.turns + d ≤ p' → Enough s.turns → Grown d s.turns (pass body next b s) (pass body' next' b (more d s))
  pass_grown body body' next next' h p p' again false s l l' e = (refl, omega arith)
  pass_grown body body' next next' h p p' again true s l l' e =
      grown_turn d s.turns (s.turns + d) s (λ s'. body s' thence after_body next) (λ s'. body' s' thence after_body next') refl refl
      (λ s' less. grown_then d s'.turns (body s') (body' (more d s')) (after_body next) (after_body next') (h s' (enough_less s'.turns s.turns (omega (arith, less)) e))
      (after_grown s'.turns next next' (λ s'' few. again s'' (omega (arith, few, less, l)) (omega (arith, few, less, l')) (enough_less s''.turns s.turns (omega (arith, few, less)) e))))

  module _ (at : At) (test test' : Deciding) (body body' step step' : Meaning) (tests : Grows test test') (does : Grows body body') (steps : Grows step step') where
    pub passes_grow : (p p' : ℕ) → Again p p' (passes at p test body step) (passes at p' test' body' step')
    unfolding passes
    passes_grow zero p' s l l' e = absurd (omega (arith, l))
    passes_grow (suc p) zero s l l' e = absurd (omega (arith, l'))
    passes_grow (suc p) (suc p') s l l' e =
        grown_then d s.turns (test s) (test' (more d s))
        (pass body (λ s''. step s'' thence then_next (again_at at (passes at p test body step)))) (pass body' (λ s''. step' s'' thence then_next (again_at at (passes at p' test' body' step')))) (tests s e)
        (λ b s' few. pass_grown body body' (λ s''. step s'' thence then_next (again_at at (passes at p test body step))) (λ s''. step' s'' thence then_next (again_at at (passes at p' test' body' step'))) does p p'
        (stepped p p' (again_behind at p p' (passes at p test body step) (passes at p' test' body' step') (passes_grow p p'))) b s' (omega (arith, few, l)) (omega (arith, few, l')) (enough_less s'.turns s.turns few e))
      where
        next_grown : (q : ℕ) (k k' : Meaning) → ((s : Store) → s.turns ≤ q → Grown d s.turns (k s) (k' (more d s))) → (way : Way) (s : Store) → s.turns ≤ q → Grown d s.turns (then_next k way s) (then_next k' way (more d s))
        next_grown q k k' h GoesOn s l = h s l
        next_grown q k k' h Breaks s l = (refl, omega arith)
        next_grown q k k' h Continues s l = (refl, omega arith)
        next_grown q k k' h Returns s l = (refl, omega arith)

        stepped : (p p' : ℕ) → Again p p' (again_at at (passes at p test body step)) (again_at at (passes at p' test' body' step')) → Again p p' (λ s''. step s'' thence then_next (again_at at (passes at p test body step))) (λ s''. step' s'' thence then_next (again_at at (passes at p' test' body' step')))
        stepped p p' again s l l' e =
            grown_then d s.turns (step s) (step' (more d s)) (then_next (again_at at (passes at p test body step))) (then_next (again_at at (passes at p' test' body' step'))) (steps s e)
            (next_grown s.turns (again_at at (passes at p test body step)) (again_at at (passes at p' test' body' step')) (λ s'' few. again s'' (omega (arith, few, l)) (omega (arith, few, l')) (enough_less s''.turns s.turns few e)))

  pub while_grows : (at : At) (test test' : Deciding) (body body' : Meaning) → Grows test test' → Grows body body' → Grows (while_loop at test body) (while_loop at test' body')
  while_grows at test test' body body' h g s e = grown_behind d s.turns (happens at Enters) _ _ (passes_grow at test test' body body' skip skip h g (give_grows GoesOn) (s.turns + 1) (s.turns + d + 1) s (omega arith) (omega arith) e)

  module _ (at : At) (test test' : Deciding) (body body' : Meaning) (tests : Grows test test') (does : Grows body body') where
    again_grown : (p : ℕ) (again again' : Meaning) → ((s : Store) → s.turns ≤ p → Grown d s.turns (again s) (again' (more d s))) → (b : Bool) (s : Store) → s.turns ≤ p → Grown d s.turns (again_if again b s) (again_if again' b (more d s))
    again_grown p again again' h true s l = h s l
    again_grown p again again' h false s l = (refl, omega arith)

    do_grow : (p p' : ℕ) → Again p p' (do_passes at p body test) (do_passes at p' body' test')
    unfolding do_passes
    do_grow zero p' s l l' e = absurd (omega (arith, l))
    do_grow (suc p) zero s l l' e = absurd (omega (arith, l'))
    do_grow (suc p) (suc p') s l l' e =
        pass_grown body body' (λ s'. test s' thence again_if (again_at at (do_passes at p body test))) (λ s'. test' s' thence again_if (again_at at (do_passes at p' body' test'))) does p p'
        (tested p p' (again_behind at p p' (do_passes at p body test) (do_passes at p' body' test') (do_grow p p'))) true s (omega (arith, l)) (omega (arith, l')) e
      where
        tested : (p p' : ℕ) → Again p p' (again_at at (do_passes at p body test)) (again_at at (do_passes at p' body' test'))
            → Again p p' (λ s'. test s' thence again_if (again_at at (do_passes at p body test))) (λ s'. test' s' thence again_if (again_at at (do_passes at p' body' test')))
        tested p p' again s l l' e =
            grown_then d s.turns (test s) (test' (more d s)) (again_if (again_at at (do_passes at p body test))) (again_if (again_at at (do_passes at p' body' test'))) (tests s e)
            (λ b s' few. again_grown s.turns (again_at at (do_passes at p body test)) (again_at at (do_passes at p' body' test')) (λ s'' few'. again s'' (omega (arith, few', l)) (omega (arith, few', l')) (enough_less s''.turns s.turns few' e)) b s' few)

    pub do_grows : Grows (do_loop at body test) (do_loop at body' test')
    do_grows s e = grown_behind d s.turns (happens at Enters) _ _ (do_grow (s.turns + 1) (s.turns + d + 1) s (omega arith) (omega arith) e)

  test_or_grows : (at : At) (o o' : Option Deciding) → OptionGrows o o' → Grows (test_or at o) (test_or at o')
  test_or_grows at None None h = λ s e. (refl, omega arith)
  test_or_grows at None (Some m') h = absurd h
  test_or_grows at (Some m) None h = absurd h
  test_or_grows at (Some m) (Some m') h = h

  step_or_grows : (o o' : Option Meaning) → OptionGrows o o' → Grows (step_or o) (step_or o')
  step_or_grows None None h = give_grows GoesOn
  step_or_grows None (Some m') h = absurd h
  step_or_grows (Some m) None h = absurd h
  step_or_grows (Some m) (Some m') h = h

  pub for_grows : (at : At) (first first' : List Meaning) (test test' : Option Deciding) (step step' : Option Meaning) (body body' : Meaning) → RowGrows first first' → OptionGrows test test' → OptionGrows step step' → Grows body body'
      → Grows (for_loop at first test step body) (for_loop at first' test' step' body')
  for_grows at first first' test test' step step' body body' h k l g =
      then_grows (sequence first) (sequence first') (then_next (λ s'. entering at (passes at (s'.turns + 1) (test_or at test) body (step_or step)) s')) (then_next (λ s'. entering at (passes at (s'.turns + 1) (test_or at test') body' (step_or step')) s')) (sequence_grows first first' h)
      (next_grows (λ s'. entering at (passes at (s'.turns + 1) (test_or at test) body (step_or step)) s') (λ s'. entering at (passes at (s'.turns + 1) (test_or at test') body' (step_or step')) s')
      (λ s e. grown_behind d s.turns (happens at Enters) _ _
      (passes_grow at (test_or at test) (test_or at test') body body' (step_or step) (step_or step') (test_or_grows at test test' k) g (step_or_grows step step' l) (s.turns + 1) (s.turns + d + 1) s (omega arith) (omega arith) e)))

  -- ---- `switch`

  abbrev pub GroupGrow : Group → Group → Type 0
  GroupGrow g g' = (g.labels ≡ g'.labels) × Grows g.does g'.does

  abbrev pub GroupsGrow : List Group → List Group → Type 0
  GroupsGrow [] [] = Unit {0}
  GroupsGrow (g ∷ gs) (g' ∷ gs') = GroupGrow g g' × GroupsGrow gs gs'
  GroupsGrow [] (g' ∷ gs') = ⊥
  GroupsGrow (g ∷ gs) [] = ⊥

  abbrev OptionGroups : Option (List Group) → Option (List Group) → Type 0
  OptionGroups None None = Unit {0}
  OptionGroups (Some gs) (Some gs') = GroupsGrow gs gs'
  OptionGroups None (Some gs') = ⊥
  OptionGroups (Some gs) None = ⊥

  if_groups : (b b' : Bool) (x x' y y' : Option (List Group)) → b ≡ b' → OptionGroups x x' → OptionGroups y y' → OptionGroups (cond b x y) (cond b' x' y')
  if_groups b b' x x' y y' e h k = subst (λ c. OptionGroups (cond b x y) (cond c x' y')) e (by b)
    where
      by : (c : Bool) → OptionGroups (cond c x y) (cond c x' y')
      by true = h
      by false = k

  from_grow : (label : Option ℕ) (gs gs' : List Group) → GroupsGrow gs gs' → OptionGroups (groups_from label gs) (groups_from label gs')
  from_grow label [] [] h = tt
  from_grow label [] (g' ∷ gs') h = absurd h
  from_grow label (g ∷ gs) [] h = absurd h
  from_grow label (g ∷ gs) (g' ∷ gs') h =
      if_groups (has_label label g.labels) (has_label label g'.labels) (Some (g ∷ gs)) (Some (g' ∷ gs')) (groups_from label gs) (groups_from label gs') (ap (has_label label) h.0.0) h (from_grow label gs gs' h.1)

  or_grow : (o o' : Option (List Group)) (gs gs' : List Group) → OptionGroups o o' → GroupsGrow gs gs' → GroupsGrow (groups_or o gs) (groups_or o' gs')
  or_grow None None gs gs' h k = k
  or_grow None (Some x') gs gs' h k = absurd h
  or_grow (Some x) None gs gs' h k = absurd h
  or_grow (Some x) (Some x') gs gs' h k = h

  at_grow : (v : ℕ) (gs gs' : List Group) → GroupsGrow gs gs' → GroupsGrow (groups_at v gs) (groups_at v gs')
  at_grow v gs gs' h =
      or_grow (groups_from (Some v) gs) (groups_from (Some v) gs') (groups_or (groups_from None gs) []) (groups_or (groups_from None gs') []) (from_grow (Some v) gs gs' h) (or_grow (groups_from None gs) (groups_from None gs') [] [] (from_grow None gs gs' h) tt)

  rows_of : (gs gs' : List Group) → GroupsGrow gs gs' → RowGrows (map (λ (g : Group). g.does) gs) (map (λ (g : Group). g.does) gs')
  rows_of [] [] h = tt
  rows_of [] (g' ∷ gs') h = absurd h
  rows_of (g ∷ gs) [] h = absurd h
  rows_of (g ∷ gs) (g' ∷ gs') h = (h.0.1, rows_of gs gs' h.1)

  after_switch_grows : (way : Way) → Grows (after_switch way) (after_switch way)
  after_switch_grows GoesOn = give_grows GoesOn
  after_switch_grows Breaks = give_grows GoesOn
  after_switch_grows Continues = give_grows Continues
  after_switch_grows Returns = give_grows Returns

  cases_same : (gs gs' : List Group) → GroupsGrow gs gs' → cases gs ≡ cases gs'
  cases_same [] [] h = refl
  cases_same [] (g' ∷ gs') h = absurd h
  cases_same (g ∷ gs) [] h = absurd h
  cases_same (g ∷ gs) (g' ∷ gs') h = (λ i. flat_map case_of (h.0.0 i) ++ cases gs) ∙ ap (λ (xs : List (Span × ℕ)). flat_map case_of g'.labels ++ xs) (cases_same gs gs' h.1)

  pub switch_grows : (at : At) (m m' : Evaluation) (gs gs' : List Group) → Grows m m' → GroupsGrow gs gs' → Grows (switch_on at m gs) (switch_on at m' gs')
  switch_grows at m m' gs gs' h k = then_grows m m' (chosen at gs) (chosen at gs') h by
    where
      rows : (v : ℕ) → Grows (λ s. sequence (map (λ (g : Group). g.does) (groups_at v gs)) s thence after_switch) (λ s. sequence (map (λ (g : Group). g.does) (groups_at v gs')) s thence after_switch)
      rows v = then_grows (sequence (map (λ (g : Group). g.does) (groups_at v gs))) (sequence (map (λ (g : Group). g.does) (groups_at v gs'))) after_switch after_switch
          (sequence_grows (map (λ (g : Group). g.does) (groups_at v gs)) (map (λ (g : Group). g.does) (groups_at v gs')) (rows_of (groups_at v gs) (groups_at v gs') (at_grow v gs gs' k))) after_switch_grows

      by : (v : ℕ) → Grows (chosen at gs v) (chosen at gs' v)
      by v = subst (λ (ls : List (Span × ℕ)). Grows (chosen at gs v) (λ s. behind (happens at Valued ++ labels_told at v ls) (sequence (map (λ (g : Group). g.does) (groups_at v gs')) s thence after_switch))) (cases_same gs gs' k)
          (behind_grows (happens at Valued ++ labels_told at v (cases gs)) (λ s. sequence (map (λ (g : Group). g.does) (groups_at v gs)) s thence after_switch)
          (λ s. sequence (map (λ (g : Group). g.does) (groups_at v gs')) s thence after_switch) (rows v))

-- ---- calls within calls

-- bodies grow where the calls in them do
abbrev pub BodiesGrow : ℕ → Bodies → Type 0
BodiesGrow d bodies = (n n' : ℕ) (calls calls' : Calls) → CallsGrow d n n' calls calls' → (f : TypedFunction) (a : Activation) → Grows d n n' (bodies calls f a) (bodies calls' f a)

module _ (d : ℕ) (bodies : Bodies) (functions : List TypedFunction) (grow : BodiesGrow d bodies) where
  run_grows : (n n' : ℕ) (calls calls' : Calls) → CallsGrow d n n' calls calls' → (at : At) (callee : ℕ) (f : Option TypedFunction) (a : Activation) (words : List ℕ) → Grows d n n' (run_function bodies functions calls at callee f a words) (run_function bodies functions calls' at callee f a words)
  run_grows n n' calls calls' h at callee None a words s e = refl
  run_grows n n' calls calls' h at callee (Some f) a words s e =
      let s' = with_activation s (first_cells f.cells words) in
      grown_behind d s.turns (happens at (Entered callee)) _ _ (grown_then d s.turns (bodies calls f a s') (bodies calls' f a (more d s')) (give_result bodies functions at a.base) (give_result bodies functions at a.base) (grow n n' calls calls' h f a s' e) (λ way s'' less. (refl, omega arith)))

  pub calling_grows : (k n n' : ℕ) → CallsGrow d n n' (calling bodies functions k) (calling bodies functions k)
  unfolding calling
  calling_grows zero n n' at callee a words s e = refl
  calling_grows (suc k) n n' at callee a words s e =
      grown_turn d s.turns (s.turns + d) s (λ s'. run_function bodies functions (calling bodies functions k) at callee (slice_get functions callee) a words s') (λ s'. run_function bodies functions (calling bodies functions k) at callee (slice_get functions callee) a words s') refl refl
      (λ s' less. run_grows n n' (calling bodies functions k) (calling bodies functions k) (calling_grows k n n') at callee (slice_get functions callee) a words s' (omega (arith, less, e.0), omega (arith, less, e.1)))
