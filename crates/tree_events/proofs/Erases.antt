-- Events left out, each row does what tree_meaning says.
use Rattle.std.proofs.Common.{◌≡◌, ℕ, zero, suc, ◌+◌, Bool, true, false, List, [], ◌∷◌, ◌++◌, drop, Some, None, Result, Ok, Err, refl, sym, ap, subst, ◌∙◌, arith, pos}
use Rattle.std.specs.Prelude.{not, ◌==◌, slice_index}
use Rattle.fq_core.specs.declared.span.Span.{Span}
use Rattle.c_values.specs.Kind.{int, wrapped, number_of, IsValue, converted}
use Rattle.c_values.specs.Operations.{unary_value, truth_of, is_equal}
use Rattle.c_values.specs.declared.kinds.Kind.{Kind}
use Rattle.c_values.specs.declared.operators.BinaryOp.{BinaryOp}
use Rattle.c_values.specs.declared.operators.UnaryOp.{UnaryOp}
use Rattle.c_values.specs.declared.operators.UnaryOp.TheVariants as unary
use Rattle.c_values.proofs.Fitting.{value_parts, wrapped-number_of, IsValue-truth_of}
use Rattle.c_values.proofs.Machine.{machine_equal}
use Rattle.cfa.specs.Values.{after_value}
use Rattle.cfa.specs.declared.parts.Variable.{Variable}
use Rattle.cfa.specs.declared.state.Trap.{Trap}
use Rattle.tree_meaning.specs.Outcomes.{Store, End, Done, Gives, Ends, OutOfTurns, ◌andthen◌, is_true}
use Rattle.tree_meaning.specs.Outcomes as outcomes
use Rattle.tree_meaning.specs.declared.activation.Activation.{Activation}
use Rattle.tree_meaning.specs.Activations.{as_kind, read, element_at}
use Rattle.tree_meaning.specs.Expressions.{Rest, Meant, Placed, truth, operated}
use Rattle.tree_meaning.specs.Expressions as expressions
use Rattle.tree_events.specs.Outcomes.{Told, gives, continued, ◌thence◌, unless_trap, turn_of, Evaluation, Deciding, At}
use Rattle.tree_events.specs.Expressions.{First, Telling, Placing, evaluated, evaluate, decide_value, decide_not, where_true, decide_both, where_false, decide_either, no_parts, both_parts, placed_at, part_first, part_rest, decided, one_of, choice_does, unsplit, constant_told, convert_told, load_told, operator_rest, operator_decides, unary_told, binary_told, split_told, part_told}

-- ---- one thing after another

abbrev pub Erases : {A : Type 0} → (Store → Told A) → (Store → Done A) → Type 0
Erases m p = (s : Store) → (m s).done ≡ p s

pub then_done : {A B : Type 0} (t : Told A) (d : Done A) (k : A → Store → Told B) (k' : A → Store → Done B) → t.done ≡ d → ((v : A) (s : Store) → (k v s).done ≡ k' v s) → (t thence k).done ≡ (d andthen k')
then_done {A} {B} t d k k' e h = by t.done ∙ ap (λ (q : Done A). q andthen k') e
  where
    by : (x : Done A) → (continued x k).done ≡ (x andthen k')
    by (Gives v s) = h v s
    by (Ends end) = refl
    by OutOfTurns = refl

pub trap_done : {A B : Type 0} (r : Result A Trap) (k : A → Told B) (k' : A → Done B) → ((v : A) → (k v).done ≡ k' v) → (unless_trap r k).done ≡ outcomes.unless_trap r k'
trap_done (Ok v) k k' h = h v
trap_done (Err t) k k' h = refl

pub turn_done : {A : Type 0} (q : ℕ) (s : Store) (k : Store → Told A) (k' : Store → Done A) → Erases k k' → (turn_of q s k).done ≡ outcomes.turn_of q s k'
turn_done zero s k k' h = refl
turn_done (suc q) s k k' h = h _

-- ---- what is true of values

-- whether what is given is true
abbrev pub truly : Done ℕ → Done Bool
truly d = d andthen λ v s. Gives (is_true v) s

-- what is decided is whether a value is true
abbrev pub Decides : Deciding → outcomes.Evaluation → Type 0
Decides m p = (s : Store) → (m s).done ≡ truly (p s)

pub decided_then : {B : Type 0} (t : Told Bool) (d : Done ℕ) (k : Bool → Store → Told B) (k' : Bool → Store → Done B) → t.done ≡ truly d → ((b : Bool) (s : Store) → (k b s).done ≡ k' b s) → (t thence k).done ≡ (d andthen λ v s. k' (is_true v) s)
decided_then {B} t d k k' e h = then_done t (truly d) k k' e h ∙ by d
  where
    by : (d : Done ℕ) → (truly d andthen k') ≡ (d andthen λ v s. k' (is_true v) s)
    by (Gives v s) = refl
    by (Ends end) = refl
    by OutOfTurns = refl

truth_is : (b : Bool) → is_true (truth b) ≡ b
truth_is true = refl
truth_is false = refl

one_is : wrapped int (pos 1) ≡ 1
unfolding number_of
one_is = wrapped-number_of int 1 (IsValue-truth_of true)

zero_is : wrapped int (pos 0) ≡ 0
unfolding number_of
zero_is = wrapped-number_of int 0 (IsValue-truth_of false)

truth_kept : (b : Bool) → as_kind int (truth b) ≡ truth b
truth_kept true = one_is
truth_kept false = zero_is

of_true : (b : Bool) → is_true (truth_of b) ≡ b
of_true true = refl
of_true false = refl

twice : (b : Bool) → not (not b) ≡ b
twice true = refl
twice false = refl

-- `!` is true where its operand isn't
not_is : (kind : Kind) (v : ℕ) → IsValue kind v → not (is_true v) ≡ is_true (unary_value unary.Not kind v)
not_is kind v h = twice (v == 0) ∙ sym (of_true (is_equal kind v 0) ∙ sym (machine_equal kind v 0 (value_parts kind v h).pattern (omega arith)))

-- ---- expressions

abbrev pub FirstErases : First → expressions.First → Type 0
FirstErases m p = (vs : List ℕ) → Erases (m vs) (p vs)

pub record Erased (m : Telling) (p : Meant) : Type 0 where
  pub kind : m.kind ≡ p.kind
  pub parts : m.parts ≡ p.parts
  pub first : FirstErases m.first p.first
  pub rest : m.rest ≡ p.rest
  pub decide : (if_true if_false : Bool) → Decides (m.decide if_true if_false) (expressions.evaluate p)

pub record PlaceErased (m : Placing) (p : Placed) : Type 0 where
  pub variable : m.variable ≡ p.variable
  pub parts : m.parts ≡ p.parts
  pub first : FirstErases m.first p.first
  pub cell : m.cell ≡ p.cell

pub evaluated_erases : (first : First) (rest : Rest) (p : Meant) → FirstErases first p.first → rest ≡ p.rest → Erases (evaluated first rest) (expressions.evaluate p)
evaluated_erases first rest p h e s =
    subst (λ (r : Rest). (evaluated first rest s).done ≡ (p.first [] s andthen λ vs s'. outcomes.unless_trap (r vs s'.cells) (λ v. Gives v s'))) e
    (then_done (first [] s) (p.first [] s) (λ vs s'. unless_trap (rest vs s'.cells) (λ v. gives v s')) (λ vs s'. outcomes.unless_trap (rest vs s'.cells) (λ v. Gives v s')) (h [] s)
    (λ vs s'. trap_done (rest vs s'.cells) (λ v. gives v s') (λ v. Gives v s') (λ v. refl)))

pub evaluate_erases : (m : Telling) (p : Meant) → Erased m p → Erases (evaluate m) (expressions.evaluate p)
evaluate_erases m p h = evaluated_erases m.first m.rest p h.first h.rest

value_decides : (at : At) (span : Span) (does : Evaluation) (p : outcomes.Evaluation) → Erases does p → (t f : Bool) → Decides (decide_value at span does t f) p
value_decides at span does p h t f s = then_done (does s) (p s) _ (λ v s'. Gives (is_true v) s') (h s) (λ v s'. refl)

unsplit_erased : (at : At) (span : Span) (kind : Kind) (parts : ℕ) (first : First) (rest : Rest) (p : Meant) → kind ≡ p.kind → parts ≡ p.parts → FirstErases first p.first → rest ≡ p.rest → Erased (unsplit at span kind parts first rest) p
unsplit_erased at span kind parts first rest p k e h r = record {
  kind = k;
  parts = e;
  first = h;
  rest = r;
  decide = value_decides at span (evaluated first rest) (expressions.evaluate p) (evaluated_erases first rest p h r);
}

give_erases : {A : Type 0} (x : A) → Erases (λ s. gives x s) (λ s. Gives x s)
give_erases x s = refl

module _ (at : At) (span : Span) where
  pub constant_erased : (v : ℕ) (kind : Kind) → Erased (constant_told at span kind v) (expressions.constant_meant v kind)
  constant_erased v kind = unsplit_erased at span kind 0 no_parts _ (expressions.constant_meant v kind) refl refl (λ vs. give_erases vs) refl

  pub convert_erased : (m : Telling) (p : Meant) (kind : Kind) → Erased m p → Erased (convert_told at span kind m) (expressions.convert_meant p kind)
  convert_erased m p kind h = unsplit_erased at span kind m.parts m.first _ (expressions.convert_meant p kind) refl h.parts h.first (λ i vs cells. after_value (h.rest i vs cells) (λ v. Ok (converted (h.kind i) kind v)))

  pub load_erased : (m : Placing) (p : Placed) (kind : Kind) → PlaceErased m p → Erased (load_told at span kind m) (expressions.load_meant p kind)
  load_erased m p kind h = unsplit_erased at span kind m.parts m.first _ (expressions.load_meant p kind) refl h.parts h.first (λ i vs cells. after_value (h.cell i vs cells) (λ cell. Ok (read cells kind cell)))

  both_parts_erase : (m k : First) (p q : expressions.First) → FirstErases m p → FirstErases k q → FirstErases (both_parts m k) (expressions.both_parts p q)
  both_parts_erase m k p q h g vs s = then_done (m vs s) (p vs s) k q (h vs s) g

  pub binary_erased : (op : BinaryOp) (x y : Telling) (p q : Meant) (kind : Kind) → Erased x p → Erased y q → Erased (binary_told at span kind op x y) (expressions.binary_meant op p q kind)
  binary_erased op x y p q kind h g =
      unsplit_erased at span kind (x.parts + y.parts) (both_parts x.first y.first) _ (expressions.binary_meant op p q kind) refl (λ i. h.parts i + g.parts i) (both_parts_erase x.first y.first p.first q.first h.first g.first)
      (λ i vs cells. after_value (h.rest i vs cells) (λ v. after_value (g.rest i (drop (h.parts i) vs) cells) (λ w. operated op (h.kind i) (g.kind i) v w)))

  -- `!`
  not_decides : (m : Telling) (p : Meant) (kind : Kind) → ((vs cells : List ℕ) (v : ℕ) → p.rest vs cells ≡ Ok v → IsValue p.kind v) → Erased m p → (t f : Bool) → Decides (decide_not m.decide t f) (expressions.evaluate (expressions.unary_meant unary.Not p kind))
  not_decides m p kind values h t f s =
      decided_then (m.decide f t s) (expressions.evaluate p s) (λ b s'. gives (not b) s') (λ b s'. Gives (not b) s') (h.decide f t s) (λ b s'. refl) ∙ by (p.first [] s)
    where
      rest : (r : Result ℕ Trap) (s' : Store) → ((v : ℕ) → r ≡ Ok v → IsValue p.kind v)
          → (outcomes.unless_trap r (λ v. Gives v s') andthen λ v s''. Gives (not (is_true v)) s'') ≡ truly (outcomes.unless_trap (after_value r (λ v. Ok (unary_value unary.Not p.kind v))) (λ v. Gives v s'))
      rest (Ok v) s' value = ap (λ b. Gives b s') (not_is p.kind v (value v refl))
      rest (Err trap) s' value = refl

      by : (d : Done (List ℕ)) → ((d andthen λ vs s'. outcomes.unless_trap (p.rest vs s'.cells) (λ v. Gives v s')) andthen λ v s''. Gives (not (is_true v)) s'')
          ≡ truly (d andthen λ vs s'. outcomes.unless_trap (after_value (p.rest vs s'.cells) (λ v. Ok (unary_value unary.Not p.kind v))) (λ v. Gives v s'))
      by (Gives vs s') = rest (p.rest vs s'.cells) s' (values vs s'.cells)
      by (Ends end) = refl
      by OutOfTurns = refl

  operator_is : (op : UnaryOp) (m : Telling) (p : Meant) (kind : Kind) → Erased m p → operator_rest at span kind op m ≡ (expressions.unary_meant op p kind).rest
  operator_is op m p kind h = λ i vs cells. after_value (h.rest i vs cells) (λ v. Ok (unary_value op (h.kind i) v))

  pub unary_erased : (op : UnaryOp) (m : Telling) (p : Meant) (kind : Kind) → ((vs cells : List ℕ) (v : ℕ) → p.rest vs cells ≡ Ok v → IsValue p.kind v) → Erased m p → Erased (unary_told at span kind op m) (expressions.unary_meant op p kind)
  unary_erased op m p kind values h = record { kind = refl; parts = h.parts; first = h.first; rest = operator_is op m p kind h; decide = by op }
    where
      by : (op : UnaryOp) (t f : Bool) → Decides (operator_decides at span kind op m t f) (expressions.evaluate (expressions.unary_meant op p kind))
      by unary.Not = not_decides m p kind values h
      by unary.Neg = value_decides at span (evaluated m.first (operator_rest at span kind unary.Neg m)) (expressions.evaluate (expressions.unary_meant unary.Neg p kind)) (evaluated_erases m.first (operator_rest at span kind unary.Neg m) (expressions.unary_meant unary.Neg p kind) h.first (operator_is unary.Neg m p kind h))
      by unary.Complement = value_decides at span (evaluated m.first (operator_rest at span kind unary.Complement m)) (expressions.evaluate (expressions.unary_meant unary.Complement p kind)) (evaluated_erases m.first (operator_rest at span kind unary.Complement m) (expressions.unary_meant unary.Complement p kind) h.first (operator_is unary.Complement m p kind h))

  part_erases : (does : Evaluation) (p : outcomes.Evaluation) (kind : Kind) → Erases does p → FirstErases (part_first does) (expressions.part_meant p kind).first
  part_erases does p kind h vs s = then_done (does s) (p s) (λ v s'. gives (vs ++ v ∷ []) s') (λ v s'. Gives (vs ++ v ∷ []) s') (h s) (λ v s'. refl)

  pub part_erased : (does : Evaluation) (p : outcomes.Evaluation) (kind : Kind) → Erases does p → Erased (part_told at span kind does) (expressions.part_meant p kind)
  part_erased does p kind h = unsplit_erased at span kind 1 (part_first does) (part_rest kind) (expressions.part_meant p kind) refl refl (part_erases does p kind h) refl

  -- ---- `&&` and `||`

  -- what is given is 1 or 0
  abbrev pub Truths : Done ℕ → Type 0
  Truths (Gives v s) = truth (is_true v) ≡ v
  Truths (Ends end) = Unit {0}
  Truths OutOfTurns = Unit {0}

  -- the value of a part, alone
  part_evaluates : (p : outcomes.Evaluation) (kind : Kind) (s : Store) → expressions.evaluate (expressions.part_meant p kind) s ≡ (p s andthen λ v s'. Gives (as_kind kind v) s')
  part_evaluates p kind s = by (p s)
    where
      by : (d : Done ℕ) → ((d andthen λ v s'. Gives ([] ++ v ∷ []) s') andthen λ vs s'. outcomes.unless_trap (let r : Result ℕ Trap = Ok (as_kind kind (slice_index vs 0)) in r) (λ v. Gives v s')) ≡ (d andthen λ v s'. Gives (as_kind kind v) s')
      by (Gives v s') = refl
      by (Ends end) = refl
      by OutOfTurns = refl

  kept : (d : Done ℕ) → Truths d → truly (d andthen λ v s'. Gives (as_kind int v) s') ≡ truly d
  kept (Gives v s) h = ap (λ b. Gives b s) (ap (λ w. is_true (as_kind int w)) (sym h) ∙ ap is_true (truth_kept (is_true v)) ∙ truth_is (is_true v))
  kept (Ends end) h = refl
  kept OutOfTurns h = refl

  again : (d : Done ℕ) → Truths d → (truly d andthen λ b s'. Gives (truth b) s') ≡ d
  again (Gives v s) h = ap (λ w. Gives w s) h
  again (Ends end) h = refl
  again OutOfTurns h = refl

  pub split_erased : (decide : Bool → Bool → Deciding) (p : outcomes.Evaluation) (kind : Kind) → kind ≡ int → ((s : Store) → Truths (p s)) → ((t f : Bool) → Decides (decide t f) p) → Erased (split_told at span kind decide) (expressions.part_meant p kind)
  split_erased decide p kind is truths h = record {
    kind = refl;
    parts = refl;
    first = part_erases (decided at (decide true true)) p kind (λ s. then_done (decide true true s) (truly (p s)) _ (λ b s'. Gives (truth b) s') (h true true s) (λ b s'. refl) ∙ again (p s) (truths s));
    rest = refl;
    decide = λ t f s. h t f s ∙ sym (ap truly (part_evaluates p kind s ∙ ap (λ k. p s andthen λ v s'. Gives (as_kind k v) s') is) ∙ kept (p s) (truths s));
  }

  right_truths : (d : Done ℕ) → Truths (d andthen λ v s. Gives (truth (is_true v)) s)
  right_truths (Gives v s) = ap truth (truth_is (is_true v))
  right_truths (Ends end) = tt
  right_truths OutOfTurns = tt

  right_truly : (d : Done ℕ) → truly d ≡ truly (d andthen λ v s. Gives (truth (is_true v)) s)
  right_truly (Gives v s) = ap (λ b. Gives b s) (sym (truth_is (is_true v)))
  right_truly (Ends end) = refl
  right_truly OutOfTurns = refl

  pub both_truths : (p q : outcomes.Evaluation) (s : Store) → Truths (expressions.both_does p q s)
  both_truths p q s = by (p s)
    where
      at_truth : (b : Bool) (s : Store) → Truths (expressions.if_true q b s)
      at_truth true s = right_truths (q s)
      at_truth false s = refl

      by : (d : Done ℕ) → Truths (d andthen λ v s'. expressions.if_true q (is_true v) s')
      by (Gives v s) = at_truth (is_true v) s
      by (Ends end) = tt
      by OutOfTurns = tt

  pub either_truths : (p q : outcomes.Evaluation) (s : Store) → Truths (expressions.either_does p q s)
  either_truths p q s = by (p s)
    where
      at_truth : (b : Bool) (s : Store) → Truths (expressions.if_false q b s)
      at_truth true s = refl
      at_truth false s = right_truths (q s)

      by : (d : Done ℕ) → Truths (d andthen λ v s'. expressions.if_false q (is_true v) s')
      by (Gives v s) = at_truth (is_true v) s
      by (Ends end) = tt
      by OutOfTurns = tt

  pub both_decides : (x y : Bool → Bool → Deciding) (p q : outcomes.Evaluation) → ((t f : Bool) → Decides (x t f) p) → ((t f : Bool) → Decides (y t f) q) → (t f : Bool) → Decides (decide_both x y t f) (expressions.both_does p q)
  both_decides x y p q h g t f s = decided_then (x false f s) (p s) (where_true (y t f)) (λ b s'. truly (expressions.if_true q b s')) (h false f s) by ∙ all (p s)
    where
      by : (b : Bool) (s' : Store) → (where_true (y t f) b s').done ≡ truly (expressions.if_true q b s')
      by true s' = g t f s' ∙ right_truly (q s')
      by false s' = refl

      all : (d : Done ℕ) → (d andthen λ v s'. truly (expressions.if_true q (is_true v) s')) ≡ truly (d andthen λ v s'. expressions.if_true q (is_true v) s')
      all (Gives v s) = refl
      all (Ends end) = refl
      all OutOfTurns = refl

  pub either_decides : (x y : Bool → Bool → Deciding) (p q : outcomes.Evaluation) → ((t f : Bool) → Decides (x t f) p) → ((t f : Bool) → Decides (y t f) q) → (t f : Bool) → Decides (decide_either x y t f) (expressions.either_does p q)
  either_decides x y p q h g t f s = decided_then (x t false s) (p s) (where_false (y t f)) (λ b s'. truly (expressions.if_false q b s')) (h t false s) by ∙ all (p s)
    where
      by : (b : Bool) (s' : Store) → (where_false (y t f) b s').done ≡ truly (expressions.if_false q b s')
      by true s' = refl
      by false s' = g t f s' ∙ right_truly (q s')

      all : (d : Done ℕ) → (d andthen λ v s'. truly (expressions.if_false q (is_true v) s')) ≡ truly (d andthen λ v s'. expressions.if_false q (is_true v) s')
      all (Gives v s) = refl
      all (Ends end) = refl
      all OutOfTurns = refl

  pub choice_erases : (test : Deciding) (second third : Evaluation) (p q r : outcomes.Evaluation) → Decides test p → Erases second q → Erases third r → Erases (choice_does at test second third) (expressions.choice_does p q r)
  choice_erases test second third p q r h g k s =
      then_done (test s thence one_of second third) (expressions.choice_does p q r s) _ (λ v s'. Gives v s')
      (decided_then (test s) (p s) (one_of second third) (expressions.chosen q r) (h s) by) (λ v s'. refl) ∙ same (expressions.choice_does p q r s)
    where
      by : (b : Bool) (s' : Store) → (one_of second third b s').done ≡ expressions.chosen q r b s'
      by true s' = g s'
      by false s' = k s'

      same : (d : Done ℕ) → (d andthen λ v s'. Gives v s') ≡ d
      same (Gives v s) = refl
      same (Ends end) = refl
      same OutOfTurns = refl

pub whole_erased : (a : Activation) (v : Variable) → PlaceErased (placed_at a v None) (expressions.placed_at a v None)
whole_erased a v = record { variable = refl; parts = refl; first = λ vs. give_erases vs; cell = refl }

pub element_erased : (a : Activation) (v : Variable) (m : Telling) (p : Meant) → Erased m p → PlaceErased (placed_at a v (Some m)) (expressions.placed_at a v (Some p))
element_erased a v m p h = record { variable = refl; parts = h.parts; first = h.first; cell = λ i vs cells. after_value (h.rest i vs cells) (λ j. element_at a v (h.kind i) j) }
