-- Events left out, statements and calls do what tree_meaning says.
use Rattle.std.proofs.Common.{◌≡◌, ℕ, zero, suc, ◌+◌, Bool, true, false, List, [], ◌∷◌, map, drop, Option, Some, None, refl, ap, subst, ◌∙◌}
use Rattle.std.specs.Prelude.{nat_le, slice_get, cond}
use Rattle.fq_core.specs.declared.span.Span.{Span}
use Rattle.c_values.specs.declared.kinds.Kind.{Kind}
use Rattle.c_values.specs.declared.operators.BinaryOp.{BinaryOp}
use Rattle.c_meaning.specs.Steps.{value_before}
use Rattle.cfa.specs.Values.{after_value}
use Rattle.cfa.specs.declared.parts.InputFunction.{InputFunction}
use Rattle.cfa.specs.declared.parts.Variable.{Variable}
use Rattle.c_typed_trees.specs.declared.expression.Callee.{Callee}
use Rattle.c_typed_trees.specs.declared.expression.Callee.TheVariants.{Defined, Input}
use Rattle.c_typed_trees.specs.declared.unit.Typed.{Typed}
use Rattle.c_typed_trees.specs.declared.unit.TypedFunction.{TypedFunction}
use Rattle.tree_meaning.specs.Outcomes.{Store, End, Done, Gives, Ends, OutOfTurns, ◌andthen◌, is_true}
use Rattle.tree_meaning.specs.Outcomes as outcomes
use Rattle.tree_meaning.specs.declared.way.Way.{Way}
use Rattle.tree_meaning.specs.declared.way.Way.TheVariants.{GoesOn, Breaks, Continues, Returns}
use Rattle.tree_meaning.specs.declared.activation.Activation.{Activation}
use Rattle.tree_meaning.specs.Activations.{start_of, length_of, stored, cleared, with_activation, first_cells}
use Rattle.tree_meaning.specs.Expressions.{Rest, Meant, Placed}
use Rattle.tree_meaning.specs.Expressions as expressions
use Rattle.tree_meaning.specs.Statements.{combined}
use Rattle.tree_meaning.specs.Statements as statements
use Rattle.tree_meaning.specs.Loops as loops
use Rattle.tree_meaning.specs.Switch.{has_label}
use Rattle.tree_meaning.specs.Switch as switch
use Rattle.tree_meaning.specs.Calls.{called}
use Rattle.tree_meaning.specs.Calls as calling
use Rattle.tree_events.specs.Outcomes.{Told, ◌thence◌, unless_trap, Meaning, Evaluation, Deciding, At, skip}
use Rattle.tree_events.specs.Expressions.{Telling, Placing, evaluate}
use Rattle.tree_events.specs.Statements.{then_next, sequence, block, doing, leaving, labelled, call_done, one_of, arms, putting, assign, put, declare, fill, declare_array, return_value, unless_false}
use Rattle.tree_events.specs.Loops.{after_body, pass, again_at, passes, while_loop, again_if, do_passes, do_loop, test_or, step_or, for_loop}
use Rattle.tree_events.specs.Switch.{Group, groups_from, groups_or, groups_at, after_switch, chosen, switch_on}
use Rattle.tree_events.specs.Calls.{Calls, first_parts, word_values, unless_deep, call_defined, answer, call_of, Bodies, give_result, run_function}
use Rattle.tree_events.proofs.Erases.{Erases, then_done, trap_done, turn_done, Decides, decided_then, FirstErases, Erased, PlaceErased, evaluate_erases}

-- ---- calls

abbrev pub AllErased : List Telling → List Meant → Type 0
AllErased [] [] = Unit {0}
AllErased (x ∷ xs) (y ∷ ys) = Erased x y × AllErased xs ys
AllErased [] (y ∷ ys) = ⊥
AllErased (x ∷ xs) [] = ⊥

abbrev pub CallsErase : Calls → calling.Calls → Type 0
CallsErase calls plain = (at : At) (callee : ℕ) (a : Activation) (words : List ℕ) → Erases (calls at callee a words) (plain callee a words)

first_parts_erase : (xs : List Telling) (ys : List Meant) → AllErased xs ys → FirstErases (first_parts xs) (calling.first_parts ys)
first_parts_erase [] [] h vs s = refl
first_parts_erase [] (y ∷ ys) h vs s = absurd h
first_parts_erase (x ∷ xs) [] h vs s = absurd h
first_parts_erase (x ∷ xs) (y ∷ ys) h vs s = then_done (x.first vs s) (y.first vs s) (first_parts xs) (calling.first_parts ys) (h.0.first vs s) (first_parts_erase xs ys h.1)

values_same : (xs : List Telling) (ys : List Meant) (vs cells : List ℕ) → AllErased xs ys → word_values xs vs cells ≡ calling.word_values ys vs cells
values_same [] [] vs cells h = refl
values_same [] (y ∷ ys) vs cells h = absurd h
values_same (x ∷ xs) [] vs cells h = absurd h
values_same (x ∷ xs) (y ∷ ys) vs cells h = (λ i. value_before (h.0.rest i vs cells) (word_values xs (drop (h.0.parts i) vs) cells)) ∙ ap (value_before (y.rest vs cells)) (values_same xs ys (drop y.parts vs) cells h.1)

deep_done : (b : Bool) (t : Told ℕ) (d : Done ℕ) → t.done ≡ d → (unless_deep b t).done ≡ calling.unless_deep b d
deep_done true t d h = refl
deep_done false t d h = h

pub defined_erases : (at : At) (calls : Calls) (plain : calling.Calls) → CallsErase calls plain → (a : Activation) (callee : ℕ) (xs : List Telling) (ys : List Meant) (arrays : List Variable) → AllErased xs ys
    → Erases (call_defined at calls a callee xs arrays) (calling.call_defined plain a callee ys arrays)
defined_erases at calls plain g a callee xs ys arrays h s =
    then_done (first_parts xs [] s) (calling.first_parts ys [] s) _
    (λ vs s'. calling.unless_deep (nat_le 64 a.depth) (outcomes.unless_trap (calling.word_values ys vs s'.cells) (λ values. plain callee (called a arrays s') values s')))
    (first_parts_erase xs ys h [] s)
    (λ vs s'. deep_done (nat_le 64 a.depth) _ (outcomes.unless_trap (calling.word_values ys vs s'.cells) (λ values. plain callee (called a arrays s') values s'))
    (trap_done (word_values xs vs s'.cells) (λ values. calls at callee (called a arrays s') values s') (λ values. plain callee (called a arrays s') values s') (λ values. g at callee (called a arrays s') values s')
    ∙ ap (λ r. outcomes.unless_trap r (λ values. plain callee (called a arrays s') values s')) (values_same xs ys vs s'.cells h)))

pub answer_erases : (at : At) (number : ℕ) (f : Option InputFunction) → Erases (answer at number f) (calling.answer f)
answer_erases at number None s = refl
answer_erases at number (Some f) s = refl

pub call_erases : (at : At) (t : Typed) (calls : Calls) (plain : calling.Calls) → CallsErase calls plain → (a : Activation) (callee : Callee) (xs : List Telling) (ys : List Meant) (arrays : List Variable) → AllErased xs ys
    → Erases (call_of at t calls a callee xs arrays) (calling.call_of t plain a callee ys arrays)
call_erases at t calls plain g a (Defined i) xs ys arrays h = defined_erases at calls plain g a i xs ys arrays h
call_erases at t calls plain g a (Input i) xs ys arrays h = answer_erases at i (slice_get t.inputs i)

-- ---- statements

abbrev pub RowErases : List Meaning → List outcomes.Meaning → Type 0
RowErases [] [] = Unit {0}
RowErases (m ∷ ms) (p ∷ ps) = Erases m p × RowErases ms ps
RowErases [] (p ∷ ps) = ⊥
RowErases (m ∷ ms) [] = ⊥

next_erases : (k : Meaning) (k' : outcomes.Meaning) → Erases k k' → (way : Way) → Erases (then_next k way) (statements.then_next k' way)
next_erases k k' h GoesOn s = h s
next_erases k k' h Breaks s = refl
next_erases k k' h Continues s = refl
next_erases k k' h Returns s = refl

pub sequence_erases : (ms : List Meaning) (ps : List outcomes.Meaning) → RowErases ms ps → Erases (sequence ms) (statements.block ps)
unfolding sequence statements.block
sequence_erases [] [] h s = refl
sequence_erases [] (p ∷ ps) h s = absurd h
sequence_erases (m ∷ ms) [] h s = absurd h
sequence_erases (m ∷ ms) (p ∷ ps) h s = then_done (m s) (p s) (then_next (sequence ms)) (statements.then_next (statements.block ps)) (h.0 s) (next_erases (sequence ms) (statements.block ps) (sequence_erases ms ps h.1))

pub block_erases : (place : Span) (ms : List Meaning) (ps : List outcomes.Meaning) → RowErases ms ps → Erases (block place ms) (statements.block ps)
unfolding statements.block
block_erases place [] [] h s = refl
block_erases place [] (p ∷ ps) h s = absurd h
block_erases place (m ∷ ms) [] h s = absurd h
block_erases place (m ∷ ms) (p ∷ ps) h s = sequence_erases (m ∷ ms) (p ∷ ps) h s

pub doing_erases : (at : At) → Erases (doing at) outcomes.skip
doing_erases at s = refl

pub leaving_erases : (at : At) (way : Way) → Erases (leaving at way) (λ s. Gives way s)
leaving_erases at way s = refl

pub labelled_erases : (at : At) (name : List ℕ) (m : Meaning) (p : outcomes.Meaning) → Erases m p → Erases (labelled at name m) p
labelled_erases at name m p h s = h s

pub call_done_erases : (at : At) (m : Evaluation) (p : outcomes.Evaluation) → Erases m p → Erases (call_done at m) (λ s. p s andthen λ v s'. Gives GoesOn s')
call_done_erases at m p h s = then_done (m s) (p s) _ (λ v s'. Gives GoesOn s') (h s) (λ v s'. refl)

abbrev pub ArmsErase : List (Deciding × Meaning) → List (outcomes.Evaluation × outcomes.Meaning) → Type 0
ArmsErase [] [] = Unit {0}
ArmsErase (x ∷ xs) (y ∷ ys) = (Decides x.0 y.0 × Erases x.1 y.1) × ArmsErase xs ys
ArmsErase [] (y ∷ ys) = ⊥
ArmsErase (x ∷ xs) [] = ⊥

abbrev pub OptionErases : Option Meaning → Option outcomes.Meaning → Type 0
OptionErases None None = Unit {0}
OptionErases (Some m) (Some p) = Erases m p
OptionErases None (Some p) = ⊥
OptionErases (Some m) None = ⊥

pub arms_erase : (xs : List (Deciding × Meaning)) (ys : List (outcomes.Evaluation × outcomes.Meaning)) (o : Option Meaning) (o' : Option outcomes.Meaning) → ArmsErase xs ys → OptionErases o o' → Erases (arms xs o) (statements.arms ys o')
unfolding arms statements.arms
arms_erase [] [] None None h g s = refl
arms_erase [] [] None (Some p) h g s = absurd g
arms_erase [] [] (Some m) None h g s = absurd g
arms_erase [] [] (Some m) (Some p) h g s = g s
arms_erase [] (y ∷ ys) o o' h g s = absurd h
arms_erase (x ∷ xs) [] o o' h g s = absurd h
arms_erase (x ∷ xs) (y ∷ ys) o o' h g s =
    decided_then (x.0 s) (y.0 s) (one_of x.1 (arms xs o)) (statements.one_of y.1 (statements.arms ys o')) (h.0.0 s) (by (arms_erase xs ys o o' h.1 g))
  where
    by : Erases (arms xs o) (statements.arms ys o') → (b : Bool) (s' : Store) → (one_of x.1 (arms xs o) b s').done ≡ statements.one_of y.1 (statements.arms ys o') b s'
    by rest true s' = h.0.1 s'
    by rest false s' = rest s'

pub assign_erases : (at : At) (m : Placing) (p : Placed) (op : Option (BinaryOp × Kind)) (x : Telling) (y : Meant) → PlaceErased m p → Erased x y → Erases (assign at m op x) (statements.assign p op y)
assign_erases at m p op x y h g s =
    then_done (m.first [] s) (p.first [] s) _ (λ is s1. y.first [] s1 andthen λ vs s2. ended is vs s2) (h.first [] s)
    (λ is s1. then_done (x.first [] s1) (y.first [] s1) _ (λ vs s2. ended is vs s2) (g.first [] s1) (λ vs s2. own is vs s2 ∙ same is vs s2))
  where
    -- by the parts of either side
    made : Variable → Rest → Rest → Kind → List ℕ → List ℕ → Store → Done Way
    made v cell rest kind is vs s2 = outcomes.unless_trap (cell is s2.cells) (λ c. outcomes.unless_trap (after_value (rest vs s2.cells) (combined v.kind op kind s2.cells c)) (λ w. Gives GoesOn (stored s2 c w)))

    ended : List ℕ → List ℕ → Store → Done Way
    ended is vs s2 = outcomes.unless_trap (p.cell is s2.cells) (λ c. outcomes.unless_trap (after_value (y.rest vs s2.cells) (combined p.variable.kind op y.kind s2.cells c)) (λ w. Gives GoesOn (stored s2 c w)))

    own : (is vs : List ℕ) (s2 : Store)
        → (unless_trap (m.cell is s2.cells) (λ c. unless_trap (after_value (x.rest vs s2.cells) (combined m.variable.kind op x.kind s2.cells c)) (λ w. putting at m.variable c w s2))).done
        ≡ outcomes.unless_trap (m.cell is s2.cells) (λ c. outcomes.unless_trap (after_value (x.rest vs s2.cells) (combined m.variable.kind op x.kind s2.cells c)) (λ w. Gives GoesOn (stored s2 c w)))
    own is vs s2 = trap_done (m.cell is s2.cells) _ _ (λ c. trap_done (after_value (x.rest vs s2.cells) (combined m.variable.kind op x.kind s2.cells c)) _ _ (λ w. refl))

    same : (is vs : List ℕ) (s2 : Store)
        → outcomes.unless_trap (m.cell is s2.cells) (λ c. outcomes.unless_trap (after_value (x.rest vs s2.cells) (combined m.variable.kind op x.kind s2.cells c)) (λ w. Gives GoesOn (stored s2 c w))) ≡ ended is vs s2
    same is vs s2 = λ i. outcomes.unless_trap (h.cell i is s2.cells) (λ c. outcomes.unless_trap (after_value (g.rest i vs s2.cells) (combined (h.variable i).kind op (g.kind i) s2.cells c)) (λ w. Gives GoesOn (stored s2 c w)))

put_erases : (at : At) (v : Variable) (cell : ℕ) (x : Telling) (y : Meant) → Erased x y → Erases (put at v cell x) (statements.put cell y)
put_erases at v cell x y h s = then_done (evaluate x s) (expressions.evaluate y s) (putting at v cell) (λ w s'. Gives GoesOn (stored s' cell w)) (evaluate_erases x y h s) (λ w s'. refl)

abbrev pub OptionErased : Option Telling → Option Meant → Type 0
OptionErased None None = Unit {0}
OptionErased (Some m) (Some p) = Erased m p
OptionErased None (Some p) = ⊥
OptionErased (Some m) None = ⊥

pub declare_erases : (at : At) (a : Activation) (v : Variable) (o : Option Telling) (o' : Option Meant) → OptionErased o o' → Erases (declare at a v o) (statements.declare a v o')
declare_erases at a v None None h s = refl
declare_erases at a v None (Some p) h s = absurd h
declare_erases at a v (Some m) None h s = absurd h
declare_erases at a v (Some m) (Some p) h s = put_erases at v (start_of a v.place) m p h s

fill_erases : (at : At) (v : Variable) (cell : ℕ) (xs : List Telling) (ys : List Meant) → AllErased xs ys → Erases (fill at v cell xs) (statements.fill cell ys)
unfolding fill statements.fill
fill_erases at v cell [] [] h s = refl
fill_erases at v cell [] (y ∷ ys) h s = absurd h
fill_erases at v cell (x ∷ xs) [] h s = absurd h
fill_erases at v cell (x ∷ xs) (y ∷ ys) h s =
    then_done (put at v cell x s) (statements.put cell y s) (then_next (fill at v (cell + 1) xs)) (statements.then_next (statements.fill (cell + 1) ys)) (put_erases at v cell x y h.0 s)
    (next_erases (fill at v (cell + 1) xs) (statements.fill (cell + 1) ys) (fill_erases at v (cell + 1) xs ys h.1))

pub array_erases : (at : At) (a : Activation) (v : Variable) (xs : List Telling) (ys : List Meant) → AllErased xs ys → Erases (declare_array at a v xs) (statements.declare_array a v ys)
array_erases at a v xs ys h s = fill_erases at v (start_of a v.place) xs ys h (cleared s (start_of a v.place) (length_of v.length))

pub return_erases : (at : At) (a : Activation) (o : Option Telling) (o' : Option Meant) → OptionErased o o' → Erases (return_value at a o) (statements.return_value a o')
return_erases at a None None h s = refl
return_erases at a None (Some p) h s = absurd h
return_erases at a (Some m) None h s = absurd h
return_erases at a (Some m) (Some p) h s = then_done (evaluate m s) (expressions.evaluate p s) _ (λ v s'. Gives Returns (stored s' a.base v)) (evaluate_erases m p h s) (λ v s'. refl)

pub tested_erases : (at : At) (end : End) (m : Telling) (p : Meant) → Erased m p → Erases (λ s. evaluate m s thence λ v s'. unless_false at end (is_true v) s') (λ s. expressions.evaluate p s andthen λ v s'. statements.unless_false end (is_true v) s')
tested_erases at end m p h s = then_done (evaluate m s) (expressions.evaluate p s) _ (λ v s'. statements.unless_false end (is_true v) s') (evaluate_erases m p h s) (λ v s'. by (is_true v) s')
  where
    by : (b : Bool) (s' : Store) → (unless_false at end b s').done ≡ statements.unless_false end b s'
    by true s' = refl
    by false s' = refl

-- ---- loops

after_erases : (k : Meaning) (k' : outcomes.Meaning) → Erases k k' → (way : Way) → Erases (after_body k way) (loops.after_body k' way)
after_erases k k' h GoesOn s = h s
after_erases k k' h Breaks s = refl
after_erases k k' h Continues s = h s
after_erases k k' h Returns s = refl

pass_erases : (body : Meaning) (body' : outcomes.Meaning) (next : Meaning) (next' : outcomes.Meaning) → Erases body body' → Erases next next' → (b : Bool) → Erases (pass body next b) (loops.pass body' next' b)
pass_erases body body' next next' h g false s = refl
pass_erases body body' next next' h g true s =
    turn_done s.turns s (λ s'. body s' thence after_body next) (λ s'. body' s' andthen loops.after_body next')
    (λ s'. then_done (body s') (body' s') (after_body next) (loops.after_body next') (h s') (after_erases next next' g))

module _ (at : At) (test : Deciding) (test' : outcomes.Evaluation) (body : Meaning) (body' : outcomes.Meaning) (tests : Decides test test') (does : Erases body body') where
  module _ (step : Meaning) (step' : outcomes.Meaning) (steps : Erases step step') where
    pub passes_erase : (n : ℕ) → Erases (passes at n test body step) (loops.passes n test' body' step')
    unfolding passes loops.passes
    passes_erase zero s = refl
    passes_erase (suc n) s =
        decided_then (test s) (test' s) (pass body (λ s'. step s' thence then_next (again_at at (passes at n test body step)))) (loops.pass body' (λ s'. step' s' andthen statements.then_next (loops.passes n test' body' step'))) (tests s)
        (λ b s'. pass_erases body body' _ (λ s''. step' s'' andthen statements.then_next (loops.passes n test' body' step')) does (stepped (passes_erase n)) b s')
      where
        stepped : Erases (passes at n test body step) (loops.passes n test' body' step') → Erases (λ s'. step s' thence then_next (again_at at (passes at n test body step))) (λ s'. step' s' andthen statements.then_next (loops.passes n test' body' step'))
        stepped h s' = then_done (step s') (step' s') (then_next (again_at at (passes at n test body step))) (statements.then_next (loops.passes n test' body' step')) (steps s') (next_erases (again_at at (passes at n test body step)) (loops.passes n test' body' step') h)

  pub while_erases : Erases (while_loop at test body) (loops.while_loop test' body')
  while_erases s = passes_erase skip outcomes.skip (λ s'. refl) (s.turns + 1) s

  do_passes_erase : (n : ℕ) → Erases (do_passes at n body test) (loops.do_passes n body' test')
  unfolding do_passes loops.do_passes
  do_passes_erase zero s = refl
  do_passes_erase (suc n) s =
      pass_erases body body' (λ s'. test s' thence again_if (again_at at (do_passes at n body test))) (λ s'. test' s' andthen λ v s''. loops.again_if (loops.do_passes n body' test') (is_true v) s'') does (tested (do_passes_erase n)) true s
    where
      tested : Erases (do_passes at n body test) (loops.do_passes n body' test') → Erases (λ s'. test s' thence again_if (again_at at (do_passes at n body test))) (λ s'. test' s' andthen λ v s''. loops.again_if (loops.do_passes n body' test') (is_true v) s'')
      tested h s' = decided_then (test s') (test' s') (again_if (again_at at (do_passes at n body test))) (loops.again_if (loops.do_passes n body' test')) (tests s') by
        where
          by : (b : Bool) (s'' : Store) → (again_if (again_at at (do_passes at n body test)) b s'').done ≡ loops.again_if (loops.do_passes n body' test') b s''
          by true s'' = h s''
          by false s'' = refl

  pub do_erases : Erases (do_loop at body test) (loops.do_loop body' test')
  do_erases s = do_passes_erase (s.turns + 1) s

abbrev pub OptionDecides : Option Deciding → Option outcomes.Evaluation → Type 0
OptionDecides None None = Unit {0}
OptionDecides (Some m) (Some p) = Decides m p
OptionDecides None (Some p) = ⊥
OptionDecides (Some m) None = ⊥

test_or_decides : (at : At) (o : Option Deciding) (o' : Option outcomes.Evaluation) → OptionDecides o o' → Decides (test_or at o) (loops.test_or o')
test_or_decides at None None h s = refl
test_or_decides at None (Some p) h s = absurd h
test_or_decides at (Some m) None h s = absurd h
test_or_decides at (Some m) (Some p) h s = h s

step_or_erases : (o : Option Meaning) (o' : Option outcomes.Meaning) → OptionErases o o' → Erases (step_or o) (loops.step_or o')
step_or_erases None None h s = refl
step_or_erases None (Some p) h s = absurd h
step_or_erases (Some m) None h s = absurd h
step_or_erases (Some m) (Some p) h s = h s

pub for_erases : (at : At) (first : List Meaning) (first' : List outcomes.Meaning) (test : Option Deciding) (test' : Option outcomes.Evaluation) (step : Option Meaning) (step' : Option outcomes.Meaning) (body : Meaning) (body' : outcomes.Meaning)
    → RowErases first first' → OptionDecides test test' → OptionErases step step' → Erases body body' → Erases (for_loop at first test step body) (loops.for_loop first' test' step' body')
for_erases at first first' test test' step step' body body' h k l g s =
    then_done (sequence first s) (statements.block first' s) _ (statements.then_next (λ s'. loops.passes (s'.turns + 1) (loops.test_or test') body' (loops.step_or step') s')) (sequence_erases first first' h s)
    (next_erases _ (λ s'. loops.passes (s'.turns + 1) (loops.test_or test') body' (loops.step_or step') s')
    (λ s'. passes_erase at (test_or at test) (loops.test_or test') body body' (test_or_decides at test test' k) g (step_or step) (loops.step_or step') (step_or_erases step step' l) (s'.turns + 1) s'))

-- ---- `switch`

abbrev pub GroupErased : Group → switch.Group → Type 0
GroupErased g p = (g.labels ≡ p.labels) × Erases g.does p.does

abbrev pub GroupsErased : List Group → List switch.Group → Type 0
GroupsErased [] [] = Unit {0}
GroupsErased (g ∷ gs) (p ∷ ps) = GroupErased g p × GroupsErased gs ps
GroupsErased [] (p ∷ ps) = ⊥
GroupsErased (g ∷ gs) [] = ⊥

abbrev OptionGroups : Option (List Group) → Option (List switch.Group) → Type 0
OptionGroups None None = Unit {0}
OptionGroups (Some gs) (Some ps) = GroupsErased gs ps
OptionGroups None (Some ps) = ⊥
OptionGroups (Some gs) None = ⊥

if_groups : (b b' : Bool) (x y : Option (List Group)) (x' y' : Option (List switch.Group)) → b ≡ b' → OptionGroups x x' → OptionGroups y y' → OptionGroups (cond b x y) (cond b' x' y')
if_groups b b' x y x' y' e h k = subst (λ c. OptionGroups (cond b x y) (cond c x' y')) e (by b)
  where
    by : (c : Bool) → OptionGroups (cond c x y) (cond c x' y')
    by true = h
    by false = k

from_erased : (label : Option ℕ) (gs : List Group) (ps : List switch.Group) → GroupsErased gs ps → OptionGroups (groups_from label gs) (switch.groups_from label ps)
from_erased label [] [] h = tt
from_erased label [] (p ∷ ps) h = absurd h
from_erased label (g ∷ gs) [] h = absurd h
from_erased label (g ∷ gs) (p ∷ ps) h =
    if_groups (has_label label g.labels) (has_label label p.labels) (Some (g ∷ gs)) (groups_from label gs) (Some (p ∷ ps)) (switch.groups_from label ps) (ap (has_label label) h.0.0) h (from_erased label gs ps h.1)

or_erased : (o : Option (List Group)) (o' : Option (List switch.Group)) (gs : List Group) (ps : List switch.Group) → OptionGroups o o' → GroupsErased gs ps → GroupsErased (groups_or o gs) (switch.groups_or o' ps)
or_erased None None gs ps h k = k
or_erased None (Some x') gs ps h k = absurd h
or_erased (Some x) None gs ps h k = absurd h
or_erased (Some x) (Some x') gs ps h k = h

at_erased : (v : ℕ) (gs : List Group) (ps : List switch.Group) → GroupsErased gs ps → GroupsErased (groups_at v gs) (switch.groups_at v ps)
at_erased v gs ps h =
    or_erased (groups_from (Some v) gs) (switch.groups_from (Some v) ps) (groups_or (groups_from None gs) []) (switch.groups_or (switch.groups_from None ps) []) (from_erased (Some v) gs ps h)
    (or_erased (groups_from None gs) (switch.groups_from None ps) [] [] (from_erased None gs ps h) tt)

rows_of : (gs : List Group) (ps : List switch.Group) → GroupsErased gs ps → RowErases (map (λ (g : Group). g.does) gs) (map (λ (g : switch.Group). g.does) ps)
rows_of [] [] h = tt
rows_of [] (p ∷ ps) h = absurd h
rows_of (g ∷ gs) [] h = absurd h
rows_of (g ∷ gs) (p ∷ ps) h = (h.0.1, rows_of gs ps h.1)

after_switch_erases : (way : Way) → Erases (after_switch way) (switch.after_switch way)
after_switch_erases GoesOn s = refl
after_switch_erases Breaks s = refl
after_switch_erases Continues s = refl
after_switch_erases Returns s = refl

pub switch_erases : (at : At) (m : Evaluation) (p : outcomes.Evaluation) (gs : List Group) (ps : List switch.Group) → Erases m p → GroupsErased gs ps → Erases (switch_on at m gs) (switch.switch_on p ps)
switch_erases at m p gs ps h k s =
    then_done (m s) (p s) (chosen at gs) (λ v s'. statements.block (map (λ (g : switch.Group). g.does) (switch.groups_at v ps)) s' andthen switch.after_switch) (h s)
    (λ v s'. then_done (sequence (map (λ (g : Group). g.does) (groups_at v gs)) s') (statements.block (map (λ (g : switch.Group). g.does) (switch.groups_at v ps)) s') after_switch switch.after_switch
    (sequence_erases _ _ (rows_of (groups_at v gs) (switch.groups_at v ps) (at_erased v gs ps k)) s') after_switch_erases)

-- ---- calls within calls

module _ (bodies : Bodies) (plain : calling.Bodies) (functions : List TypedFunction) (calls : Calls) (plainly : calling.Calls) where
  pub run_erases : (at : At) (callee : ℕ) (o : Option TypedFunction) → ((f : TypedFunction) → o ≡ Some f → (a : Activation) → Erases (bodies calls f a) (plain plainly f a)) → (a : Activation) (words : List ℕ)
      → Erases (run_function bodies functions calls at callee o a words) (calling.run_function plain functions plainly o a words)
  run_erases at callee None h a words s = refl
  run_erases at callee (Some f) h a words s =
      then_done (bodies calls f a (with_activation s (first_cells f.cells words))) (plain plainly f a (with_activation s (first_cells f.cells words))) (give_result bodies functions at a.base) (calling.give_result plain functions a.base)
      (h f refl a (with_activation s (first_cells f.cells words))) (λ way s'. refl)
