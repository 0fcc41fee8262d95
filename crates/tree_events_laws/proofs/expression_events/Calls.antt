-- Calls: their words, the edges of those of defined functions, and those of input functions.
use Rattle.std.proofs.Common.{◌≡◌, ℕ, zero, suc, ◌+◌, ◌<◌, Bool, true, false, List, [], ◌∷◌, ◌++◌, map, drop, length, Option, Some, None, Result, Ok, Err, refl, sym, ap, ◌∙◌, arith, pos, ⊎_elim}
use Rattle.std.specs.Prelude.{IsTrue, IfSome, nat_le, if◌then◌else◌, slice_get, slice_set, slice_index}
use Rattle.std.specs.Option.{option_map}
use Rattle.std.specs.List.{AllByRecursion}
use Rattle.std.proofs.lemmas.Bool.{le-leb, cases_lt}
use Rattle.std.proofs.lemmas.List.{length-set}
use Rattle.c_values.specs.Kind.{wrapped}
use Rattle.cfa.specs.Each.{matched}
use Rattle.cfa.specs.declared.expr.ArrayPlace.{ArrayPlace}
use Rattle.cfa.specs.declared.expr.CellPlace.TheVariants as place
use Rattle.cfa.specs.declared.expr.Expr.{Expr}
use Rattle.cfa.specs.declared.parts.Edge.{Edge}
use Rattle.cfa.specs.declared.parts.InputFunction.{InputFunction}
use Rattle.cfa.specs.declared.parts.Operation.TheVariants.{Call, Return, Answer}
use Rattle.cfa.specs.declared.parts.Variable.{Variable}
use Rattle.cfa.specs.declared.state.State.{State}
use Rattle.cfa.specs.declared.state.Trap.{Trap}
use Rattle.cfa.specs.Values.{cell_of}
use Rattle.c_meaning.specs.declared.stepped.Stepped.{Stepped}
use Rattle.c_meaning.specs.declared.stepped.Stepped.TheVariants.{Moved, TooDeep}
use Rattle.c_meaning.specs.Runs.{state_moved}
use Rattle.c_meaning.specs.Steps.{next, unless_trapped, cell_in, put, answered, answer_of, call_of as called_along, called as called_state, values_in, value_before, start_in}
use Rattle.c_typed_trees.specs.declared.expression.Callee.TheVariants.{Defined, Input}
use Rattle.c_typed_trees.specs.declared.unit.TypedFunction.{TypedFunction}
use Rattle.c_typed_trees.specs.Fitting.{array_fits, array_lengths, word_kinds}
use Rattle.c_lower_rules.specs.declared.graph_of.parts.Around.{Around}
use Rattle.c_lower_rules.specs.declared.graph_of.parts.Operand.{Operand}
use Rattle.c_lower_rules.specs.graph_of.Edges.{entry_of, exit_of, edge_of}
use Rattle.c_lower_rules.specs.graph_of.Expressions.{call_edges, array_of, reads_of}
use Rattle.c_lower_rules.specs.graph_of.GraphOf.{function_of}
use Rattle.tree_meaning_laws.specs.temporaries_apart.Named.{IsBelow}
use Rattle.tree_events.specs.declared.edge_events.event.What.TheVariants.{Entered, Left, Answered}
use Rattle.tree_events.specs.edge_events.Told.{told}
use Rattle.tree_meaning.specs.Outcomes.{Store, Done}
use Rattle.tree_meaning.specs.Activations.{as_kind}
use Rattle.tree_meaning.specs.Expressions.{Meant}
use Rattle.tree_meaning.specs.Calls.{called}
use Rattle.tree_meaning.specs.Calls as calling
use Rattle.tree_meaning.specs.Outcomes as outcomes
use Rattle.tree_events.specs.Outcomes.{gives, behind, unless_trap, happens}
use Rattle.tree_events.specs.Expressions.{Telling}
use Rattle.tree_events.specs.Calls.{Calls, word_values, unless_deep}
use Rattle.tree_meaning_laws.specs.expression_laws.Sits.{Sits}
use Rattle.tree_meaning_laws.specs.expression_laws.Contexts.{Context, IsContext, Held, Related, Proper, Spare, parts_of, names_of, own_frame, own_activation}
use Rattle.tree_meaning_laws.specs.expression_laws.Flows.{Came}
use Rattle.tree_meaning_laws.proofs.expression_laws.Sits.{all_sit}
use Rattle.tree_meaning_laws.proofs.expression_laws.Going.{next_one}
use Rattle.tree_meaning_laws.proofs.expression_laws.Cells.{agree_put, good, frame_is}
use Rattle.tree_meaning_laws.proofs.expression_laws.Calls.{function_there, inputs_are}
use Rattle.tree_meaning_laws.proofs.expression_laws.Values.{local_cell}
use Rattle.tree_events_laws.specs.expression_events.Follows.{Follows}
use Rattle.tree_events_laws.specs.expression_events.Flows.{at_of, done_at, landing, CallsDo}
use Rattle.tree_events_laws.proofs.expression_events.Follows.{tells_one}

-- an expression without its events
abbrev pub plain : Telling → Meant
plain m = record { kind = m.kind; parts = m.parts; first = λ vs s. outcomes.Gives vs s; rest = m.rest }

pub words_plain : (ms : List Telling) (vs cells : List ℕ) → word_values ms vs cells ≡ calling.word_values (map plain ms) vs cells
words_plain [] vs cells = refl
words_plain (m ∷ ms) vs cells = ap (value_before (m.rest vs cells)) (words_plain ms (drop m.parts vs) cells)

-- ---- what the edges of calls tell

call_tells : (u : Around) (i : ℕ) (words : List Expr) (arrays : List ArrayPlace) (reads : List (List ℕ)) (b : ℕ) → told (edge_of u (Call i words arrays) [] reads b (entry_of i)) ≡ happens (at_of u) (Entered i)
unfolding told
call_tells u i words arrays reads b = refl

return_tells : (u : Around) (e i : ℕ) (temp : Option ℕ) (z : ℕ) → told (edge_of u (Return e (option_map place.Local temp)) [] [] (exit_of i) z) ≡ happens (at_of u) Left ++ done_at (at_of u) temp
unfolding told
return_tells u e i None z = refl
return_tells u e i (Some cell) z = refl

answer_tells : (u : Around) (i : ℕ) (temp : Option ℕ) (b z : ℕ) → told (edge_of u (Answer i (option_map place.Local temp)) [] [] b z) ≡ happens (at_of u) (Answered i) ++ done_at (at_of u) temp
unfolding told
answer_tells u i None b z = refl
answer_tells u i (Some cell) b z = refl

module _ (c : Context) (ok : IsContext c) where
  -- ---- a call of a defined function

  module _ (calls : Calls) (works : CallsDo c calls) (i : ℕ) (f : TypedFunction) (callee : slice_get c.typed.functions i ≡ Some f) (held : Held) (proper : Proper c held) (u : Around) (os : List Operand) (lent : List Variable)
      (temp : Option ℕ) (spare : IfSome temp (Spare c held)) (fits : IsTrue (matched (array_fits (names_of c)) lent (array_lengths f))) (below : AllByRecursion (IsBelow c.locals) lent)
      (b z n e k : ℕ) (sits : Sits (parts_of c) (call_edges (Defined i) lent u os (option_map place.Local temp) b z n e k) n e k) (s : Store) (st : State) (at : Related c held b s st)
      (r : Result (List ℕ) Trap) (given : values_in st (map (λ (w : Operand). w.value) os) ≡ r) (counted : (ws : List ℕ) → r ≡ Ok ws → length ws ≡ length (word_kinds f)) where
    abbrev words : List Expr
    words = map (λ (w : Operand). w.value) os

    abbrev arrays : List ArrayPlace
    arrays = map (λ (v : Variable). array_of v.place) lent

    abbrev edge : Edge
    edge = edge_of u (Call i words arrays) [] (reads_of os lent) b (entry_of i)

    goes : next (parts_of c) c.input st ≡ (if nat_le 64 (length c.frames) then TooDeep else unless_trapped r (called_state st e edge (map (start_in st) arrays) (function_of i f)))
    goes =
        let S = all_sit (parts_of c) _ n e k sits in
        next_one (parts_of c) (good c) c.input st e edge S.0.edges.0 refl refl (sym at.node)
        ∙ ap (called_along st e edge words arrays) (function_there c i f callee)
        ∙ ap (λ q. if nat_le 64 (length q) then TooDeep else unless_trapped (values_in st words) (called_state st e edge (map (start_in st) arrays) (function_of i f))) at.frames
        ∙ ap (λ q. if nat_le 64 (length c.frames) then TooDeep else unless_trapped q (called_state st e edge (map (start_in st) arrays) (function_of i f))) given

    few : nat_le 64 (length c.frames) ≡ false → length c.frames < 64
    few q = ⊎_elim (λ fewer. fewer) (λ many. let deep' = le-leb 64 (length c.frames) many in let clash : true ≡ false = sym deep' ∙ q in absurd cc) (cases_lt (length c.frames) 64)

    pub defined_lands : Follows (parts_of c) c.input st s.turns s.turns (Came c held temp z) (landing (at_of u) temp (unless_deep (nat_le 64 (length c.frames)) (unless_trap r (λ ws. calls (at_of u) i (called (own_activation c) lent s) ws s))))
    defined_lands = by (nat_le 64 (length c.frames)) refl r refl
      where
        by : (deep : Bool) → nat_le 64 (length c.frames) ≡ deep → (q : Result (List ℕ) Trap) → r ≡ q → Follows (parts_of c) c.input st s.turns s.turns (Came c held temp z) (landing (at_of u) temp (unless_deep deep (unless_trap q (λ ws. calls (at_of u) i (called (own_activation c) lent s) ws s))))
        by true d q same = record { moves = 0; to = st; path = refl; tell = refl; stops = goes ∙ ap (λ t. if t then TooDeep else unless_trapped r (called_state st e edge (map (start_in st) arrays) (function_of i f))) d }
        by false d (Err t) same = record {
          moves = 0;
          to = st;
          path = refl;
          tell = refl;
          stops = goes ∙ ap (λ t. if t then TooDeep else unless_trapped r (called_state st e edge (map (start_in st) arrays) (function_of i f))) d ∙ ap (λ q. unless_trapped q (called_state st e edge (map (start_in st) arrays) (function_of i f))) same;
        }
        by false d (Ok ws) same =
            let S = all_sit (parts_of c) _ n e k sits in
            works (at_of u) i f callee (few d) held proper e _ _ words lent temp
            (record { number = e; there = S.0.edges.0; back_there = S.1.0.edges.0; calls = refl; returns = refl; enters = refl })
            (record { enters = call_tells u i words arrays (reads_of os lent) b; leaves = return_tells u e i temp z }) spare fits below s st ws (counted ws same) at (given ∙ same)

  -- ---- a call of an input function

  module _ (i : ℕ) (f : InputFunction) (there : slice_get c.typed.inputs i ≡ Some f) (held : Held) (u : Around) (os : List Operand) (lent : List Variable)
      (temp : Option ℕ) (spare : IfSome temp (Spare c held)) (b z n e k : ℕ) (sits : Sits (parts_of c) (call_edges (Input i) lent u os (option_map place.Local temp) b z n e k) n e k) (s : Store) (st : State) (at : Related c held b s st) where
    abbrev own : ℕ
    own = as_kind f.result (slice_index s.answers 0)

    abbrev later : Store
    later = record { cells = s.cells; answers = drop 1 s.answers; turns = s.turns }

    answer_is : answer_of c.input f.result st.taken ≡ own
    answer_is = ap (λ w. wrapped f.result (pos w)) (sym (ap (λ xs. slice_index xs 0) at.answers ∙ first st.taken c.input.answers))
      where
        first : (j : ℕ) (xs : List ℕ) → slice_index (drop j xs) 0 ≡ slice_index xs j
        first zero xs = refl
        first (suc j) [] = refl
        first (suc j) (x ∷ xs) = first j xs

    answers_are : drop 1 s.answers ≡ drop (st.taken + 1) c.input.answers
    answers_are = ap (drop 1) at.answers ∙ rest st.taken c.input.answers ∙ ap (λ j. drop j c.input.answers) (let e : suc st.taken ≡ st.taken + 1 = omega arith in e)
      where
        rest : (j : ℕ) (xs : List ℕ) → drop 1 (drop j xs) ≡ drop (suc j) xs
        rest zero xs = refl
        rest (suc j) [] = refl
        rest (suc j) (x ∷ xs) = rest j xs

    abbrev answer_edge : Option ℕ → Edge
    answer_edge o = edge_of u (Answer i (option_map place.Local o)) [] [] b z

    abbrev taken : List ℕ → Stepped
    taken cells = Moved e (record st { node = z; cells = cells; taken = st.taken + 1 })

    answer_goes : next (parts_of c) c.input st ≡ put st (option_map place.Local temp) own taken
    answer_goes =
        next_one (parts_of c) (good c) c.input st e (answer_edge temp) sits.edges.0 refl refl (sym at.node)
        ∙ ap (answered c.input st e (answer_edge temp) (option_map place.Local temp)) (ap (λ fs. slice_get fs i) (inputs_are c) ∙ there)
        ∙ ap (λ w. put st (option_map place.Local temp) w taken) answer_is

    pub answer_lands : Follows (parts_of c) c.input st s.turns s.turns (Came c held temp z) (landing (at_of u) temp (behind (happens (at_of u) (Answered i)) (gives own later)))
    answer_lands = by temp spare sits.edges.0 answer_goes
      where
        by : (o : Option ℕ) → IfSome o (Spare c held) → slice_get (parts_of c).edges e ≡ Some (answer_edge o) → next (parts_of c) c.input st ≡ put st (option_map place.Local o) own taken
            → Follows (parts_of c) c.input st s.turns s.turns (Came c held o z) (landing (at_of u) o (behind (happens (at_of u) (Answered i)) (gives own later)))
        by None sp there goes =
            let to : State = record st { node = z; cells = st.cells; taken = st.taken + 1 } in
            record {
              moves = 1;
              to = to;
              path = ap state_moved goes;
              tell = tells_one (parts_of c) c.input e (answer_edge None) st to goes there ∙ answer_tells u i None b z;
              there = record { node = refl; frames = at.frames; size = at.size; cells = at.cells; answers = answers_are };
              enough = omega arith;
              few = omega arith;
            }
        by (Some cell) sp there goes =
            let place_is : cell_in st (place.Local cell) ≡ Ok ((own_frame c).base + cell) = ap (λ f. cell_of st.cells f (place.Local cell)) (frame_is c held b s st at) ∙ local_cell st.cells (own_frame c) cell in
            let step = goes ∙ ap (λ r. unless_trapped r (λ j. taken (slice_set st.cells j own))) place_is in
            let to : State = record st { node = z; cells = slice_set st.cells ((own_frame c).base + cell) own; taken = st.taken + 1 } in
            record {
              moves = 1;
              to = to;
              path = ap state_moved step;
              tell = tells_one (parts_of c) c.input e (answer_edge (Some cell)) st to step there ∙ answer_tells u i (Some cell) b z;
              there = record {
                node = refl;
                frames = at.frames;
                size = length-set st.cells ((own_frame c).base + cell) own ∙ at.size;
                cells = agree_put c.keeps held s.cells st.cells ((own_frame c).base + cell) own at.cells sp.temporary (omega (arith, sp.within, at.size));
                answers = answers_are;
              };
              enough = omega arith;
              few = omega arith;
            }
