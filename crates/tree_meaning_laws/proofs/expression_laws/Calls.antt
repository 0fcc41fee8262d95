-- Calls: their words, the edges of those of defined functions, and those of input functions.
use Rattle.std.proofs.Common.{◌≡◌, ℕ, zero, suc, ◌+◌, ◌<◌, Bool, true, false, List, [], ◌∷◌, ◌++◌, map, drop, length, Option, Some, None, Result, Ok, Err, refl, sym, ap, ◌∙◌, arith, pos, ⊎_elim, append_assoc}
use Rattle.std.specs.Prelude.{IsTrue, IfSome, nat_le, if◌then◌else◌, slice_get, slice_set, slice_index}
use Rattle.std.specs.Option.{option_map}
use Rattle.std.specs.List.{AllByRecursion}
use Rattle.std.proofs.lemmas.Bool.{le-leb, cases_lt}
use Rattle.std.proofs.lemmas.List.{length-set}
use Rattle.c_values.specs.Kind.{wrapped}
use Rattle.cfa.specs.Each.{matched}
use Rattle.cfa.specs.declared.expr.ArrayPlace.{ArrayPlace}
use Rattle.cfa.specs.declared.expr.CellPlace.TheVariants as place
use Rattle.cfa.specs.declared.expr.Expr.{Expr}
use Rattle.cfa.specs.declared.parts.Edge.{Edge}
use Rattle.cfa.specs.declared.parts.InputFunction.{InputFunction}
use Rattle.cfa.specs.declared.parts.Operation.TheVariants.{Call, Answer}
use Rattle.cfa.specs.declared.parts.Variable.{Variable}
use Rattle.cfa.specs.declared.state.State.{State}
use Rattle.cfa.specs.declared.state.Trap.{Trap}
use Rattle.cfa.specs.Values.{cell_of}
use Rattle.c_meaning.specs.declared.stepped.Stepped.{Stepped}
use Rattle.c_meaning.specs.declared.stepped.Stepped.TheVariants.{Moved, TooDeep}
use Rattle.c_meaning.specs.Runs.{state_moved}
use Rattle.c_meaning.specs.Steps.{next, unless_trapped, cell_in, put, answered, answer_of, call_of as called_along, called as called_state, values_of, values_in, value_before, start_in}
use Rattle.c_typed_trees.specs.declared.expression.Callee.TheVariants.{Defined, Input}
use Rattle.c_typed_trees.specs.declared.unit.TypedFunction.{TypedFunction}
use Rattle.c_typed_trees.specs.Fitting.{array_fits, array_lengths, word_kinds}
use Rattle.c_lower_rules.specs.declared.graph_of.parts.Around.{Around}
use Rattle.c_lower_rules.specs.declared.graph_of.parts.Operand.{Operand}
use Rattle.c_lower_rules.specs.graph_of.Edges.{entry_of, edge_of}
use Rattle.c_lower_rules.specs.graph_of.Expressions.{call_edges, array_of, reads_of}
use Rattle.c_lower_rules.specs.graph_of.GraphOf.{graph_of, function_of, functions_from}
use Rattle.tree_meaning_laws.specs.temporaries_apart.Named.{IsBelow}
use Rattle.tree_meaning.specs.Outcomes.{Store, Gives, unless_trap}
use Rattle.tree_meaning.specs.Activations.{as_kind}
use Rattle.tree_meaning.specs.Expressions.{Meant}
use Rattle.tree_meaning.specs.Calls.{Calls, word_values, unless_deep, called}
use Rattle.tree_meaning_laws.specs.expression_laws.Sits.{Sits}
use Rattle.tree_meaning_laws.specs.expression_laws.Follows.{Follows}
use Rattle.tree_meaning_laws.specs.expression_laws.Contexts.{Context, IsContext, Held, Agree, Related, Proper, Spare, parts_of, names_of, own_frame, own_activation}
use Rattle.tree_meaning_laws.specs.expression_laws.Flows.{HasRest, Came, CallsDo}
use Rattle.tree_meaning_laws.proofs.expression_laws.Sits.{all_sit}
use Rattle.tree_meaning_laws.proofs.expression_laws.Going.{next_one}
use Rattle.tree_meaning_laws.proofs.expression_laws.Cells.{Drops, related_less, drops_both, agree_put, good, frame_is}
use Rattle.tree_meaning_laws.proofs.expression_laws.Values.{local_cell, has_less, drop_front}

-- ---- functions of the automaton

functions_at : (i : ℕ) (fs : List TypedFunction) (k : ℕ) (f : TypedFunction) → slice_get fs k ≡ Some f → slice_get (functions_from i fs) k ≡ Some (function_of (i + k) f)
functions_at i [] k f is = absurd (cc)
functions_at i (g ∷ fs) zero f is = let e : i ≡ i + 0 = omega arith in ap Some (ap (function_of i) (same g f is) ∙ ap (λ j. function_of j f) e)
  where
    same : (g f : TypedFunction) → (let o : Option TypedFunction = Some g in o) ≡ Some f → g ≡ f
    same g f e = cc
functions_at i (g ∷ fs) (suc k) f is = let e : i + 1 + k ≡ i + suc k = omega arith in functions_at (i + 1) fs k f is ∙ ap (λ j. Some (function_of j f)) e

module _ (c : Context) where
  pub function_there : (k : ℕ) (f : TypedFunction) → slice_get c.typed.functions k ≡ Some f → slice_get (parts_of c).functions k ≡ Some (function_of k f)
  unfolding graph_of
  function_there k f there = let e : 0 + k ≡ k = omega arith in functions_at 0 c.typed.functions k f there ∙ ap (λ j. Some (function_of j f)) e

  pub inputs_are : (parts_of c).inputs ≡ c.typed.inputs
  unfolding graph_of
  inputs_are = refl

-- ---- words

-- operands have the values of words
pub record HasValues (c : Context) (ms : List Meant) (held : Held) (news : List ℕ) (os : List Operand) : Type 0 where
  pub values : (more xs ys : List ℕ) → Agree c.keeps held xs ys → values_of ys (own_frame c) (map (λ (w : Operand). w.value) os) ≡ word_values ms (news ++ more) xs

abbrev pub total : List Meant → ℕ
total [] = 0
total (m ∷ ms) = m.parts + total ms

pub values_count : (ms : List Meant) (vs cells ws : List ℕ) → word_values ms vs cells ≡ Ok ws → length ws ≡ length ms
values_count [] vs cells [] e = refl
values_count [] vs cells (w ∷ ws) e = absurd cc
values_count (m ∷ ms) vs cells ws e = by (m.rest vs cells) (word_values ms (drop m.parts vs) cells) (values_count ms (drop m.parts vs) cells) ws e
  where
    by : (r : Result ℕ Trap) (q : Result (List ℕ) Trap) → ((us : List ℕ) → q ≡ Ok us → length us ≡ length ms) → (ws : List ℕ) → value_before r q ≡ Ok ws → length ws ≡ suc (length ms)
    by (Err t) q h ws e = absurd cc
    by (Ok v) (Err t) h ws e = absurd cc
    by (Ok v) (Ok us) h ws e = let is : v ∷ us ≡ ws = cc in sym (ap length is) ∙ ap suc (h us refl)

module _ (c : Context) (ok : IsContext c) where
  pub nothing_has : (held : Held) → HasValues c [] held [] []
  nothing_has held = record { values = λ more xs ys agree. refl }

  pub more_have : (m : Meant) (ms : List Meant) (held held' : Held) (news news' : List ℕ) (o : Operand) (os : List Operand) → Drops held' held → length news ≡ m.parts → HasRest c m.kind m.rest held news o → HasValues c ms held' news' os
      → HasValues c (m ∷ ms) held' (news ++ news') (o ∷ os)
  more_have m ms held held' news news' o os d long h g = record {
    values = λ more xs ys agree.
        let vs = (news ++ news') ++ more in
        let behind : news' ++ more ≡ drop m.parts vs = sym (ap (drop m.parts) (append_assoc news news' more) ∙ drop_front c ok news (news' ++ more) m.parts long) in
        ap (λ r. value_before r (values_of ys (own_frame c) (map (λ (w : Operand). w.value) os))) (has_less c ok m.kind m.rest held held' news news' o d h more xs ys agree)
        ∙ ap (λ q. value_before (m.rest vs xs) q) (g.values more xs ys agree ∙ ap (λ (ns : List ℕ). word_values ms ns xs) behind);
  }

  -- ---- what is no longer wanted

  pub came_less : (more less : Held) (temp : Option ℕ) (node v : ℕ) (s : Store) (st : State) → Drops more less → Came c more temp node v s st → Came c less temp node v s st
  came_less more less None node v s st d h = related_less c more less node s st d h
  came_less more less (Some cell) node v s st d h = related_less c _ _ node s st (drops_both more less ((own_frame c).base + cell) v d) h

  -- ---- a call of a defined function

  module _ (calls : Calls) (works : CallsDo c calls) (i : ℕ) (f : TypedFunction) (callee : slice_get c.typed.functions i ≡ Some f) (held : Held) (proper : Proper c held) (u : Around) (os : List Operand) (lent : List Variable)
      (temp : Option ℕ) (spare : IfSome temp (Spare c held)) (fits : IsTrue (matched (array_fits (names_of c)) lent (array_lengths f))) (below : AllByRecursion (IsBelow c.locals) lent)
      (b z n e k : ℕ) (sits : Sits (parts_of c) (call_edges (Defined i) lent u os (option_map place.Local temp) b z n e k) n e k) (s : Store) (st : State) (at : Related c held b s st)
      (r : Result (List ℕ) Trap) (given : values_in st (map (λ (w : Operand). w.value) os) ≡ r) (counted : (ws : List ℕ) → r ≡ Ok ws → length ws ≡ length (word_kinds f)) where
    abbrev words : List Expr
    words = map (λ (w : Operand). w.value) os

    abbrev arrays : List ArrayPlace
    arrays = map (λ (v : Variable). array_of v.place) lent

    abbrev edge : Edge
    edge = edge_of u (Call i words arrays) [] (reads_of os lent) b (entry_of i)

    goes : next (parts_of c) c.input st ≡ (if nat_le 64 (length c.frames) then TooDeep else unless_trapped r (called_state st e edge (map (start_in st) arrays) (function_of i f)))
    goes =
        let S = all_sit (parts_of c) _ n e k sits in
        next_one (parts_of c) (good c) c.input st e edge S.0.edges.0 refl refl (sym at.node)
        ∙ ap (called_along st e edge words arrays) (function_there c i f callee)
        ∙ ap (λ q. if nat_le 64 (length q) then TooDeep else unless_trapped (values_in st words) (called_state st e edge (map (start_in st) arrays) (function_of i f))) at.frames
        ∙ ap (λ q. if nat_le 64 (length c.frames) then TooDeep else unless_trapped q (called_state st e edge (map (start_in st) arrays) (function_of i f))) given

    few : nat_le 64 (length c.frames) ≡ false → length c.frames < 64
    few q = ⊎_elim (λ fewer. fewer) (λ many. let deep' = le-leb 64 (length c.frames) many in let clash : true ≡ false = sym deep' ∙ q in absurd cc) (cases_lt (length c.frames) 64)

    pub defined_lands : Follows (parts_of c) c.input st s.turns s.turns (Came c held temp z) (unless_deep (nat_le 64 (length c.frames)) (unless_trap r (λ ws. calls i (called (own_activation c) lent s) ws s)))
    defined_lands = by (nat_le 64 (length c.frames)) refl r refl
      where
        by : (deep : Bool) → nat_le 64 (length c.frames) ≡ deep → (q : Result (List ℕ) Trap) → r ≡ q → Follows (parts_of c) c.input st s.turns s.turns (Came c held temp z) (unless_deep deep (unless_trap q (λ ws. calls i (called (own_activation c) lent s) ws s)))
        by true d q same = record { moves = 0; to = st; path = refl; stops = goes ∙ ap (λ t. if t then TooDeep else unless_trapped r (called_state st e edge (map (start_in st) arrays) (function_of i f))) d }
        by false d (Err t) same = record {
          moves = 0;
          to = st;
          path = refl;
          stops = goes ∙ ap (λ t. if t then TooDeep else unless_trapped r (called_state st e edge (map (start_in st) arrays) (function_of i f))) d ∙ ap (λ q. unless_trapped q (called_state st e edge (map (start_in st) arrays) (function_of i f))) same;
        }
        by false d (Ok ws) same =
            let S = all_sit (parts_of c) _ n e k sits in
            works i f callee (few d) held proper e _ _ words lent temp
            (record { number = e; there = S.0.edges.0; back_there = S.1.0.edges.0; calls = refl; returns = refl; enters = refl }) spare fits below s st ws (counted ws same) at (given ∙ same)

  -- ---- a call of an input function

  module _ (i : ℕ) (f : InputFunction) (there : slice_get c.typed.inputs i ≡ Some f) (held : Held) (u : Around) (os : List Operand) (lent : List Variable)
      (temp : Option ℕ) (spare : IfSome temp (Spare c held)) (b z n e k : ℕ) (sits : Sits (parts_of c) (call_edges (Input i) lent u os (option_map place.Local temp) b z n e k) n e k) (s : Store) (st : State) (at : Related c held b s st) where
    abbrev own : ℕ
    own = as_kind f.result (slice_index s.answers 0)

    abbrev later : Store
    later = record { cells = s.cells; answers = drop 1 s.answers; turns = s.turns }

    answer_is : answer_of c.input f.result st.taken ≡ own
    answer_is = ap (λ w. wrapped f.result (pos w)) (sym (ap (λ xs. slice_index xs 0) at.answers ∙ first st.taken c.input.answers))
      where
        first : (j : ℕ) (xs : List ℕ) → slice_index (drop j xs) 0 ≡ slice_index xs j
        first zero xs = refl
        first (suc j) [] = refl
        first (suc j) (x ∷ xs) = first j xs

    answers_are : drop 1 s.answers ≡ drop (st.taken + 1) c.input.answers
    answers_are = ap (drop 1) at.answers ∙ rest st.taken c.input.answers ∙ ap (λ j. drop j c.input.answers) (let e : suc st.taken ≡ st.taken + 1 = omega arith in e)
      where
        rest : (j : ℕ) (xs : List ℕ) → drop 1 (drop j xs) ≡ drop (suc j) xs
        rest zero xs = refl
        rest (suc j) [] = refl
        rest (suc j) (x ∷ xs) = rest j xs

    abbrev answer_edge : Edge
    answer_edge = edge_of u (Answer i (option_map place.Local temp)) [] [] b z

    abbrev taken : List ℕ → Stepped
    taken cells = Moved e (record st { node = z; cells = cells; taken = st.taken + 1 })

    answer_goes : next (parts_of c) c.input st ≡ put st (option_map place.Local temp) own taken
    answer_goes =
        next_one (parts_of c) (good c) c.input st e answer_edge sits.edges.0 refl refl (sym at.node)
        ∙ ap (answered c.input st e answer_edge (option_map place.Local temp)) (ap (λ fs. slice_get fs i) (inputs_are c) ∙ there)
        ∙ ap (λ w. put st (option_map place.Local temp) w taken) answer_is

    pub answer_lands : Follows (parts_of c) c.input st s.turns s.turns (Came c held temp z) (Gives own later)
    answer_lands = by temp spare answer_goes
      where
        by : (o : Option ℕ) → IfSome o (Spare c held) → next (parts_of c) c.input st ≡ put st (option_map place.Local o) own taken → Follows (parts_of c) c.input st s.turns s.turns (Came c held o z) (Gives own later)
        by None sp goes = record {
          moves = 1;
          to = record st { node = z; cells = st.cells; taken = st.taken + 1 };
          path = ap state_moved goes;
          there = record { node = refl; frames = at.frames; size = at.size; cells = at.cells; answers = answers_are };
          enough = omega arith;
          few = omega arith;
        }
        by (Some cell) sp goes =
            let place_is : cell_in st (place.Local cell) ≡ Ok ((own_frame c).base + cell) = ap (λ f. cell_of st.cells f (place.Local cell)) (frame_is c held b s st at) ∙ local_cell st.cells (own_frame c) cell in
            let step = goes ∙ ap (λ r. unless_trapped r (λ j. taken (slice_set st.cells j own))) place_is in
            record {
              moves = 1;
              to = record st { node = z; cells = slice_set st.cells ((own_frame c).base + cell) own; taken = st.taken + 1 };
              path = ap state_moved step;
              there = record {
                node = refl;
                frames = at.frames;
                size = length-set st.cells ((own_frame c).base + cell) own ∙ at.size;
                cells = agree_put c.keeps held s.cells st.cells ((own_frame c).base + cell) own at.cells sp.temporary (omega (arith, sp.within, at.size));
                answers = answers_are;
              };
              enough = omega arith;
              few = omega arith;
            }
