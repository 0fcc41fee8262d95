-- Declarations of integers and of arrays tell that they are done.
use Rattle.std.proofs.Common.{◌≡◌, ℕ, ◌+◌, ◌<◌, ◌≤◌, List, [], ◌∷◌, map, length, Some, None, Result, Ok, Err, refl, sym, ap, subst, ◌∙◌, arith}
use Rattle.std.specs.Prelude.{IsTrue, if◌then◌else◌}
use Rattle.c_values.specs.Kind.{int}
use Rattle.cfa.specs.declared.expr.Expr.TheVariants as expr
use Rattle.fq_core.specs.declared.span.Span.{Span}
use Rattle.fq_core.specs.declared.statement_kind.StatementKind.TheVariants as kinds
use Rattle.cfa.specs.declared.parts.Edge.{Edge}
use Rattle.cfa.specs.declared.parts.Operation.TheVariants as operations
use Rattle.cfa.specs.declared.parts.Variable.{Variable}
use Rattle.cfa.specs.declared.state.State.{State}
use Rattle.cfa.specs.declared.state.Trap.{Trap}
use Rattle.cfa.specs.declared.state.Trap.TheVariants as trap
use Rattle.cfa.specs.Rules.{cell_count}
use Rattle.cfa.specs.Values.{value_of, cell_of, after_value, array_start, element_at as element_of_array}
use Rattle.cfa.proofs.Indexes.{indexes_of_elements}
use Rattle.c_meaning.specs.Steps.{cell_in, moved, start_in, cleared as graph_cleared}
use Rattle.c_typed_trees.specs.Fitting.{is_integer}
use Rattle.c_lower_rules.specs.declared.graph_of.parts.Around.{Around}
use Rattle.c_lower_rules.specs.graph_of.Edges.{stated, edge_of}
use Rattle.tree_events.specs.declared.edge_events.event.What.TheVariants.{Did}
use Rattle.tree_events.specs.edge_events.Told.{told}
use Rattle.c_lower_rules.specs.graph_of.Expressions.{Value, array_of, cell_of as graph_cell, length_of as graph_length, element_of}
use Rattle.c_lower_rules.specs.graph_of.Statements.{local_row, element_row, elements_row, clear, array_row}
use Rattle.tree_meaning.specs.declared.way.Way.TheVariants.{GoesOn}
use Rattle.tree_meaning.specs.Outcomes.{Store}
use Rattle.tree_meaning.specs.Activations.{start_of, length_of, zeros_at, cleared}
use Rattle.tree_events.specs.Outcomes.{At, at_hand, happens}
use Rattle.tree_events.specs.Expressions.{Telling}
use Rattle.tree_events.specs.Statements.{then_next, declare, put, fill, declare_array}
use Rattle.tree_meaning_laws.specs.expression_laws.Sits.{Sits}
use Rattle.tree_events_laws.specs.expression_events.Follows.{Follows}
use Rattle.tree_meaning_laws.specs.expression_laws.Contexts.{Context, IsContext, Held, Related, Proper, Clear, parts_of, names_of, own_frame, own_activation}
use Rattle.tree_events_laws.specs.expression_events.Flows.{Does}
use Rattle.tree_meaning_laws.proofs.expression_laws.Sits.{all_sit}
use Rattle.tree_events_laws.proofs.expression_events.Follows.{tells_one, follows_give, follows_behind, follows_then}
use Rattle.tree_meaning_laws.proofs.expression_laws.Follows.{move_one}
use Rattle.tree_meaning_laws.proofs.expression_laws.Going.{next_one}
use Rattle.tree_meaning_laws.proofs.expression_laws.Cells.{frame_is, good}
use Rattle.c_meaning.specs.declared.stepped.Stepped.TheVariants.{Moved}
use Rattle.c_meaning.specs.Steps.{next}
use Rattle.tree_meaning_laws.proofs.expression_laws.Values.{Owned, constant_value, element_cell, array_small, start_is, length_is, whole_names}
use Rattle.tree_meaning_laws.specs.statement_laws.Simulates.{Arrives}
use Rattle.tree_events_laws.specs.statement_events.Simulates.{Simulates}
use Rattle.tree_meaning_laws.proofs.statement_laws.Cells.{cleared_is, agree_zeros, zeros_long, free_of, index_value}
use Rattle.tree_events_laws.proofs.statement_events.Rows.{From, Led, next_does}
use Rattle.tree_events_laws.proofs.statement_events.Assigns.{name_tells, assigned, put_does}

module _ (c : Context) (ok : IsContext c) (ho : Held) (proper : Proper c ho) where
  abbrev start : Variable → ℕ
  start v = start_of (own_activation c) v.place

  -- ---- integers

  whole_in : (v : Variable) → IsTrue (is_integer (names_of c) v) → Owned c v → (st : State) (held : Held) (node : ℕ) (s : Store) → Related c held node s st → cell_in st (graph_cell v.place) ≡ Ok (start v)
  whole_in v fits own st held node s h = ap (λ f. cell_of st.cells f (graph_cell v.place)) (frame_is c held node s st h) ∙ (whole_names c ok v held [] fits own).cell [] s.cells st.cells h.cells

  whole_kept : (v : Variable) → IsTrue (is_integer (names_of c) v) → Owned c v → IsTrue (c.keeps (start v))
  whole_kept v fits own = (whole_names c ok v ho [] fits own).kept [] [] (start v) refl

  same : (i j : ℕ) → (let r : Result ℕ Trap = Ok i in r) ≡ Ok j → i ≡ j
  same i j is = cc

  pub declare_zero : (span : Span) (v : Variable) → IsTrue (is_integer (names_of c) v) → Owned c v → Simulates c ho (declare (at_hand span kinds.Decl) (own_activation c) v None) (λ u. local_row v None (stated u span kinds.Decl))
  declare_zero span v fits own u a z n e k sits less s st at =
      assigned c ok ho ho e GoesOn _ (graph_cell v.place) (expr.Constant 0 v.kind) (happens (at_hand span kinds.Decl) (Did (Some v.name))) s st (Ok (start v)) (λ j. Ok 0) (λ i w q. q) proper sits.edges.0 refl
      (name_tells c ok (stated u span kinds.Decl) (graph_cell v.place) (expr.Constant 0 v.kind) v.name [] a z) at (whole_in v fits own st ho a s at)
      (λ j is. (
        subst (λ i. IsTrue (c.keeps i)) (same (start v) j is) (whole_kept v fits own),
        ap (λ f. value_of st.cells f (expr.Constant 0 v.kind)) (frame_is c ho a s st at) ∙ ap (λ q. q.value) (constant_value st.cells (own_frame c) 0 v.kind),
      )) (Arrives c ho u z) (λ s' to h. h)

  pub declare_value : (span : Span) (v : Variable) (low high : ℕ) (m : At → Telling) (x : Value) → IsTrue (is_integer (names_of c) v) → Owned c v → Clear c ho low high → Does c ho low high m x
      → Simulates c ho (declare (at_hand span kinds.Decl) (own_activation c) v (Some (m (at_hand span kinds.Decl)))) (λ u. local_row v (Some x) (stated u span kinds.Decl))
  declare_value span v low high m x fits own clear hx u a z n e k sits less s st at =
      put_does c ok ho low high m x (graph_cell v.place) (start v) GoesOn (v.name ∷ []) proper clear hx (whole_in v fits own) (whole_kept v fits own) (stated u span kinds.Decl) (happens (at_hand span kinds.Decl) (Did (Some v.name))) z a n e k
      (λ value reads b. name_tells c ok (stated u span kinds.Decl) (graph_cell v.place) value v.name reads b z) sits s st at (Arrives c ho u z) (λ s' to h. h)

  -- ---- arrays

  -- an expression does what it means, where its temporaries are free
  pub record ElementDoes (m : At → Telling) (x : Value) : Type 0 where
    pub low : ℕ
    pub high : ℕ
    pub clear : Clear c ho low high
    pub does : Does c ho low high m x

  abbrev pub ElementsDo : List (At → Telling) → List Value → Type 0
  ElementsDo [] [] = Unit {0}
  ElementsDo [] (x ∷ xs) = ⊥
  ElementsDo (m ∷ ms) [] = ⊥
  ElementsDo (m ∷ ms) (x ∷ xs) = ElementDoes m x × ElementsDo ms xs

  abbrev pub told_at : At → List (At → Telling) → List Telling
  told_at own ms = map (λ (m : At → Telling). m own) ms

  module _ (span : Span) (v : Variable) (count : ℕ) (long : v.length ≡ Some count) (few : count ≤ 1024) (own : Owned c v) where
    counted : cell_count v.length ≡ count
    counted = ap cell_count long

    length_known : length_of v.length ≡ count
    length_known = ap length_of long

    abbrev here : At
    here = at_hand span kinds.Decl

    clear_tells : (u : Around) (a z : ℕ) → told (edge_of (stated u span kinds.Decl) (operations.Clear (array_of v.place) (graph_length v.length)) (v.name ∷ []) [] a z) ≡ happens here (Did (Some v.name))
    unfolding told
    clear_tells u a z = refl

    clear_does : (u : Around) (a z n e k : ℕ) → Sits (parts_of c) (clear v (stated u span kinds.Decl) a z n e k) n e k → (s : Store) (st : State) → Related c ho a s st → Led c ho z (cleared s (start v) (length_of v.length)) st (happens here (Did (Some v.name)))
    clear_does u a z n e k sits s st at =
        let to : State = record st { node = z; cells = zeros_at (length_of v.length) (start v) st.cells } in
        let goes : next (parts_of c) c.input st ≡ Moved e to = next_one (parts_of c) (good c) c.input st e edge sits.edges.0 refl refl (sym at.node) ∙ ap (moved e edge st) cells in
        record {
          to = to;
          path = move_one (parts_of c) c.input e st to goes;
          tell = tells_one (parts_of c) c.input e edge st to goes sits.edges.0 ∙ clear_tells u a z;
          there = record {
            node = refl;
            frames = at.frames;
            size = zeros_long (length_of v.length) (start v) st.cells ∙ at.size;
            cells = agree_zeros c.keeps ho (length_of v.length) (start v) s.cells st.cells at.cells (λ i less. free_of c ho proper (start v + i) (own i (omega (arith, less, counted, length_known))));
            answers = at.answers;
          };
        }
      where
        edge : Edge
        edge = edge_of (stated u span kinds.Decl) (operations.Clear (array_of v.place) (graph_length v.length)) (v.name ∷ []) [] a z

        begin : start_in st (array_of v.place) ≡ start v
        begin = ap (λ f. array_start st.cells f (array_of v.place)) (frame_is c ho a s st at) ∙ start_is c ok st.cells v.place

        cells : graph_cleared st.cells (start_in st (array_of v.place)) (graph_length v.length) ≡ zeros_at (length_of v.length) (start v) st.cells
        cells = ap (λ i. graph_cleared st.cells i (graph_length v.length)) begin ∙ ap (graph_cleared st.cells (start v)) (length_is c ok v.length)
            ∙ cleared_is (length_of v.length) (start v) st.cells (λ i less. let in' = ok.within (start v + i) (own i (omega (arith, less, counted, length_known))) in omega (arith, in', at.size))

    element_in : (i : ℕ) → i < count → (st : State) (held : Held) (node : ℕ) (s : Store) → Related c held node s st → cell_in st (element_of v (expr.Constant i int)) ≡ Ok (start v + i)
    element_in i less st held node s h =
        let frame = own_frame c in
        let index = (indexes_of_elements count i int (array_small c ok v count long own) (index_value i (omega (arith, less, few)))).1 less in
        ap (λ f. cell_of st.cells f (element_of v (expr.Constant i int))) (frame_is c held node s st h)
        ∙ element_cell st.cells frame (array_of v.place) (expr.Constant i int) (graph_length v.length)
        ∙ ap (λ w. after_value w.value (λ j. element_of_array st.cells frame (array_of v.place) (graph_length v.length) w.kind j)) (constant_value st.cells frame i int)
        ∙ ap (λ l. element_of_array st.cells frame (array_of v.place) l int i) (length_is c ok v.length ∙ length_known)
        ∙ ap (λ b. if b then Ok (array_start st.cells frame (array_of v.place) + i) else Err trap.Index) index
        ∙ ap (λ j. Ok (j + i)) (start_is c ok st.cells v.place)

    element_does : (i : ℕ) (m : At → Telling) (x : Value) → i < count → ElementDoes m x → (u : Around) (a z n e k : ℕ) → Sits (parts_of c) (element_row v i x (stated u span kinds.Decl) a z n e k) n e k → From c ho a (Arrives c ho u z) (put here v (start v + i) (m here))
    element_does i m x less h u a z n e k sits s st at =
        put_does c ok ho h.low h.high m x (element_of v (expr.Constant i int)) (start v + i) GoesOn (v.name ∷ []) proper h.clear h.does (element_in i less) (own i (omega (arith, less, counted))) (stated u span kinds.Decl) (happens here (Did (Some v.name))) z a n e k
        (λ value reads b. name_tells c ok (stated u span kinds.Decl) (element_of v (expr.Constant i int)) value v.name reads b z) sits s st at (Arrives c ho u z) (λ s' to h. h)

    elements_do : (i : ℕ) (m : At → Telling) (ms : List (At → Telling)) (x : Value) (xs : List Value) → i + length (m ∷ ms) ≤ count → ElementDoes m x → ElementsDo ms xs
        → (u : Around) (a z n e k : ℕ) → Sits (parts_of c) (elements_row v i (x ∷ xs) (stated u span kinds.Decl) a z n e k) n e k → From c ho a (Arrives c ho u z) (fill here v (start v + i) (told_at here (m ∷ ms)))
    unfolding fill
    elements_do i m [] x [] less h hs u a z n e k sits s st at =
        follows_then (parts_of c) c.input (Arrives c ho u z) (Arrives c ho u z) st s.turns s.turns (put here v (start v + i) (m here) s) (then_next (fill here v (start v + i + 1) [])) (element_does i m x (omega (arith, less)) h u a z n e k sits s st at)
        (λ way s' to there few'. next_does c ho u z z (fill here v (start v + i + 1) []) (λ s st h. follows_give (parts_of c) c.input (Arrives c ho u z) st GoesOn s h) way s' to there)
    elements_do i m [] x (y ∷ xs) less h hs u a z n e k sits s st at = absurd hs
    elements_do i m (m' ∷ ms) x [] less h hs u a z n e k sits s st at = absurd hs
    elements_do i m (m' ∷ ms) x (y ∷ xs) less h hs u a z n e k sits s st at =
        let S = all_sit (parts_of c) _ n e k sits in
        let next' : start v + i + 1 ≡ start v + (i + 1) = omega arith in
        follows_then (parts_of c) c.input (Arrives c ho u n) (Arrives c ho u z) st s.turns s.turns (put here v (start v + i) (m here) s) (then_next (fill here v (start v + i + 1) (told_at here (m' ∷ ms)))) (element_does i m x (omega (arith, less)) h u a n _ _ _ S.1.0 s st at)
        (λ way s' to there few'. next_does c ho u n z (fill here v (start v + i + 1) (told_at here (m' ∷ ms)))
        (λ s st h. subst (λ j. Follows (parts_of c) c.input st s.turns s.turns (Arrives c ho u z) (fill here v j (told_at here (m' ∷ ms)) s)) (sym next') (elements_do (i + 1) m' ms y xs (omega (arith, less)) hs.0 hs.1 u n z _ _ _ S.1.1.0 s st h)) way s' to there)

    pub array_does : (ms : List (At → Telling)) (xs : List Value) → length ms ≤ count → ElementsDo ms xs → Simulates c ho (declare_array here (own_activation c) v (told_at here ms)) (λ u. array_row v xs (stated u span kinds.Decl))
    unfolding fill
    array_does [] [] less hs u a z n e k sits lz s st at =
        let s' = cleared s (start v) (length_of v.length) in
        let l = clear_does u a z n e k sits s st at in
        follows_behind (parts_of c) c.input (Arrives c ho u z) 1 st l.to (happens here (Did (Some v.name))) s.turns s.turns s.turns s.turns (fill here v (start v) [] s') l.path l.tell (omega arith) (omega arith)
        (follows_give (parts_of c) c.input (Arrives c ho u z) l.to GoesOn s' l.there)
    array_does [] (x ∷ xs) less hs u a z n e k sits lz s st at = absurd hs
    array_does (m ∷ ms) [] less hs u a z n e k sits lz s st at = absurd hs
    array_does (m ∷ ms) (x ∷ xs) less hs u a z n e k sits lz s st at =
        let S = all_sit (parts_of c) _ n e k sits in
        let l = clear_does u a n _ _ _ S.1.0 s st at in
        let s' = cleared s (start v) (length_of v.length) in
        let begin : start v + 0 ≡ start v = omega arith in
        follows_behind (parts_of c) c.input (Arrives c ho u z) 1 st l.to (happens here (Did (Some v.name))) s.turns s.turns s.turns s.turns (fill here v (start v) (told_at here (m ∷ ms)) s') l.path l.tell (omega arith) (omega arith)
        (subst (λ j. Follows (parts_of c) c.input l.to s.turns s.turns (Arrives c ho u z) (fill here v j (told_at here (m ∷ ms)) s')) begin (elements_do 0 m ms x xs (omega (arith, less)) hs.0 hs.1 u n z _ _ _ S.1.1.0 s' l.to l.there))
