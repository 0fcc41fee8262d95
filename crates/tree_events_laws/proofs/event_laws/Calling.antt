-- Calls tell what happens in them, by induction on how many activations more may stand.
use Rattle.std.proofs.Common.{◌≡◌, ℕ, zero, suc, ◌+◌, ◌-◌, ◌<◌, ◌≤◌, Bool, true, false, List, [], ◌∷◌, ◌++◌, map, take, length, Option, Some, None, Ok, refl, sym, ap, subst, ◌∙◌, arith, inl, inr}
use Rattle.std.specs.Prelude.{IsTrue, IfSome, nat_le, if◌then◌else◌, slice_get, slice_set, slice_index, ◌==◌}
use Rattle.std.specs.Option.{option_map}
use Rattle.std.specs.List.{AllByRecursion}
use Rattle.std.proofs.lemmas.Bool.{eq-eqb, ne_eqb, leb-true}
use Rattle.std.proofs.lemmas.List.{length-set, take_all, take-append-le}
use Rattle.cfa.specs.Each.{matched}
use Rattle.cfa.specs.declared.expr.ArrayPlace.{ArrayPlace}
use Rattle.cfa.specs.declared.expr.CellPlace.TheVariants as place
use Rattle.cfa.specs.declared.expr.Expr.{Expr}
use Rattle.cfa.specs.declared.parts.Edge.{Edge}
use Rattle.cfa.specs.declared.parts.Variable.{Variable}
use Rattle.cfa.specs.declared.state.Frame.{Frame}
use Rattle.cfa.specs.declared.state.State.{State}
use Rattle.cfa.specs.Graph.{is_return, is_guard}
use Rattle.cfa.specs.States.{running_frame}
use Rattle.cfa.specs.Table.{outgoing_of}
use Rattle.cfa.specs.Values.{array_start}
use Rattle.c_meaning.specs.declared.stepped.Stepped.{Stepped}
use Rattle.c_meaning.specs.declared.stepped.Stepped.TheVariants.{Moved, TooDeep, Returned}
use Rattle.c_meaning.specs.Runs.{state_moved}
use Rattle.c_meaning.specs.Starts.{fitted}
use Rattle.c_meaning.specs.Steps.{next, next_within, operated, call_of, called as called_state, called_frame, values_in, start_in, unless_trapped, function_at, left, onward, returned_from, returned_along, returned_by, result_word, put}
use Rattle.c_typed_trees.specs.declared.unit.TypedFunction.{TypedFunction}
use Rattle.c_typed_trees.specs.Fitting.{array_fits, array_lengths, word_kinds}
use Rattle.c_lower_rules.specs.graph_of.Edges.{entry_of, exit_of}
use Rattle.c_lower_rules.specs.graph_of.Expressions.{array_of}
use Rattle.c_lower_rules.specs.graph_of.GraphOf.{function_of, global_variables, around_of}
use Rattle.tree_meaning_laws.specs.temporaries_apart.Named.{IsBelow, body_named}
use Rattle.tree_meaning_laws.specs.temporaries_apart.Laws.{IsApart}
use Rattle.tree_meaning_laws.proofs.temporaries_apart.Stands.{ascend_least}
use Rattle.tree_meaning.specs.declared.way.Way.{Way}
use Rattle.std.proofs.Common.{append_assoc}
use Rattle.tree_events.specs.declared.edge_events.event.Event.{Event}
use Rattle.tree_events.specs.declared.edge_events.event.What.TheVariants.{Entered, Left}
use Rattle.tree_meaning.specs.Outcomes.{Store}
use Rattle.tree_events.specs.Outcomes.{Told, gives, behind, continued, ◌thence◌, turn_of, At, happens}
use Rattle.tree_meaning.specs.declared.activation.Activation.{Activation}
use Rattle.tree_meaning.specs.Activations.{start_of, first_cells, with_activation, without_activation}
use Rattle.tree_meaning.specs.Calls.{called}
use Rattle.tree_events.specs.edge_events.Told.{told}
use Rattle.tree_events.specs.Calls.{Calls, calling, run_function, give_result}
use Rattle.tree_events.specs.Trees.{body_does, calls_within}
use Rattle.tree_events_laws.specs.expression_events.Follows.{Follows}
use Rattle.tree_meaning_laws.specs.expression_laws.Contexts.{Context, IsContext, Held, Related, Proper, Spare, parts_of, names_of, own_frame, own_activation}
use Rattle.tree_meaning_laws.specs.expression_laws.Flows.{Site, Came}
use Rattle.tree_events_laws.specs.expression_events.Flows.{done_at, landing, CallTells, CallsDo}
use Rattle.tree_meaning_laws.proofs.expression_laws.Going.{next_one}
use Rattle.tree_meaning_laws.proofs.expression_laws.Follows.{move_one}
use Rattle.tree_events_laws.proofs.expression_events.Follows.{then_then, tells_one, follows_behind, follows_then, follows_less}
use Rattle.tree_meaning_laws.proofs.expression_laws.Cells.{agree_put, good, frame_is}
use Rattle.tree_meaning_laws.proofs.expression_laws.Values.{local_cell, start_is}
use Rattle.tree_meaning_laws.proofs.expression_laws.Calls.{function_there}
use Rattle.tree_meaning_laws.specs.statement_laws.Simulates.{Arrives}
use Rattle.tree_events_laws.proofs.statement_events.StatementTrees as statements
use Rattle.tree_meaning_laws.specs.for_steps.Laws.{HasSteps}
use Rattle.tree_meaning_laws.proofs.tree_laws.Bodies.{all_there, function_has}
use Rattle.tree_events_laws.proofs.event_laws.Bodies.{sits_behind}
use Rattle.tree_meaning_laws.proofs.tree_laws.Calling.{exit_function, at_exit}
use Rattle.tree_meaning_laws.proofs.tree_laws.Frames.{frame, inner, inner_ok, more_frames, frame_of, base_is, activation_is, held_in, inner_proper, inner_clear, entered_related, left_related}

pub behind_then : {A B : Type 0} (es : List Event) (t : Told A) (g : A → Store → Told B) → (behind es t thence g) ≡ behind es (t thence g)
behind_then es t g = ap (λ (all : List Event). record { events = all; done = (continued t.done g).done }) (append_assoc es t.events (continued t.done g).events)

-- the body of the function that runs, from its entry to its exit
pub body_runs : (c : Context) (ok : IsContext c) (calls : Calls) (works : CallsDo c calls) (ho : Held) (k : ℕ) (apart : IsApart c.own) → HasSteps c.own → slice_get c.typed.functions k ≡ Some c.own → c.locals ≡ apart.locals → Proper c ho
    → ((cell : ℕ) → apart.locals ≤ cell → cell < (c.own).cells → Spare c ho cell)
    → (s : Store) (st : State) → Related c ho (entry_of k) s st → Follows (parts_of c) c.input st s.turns s.turns (λ (way : Way). Related c ho (exit_of k)) (body_does c.typed calls c.own (own_activation c) s)
body_runs c ok calls works ho k apart steps there same proper clear s st at =
    let B = sits_behind c.typed c.files k c.own there in
    follows_less (parts_of c) c.input (Arrives c ho (around_of (global_variables c.typed) k c.own) (exit_of k)) (λ (way : Way). Related c ho (exit_of k)) st s.turns s.turns (body_does c.typed calls c.own (own_activation c) s)
    (λ way s' to h. at_exit c ho k c.own way s' to h)
    (statements.body_does c ok calls works (c.own).span (c.own).body ho apart.locals (c.own).cells
    (record { proper = proper; clear = clear; stands = record { ascend = apart.temporaries; below = subst (λ l. AllByRecursion (IsBelow l) (body_named (c.own).body).variables) (sym same) apart.variables } })
    (function_has c.typed (length c.files) c.fitting k c.own there).body steps
    (around_of (global_variables c.typed) k c.own) (entry_of k) (exit_of k) B.sits.node B.sits.edge B.sits.scope refl B.sits.sits B.below s st at)

module _ (c : Context) (ok : IsContext c) (callee : ℕ) (f : TypedFunction) (there : slice_get c.typed.functions callee ≡ Some f) (apart : IsApart f) (few : length c.frames < 64) (ho : Held) (proper : Proper c ho)
    (at : ℕ) (e back : Edge) (words : List Expr) (lent : List Variable) (temp : Option ℕ) (site : Site c callee at e back words (map (λ (v : Variable). array_of v.place) lent) temp) (own : At) (told_by : CallTells own callee e back temp) (spare : IfSome temp (Spare c ho))
    (fits : IsTrue (matched (array_fits (names_of c)) lent (array_lengths f))) (below : AllByRecursion (IsBelow c.locals) lent) where
  abbrev C : Context
  C = inner c ok callee at f there apart few lent fits below

  abbrev arrays : List ArrayPlace
  arrays = map (λ (v : Variable). array_of v.place) lent

  abbrev starts : List ℕ
  starts = map (λ (v : Variable). start_of (own_activation c) v.place) lent

  starts_are : (s : Store) (st : State) → Related c ho e.source s st → map (start_in st) arrays ≡ starts
  starts_are s st h = by lent
    where
      by : (vs : List Variable) → map (start_in st) (map (λ (v : Variable). array_of v.place) vs) ≡ map (λ (v : Variable). start_of (own_activation c) v.place) vs
      by [] = refl
      by (v ∷ vs) = ap (λ (x : ℕ). x ∷ map (start_in st) (map (λ (v : Variable). array_of v.place) vs)) (ap (λ (g : Frame). array_start st.cells g (array_of v.place)) (frame_is c ho e.source s st h) ∙ start_is c ok st.cells v.place)
          ∙ ap (λ (xs : List ℕ). start_of (own_activation c) v.place ∷ xs) (by vs)

  abbrev entered : State → List ℕ → State
  entered st ws = record { node = e.target; frames = st.frames ++ called_frame st at starts ∷ []; cells = st.cells ++ first_cells f.cells ws; taken = st.taken }

  -- the call: the frame is pushed
  goes_in : (s : Store) (st : State) (ws : List ℕ) → Related c ho e.source s st → values_in st words ≡ Ok ws → next (parts_of c) c.input st ≡ Moved at (entered st ws)
  goes_in s st ws h given =
      let count : nat_le 64 (length st.frames) ≡ false = ap (λ (fs : List Frame). nat_le 64 (length fs)) h.frames ∙ not_le (nat_le 64 (length c.frames)) refl in
      next_one (parts_of c) (good c) c.input st at e site.there (ap is_return site.calls) (ap is_guard site.calls) (sym h.node) ∙ ap (operated (parts_of c) c.input st at e) site.calls
      ∙ ap (call_of st at e words arrays) (function_there c callee f there)
      ∙ ap (λ b. if b then TooDeep else unless_trapped (values_in st words) (called_state st at e (map (start_in st) arrays) (function_of callee f))) count
      ∙ ap (λ r. unless_trapped r (called_state st at e (map (start_in st) arrays) (function_of callee f))) given
      ∙ ap (λ q. called_state st at e q (function_of callee f) ws) (starts_are s st h)
    where
      not_le : (b : Bool) → nat_le 64 (length c.frames) ≡ b → b ≡ false
      not_le true q = let more = leb-true 64 (length c.frames) q in absurd (omega (arith, more, few))
      not_le false q = refl

  -- the return: the frame is popped, and what its first cell holds is put where the call wants it
  abbrev back_to : State → List ℕ → Stepped
  back_to to cells = Moved (at + 1) (record { node = back.target; frames = c.frames; cells = cells; taken = to.taken })

  goes_back : (held : Held) (s : Store) (to : State) → Related C held (exit_of callee) s to
      → next (parts_of c) c.input to ≡ put (record { node = to.node; frames = c.frames; cells = take c.size to.cells; taken = to.taken }) (option_map place.Local temp) (slice_index to.cells c.size) (back_to to)
  unfolding next
  goes_back held s to h =
      let g = function_of callee f in
      let fr = frame_of c ok callee at f there apart few lent fits below to h.frames in
      let long : length to.frames ≡ length c.frames + 1 = ap length h.frames ∙ more_frames c ok callee at f there apart few lent fits below in
      let own : function_at (parts_of c) to.node ≡ Some g = ap (function_at (parts_of c)) h.node ∙ exit_function c callee f there in
      let at_exit' : (to.node == exit_of callee) ≡ true = eq-eqb to.node (exit_of callee) h.node in
      let two : (length to.frames == 1) ≡ false = ne_eqb (length to.frames) 1 (λ one. omega (arith, one, long, ok.some_frame)) in
      let calls_back : (running_frame to).call ≡ Some at = ap (λ (x : Frame). x.call) fr in
      let base : (running_frame to).base ≡ c.size = ap (λ (x : Frame). x.base) fr in
      let rest : take (length to.frames - 1) to.frames ≡ c.frames =
      ap (λ n. take n to.frames) (let place : length to.frames - 1 ≡ length c.frames = omega (arith, long) in place) ∙ ap (take (length c.frames)) h.frames
      ∙ take-append-le (length c.frames) c.frames (frame c ok callee at f there apart few lent fits below ∷ []) (omega arith) ∙ take_all (length c.frames) c.frames (omega arith) in
      ap (next_within (parts_of c) c.input to) own
      ∙ ap (λ b. if b then left (parts_of c) to g else onward (parts_of c) c.input to (outgoing_of (parts_of c) to.node)) at_exit'
      ∙ ap (λ b. if b then Returned (option_map (λ kind. fitted kind (result_word to)) g.result) else returned_from (parts_of c) to (running_frame to).call) two
      ∙ ap (returned_from (parts_of c) to) calls_back
      ∙ ap (returned_along to (at + 1)) site.back_there
      ∙ ap (returned_by to (at + 1) back) site.returns
      ∙ ap (λ fs. put (record { node = to.node; frames = fs; cells = take (running_frame to).base to.cells; taken = to.taken }) (option_map place.Local temp) (slice_index to.cells (running_frame to).base) (λ cells. Moved (at + 1) (record { node = back.target; frames = fs; cells = cells; taken = to.taken }))) rest
      ∙ ap (λ b. put (record { node = to.node; frames = c.frames; cells = take b to.cells; taken = to.taken }) (option_map place.Local temp) (slice_index to.cells b) (back_to to)) base

  -- what is given where the call lands
  abbrev leaves : ℕ → Store → Told ℕ
  leaves v s' = behind (happens own Left) (behind (done_at own temp) (gives v s'))

  -- one move leads out of the callee
  lands : (s : Store) (to : State) (v : ℕ) (s' : Store) → s'.turns ≡ s.turns → Related c ho back.target s' (record { node = back.target; frames = c.frames; cells = take c.size to.cells; taken = to.taken })
      → next (parts_of c) c.input to ≡ put (record { node = to.node; frames = c.frames; cells = take c.size to.cells; taken = to.taken }) (option_map place.Local temp) v (back_to to)
      → Follows (parts_of c) c.input to s.turns s.turns (Came c ho temp back.target) (leaves v s')
  lands s to v s' turns h goes = by temp spare told_by.leaves goes
    where
      by : (o : Option ℕ) → IfSome o (Spare c ho) → told back ≡ happens own Left ++ done_at own o → next (parts_of c) c.input to ≡ put (record { node = to.node; frames = c.frames; cells = take c.size to.cells; taken = to.taken }) (option_map place.Local o) v (back_to to)
          → Follows (parts_of c) c.input to s.turns s.turns (Came c ho o back.target) (behind (happens own Left) (behind (done_at own o) (gives v s')))
      by None sp tell goes =
          let there' : State = record { node = back.target; frames = c.frames; cells = take c.size to.cells; taken = to.taken } in
          record { moves = 1; to = there'; path = ap state_moved goes; tell = tells_one (parts_of c) c.input (at + 1) back to there' goes site.back_there ∙ tell; there = h; enough = omega (arith, turns); few = omega (arith, turns) }
      by (Some cell) sp tell goes =
          let cells : List ℕ = slice_set (take c.size to.cells) ((own_frame c).base + cell) v in
          let there' : State = record { node = back.target; frames = c.frames; cells = cells; taken = to.taken } in
          let step : next (parts_of c) c.input to ≡ Moved (at + 1) there' = goes ∙ ap (λ r. unless_trapped r (λ n. back_to to (slice_set (take c.size to.cells) n v))) (local_cell (take c.size to.cells) (own_frame c) cell) in
          record {
            moves = 1;
            to = there';
            path = ap state_moved step;
            tell = tells_one (parts_of c) c.input (at + 1) back to there' step site.back_there ∙ tell;
            there = record {
              node = refl;
              frames = refl;
              size = length-set (take c.size to.cells) ((own_frame c).base + cell) v ∙ h.size;
              cells = agree_put c.keeps ho s'.cells (take c.size to.cells) ((own_frame c).base + cell) v h.cells sp.temporary (omega (arith, sp.within, h.size));
              answers = h.answers;
            };
            enough = omega (arith, turns);
            few = omega (arith, turns);
          }

  -- ---- the whole call

  module _ (calls : Calls) (works : CallsDo C calls) (steps : HasSteps f) where
    result_kept : IsTrue (C.keeps c.size)
    result_kept = subst (λ j. IsTrue (C.keeps j)) (let e : (own_frame C).base ≡ c.size = base_is c ok callee at f there apart few lent fits below in e)
        ((inner_ok c ok callee at f there apart few lent fits below).kept (own_frame C).base (inr (inl (0, omega (arith, apart.words), omega arith))))

    run_does : (s s' : Store) (st : State) (ws : List ℕ) (a : Activation) → own_activation C ≡ a → a.base ≡ c.size → s'.cells ≡ s.cells → s'.answers ≡ s.answers → length ws + 1 ≤ f.cells → Related c ho e.source s st
        → Follows (parts_of c) c.input (entered st ws) s'.turns s'.turns (Came c ho temp back.target) (landing own temp (body_does c.typed calls f a (with_activation s' (first_cells f.cells ws)) thence give_result (body_does c.typed) c.typed.functions own a.base))
    run_does s s' st ws a is base same answers short h =
        let held = held_in c ok callee at f there apart few lent fits below st in
        let ok' = inner_ok c ok callee at f there apart few lent fits below in
        let inside : Related C held (entry_of callee) (with_activation s' (first_cells f.cells ws)) (entered st ws) =
        entered_related c ok callee at f there apart few lent fits below st ho e.source (entry_of callee) s (with_activation s' (first_cells f.cells ws)) ws (entered st ws) short h site.enters
        (ap (λ (fs : List Frame). fs ++ called_frame st at starts ∷ []) h.frames ∙ ap (λ b. c.frames ++ record { call = Some at; base = b; arrays = starts } ∷ []) h.size) refl refl (ap (λ (xs : List ℕ). xs ++ first_cells f.cells ws) same) answers in
        let runs = body_runs C ok' calls works held callee apart steps there refl (inner_proper c ok callee at f there apart few lent fits below st) (inner_clear c ok callee at f there apart few lent fits below st)
        (with_activation s' (first_cells f.cells ws)) (entered st ws) inside in
        subst (Follows (parts_of c) c.input (entered st ws) s'.turns s'.turns (Came c ho temp back.target)) (sym (then_then (λ v s3. behind (done_at own temp) (gives v s3)) (body_does c.typed calls f a (with_activation s' (first_cells f.cells ws))) (give_result (body_does c.typed) c.typed.functions own a.base)))
        (follows_then (parts_of c) c.input (λ (way : Way). Related C held (exit_of callee)) (Came c ho temp back.target) (entered st ws) s'.turns s'.turns (body_does c.typed calls f a (with_activation s' (first_cells f.cells ws))) _
        (subst (λ (b : Activation). Follows (parts_of c) c.input (entered st ws) s'.turns s'.turns (λ (way : Way). Related C held (exit_of callee)) (body_does c.typed calls f b (with_activation s' (first_cells f.cells ws)))) is runs)
        (λ way s'' to at' few'.
        lands s'' to (slice_index s''.cells a.base) (without_activation a.base s'') refl (left_related c ok callee at f there apart few lent fits below st ho e.source (exit_of callee) s s'' to a.base base proper h at' back.target)
        (goes_back held s'' to at' ∙ ap (λ w. put (record { node = to.node; frames = c.frames; cells = take c.size to.cells; taken = to.taken }) (option_map place.Local temp) w (back_to to)) (sym (at'.cells.same c.size result_kept) ∙ ap (slice_index s''.cells) (sym base)))))

    call_does : (s : Store) (st : State) (ws : List ℕ) → length ws ≡ length (word_kinds f) → length ws + 1 ≤ f.cells → Related c ho e.source s st → values_in st words ≡ Ok ws
        → Follows (parts_of c) c.input st s.turns s.turns (Came c ho temp back.target) (landing own temp (turn_of s.turns s (λ s'. run_function (body_does c.typed) c.typed.functions calls own callee (Some f) (called (own_activation c) lent s) ws s')))
    call_does s st ws counted short h given = by s.turns refl
      where
        long : length s.cells ≡ c.size
        long = h.cells.long ∙ h.size

        by : (q : ℕ) → s.turns ≡ q → Follows (parts_of c) c.input st s.turns s.turns (Came c ho temp back.target) (landing own temp (turn_of q s (λ s'. run_function (body_does c.typed) c.typed.functions calls own callee (Some f) (called (own_activation c) lent s) ws s')))
        by zero is = record { moves = 0; to = st; path = refl; tell = refl; enough = omega (arith, is) }
        by (suc q) is =
            let s' : Store = record { cells = s.cells; answers = s.answers; turns = q } in
            let a = called (own_activation c) lent s in
            let inside = body_does c.typed calls f a (with_activation s' (first_cells f.cells ws)) thence give_result (body_does c.typed) c.typed.functions own a.base in
            subst (Follows (parts_of c) c.input st s.turns s.turns (Came c ho temp back.target)) (sym (behind_then (happens own (Entered callee)) inside (λ v s3. behind (done_at own temp) (gives v s3))))
            (follows_behind (parts_of c) c.input (Came c ho temp back.target) 1 st (entered st ws) (happens own (Entered callee)) s.turns s.turns q q (landing own temp inside) (move_one (parts_of c) c.input at st (entered st ws) (goes_in s st ws h given))
            (tells_one (parts_of c) c.input at e st (entered st ws) (goes_in s st ws h given) site.there ∙ told_by.enters) (omega (arith, is)) (omega (arith, is))
            (run_does s s' st ws a (activation_is c ok callee at f there apart few lent fits below s long) long refl refl short h))

-- ---- by induction

pub calls_do : (n : ℕ) (c : Context) → IsContext c → AllByRecursion IsApart c.typed.functions → AllByRecursion HasSteps c.typed.functions → length c.frames + n ≡ 64 → CallsDo c (calls_within c.typed n)
unfolding calling
calls_do zero c ok apart steps depth own callee f there few ho proper at e back words lent temp site told_by spare fits below s st ws counted h given = absurd (omega (arith, depth, few))
calls_do (suc n) c ok apart steps depth own callee f there few ho proper at e back words lent temp site told_by spare fits below s st ws counted h given =
    let A = all_there IsApart c.typed.functions callee f apart there in
    let C' = inner c ok callee at f there A few lent fits below in
    let ok' = inner_ok c ok callee at f there A few lent fits below in
    let works = calls_do n C' ok' apart steps (omega (arith, depth, more_frames c ok callee at f there A few lent fits below)) in
    let most = locals_within A in
    subst (λ (o : Option TypedFunction). Follows (parts_of c) c.input st s.turns s.turns (Came c ho temp back.target) (landing own temp (turn_of s.turns s (λ s'. run_function (body_does c.typed) c.typed.functions (calls_within c.typed n) own callee o (called (own_activation c) lent s) ws s')))) (sym there)
    (call_does c ok callee f there A few ho proper at e back words lent temp site own told_by spare fits below (calls_within c.typed n) works (all_there HasSteps c.typed.functions callee f steps there) s st ws counted (omega (arith, counted, A.words, most)) h given)
  where
    locals_within : (A : IsApart f) → A.locals ≤ f.cells
    locals_within A = ascend_least A.locals f.cells _ A.temporaries
