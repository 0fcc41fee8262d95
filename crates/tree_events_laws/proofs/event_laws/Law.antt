-- What the edges of a run tell is what happens by the trees.
use Rattle.std.proofs.Common.{inl, inr, ◌≡◌, ℕ, ◌+◌, ◌<◌, ◌≤◌, Bool, true, false, List, [], ◌∷◌, length, Some, None, refl, sym, ap, subst, ◌∙◌, arith, ⊎_elim, length-append}
use Rattle.std.specs.Prelude.{◌≢◌, ◌⊎◌, ◌-◌, ◌++◌, nat_lt, slice_get, slice_index}
use Rattle.std.proofs.lemmas.Bool.{lt-ltb, ltb-true, cases_lt}
use Rattle.std.proofs.lemmas.List.{length-map}
use Rattle.c_values.specs.declared.kinds.Kind.{Kind}
use Rattle.cfa.specs.declared.state.State.{State}
use Rattle.c_meaning.specs.declared.input.Input.{Input}
use Rattle.c_meaning.specs.declared.stepped.Stepped.{Stepped}
use Rattle.c_meaning.specs.Runs.{state_moved}
use Rattle.c_meaning.specs.Starts.{CanStart, fitted_words, start_of, first_frame}
use Rattle.c_meaning.specs.Steps.{next as next_of}
use Rattle.c_typed_trees.specs.declared.unit.Typed.{Typed}
use Rattle.c_typed_trees.specs.declared.unit.TypedFunction.{TypedFunction}
use Rattle.c_typed_trees.specs.Fitting.{word_kinds, array_lengths, global_cells}
use Rattle.c_lower_rules.specs.graph_of.Edges.{entry_of, exit_of}
use Rattle.c_lower_rules.specs.graph_of.GraphOf.{graph_of, function_of}
use Rattle.tree_meaning_laws.specs.temporaries_apart.Laws.{IsApart}
use Rattle.tree_meaning_laws.proofs.temporaries_apart.Stands.{ascend_least}
use Rattle.tree_meaning.specs.declared.way.Way.{Way}
use Rattle.tree_meaning.specs.declared.ends.TreeEnd.{TreeEnd}
use Rattle.tree_meaning.specs.declared.ends.TreeEnd.TheVariants as ends
use Rattle.tree_meaning.specs.declared.activation.Activation.{Activation}
use Rattle.tree_meaning.specs.Outcomes.{End, TrapEnd, BlockedEnd, TooDeepEnd, Done, Gives, Ends, OutOfTurns}
use Rattle.tree_meaning.specs.Activations.{first_cells}
use Rattle.tree_events.specs.Outcomes.{Told}
use Rattle.tree_events.specs.Trees.{body_does, calls_within, calls_in}
use Rattle.tree_events.specs.Runs.{function_told, events_if, end_if as told_if, tree_events, told_end}
use Rattle.tree_events.specs.declared.edge_events.event.Event.{Event}
use Rattle.tree_meaning.specs.Ends.{first_values, first_activation, first_store, end_of, run_end}
use Rattle.tree_meaning_laws.specs.expression_laws.Follows.{ended, Moves}
use Rattle.tree_events_laws.specs.expression_events.Follows.{tells, FollowsBy, Follows}
use Rattle.tree_events_laws.proofs.expression_events.Follows.{tells_add}
use Rattle.tree_meaning_laws.specs.expression_laws.Contexts.{Context, IsContext, Held, Related, Proper, Spare, own_frame, own_activation}
use Rattle.tree_meaning_laws.proofs.expression_laws.Follows.{no_later}
use Rattle.tree_meaning_laws.specs.tree_laws.Laws.{IsNext, IsMade}
use Rattle.tree_events_laws.specs.event_laws.Laws.{edges_tell as first_tell, Tells, TreesAreTold, EdgesTell, EndedEdgesTell}
use Rattle.tree_meaning_laws.proofs.tree_laws.Bodies.{all_there, function_has}
use Rattle.tree_meaning_laws.proofs.tree_laws.Frames.{first_long}
use Rattle.tree_meaning_laws.proofs.tree_laws.Law as plain
use Rattle.tree_events_laws.proofs.event_laws.Calling.{body_runs, calls_do}

module _ (t : Typed) (files : List (List ℕ)) (input : Input) (k : ℕ) (f : TypedFunction) (made : IsMade t (length files)) (there : slice_get t.functions k ≡ Some f) (starts : CanStart (function_of k f) input.words) where
  abbrev A : IsApart f
  A = all_there IsApart t.functions k f made.apart there

  abbrev globals : ℕ
  globals = length (first_values t f)

  abbrev C : Context
  C = record {
    typed = t;
    files = files;
    fitting = made.fitting;
    input = input;
    own = f;
    frames = first_frame (graph_of t files) ∷ [];
    size = globals + f.cells;
    locals = A.locals;
    keeps = λ j. nat_lt j (globals + A.locals);
  }

  abbrev started : State
  started = start_of (graph_of t files) (function_of k f) input.words

  abbrev words : List ℕ
  words = fitted_words input.words (word_kinds f)

  abbrev nobody : Held
  nobody i = None

  base_is : (own_frame C).base ≡ globals
  unfolding graph_of
  base_is = sym (length-map (global_cells t) (λ (g : Kind × ℕ). g.1))

  globals_are : length (global_cells t) ≡ globals
  globals_are = sym (length-map (global_cells t) (λ (g : Kind × ℕ). g.1))

  activation_is : own_activation C ≡ first_activation t f
  activation_is = ap (λ (n : ℕ). let a : Activation = record { depth = 1; base = n; arrays = [] } in a) base_is

  locals_most : A.locals ≤ f.cells
  locals_most = ascend_least A.locals f.cells _ A.temporaries

  no_arrays : array_lengths f ≡ []
  no_arrays = starts.1

  context_ok : IsContext C
  context_ok = record {
    some_frame = omega arith;
    most_frames = omega arith;
    small = let most = (function_has t (length files) made.fitting k f there).most in let few = (made.fitting).cells in omega (arith, most, few, globals_are);
    result = omega (arith, A.words);
    kept = λ cell own. ⊎_elim (λ less. lt-ltb cell (globals + A.locals) (omega (arith, less, globals_are))) (λ rest. ⊎_elim
        (λ q. lt-ltb cell (globals + A.locals) (omega (arith, q.1, q.2, base_is)))
        (λ l. absurd (none l.0 l.1 l.3)) rest) own;
    within = λ cell kept. let less = ltb-true cell (globals + A.locals) kept in omega (arith, less, locals_most);
  }
    where
      none : (p count : ℕ) → slice_get (array_lengths f) p ≡ Some count → ⊥
      none p count is = let e : slice_get (let xs : List ℕ = [] in xs) p ≡ Some count = ap (λ xs. slice_get xs p) (sym no_arrays) ∙ is in cc

  words_short : length words + 1 ≤ f.cells
  words_short = let fewer = short input.words (word_kinds f) in omega (arith, fewer, A.words, locals_most)
    where
      short : (ws : List ℕ) (ks : List Kind) → length (fitted_words ws ks) ≤ length ks
      short [] ks = omega arith
      short (w ∷ ws) [] = omega arith
      short (w ∷ ws) (q ∷ ks) = let less = short ws ks in omega (arith, less)

  cells_are : (turns : ℕ) → (first_store t f input turns).cells ≡ started.cells
  unfolding graph_of
  cells_are turns = refl

  at_first : (turns : ℕ) → Related C nobody (entry_of k) (first_store t f input turns) started
  at_first turns = record {
    node = refl;
    frames = refl;
    size = ap length (sym (cells_are turns)) ∙ length-append (first_values t f) (first_cells f.cells words) ∙ ap (λ n. globals + n) (first_long f.cells words words_short);
    cells = record { long = ap length (cells_are turns); same = λ i kept. ap (λ xs. slice_index xs i) (cells_are turns); holds = λ i v is. absurd cc };
    answers = refl;
  }

  nobody_proper : Proper C nobody
  nobody_proper i v is = absurd cc

  nobody_clear : (cell : ℕ) → A.locals ≤ cell → cell < f.cells → Spare C nobody cell
  nobody_clear cell low high = record {
    temporary = by (nat_lt ((own_frame C).base + cell) (globals + A.locals)) refl;
    free = refl;
    within = omega (arith, base_is, high);
  }
    where
      by : (b : Bool) → nat_lt ((own_frame C).base + cell) (globals + A.locals) ≡ b → b ≡ false
      by true e = let less = ltb-true ((own_frame C).base + cell) (globals + A.locals) e in absurd (omega (arith, less, low, base_is))
      by false e = refl

  abbrev run : ℕ → Told Way
  run turns = function_told t f input turns

  runs : (turns : ℕ) → Follows (graph_of t files) input started turns turns (λ (way : Way). Related C nobody (exit_of k)) (run turns)
  unfolding calls_in
  runs turns =
      let works = calls_do 63 C context_ok made.apart made.steps (omega arith) in
      subst (λ (a : Activation). Follows (graph_of t files) input started turns turns (λ (way : Way). Related C nobody (exit_of k)) (body_does t (calls_within t 63) f a (first_store t f input turns))) activation_is
      (body_runs C context_ok (calls_within t 63) works nobody k A (all_there _ t.functions k f made.steps there) there refl nobody_proper nobody_clear (first_store t f input turns) started (at_first turns))

  next_end : (end : End) → IsNext (end_of t f end) (ended end)
  next_end (TrapEnd trap) = refl
  next_end BlockedEnd = refl
  next_end TooDeepEnd = refl

  not_out : (end : End) → end_of t f end ≡ ends.OutOfTurns → ⊥
  not_out (TrapEnd trap) e = absurd cc
  not_out BlockedEnd e = absurd cc
  not_out TooDeepEnd e = absurd cc

  -- with so many turns, a beginning of the run
  record Found (turns : ℕ) (es : List Event) (end : TreeEnd) : Type 0 where
    moves : ℕ
    to : State
    path : Moves (graph_of t files) input moves started to
    tell : tells (graph_of t files) input moves started ≡ es
    enough : end ≡ ends.OutOfTurns → turns ≤ moves
    last : end ≢ ends.OutOfTurns → IsNext end (next_of (graph_of t files) input to)

  found_by : (turns : ℕ) (es : List Event) (d : Done Way) → FollowsBy (graph_of t files) input started turns turns (λ (way : Way). Related C nobody (exit_of k)) es d → Found turns es (run_end t f d)
  found_by turns es (Gives way s) F = record { moves = F.moves; to = F.to; path = F.path; tell = F.tell; enough = λ e. absurd cc; last = λ e. plain.gives_back t files input k f made there starts s F.to F.there }
  found_by turns es (Ends other) F = record { moves = F.moves; to = F.to; path = F.path; tell = F.tell; enough = λ e. absurd (not_out other e); last = λ e. subst (IsNext (end_of t f other)) (sym F.stops) (next_end other) }
  found_by turns es OutOfTurns F = record { moves = F.moves; to = F.to; path = F.path; tell = F.tell; enough = λ e. F.enough; last = λ e. absurd (e refl) }

  found : (turns : ℕ) → Tells t files k f input turns
  found turns =
      let F = found_by turns (run turns).events (run turns).done (runs turns) in
      let events_are : events_if t (Some f) input turns ≡ tree_events t k input turns = ap (λ o. events_if t o input turns) (sym there) in
      let end_is : told_end t k input turns ≡ run_end t f (run turns).done = ap (λ o. told_if t o input turns) there in
      record {
        moves = F.moves;
        to = F.to;
        path = F.path;
        tell = F.tell ∙ events_are;
        enough = λ e. F.enough (sym end_is ∙ e);
        last = λ e. subst (λ (q : TreeEnd). IsNext q (next_of (graph_of t files) input F.to)) (sym end_is) (F.last (λ r. e (end_is ∙ r)));
      }

  next_stops : (end : TreeEnd) (s : Stepped) → IsNext end s → state_moved s ≡ None
  next_stops (ends.Returned value) s e = ap state_moved e
  next_stops (ends.Trapped trap) s e = ap state_moved e
  next_stops ends.Blocked s e = ap state_moved e
  next_stops ends.TooDeep s e = ap state_moved e
  next_stops ends.OutOfTurns s e = absurd e

  is_out : (end : TreeEnd) → (end ≡ ends.OutOfTurns) ⊎ (end ≢ ends.OutOfTurns)
  is_out (ends.Returned value) = inr (λ e. absurd cc)
  is_out (ends.Trapped trap) = inr (λ e. absurd cc)
  is_out ends.Blocked = inr (λ e. absurd cc)
  is_out ends.TooDeep = inr (λ e. absurd cc)
  is_out ends.OutOfTurns = inl refl

  -- with n turns the beginning is as long as n edges, where there are so many
  long : (n : ℕ) (s : State) → Moves (graph_of t files) input n started s → (T : Tells t files k f input n) → n ≤ T.moves
  long n s path T = ⊎_elim (λ out. T.enough out)
      (λ some. ⊎_elim (λ less. absurd (no_later (graph_of t files) input T.moves n started T.to s T.path (next_stops (told_end t k input n) _ (T.last some)) path less)) (λ more. more) (cases_lt T.moves n)) (is_out (told_end t k input n))

  beginning : (n : ℕ) (s : State) → Moves (graph_of t files) input n started s → (rest : List Event) × (tree_events t k input n ≡ first_tell t files k f input n ++ rest)
  beginning n s path =
      let T = found n in
      let l = long n s path T in
      let sum : T.moves ≡ T.moves - n + n = omega (arith, l) in (
        tells (graph_of t files) input (T.moves - n) s,
        sym T.tell ∙ ap (λ i. tells (graph_of t files) input i started) sum ∙ tells_add (graph_of t files) input n (T.moves - n) started s path,
      )

  all_told : (n more : ℕ) (s : State) → Moves (graph_of t files) input n started s → state_moved (next_of (graph_of t files) input s) ≡ None → tree_events t k input (n + 1 + more) ≡ first_tell t files k f input n
  all_told n more s path stop =
      let T = found (n + 1 + more) in
      let below : T.moves ≤ n = ⊎_elim (λ less. absurd (no_later (graph_of t files) input n T.moves started s T.to path stop T.path less)) (λ more'. more') (cases_lt n T.moves) in
      let above : n ≤ T.moves = ⊎_elim (λ out. let e = T.enough out in omega (arith, e))
      (λ some. ⊎_elim (λ less. absurd (no_later (graph_of t files) input T.moves n started T.to s T.path (next_stops (told_end t k input (n + 1 + more)) _ (T.last some)) path less)) (λ more'. more') (cases_lt T.moves n)) (is_out (told_end t k input (n + 1 + more))) in
      let same : T.moves ≡ n = omega (arith, below, above) in
      sym T.tell ∙ ap (λ i. tells (graph_of t files) input i started) same

pub trees_are_told : TreesAreTold
trees_are_told t files entry f input turns made there starts = found t files input entry f made there starts turns

pub edges_tell : EdgesTell
edges_tell t files entry f input n s made there starts path = beginning t files input entry f made there starts n s path

pub ended_edges_tell : EndedEdgesTell
ended_edges_tell t files entry f input n s more made there starts path stop = all_told t files input entry f made there starts n more s path stop
