-- The tree and the automaton have the same ends.
use Rattle.std.proofs.Common.{◌≡◌, ◌↔◌, ℕ, ◌+◌, ◌<◌, ◌≤◌, Bool, true, false, List, [], ◌∷◌, length, Option, Some, None, refl, sym, ap, subst, ◌∙◌, arith, ⊎_elim, length-append}
use Rattle.std.specs.Prelude.{◌≢◌, IsTrue, nat_lt, if◌then◌else◌, slice_get, slice_index, ◌==◌}
use Rattle.std.specs.Option.{option_map}
use Rattle.std.proofs.lemmas.Bool.{eq-eqb, lt-ltb, ltb-true}
use Rattle.std.proofs.lemmas.List.{length-map}
use Rattle.c_values.specs.declared.kinds.Kind.{Kind}
use Rattle.cfa.specs.declared.state.Frame.{Frame}
use Rattle.cfa.specs.declared.state.State.{State}
use Rattle.cfa.specs.States.{running_frame}
use Rattle.cfa.specs.Table.{outgoing_of}
use Rattle.c_meaning.specs.declared.input.Input.{Input}
use Rattle.c_meaning.specs.declared.stepped.Stepped.{Stepped}
use Rattle.c_meaning.specs.declared.stepped.Stepped.TheVariants as next
use Rattle.c_meaning.specs.Runs.{state_moved}
use Rattle.c_meaning.specs.Starts.{CanStart, fitted, fitted_words, start_of, first_frame}
use Rattle.c_meaning.specs.Steps.{next as next_of, next_within, function_at, left, onward, returned_from, result_word}
use Rattle.c_typed_trees.specs.declared.unit.Typed.{Typed}
use Rattle.c_typed_trees.specs.declared.unit.TypedFunction.{TypedFunction}
use Rattle.c_typed_trees.specs.Fitting.{word_kinds, array_lengths, global_cells}
use Rattle.c_lower_rules.specs.graph_of.Edges.{entry_of, exit_of}
use Rattle.c_lower_rules.specs.graph_of.GraphOf.{graph_of, function_of}
use Rattle.tree_meaning_laws.specs.temporaries_apart.Laws.{IsApart}
use Rattle.tree_meaning_laws.proofs.temporaries_apart.Stands.{ascend_least}
use Rattle.tree_meaning.specs.declared.way.Way.{Way}
use Rattle.tree_meaning.specs.declared.ends.TreeEnd.{TreeEnd}
use Rattle.tree_meaning.specs.declared.ends.TreeEnd.TheVariants as ends
use Rattle.tree_meaning.specs.declared.activation.Activation.{Activation}
use Rattle.tree_meaning.specs.Outcomes.{Store, End, TrapEnd, BlockedEnd, TooDeepEnd, Done, Gives, Ends, OutOfTurns}
use Rattle.tree_meaning.specs.Activations.{first_cells, as_kind}
use Rattle.tree_meaning.specs.Trees.{body_does, calls_within, calls_in}
use Rattle.tree_meaning.specs.Ends.{first_values, first_activation, first_store, end_of, run_end, end_if, tree_end}
use Rattle.tree_meaning_laws.specs.expression_laws.Follows.{ended, Moves, Follows}
use Rattle.tree_meaning_laws.specs.expression_laws.Contexts.{Context, IsContext, Held, Related, Proper, Spare, own_frame, own_activation}
use Rattle.tree_meaning_laws.proofs.expression_laws.Follows.{no_later, one_end}
use Rattle.tree_meaning_laws.specs.tree_laws.Laws.{IsNext, IsMade, EndsSo, TreesAgree}
use Rattle.tree_meaning_laws.proofs.tree_laws.Bodies.{all_there, function_has}
use Rattle.tree_meaning_laws.proofs.tree_laws.Frames.{first_long}
use Rattle.tree_meaning_laws.proofs.tree_laws.Calling.{exit_function, body_runs, calls_do}

-- ---- ends

-- an end of a run as what comes next
abbrev stepped_end : TreeEnd → Option Stepped
stepped_end (ends.Returned value) = Some (next.Returned value)
stepped_end (ends.Trapped trap) = Some (next.Trapped trap)
stepped_end ends.Blocked = Some next.Blocked
stepped_end ends.TooDeep = Some next.TooDeep
stepped_end ends.OutOfTurns = None

module _ (t : Typed) (files : List (List ℕ)) (input : Input) (k : ℕ) (f : TypedFunction) (made : IsMade t (length files)) (there : slice_get t.functions k ≡ Some f) (starts : CanStart (function_of k f) input.words) where
  abbrev A : IsApart f
  A = all_there IsApart t.functions k f made.apart there

  abbrev globals : ℕ
  globals = length (first_values t f)

  abbrev pub C : Context
  C = record {
    typed = t;
    files = files;
    fitting = made.fitting;
    input = input;
    own = f;
    frames = first_frame (graph_of t files) ∷ [];
    size = globals + f.cells;
    locals = A.locals;
    keeps = λ j. nat_lt j (globals + A.locals);
  }

  abbrev pub started : State
  started = start_of (graph_of t files) (function_of k f) input.words

  abbrev words : List ℕ
  words = fitted_words input.words (word_kinds f)

  abbrev pub nobody : Held
  nobody i = None

  base_is : (own_frame C).base ≡ globals
  unfolding graph_of
  base_is = sym (length-map (global_cells t) (λ (g : Kind × ℕ). g.1))

  globals_are : length (global_cells t) ≡ globals
  globals_are = sym (length-map (global_cells t) (λ (g : Kind × ℕ). g.1))

  activation_is : own_activation C ≡ first_activation t f
  activation_is = ap (λ (n : ℕ). let a : Activation = record { depth = 1; base = n; arrays = [] } in a) base_is

  locals_most : A.locals ≤ f.cells
  locals_most = ascend_least A.locals f.cells _ A.temporaries

  no_arrays : array_lengths f ≡ []
  no_arrays = starts.1

  context_ok : IsContext C
  context_ok = record {
    some_frame = omega arith;
    most_frames = omega arith;
    small = let most = (function_has t (length files) made.fitting k f there).most in let few = (made.fitting).cells in omega (arith, most, few, globals_are);
    result = omega (arith, A.words);
    kept = λ cell own. ⊎_elim (λ less. lt-ltb cell (globals + A.locals) (omega (arith, less, globals_are))) (λ rest. ⊎_elim
        (λ q. lt-ltb cell (globals + A.locals) (omega (arith, q.1, q.2, base_is)))
        (λ l. absurd (none l.0 l.1 l.3)) rest) own;
    within = λ cell kept. let less = ltb-true cell (globals + A.locals) kept in omega (arith, less, locals_most);
  }
    where
      none : (p count : ℕ) → slice_get (array_lengths f) p ≡ Some count → ⊥
      none p count is = let e : slice_get (let xs : List ℕ = [] in xs) p ≡ Some count = ap (λ xs. slice_get xs p) (sym no_arrays) ∙ is in cc

  words_short : length words + 1 ≤ f.cells
  words_short = let fewer = short input.words (word_kinds f) in omega (arith, fewer, A.words, locals_most)
    where
      short : (ws : List ℕ) (ks : List Kind) → length (fitted_words ws ks) ≤ length ks
      short [] ks = omega arith
      short (w ∷ ws) [] = omega arith
      short (w ∷ ws) (q ∷ ks) = let less = short ws ks in omega (arith, less)

  cells_are : (turns : ℕ) → (first_store t f input turns).cells ≡ started.cells
  unfolding graph_of
  cells_are turns = refl

  at_first : (turns : ℕ) → Related C nobody (entry_of k) (first_store t f input turns) started
  at_first turns = record {
    node = refl;
    frames = refl;
    size = ap length (sym (cells_are turns)) ∙ length-append (first_values t f) (first_cells f.cells words) ∙ ap (λ n. globals + n) (first_long f.cells words words_short);
    cells = record { long = ap length (cells_are turns); same = λ i kept. ap (λ xs. slice_index xs i) (cells_are turns); holds = λ i v is. absurd cc };
    answers = refl;
  }

  nobody_proper : Proper C nobody
  nobody_proper i v is = absurd cc

  nobody_clear : (cell : ℕ) → A.locals ≤ cell → cell < f.cells → Spare C nobody cell
  nobody_clear cell low high = record {
    temporary = by (nat_lt ((own_frame C).base + cell) (globals + A.locals)) refl;
    free = refl;
    within = omega (arith, base_is, high);
  }
    where
      by : (b : Bool) → nat_lt ((own_frame C).base + cell) (globals + A.locals) ≡ b → b ≡ false
      by true e = let less = ltb-true ((own_frame C).base + cell) (globals + A.locals) e in absurd (omega (arith, less, low, base_is))
      by false e = refl

  abbrev pub run : ℕ → Done Way
  run turns = body_does t (calls_in t (first_activation t f)) f (first_activation t f) (first_store t f input turns)

  pub runs : (turns : ℕ) → Follows (graph_of t files) input started turns turns (λ (way : Way). Related C nobody (exit_of k)) (run turns)
  unfolding calls_in
  runs turns =
      let works = calls_do 63 C context_ok made.apart made.steps (omega arith) in
      subst (λ (a : Activation). Follows (graph_of t files) input started turns turns (λ (way : Way). Related C nobody (exit_of k)) (body_does t (calls_within t 63) f a (first_store t f input turns))) activation_is
      (body_runs C context_ok (calls_within t 63) works nobody k A (all_there _ t.functions k f made.steps there) there refl nobody_proper nobody_clear (first_store t f input turns) started (at_first turns))

  -- ---- at the exit

  abbrev value_of : Store → Option ℕ
  value_of s = option_map (λ (kind : Kind). as_kind kind (slice_index s.cells (first_activation t f).base)) f.result

  pub gives_back : (s : Store) (to : State) → Related C nobody (exit_of k) s to → next_of (graph_of t files) input to ≡ next.Returned (value_of s)
  unfolding next_of
  gives_back s to h =
      let g = function_of k f in
      let own : function_at (graph_of t files) to.node ≡ Some g = ap (function_at (graph_of t files)) h.node ∙ exit_function C k f there in
      let exit : (to.node == exit_of k) ≡ true = eq-eqb to.node (exit_of k) h.node in
      let frame : running_frame to ≡ own_frame C = ap (λ (fs : List Frame). running_frame (record { node = 0; frames = fs; cells = []; taken = 0 })) h.frames in
      let one : (length to.frames == 1) ≡ true = ap (λ (fs : List Frame). length fs == 1) h.frames in
      let base : (running_frame to).base ≡ globals = ap (λ (x : Frame). x.base) frame ∙ base_is in
      let kept : IsTrue (nat_lt globals (globals + A.locals)) = lt-ltb globals (globals + A.locals) (omega (arith, A.words)) in
      let word : result_word to ≡ slice_index s.cells globals = ap (slice_index to.cells) base ∙ sym (h.cells.same globals kept) in
      ap (next_within (graph_of t files) input to) own
      ∙ ap (λ b. if b then left (graph_of t files) to g else onward (graph_of t files) input to (outgoing_of (graph_of t files) to.node)) exit
      ∙ ap (λ b. if b then next.Returned (option_map (λ kind. fitted kind (result_word to)) g.result) else returned_from (graph_of t files) to (running_frame to).call) one
      ∙ ap (λ w. next.Returned (option_map (λ kind. fitted kind w) g.result)) word

  -- ---- both ways

  pub ends_stop : (end : End) → state_moved (ended end) ≡ None
  ends_stop (TrapEnd trap) = refl
  ends_stop BlockedEnd = refl
  ends_stop TooDeepEnd = refl

  next_end : (end : End) → IsNext (end_of t f end) (ended end)
  next_end (TrapEnd trap) = refl
  next_end BlockedEnd = refl
  next_end TooDeepEnd = refl

  -- an end of the tree is that of the run
  forth : (turns : ℕ) (d : Done Way) → Follows (graph_of t files) input started turns turns (λ (way : Way). Related C nobody (exit_of k)) d → (end : TreeEnd) → run_end t f d ≡ end → end ≢ ends.OutOfTurns → EndsSo t files k f input end
  forth turns (Gives way s) F end e some = (F.moves, F.to, F.path, subst (λ (q : TreeEnd). IsNext q (next_of (graph_of t files) input F.to)) e (gives_back s F.to F.there))
  forth turns (Ends other) F end e some = (F.moves, F.to, F.path, subst (λ (q : TreeEnd). IsNext q (next_of (graph_of t files) input F.to)) e (subst (IsNext (end_of t f other)) (sym F.stops) (next_end other)))
  forth turns OutOfTurns F end e some = absurd (some (sym e))

  next_stops : (end : TreeEnd) (s : Stepped) → IsNext end s → state_moved s ≡ None
  next_stops (ends.Returned value) s e = ap state_moved e
  next_stops (ends.Trapped trap) s e = ap state_moved e
  next_stops ends.Blocked s e = ap state_moved e
  next_stops ends.TooDeep s e = ap state_moved e
  next_stops ends.OutOfTurns s e = absurd e

  -- what comes next tells the end
  same_end : (end : TreeEnd) (value : Option ℕ) (s : Stepped) → IsNext end s → s ≡ next.Returned value → ends.Returned value ≡ end
  same_end (ends.Returned v) value s e g = let is : next.Returned v ≡ next.Returned value = sym e ∙ g in let same : v ≡ value = cc in ap ends.Returned (sym same)
  same_end (ends.Trapped trap) value s e g = let is : next.Trapped trap ≡ next.Returned value = sym e ∙ g in absurd cc
  same_end ends.Blocked value s e g = let is : next.Blocked ≡ next.Returned value = sym e ∙ g in absurd cc
  same_end ends.TooDeep value s e g = let is : next.TooDeep ≡ next.Returned value = sym e ∙ g in absurd cc
  same_end ends.OutOfTurns value s e g = absurd e

  same_stop : (end : TreeEnd) (other : End) (s : Stepped) → IsNext end s → s ≡ ended other → end_of t f other ≡ end
  same_stop (ends.Returned v) (TrapEnd trap) s e g = let is : next.Returned v ≡ next.Trapped trap = sym e ∙ g in absurd cc
  same_stop (ends.Returned v) BlockedEnd s e g = let is : next.Returned v ≡ next.Blocked = sym e ∙ g in absurd cc
  same_stop (ends.Returned v) TooDeepEnd s e g = let is : next.Returned v ≡ next.TooDeep = sym e ∙ g in absurd cc
  same_stop (ends.Trapped trap) (TrapEnd other) s e g = let is : next.Trapped trap ≡ next.Trapped other = sym e ∙ g in let same : trap ≡ other = cc in ap ends.Trapped (sym same)
  same_stop (ends.Trapped trap) BlockedEnd s e g = let is : next.Trapped trap ≡ next.Blocked = sym e ∙ g in absurd cc
  same_stop (ends.Trapped trap) TooDeepEnd s e g = let is : next.Trapped trap ≡ next.TooDeep = sym e ∙ g in absurd cc
  same_stop ends.Blocked (TrapEnd trap) s e g = let is : next.Blocked ≡ next.Trapped trap = sym e ∙ g in absurd cc
  same_stop ends.Blocked BlockedEnd s e g = refl
  same_stop ends.Blocked TooDeepEnd s e g = let is : next.Blocked ≡ next.TooDeep = sym e ∙ g in absurd cc
  same_stop ends.TooDeep (TrapEnd trap) s e g = let is : next.TooDeep ≡ next.Trapped trap = sym e ∙ g in absurd cc
  same_stop ends.TooDeep BlockedEnd s e g = let is : next.TooDeep ≡ next.Blocked = sym e ∙ g in absurd cc
  same_stop ends.TooDeep TooDeepEnd s e g = refl
  same_stop ends.OutOfTurns other s e g = absurd e

  -- an end of the run is that of the tree, with more turns than the run has moves
  back : (turns n : ℕ) (d : Done Way) → Follows (graph_of t files) input started turns turns (λ (way : Way). Related C nobody (exit_of k)) d → (end : TreeEnd) (to : State) → Moves (graph_of t files) input n started to → IsNext end (next_of (graph_of t files) input to) → n < turns → run_end t f d ≡ end
  back turns n (Gives way s) F end to p is less =
      let own = gives_back s F.to F.there in
      let same = one_end (graph_of t files) input F.moves n started F.to to F.path (ap state_moved own) p (next_stops end _ is) in
      same_end end (value_of s) (next_of (graph_of t files) input to) is (ap (next_of (graph_of t files) input) (sym same) ∙ own)
  back turns n (Ends other) F end to p is less =
      let same = one_end (graph_of t files) input F.moves n started F.to to F.path (ap state_moved F.stops ∙ ends_stop other) p (next_stops end _ is) in
      same_stop end other (next_of (graph_of t files) input to) is (ap (next_of (graph_of t files) input) (sym same) ∙ F.stops)
  back turns n OutOfTurns F end to p is less = absurd (no_later (graph_of t files) input n F.moves started to F.to p (next_stops end _ is) F.path (omega (arith, F.enough, less)))

  pub tree_is : (turns : ℕ) → tree_end t k input turns ≡ run_end t f (run turns)
  tree_is turns = ap (λ o. end_if t o input turns) there

  agree : (end : TreeEnd) → end ≢ ends.OutOfTurns → EndsSo t files k f input end ↔ ((turns : ℕ) × ((more : ℕ) → tree_end t k input (turns + more) ≡ end))
  agree end some = (
    λ e. (
      e.0 + 1,
      λ more. tree_is (e.0 + 1 + more) ∙ back (e.0 + 1 + more) e.0 (run (e.0 + 1 + more)) (runs (e.0 + 1 + more)) end e.1 e.2 e.3 (omega arith),
    ),
    λ e. forth (e.0 + 0) (run (e.0 + 0)) (runs (e.0 + 0)) end (sym (tree_is (e.0 + 0)) ∙ e.1 0) some,
  )

pub trees_agree : TreesAgree
trees_agree t files entry f input end made there starts some = agree t files input entry f made there starts end some
