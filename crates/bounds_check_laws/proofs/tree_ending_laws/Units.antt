-- Units of texts: their ends within bounds, and refuted ends.
use Rattle.std.proofs.Common.{◌≡◌, ℕ, ◌+◌, ◌≤◌, List, [], ◌∷◌, length, Some, None, refl, sym, ap, subst, ◌∙◌, arith}
use Rattle.std.specs.Prelude.{◌≢◌, slice_get}
use Rattle.c_lex.specs.declared.token.SourceText.{SourceText}
use Rattle.c_parse.specs.declared.unit.Item.{Item}
use Rattle.c_types.specs.Units.{typed_of}
use Rattle.cfa.specs.Graph.{IsGraph}
use Rattle.cfa.specs.declared.state.Trap.{Trap}
use Rattle.cfa.specs.declared.state.State.{State}
use Rattle.c_meaning.proofs.RunLaws.{beginning_states}
use Rattle.c_meaning.specs.Runs.{Move, last_in, last_state, state_moved, states_of}
use Rattle.c_meaning.specs.Steps.{next as next_of}
use Rattle.path_runner.proofs.Records.{records}
use Rattle.path_runner.specs.Paths.{end_at}
use Rattle.path_runner.specs.declared.path.PathRecord.{PathRecord}
use Rattle.path_runner.specs.declared.path.RunEnd.TheVariants as ended
use Rattle.c_meaning.specs.Starts.{CanStart}
use Rattle.c_meaning.specs.declared.input.Input.{Input}
use Rattle.c_meaning.specs.declared.stepped.Stepped.{Stepped}
use Rattle.c_meaning.specs.declared.stepped.Stepped.TheVariants as next
use Rattle.c_typed_trees.specs.declared.unit.TypedFunction.{TypedFunction}
use Rattle.c_lower_rules.specs.graph_of.GraphOf.{function_of, graph_of}
use Rattle.c_lower_rules.proofs.graph_rules.Whole.{graph_fits}
use Rattle.tree_meaning_laws.proofs.expression_laws.Calls.{function_there}
use Rattle.c_types_laws.proofs.tree_contents.Texts.{units_of_texts}
use Rattle.c_types_laws.proofs.typing_fits.Units.{unit_fits}
use Rattle.c_typed_trees.specs.Fitting.{IsFitting}
use Rattle.tree_meaning_laws.proofs.temporaries_apart.Units.{unit_apart}
use Rattle.tree_meaning_laws.proofs.for_steps.Typed.{units_have_steps}
use Rattle.c_parse.specs.Signs.{terminal_of}
use Rattle.std.specs.Prelude.{map}
use Rattle.tree_meaning.proofs.GrowTrees.{turns_suffice}
use Rattle.tree_meaning.specs.Ends.{tree_end}
use Rattle.tree_meaning.specs.declared.ends.TreeEnd.{TreeEnd}
use Rattle.tree_meaning.specs.declared.ends.TreeEnd.TheVariants as ends
use Rattle.measurer_hits.specs.run_laws.Ends.{EndsIn}
use Rattle.tree_meaning_laws.proofs.tree_laws.Law.{C, trees_agree}
use Rattle.tree_meaning_laws.specs.tree_laws.Laws.{IsMade, IsNext}
use Rattle.bounds_check_laws.proofs.ending_laws.Asked.{each_run_returns, no_run_time_error}
use Rattle.bounds_check_laws.proofs.ending_laws.Stays.{staying_inputs_end_soon}
use Rattle.bounds_check_laws.specs.ending_laws.Ends.{EndsSoon}
use Rattle.bounds_check_laws.proofs.tree_ending_laws.Trees.{turns_above_edges}
use Rattle.bounds_check_laws.specs.tree_ending_laws.Laws.{EachTreeReturns, IsUnitOf, NoTreeTraps, StayingTreesEnd, TreesAndPathsAgree, UnitTurnsAboveEdges, path_end}

-- what comes next, where a run ends, as the end by the tree
ends_as : (s : Stepped) → state_moved s ≡ None → (end : TreeEnd) × IsNext end s
ends_as (next.Moved at to) over = absurd cc
ends_as (next.Returned value) over = (ends.Returned value, refl)
ends_as (next.Trapped trap) over = (ends.Trapped trap, refl)
ends_as next.Blocked over = (ends.Blocked, refl)
ends_as next.TooDeep over = (ends.TooDeep, refl)

in_turns : (end : TreeEnd) (s : Stepped) → IsNext end s → end ≢ ends.OutOfTurns
in_turns (ends.Returned value) s e is = absurd cc
in_turns (ends.Trapped trap) s e is = absurd cc
in_turns ends.Blocked s e is = absurd cc
in_turns ends.TooDeep s e is = absurd cc
in_turns ends.OutOfTurns s e is = absurd e

module _ (texts : List SourceText) (files : List (List ℕ)) (items : List Item) (entry : ℕ) (f : TypedFunction) (u : IsUnitOf texts files items entry f) where
  fits : IsFitting (typed_of items) (length files)
  fits = subst (IsFitting (typed_of items)) (sym u.named) (unit_fits items (length texts) (units_of_texts texts u.tokens items u.lexed u.derived) u.right)

  made : IsMade (typed_of items) (length files)
  made = record { fitting = fits; apart = unit_apart items; steps = units_have_steps items (map terminal_of u.tokens) u.derived }

  good : IsGraph (graph_of (typed_of items) files)
  good = graph_fits (typed_of items) files fits

  own : (input : Input) → CanStart (function_of entry f) input.words → slice_get (graph_of (typed_of items) files).functions entry ≡ Some (function_of entry f)
  own input starts = function_there (C (typed_of items) files input entry f made u.there starts) entry f u.there

  -- an end of the states after fewer edges than turns
  with_turns : (input : Input) → CanStart (function_of entry f) input.words → (limit turns : ℕ) (s : Stepped) (end : TreeEnd) → EndsSoon (graph_of (typed_of items) files) (function_of entry f) input limit s → IsNext end s → limit ≤ turns → tree_end (typed_of items) entry input turns ≡ end
  with_turns input starts limit turns s end soon is many =
      let less = soon.soon in
      turns_above_edges (typed_of items) files entry f input end soon.ends.number turns soon.ends.last made u.there starts soon.ends.reached (subst (IsNext end) (sym soon.ends.comes) is) (omega (arith, less, many))

  -- a trap by the tree is one of the run
  trap_of : (input : Input) → CanStart (function_of entry f) input.words → (turns : ℕ) (trap : Trap) → tree_end (typed_of items) entry input turns ≡ ends.Trapped trap → EndsIn (graph_of (typed_of items) files) (function_of entry f) input (next.Trapped trap)
  trap_of input starts turns trap is =
      let some : tree_end (typed_of items) entry input turns ≢ ends.OutOfTurns = λ out. let ill : ends.Trapped trap ≡ ends.OutOfTurns = sym is ∙ out in absurd cc in
      let late : (turns : ℕ) × ((more : ℕ) → tree_end (typed_of items) entry input (turns + more) ≡ ends.Trapped trap) =
      (turns, λ more. turns_suffice (typed_of items) entry input turns more some ∙ is) in
      let e = (trees_agree (typed_of items) files entry f input (ends.Trapped trap) made u.there starts (λ out. absurd cc)).1 late in
      record { number = e.0; last = e.1; reached = e.2; comes = e.3; over = refl }

pub unit_turns_above_edges : UnitTurnsAboveEdges
unit_turns_above_edges texts files items entry f input end edges turns s u starts path is less =
    turns_above_edges (typed_of items) files entry f input end edges turns s (made texts files items entry f u) u.there starts path is less

-- what comes next as the end of a path, and by the tree
same_path_end : (s : Stepped) (end : TreeEnd) → IsNext end s → path_end end ≡ end_at s
same_path_end s (ends.Returned value) is = sym (ap end_at is)
same_path_end s (ends.Trapped trap) is = sym (ap end_at is)
same_path_end s ends.Blocked is = sym (ap end_at is)
same_path_end s ends.TooDeep is = sym (ap end_at is)
same_path_end s ends.OutOfTurns is = absurd is

uncut_over : (s : Stepped) → end_at s ≢ ended.Cut → state_moved s ≡ None
uncut_over (next.Moved at to) some = absurd (some refl)
uncut_over (next.Returned value) some = refl
uncut_over (next.Trapped trap) some = refl
uncut_over next.Blocked some = refl
uncut_over next.TooDeep some = refl

last_there : (s : State) (ms : List Move) → slice_get (states_of s ms) (length ms) ≡ Some (last_state s ms)
last_there s [] = refl
last_there s (m ∷ ms) = last_there m.target ms

pub trees_and_paths_agree : TreesAndPathsAgree
trees_and_paths_agree texts files items entry f input p limit u starts uncut =
    let graph = graph_of (typed_of items) files in
    let r = records graph (function_of entry f) input p limit in
    let run = r.run in
    let s : Stepped = next_of graph input (last_in run) in
    let recorded = ap (λ (path : PathRecord). path.end) r.recorded in
    let over : state_moved s ≡ None = uncut_over s (λ cut. uncut (recorded ∙ cut)) in
    let end = ends_as s over in
    let reached = beginning_states graph (function_of entry f) input run r.begins (length run.moves) (last_in run) (last_there run.first run.moves) in
    let few = r.few in
    let is = turns_above_edges (typed_of items) files entry f input end.0 (length run.moves) (limit + 1) (last_in run) (made texts files items entry f u) u.there starts reached end.1 (omega (arith, few)) in
    ap path_end is ∙ same_path_end s end.0 end.1 ∙ sym recorded

pub staying_trees_end : StayingTreesEnd
staying_trees_end texts files items entry f bounds pairs steps input u starts are few stays =
    let e = staying_inputs_end_soon (graph_of (typed_of items) files) entry (function_of entry f) bounds pairs steps input (good texts files items entry f u) (own texts files items entry f u input starts) starts are few stays in
    let end = ends_as e.0 e.1.ends.over in
    (end.0, in_turns end.0 e.0 end.1, λ turns many. with_turns texts files items entry f u input starts 50000 turns e.0 end.0 e.1 end.1 many)

pub no_tree_traps : NoTreeTraps
no_tree_traps texts files items entry f turns frames answers p plan u refuted input given count trap is =
    no_run_time_error turns frames answers (graph_of (typed_of items) files) entry (function_of entry f) p plan (good texts files items entry f u) (own texts files items entry f u input given.0) refuted input given trap
    (trap_of texts files items entry f u input given.0 count trap is)

pub each_tree_returns : EachTreeReturns
each_tree_returns texts files items entry f bounds pairs steps p plan u are few refuted input given =
    let e = each_run_returns (graph_of (typed_of items) files) entry (function_of entry f) bounds pairs steps p plan (good texts files items entry f u) (own texts files items entry f u input given.0) are few refuted input given in
    (e.0, λ turns many. with_turns texts files items entry f u input given.0 50000 turns (next.Returned e.0) (ends.Returned e.0) e.1 refl many)
