-- More turns than edges.
use Rattle.std.proofs.Common.{◌≡◌, ℕ, ◌+◌, ◌<◌, List, length, Some, None, sym, ap, ◌∙◌, arith}
use Rattle.std.specs.Prelude.{◌≢◌, slice_get}
use Rattle.cfa.specs.declared.state.State.{State}
use Rattle.c_meaning.specs.Runs.{state_from, state_moved}
use Rattle.c_meaning.specs.Starts.{CanStart}
use Rattle.c_meaning.specs.Steps.{next as next_of}
use Rattle.c_meaning.specs.declared.input.Input.{Input}
use Rattle.c_meaning.specs.declared.stepped.Stepped.{Stepped}
use Rattle.c_typed_trees.specs.declared.unit.Typed.{Typed}
use Rattle.c_typed_trees.specs.declared.unit.TypedFunction.{TypedFunction}
use Rattle.c_lower_rules.specs.graph_of.Edges.{exit_of}
use Rattle.c_lower_rules.specs.graph_of.GraphOf.{function_of, graph_of}
use Rattle.tree_meaning.proofs.GrowTrees.{turns_suffice}
use Rattle.tree_meaning.specs.Ends.{run_end, tree_end}
use Rattle.tree_meaning.specs.Outcomes.{BlockedEnd, Done, Ends, Gives, OutOfTurns, TooDeepEnd, TrapEnd}
use Rattle.tree_meaning.specs.declared.ends.TreeEnd.{TreeEnd}
use Rattle.tree_meaning.specs.declared.ends.TreeEnd.TheVariants as ends
use Rattle.tree_meaning.specs.declared.way.Way.{Way}
use Rattle.tree_meaning_laws.proofs.expression_laws.Follows.{no_later}
use Rattle.tree_meaning_laws.specs.expression_laws.Contexts.{Related}
use Rattle.tree_meaning_laws.specs.expression_laws.Follows.{Follows}
use Rattle.tree_meaning_laws.proofs.tree_laws.Law.{C, nobody, run, runs, started, tree_is, trees_agree}
use Rattle.tree_meaning_laws.specs.tree_laws.Laws.{IsMade, IsNext}
use Rattle.bounds_check_laws.specs.tree_ending_laws.Laws.{TurnsAboveEdges}

-- nothing comes next where a run ends so
next_stops : (end : TreeEnd) (s : Stepped) → IsNext end s → state_moved s ≡ None
next_stops (ends.Returned value) s e = ap state_moved e
next_stops (ends.Trapped trap) s e = ap state_moved e
next_stops ends.Blocked s e = ap state_moved e
next_stops ends.TooDeep s e = ap state_moved e
next_stops ends.OutOfTurns s e = absurd e

-- and that is no lack of turns
next_in_turns : (end : TreeEnd) (s : Stepped) → IsNext end s → end ≢ ends.OutOfTurns
next_in_turns (ends.Returned value) s e is = absurd cc
next_in_turns (ends.Trapped trap) s e is = absurd cc
next_in_turns ends.Blocked s e is = absurd cc
next_in_turns ends.TooDeep s e is = absurd cc
next_in_turns ends.OutOfTurns s e is = absurd e

module _ (t : Typed) (files : List (List ℕ)) (input : Input) (k : ℕ) (f : TypedFunction) (made : IsMade t (length files)) (there : slice_get t.functions k ≡ Some f) (starts : CanStart (function_of k f) input.words) where
  abbrev Follow : (turns : ℕ) → Done Way → Type 0
  Follow turns d = Follows (graph_of t files) input (started t files input k f made there starts) turns turns (λ (way : Way). Related (C t files input k f made there starts) (nobody t files input k f made there starts) (exit_of k)) d

  -- turns that are more than the edges aren't used up
  in_turns : (turns n : ℕ) (d : Done Way) (to : State) → Follow turns d → state_from (graph_of t files) input (started t files input k f made there starts) n ≡ Some to → state_moved (next_of (graph_of t files) input to) ≡ None → n < turns → run_end t f d ≢ ends.OutOfTurns
  in_turns turns n (Gives way s) to F path stop less is = absurd cc
  in_turns turns n (Ends (TrapEnd trap)) to F path stop less is = absurd cc
  in_turns turns n (Ends BlockedEnd) to F path stop less is = absurd cc
  in_turns turns n (Ends TooDeepEnd) to F path stop less is = absurd cc
  in_turns turns n OutOfTurns to F path stop less is = no_later (graph_of t files) input n F.moves (started t files input k f made there starts) to F.to path stop F.path (omega (arith, F.enough, less))

  with_turns : (end : TreeEnd) (n turns : ℕ) (s : State) → state_from (graph_of t files) input (started t files input k f made there starts) n ≡ Some s → IsNext end (next_of (graph_of t files) input s) → n < turns → tree_end t k input turns ≡ end
  with_turns end n turns s path is less =
      let stop = next_stops end (next_of (graph_of t files) input s) is in
      let some : tree_end t k input turns ≢ ends.OutOfTurns =
      λ out. in_turns turns n (run t files input k f made there starts turns) s (runs t files input k f made there starts turns) path stop less (sym (tree_is t files input k f made there starts turns) ∙ out) in
      let late = (trees_agree t files k f input end made there starts (next_in_turns end (next_of (graph_of t files) input s) is)).0 (n, s, path, is) in
      let sum : turns + late.0 ≡ late.0 + turns = omega arith in
      sym (turns_suffice t k input turns late.0 some) ∙ ap (tree_end t k input) sum ∙ late.1 turns

pub turns_above_edges : TurnsAboveEdges
turns_above_edges t files entry f input end edges turns s made there starts path is less = with_turns t files input entry f made there starts end edges turns s path is less
