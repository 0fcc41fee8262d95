-- The meaning on the tree and the automaton agree.
use Rattle.std.specs.Prelude.{◌≡◌, ◌≢◌, ◌↔◌, ℕ, ◌+◌, List, [], map, length, Some, slice_get}
use Rattle.std.specs.List.{AllByRecursion}
use Rattle.c_lex.specs.declared.token.SourceText.{SourceText}
use Rattle.c_lex.specs.declared.token.Token.{Token}
use Rattle.c_lex.specs.Lexed.{Lexed}
use Rattle.c_parse.specs.declared.unit.Item.{Item}
use Rattle.c_parse.specs.Items.{DerivesItems}
use Rattle.c_parse.specs.Signs.{terminal_of}
use Rattle.c_types.specs.Units.{faults_of, typed_of}
use Rattle.cfa.specs.declared.state.State.{State}
use Rattle.c_meaning.specs.declared.input.Input.{Input}
use Rattle.c_meaning.specs.declared.stepped.Stepped.{Stepped}
use Rattle.c_meaning.specs.declared.stepped.Stepped.TheVariants as next
use Rattle.c_meaning.specs.Runs.{state_at}
use Rattle.c_meaning.specs.Starts.{CanStart}
use Rattle.c_meaning.specs.Steps.{next as next_of}
use Rattle.c_typed_trees.specs.declared.unit.Typed.{Typed}
use Rattle.c_typed_trees.specs.declared.unit.TypedFunction.{TypedFunction}
use Rattle.c_typed_trees.specs.Fitting.{IsFitting}
use Rattle.c_lower_rules.specs.graph_of.GraphOf.{graph_of, function_of}
use Rattle.tree_meaning_laws.specs.temporaries_apart.Laws.{IsApart}
use Rattle.tree_meaning.specs.declared.ends.TreeEnd.{TreeEnd}
use Rattle.tree_meaning.specs.declared.ends.TreeEnd.TheVariants as ends
use Rattle.tree_meaning.specs.Ends.{tree_end}
use Rattle.tree_meaning_laws.specs.for_steps.Laws.{HasSteps}

-- what comes next in a state in which a run ends so
abbrev pub IsNext : TreeEnd → Stepped → Type 0
IsNext (ends.Returned value) s = s ≡ next.Returned value
IsNext (ends.Trapped trap) s = s ≡ next.Trapped trap
IsNext ends.Blocked s = s ≡ next.Blocked
IsNext ends.TooDeep s = s ≡ next.TooDeep
IsNext ends.OutOfTurns s = ⊥

-- A typed unit whose automaton does what its trees mean: it fits, its temporaries are apart, and its loops have steps.
pub record IsMade (t : Typed) (files : ℕ) : Type 0 where
  pub fitting : IsFitting t files
  pub apart : AllByRecursion IsApart t.functions
  pub steps : AllByRecursion HasSteps t.functions

-- the states of the automaton end in one at which comes next what the end says
abbrev pub EndsSo : Typed → List (List ℕ) → ℕ → TypedFunction → Input → TreeEnd → Type 0
EndsSo t files entry f input end = (n : ℕ) × (s : State) × (state_at (graph_of t files) (function_of entry f) input n ≡ Some s) × IsNext end (next_of (graph_of t files) input s)

-- For each end but the lack of turns: the states of the automaton end so exactly where some number of turns gives the end by
-- the tree, and every greater number gives it too.
abbrev pub TreesAgree : Type 0
TreesAgree =
    (t : Typed) (files : List (List ℕ)) (entry : ℕ) (f : TypedFunction) (input : Input) (end : TreeEnd)
    → IsMade t (length files) → slice_get t.functions entry ≡ Some f → CanStart (function_of entry f) input.words → end ≢ ends.OutOfTurns
    → EndsSo t files entry f input end ↔ ((turns : ℕ) × ((more : ℕ) → tree_end t entry input (turns + more) ≡ end))

-- the states of the automaton go on for ever
abbrev pub GoesOn : Typed → List (List ℕ) → ℕ → TypedFunction → Input → Type 0
GoesOn t files entry f input = (n : ℕ) → (s : State) × (state_at (graph_of t files) (function_of entry f) input n ≡ Some s)

-- They do so exactly where no number of turns is enough.
abbrev pub UnendingTreesAgree : Type 0
UnendingTreesAgree =
    (t : Typed) (files : List (List ℕ)) (entry : ℕ) (f : TypedFunction) (input : Input)
    → IsMade t (length files) → slice_get t.functions entry ≡ Some f → CanStart (function_of entry f) input.words
    → GoesOn t files entry f input ↔ ((turns : ℕ) → tree_end t entry input turns ≡ ends.OutOfTurns)

-- So it is of each unit of texts in which nothing is wrong.
abbrev pub UnitsAgree : Type 0
UnitsAgree =
    (texts : List SourceText) (tokens : List Token) (items : List Item) (files : List (List ℕ)) (entry : ℕ) (f : TypedFunction) (input : Input) (end : TreeEnd)
    → Lexed texts tokens → DerivesItems items (map terminal_of tokens) → faults_of items ≡ [] → length files ≡ length texts
    → slice_get (typed_of items).functions entry ≡ Some f → CanStart (function_of entry f) input.words → end ≢ ends.OutOfTurns
    → EndsSo (typed_of items) files entry f input end ↔ ((turns : ℕ) × ((more : ℕ) → tree_end (typed_of items) entry input (turns + more) ≡ end))

abbrev pub UnendingUnitsAgree : Type 0
UnendingUnitsAgree =
    (texts : List SourceText) (tokens : List Token) (items : List Item) (files : List (List ℕ)) (entry : ℕ) (f : TypedFunction) (input : Input)
    → Lexed texts tokens → DerivesItems items (map terminal_of tokens) → faults_of items ≡ [] → length files ≡ length texts
    → slice_get (typed_of items).functions entry ≡ Some f → CanStart (function_of entry f) input.words
    → GoesOn (typed_of items) files entry f input ↔ ((turns : ℕ) → tree_end (typed_of items) entry input turns ≡ ends.OutOfTurns)
