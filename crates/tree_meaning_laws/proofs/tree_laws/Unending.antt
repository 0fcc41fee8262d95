-- The runs that go on for ever.
use Rattle.std.proofs.Common.{◌≡◌, ◌↔◌, ℕ, zero, suc, ◌+◌, ◌-◌, List, length, Option, Some, None, refl, sym, ap, ◌∙◌, arith}
use Rattle.std.specs.Prelude.{slice_get, option_and_then}
use Rattle.cfa.specs.declared.parts.GraphParts.{GraphParts}
use Rattle.cfa.specs.declared.state.State.{State}
use Rattle.c_meaning.specs.declared.input.Input.{Input}
use Rattle.c_meaning.specs.Runs.{state_moved, state_after, state_from, state_at}
use Rattle.c_meaning.specs.Starts.{CanStart}
use Rattle.c_typed_trees.specs.declared.unit.Typed.{Typed}
use Rattle.c_typed_trees.specs.declared.unit.TypedFunction.{TypedFunction}
use Rattle.c_lower_rules.specs.graph_of.Edges.{exit_of}
use Rattle.c_lower_rules.specs.graph_of.GraphOf.{graph_of, function_of}
use Rattle.tree_meaning.specs.declared.way.Way.{Way}
use Rattle.tree_meaning.specs.declared.ends.TreeEnd.TheVariants as ends
use Rattle.tree_meaning.specs.Outcomes.{TrapEnd, BlockedEnd, TooDeepEnd, Done, Gives, Ends, OutOfTurns}
use Rattle.tree_meaning.specs.Ends.{run_end, tree_end}
use Rattle.tree_meaning_laws.specs.expression_laws.Follows.{Follows}
use Rattle.tree_meaning_laws.specs.expression_laws.Contexts.{Related}
use Rattle.tree_meaning_laws.proofs.expression_laws.Follows.{no_later}
use Rattle.tree_meaning_laws.specs.tree_laws.Laws.{IsMade, GoesOn, UnendingTreesAgree}
use Rattle.tree_meaning_laws.proofs.tree_laws.Law.{C, started, nobody, run, runs, tree_is, gives_back, ends_stop}

-- where there is a state of a number, there is one of each smaller number
earlier : (parts : GraphParts) (input : Input) (first : State) (k n : ℕ) (to : State) → state_from parts input first (k + n) ≡ Some to → (s : State) × (state_from parts input first n ≡ Some s)
earlier parts input first zero n to e = (to, (let same : n ≡ 0 + n = omega arith in ap (state_from parts input first) same) ∙ e)
earlier parts input first (suc k) n to e =
    let sum : suc (k + n) ≡ suc k + n = omega arith in
    by (state_from parts input first (k + n)) refl (λ mid is. earlier parts input first k n mid is) (ap (state_from parts input first) sum ∙ e)
  where
    by : (o : Option State) → state_from parts input first (k + n) ≡ o → ((mid : State) → state_from parts input first (k + n) ≡ Some mid → (s : State) × (state_from parts input first n ≡ Some s))
        → option_and_then (state_after parts input) (state_from parts input first (k + n)) ≡ Some to → (s : State) × (state_from parts input first n ≡ Some s)
    by (Some mid) is more e = more mid is
    by None is more e = let none : None ≡ Some to = sym (ap (option_and_then (state_after parts input)) is) ∙ e in absurd cc

module _ (t : Typed) (files : List (List ℕ)) (input : Input) (k : ℕ) (f : TypedFunction) (made : IsMade t (length files)) (there : slice_get t.functions k ≡ Some f) (starts : CanStart (function_of k f) input.words) where
  abbrev Follow : (turns : ℕ) → Done Way → Type 0
  Follow turns d = Follows (graph_of t files) input (started t files input k f made there starts) turns turns (λ (way : Way). Related (C t files input k f made there starts) (nobody t files input k f made there starts) (exit_of k)) d

  -- behind a state at which nothing comes next there is none
  stuck : (n : ℕ) (to : State) → state_from (graph_of t files) input (started t files input k f made there starts) n ≡ Some to → state_after (graph_of t files) input to ≡ None → GoesOn t files k f input → ⊥
  stuck n to path stop goes = let later = goes (n + 1) in no_later (graph_of t files) input n (n + 1) (started t files input k f made there starts) to later.0 path stop later.1 (omega arith)

  forth : (turns : ℕ) (d : Done Way) → Follow turns d → GoesOn t files k f input → run_end t f d ≡ ends.OutOfTurns
  forth turns (Gives way s) F goes = absurd (stuck F.moves F.to F.path (ap state_moved (gives_back t files input k f made there starts s F.to F.there)) goes)
  forth turns (Ends other) F goes = absurd (stuck F.moves F.to F.path (ap state_moved F.stops ∙ ends_stop t files input k f made there starts other) goes)
  forth turns OutOfTurns F goes = refl

  back : (turns : ℕ) (d : Done Way) → Follow turns d → run_end t f d ≡ ends.OutOfTurns → (s : State) × (state_at (graph_of t files) (function_of k f) input turns ≡ Some s)
  back turns (Gives way s) F is = absurd cc
  back turns (Ends (TrapEnd trap)) F is = absurd cc
  back turns (Ends BlockedEnd) F is = absurd cc
  back turns (Ends TooDeepEnd) F is = absurd cc
  back turns OutOfTurns F is =
      let sum : F.moves ≡ F.moves - turns + turns = omega (arith, F.enough) in
      earlier (graph_of t files) input (started t files input k f made there starts) (F.moves - turns) turns F.to (ap (state_from (graph_of t files) input (started t files input k f made there starts)) (sym sum) ∙ F.path)

  unending : GoesOn t files k f input ↔ ((turns : ℕ) → tree_end t k input turns ≡ ends.OutOfTurns)
  unending = (
    λ goes turns. tree_is t files input k f made there starts turns ∙ forth turns (run t files input k f made there starts turns) (runs t files input k f made there starts turns) goes,
    λ out n. back n (run t files input k f made there starts n) (runs t files input k f made there starts n) (sym (tree_is t files input k f made there starts n) ∙ out n),
  )

pub unending_trees_agree : UnendingTreesAgree
unending_trees_agree t files entry f input made there starts = unending t files input entry f made there starts
