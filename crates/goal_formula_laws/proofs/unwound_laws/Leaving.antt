-- Entries that have ended, and states.
use Rattle.std.proofs.Common.{◌≡◌, List, [], ◌∷◌, map, refl, sym, ap, subst, ◌∙◌}
use Rattle.std.proofs.lemmas.List.Elements.{All-cons, All-head, All-nil, All-tail}
use Rattle.std.specs.List.{AllZip}
use Rattle.std.specs.Prelude.{All, false}
use Rattle.c_meaning.specs.Runs.{Move, Run, counts, states_in}
use Rattle.c_meaning.specs.Steps.{next}
use Rattle.c_meaning.specs.declared.ends.Ends.TheVariants as counted
use Rattle.c_meaning.specs.declared.input.Input.{Input}
use Rattle.cfa.specs.declared.parts.GraphParts.{GraphParts}
use Rattle.cfa.specs.declared.state.Predicates.{Predicates}
use Rattle.cfa.specs.declared.state.State.{State}
use Rattle.circuit.specs.Truth.{World}
use Rattle.circuit.specs.Wires.{lit_holds}
use Rattle.circuit.specs.declared.lit.Gate.{Gate}
use Rattle.unwinder.specs.input_words.Worlds.{world_of}
use Rattle.measurer_hits.proofs.run_laws.Leaving.{none_ends}
use Rattle.unwinder.specs.Lists.{Reached, Tells, after_move, entries_in, reached_in}
use Rattle.unwinder.specs.declared.unwound.Entry.{Entry}
use Rattle.goal_formula_laws.specs.unwound_laws.Laws.{NoneHasEnded}

abbrev states : List Reached → List State
states reached = map (λ (r : Reached). r.1) reached

moved_states : (ms : List Move) → states (map after_move ms) ≡ map (λ (m : Move). m.target) ms
moved_states [] = refl
moved_states (m ∷ ms) = ap (λ (ss : List State). m.target ∷ ss) (moved_states ms)

states_are : (r : Run) → states (reached_in r) ≡ states_in r
states_are r = ap (λ (ss : List State). r.first ∷ ss) (moved_states r.moves)

module _ (parts : GraphParts) (p : Predicates) (gates : List Gate) (w : World) (input : Input) where
  abbrev Goes : State → Type 0
  Goes s = counts counted.Any (next parts input s) ≡ false

  abbrev Open : Entry → Type 0
  Open e = lit_holds gates e.ended w ≡ false

  abbrev Told : List Entry → List Reached → Type 0
  Told entries reached = AllZip (Tells parts p counted.Any gates w input) entries reached

  open_goes : (entries : List Entry) (reached : List Reached) → Told entries reached → All Open entries → All Goes (states reached)
  open_goes [] [] told all = All-nil Goes
  open_goes [] (r ∷ reached) told all = absurd told
  open_goes (e ∷ entries) [] told all = absurd told
  open_goes (e ∷ entries) (r ∷ reached) told all =
      All-cons Goes r.1 (states reached) (sym told.0.ended ∙ All-head Open e entries all) (open_goes entries reached told.1 (All-tail Open e entries all))

  goes_open : (entries : List Entry) (reached : List Reached) → Told entries reached → All Goes (states reached) → All Open entries
  goes_open [] [] told all = All-nil Open
  goes_open [] (r ∷ reached) told all = absurd told
  goes_open (e ∷ entries) [] told all = absurd told
  goes_open (e ∷ entries) (r ∷ reached) told all =
      All-cons Open e entries (told.0.ended ∙ All-head Goes r.1 (states reached) all) (goes_open entries reached told.1 (All-tail Goes r.1 (states reached) all))

pub none_has_ended : NoneHasEnded
none_has_ended parts p f bounds gates entries lists input given =
    let w = world_of f.parameters bounds.answers input in
    let found = lists input given in
    let r = found.0 in
    let both = none_ends bounds.turns bounds.frames bounds.answers parts f input r found.1 in
    let held = entries_in gates entries w in (
      λ leaves. goes_open parts p gates w input held (reached_in r) found.2 (subst (λ ss. All (λ s. counts counted.Any (next parts input s) ≡ false) ss) (sym (states_are r)) (both.0 leaves)),
      λ all. both.1 (subst (λ ss. All (λ s. counts counted.Any (next parts input s) ≡ false) ss) (states_are r) (open_goes parts p gates w input held (reached_in r) found.2 all)),
    )
