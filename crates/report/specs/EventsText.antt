-- How the events of runs are written.
use Rattle.std.specs.Prelude.{ℕ, ◌+◌, ◌-◌, Bool, true, false, List, [], ◌∷◌, ◌++◌, Option, None, Some, codes, length, map, slice_get, take}
use Rattle.std.specs.Fmt.{decimal}
use Rattle.std.specs.List.{flat_map}
use Rattle.c_values.specs.declared.kinds.Kind.{Kind}
use Rattle.cfa.specs.declared.parts.Edge.{Edge}
use Rattle.cfa.specs.declared.parts.GraphParts.{GraphParts}
use Rattle.tree_events.specs.edge_events.Told.{told}
use Rattle.tree_events.specs.declared.edge_events.event.Event.{Event}
use Rattle.tree_events.specs.declared.edge_events.event.What.{What}
use Rattle.tree_events.specs.declared.edge_events.event.What.TheVariants.{Outcome, Did, Entered, Left, Answered, Valued, Enters, Again, Always, Straight}
use Rattle.path_runner.specs.declared.path.RunEnd.{RunEnd}
use Rattle.report.specs.Ends.{result_kind}
use Rattle.report.specs.GraphText.{function_name, input_name, kind_text, mark}
use Rattle.report.specs.Letters.{place_text}
use Rattle.report.specs.Texts.{input_line}

-- ---- what the edges of a run tell

-- the events that an edge tells, where there is one
abbrev pub told_at : Option Edge → List Event
told_at None = []
told_at (Some e) = told e

-- what the edges of these numbers tell, in order
abbrev pub told_along : GraphParts → List ℕ → List Event
told_along graph edges = flat_map (λ at. told_at (slice_get graph.edges at)) edges

-- how a run ended, and what its edges tell
abbrev pub told_run : GraphParts → RunEnd × List ℕ → RunEnd × List Event
told_run graph run = (run.0, told_along graph run.1)

-- ---- the functions that are entered

-- those that were entered and aren't left yet, by number and in order, after what happens
abbrev pub entered_after : List ℕ → What → List ℕ
entered_after entered (Entered function) = entered ++ function ∷ []
entered_after entered Left = take (length entered - 1) entered
entered_after entered _ = entered

-- and after all these events
abbrev pub all_after : List ℕ → List Event → List ℕ
all_after entered [] = entered
all_after entered (e ∷ es) = all_after (entered_after entered e.what) es

-- the one that was entered last
abbrev pub last_entered : List ℕ → Option ℕ
last_entered entered = slice_get entered (length entered - 1)

abbrev pub name_of : GraphParts → Option ℕ → List ℕ
name_of graph None = []
name_of graph (Some function) = function_name (slice_get graph.functions function)

-- ---- an event

-- the kind of the statement at hand; its file, line and column, or those of a condition
abbrev pub event_place : List (List ℕ) → Event → List ℕ
event_place files e = kind_text e.statement ++ codes " " ++ place_text files e.place.file e.place.line ++ codes ":" ++ decimal e.place.column

abbrev pub truth_text : Bool → List ℕ
truth_text true = codes " true"
truth_text false = codes " false"

-- the name of the variable that is changed, or of the label, where there is one
abbrev pub done_name : Option (List ℕ) → List ℕ
done_name None = []
done_name (Some name) = codes " " ++ name

-- what happens, where these functions are entered: what was left is the one that was entered last
abbrev pub what_text : GraphParts → List ℕ → Event → What → List ℕ
what_text graph entered e (Outcome truth settles) =
    codes "outcome " ++ event_place graph.files e ++ truth_text truth ++ mark settles (codes " settles")
what_text graph entered e (Did name) = codes "did " ++ event_place graph.files e ++ done_name name
what_text graph entered e (Entered function) = codes "entered " ++ name_of graph (Some function)
what_text graph entered e Left = codes "left " ++ name_of graph (last_entered entered)
what_text graph entered e (Answered input) = codes "answered " ++ input_name (slice_get graph.inputs input)
what_text graph entered e Valued = codes "valued " ++ event_place graph.files e
what_text graph entered e Enters = codes "enters " ++ event_place graph.files e
what_text graph entered e Again = codes "again " ++ event_place graph.files e
what_text graph entered e Always = codes "always " ++ event_place graph.files e
what_text graph entered e Straight = codes "straight " ++ event_place graph.files e

abbrev pub event_line : GraphParts → List ℕ → Event → List ℕ
event_line graph entered e = what_text graph entered e e.what ++ codes "\n"

-- ---- the text

-- a line for each event, where these functions are entered before the first
abbrev pub event_lines : GraphParts → List ℕ → List Event → List ℕ
event_lines graph entered [] = []
event_lines graph entered (e ∷ es) = event_line graph entered e ++ event_lines graph (entered_after entered e.what) es

-- how a run ended, and a line for each of its events
abbrev pub told_line : GraphParts → Option Kind → ℕ → RunEnd × List Event → List ℕ
told_line graph kind number run = input_line kind number run.0 ++ event_lines graph [] run.1

-- the same for each input, from this number on
abbrev pub told_lines : GraphParts → Option Kind → ℕ → List (RunEnd × List Event) → List ℕ
told_lines graph kind number [] = []
told_lines graph kind number (run ∷ runs) = told_line graph kind number run ++ told_lines graph kind (number + 1) runs

-- the events of the runs of inputs from this entry
abbrev pub events_text : GraphParts → ℕ → List (RunEnd × List Event) → List ℕ
events_text graph entry runs = told_lines graph (result_kind graph entry) 1 runs
