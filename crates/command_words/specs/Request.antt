-- What the words of a command line ask for.
use denote.Ref.{Bor}
use Rattle.std.specs.Prelude.{ℕ, ◌&&◌, Bool, true, false, List, [], ◌∷◌, Option, None, Some, codes, if◌then◌else◌, length, map, nat_le, nat_lt, option_and_then, option_map}
use Rattle.std.specs.Char.{is_ascii_digit}
use Rattle.std.specs.List.{list_all}
use Rattle.std.specs.Str.{bytes_eq}
use Rattle.std.specs.Str.Parse.{digits_value}
use Rattle.c_meaning.specs.declared.ends.Ends.{Ends}
use Rattle.c_meaning.specs.declared.ends.Ends.TheVariants as counted
use Rattle.command_words.specs.declared.command_option.CommandOption.{CommandOption}
use Rattle.command_words.specs.declared.command_option.CommandOption.TheVariants.{Steps, Turns, Frames, Answers, Ends as ends_option, Budget, Json}
use Rattle.command_words.specs.declared.requests.Bounds.{Bounds}
use Rattle.command_words.specs.declared.requests.Check.{Check}
use Rattle.command_words.specs.declared.requests.CheckBounds.{CheckBounds}
use Rattle.command_words.specs.declared.requests.Generate.{Generate}
use Rattle.command_words.specs.declared.requests.Goals.{Goals}
use Rattle.command_words.specs.declared.requests.Measure.{Measure}
use Rattle.command_words.specs.declared.requests.Prove.{Prove}
use Rattle.command_words.specs.declared.requests.Request.{Request}
use Rattle.command_words.specs.declared.requests.Replay.{Replay}
use Rattle.command_words.specs.declared.requests.Runs.{Runs}
use Rattle.command_words.specs.declared.requests.Suffice.{Suffice}
use Rattle.command_words.specs.declared.requests.Traces.{Traces}
use Rattle.command_words.specs.declared.requests.Request.TheVariants as request
use Rattle.command_words.specs.Options.{name_of}
use Rattle.command_words.specs.Reading.{Text, Use, positional_id, reading, values}

-- ---- what may be asked for

pub record Measuring : Type 0 where
  pub entry : Text
  pub query : Text
  pub inputs : Text
  pub sources : List Text
  pub steps : ℕ
  pub ends : Ends
  pub json : Bool

pub record Generating : Type 0 where
  pub entry : Text
  pub query : Text
  pub sources : List Text
  pub bounds : Bounds
  pub ends : Ends
  pub budget : ℕ
  pub json : Bool

pub record Listing : Type 0 where
  pub query : Text
  pub sources : List Text

pub record Running : Type 0 where
  pub entry : Text
  pub inputs : Text
  pub sources : List Text
  pub steps : ℕ

pub record Proving : Type 0 where
  pub entry : Text
  pub query : Text
  pub goal : ℕ
  pub sources : List Text
  pub bounds : Bounds
  pub ends : Ends
  pub budget : ℕ

pub record Checking : Type 0 where
  pub entry : Text
  pub query : Text
  pub goal : ℕ
  pub certificate : Text
  pub sources : List Text
  pub bounds : Bounds
  pub ends : Ends

pub record Sufficing : Type 0 where
  pub entry : Text
  pub sources : List Text
  pub bounds : Bounds
  pub budget : ℕ

pub record CheckingBounds : Type 0 where
  pub entry : Text
  pub certificate : Text
  pub sources : List Text
  pub bounds : Bounds

pub record Tracing : Type 0 where
  pub entry : Text
  pub inputs : Text
  pub sources : List Text
  pub steps : ℕ
  pub ends : Ends

pub record Replaying : Type 0 where
  pub entry : Text
  pub query : Text
  pub traces : Text
  pub sources : List Text
  pub ends : Ends
  pub json : Bool

pub data Asked : Type 0 where
  measure : Measuring → Asked
  generate : Generating → Asked
  goals : Listing → Asked
  runs : Running → Asked
  prove : Proving → Asked
  check : Checking → Asked
  -- whether bounds suffice
  suffice : Sufficing → Asked
  -- for a certificate that bounds suffice
  prove_bounds : Sufficing → Asked
  -- whether a certificate says that bounds suffice
  check_bounds : CheckingBounds → Asked
  -- for the least input of a goal
  least : Proving → Asked
  traces : Tracing → Asked
  replay : Replaying → Asked
  -- for the ends of runs by the meaning of the trees, the steps being turns
  trees : Running → Asked
  -- for what happens in runs, by the meaning of the trees
  events : Running → Asked
  -- of these sources
  graph : List Text → Asked
  -- of this size
  sample : ℕ → Asked

-- ---- what a request asks for

-- the texts that references lead to
abbrev pub texts_at : List (Bor Text) → List Text
texts_at = map (λ (text : Bor Text). text.now)

abbrev pub measuring : Measure → Measuring
measuring m = record { entry = m.entry.now; query = m.query.now; inputs = m.inputs.now; sources = texts_at m.sources.items; steps = m.steps; ends = m.ends; json = m.json }

abbrev pub generating : Generate → Generating
generating m = record { entry = m.entry.now; query = m.query.now; sources = texts_at m.sources.items; bounds = m.bounds; ends = m.ends; budget = m.budget; json = m.json }

abbrev pub listing : Goals → Listing
listing m = record { query = m.query.now; sources = texts_at m.sources.items }

abbrev pub running : Runs → Running
running m = record { entry = m.entry.now; inputs = m.inputs.now; sources = texts_at m.sources.items; steps = m.steps }

abbrev pub proving : Prove → Proving
proving m = record { entry = m.entry.now; query = m.query.now; goal = m.goal; sources = texts_at m.sources.items; bounds = m.bounds; ends = m.ends; budget = m.budget }

abbrev pub checking : Check → Checking
checking m = record { entry = m.entry.now; query = m.query.now; goal = m.goal; certificate = m.certificate.now; sources = texts_at m.sources.items; bounds = m.bounds; ends = m.ends }

abbrev pub sufficing : Suffice → Sufficing
sufficing m = record { entry = m.entry.now; sources = texts_at m.sources.items; bounds = m.bounds; budget = m.budget }

abbrev pub checking_bounds : CheckBounds → CheckingBounds
checking_bounds m = record { entry = m.entry.now; certificate = m.certificate.now; sources = texts_at m.sources.items; bounds = m.bounds }

abbrev pub tracing : Traces → Tracing
tracing m = record { entry = m.entry.now; inputs = m.inputs.now; sources = texts_at m.sources.items; steps = m.steps; ends = m.ends }

abbrev pub replaying : Replay → Replaying
replaying m = record { entry = m.entry.now; query = m.query.now; traces = m.traces.now; sources = texts_at m.sources.items; ends = m.ends; json = m.json }

abbrev pub asked : Request → Asked
asked (request.Measure m) = measure (measuring m)
asked (request.Generate m) = generate (generating m)
asked (request.Goals m) = goals (listing m)
asked (request.Runs m) = runs (running m)
asked (request.Prove m) = prove (proving m)
asked (request.Check m) = check (checking m)
asked (request.Bounds m) = suffice (sufficing m)
asked (request.ProveBounds m) = prove_bounds (sufficing m)
asked (request.CheckBounds m) = check_bounds (checking_bounds m)
asked (request.Least m) = least (proving m)
asked (request.Traces m) = traces (tracing m)
asked (request.Replay m) = replay (replaying m)
asked (request.Trees m) = trees (running m)
asked (request.Events m) = events (running m)
asked (request.Graph sources) = graph (texts_at sources.items)
asked (request.Sample size) = sample size

-- ---- numbers

-- one to ten decimal digits, and a number from `low` to `high`
abbrev pub number_in : ℕ → ℕ → Text → Option ℕ
number_in low high text =
    let n = digits_value 10 text in
    if nat_lt 0 (length text) && (nat_le (length text) 10 && (list_all is_ascii_digit text && (nat_le low n && nat_le n high))) then Some n else None

-- the number of an option that is used at most once
abbrev pub number_of : ℕ → ℕ → ℕ → List Text → Option ℕ
number_of low high default [] = Some default
number_of low high default (text ∷ []) = number_in low high text
number_of low high default _ = None

-- whether a flag is used, at most once
abbrev pub flag_of : List Text → Option Bool
flag_of [] = Some false
flag_of (text ∷ []) = Some true
flag_of _ = None

-- the ends of this name
abbrev pub ends_named : Text → Option Ends
ends_named text =
    if bytes_eq text (codes "returned") then Some counted.Returned else
    (if bytes_eq text (codes "trapped") then Some counted.Trapped else
    (if bytes_eq text (codes "any") then Some counted.Any else None))

-- the ends that an option names which is used at most once
abbrev pub ends_in : List Text → Option Ends
ends_in [] = Some counted.Returned
ends_in (text ∷ []) = ends_named text
ends_in _ = None

abbrev pub values_of : CommandOption → List Use → List Text
values_of o uses = values (name_of o) uses

abbrev pub steps_in : List Text → Option ℕ
steps_in = number_of 1 1000000 100000

abbrev pub steps_of : List Use → Option ℕ
steps_of uses = steps_in (values_of Steps uses)

abbrev pub budget_in : List Text → Option ℕ
budget_in = number_of 1 20000000 5000000

abbrev pub budget_of : List Use → Option ℕ
budget_of uses = budget_in (values_of Budget uses)

abbrev pub json_of : List Use → Option Bool
json_of uses = flag_of (values_of Json uses)

abbrev pub ends_of : List Use → Option Ends
ends_of uses = ends_in (values_of ends_option uses)

abbrev pub bounds_with : Option ℕ → Option ℕ → Option ℕ → Option Bounds
bounds_with (Some turns) (Some frames) (Some answers) = Some (record { turns = turns; frames = frames; answers = answers })
bounds_with _ _ _ = None

-- by the values of the options
abbrev pub bounds_in : (Text → List Text) → Option Bounds
bounds_in at = bounds_with (number_of 0 1000 4 (at (name_of Turns))) (number_of 1 64 8 (at (name_of Frames))) (number_of 0 256 16 (at (name_of Answers)))

abbrev pub bounds_of : List Use → Option Bounds
bounds_of uses = bounds_in (λ id. values id uses)

-- a goal's number
abbrev pub goal_in : Text → Option ℕ
goal_in = number_in 1 10000

-- ---- what the positional words are, with the values of the options

abbrev pub measured : List Text → Option ℕ → Option Ends → Option Bool → Option Asked
measured (entry ∷ query ∷ inputs ∷ source ∷ sources) (Some steps) (Some ends) (Some json) = Some (measure record { entry = entry; query = query; inputs = inputs; sources = source ∷ sources; steps = steps; ends = ends; json = json })
measured _ _ _ _ = None

abbrev pub generated : List Text → Option Bounds → Option Ends → Option ℕ → Option Bool → Option Asked
generated (entry ∷ query ∷ source ∷ sources) (Some bounds) (Some ends) (Some budget) (Some json) = Some (generate record { entry = entry; query = query; sources = source ∷ sources; bounds = bounds; ends = ends; budget = budget; json = json })
generated _ _ _ _ _ = None

abbrev pub listed : List Text → Option Asked
listed (query ∷ source ∷ sources) = Some (goals record { query = query; sources = source ∷ sources })
listed _ = None

abbrev pub run_with : List Text → Option ℕ → Option Asked
run_with (entry ∷ inputs ∷ source ∷ sources) (Some steps) = Some (runs record { entry = entry; inputs = inputs; sources = source ∷ sources; steps = steps })
run_with _ _ = None

abbrev pub proved : List Text → Option Bounds → Option Ends → Option ℕ → Option Asked
proved (entry ∷ query ∷ number ∷ source ∷ sources) (Some bounds) (Some ends) (Some budget) = option_map (λ goal. prove record { entry = entry; query = query; goal = goal; sources = source ∷ sources; bounds = bounds; ends = ends; budget = budget }) (goal_in number)
proved _ _ _ _ = None

abbrev pub checked : List Text → Option Bounds → Option Ends → Option Asked
checked (entry ∷ query ∷ number ∷ certificate ∷ source ∷ sources) (Some bounds) (Some ends) = option_map (λ goal. check record { entry = entry; query = query; goal = goal; certificate = certificate; sources = source ∷ sources; bounds = bounds; ends = ends }) (goal_in number)
checked _ _ _ = None

abbrev pub sufficed : List Text → Option Bounds → Option ℕ → Option Asked
sufficed (entry ∷ source ∷ sources) (Some bounds) (Some budget) = Some (suffice record { entry = entry; sources = source ∷ sources; bounds = bounds; budget = budget })
sufficed _ _ _ = None

abbrev pub bounds_proved : List Text → Option Bounds → Option ℕ → Option Asked
bounds_proved (entry ∷ source ∷ sources) (Some bounds) (Some budget) = Some (prove_bounds record { entry = entry; sources = source ∷ sources; bounds = bounds; budget = budget })
bounds_proved _ _ _ = None

abbrev pub bounds_checked : List Text → Option Bounds → Option Asked
bounds_checked (entry ∷ certificate ∷ source ∷ sources) (Some bounds) = Some (check_bounds record { entry = entry; certificate = certificate; sources = source ∷ sources; bounds = bounds })
bounds_checked _ _ = None

abbrev pub lowered : List Text → Option Bounds → Option Ends → Option ℕ → Option Asked
lowered (entry ∷ query ∷ number ∷ source ∷ sources) (Some bounds) (Some ends) (Some budget) = option_map (λ goal. least record { entry = entry; query = query; goal = goal; sources = source ∷ sources; bounds = bounds; ends = ends; budget = budget }) (goal_in number)
lowered _ _ _ _ = None

abbrev pub traced : List Text → Option ℕ → Option Ends → Option Asked
traced (entry ∷ inputs ∷ source ∷ sources) (Some steps) (Some ends) = Some (traces record { entry = entry; inputs = inputs; sources = source ∷ sources; steps = steps; ends = ends })
traced _ _ _ = None

abbrev pub replayed : List Text → Option Ends → Option Bool → Option Asked
replayed (entry ∷ query ∷ file ∷ source ∷ sources) (Some ends) (Some json) = Some (replay record { entry = entry; query = query; traces = file; sources = source ∷ sources; ends = ends; json = json })
replayed _ _ _ = None

abbrev pub run_on_trees : List Text → Option ℕ → Option Asked
run_on_trees (entry ∷ inputs ∷ source ∷ sources) (Some steps) = Some (trees record { entry = entry; inputs = inputs; sources = source ∷ sources; steps = steps })
run_on_trees _ _ = None

abbrev pub run_for_events : List Text → Option ℕ → Option Asked
run_for_events (entry ∷ inputs ∷ source ∷ sources) (Some steps) = Some (events record { entry = entry; inputs = inputs; sources = source ∷ sources; steps = steps })
run_for_events _ _ = None

abbrev pub printed : List Text → Option Asked
printed (source ∷ sources) = Some (graph (source ∷ sources))
printed _ = None

abbrev pub sampled : List Text → Option Asked
sampled (number ∷ []) = option_map sample (number_in 1 200 number)
sampled _ = None

-- ---- the commands

abbrev pub positionals_of : List Use → List Text
positionals_of uses = values positional_id uses

abbrev pub measure_of : List Use → Option Asked
measure_of uses = measured (positionals_of uses) (steps_of uses) (ends_of uses) (json_of uses)

abbrev pub generate_of : List Use → Option Asked
generate_of uses = generated (positionals_of uses) (bounds_of uses) (ends_of uses) (budget_of uses) (json_of uses)

abbrev pub goals_of : List Use → Option Asked
goals_of uses = listed (positionals_of uses)

abbrev pub runs_of : List Use → Option Asked
runs_of uses = run_with (positionals_of uses) (steps_of uses)

abbrev pub prove_of : List Use → Option Asked
prove_of uses = proved (positionals_of uses) (bounds_of uses) (ends_of uses) (budget_of uses)

abbrev pub check_of : List Use → Option Asked
check_of uses = checked (positionals_of uses) (bounds_of uses) (ends_of uses)

abbrev pub suffice_of : List Use → Option Asked
suffice_of uses = sufficed (positionals_of uses) (bounds_of uses) (budget_of uses)

abbrev pub prove_bounds_of : List Use → Option Asked
prove_bounds_of uses = bounds_proved (positionals_of uses) (bounds_of uses) (budget_of uses)

abbrev pub check_bounds_of : List Use → Option Asked
check_bounds_of uses = bounds_checked (positionals_of uses) (bounds_of uses)

abbrev pub least_of : List Use → Option Asked
least_of uses = lowered (positionals_of uses) (bounds_of uses) (ends_of uses) (budget_of uses)

abbrev pub traces_of : List Use → Option Asked
traces_of uses = traced (positionals_of uses) (steps_of uses) (ends_of uses)

abbrev pub replay_of : List Use → Option Asked
replay_of uses = replayed (positionals_of uses) (ends_of uses) (json_of uses)

abbrev pub trees_of : List Use → Option Asked
trees_of uses = run_on_trees (positionals_of uses) (steps_of uses)

abbrev pub events_of : List Use → Option Asked
events_of uses = run_for_events (positionals_of uses) (steps_of uses)

abbrev pub graph_of : List Use → Option Asked
graph_of uses = printed (positionals_of uses)

abbrev pub sample_of : List Use → Option Asked
sample_of uses = sampled (positionals_of uses)

-- what the words after a command's name ask for, where the command has these options
abbrev pub asked_by : (List Use → Option Asked) → List CommandOption → List Text → Option Asked
asked_by f options words = option_and_then f (reading options words None)

-- the commands that ask of bounds alone
unfoldable pub of_bounds : Text → List Text → Option Asked
of_bounds name words =
    if bytes_eq name (codes "bounds") then asked_by suffice_of (Turns ∷ Frames ∷ Answers ∷ Budget ∷ []) words else
    (if bytes_eq name (codes "prove-bounds") then asked_by prove_bounds_of (Turns ∷ Frames ∷ Answers ∷ Budget ∷ []) words else
    (if bytes_eq name (codes "check-bounds") then asked_by check_bounds_of (Turns ∷ Frames ∷ Answers ∷ []) words else None))

-- What the words ask for, or None where they are no command: the first word names the command.
abbrev pub request_of : List Text → Option Asked
request_of [] = None
request_of (name ∷ words) =
    if bytes_eq name (codes "measure") then asked_by measure_of (Steps ∷ ends_option ∷ Json ∷ []) words else
    (if bytes_eq name (codes "generate") then asked_by generate_of (Turns ∷ Frames ∷ Answers ∷ ends_option ∷ Budget ∷ Json ∷ []) words else
    (if bytes_eq name (codes "goals") then asked_by goals_of [] words else
    (if bytes_eq name (codes "runs") then asked_by runs_of (Steps ∷ []) words else
    (if bytes_eq name (codes "prove") then asked_by prove_of (Turns ∷ Frames ∷ Answers ∷ ends_option ∷ Budget ∷ []) words else
    (if bytes_eq name (codes "check") then asked_by check_of (Turns ∷ Frames ∷ Answers ∷ ends_option ∷ []) words else
    (if bytes_eq name (codes "least") then asked_by least_of (Turns ∷ Frames ∷ Answers ∷ ends_option ∷ Budget ∷ []) words else
    (if bytes_eq name (codes "traces") then asked_by traces_of (Steps ∷ ends_option ∷ []) words else
    (if bytes_eq name (codes "replay") then asked_by replay_of (ends_option ∷ Json ∷ []) words else
    (if bytes_eq name (codes "trees") then asked_by trees_of (Steps ∷ []) words else
    (if bytes_eq name (codes "events") then asked_by events_of (Steps ∷ []) words else
    (if bytes_eq name (codes "graph") then asked_by graph_of [] words else
    (if bytes_eq name (codes "sample") then asked_by sample_of [] words else of_bounds name words))))))))))))
