-- Which filters keep exactly the edges that tell an event which passes a test.
use Rattle.std.proofs.Common.{rules, ◌≡◌, ℕ, Bool, true, false, ◌||◌, ◌&&◌, ◌==◌, List, length, Option, Some, None, refl, sym, ap, ◌∙◌}
use Rattle.std.specs.Prelude.{nat_lt, slice_get}
use Rattle.std.specs.List.{list_any}
use Rattle.std.specs.Option.{option_map_or}
use Rattle.std.proofs.lemmas.Bool.{lt-ltb}
use Rattle.std.proofs.lemmas.Option.{slice_get_within}
use Rattle.fq_core.specs.declared.statement_kind.StatementKind.{StatementKind}
use Rattle.cfa.specs.declared.parts.Edge.{Edge}
use Rattle.cfa.specs.declared.parts.GraphParts.{GraphParts}
use Rattle.cfa.specs.Graph.{is_guard}
use Rattle.c_lower_rules.specs.graph_of.GraphOf.{graph_of}
use Rattle.tree_events.specs.declared.edge_events.event.Event.{Event}
use Rattle.tree_events.specs.declared.edge_events.event.What.TheVariants.{Did}
use Rattle.tree_events.specs.edge_events.Told.{event_of, told}
use Rattle.fql_read.specs.declared.filter.Filter.{Filter, the_lemmas as filter_lemmas}
use Rattle.fql_read.specs.declared.filter.FilterForm.TheVariants as form
use Rattle.filters.specs.Kept.{kept_by}
use Rattle.filters.specs.Kinds.{same_kind}
use Rattle.filters.specs.Parts.{Part, both, edge_has, either, keeping, whole}
use Rattle.filters.specs.Properties.{is_call, is_name}
use Rattle.measurer_laws.specs.table_laws.Marks.{OutcomesAreGuards}
use Rattle.measurer_laws.proofs.table_laws.Whole.{graphs_mark_guards}
use Rattle.measurer_laws.specs.covered_laws.Covered.{tells_one}
use Rattle.measurer_laws.specs.covered_laws.Filters.{Selects, LinesSelect, FilesSelect, KindsSelect, ConditionsSelect, DecisionsSelect, CallsSelect, UnionsSelect, IntersectionsSelect, at_line, calls, decides, filter_of, in_file, of_kinds, settles}
use Rattle.measurer_laws.proofs.covered_laws.Tells.{all_pass, both_told, called_of, either_told, first_passes, outcome_of, settled_of}

and_false : (b : Bool) → (b && false) ≡ false
and_false true = refl
and_false false = refl

-- ---- filters by a property of edges

module _ (parts : GraphParts) (property : Edge → Bool) (test : Event → Bool) (alike : (k : ℕ) (e : Edge) → slice_get parts.edges k ≡ Some e → property e ≡ tells_one test e) where
  kept_edge : (k : ℕ) → (keeping parts property (whole parts)).edge k ≡ edge_has parts (tells_one test) k
  kept_edge k = by (slice_get parts.edges k) refl
    where
      by : (o : Option Edge) → slice_get parts.edges k ≡ o → (nat_lt k (length parts.edges) && option_map_or property o false) ≡ option_map_or (tells_one test) o false
      by None is = and_false (nat_lt k (length parts.edges))
      by (Some e) is = ap (λ b. b && property e) (lt-ltb k (length parts.edges) (slice_get_within parts.edges k e is)) ∙ alike k e is

  pub selects_by : (filter : Filter) → kept_by parts filter (whole parts) ≡ keeping parts property (whole parts) → Selects parts filter test
  selects_by filter same k = ap (λ (a : Part). a.edge k) same ∙ kept_edge k

line_kept : (parts : GraphParts) (column line : ℕ) (a : Part) → kept_by parts (filter_of column (form.Line line)) a ≡ keeping parts (λ e. e.span.line == line) a
unfolding kept_by
line_kept parts column line a = search (rules, filter_lemmas)

file_kept : (parts : GraphParts) (column : ℕ) (name : List ℕ) (a : Part) → kept_by parts (filter_of column (form.File name)) a ≡ keeping parts (λ e. is_name (slice_get parts.files e.span.file) name) a
unfolding kept_by
file_kept parts column name a = search (rules, filter_lemmas)

kinds_kept : (parts : GraphParts) (column : ℕ) (kinds : List StatementKind) (a : Part) → kept_by parts (filter_of column (form.StatementTypes kinds)) a ≡ keeping parts (λ e. list_any (λ kind. same_kind kind e.statement) kinds) a
unfolding kept_by
kinds_kept parts column kinds a = search (rules, filter_lemmas)

conditions_kept : (parts : GraphParts) (column : ℕ) (a : Part) → kept_by parts (filter_of column form.ConditionEdge) a ≡ keeping parts (λ e. is_guard e.operation) a
unfolding kept_by
conditions_kept parts column a = search (rules, filter_lemmas)

decisions_kept : (parts : GraphParts) (column : ℕ) (a : Part) → kept_by parts (filter_of column form.DecisionEdge) a ≡ keeping parts (λ e. e.outcome) a
unfolding kept_by
decisions_kept parts column a = search (rules, filter_lemmas)

calls_kept : (parts : GraphParts) (column : ℕ) (name : List ℕ) (a : Part) → kept_by parts (filter_of column (form.Call name)) a ≡ keeping parts (λ e. is_call parts name e.operation) a
unfolding kept_by
calls_kept parts column name a = search (rules, filter_lemmas)

pub lines_select : LinesSelect
lines_select parts column line =
    selects_by parts (λ e. e.span.line == line) (at_line line) (λ k e is. sym (all_pass (at_line line) e (e.span.line == line) (λ w. refl)))
    (filter_of column (form.Line line)) (line_kept parts column line (whole parts))

pub files_select : FilesSelect
files_select parts column name =
    selects_by parts (λ e. is_name (slice_get parts.files e.span.file) name) (in_file parts.files name)
    (λ k e is. sym (all_pass (in_file parts.files name) e (is_name (slice_get parts.files e.span.file) name) (λ w. refl)))
    (filter_of column (form.File name)) (file_kept parts column name (whole parts))

pub kinds_select : KindsSelect
kinds_select parts column kinds =
    selects_by parts (λ e. list_any (λ kind. same_kind kind e.statement) kinds) (of_kinds kinds)
    (λ k e is. sym (all_pass (of_kinds kinds) e (list_any (λ kind. same_kind kind e.statement) kinds) (λ w. refl)))
    (filter_of column (form.StatementTypes kinds)) (kinds_kept parts column kinds (whole parts))

pub conditions_select : ConditionsSelect
conditions_select parts column =
    selects_by parts (λ e. is_guard e.operation) decides (λ k e is. sym (first_passes decides e refl ∙ outcome_of e e.operation))
    (filter_of column form.ConditionEdge) (conditions_kept parts column (whole parts))

decisions_by : (parts : GraphParts) (column : ℕ) → OutcomesAreGuards parts → Selects parts (filter_of column form.DecisionEdge) settles
decisions_by parts column guards =
    selects_by parts (λ e. e.outcome) settles (λ k e is. sym (first_passes settles e refl ∙ settled_of e e.operation (guards k e is)))
    (filter_of column form.DecisionEdge) (decisions_kept parts column (whole parts))

pub decisions_select : DecisionsSelect
decisions_select t files column = decisions_by (graph_of t files) column (graphs_mark_guards t files)

pub calls_select : CallsSelect
calls_select t files column name =
    selects_by (graph_of t files) (λ e. is_call (graph_of t files) name e.operation) (calls t name)
    (λ k e is. sym (first_passes (calls t name) e refl ∙ called_of t files name e e.operation))
    (filter_of column (form.Call name)) (calls_kept (graph_of t files) column name (whole (graph_of t files)))

-- ---- two filters

union_kept : (parts : GraphParts) (column : ℕ) (f g : Filter) (a : Part) → kept_by parts (filter_of column (form.Union f g)) a ≡ either (kept_by parts f a) (kept_by parts g a)
unfolding kept_by
union_kept parts column f g a = search (rules, filter_lemmas)

intersection_kept : (parts : GraphParts) (column : ℕ) (f g : Filter) (a : Part) → kept_by parts (filter_of column (form.Intersect f g)) a ≡ both (kept_by parts f a) (kept_by parts g a)
unfolding kept_by
intersection_kept parts column f g a = search (rules, filter_lemmas)

pub unions_select : UnionsSelect
unions_select parts column f g a b left right k =
    ap (λ (p : Part). p.edge k) (union_kept parts column f g (whole parts)) ∙ (λ i. left k i || right k i) ∙ by (slice_get parts.edges k)
  where
    by : (o : Option Edge) → (option_map_or (tells_one a) o false || option_map_or (tells_one b) o false) ≡ option_map_or (tells_one (λ v. a v || b v)) o false
    by None = refl
    by (Some e) = sym (either_told a b (told e))

pub intersections_select : IntersectionsSelect
intersections_select parts column f g a b place left right k =
    ap (λ (p : Part). p.edge k) (intersection_kept parts column f g (whole parts)) ∙ (λ i. left k i && right k i) ∙ by (slice_get parts.edges k)
  where
    by : (o : Option Edge) → (option_map_or (tells_one a) o false && option_map_or (tells_one b) o false) ≡ option_map_or (tells_one (λ v. a v && b v)) o false
    by None = refl
    by (Some e) =
        let c = a (event_of e (Did None)) in
        ap (λ d. d && tells_one b e) (all_pass a e c (λ w. place (event_of e w) (event_of e (Did None)) refl refl)) ∙ sym (both_told a b e c (λ w. place (event_of e w) (event_of e (Did None)) refl refl))
