-- What `traces` writes is read again.
use Rattle.std.proofs.Common.{◌≡◌, ℕ, ◌<◌, ◌≤◌, ◌^◌, All, Bool, true, false, List, [], ◌∷◌, ◌++◌, length, map, Option, Some, None, refl, sym, ap, subst, ◌∙◌, inl, inr, arith}
use Rattle.std.specs.Prelude.{◌==◌, IsTrue, Ok, Err, if◌then◌else◌, nat_lt, option_and_then, slice_get}
use Rattle.std.specs.List.{AllZip}
use Rattle.std.proofs.lemmas.Bool.{eqb-true}
use Rattle.std.proofs.lemmas.List.Elements.{All-cons, All-head, All-nil, All-tail}
use Rattle.std.proofs.lemmas.Option.{slice_get_within}
use Rattle.fq_core.specs.declared.refusal.Refusal.{Refusal}
use Rattle.fq_core.specs.declared.refusal.Place.TheVariants as place
use Rattle.c_meaning.proofs.Begun.{start_state}
use Rattle.c_meaning.proofs.Next.{next_keeps}
use Rattle.c_meaning.proofs.PairLaws.{first_fits, steps_follow}
use Rattle.c_meaning.specs.Pairs.{Fits, pair_along}
use Rattle.c_meaning.specs.Runs.{AreMoves, IsBeginning, Move, Run}
use Rattle.c_meaning.specs.Starts.{CanStart}
use Rattle.c_meaning.specs.Steps.{IfMoved}
use Rattle.c_meaning.specs.declared.ends.Ends.{Ends}
use Rattle.c_meaning.specs.declared.input.Input.{Input}
use Rattle.cfa.specs.Contexts.{Pair, first_pair}
use Rattle.cfa.specs.Graph.{IsGraph}
use Rattle.cfa.specs.Names.{first_named}
use Rattle.cfa.specs.States.{IsState}
use Rattle.cfa.specs.declared.parts.Function.{Function}
use Rattle.cfa.specs.declared.parts.GraphParts.{GraphParts}
use Rattle.cfa.specs.declared.state.Predicates.{Predicates}
use Rattle.cfa.specs.declared.state.State.{State}
use Rattle.input_text.specs.Laws.{AcceptedTextsFit, HasWords}
use Rattle.path_runner.proofs.Records.{paths_counted}
use Rattle.path_runner.specs.Paths.{record_of}
use Rattle.path_runner.specs.declared.path.PathRecord.{PathRecord}
use Rattle.trace_file.proofs.TextLaws.{texts_read}
use Rattle.trace_file.specs.Form.{Form, form_of}
use Rattle.trace_file.specs.Laws.{RecordsRun}
use Rattle.trace_file.specs.Reading.{IsFileOf, IsReadAs, IsRefusedAs, IsRight, IsTraceOf, most_traces}
use Rattle.trace_file.specs.Written.{traces_text}
use Rattle.trace_file.specs.declared.line.Line.{Line}
use Rattle.trace_file.specs.declared.trace.Trace.{Trace}
use Rattle.command_words.specs.Request as asks
use Rattle.command_words.specs.Request.{Tracing}
use Rattle.command.specs.Due.{IsDueOf}
use Rattle.command.specs.Inputs.{AreInputsOf}
use Rattle.command.specs.Reads.{Reads}
use Rattle.command.specs.RunList.{most_listed}
use Rattle.command.specs.RunList as recorded
use Rattle.command.specs.Refusal.{said_by}
use Rattle.command.specs.Runs.{EntryFunction, entry_of, if_startable, no_predicates, run_of, runs_of, startable_at}
use Rattle.command.specs.Said.{Said, answered}
use Rattle.command.specs.Stages.{OfInputs}
use Rattle.command.specs.Traces.{is_counted, trace_of, traced, traces_of}
use Rattle.command_laws.specs.printed_laws.Named.{NamedEntry}
use Rattle.command_laws.proofs.printed_laws.Graphs.{entry_there, sources_are_graph}
use Rattle.command_laws.proofs.printed_laws.Walk.{named_entry, no_refusal, no_text}
use Rattle.command_laws.specs.traced_laws.Laws.{SaysTraces, TracesAreRead, edges_in}

-- ---- the edges of a run are the graph's

abbrev IsSmall : ℕ → Type 0
IsSmall edge = edge < 2 ^ 32

abbrev edge_of : Move → ℕ
edge_of m = m.edge

module _ (parts : GraphParts) (input : Input) (g : IsGraph parts) (few : length parts.edges ≤ 40000) where
  moves_small : (s : State) (p : Pair) (ms : List Move) → IsState parts s → Fits p s → AreMoves parts input s ms → All IsSmall (map edge_of ms)
  moves_small s p [] h fits moves = All-nil IsSmall
  moves_small s p (m ∷ ms) h fits moves =
      let step = steps_follow parts input s m.target m.edge p g h moves.1 fits in
      let keeps = subst (λ x. IfMoved x (IsState parts)) moves.1 (next_keeps parts input s g h) in
      let there : m.edge < length parts.edges = slice_get_within parts.edges m.edge step.0.0 step.0.1.edge in
      All-cons IsSmall m.edge (map edge_of ms) (omega (arith, there, few)) (moves_small m.target (pair_along parts p m.edge) ms keeps step.1 moves.2)

  run_small : (k : ℕ) (f : Function) (r : Run) → slice_get parts.functions k ≡ Some f → CanStart f input.words → IsBeginning parts f input r → All IsSmall (map edge_of r.moves)
  run_small k f r own can h =
      let first = start_state parts k f input.words g own can in
      let fits = first_fits parts f input.words in
      moves_small r.first (first_pair f) r.moves (subst (IsState parts) (sym h.start) first) (subst (Fits (first_pair f)) (sym h.start) fits) h.moves

-- ---- the traces of counted runs

module _ (graph : GraphParts) (g : IsGraph graph) (few : length graph.edges ≤ 40000) (k : ℕ) (f : Function) (own : slice_get graph.functions k ≡ Some f) (arrays : f.arrays ≡ []) (ends : Ends) (steps : ℕ) where
  abbrev Records : Trace → Type 0
  Records = RecordsRun graph f no_predicates ends

  record_one : (x : Input) → HasWords (length f.parameters) x → IsTrue (is_counted ends (trace_of graph f steps x)) → Records (trace_of graph f steps x)
  unfolding run_of
  record_one x words counted =
      let found = paths_counted graph f x no_predicates steps ends counted in
      let small = run_small graph x g few k f found.0 own (words, arrays) found.1.begins in
      record {
        words = words;
        run = found.0;
        is_run = found.1;
        recorded = found.2;
        small = subst (All IsSmall) (sym (ap (λ (path : PathRecord). path.edges) found.2)) small;
      }

  record_all : (inputs : List Input) → All (HasWords (length f.parameters)) inputs → All Records (traces_of graph f ends steps inputs)
  record_all [] words = All-nil Records
  record_all (x ∷ xs) words =
      by (is_counted ends (trace_of graph f steps x)) (λ counted. record_one x (All-head (HasWords (length f.parameters)) x xs words) counted) (record_all xs (All-tail (HasWords (length f.parameters)) x xs words))
    where
      by : (test : Bool) → (test ≡ true → Records (trace_of graph f steps x)) → All Records (traces_of graph f ends steps xs)
          → All Records (if test then trace_of graph f steps x ∷ traces_of graph f ends steps xs else traces_of graph f ends steps xs)
      by true one rest = All-cons Records (trace_of graph f steps x) (traces_of graph f ends steps xs) (one refl) rest
      by false one rest = rest

  few_traces : (inputs : List Input) → length (traces_of graph f ends steps inputs) ≤ length inputs
  few_traces [] = omega arith
  few_traces (x ∷ xs) = by (is_counted ends (trace_of graph f steps x)) (few_traces xs)
    where
      by : (test : Bool) → length (traces_of graph f ends steps xs) ≤ length xs
          → length (if test then trace_of graph f steps x ∷ traces_of graph f ends steps xs else traces_of graph f ends steps xs) ≤ length (x ∷ xs)
      by true rest = omega (arith, rest)
      by false rest = omega (arith, rest)

-- ---- the same lines, by other predicates

module _ (graph : GraphParts) (f : Function) (ends : Ends) where
  -- the traces of these lines by a query's predicates have the same edges
  by_predicates : (q p : Predicates) (lines : List Line) (traces : List Trace) → AllZip (IsTraceOf graph f ends q) lines traces
      → (again : List Trace) × AllZip (IsTraceOf graph f ends p) lines again × (edges_in again ≡ edges_in traces)
  by_predicates q p [] [] each = ([], tt, refl)
  by_predicates q p [] (t ∷ ts) each = absurd each
  by_predicates q p (l ∷ ls) [] each = absurd each
  by_predicates q p (l ∷ ls) (t ∷ ts) each =
      let rest = by_predicates q p ls ts each.1 in
      let right = each.0.run in
      let here : Trace = record { input = l.input; run = record_of graph l.input p right.run } in
      let same : here.run.edges ≡ t.run.edges = ap (λ (path : PathRecord). path.edges) (sym right.recorded) in (
        here ∷ rest.0,
        (record { input = refl; run = record { run = right.run; is_run = right.is_run; edges = right.edges; recorded = refl } }, rest.1),
        (let tail = rest.2 in λ i. same i ∷ tail i),
      )

  read_by : (q p : Predicates) (form : Form) (traces : List Trace) → IsReadAs graph f ends q form traces
      → (again : List Trace) × IsReadAs graph f ends p form again × (edges_in again ≡ edges_in traces)
  read_by q p (Err number) traces h = absurd h
  read_by q p (Ok lines) traces h = let it = by_predicates q p lines traces h.1 in (it.0, (h.0, it.1), it.2)

  -- a line among lines that are right is right
  right_at : (q : Predicates) (before : List Line) (line : Line) (rest : List Line) (traces : List Trace) → AllZip (IsTraceOf graph f ends q) (before ++ line ∷ rest) traces → IsRight graph f ends line
  right_at q before line rest [] h = absurd (none before h)
    where
      none : (before : List Line) → AllZip (IsTraceOf graph f ends q) (before ++ line ∷ rest) [] → ⊥
      none [] h = h
      none (l ∷ ls) h = h
  right_at q [] line rest (t ∷ ts) h = let right = h.0.run in record { run = right.run; is_run = right.is_run; edges = right.edges }
  right_at q (l ∷ before) line rest (t ∷ ts) h = right_at q before line rest ts h.1

  -- a form that is read isn't refused
  not_refused : (q : Predicates) (form : Form) (traces : List Trace) (x : Refusal) → IsReadAs graph f ends q form traces → IsRefusedAs graph f ends form x → ⊥
  not_refused q (Err number) traces x h r = h
  not_refused q (Ok lines) traces x h (inl r) = absurd (omega (arith, h.0, r.0))
  not_refused q (Ok lines) traces x h (inr r) =
      let wrong = r.1 in
      wrong.wrong (right_at q wrong.before wrong.line wrong.rest traces (subst (λ (all : List Line). AllZip (IsTraceOf graph f ends q) all traces) wrong.all h.1))

-- traces with the same runs have the same edges
same_edges : (xs ys : List Trace) → map (λ (trace : Trace). trace.run) xs ≡ map (λ (trace : Trace). trace.run) ys → edges_in xs ≡ edges_in ys
same_edges xs ys e = edges_by_runs xs ∙ ap (map (λ (run : PathRecord). run.edges)) e ∙ sym (edges_by_runs ys)
  where
    edges_by_runs : (zs : List Trace) → edges_in zs ≡ map (λ (run : PathRecord). run.edges) (map (λ (trace : Trace). trace.run) zs)
    edges_by_runs [] = refl
    edges_by_runs (z ∷ zs) = ap (λ (rest : List (List ℕ)). z.run.edges ∷ rest) (edges_by_runs zs)

-- ---- what `traces` says

-- where it is no refusal, its text was written
written : (graph : GraphParts) (entry : EntryFunction) (m : Tracing) (given : List Input) (said : Said) → (said.out ≡ [] → ⊥) → said ≡ traced graph entry m.ends m.steps given
    → said ≡ answered (traces_text entry.function.parameters (traces_of graph entry.function m.ends m.steps given))
written graph entry m given said some is = by (nat_lt most_listed (recorded.edges_in (runs_of graph entry.function no_predicates m.steps given))) is
  where
    by : (test : Bool)
        → said ≡ (if test then said_by [] (record { code = 54; place = place.Limit most_listed }) else answered (traces_text entry.function.parameters (traces_of graph entry.function m.ends m.steps given)))
        → said ≡ answered (traces_text entry.function.parameters (traces_of graph entry.function m.ends m.steps given))
    by true e = absurd (some (ap (λ (s : Said). s.out) e ∙ no_text [] (record { code = 54; place = place.Limit most_listed })))
    by false e = e

-- the entry has no array parameters
no_arrays : (graph : GraphParts) (name : List ℕ) (entry : EntryFunction) → entry_of graph name ≡ Some entry → entry.function.arrays ≡ []
no_arrays graph name entry is = by_name (first_named graph.functions name) is
  where
    none : {X : Type 0} (xs : List X) → length xs ≡ 0 → xs ≡ []
    none [] e = refl
    none (x ∷ xs) e = absurd (omega (arith, e))

    by_test : (number : ℕ) (f : Function) (test : Bool) → (length f.arrays == 0) ≡ test → (if test then Some (record { number = number; function = f }) else None) ≡ Some entry → entry.function.arrays ≡ []
    by_test number f true is some =
        let same : f ≡ entry.function = cc in
        subst (λ (g : Function). g.arrays ≡ []) same (none f.arrays (eqb-true (length f.arrays) 0 is))
    by_test number f false is some = absurd (cc)

    by_function : (number : ℕ) (o : Option Function) → option_and_then (if_startable number) o ≡ Some entry → entry.function.arrays ≡ []
    by_function number None some = absurd (cc)
    by_function number (Some f) some = by_test number f (length f.arrays == 0) refl some

    by_name : (o : Option ℕ) → option_and_then (startable_at graph) o ≡ Some entry → entry.function.arrays ≡ []
    by_name None some = absurd (cc)
    by_name (Some number) some = by_function number (slice_get graph.functions number) some

module _ (fits : AcceptedTextsFit) (r : Reads) (m : Tracing) (said : Said) (some : said.out ≡ [] → ⊥) where
  abbrev Named : Type 0
  Named = NamedEntry r m.sources m.entry

  abbrev traced_of : (of : Named) → List Input → List Trace
  traced_of of given = traces_of of.graph of.entry.function m.ends m.steps given

  -- few edges
  edges_few : (of : Named) → length of.graph.edges ≤ 40000
  edges_few of =
      let a = of.automaton.automaton in
      subst (λ (g : GraphParts). length g.edges ≤ 40000) (sym a.is) a.few

  by_given : (of : Named) (given : List Input) → AreInputsOf r m.inputs (length of.entry.function.parameters) given → said ≡ traced of.graph of.entry m.ends m.steps given → SaysTraces r m said
  by_given of given inputs is =
      let g = sources_are_graph r.holds m.sources of.graph of.automaton in
      let own = entry_there of.graph m.entry of.entry of.entry_is in
      let arrays = no_arrays of.graph m.entry of.entry of.entry_is in
      let printed = written of.graph of.entry m given said some is in
      let fit = fits (length of.entry.function.parameters) inputs.bytes given inputs.is in
      let few : length (traced_of of given) ≤ most_traces =
      (let a = few_traces of.graph g (edges_few of) of.entry.number of.entry.function own arrays m.ends m.steps given in let b = fit.0 in omega (arith, a, b)) in
      let records = record_all of.graph g (edges_few of) of.entry.number of.entry.function own arrays m.ends m.steps given fit.1 in
      let read = texts_read of.graph of.entry.number of.entry.function no_predicates m.ends (traced_of of given) g own few records in
      let out : said.out ≡ traces_text of.entry.function.parameters (traced_of of given) = ap (λ (s : Said). s.out) printed in
      let file : IsFileOf of.graph of.entry.function m.ends no_predicates said.out read.0 =
      subst (λ (bytes : List ℕ). IsFileOf of.graph of.entry.function m.ends no_predicates bytes read.0) (sym out) read.1 in
      let form = form_of (length of.entry.function.parameters) said.out in
      record {
        of = of;
        given = given;
        inputs = inputs;
        printed = printed;
        file = λ p. (let it = read_by of.graph of.entry.function m.ends no_predicates p form read.0 file in (it.0, it.1, it.2 ∙ same_edges read.0 (traced_of of given) read.2));
        kept = λ refusal refused. not_refused of.graph of.entry.function m.ends no_predicates form read.0 refusal file refused;
      }

  by_inputs : (of : Named) → OfInputs r m.sources m.inputs (length of.entry.function.parameters) (λ given said. said ≡ traced of.graph of.entry m.ends m.steps given) said → SaysTraces r m said
  by_inputs of (inl a) = absurd (no_refusal said some m.sources _ a)
  by_inputs of (inr a) = by_given of a.0 a.1 a.2

  says_traces : IsDueOf r (asks.traces m) said → SaysTraces r m said
  says_traces due =
      let at = named_entry said some r m.sources m.entry
      (λ graph entry. OfInputs r m.sources m.inputs (length entry.function.parameters) (λ given said. said ≡ traced graph entry m.ends m.steps given)) due in
      by_inputs at.0 at.1

pub traces_are_read : AcceptedTextsFit → TracesAreRead
traces_are_read fits r m said due some = says_traces fits r m said some due
