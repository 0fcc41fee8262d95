use Rattle.std.proofs.Common.{◌≡◌, ◌-◌, List, [], ap, arith, length, subst, sym, ◌∙◌}
use Rattle.std.specs.Prelude.{All, slice_get}
use Rattle.std.proofs.lemmas.Option.{same_Some, slice_get_within}
use Rattle.c_values.specs.declared.kinds.Kind.{Kind}
use Rattle.c_values.specs.Kind.{IsKind}
use Rattle.circuit.specs.Truth.{World}
use Rattle.circuit.specs.Wires.{IsWire}
use Rattle.circuit.specs.declared.lit.Gate.{Gate}
use Rattle.circuit.specs.declared.lit.Lit.{Lit}
use Rattle.c_meaning.specs.declared.input.Input.{Input}
use Rattle.c_meaning.specs.Starts.{fitted_words, start_of}
use Rattle.sym_expr.specs.Stores.{cells_in}
use Rattle.sym_expr.specs.sym_steps.Steps.{state_in}
use Rattle.cfa.specs.declared.parts.Function.{Function}
use Rattle.cfa.proofs.Exits.{given, taken}
use Rattle.unwinder.specs.input_words.Worlds.{world_length}
use Rattle.unwinder.specs.declared.arrival.Arrival.{Arrival}
use Rattle.unwinder.specs.Progress.{CanUnwind, Unwinds, begun}
use Rattle.unwinder.proofs.Beginning.{begins, first_way}
use Rattle.unwinder.proofs.Made.{IsMade, can_unwind, few_inputs, is_unwound, parameter_kinds}
use Rattle.unwinder.proofs.UnwindLaws.{element_there}
use Rattle.unwinder.proofs.unwinding.unwound.Goals as goal

pub inputs-requires-clause-kinds : goal.inputs-requires-clause-kinds
inputs-requires-clause-kinds c =
    let some = taken (λ (q : Function). q.arrays ≡ []) (slice_get c.args.graph.now.functions c.args.entry) c.requires.entry in
    let lt = slice_get_within c.args.graph.now.functions c.args.entry some.0 some.1 in
    let own = element_there c.args.graph.now.functions c.functions.result.now c.args.entry c.index-functions-entry.result c.functions.ensures lt c.index-functions-entry.is in
    subst (All IsKind) (sym c.deref.ensures) (parameter_kinds c.args.graph.now c.args.entry c.index-functions-entry.result c.well_formed-2.ensures own)

pub inputs-requires-clause-room : goal.inputs-requires-clause-room
inputs-requires-clause-room c =
    let some = taken (λ (q : Function). q.arrays ≡ []) (slice_get c.args.graph.now.functions c.args.entry) c.requires.entry in
    let lt = slice_get_within c.args.graph.now.functions c.args.entry some.0 some.1 in
    let own = element_there c.args.graph.now.functions c.functions.result.now c.args.entry c.index-functions-entry.result c.functions.ensures lt c.index-functions-entry.is in
    let few = few_inputs c.args.graph.now c.args.entry c.index-functions-entry.result c.args.bounds.answers c.well_formed-2.ensures own c.requires.answers in
    omega (arith, few, ap (λ (ps : List Kind). world_length ps c.args.bounds.answers) c.deref.ensures)

pub start-requires : goal.start-requires
start-requires c =
    let some = taken (λ (q : Function). q.arrays ≡ []) (slice_get c.args.graph.now.functions c.args.entry) c.requires.entry in
    let lt = slice_get_within c.args.graph.now.functions c.args.entry some.0 some.1 in
    let own = element_there c.args.graph.now.functions c.functions.result.now c.args.entry c.index-functions-entry.result c.functions.ensures lt c.index-functions-entry.is in
    let arrays = subst (λ (q : Function). q.arrays ≡ []) (same_Some some.0 c.index-functions-entry.result (sym some.1 ∙ own)) some.2 in
    given (λ (f : Function). (length c.deref-2.result.now ≡ length f.parameters) × (f.arrays ≡ [])) (slice_get c.args.graph.now.functions c.args.entry) c.index-functions-entry.result own
    (ap length c.deref-2.ensures ∙ c.in_ok-words.ensures.word_count ∙ ap length c.deref.ensures, arrays)

pub all_taken-requires-clause-entry : goal.all_taken-requires-clause-entry
all_taken-requires-clause-entry c =
    let some = taken (λ (q : Function). q.arrays ≡ []) (slice_get c.args.graph.now.functions c.args.entry) c.requires.entry in
    let lt = slice_get_within c.args.graph.now.functions c.args.entry some.0 some.1 in
    let own = element_there c.args.graph.now.functions c.functions.result.now c.args.entry c.index-functions-entry.result c.functions.ensures lt c.index-functions-entry.is in
    lt

pub all_taken-requires-clause-can : goal.all_taken-requires-clause-can
all_taken-requires-clause-can c = λ f is.
    let some = taken (λ (q : Function). q.arrays ≡ []) (slice_get c.args.graph.now.functions c.args.entry) c.requires.entry in
    let lt = slice_get_within c.args.graph.now.functions c.args.entry some.0 some.1 in
    let own = element_there c.args.graph.now.functions c.functions.result.now c.args.entry c.index-functions-entry.result c.functions.ensures lt c.index-functions-entry.is in
    let it = c.in_ok-words.ensures in
    let made : IsMade c.deref.result.now c.args.bounds.answers c.inputs.new.circuit c.in_ok-words.field-0.words c.in_ok-words.field-0.answers = record { wires_used = it.wires_used; inputs_alone = it.inputs_alone; word_count = it.word_count; words_are = it.words; kinds = it.kinds; word_wires = it.word_wires; answer_count = it.answer_count; answers_are = it.answers; answer_wires = it.answer_wires; values = it.values; answer_values = it.answer_values } in
    let made_own : IsMade c.index-functions-entry.result.parameters c.args.bounds.answers c.inputs.new.circuit c.in_ok-words.field-0.words c.in_ok-words.field-0.answers = subst (λ ps. IsMade ps c.args.bounds.answers c.inputs.new.circuit c.in_ok-words.field-0.words c.in_ok-words.field-0.answers) c.deref.ensures made in
    let same : c.index-functions-entry.result ≡ f = same_Some c.index-functions-entry.result f (sym own ∙ is) in
    let made_f : IsMade f.parameters c.args.bounds.answers c.inputs.new.circuit c.in_ok-words.field-0.words c.in_ok-words.field-0.answers = subst (λ (q : Function). IsMade q.parameters c.args.bounds.answers c.inputs.new.circuit c.in_ok-words.field-0.words c.in_ok-words.field-0.answers) same made_own in
    subst (λ (words : List (List Lit)). CanUnwind c.args.graph.now c.args.predicates.now f c.args.entry c.args.bounds c.args.reached.now.pairs c.args.reached.now.steps words c.inputs.new.circuit) (sym c.deref-3.ensures)
    (can_unwind c.args.graph.now c.args.predicates.now f c.args.entry c.args.bounds c.args.reached.now.pairs c.args.reached.now.steps c.in_ok-words.field-0.words c.in_ok-words.field-0.answers c.inputs.new.circuit c.well_formed-2.ensures is c.requires.answers c.requires.predicates (c.requires.reached f is) c.requires.few (c.requires.small f is) made_f)

pub all_taken-requires-clause-begun : goal.all_taken-requires-clause-begun
all_taken-requires-clause-begun c = λ f is.
    let some = taken (λ (q : Function). q.arrays ≡ []) (slice_get c.args.graph.now.functions c.args.entry) c.requires.entry in
    let lt = slice_get_within c.args.graph.now.functions c.args.entry some.0 some.1 in
    let own = element_there c.args.graph.now.functions c.functions.result.now c.args.entry c.index-functions-entry.result c.functions.ensures lt c.index-functions-entry.is in
    let it = c.in_ok-words.ensures in
    let made : IsMade c.deref.result.now c.args.bounds.answers c.inputs.new.circuit c.in_ok-words.field-0.words c.in_ok-words.field-0.answers = record { wires_used = it.wires_used; inputs_alone = it.inputs_alone; word_count = it.word_count; words_are = it.words; kinds = it.kinds; word_wires = it.word_wires; answer_count = it.answer_count; answers_are = it.answers; answer_wires = it.answer_wires; values = it.values; answer_values = it.answer_values } in
    let made_own : IsMade c.index-functions-entry.result.parameters c.args.bounds.answers c.inputs.new.circuit c.in_ok-words.field-0.words c.in_ok-words.field-0.answers = subst (λ ps. IsMade ps c.args.bounds.answers c.inputs.new.circuit c.in_ok-words.field-0.words c.in_ok-words.field-0.answers) c.deref.ensures made in
    let same : c.index-functions-entry.result ≡ f = same_Some c.index-functions-entry.result f (sym own ∙ is) in
    let made_f : IsMade f.parameters c.args.bounds.answers c.inputs.new.circuit c.in_ok-words.field-0.words c.in_ok-words.field-0.answers = subst (λ (q : Function). IsMade q.parameters c.args.bounds.answers c.inputs.new.circuit c.in_ok-words.field-0.words c.in_ok-words.field-0.answers) same made_own in
    let arrays = subst (λ (q : Function). q.arrays ≡ []) (same_Some some.0 f (sym some.1 ∙ is)) some.2 in
    let words_read = c.deref-2.ensures in
    let wires = c.in_ok-state.ensures.wires c.inputs.new.circuit (subst (λ (ws : List (List Lit)). All (All (IsWire c.inputs.new.circuit)) ws) (sym words_read) made_f.word_wires) in
    let begun_at = taken (λ (q : Function). (gates : List Gate) (w : World) (input : Input) → cells_in gates c.deref-2.result.now w ≡ fitted_words input.words q.parameters → state_in gates c.in_ok-state.state w ≡ start_of c.args.graph.now q input.words) (slice_get c.args.graph.now.functions c.args.entry) c.in_ok-state.ensures.start in
    let start_f = subst (λ (q : Function). (gates : List Gate) (w : World) (input : Input) → cells_in gates c.deref-2.result.now w ≡ fitted_words input.words q.parameters → state_in gates c.in_ok-state.state w ≡ start_of c.args.graph.now q input.words) (same_Some begun_at.0 f (sym begun_at.1 ∙ is)) begun_at.2 in
    let start_words = subst (λ (ws : List (List Lit)). (gates : List Gate) (w : World) (input : Input) → cells_in gates ws w ≡ fitted_words input.words f.parameters → state_in gates c.in_ok-state.state w ≡ start_of c.args.graph.now f input.words) words_read start_f in
    let first = begins c.args.graph.now c.args.predicates.now f c.args.entry c.args.bounds c.args.ends c.args.reached.now.pairs c.args.reached.now.steps c.inputs.new.circuit c.in_ok-words.field-0.words c.in_ok-state.state c.well_formed-2.ensures is arrays c.requires.frames (c.requires.reached f is) wires made_f.values (λ w input same_words. start_words c.inputs.new.circuit w input same_words) in
    let agenda : begun (first_way c.in_ok-state.state) (length c.args.reached.now.pairs - 1) ≡ c.in_ok-agenda.agenda.items = ap (λ n. begun (first_way c.in_ok-state.state) (n - 1)) (sym c.len.ensures) ∙ sym c.in_ok-agenda.ensures in
    subst (λ (rows : List (List Arrival)). Unwinds c.args.graph.now c.args.predicates.now f c.args.entry c.args.bounds c.args.ends c.args.reached.now.pairs c.args.reached.now.steps c.inputs.new.circuit 0 c.inputs.new.circuit [] rows) agenda first

pub returns : goal.returns
returns c = λ f is.
    let some = taken (λ (q : Function). q.arrays ≡ []) (slice_get c.args.graph.now.functions c.args.entry) c.requires.entry in
    let lt = slice_get_within c.args.graph.now.functions c.args.entry some.0 some.1 in
    let own = element_there c.args.graph.now.functions c.functions.result.now c.args.entry c.index-functions-entry.result c.functions.ensures lt c.index-functions-entry.is in
    let it = c.in_ok-words.ensures in
    let made : IsMade c.deref.result.now c.args.bounds.answers c.inputs.new.circuit c.in_ok-words.field-0.words c.in_ok-words.field-0.answers = record { wires_used = it.wires_used; inputs_alone = it.inputs_alone; word_count = it.word_count; words_are = it.words; kinds = it.kinds; word_wires = it.word_wires; answer_count = it.answer_count; answers_are = it.answers; answer_wires = it.answer_wires; values = it.values; answer_values = it.answer_values } in
    let made_own : IsMade c.index-functions-entry.result.parameters c.args.bounds.answers c.inputs.new.circuit c.in_ok-words.field-0.words c.in_ok-words.field-0.answers = subst (λ ps. IsMade ps c.args.bounds.answers c.inputs.new.circuit c.in_ok-words.field-0.words c.in_ok-words.field-0.answers) c.deref.ensures made in
    let same : c.index-functions-entry.result ≡ f = same_Some c.index-functions-entry.result f (sym own ∙ is) in
    let made_f : IsMade f.parameters c.args.bounds.answers c.inputs.new.circuit c.in_ok-words.field-0.words c.in_ok-words.field-0.answers = subst (λ (q : Function). IsMade q.parameters c.args.bounds.answers c.inputs.new.circuit c.in_ok-words.field-0.words c.in_ok-words.field-0.answers) same made_own in
    let arrays = subst (λ (q : Function). q.arrays ≡ []) (same_Some some.0 f (sym some.1 ∙ is)) some.2 in
    is_unwound c.args.graph.now c.args.predicates.now f c.args.entry c.args.bounds c.args.ends c.args.reached.now.pairs c.args.reached.now.steps c.in_ok-words.field-0.words c.in_ok-words.field-0.answers c.inputs.new.circuit c.all_taken.new.circuit c.in_ok-entries.entries.items _ c.well_formed-2.ensures c.inputs_stay.ensures arrays c.requires.frames c.requires.answers (c.requires.reached f is) c.requires.few (c.requires.small f is) made_f (c.in_ok-entries.ensures f is) (λ i. record { entry = c.args.entry; bounds = c.args.bounds; ends = c.args.ends; pairs = c.len-2.ensures i; circuit = c.all_taken.new.circuit; words = c.in_ok-words.field-0.words; answers = c.in_ok-words.field-0.answers; entries = c.from_vec.ensures i })
