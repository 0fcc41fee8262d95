use Rattle.std.proofs.Common.{sym, subst, ◌∙◌}
use Rattle.std.specs.Prelude.{slice_get}
use Rattle.std.proofs.lemmas.Option.{same_Some}
use Rattle.cfa.specs.declared.parts.Function.{Function}
use Rattle.cfa.specs.States.{IsState}
use Rattle.cfa.proofs.Exits.{taken}
use Rattle.c_meaning.specs.Starts.{CanStart}
use Rattle.c_meaning.proofs.Begun.{start_kinds, start_state}
use Rattle.c_meaning.proofs.starting.start.Goals as goal

pub first_state-requires-clause-kinds : goal.first_state-requires-clause-kinds
first_state-requires-clause-kinds c =
    let words = c.args.input.now.words in
    let f = taken (λ (q : Function). CanStart q words) (slice_get c.args.graph.now.functions c.args.entry) c.requires in
    let same = same_Some f.0 c.function_of-function.result.now (sym f.1 ∙ c.function_of-function.ensures) in
    start_kinds c.args.graph.now c.args.entry c.function_of-function.result.now words c.well_formed-2.ensures c.function_of-function.ensures (subst (λ (q : Function). CanStart q words) same f.2)

pub returns-clause-kept : goal.returns-clause-kept
returns-clause-kept c =
    let words = c.args.input.now.words in
    let f = taken (λ (q : Function). CanStart q words) (slice_get c.args.graph.now.functions c.args.entry) c.requires in
    let same = same_Some f.0 c.function_of-function.result.now (sym f.1 ∙ c.function_of-function.ensures) in
    let begun = start_state c.args.graph.now c.args.entry c.function_of-function.result.now words c.well_formed-2.ensures c.function_of-function.ensures (subst (λ (q : Function). CanStart q words) same f.2) in
    subst (IsState c.args.graph.now) (sym (rw c.deref.ensures at c.in_ok-state.ensures)) begun
