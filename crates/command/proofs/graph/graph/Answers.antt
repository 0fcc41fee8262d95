use Rattle.std.proofs.Common.{ap}
use Rattle.std.proofs.lemmas.Result.{err_from_is_err_and}
use Rattle.command_words.specs.Request.{texts_at}
use Rattle.command.specs.Due.{IsDueOfGraph}
use Rattle.command.specs.Said.{answered}
use Rattle.command.specs.Stages.{OfSources}
use Rattle.command.proofs.CallLaws.{not_given}
use Rattle.command.proofs.DueLaws.{at_graph}
use Rattle.command.proofs.GivesLaws.{tells_refused}
use Rattle.command.proofs.graph.graph.Goals as goal

pub returns-in_err-automaton : goal.returns-in_err-automaton
returns-in_err-automaton g c =
    let p = err_from_is_err_and c.from_residual.result c.from_residual.ensures.1 in
    rw (p.1, p.2) (tells_refused (OfSources _ (texts_at c.args.sources.now) IsDueOfGraph) (texts_at c.args.sources.now) c.in_err-automaton.field-0.0
    (not_given _ (texts_at c.args.sources.now) IsDueOfGraph c.in_err-automaton.field-0.0 c.in_err-automaton.ensures.answer))

pub returns : goal.returns
returns g c =
    at_graph _ (texts_at c.args.sources.now) IsDueOfGraph c.in_ok-automaton.automaton.graph _ c.in_ok-automaton.ensures.answer (ap answered c.in_ok-text.ensures)
