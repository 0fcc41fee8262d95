-- What a report and a line of bounds say of all ends.
use Rattle.std.proofs.Common.{◌≡◌, ℕ, List, Some, subst, sym}
use Rattle.std.specs.Prelude.{slice_get}
use Rattle.c_front.specs.Laws as front
use Rattle.c_lex.specs.declared.token.SourceText.{SourceText}
use Rattle.c_meaning.specs.declared.ends.Ends.{Ends}
use Rattle.c_meaning.specs.declared.ends.Ends.TheVariants as counted
use Rattle.cfa.specs.Graph.{IsGraph}
use Rattle.cfa.specs.declared.parts.GraphParts.{GraphParts}
use Rattle.bounds_check_laws.specs.asked_ends.Laws.{AllEndsAreAsked, asking_for_ends}
use Rattle.bounds_check_laws.specs.ending_laws.Asking.{AsksForEachEnd}
use Rattle.fql_read.specs.Asks.{Asks}
use Rattle.goals.specs.declared.answer.Answer.{Answer}
use Rattle.goals.specs.declared.answer.Answer.TheVariants.{Refuted}
use Rattle.command_laws.specs.made_laws.Laws.{EachReturns, NoneTraps, OthersAreRefuted, RefutesEnds}
use Rattle.bounds_check_laws.specs.plain_returns.Laws.{AutomataReturnPlainly}
use Rattle.command_laws.specs.report_laws.Laws.{AnswersAreRead}
use Rattle.suite_reduction.specs.Suite.{kept_of}
use Rattle.command_words.specs.Request.{Generating}
use Rattle.command.specs.Ranges.{within}
use Rattle.command.specs.Reads.{Reads}
use Rattle.command.specs.Said.{Said}
use Rattle.command_laws.proofs.printed_laws.Graphs.{entry_there, sources_are_graph}
use Rattle.command_laws.specs.refuted_laws.Reports.{RefutesOtherEnds, ReportsLetReturn, ReportsRefuteTraps}
use Rattle.command_laws.proofs.refuted_laws.Files.{none_leaves}

module _ (law : (texts : List SourceText) → front.HasOneOutcome texts) (plainly : AutomataReturnPlainly) (ask : AllEndsAreAsked) (read : AnswersAreRead) (before after : Reads) (m : Generating) (said other : Said) (h : RefutesOtherEnds before after m said other) where
  abbrev graph : GraphParts
  graph = h.report.of.graph

  own : slice_get graph.functions h.report.of.entry.number ≡ Some h.report.of.entry.function
  own = entry_there graph m.entry h.report.of.entry h.report.of.entry_is

  meets_rules : IsGraph graph
  meets_rules = sources_are_graph before.holds m.sources graph h.report.of.automaton

  -- the plan asks for each end
  asks : AsksForEachEnd graph h.report.of.entry.function h.report.plan
  asks =
      let planned = h.report.planned in
      let bytes : Asks asking_for_ends planned.query = subst (λ (text : List ℕ). Asks text planned.query) h.query planned.asked in
      subst (AsksForEachEnd graph h.report.of.entry.function) (sym planned.is) (ask graph h.report.of.entry.number h.report.of.entry.function planned.query meets_rules own bytes)

  -- the answers in the lines are those of the generation
  same_answers : h.report.made.answers ≡ h.answers
  same_answers =
      read graph h.report.of.entry.number h.report.of.entry.function h.report.predicates h.report.plan (within m.bounds) m.ends m.budget h.report.made h.report.shown (kept_of h.report.made.hits) said.out
      h.answers own h.report.generated h.report.written h.short h.lines

  others : OthersAreRefuted h.report.of.entry.function h.report.plan h.report.made
  others place goal there apart = subst (λ (answers : List Answer). slice_get answers place ≡ Some Refuted) (sym same_answers) (h.others place goal there apart)

  refutes : RefutesEnds graph h.report.of.entry.function h.report.predicates h.report.plan (within m.bounds) m.ends
  refutes = record {
    plainly = plainly h.report.of.automaton.texts graph h.report.of.entry.function h.report.of.automaton.automaton;
    asks = asks;
    stay = none_leaves before after law m.sources h.same m.entry (within m.bounds) h.report.of h.suffices.of h.suffices.none;
    budget = m.budget;
    made = h.report.made;
    shown = h.report.shown;
    generated = h.report.generated;
    others = others;
  }

  refutes_with : (ends : Ends) → m.ends ≡ ends → RefutesEnds graph h.report.of.entry.function h.report.predicates h.report.plan (within m.bounds) ends
  refutes_with ends is = subst (λ (e : Ends). RefutesEnds graph h.report.of.entry.function h.report.predicates h.report.plan (within m.bounds) e) is refutes

pub reports_refute_traps : ((texts : List SourceText) → front.HasOneOutcome texts) → AutomataReturnPlainly → AllEndsAreAsked → AnswersAreRead → NoneTraps → ReportsRefuteTraps
reports_refute_traps law plainly ask read none before after m said other h is input given trap =
    let of = h.report.of in
    none of.graph of.entry.number of.entry.function h.report.predicates h.report.plan (within m.bounds) (meets_rules law plainly ask read before after m said other h)
    (own law plainly ask read before after m said other h) (refutes_with law plainly ask read before after m said other h counted.Trapped is) input given trap

pub reports_let_return : ((texts : List SourceText) → front.HasOneOutcome texts) → AutomataReturnPlainly → AllEndsAreAsked → AnswersAreRead → EachReturns → ReportsLetReturn
reports_let_return law plainly ask read each before after m said other h is input given =
    let of = h.report.of in
    each of.graph of.entry.number of.entry.function h.report.predicates h.report.plan (within m.bounds) (meets_rules law plainly ask read before after m said other h)
    (own law plainly ask read before after m said other h) (refutes_with law plainly ask read before after m said other h counted.Any is) input given
