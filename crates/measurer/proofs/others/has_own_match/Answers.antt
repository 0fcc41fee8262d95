use Rattle.std.proofs.Common.{◌≡◌, ◌↔◌, true, subst}
use Rattle.patterns.specs.Segments.{HasSegment}
use Rattle.measurer.proofs.Matchers.{automaton_tells, gaps_tell}
use Rattle.measurer.proofs.others.has_own_match.Goals as goal

pub returns-in-Gaps : goal.returns-in-Gaps
returns-in-Gaps c =
    gaps_tell c.args.row.now.sets c.args.first c.args.last c.args.path.now c.args.own.now c.in-Gaps.word c.has_match.result c.in-Gaps.is
    (λ pattern of. subst (λ p. (c.has_match.result ≡ true) ↔ HasSegment c.args.first c.args.last pattern p) c.requires.row (c.has_match.ensures pattern of))

pub returns-in-Automaton : goal.returns-in-Automaton
returns-in-Automaton c =
    automaton_tells c.automaton_accepts.result c.args.row.now.sets c.args.first c.args.last c.args.path.now c.args.own.now c.in-Automaton.opening c.in-Automaton.automaton c.in-Automaton.is c.automaton_accepts.ensures
