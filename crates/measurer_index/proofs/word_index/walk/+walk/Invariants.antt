use Rattle.std.proofs.Common.{◌+◌, ◌-◌, ◌*◌, ◌^◌, ◌≤◌, length}
use Rattle.measurer_index.specs.word_index.Groups.{Continues, IsAbsentBelow, IsGroup, IsPredicateBelow}
use Rattle.measurer_index.specs.word_index.Numbers.{Adds}
use Rattle.measurer_index.proofs.word_index.Steps.{Same}
use Rattle.measurer_index.proofs.word_index.walk.+walk.Given as goal

abbrev pub decreases-add_with : goal.decreases-add_with
decreases-add_with l = 8 * (2 ^ 64 - l.group.depth)

abbrev pub decreases-add_with_predicate : goal.decreases-add_with_predicate
decreases-add_with_predicate l = 8 * (2 ^ 64 - l.group.depth) + 1

abbrev pub decreases-add_with_predicates : goal.decreases-add_with_predicates
decreases-add_with_predicates l = 8 * (2 ^ 64 - l.group.depth) + 2

abbrev pub decreases-add_with_absent : goal.decreases-add_with_absent
decreases-add_with_absent l = 8 * (2 ^ 64 - l.group.depth) + 1

abbrev pub decreases-add_with_absents : goal.decreases-add_with_absents
decreases-add_with_absents l = 8 * (2 ^ 64 - l.group.depth) + 2

abbrev pub invariant-add_with_absents-loop-number : goal.invariant-add_with_absents-loop-number
invariant-add_with_absents-loop-number l = Adds (Continues l.goals l.order l.path l.last (IsAbsentBelow l.number) l.group l.at) l.initial.numbers l.numbers

abbrev pub decreases-add_staying : goal.decreases-add_staying
decreases-add_staying l = 8 * (2 ^ 64 - l.group.depth) + 3

abbrev pub decreases-add_walks : goal.decreases-add_walks
decreases-add_walks l = 8 * (2 ^ 64 - l.group.depth) + 4

abbrev pub invariant-add_with_predicates-loop-number : goal.invariant-add_with_predicates-loop-number
invariant-add_with_predicates-loop-number l = Adds (Continues l.goals l.order l.path l.last (IsPredicateBelow l.number) l.group l.at) l.initial.numbers l.numbers

abbrev pub invariant-add_walks-loop-group : goal.invariant-add_walks-loop-group
invariant-add_walks-loop-group l = record {
  is_group : IsGroup l.goals l.order l.group;
  within : l.at ≤ length l.path.edges;
  deeper : l.fn.group.depth ≤ l.group.depth;
  same : Same l.goals l.order l.path l.last l.fn.group l.fn.at l.initial.numbers l.group l.at l.numbers;
}

abbrev pub decreases-add_walks-loop-group : goal.decreases-add_walks-loop-group
decreases-add_walks-loop-group l = length l.path.edges + 1 - l.at
