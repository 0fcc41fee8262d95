use Rattle.std.proofs.Common.{◌≡◌, ◌+◌, ◌-◌, ℕ, Bool, List, Some, length, count_by}
use Rattle.patterns.specs.Letters.{form}
use Rattle.patterns.specs.Match.{Match, Turns}
use Rattle.patterns.specs.Paths.{step_of}
use Rattle.patterns.specs.Places.{EndsOf, Rounds}
use Rattle.patterns.proofs.Rounds.{Growing}
use Rattle.patterns.proofs.reading.+ends.Given as goal

abbrev pub invariant-any_turns-loop-ends : goal.invariant-any_turns-loop-ends
invariant-any_turns-loop-ends l = record {
  size : length l.ends.items ≡ length l.fn.row.items;
  counted : l.count ≡ count_by (λ place. place) l.ends.items;
  grows : (starts : List Bool) (least : ℕ) → EndsOf (Turns (Match (step_of l.path) (form l.body)) least) starts l.fn.row.items
      → Growing (Match (step_of l.path) (form l.body)) least starts l.fn.row.items l.ends.items;
}

abbrev pub decreases-any_turns-loop-ends : goal.decreases-any_turns-loop-ends
decreases-any_turns-loop-ends l = length l.ends.items - l.count

abbrev pub invariant-some_turns-loop : goal.invariant-some_turns-loop
invariant-some_turns-loop l = record {
  size : length l.ends.items ≡ length l.fn.row.items;
  rounds : (starts : List Bool) (least : ℕ) → EndsOf (Turns (Match (step_of l.path) (form l.body)) least) starts l.fn.row.items
      → EndsOf (Rounds (Match (step_of l.path) (form l.body)) least (Some (least + l.counter))) starts l.ends.items;
}

abbrev pub invariant-turns-loop : goal.invariant-turns-loop
invariant-turns-loop l = EndsOf (Turns (Match (step_of l.path) (form l.body)) l.counter) l.starts l.ends.items
