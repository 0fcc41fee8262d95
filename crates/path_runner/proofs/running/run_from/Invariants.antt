use Rattle.std.proofs.Common.{◌≡◌, ◌+◌, ◌^◌, ◌<◌}
use Rattle.cfa.specs.States.{IsState}
use Rattle.path_runner.specs.Paths.{path_of}
use Rattle.path_runner.proofs.Walk.{behind}
use Rattle.path_runner.proofs.running.run_from.Given as goal

-- the path so far, with the rest of it from this state on
abbrev pub invariant-loop-state : goal.invariant-loop-state
invariant-loop-state l = record {
  follows : path_of l.graph l.input l.predicates l.limit l.fn.first ≡ behind l.path (path_of l.graph l.input l.predicates l.left l.state);
  state : IsState l.graph l.state;
  few : l.state.taken + (l.left + 1) < 2 ^ 64;
}

abbrev pub decreases-loop-state : goal.decreases-loop-state
decreases-loop-state l = l.left
