use Rattle.std.proofs.Common.{◌≡◌, List, take, true}
use Rattle.search.specs.declared.trail.Entry.{Entry}
use Rattle.search.specs.Chains.{IsReach}
use Rattle.search.specs.Machine.{is_conflict, is_true}
use Rattle.search.specs.Trails.{AreLocated}
use Rattle.search.proofs.conflict.reach_of.Given as goal

abbrev pub invariant-loop-literal : goal.invariant-loop-literal
invariant-loop-literal l =
    (trail : List Entry) → AreLocated trail l.places → is_conflict (is_true trail) l.literals ≡ true → IsReach trail (take l.literal-index l.literals) l.reach
