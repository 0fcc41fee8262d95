-- Why a run goes no further.
use Rattle.std.specs.Prelude.{◌≡◌, Option, Some, None}
use Rattle.tree_meaning.specs.declared.ends.TreeEnd.{TreeEnd}
use Rattle.tree_meaning.specs.declared.ends.TreeEnd.TheVariants as ends
use Rattle.tree_meaning.specs.declared.stop.Stop.{Stop}
use Rattle.tree_meaning.specs.declared.stop.Stop.TheVariants as stop
use Rattle.tree_meaning.specs.Outcomes.{TrapEnd, BlockedEnd, TooDeepEnd, Done, Ends, OutOfTurns}

-- it is told of what is done, but for want of memory
abbrev pub IsStop : {A : Type 0} → Stop → Done A → Type 0
IsStop stop.Memory d = Unit {0}
IsStop (stop.Trapped trap) d = d ≡ Ends (TrapEnd trap)
IsStop stop.Blocked d = d ≡ Ends BlockedEnd
IsStop stop.TooDeep d = d ≡ Ends TooDeepEnd
IsStop stop.OutOfTurns d = d ≡ OutOfTurns

-- how a run that goes no further ends, but for want of memory
abbrev pub stop_end : Stop → Option TreeEnd
stop_end stop.Memory = None
stop_end (stop.Trapped trap) = Some (ends.Trapped trap)
stop_end stop.Blocked = Some ends.Blocked
stop_end stop.TooDeep = Some ends.TooDeep
stop_end stop.OutOfTurns = Some ends.OutOfTurns
