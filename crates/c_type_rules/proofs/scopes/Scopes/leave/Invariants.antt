use Rattle.std.proofs.Common.{◌≡◌, length, take, ◌-◌}
use Rattle.c_type_rules.proofs.scopes.Scopes.leave.Given as goal

abbrev pub invariant-names : goal.invariant-names
invariant-names l = take l.mark l.self ≡ take l.mark l.initial.self

abbrev pub decreases-names : goal.decreases-names
decreases-names l = length l.self - l.mark
