use Rattle.std.proofs.Common.{ℕ, ◌+◌, ◌*◌, [], drop, Option, Some, None}
use denote.Param.Weighed.{most}
use Rattle.c_parse.specs.declared.statement.Statement.{Statement, size-Statement}
use Rattle.c_parse.specs.declared.statement.Group.{size-Group}
use Rattle.c_type_rules.specs.Rule.{alone_in}
use Rattle.c_type_rules.proofs.RuleLaws.{Left}
use Rattle.c_types.specs.Statements.{statement_rule, arm_rule, arm_of, group_rule, group}
use Rattle.c_types.proofs.statements.+statements.Given as goal

abbrev option_size : Option Statement → ℕ
option_size None = 0
option_size (Some s) = size-Statement s

abbrev pub decreases-statement : goal.decreases-statement
decreases-statement l = 8 * size-Statement l.tree.now

abbrev pub decreases-single : goal.decreases-single
decreases-single l = 8 * size-Statement l.tree.now + 1

abbrev pub decreases-alone : goal.decreases-alone
decreases-alone l = 8 * size-Statement l.tree.now + 2

abbrev pub decreases-arm : goal.decreases-arm
decreases-arm l = 8 * size-Statement l.arm.now.1 + 3

abbrev pub decreases-arms : goal.decreases-arms
decreases-arms l = 8 * most (λ a. size-Statement a.1) l.trees.now + 4

abbrev pub decreases-in_turn : goal.decreases-in_turn
decreases-in_turn l = 8 * most size-Statement l.trees.now + 4

abbrev pub decreases-one_group : goal.decreases-one_group
decreases-one_group l = 8 * size-Group l.tree.now + 1

abbrev pub decreases-groups : goal.decreases-groups
decreases-groups l = 8 * most size-Group l.trees.now + 4

abbrev pub decreases-switch : goal.decreases-switch
decreases-switch l = 8 * most size-Group l.trees.now + 5

abbrev pub decreases-beginning : goal.decreases-beginning
decreases-beginning l = 8 * option_size l.first.now + 4

abbrev pub decreases-ending : goal.decreases-ending
decreases-ending l = 8 * option_size l.next.now + 4

abbrev pub invariant-arms-loop-tree : goal.invariant-arms-loop-tree
invariant-arms-loop-tree l = Left (λ a. alone_in (arm_rule l.around (arm_of a))) [] l.trees l.initial.typer (drop l.tree-index l.trees) l.list l.typer

abbrev pub invariant-in_turn-loop-tree : goal.invariant-in_turn-loop-tree
invariant-in_turn-loop-tree l = Left (statement_rule l.around) [] l.trees l.initial.typer (drop l.tree-index l.trees) l.list l.typer

abbrev pub invariant-groups-loop-tree : goal.invariant-groups-loop-tree
invariant-groups-loop-tree l = Left (λ g. alone_in (group_rule l.around l.kind (group g))) [] l.trees l.initial.typer (drop l.tree-index l.trees) l.list l.typer
