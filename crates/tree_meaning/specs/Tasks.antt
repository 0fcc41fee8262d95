-- What is still to be done, in small steps: each takes what a machine holds, and leaves there what comes next.
use Rattle.std.specs.Prelude.{◌≡◌, ℕ, ◌+◌, Bool, List, [], ◌∷◌, ◌++◌, map, Option, slice_get, slice_index}
use Rattle.std.specs.Option.{option_map}
use Rattle.c_typed_trees.specs.declared.expression.TypedCall.{TypedCall, out-TypedCall}
use Rattle.c_typed_trees.specs.declared.expression.TypedExpr.{TypedExpr}
use Rattle.c_typed_trees.specs.declared.statement.TypedGroup.{TypedGroup}
use Rattle.c_typed_trees.specs.declared.statement.TypedStatement.{TypedStatement}
use Rattle.cfa.specs.declared.state.Trap.TheVariants as trap
use Rattle.tree_meaning.specs.declared.activation.Activation.{Activation}
use Rattle.tree_meaning.specs.declared.machine.Machine.{Machine}
use Rattle.tree_meaning.specs.declared.stop.Stop.{Stop}
use Rattle.tree_meaning.specs.declared.task.Task.{Task}
use Rattle.tree_meaning.specs.declared.task.Task.TheVariants as tasks
use Rattle.tree_meaning.specs.declared.task.ValueTask.{ValueTask}
use Rattle.tree_meaning.specs.declared.task.ValueTask.TheVariants as value
use Rattle.tree_meaning.specs.declared.task.StatementTask.{StatementTask}
use Rattle.tree_meaning.specs.declared.task.StatementTask.TheVariants as statement
use Rattle.tree_meaning.specs.declared.task.Assignment.{Assignment}
use Rattle.tree_meaning.specs.declared.task.AssignStage.{AssignStage}
use Rattle.tree_meaning.specs.declared.task.AssignStage.TheVariants as assigning
use Rattle.tree_meaning.specs.declared.task.ArmStage.{ArmStage}
use Rattle.tree_meaning.specs.declared.task.ArmStage.TheVariants as arm
use Rattle.tree_meaning.specs.declared.task.GroupStage.{GroupStage}
use Rattle.tree_meaning.specs.declared.task.GroupStage.TheVariants as group
use Rattle.tree_meaning.specs.declared.task.LoopStage.{LoopStage}
use Rattle.tree_meaning.specs.declared.task.LoopStage.TheVariants as lap
use Rattle.tree_meaning.specs.declared.task.DoStage.{DoStage}
use Rattle.tree_meaning.specs.declared.task.DoStage.TheVariants as round
use Rattle.tree_meaning.specs.declared.task.Loop.{Loop}
use Rattle.tree_meaning.specs.declared.task.LoopStep.{LoopStep}
use Rattle.tree_meaning.specs.declared.task.LoopStep.TheVariants as step
use Rattle.tree_meaning.specs.declared.task.LoopTest.{LoopTest}
use Rattle.tree_meaning.specs.declared.task.LoopTest.TheVariants as test
use Rattle.tree_meaning.specs.declared.task.DoLoop.{DoLoop}
use Rattle.tree_meaning.specs.declared.way.Way.{Way}
use Rattle.tree_meaning.specs.declared.way.Way.TheVariants.{GoesOn, Returns}
use Rattle.c_meaning.specs.declared.input.Input.{Input}
use Rattle.c_typed_trees.specs.declared.unit.Typed.{Typed}
use Rattle.c_typed_trees.specs.declared.unit.TypedFunction.{TypedFunction}
use Rattle.tree_meaning.specs.Ends.{first_activation, first_store}
use Rattle.tree_meaning.specs.Outcomes.{Store, TrapEnd, BlockedEnd, Done, Gives, ◌andthen◌, unless_trap, Evaluation, Meaning, is_true}
use Rattle.tree_meaning.specs.Activations.{stored, without_activation}
use Rattle.tree_meaning.specs.Calls.{first_parts}
use Rattle.tree_meaning.specs.Expressions.{truth, if_true, if_false, chosen}
use Rattle.tree_meaning.specs.Loops.{passes, do_passes, pass, after_body, again_if}
use Rattle.tree_meaning.specs.Running.{Scene, meant_in, placed_in, call_in, value_in, does_in, group_in, part_in, arm_in, run_in, begun, assigned, FitExpression, FitExpressions, FitPlace, FitCall, FitStatement, FitStatements, FitAssign, FitArms, FitLast, FitGroups}
use Rattle.tree_meaning.specs.Statements.{then_next, block, one_of, arms, fill, unless_false}
use Rattle.tree_meaning.specs.Switch.{Group, groups_at, after_switch}
use Rattle.tree_meaning.specs.Stopping.{IsStop}

-- what a machine holds where a function begins on an input
abbrev pub first_machine : Typed → TypedFunction → Input → ℕ → Machine
first_machine t f input turns = record { scene = record { unit = t; activation = first_activation t f }; values = []; value = 0; way = GoesOn; store = first_store t f input turns }

-- what comes behind a task
abbrev pub Cont : Type 0
Cont = Machine → Done Way

-- a machine behind an evaluation, behind what an expression does first, and behind a statement
abbrev pub with_value : Machine → ℕ → Store → Machine
with_value m v s = record { scene = m.scene; values = m.values; value = v; way = m.way; store = s }

abbrev pub with_values : Machine → List ℕ → Store → Machine
with_values m vs s = record { scene = m.scene; values = vs; value = 0; way = m.way; store = s }

abbrev pub with_way : Machine → Way → Store → Machine
with_way m way s = record { scene = m.scene; values = m.values; value = 0; way = way; store = s }

-- the value, and the values of the expression around it
abbrev pub with_outer : Machine → List ℕ → ℕ → Store → Machine
with_outer m vs v s = record { scene = m.scene; values = vs; value = v; way = m.way; store = s }

abbrev pub with_way_and_outer : Machine → List ℕ → Way → Store → Machine
with_way_and_outer m vs way s = record { scene = m.scene; values = vs; value = 0; way = way; store = s }

-- without values
abbrev pub without_values : Machine → Machine
without_values m = record { scene = m.scene; values = []; value = m.value; way = m.way; store = m.store }

-- the scene of an activation in the same unit
abbrev pub inner : Scene → Activation → Scene
inner c a = record { unit = c.unit; activation = a }

abbrev pub in_activation : Machine → Activation → Machine
in_activation m a = record { scene = inner m.scene a; values = m.values; value = m.value; way = m.way; store = m.store }

-- what running a function does, by its number
abbrev pub runs : Scene → ℕ → Activation → List ℕ → Evaluation
runs c callee a words = run_in (inner c a) (slice_get c.unit.functions callee) words

-- the first arm is done, or the others
abbrev pub arm_chosen : Scene → List (TypedExpr × TypedStatement) → Option TypedStatement → Bool → Meaning
arm_chosen c [] last b s = Gives GoesOn s
arm_chosen c (arm ∷ rest) last b s = one_of (does_in c arm.1) (arms (map (arm_in c) rest) (option_map (does_in c) last)) b s

-- ---- expressions

-- a call of a function behind the first parts of its words
abbrev pub call_begun : Scene → TypedCall → ℕ → List ℕ → Evaluation
call_begun c q callee vs = begun c (map (meant_in c) (out-TypedCall q).words) (out-TypedCall q).arrays vs (runs c callee)

unfoldable pub value_does : ValueTask → Cont → Cont
value_does (value.Evaluate x) k m = value_in m.scene x.now m.store andthen λ v s. k (with_value m v s)
value_does (value.First x) k m = (meant_in m.scene x.now).first m.values m.store andthen λ vs s. k (with_values m vs s)
value_does (value.FirstInPlace p) k m = (placed_in m.scene p.now).first m.values m.store andthen λ vs s. k (with_values m vs s)
value_does (value.Rest x outer) k m = unless_trap ((meant_in m.scene x.now).rest m.values m.store.cells) (λ v. k (with_outer m outer v m.store))
value_does value.Keep k m = k (with_values m (m.values ++ m.value ∷ []) m.store)
value_does (value.Part x) k m = part_in m.scene x.now m.store andthen λ v s. k (with_value m v s)
value_does (value.AndThen y) k m = if_true (value_in m.scene y.now) (is_true m.value) m.store andthen λ v s. k (with_value m v s)
value_does (value.OrElse y) k m = if_false (value_in m.scene y.now) (is_true m.value) m.store andthen λ v s. k (with_value m v s)
value_does (value.Choose y z) k m = chosen (value_in m.scene y.now) (value_in m.scene z.now) (is_true m.value) m.store andthen λ v s. k (with_value m v s)
value_does value.Truth k m = k (with_value m (truth (is_true m.value)) m.store)
value_does (value.Call q) k m = call_in m.scene q.now m.store andthen λ v s. k (with_value m v s)
value_does (value.Firsts xs) k m = first_parts (map (meant_in m.scene) xs.now) m.values m.store andthen λ vs s. k (with_values m vs s)
value_does (value.Begin q callee outer) k m = call_begun m.scene q.now callee m.values m.store andthen λ v s. k (with_outer m outer v s)
value_does (value.Leave c outer way) k m = k (record { scene = c; values = outer; value = slice_index m.store.cells m.scene.activation.base; way = way; store = without_activation m.scene.activation.base m.store })

-- ---- statements

module _ (k : Cont) (m : Machine) where
  -- what comes behind a statement
  abbrev pub left_off : Done Way → Done Way
  left_off d = d andthen λ way s. k (with_way m way s)

  -- an assignment behind the first part of its place, and behind that of its value too
  abbrev pub assign_does : Assignment → AssignStage → List ℕ → Done Way
  assign_does x assigning.Value outer =
      (meant_in m.scene x.value.now).first [] m.store andthen λ vs s.
      assigned (placed_in m.scene x.place.now) x.operator (meant_in m.scene x.value.now) m.values vs s andthen λ way s'. k (with_way_and_outer m outer way s')
  assign_does x (assigning.Put index) outer =
      assigned (placed_in m.scene x.place.now) x.operator (meant_in m.scene x.value.now) index m.values m.store andthen λ way s. k (with_way_and_outer m outer way s)

  abbrev pub arms_do : List (TypedExpr × TypedStatement) → Option TypedStatement → ArmStage → Done Way
  arms_do list last arm.Test = arms (map (arm_in m.scene) list) (option_map (does_in m.scene) last) m.store
  arms_do list last arm.Choose = arm_chosen m.scene list last (is_true m.value) m.store

  abbrev pub groups_do : List TypedGroup → GroupStage → Done Way
  groups_do groups group.Find = block (map (λ (g : Group). g.does) (groups_at m.value (map (group_in m.scene) groups))) m.store andthen after_switch
  groups_do groups group.Run = then_next (block (map (λ (g : Group). g.does) (map (group_in m.scene) groups))) m.way m.store

unfoldable pub statement_does : StatementTask → Cont → Cont
statement_does (statement.Do s) k m = left_off k m (does_in m.scene s.now m.store)
statement_does (statement.Block list) k m = left_off k m (then_next (block (map (does_in m.scene) list.now)) m.way m.store)
statement_does (statement.Put cell) k m = k (with_way m GoesOn (stored m.store cell m.value))
statement_does (statement.Fill cell list) k m = left_off k m (fill cell (map (meant_in m.scene) list.now) m.store)
statement_does (statement.Assign x stage outer) k m = assign_does k m x stage outer
statement_does statement.GoOn k m = k (with_way m GoesOn m.store)
statement_does (statement.Arms list last stage) k m = left_off k m (arms_do k m list.now last.now stage)
statement_does statement.ReturnValue k m = k (with_way m Returns (stored m.store m.scene.activation.base m.value))
statement_does statement.Assert k m = left_off k m (unless_false (TrapEnd trap.Assert) (is_true m.value) m.store)
statement_does statement.Assume k m = left_off k m (unless_false BlockedEnd (is_true m.value) m.store)
statement_does (statement.Groups groups stage) k m = left_off k m (groups_do k m groups.now stage)
statement_does statement.AfterSwitch k m = left_off k m (after_switch m.way m.store)

-- ---- loops

abbrev pub test_does : Scene → LoopTest → Evaluation
test_does c test.Always s = Gives 1 s
test_does c (test.When x) s = value_in c x.now s

abbrev pub step_does : Scene → LoopStep → Meaning
step_does c step.Nothing s = Gives GoesOn s
step_does c (step.Do x) s = does_in c x.now s

-- so many passes
abbrev pub loop_passes : Scene → Loop → ℕ → Meaning
loop_passes c l n = passes n (test_does c l.test) (does_in c l.body.now) (step_does c l.step)

-- what comes behind the body
abbrev pub loop_behind : Scene → Loop → ℕ → Meaning
loop_behind c l n s = step_does c l.step s andthen then_next (loop_passes c l n)

abbrev pub loop_does : Machine → Loop → LoopStage → Done Way
loop_does m l lap.Begin = then_next (λ s. loop_passes m.scene l (s.turns + 1) s) m.way m.store
loop_does m l (lap.Pass n) = loop_passes m.scene l (n + 1) m.store
loop_does m l (lap.Tested n) = pass (does_in m.scene l.body.now) (loop_behind m.scene l n) (is_true m.value) m.store
loop_does m l (lap.Stepped n) = after_body (loop_behind m.scene l n) m.way m.store
loop_does m l (lap.Again n) = then_next (loop_passes m.scene l n) m.way m.store

abbrev pub do_again : Scene → DoLoop → ℕ → Meaning
do_again c l n = do_passes n (does_in c l.body.now) (value_in c l.test.now)

abbrev pub do_behind : Scene → DoLoop → ℕ → Meaning
do_behind c l n s = value_in c l.test.now s andthen λ v s'. again_if (do_again c l n) (is_true v) s'

abbrev pub do_does : Machine → DoLoop → DoStage → Done Way
do_does m l (round.Pass n) = do_again m.scene l (n + 1) m.store
do_does m l (round.Test n) = after_body (do_behind m.scene l n) m.way m.store
do_does m l (round.Tested n) = again_if (do_again m.scene l n) (is_true m.value) m.store

-- ---- rows of tasks

unfoldable pub loop_task_does : Loop → LoopStage → Cont → Cont
loop_task_does l stage k m = left_off k m (loop_does m l stage)

unfoldable pub do_task_does : DoLoop → DoStage → Cont → Cont
do_task_does l stage k m = left_off k m (do_does m l stage)

abbrev pub task_does : Task → Cont → Cont
task_does (tasks.Value t) = value_does t
task_does (tasks.Statement t) = statement_does t
task_does (tasks.Loop l stage) = loop_task_does l stage
task_does (tasks.DoLoop l stage) = do_task_does l stage

-- the tasks of a row from its end to its beginning, and then something else
unfoldable pub row_does : List Task → Cont → Cont
row_does [] k = k
row_does (t ∷ ts) k = row_does ts (task_does t k)

-- what a row of tasks does at the end of a run
unfoldable pub behind : List Task → Cont
behind ts = row_does ts (λ m. Gives m.way m.store)

-- A task is done: the tasks behind it do the same from what the machine holds now as they and it would have done before.
pub record Leads (t : Task) (old : List Task) (m : Machine) (new : List Task) (m' : Machine) : Type 0 where
  pub same : task_does t (behind old) m ≡ behind new m'

-- a task ends the run
pub record Stops (t : Task) (old : List Task) (m : Machine) (stop : Stop) : Type 0 where
  pub is : IsStop stop (task_does t (behind old) m)

-- ---- tasks whose trees fit

abbrev pub test_fits : LoopTest → Type 0
test_fits test.Always = Unit {0}
test_fits (test.When x) = FitExpression x.now

abbrev pub step_fits : LoopStep → Type 0
step_fits step.Nothing = Unit {0}
step_fits (step.Do x) = FitStatement x.now

pub record FitLoop (l : Loop) : Type 0 where
  pub test : test_fits l.test
  pub step : step_fits l.step
  pub body : FitStatement l.body.now

pub record FitDoLoop (l : DoLoop) : Type 0 where
  pub body : FitStatement l.body.now
  pub test : FitExpression l.test.now

abbrev pub value_task_fits : ValueTask → Type 0
value_task_fits (value.Evaluate x) = FitExpression x.now
value_task_fits (value.First x) = FitExpression x.now
value_task_fits (value.FirstInPlace p) = FitPlace p.now
value_task_fits (value.Rest x outer) = FitExpression x.now
value_task_fits value.Keep = Unit {0}
value_task_fits (value.Part x) = FitExpression x.now
value_task_fits (value.AndThen y) = FitExpression y.now
value_task_fits (value.OrElse y) = FitExpression y.now
value_task_fits (value.Choose y z) = FitExpression y.now × FitExpression z.now
value_task_fits value.Truth = Unit {0}
value_task_fits (value.Call q) = FitCall q.now
value_task_fits (value.Firsts xs) = FitExpressions xs.now
value_task_fits (value.Begin q callee outer) = FitExpressions (out-TypedCall q.now).words
value_task_fits (value.Leave c outer way) = Unit {0}

abbrev pub statement_task_fits : StatementTask → Type 0
statement_task_fits (statement.Do s) = FitStatement s.now
statement_task_fits (statement.Block list) = FitStatements list.now
statement_task_fits (statement.Put cell) = Unit {0}
statement_task_fits (statement.Fill cell list) = FitExpressions list.now
statement_task_fits (statement.Assign x stage outer) = FitAssign x.place.now x.operator x.value.now
statement_task_fits statement.GoOn = Unit {0}
statement_task_fits (statement.Arms list last stage) = FitArms list.now × FitLast last.now
statement_task_fits statement.ReturnValue = Unit {0}
statement_task_fits statement.Assert = Unit {0}
statement_task_fits statement.Assume = Unit {0}
statement_task_fits (statement.Groups groups stage) = FitGroups groups.now
statement_task_fits statement.AfterSwitch = Unit {0}

abbrev pub task_fits : Task → Type 0
task_fits (tasks.Value t) = value_task_fits t
task_fits (tasks.Statement t) = statement_task_fits t
task_fits (tasks.Loop l stage) = FitLoop l
task_fits (tasks.DoLoop l stage) = FitDoLoop l

unfoldable pub row_fits : List Task → Type 0
row_fits [] = Unit {0}
row_fits (t ∷ ts) = task_fits t × row_fits ts
