-- The steps of loops.
use Rattle.std.proofs.Common.{◌≡◌, ℕ, suc, ◌+◌, ◌-◌, Bool, true, false, List, sym, ap, subst, ◌∙◌, add-one, arith}
use Rattle.std.specs.Borrow.{Bor}
use Rattle.c_typed_trees.specs.declared.expression.TypedExpr.{TypedExpr}
use Rattle.c_typed_trees.specs.declared.statement.TypedStatement.{TypedStatement}
use Rattle.tree_meaning.specs.declared.machine.Machine.{Machine}
use Rattle.tree_meaning.specs.declared.stop.Stop.{Stop}
use Rattle.tree_meaning.specs.declared.stop.Stop.TheVariants as stop
use Rattle.tree_meaning.specs.declared.task.Task.{Task}
use Rattle.tree_meaning.specs.declared.task.Task.TheVariants as task
use Rattle.tree_meaning.specs.declared.task.Loop.{Loop}
use Rattle.tree_meaning.specs.declared.task.LoopStage.TheVariants as lap
use Rattle.tree_meaning.specs.declared.task.LoopStep.{LoopStep}
use Rattle.tree_meaning.specs.declared.task.LoopStep.TheVariants as step
use Rattle.tree_meaning.specs.declared.task.LoopTest.{LoopTest}
use Rattle.tree_meaning.specs.declared.task.LoopTest.TheVariants as test
use Rattle.tree_meaning.specs.declared.task.DoLoop.{DoLoop}
use Rattle.tree_meaning.specs.declared.task.DoStage.TheVariants as round
use Rattle.tree_meaning.specs.declared.task.StatementTask.TheVariants as statement
use Rattle.tree_meaning.specs.declared.task.ValueTask.TheVariants as value
use Rattle.tree_meaning.specs.declared.way.Way.{Way}
use Rattle.tree_meaning.specs.declared.way.Way.TheVariants.{GoesOn, Breaks, Continues, Returns}
use Rattle.tree_meaning.specs.Outcomes.{Store, Done, ◌andthen◌, is_true, turn_of}
use Rattle.tree_meaning.specs.Loops.{after_body, pass, passes, again_if, do_passes}
use Rattle.tree_meaning.specs.Running.{value_in, does_in, is_on, FitExpression, FitStatement}
use Rattle.tree_meaning.specs.Statements.{then_next}
use Rattle.tree_meaning.specs.Stopping.{IsStop}
use Rattle.tree_meaning.specs.Tasks.{Cont, with_value, with_way, left_off, test_does, step_does, loop_passes, loop_behind, do_again, do_behind, loop_task_does, do_task_does, value_does, statement_does, behind, Leads, Stops, FitLoop, FitDoLoop, test_fits, step_fits}
use Rattle.tree_meaning.proofs.Rows.{memory_laws}
use Rattle.tree_meaning.proofs.Then.{then_then}
use Rattle.tree_meaning.proofs.Truths.{is_zero, is_other, on_goes, off_stays}

abbrev pub with_store : Machine → Store → Machine
with_store m s = record { scene = m.scene; values = m.values; value = m.value; way = m.way; store = s }

abbrev pub a_turn_less : Store → Store → Type 0
a_turn_less s s' = s' ≡ record { cells = s.cells; answers = s.answers; turns = s'.turns }

turn_taken : {A : Type 0} (s s' : Store) (next : Store → Done A) → s.turns ≡ suc s'.turns → a_turn_less s s' → turn_of s.turns s next ≡ next s'
turn_taken s s' next e h = ap (λ n. turn_of n s next) e ∙ ap next (sym h)

module _ (old new : List Task) (m : Machine) where
  abbrev k : Cont
  k = behind old

  module _ (l : Loop) where
    -- ---- the beginning

    pub begin_on : is_on m.way ≡ true → behind new ≡ loop_task_does l (lap.Pass m.store.turns) k → Leads (task.Loop l lap.Begin) old m new m
    unfolding loop_task_does
    begin_on e h = record { same = ap (left_off k m) (on_goes m.way (λ s. loop_passes m.scene l (s.turns + 1) s) m.store e) ∙ (λ i. sym h i m) }

    pub begin_off : (m1 : Machine) → is_on m.way ≡ false → m1 ≡ with_way m m.way m.store → Leads (task.Loop l lap.Begin) old m old m1
    unfolding loop_task_does
    begin_off m1 e h = record { same = ap (left_off k m) (off_stays m.way (λ s. loop_passes m.scene l (s.turns + 1) s) m.store e) ∙ ap k (sym h) }

    module _ (n : ℕ) where
      -- ---- a pass, and its condition

      tested : ℕ → Store → Done Way
      tested v s = pass (does_in m.scene l.body.now) (loop_behind m.scene l n) (is_true v) s

      pass_by : (o : LoopTest) → l.test ≡ o → loop_task_does l (lap.Pass n) k m ≡ left_off k m (test_does m.scene o m.store andthen tested)
      unfolding loop_task_does passes tested
      pass_by o e = ap (λ j. left_off k m (loop_passes m.scene l j m.store)) (add-one n) ∙ ap (λ q. left_off k m (test_does m.scene q m.store andthen tested)) e

      pub pass_none : (m1 : Machine) → l.test ≡ test.Always → behind new ≡ loop_task_does l (lap.Tested n) k → m1 ≡ with_value m 1 m.store → Leads (task.Loop l (lap.Pass n)) old m new m1
      unfolding loop_task_does tested
      pass_none m1 e h i = record { same = pass_by test.Always e ∙ ap (loop_task_does l (lap.Tested n) k) (sym i) ∙ (λ j. sym h j m1) }

      pub pass_some : (x : Bor TypedExpr) (mid : List Task) → l.test ≡ test.When x → behind new ≡ value_does (value.Evaluate x) (behind mid) → behind mid ≡ loop_task_does l (lap.Tested n) k → Leads (task.Loop l (lap.Pass n)) old m new m
      unfolding loop_task_does tested value_does
      pass_some x mid e h g = record { same = pass_by (test.When x) e ∙ then_then (λ way s. k (with_way m way s)) (value_in m.scene x.now m.store) tested ∙ (λ j. value_does (value.Evaluate x) (sym g j) m) ∙ (λ j. sym h j m) }

      -- ---- a pass behind its condition

      abbrev passing : Bool → Done Way
      passing b = left_off k m (pass (does_in m.scene l.body.now) (loop_behind m.scene l n) b m.store)

      pub tested_over : (m1 : Machine) → m.value ≡ 0 → m1 ≡ with_way m GoesOn m.store → Leads (task.Loop l (lap.Tested n)) old m old m1
      unfolding loop_task_does
      tested_over m1 e h = record { same = ap passing (is_zero m.value e) ∙ ap k (sym h) }

      pub tested_on : (mid : List Task) (s' : Store) (m1 : Machine) → (m.value ≡ 0 → ⊥) → m.store.turns ≡ suc s'.turns → a_turn_less m.store s'
          → behind new ≡ statement_does (statement.Do l.body) (behind mid) → behind mid ≡ loop_task_does l (lap.Stepped n) k → m1 ≡ with_store m s' → Leads (task.Loop l (lap.Tested n)) old m new m1
      unfolding loop_task_does statement_does
      tested_on mid s' m1 e t u h g i =
          record {
            same =
                ap passing (is_other m.value e) ∙ ap (left_off k m) (turn_taken m.store s' (λ q. does_in m.scene l.body.now q andthen after_body (loop_behind m.scene l n)) t u)
                ∙ then_then (λ way s. k (with_way m way s)) (does_in m.scene l.body.now s') (after_body (loop_behind m.scene l n))
                ∙ (λ j. statement_does (statement.Do l.body) (sym g j) (with_store m s')) ∙ ap (statement_does (statement.Do l.body) (behind mid)) (sym i) ∙ (λ j. sym h j m1);
          }

      pub tested_stops : (st : Stop) → (m.value ≡ 0 → ⊥) → m.store.turns ≡ 0 → st ≡ stop.OutOfTurns → Stops (task.Loop l (lap.Tested n)) old m st
      unfolding loop_task_does
      tested_stops st e t h =
          record { is = subst (λ q. IsStop q (passing (is_true m.value))) (sym h) (ap passing (is_other m.value e) ∙ ap (λ j. left_off k m (turn_of j m.store (λ q. does_in m.scene l.body.now q andthen after_body (loop_behind m.scene l n)))) t) }

      -- ---- a pass behind its body

      abbrev after : Way → Done Way
      after way = left_off k m (after_body (loop_behind m.scene l n) way m.store)

      pub stepped_on : (m1 : Machine) → m.way ≡ GoesOn → left_off k m (loop_behind m.scene l n m.store) ≡ behind new m1 → Leads (task.Loop l (lap.Stepped n)) old m new m1
      unfolding loop_task_does
      stepped_on m1 e h = record { same = ap after e ∙ h }

      pub stepped_again : (m1 : Machine) → m.way ≡ Continues → left_off k m (loop_behind m.scene l n m.store) ≡ behind new m1 → Leads (task.Loop l (lap.Stepped n)) old m new m1
      unfolding loop_task_does
      stepped_again m1 e h = record { same = ap after e ∙ h }

      pub stepped_over : (m1 : Machine) → m.way ≡ Breaks → m1 ≡ with_way m GoesOn m.store → Leads (task.Loop l (lap.Stepped n)) old m old m1
      unfolding loop_task_does
      stepped_over m1 e h = record { same = ap after e ∙ ap k (sym h) }

      pub stepped_out : (m1 : Machine) → m.way ≡ Returns → m1 ≡ with_way m Returns m.store → Leads (task.Loop l (lap.Stepped n)) old m old m1
      unfolding loop_task_does
      stepped_out m1 e h = record { same = ap after e ∙ ap k (sym h) }

      -- ---- the step

      abbrev stepping : LoopStep → Done Way
      stepping o = left_off k m (step_does m.scene o m.store andthen then_next (loop_passes m.scene l n))

      pub step_none : (m1 : Machine) → l.step ≡ step.Nothing → behind new ≡ loop_task_does l (lap.Again n) k → m1 ≡ with_way m GoesOn m.store → left_off k m (loop_behind m.scene l n m.store) ≡ behind new m1
      unfolding loop_task_does
      step_none m1 e h i = ap stepping e ∙ ap (loop_task_does l (lap.Again n) k) (sym i) ∙ (λ j. sym h j m1)

      pub step_some : (x : Bor TypedStatement) (mid : List Task) → l.step ≡ step.Do x → behind new ≡ statement_does (statement.Do x) (behind mid) → behind mid ≡ loop_task_does l (lap.Again n) k → left_off k m (loop_behind m.scene l n m.store) ≡ behind new m
      unfolding loop_task_does statement_does
      step_some x mid e h g =
          ap stepping e ∙ then_then (λ way s. k (with_way m way s)) (does_in m.scene x.now m.store) (then_next (loop_passes m.scene l n)) ∙ (λ j. statement_does (statement.Do x) (sym g j) m) ∙ (λ j. sym h j m)

      -- ---- the next pass

      pub again_off : (m1 : Machine) → is_on m.way ≡ false → m1 ≡ with_way m m.way m.store → Leads (task.Loop l (lap.Again n)) old m old m1
      unfolding loop_task_does
      again_off m1 e h = record { same = ap (left_off k m) (off_stays m.way (loop_passes m.scene l n) m.store e) ∙ ap k (sym h) }

      pub again_stops : (st : Stop) → is_on m.way ≡ true → n ≡ 0 → st ≡ stop.OutOfTurns → Stops (task.Loop l (lap.Again n)) old m st
      unfolding loop_task_does passes
      again_stops st e z h =
          record { is = subst (λ q. IsStop q (loop_task_does l (lap.Again n) k m)) (sym h) (ap (left_off k m) (on_goes m.way (loop_passes m.scene l n) m.store e) ∙ ap (λ j. left_off k m (loop_passes m.scene l j m.store)) z) }

      pub again_on : is_on m.way ≡ true → (n ≡ 0 → ⊥) → behind new ≡ loop_task_does l (lap.Pass (n - 1)) k → Leads (task.Loop l (lap.Again n)) old m new m
      unfolding loop_task_does
      again_on e z h =
          let same : n ≡ n - 1 + 1 = omega (arith, z) in
          record { same = ap (left_off k m) (on_goes m.way (loop_passes m.scene l n) m.store e) ∙ ap (λ j. left_off k m (loop_passes m.scene l j m.store)) same ∙ (λ j. sym h j m) }

  -- ---- `do`

  module _ (l : DoLoop) (n : ℕ) where
    do_pass_is : do_task_does l (round.Pass n) k m ≡ left_off k m (turn_of m.store.turns m.store (λ q. does_in m.scene l.body.now q andthen after_body (do_behind m.scene l n)))
    unfolding do_task_does do_passes
    do_pass_is = ap (λ j. left_off k m (do_again m.scene l j m.store)) (add-one n)

    pub do_pass_on : (mid : List Task) (s' : Store) (m1 : Machine) → m.store.turns ≡ suc s'.turns → a_turn_less m.store s'
        → behind new ≡ statement_does (statement.Do l.body) (behind mid) → behind mid ≡ do_task_does l (round.Test n) k → m1 ≡ with_store m s' → Leads (task.DoLoop l (round.Pass n)) old m new m1
    unfolding do_task_does statement_does
    do_pass_on mid s' m1 t u h g i =
        record {
          same =
              do_pass_is ∙ ap (left_off k m) (turn_taken m.store s' (λ q. does_in m.scene l.body.now q andthen after_body (do_behind m.scene l n)) t u)
              ∙ then_then (λ way s. k (with_way m way s)) (does_in m.scene l.body.now s') (after_body (do_behind m.scene l n))
              ∙ (λ j. statement_does (statement.Do l.body) (sym g j) (with_store m s')) ∙ ap (statement_does (statement.Do l.body) (behind mid)) (sym i) ∙ (λ j. sym h j m1);
        }

    pub do_pass_stops : (st : Stop) → m.store.turns ≡ 0 → st ≡ stop.OutOfTurns → Stops (task.DoLoop l (round.Pass n)) old m st
    do_pass_stops st t h =
        record { is = subst (λ q. IsStop q (do_task_does l (round.Pass n) k m)) (sym h) (do_pass_is ∙ ap (λ j. left_off k m (turn_of j m.store (λ q. does_in m.scene l.body.now q andthen after_body (do_behind m.scene l n)))) t) }

    abbrev after_do : Way → Done Way
    after_do way = left_off k m (after_body (do_behind m.scene l n) way m.store)

    testing : (mid : List Task) → behind new ≡ value_does (value.Evaluate l.test) (behind mid) → behind mid ≡ do_task_does l (round.Tested n) k → left_off k m (do_behind m.scene l n m.store) ≡ behind new m
    unfolding do_task_does value_does
    testing mid h g = then_then (λ way s. k (with_way m way s)) (value_in m.scene l.test.now m.store) (λ v s. again_if (do_again m.scene l n) (is_true v) s) ∙ (λ j. value_does (value.Evaluate l.test) (sym g j) m) ∙ (λ j. sym h j m)

    pub do_test_on : (mid : List Task) → m.way ≡ GoesOn → behind new ≡ value_does (value.Evaluate l.test) (behind mid) → behind mid ≡ do_task_does l (round.Tested n) k → Leads (task.DoLoop l (round.Test n)) old m new m
    unfolding do_task_does
    do_test_on mid e h g = record { same = ap after_do e ∙ testing mid h g }

    pub do_test_again : (mid : List Task) → m.way ≡ Continues → behind new ≡ value_does (value.Evaluate l.test) (behind mid) → behind mid ≡ do_task_does l (round.Tested n) k → Leads (task.DoLoop l (round.Test n)) old m new m
    unfolding do_task_does
    do_test_again mid e h g = record { same = ap after_do e ∙ testing mid h g }

    pub do_test_over : (m1 : Machine) → m.way ≡ Breaks → m1 ≡ with_way m GoesOn m.store → Leads (task.DoLoop l (round.Test n)) old m old m1
    unfolding do_task_does
    do_test_over m1 e h = record { same = ap after_do e ∙ ap k (sym h) }

    pub do_test_out : (m1 : Machine) → m.way ≡ Returns → m1 ≡ with_way m Returns m.store → Leads (task.DoLoop l (round.Test n)) old m old m1
    unfolding do_task_does
    do_test_out m1 e h = record { same = ap after_do e ∙ ap k (sym h) }

    abbrev once_more : Bool → Done Way
    once_more b = left_off k m (again_if (do_again m.scene l n) b m.store)

    pub do_tested_over : (m1 : Machine) → m.value ≡ 0 → m1 ≡ with_way m GoesOn m.store → Leads (task.DoLoop l (round.Tested n)) old m old m1
    unfolding do_task_does
    do_tested_over m1 e h = record { same = ap once_more (is_zero m.value e) ∙ ap k (sym h) }

    pub do_tested_stops : (st : Stop) → (m.value ≡ 0 → ⊥) → n ≡ 0 → st ≡ stop.OutOfTurns → Stops (task.DoLoop l (round.Tested n)) old m st
    unfolding do_task_does do_passes
    do_tested_stops st e z h = record { is = subst (λ q. IsStop q (do_task_does l (round.Tested n) k m)) (sym h) (ap once_more (is_other m.value e) ∙ ap (λ j. left_off k m (do_again m.scene l j m.store)) z) }

    pub do_tested_on : (m.value ≡ 0 → ⊥) → (n ≡ 0 → ⊥) → behind new ≡ do_task_does l (round.Pass (n - 1)) k → Leads (task.DoLoop l (round.Tested n)) old m new m
    unfolding do_task_does
    do_tested_on e z h =
        let same : n ≡ n - 1 + 1 = omega (arith, z) in
        record { same = ap once_more (is_other m.value e) ∙ ap (λ j. left_off k m (do_again m.scene l j m.store)) same ∙ (λ j. sym h j m) }

-- ---- parts that fit

pub test_fit : (l : Loop) (x : Bor TypedExpr) → FitLoop l → l.test ≡ test.When x → FitExpression x.now
test_fit l x f e = subst test_fits e f.test

pub step_fit : (l : Loop) (x : Bor TypedStatement) → FitLoop l → l.step ≡ step.Do x → FitStatement x.now
step_fit l x f e = subst step_fits e f.step

pub body_fit : (l : Loop) → FitLoop l → FitStatement l.body.now
body_fit l f = f.body

pub do_body_fit : (l : DoLoop) → FitDoLoop l → FitStatement l.body.now
do_body_fit l f = f.body

pub do_test_fit : (l : DoLoop) → FitDoLoop l → FitExpression l.test.now
do_test_fit l f = f.test

pub ruleset begin_laws = (begin_on, begin_off)

pub ruleset pass_laws = (pass_none, pass_some, test_fit)

pub ruleset tested_laws = (tested_over, tested_on, tested_stops, body_fit, memory_laws)

pub ruleset stepped_laws = (stepped_on, stepped_again, stepped_over, stepped_out)

pub ruleset step_laws = (step_none, step_some, step_fit)

pub ruleset again_laws = (again_off, again_stops, again_on, memory_laws)

pub ruleset do_laws = (do_pass_on, do_pass_stops, do_test_on, do_test_again, do_test_over, do_test_out, do_tested_over, do_tested_stops, do_tested_on, do_body_fit, do_test_fit, memory_laws)
