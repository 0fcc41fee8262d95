-- The steps of statements, but for loops.
use Rattle.std.proofs.Common.{◌≡◌, ℕ, ◌+◌, Bool, true, false, List, [], ◌∷◌, map, Option, Some, None, refl, sym, ap, subst, ◌∙◌}
use Rattle.std.specs.Prelude.{Result, Ok, Err, OnOk}
use Rattle.std.specs.Borrow.{Bor}
use Rattle.std.specs.Option.{option_map}
use Rattle.cfa.specs.declared.parts.Variable.{Variable}
use Rattle.cfa.specs.declared.state.Trap.TheVariants as trap
use Rattle.c_typed_trees.specs.declared.expression.TypedExpr.{TypedExpr}
use Rattle.c_typed_trees.specs.declared.statement.TypedStatement.{TypedStatement}
use Rattle.tree_meaning.specs.declared.machine.Machine.{Machine}
use Rattle.tree_meaning.specs.declared.stop.Stop.{Stop}
use Rattle.tree_meaning.specs.declared.stop.Stop.TheVariants as stop
use Rattle.tree_meaning.specs.declared.task.ArmStage.TheVariants as arm
use Rattle.tree_meaning.specs.declared.task.Task.{Task}
use Rattle.tree_meaning.specs.declared.task.Task.TheVariants.{Statement}
use Rattle.tree_meaning.specs.declared.task.StatementTask.TheVariants as statement
use Rattle.tree_meaning.specs.declared.task.ValueTask.TheVariants as value
use Rattle.tree_meaning.specs.declared.way.Way.{Way}
use Rattle.tree_meaning.specs.declared.way.Way.TheVariants.{GoesOn, Breaks, Continues, Returns}
use Rattle.tree_meaning.specs.Outcomes.{Store, TrapEnd, BlockedEnd, End, Done, Gives, ◌andthen◌, Meaning, is_true}
use Rattle.tree_meaning.specs.Activations.{start_of, length_of, stored, cleared}
use Rattle.tree_meaning.specs.Running.{meant_in, value_in, does_in, arm_in, is_on}
use Rattle.tree_meaning.specs.Statements.{then_next, block, arms, fill, declare, declare_array, return_value, unless_false}
use Rattle.tree_meaning.specs.Stopping.{IsStop}
use Rattle.tree_meaning.specs.Tasks.{Cont, with_value, with_way, left_off, arm_chosen, value_does, statement_does, behind, Leads, Stops}
use Rattle.tree_meaning.proofs.LoopParts.{step_fit}
use Rattle.tree_meaning.proofs.RowFits.{row_fits_laws}
use Rattle.tree_meaning.proofs.Then.{then_then}
use Rattle.tree_meaning.proofs.Truths.{is_zero, is_other, on_goes, off_stays}

-- what holds where a result is well, from what another fact says there
pub on_ok : {A E : Type 0} {P Q : Type 0} (r : Result A E) → OnOk r P → (P → Q) → OnOk r Q
on_ok (Ok x) h f = f h
on_ok (Err e) h f = h

module _ (old new : List Task) (m : Machine) where
  abbrev k : Cont
  k = behind old

  abbrev leaves : Way → Store → Done Way
  leaves way s = k (with_way m way s)

  -- ---- a value, and then something that a statement does with it

  abbrev valued : TypedExpr → (ℕ → Store → Done Way) → Done Way
  valued x next = left_off k m (value_in m.scene x m.store andthen next)

  valued_by : (x : Bor TypedExpr) (x' : TypedExpr) (next : ℕ → Store → Done Way) (t : Cont) (mid : List Task) → x.now ≡ x' → ((v : ℕ) (s : Store) → left_off k m (next v s) ≡ t (with_value m v s))
      → behind new ≡ value_does (value.Evaluate x) (behind mid) → behind mid ≡ t → valued x' next ≡ behind new m
  unfolding value_does
  valued_by x x' next t mid e f h g =
      ap (λ y. valued y next) (sym e) ∙ then_then leaves (value_in m.scene x.now m.store) next ∙ ap (λ (n : ℕ → Store → Done Way). value_in m.scene x.now m.store andthen n) (λ i v s. f v s i)
      ∙ (λ i. value_does (value.Evaluate x) (sym g i) m) ∙ (λ i. sym h i m)

  -- ---- declarations

  pub declare_none : (v : Variable) (o : Option TypedExpr) (cell : ℕ) (m1 : Machine) → o ≡ None → cell ≡ start_of m.scene.activation v.place → m1 ≡ with_way m GoesOn (stored m.store cell 0)
      → left_off k m (declare m.scene.activation v (option_map (meant_in m.scene) o) m.store) ≡ behind old m1
  declare_none v o cell m1 e c h = ap (λ o'. left_off k m (declare m.scene.activation v (option_map (meant_in m.scene) o') m.store)) e ∙ ap (λ n. leaves GoesOn (stored m.store n 0)) (sym c) ∙ ap k (sym h)

  pub declare_some : (v : Variable) (o : Option TypedExpr) (x : Bor TypedExpr) (x' : TypedExpr) (cell : ℕ) (mid : List Task) → o ≡ Some x' → x.now ≡ x' → cell ≡ start_of m.scene.activation v.place
      → behind new ≡ value_does (value.Evaluate x) (behind mid) → behind mid ≡ statement_does (statement.Put cell) k
      → left_off k m (declare m.scene.activation v (option_map (meant_in m.scene) o) m.store) ≡ behind new m
  unfolding statement_does
  declare_some v o x x' cell mid e f c h g =
      ap (λ o'. left_off k m (declare m.scene.activation v (option_map (meant_in m.scene) o') m.store)) e
      ∙ ap (λ n. valued x' (λ w s. Gives GoesOn (stored s n w))) (sym c)
      ∙ valued_by x x' (λ w s. Gives GoesOn (stored s cell w)) (statement_does (statement.Put cell) k) mid f (λ w s. refl) h g

  pub declare_list : (v : Variable) (xs : Bor (List TypedExpr)) (cell n : ℕ) (s : Store) (m1 : Machine) → cell ≡ start_of m.scene.activation v.place → n ≡ length_of v.length → s ≡ cleared m.store cell n
      → behind new ≡ statement_does (statement.Fill cell xs) k → m1 ≡ record { scene = m.scene; values = m.values; value = m.value; way = m.way; store = s }
      → left_off k m (declare_array m.scene.activation v (map (meant_in m.scene) xs.now) m.store) ≡ behind new m1
  unfolding statement_does
  declare_list v xs cell n s m1 c l u h i =
      ap (λ q. left_off k m (fill q (map (meant_in m.scene) xs.now) (cleared m.store q (length_of v.length)))) (sym c) ∙ ap (λ q. left_off k m (fill cell (map (meant_in m.scene) xs.now) (cleared m.store cell q))) (sym l)
      ∙ ap (λ q. left_off k m (fill cell (map (meant_in m.scene) xs.now) q)) (sym u) ∙ ap (statement_does (statement.Fill cell xs) k) (sym i) ∙ (λ j. sym h j m1)

  -- ---- `return`

  pub return_none : (o : Option TypedExpr) (m1 : Machine) → o ≡ None → m1 ≡ with_way m Returns m.store → left_off k m (return_value m.scene.activation (option_map (meant_in m.scene) o) m.store) ≡ behind old m1
  return_none o m1 e h = ap (λ o'. left_off k m (return_value m.scene.activation (option_map (meant_in m.scene) o') m.store)) e ∙ ap k (sym h)

  pub return_some : (o : Option TypedExpr) (x : Bor TypedExpr) (x' : TypedExpr) (mid : List Task) → o ≡ Some x' → x.now ≡ x' → behind new ≡ value_does (value.Evaluate x) (behind mid) → behind mid ≡ statement_does statement.ReturnValue k
      → left_off k m (return_value m.scene.activation (option_map (meant_in m.scene) o) m.store) ≡ behind new m
  unfolding statement_does
  return_some o x x' mid e f h g =
      ap (λ o'. left_off k m (return_value m.scene.activation (option_map (meant_in m.scene) o') m.store)) e
      ∙ valued_by x x' (λ w s. Gives Returns (stored s m.scene.activation.base w)) (statement_does statement.ReturnValue k) mid f (λ w s. refl) h g

  pub return_step : (base : ℕ) (m1 : Machine) → base ≡ m.scene.activation.base → m1 ≡ with_way m Returns (stored m.store base m.value) → Leads (Statement statement.ReturnValue) old m old m1
  unfolding statement_does
  return_step base m1 b h = record { same = ap (λ n. leaves Returns (stored m.store n m.value)) (sym b) ∙ ap k (sym h) }

  -- ---- cells

  pub put_step : (cell : ℕ) (m1 : Machine) → m1 ≡ with_way m GoesOn (stored m.store cell m.value) → Leads (Statement (statement.Put cell)) old m old m1
  unfolding statement_does
  put_step cell m1 h = record { same = ap k (sym h) }

  pub go_on_step : (m1 : Machine) → m1 ≡ with_way m GoesOn m.store → Leads (Statement statement.GoOn) old m old m1
  unfolding statement_does
  go_on_step m1 h = record { same = ap k (sym h) }

  pub fill_none : (cell : ℕ) (xs : Bor (List TypedExpr)) (m1 : Machine) → xs.now ≡ [] → m1 ≡ with_way m GoesOn m.store → Leads (Statement (statement.Fill cell xs)) old m old m1
  unfolding statement_does fill
  fill_none cell xs m1 e h = record { same = ap (λ l. left_off k m (fill cell (map (meant_in m.scene) l) m.store)) e ∙ ap k (sym h) }

  pub fill_more : (cell : ℕ) (xs ys : Bor (List TypedExpr)) (x : Bor TypedExpr) (mid low : List Task) → xs.now ≡ x.now ∷ ys.now
      → behind new ≡ value_does (value.Evaluate x) (behind mid) → behind mid ≡ statement_does (statement.Put cell) (behind low) → behind low ≡ statement_does (statement.Fill (cell + 1) ys) k → Leads (Statement (statement.Fill cell xs)) old m new m
  unfolding statement_does fill value_does
  fill_more cell xs ys x mid low e h g f =
      let next : Meaning = fill (cell + 1) (map (meant_in m.scene) ys.now) in
      let stores : ℕ → Store → Done Way = λ w s. Gives GoesOn (stored s cell w) in
      record {
        same =
            ap (λ l. left_off k m (fill cell (map (meant_in m.scene) l) m.store)) e
            ∙ ap (left_off k m) (then_then (then_next next) (value_in m.scene x.now m.store) stores)
            ∙ then_then leaves (value_in m.scene x.now m.store) (λ w s. next (stored s cell w))
            ∙ (λ i. value_does (value.Evaluate x) (statement_does (statement.Put cell) (sym f i)) m) ∙ (λ i. value_does (value.Evaluate x) (sym g i) m) ∙ (λ i. sym h i m);
      }

  -- ---- assertions and assumptions

  abbrev judged : End → Bool → Done Way
  judged end b = left_off k m (unless_false end b m.store)

  pub assert_on : (m1 : Machine) → (m.value ≡ 0 → ⊥) → m1 ≡ with_way m GoesOn m.store → Leads (Statement statement.Assert) old m old m1
  unfolding statement_does
  assert_on m1 e h = record { same = ap (judged (TrapEnd trap.Assert)) (is_other m.value e) ∙ ap k (sym h) }

  pub assert_stops : (st : Stop) → m.value ≡ 0 → st ≡ stop.Trapped trap.Assert → Stops (Statement statement.Assert) old m st
  unfolding statement_does
  assert_stops st e h = record { is = subst (λ q. IsStop q (judged (TrapEnd trap.Assert) (is_true m.value))) (sym h) (ap (judged (TrapEnd trap.Assert)) (is_zero m.value e)) }

  pub assume_on : (m1 : Machine) → (m.value ≡ 0 → ⊥) → m1 ≡ with_way m GoesOn m.store → Leads (Statement statement.Assume) old m old m1
  unfolding statement_does
  assume_on m1 e h = record { same = ap (judged BlockedEnd) (is_other m.value e) ∙ ap k (sym h) }

  pub assume_stops : (st : Stop) → m.value ≡ 0 → st ≡ stop.Blocked → Stops (Statement statement.Assume) old m st
  unfolding statement_does
  assume_stops st e h = record { is = subst (λ q. IsStop q (judged BlockedEnd (is_true m.value))) (sym h) (ap (judged BlockedEnd) (is_zero m.value e)) }

  -- ---- blocks

  pub block_off : (list : Bor (List TypedStatement)) (m1 : Machine) → is_on m.way ≡ false → m1 ≡ with_way m m.way m.store → Leads (Statement (statement.Block list)) old m old m1
  unfolding statement_does
  block_off list m1 e h = record { same = ap (left_off k m) (off_stays m.way (block (map (does_in m.scene) list.now)) m.store e) ∙ ap k (sym h) }

  going : (after : Meaning) → is_on m.way ≡ true → then_next after m.way m.store ≡ after m.store
  going after e = on_goes m.way after m.store e

  on_is : (way : Way) → is_on way ≡ true → GoesOn ≡ way
  on_is GoesOn e = refl
  on_is Breaks e = absurd (cc)
  on_is Continues e = absurd (cc)
  on_is Returns e = absurd (cc)

  pub block_none : (list : Bor (List TypedStatement)) (m1 : Machine) → is_on m.way ≡ true → list.now ≡ [] → m1 ≡ with_way m m.way m.store → Leads (Statement (statement.Block list)) old m old m1
  unfolding statement_does block
  block_none list m1 e n h =
      record { same = ap (left_off k m) (going (block (map (does_in m.scene) list.now)) e) ∙ ap (λ l. left_off k m (block (map (does_in m.scene) l) m.store)) n ∙ ap (λ way. leaves way m.store) (on_is m.way e) ∙ ap k (sym h) }

  pub block_more : (list others : Bor (List TypedStatement)) (one : Bor TypedStatement) (mid : List Task) → is_on m.way ≡ true → list.now ≡ one.now ∷ others.now
      → behind new ≡ statement_does (statement.Do one) (behind mid) → behind mid ≡ statement_does (statement.Block others) k → Leads (Statement (statement.Block list)) old m new m
  unfolding statement_does block
  block_more list others one mid e n h g =
      record {
        same =
            ap (left_off k m) (going (block (map (does_in m.scene) list.now)) e) ∙ ap (λ l. left_off k m (block (map (does_in m.scene) l) m.store)) n
            ∙ then_then leaves (does_in m.scene one.now m.store) (then_next (block (map (does_in m.scene) others.now)))
            ∙ (λ i. statement_does (statement.Do one) (sym g i) m) ∙ (λ i. sym h i m);
      }

  -- ---- the arms of an `if`

  abbrev armed : List (TypedExpr × TypedStatement) → Option TypedStatement → Done Way
  armed list last = left_off k m (arms (map (arm_in m.scene) list) (option_map (does_in m.scene) last) m.store)

  module _ (list : Bor (List (TypedExpr × TypedStatement))) (last : Bor (Option TypedStatement)) where
    pub arms_none : (m1 : Machine) → list.now ≡ [] → last.now ≡ None → m1 ≡ with_way m GoesOn m.store → Leads (Statement (statement.Arms list last arm.Test)) old m old m1
    unfolding statement_does arms
    arms_none m1 e f h = record { same = ap (λ l. armed l last.now) e ∙ ap (armed []) f ∙ ap k (sym h) }

    pub arms_last : (s : Bor TypedStatement) (s' : TypedStatement) → list.now ≡ [] → last.now ≡ Some s' → s.now ≡ s' → behind new ≡ statement_does (statement.Do s) k → Leads (Statement (statement.Arms list last arm.Test)) old m new m
    unfolding statement_does arms
    arms_last s s' e f g h = record { same = ap (λ l. armed l last.now) e ∙ ap (armed []) f ∙ ap (λ q. left_off k m (does_in m.scene q m.store)) (sym g) ∙ (λ i. sym h i m) }

    pub arms_test : (x : Bor TypedExpr) (first : TypedExpr × TypedStatement) (others : List (TypedExpr × TypedStatement)) (mid : List Task) → list.now ≡ first ∷ others → x.now ≡ first.0
        → behind new ≡ value_does (value.Evaluate x) (behind mid) → behind mid ≡ statement_does (statement.Arms list last arm.Choose) k → Leads (Statement (statement.Arms list last arm.Test)) old m new m
    unfolding statement_does arms
    arms_test x first others mid e f h g =
        record {
          same =
              ap (λ l. armed l last.now) e
              ∙ valued_by x first.0 (λ v s. arm_chosen m.scene (first ∷ others) last.now (is_true v) s) (λ q. left_off k q (arm_chosen q.scene (first ∷ others) last.now (is_true q.value) q.store)) mid f (λ v s. refl) h
              (g ∙ (λ i q. left_off k q (arm_chosen q.scene (e i) last.now (is_true q.value) q.store)));
        }

    abbrev chosen_by : List (TypedExpr × TypedStatement) → Bool → Done Way
    chosen_by l b = left_off k m (arm_chosen m.scene l last.now b m.store)

    pub choose_none : (m1 : Machine) → list.now ≡ [] → m1 ≡ with_way m GoesOn m.store → Leads (Statement (statement.Arms list last arm.Choose)) old m old m1
    unfolding statement_does
    choose_none m1 e h = record { same = ap (λ l. chosen_by l (is_true m.value)) e ∙ ap k (sym h) }

    pub choose_this : (s : Bor TypedStatement) (first : TypedExpr × TypedStatement) (others : List (TypedExpr × TypedStatement)) → list.now ≡ first ∷ others → s.now ≡ first.1 → (m.value ≡ 0 → ⊥)
        → behind new ≡ statement_does (statement.Do s) k → Leads (Statement (statement.Arms list last arm.Choose)) old m new m
    unfolding statement_does
    choose_this s first others e f v h = record { same = ap (λ l. chosen_by l (is_true m.value)) e ∙ ap (chosen_by (first ∷ others)) (is_other m.value v) ∙ ap (λ q. left_off k m (does_in m.scene q m.store)) (sym f) ∙ (λ i. sym h i m) }

    pub choose_other : (first : TypedExpr × TypedStatement) (others : Bor (List (TypedExpr × TypedStatement))) → list.now ≡ first ∷ others.now → m.value ≡ 0
        → behind new ≡ statement_does (statement.Arms others last arm.Test) k → Leads (Statement (statement.Arms list last arm.Choose)) old m new m
    unfolding statement_does
    choose_other first others e v h = record { same = ap (λ l. chosen_by l (is_true m.value)) e ∙ ap (chosen_by (first ∷ others.now)) (is_zero m.value v) ∙ (λ i. sym h i m) }

pub ruleset declare_laws = (declare_none, declare_some, declare_list)

pub ruleset return_laws = (return_none, return_some, return_step)

pub ruleset put_laws = (put_step, go_on_step)

pub ruleset fill_laws = (fill_none, fill_more, row_fits_laws)

pub ruleset assert_laws = (assert_on, assert_stops, assume_on, assume_stops)

pub ruleset block_laws = (block_off, block_none, block_more, row_fits_laws)

pub ruleset arms_laws = (arms_none, arms_last, arms_test, choose_none, choose_this, choose_other, row_fits_laws, step_fit)
