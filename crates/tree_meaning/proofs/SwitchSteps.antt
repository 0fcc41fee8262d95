-- The steps of `switch`.
use Rattle.std.proofs.Common.{◌≡◌, ◌+◌, ◌-◌, ℕ, zero, suc, Bool, true, false, cond, List, [], ◌∷◌, map, take, drop, length, length-drop, Option, Some, None, refl, sym, ap, subst, ◌∙◌, arith}
use Rattle.std.specs.Prelude.{if◌then◌else◌}
use Rattle.std.specs.Prelude.{IsTrue}
use Rattle.std.specs.List.{list_all, position, position_from}
use Rattle.std.specs.Option.{option_map, unwrap_or}
use Rattle.std.proofs.lemmas.Iterator.Adapters.{position_from-zero}
use Rattle.std.proofs.lemmas.List.{drop_all, drop-drop, take_all}
use Rattle.c_values.proofs.Fitting.{and_right}
use Rattle.c_typed_trees.specs.Fitting.{Nameable, statement_fits}
use Rattle.std.specs.Borrow.{Bor}
use Rattle.c_typed_trees.specs.declared.statement.TypedGroup.{TypedGroup, out-TypedGroup}
use Rattle.c_typed_trees.specs.declared.statement.TypedStatement.{TypedStatement}
use Rattle.tree_meaning.specs.declared.machine.Machine.{Machine}
use Rattle.tree_meaning.specs.declared.task.GroupStage.TheVariants as group
use Rattle.tree_meaning.specs.declared.task.Task.{Task}
use Rattle.tree_meaning.specs.declared.task.Task.TheVariants.{Statement}
use Rattle.tree_meaning.specs.declared.task.StatementTask.TheVariants as statement
use Rattle.tree_meaning.specs.declared.way.Way.{Way}
use Rattle.tree_meaning.specs.declared.way.Way.TheVariants.{GoesOn, Breaks, Continues, Returns}
use Rattle.tree_meaning.specs.Outcomes.{Store, Done, Gives, ◌andthen◌, Meaning}
use Rattle.tree_meaning.specs.Running.{Scene, does_in, group_in, is_on, FitGroups}
use Rattle.tree_meaning.specs.Statements.{then_next, block}
use Rattle.tree_meaning.specs.Switch.{Group, after_switch, groups_at, groups_from, groups_or, has_label}
use Rattle.tree_meaning.specs.Tasks.{Cont, with_way, left_off, statement_does, behind, Leads}
use Rattle.tree_meaning.proofs.StatementForms.{group_in_is}
use Rattle.tree_meaning.proofs.RowFits.{row_fits_laws}
use Rattle.tree_meaning.proofs.Then.{then_then}
use Rattle.tree_meaning.proofs.Truths.{on_goes, off_stays}

-- ---- the first group that has a label

abbrev has : Option ℕ → TypedGroup → Bool
has label g = has_label label (out-TypedGroup g).labels

module _ (c : Scene) where
  abbrev made : List TypedGroup → List Group
  made gs = map (group_in c) gs

  module _ (label : Option ℕ) where
    has_in : (g : TypedGroup) → has_label label (group_in c g).labels ≡ has label g
    has_in g = ap (λ (q : Group). has_label label q.labels) (group_in_is c g)

    from_first : (g : TypedGroup) (gs : List TypedGroup) → has label g ≡ true → groups_from label (made (g ∷ gs)) ≡ Some (made (g ∷ gs))
    from_first g gs e = ap (λ (b : Bool). if b then Some (made (g ∷ gs)) else groups_from label (made gs)) (has_in g ∙ e)

    from_later : (g : TypedGroup) (gs : List TypedGroup) → has label g ≡ false → groups_from label (made (g ∷ gs)) ≡ groups_from label (made gs)
    from_later g gs e = ap (λ (b : Bool). if b then Some (made (g ∷ gs)) else groups_from label (made gs)) (has_in g ∙ e)

    module _ (whole : List TypedGroup) where
      abbrev at_place : Option ℕ → Option (List Group)
      at_place o = option_map (λ (i : ℕ). made (drop i whole)) o

      from_by : (n : ℕ) (g : TypedGroup) (gs : List TypedGroup) (b : Bool) → has label g ≡ b → drop n whole ≡ g ∷ gs
          → (drop (n + 1) whole ≡ gs → groups_from label (made gs) ≡ at_place (position_from (has label) (n + 1) gs))
          → groups_from label (made (g ∷ gs)) ≡ at_place (position_from (has label) n (g ∷ gs))
      from_by n g gs true e h next =
          from_first g gs e ∙ ap (λ (l : List TypedGroup). Some (made l)) (sym h)
          ∙ ap (λ (b : Bool). at_place (cond b (Some n) (position_from (has label) (n + 1) gs))) (sym e)
      from_by n g gs false e h next =
          from_later g gs e ∙ next (sym (drop-drop 1 n whole) ∙ ap (λ (l : List TypedGroup). drop 1 l) h)
          ∙ ap (λ (b : Bool). at_place (cond b (Some n) (position_from (has label) (n + 1) gs))) (sym e)

      from_rest : (gs : List TypedGroup) (n : ℕ) → drop n whole ≡ gs → groups_from label (made gs) ≡ at_place (position_from (has label) n gs)
      from_rest [] n h = refl
      from_rest (g ∷ gs) n h = from_by n g gs (has label g) refl h (λ e. from_rest gs (n + 1) e)

      from_whole : groups_from label (made whole) ≡ at_place (position (has label) whole)
      from_whole = from_rest whole 0 refl ∙ ap at_place (sym (position_from-zero (has label) whole))

  module _ (v : ℕ) (gs : List TypedGroup) where
    abbrev default_of : Option (List Group) → List Group
    default_of o = groups_or o []

    abbrev at_or : Option (List Group) → List Group
    at_or o = groups_or o (default_of (groups_from None (made gs)))

    pub at_case : (at : ℕ) → position (has (Some v)) gs ≡ Some at → groups_at v (made gs) ≡ made (drop at gs)
    at_case at e = ap at_or (from_whole (Some v) gs ∙ ap (at_place (Some v) gs) e)

    ends : (o : Option ℕ) → default_of (at_place None gs o) ≡ made (drop (unwrap_or o (length gs)) gs)
    ends None = ap made (sym (drop_all (length gs) gs (omega arith)))
    ends (Some i) = refl

    pub at_default : (o : Option ℕ) (at : ℕ) → position (has (Some v)) gs ≡ None → o ≡ position (has None) gs → at ≡ unwrap_or o (length gs) → groups_at v (made gs) ≡ made (drop at gs)
    at_default o at e f h =
        ap at_or (from_whole (Some v) gs ∙ ap (at_place (Some v) gs) e) ∙ ap default_of (from_whole None gs ∙ ap (at_place None gs) (sym f))
        ∙ ends o ∙ ap (λ (n : ℕ). made (drop n gs)) (sym h)

-- what a slice from a place on holds
pub rest_is : (gs : List TypedGroup) (n : ℕ) → take (length gs - n) (drop n gs) ≡ drop n gs
rest_is gs n = take_all (length gs - n) (drop n gs) (omega (arith, length-drop n gs))

abbrev bodies_fit : Nameable → TypedGroup → Bool
bodies_fit n g = list_all (statement_fits n) (out-TypedGroup g).body

fit_from : (n : Nameable) (gs : List TypedGroup) (k : ℕ) → IsTrue (list_all (bodies_fit n) gs) → IsTrue (list_all (bodies_fit n) (drop k gs))
fit_from n gs zero h = h
fit_from n [] (suc k) h = h
fit_from n (g ∷ gs) (suc k) h = fit_from n gs k (and_right (bodies_fit n g) (list_all (bodies_fit n) gs) h)

pub rest_fits : (gs : List TypedGroup) (n : ℕ) → FitGroups gs → FitGroups (take (length gs - n) (drop n gs))
rest_fits gs n f = subst FitGroups (sym (rest_is gs n)) (record { names = f.names; fits = fit_from f.names gs n f.fits })

module _ (old new : List Task) (m : Machine) where
  abbrev k : Cont
  k = behind old

  abbrev leaves : Way → Store → Done Way
  leaves way s = k (with_way m way s)

  abbrev bodies : List TypedGroup → List Meaning
  bodies gs = map (λ (g : Group). g.does) (map (group_in m.scene) gs)

  -- ---- the group that the value leads to

  pub find_step : (groups from : Bor (List TypedGroup)) (at : ℕ) (mid : List Task) (m1 : Machine) → ((c : Scene) → groups_at m.value (map (group_in c) groups.now) ≡ map (group_in c) (drop at groups.now)) → from.now ≡ drop at groups.now
      → behind new ≡ statement_does (statement.Groups from group.Run) (behind mid) → behind mid ≡ statement_does statement.AfterSwitch k
      → m1 ≡ record { scene = m.scene; values = m.values; value = m.value; way = GoesOn; store = m.store } → Leads (Statement (statement.Groups groups group.Find)) old m new m1
  unfolding statement_does
  find_step groups from at mid m1 e f h g i =
      record {
        same =
            ap (λ l. left_off k m (block (map (λ (q : Group). q.does) l) m.store andthen after_switch)) (e m.scene ∙ ap (map (group_in m.scene)) (sym f))
            ∙ then_then leaves (block (bodies from.now) m.store) after_switch
            ∙ (λ j. statement_does (statement.Groups from group.Run) (sym g j) (sym i j)) ∙ (λ j. sym h j m1);
      }

  -- ---- groups, as long as each goes on

  on_is : (way : Way) → is_on way ≡ true → GoesOn ≡ way
  on_is GoesOn e = refl
  on_is Breaks e = absurd (cc)
  on_is Continues e = absurd (cc)
  on_is Returns e = absurd (cc)

  module _ (groups : Bor (List TypedGroup)) where
    pub run_off : (m1 : Machine) → is_on m.way ≡ false → m1 ≡ with_way m m.way m.store → Leads (Statement (statement.Groups groups group.Run)) old m old m1
    unfolding statement_does
    run_off m1 e h = record { same = ap (left_off k m) (off_stays m.way (block (bodies groups.now)) m.store e) ∙ ap k (sym h) }

    module _ (e : is_on m.way ≡ true) where
      going : statement_does (statement.Groups groups group.Run) k m ≡ left_off k m (block (bodies groups.now) m.store)
      unfolding statement_does
      going = ap (left_off k m) (on_goes m.way (block (bodies groups.now)) m.store e)

      pub run_none : (m1 : Machine) → groups.now ≡ [] → m1 ≡ with_way m m.way m.store → Leads (Statement (statement.Groups groups group.Run)) old m old m1
      unfolding block
      run_none m1 n h = record { same = going ∙ ap (λ l. left_off k m (block (bodies l) m.store)) n ∙ ap (λ way. leaves way m.store) (on_is m.way e) ∙ ap k (sym h) }

      pub run_more : (first : TypedGroup) (others : Bor (List TypedGroup)) (body : Bor (List TypedStatement)) (mid : List Task) → groups.now ≡ first ∷ others.now → body.now ≡ (out-TypedGroup first).body
          → behind new ≡ statement_does (statement.Block body) (behind mid) → behind mid ≡ statement_does (statement.Groups others group.Run) k → Leads (Statement (statement.Groups groups group.Run)) old m new m
      unfolding block statement_does
      run_more first others body mid n b h g =
          let rest : Meaning = block (bodies others.now) in
          record {
            same =
                going ∙ ap (λ l. left_off k m (block (bodies l) m.store)) n
                ∙ ap (λ (q : Group). left_off k m (q.does m.store andthen then_next rest)) (group_in_is m.scene first)
                ∙ ap (λ l. left_off k m (block (map (does_in m.scene) l) m.store andthen then_next rest)) (sym b)
                ∙ then_then leaves (block (map (does_in m.scene) body.now) m.store) (then_next rest)
                ∙ ap (λ d. d andthen λ way s. left_off k (with_way m way s) (then_next rest way s)) (sym (on_goes m.way (block (map (does_in m.scene) body.now)) m.store e))
                ∙ (λ i. statement_does (statement.Block body) (sym g i) m) ∙ (λ i. sym h i m);
          }

  -- ---- behind the groups

  pub after_step : (way : Way) (m1 : Machine) → after_switch m.way m.store ≡ Gives way m.store → m1 ≡ with_way m way m.store → Leads (Statement statement.AfterSwitch) old m old m1
  unfolding statement_does
  after_step way m1 e h = record { same = ap (left_off k m) e ∙ ap k (sym h) }

  module _ (m1 : Machine) where
    pub after_on : m.way ≡ GoesOn → m1 ≡ with_way m GoesOn m.store → Leads (Statement statement.AfterSwitch) old m old m1
    after_on e = after_step GoesOn m1 (ap (λ w. after_switch w m.store) e)

    pub after_break : m.way ≡ Breaks → m1 ≡ with_way m GoesOn m.store → Leads (Statement statement.AfterSwitch) old m old m1
    after_break e = after_step GoesOn m1 (ap (λ w. after_switch w m.store) e)

    pub after_continue : m.way ≡ Continues → m1 ≡ with_way m Continues m.store → Leads (Statement statement.AfterSwitch) old m old m1
    after_continue e = after_step Continues m1 (ap (λ w. after_switch w m.store) e)

    pub after_return : m.way ≡ Returns → m1 ≡ with_way m Returns m.store → Leads (Statement statement.AfterSwitch) old m old m1
    after_return e = after_step Returns m1 (ap (λ w. after_switch w m.store) e)

pub ruleset at_laws = (at_case, at_default)

pub ruleset find_laws = (find_step, row_fits_laws)

pub ruleset run_laws = (run_off, run_none, run_more, row_fits_laws)

pub ruleset after_laws = (after_on, after_break, after_continue, after_return)
