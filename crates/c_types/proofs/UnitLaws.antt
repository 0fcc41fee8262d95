-- What items do to the state of typing, and what a unit is answered.
use Rattle.std.proofs.Common.{◌≡◌, ℕ, ◌+◌, ◌<◌, ◌≤◌, List, [], ◌∷◌, ◌++◌, length, get_or, drop, Option, Some, None, refl, sym, ap, subst, ◌∙◌, append_assoc, append-nil}
use Rattle.std.specs.List.{fold}
use Rattle.std.specs.Prelude.{Ok, Err}
use Rattle.std.proofs.lemmas.List.{drop_more, drop_all}
use Rattle.fq_core.specs.declared.span.Span.{Span}
use Rattle.fq_core.specs.declared.refusal.Place.{Place}
use Rattle.fq_core.specs.Refusals.{refusal}
use Rattle.fq_core.proofs.RefusalLaws.{same_refusal}
use Rattle.c_values.specs.declared.kinds.Kind.{Kind}
use Rattle.c_parse.specs.declared.expr.Ident.{Ident}
use Rattle.c_parse.specs.declared.expr.ExprTree.{ExprTree}
use Rattle.c_parse.specs.declared.statement.Declarator.{Declarator}
use Rattle.c_parse.specs.declared.unit.Body.{Body}
use Rattle.c_parse.specs.declared.unit.Item.{Item}
use Rattle.c_parse.specs.declared.unit.Item.TheVariants as items
use Rattle.c_parse.specs.declared.unit.Parameter.{Parameter}
use Rattle.c_typed_trees.specs.declared.unit.Typed.{Typed}
use Rattle.c_type_rules.specs.declared.faults.Found.{Found}
use Rattle.c_type_rules.specs.declared.typer.Typer.{Typer}
use Rattle.c_type_rules.specs.Faults.{first_with, first_of}
use Rattle.c_type_rules.specs.Rule.{pure, made_by, after}
use Rattle.c_type_rules.proofs.FirstLaws.{first_is_first, none_is_none}
use Rattle.c_type_rules.proofs.RuleLaws.{pure_made, pure_after, then_made, then_after}
use Rattle.c_types.specs.declared.program.Program.{Program}
use Rattle.c_types.specs.declared.units.Parts.{Parts}
use Rattle.c_types.specs.Declarations.{globals_rule, constants_from}
use Rattle.c_types.specs.Functions.{function_rule}
use Rattle.c_types.specs.Units.{callee_of, program_of, no_parts, joined_parts, item_rule, items_rule, faults_of, typed_with, typed_of}
use Rattle.c_types.specs.Refusal.{refusal_of, place_of_fault, outcome_by, outcome, IsTyped, IsRefused}

-- ---- folds, from a place on

module _ {X A : Type 0} (f : A → X → A) (a : A) (xs : List X) (i : ℕ) where
  pub fold_end : length xs ≤ i → fold f a (drop i xs) ≡ a
  fold_end h = ap (fold f a) (drop_all i xs h)

  pub fold_more : (x : X) → i < length xs → x ≡ get_or xs i x → fold f a (drop i xs) ≡ fold f (f a x) (drop (i + 1) xs)
  fold_more x h e = ap (fold f a) (drop_more xs i x h) ∙ ap (λ (y : X). fold f (f a y) (drop (i + 1) xs)) (sym e)

pub ruleset fold_laws = (fold_end, fold_more)

-- ---- items

joined_none : (p : Parts) → joined_parts p no_parts ≡ p
joined_none p = λ i. record { globals = append-nil p.globals i; functions = append-nil p.functions i }

joined_again : (p q r : Parts) → joined_parts (joined_parts p q) r ≡ joined_parts p (joined_parts q r)
joined_again p q r = λ i. record { globals = append_assoc p.globals q.globals r.globals i; functions = append_assoc p.functions q.functions r.functions i }

module _ (p : Program) (s : Typer) (ps : Parts) where
  pub function_joins : (i : Item) (span : Span) (result : Option Kind) (d : Ident) (trees : List Parameter) (body : Option Body) → i ≡ items.Function span result d trees body
      → joined_parts ps (made_by (item_rule p i) s) ≡ record { globals = ps.globals; functions = ps.functions ++ made_by (function_rule (callee_of p d.name) span result d trees body) s }
  unfolding item_rule
  function_joins i span result d trees body e =
      rw e (ap (joined_parts ps) (then_made (function_rule (callee_of p d.name) span result d trees body) (λ fs. pure (record { globals = []; functions = fs })) s ∙ pure_made _ _)
      ∙ (λ j. record { globals = append-nil ps.globals j; functions = ps.functions ++ made_by (function_rule (callee_of p d.name) span result d trees body) s }))

  pub function_after : (i : Item) (span : Span) (result : Option Kind) (d : Ident) (trees : List Parameter) (body : Option Body) → i ≡ items.Function span result d trees body
      → after (item_rule p i) s ≡ after (function_rule (callee_of p d.name) span result d trees body) s
  unfolding item_rule
  function_after i span result d trees body e = rw e (simp (then_after, pure_after))

  pub variables_join : (i : Item) (span : Span) (kind : Kind) (list : List Declarator) → i ≡ items.Variables span kind list
      → joined_parts ps (made_by (item_rule p i) s) ≡ record { globals = ps.globals ++ made_by (globals_rule kind list) s; functions = ps.functions }
  unfolding item_rule
  variables_join i span kind list e =
      rw e (ap (joined_parts ps) (then_made (globals_rule kind list) (λ gs. pure (record { globals = gs; functions = [] })) s ∙ pure_made _ _)
      ∙ (λ j. record { globals = ps.globals ++ made_by (globals_rule kind list) s; functions = append-nil ps.functions j }))

  pub variables_after : (i : Item) (span : Span) (kind : Kind) (list : List Declarator) → i ≡ items.Variables span kind list
      → after (item_rule p i) s ≡ after (globals_rule kind list) s
  unfolding item_rule
  variables_after i span kind list e = rw e (simp (then_after, pure_after))

  pub constants_join : (i : Item) (span : Span) (list : List (Ident × Option ExprTree)) → i ≡ items.Constants span list → joined_parts ps (made_by (item_rule p i) s) ≡ ps
  unfolding item_rule
  constants_join i span list e = rw e (ap (joined_parts ps) (then_made (constants_from 0 list) (λ u. pure no_parts) s ∙ pure_made _ _) ∙ joined_none ps)

  pub constants_after : (i : Item) (span : Span) (list : List (Ident × Option ExprTree)) → i ≡ items.Constants span list → after (item_rule p i) s ≡ after (constants_from 0 list) s
  unfolding item_rule
  constants_after i span list e = rw e (simp (then_after, pure_after))

pub ruleset item_laws = (function_joins, function_after, variables_join, variables_after, constants_join, constants_after)

module _ (p : Program) (s : Typer) where
  none_made : made_by (items_rule p []) s ≡ no_parts
  unfolding items_rule
  none_made = pure_made no_parts s

  none_after : after (items_rule p []) s ≡ s
  unfolding items_rule
  none_after = pure_after no_parts s

  more_made : (i : Item) (is : List Item) → made_by (items_rule p (i ∷ is)) s ≡ joined_parts (made_by (item_rule p i) s) (made_by (items_rule p is) (after (item_rule p i) s))
  unfolding items_rule
  more_made i is = simp (then_made, pure_made)

  more_after : (i : Item) (is : List Item) → after (items_rule p (i ∷ is)) s ≡ after (items_rule p is) (after (item_rule p i) s)
  unfolding items_rule
  more_after i is = simp (then_after, pure_after)

-- what is made so far, and what the items that are left make, is what all make
pub record Left (p : Program) (all : List Item) (s0 : Typer) (rest : List Item) (parts : Parts) (s : Typer) : Type 0 where
  pub made : made_by (items_rule p all) s0 ≡ joined_parts parts (made_by (items_rule p rest) s)
  pub state : after (items_rule p all) s0 ≡ after (items_rule p rest) s

pub left_turn : (p : Program) (all : List Item) (s0 : Typer) (i : ℕ) (x : Item) (parts parts' : Parts) (s s' : Typer) → i < length all → x ≡ get_or all i x
    → parts' ≡ joined_parts parts (made_by (item_rule p x) s) → s' ≡ after (item_rule p x) s
    → Left p all s0 (drop i all) parts s → Left p all s0 (drop (i + 1) all) parts' s'
left_turn p all s0 i x parts parts' s s' within is ep es l =
    let ys = drop (i + 1) all in
    let here : drop i all ≡ x ∷ ys = subst (λ (y : Item). drop i all ≡ y ∷ ys) (sym is) (drop_more all i x within) in
    record {
      made =
          l.made ∙ ap (λ zs. joined_parts parts (made_by (items_rule p zs) s)) here ∙ ap (joined_parts parts) (more_made p s x ys)
          ∙ sym (joined_again parts (made_by (item_rule p x) s) _) ∙ rw (ep, es) refl;
      state = l.state ∙ ap (λ zs. after (items_rule p zs) s) here ∙ more_after p s x ys ∙ rw es refl;
    }

module _ (p : Program) (all : List Item) (s0 : Typer) (i : ℕ) (parts : Parts) (s : Typer) (end : length all ≤ i) (l : Left p all s0 (drop i all) parts s) where
  none_left : drop i all ≡ []
  none_left = drop_all i all end

  pub left_made : parts ≡ made_by (items_rule p all) s0
  left_made = sym (l.made ∙ ap (λ zs. joined_parts parts (made_by (items_rule p zs) s)) none_left ∙ ap (joined_parts parts) (none_made p s) ∙ joined_none parts)

  pub left_after : s ≡ after (items_rule p all) s0
  left_after = sym (l.state ∙ ap (λ zs. after (items_rule p zs) s) none_left ∙ none_after p s)

-- ---- the whole

abbrev pub first_state : Typer
first_state = record { bound = []; labels = []; cases = []; level = 0; local = 0; temporary = 0; fault = None }

module _ (all : List Item) where
  pub first_fault : (after (items_rule (program_of all) all) first_state).fault ≡ first_of (faults_of all)
  unfolding after faults_of
  first_fault = refl

  pub all_parts : typed_with all (made_by (items_rule (program_of all) all) first_state) ≡ typed_of all
  unfolding made_by typed_of
  all_parts = refl

  pub outcome_refused : (f : Found) → first_of (faults_of all) ≡ Some f → outcome all ≡ Err (refusal_of f)
  unfolding outcome
  outcome_refused f e = ap (λ o. outcome_by o (typed_of all)) e

  pub outcome_typed : first_of (faults_of all) ≡ None → outcome all ≡ Ok (typed_of all)
  unfolding outcome
  outcome_typed e = ap (λ o. outcome_by o (typed_of all)) e

pub ruleset outcome_laws = (first_fault, all_parts, outcome_refused, outcome_typed)

module _ (all : List Item) where
  pub accepted : (t : Typed) → outcome all ≡ Ok t → IsTyped all t
  accepted t e = at (first_of (faults_of all)) refl
    where
      at : (o : Option Found) → first_of (faults_of all) ≡ o → IsTyped all t
      at None g = let o = outcome_typed all g in record { faultless = none_is_none (faults_of all) g; tree = cc }
      at (Some f) g = let o = outcome_refused all f g in absurd cc

  pub accepts : faults_of all ≡ [] → outcome all ≡ Ok (typed_of all)
  unfolding first_with
  accepts none = outcome_typed all (ap first_of none)

  pub refused : (code : ℕ) (p : Place) → outcome all ≡ Err (refusal code p) → IsRefused all code p
  refused code p e = at (first_of (faults_of all)) refl
    where
      at : (o : Option Found) → first_of (faults_of all) ≡ o → IsRefused all code p
      at None g = let o = outcome_typed all g in absurd cc
      at (Some f) g =
          same_refusal {X = Typed} f.code code (place_of_fault f) p (IsRefused all) (sym (outcome_refused all f g) ∙ e)
          (record { found = f; first = first_is_first (faults_of all) f g; code_is = refl; place_is = refl })
