-- What passes a test among all that is told passes it at one edge.
use Rattle.std.proofs.Common.{◌≡◌, ℕ, zero, suc, ◌≤◌, Bool, true, false, List, [], ◌∷◌, ◌++◌, Option, Some, None, refl, sym, ap, subst, ◌∙◌, arith, ⊎_elim}
use Rattle.std.specs.Prelude.{IsTrue, ◌||◌, slice_get}
use Rattle.std.specs.List.{list_any}
use Rattle.std.proofs.lemmas.Bool.{cases_lt}
use Rattle.cfa.specs.declared.parts.Edge.{Edge}
use Rattle.cfa.specs.declared.parts.GraphParts.{GraphParts}
use Rattle.cfa.specs.declared.state.State.{State}
use Rattle.c_meaning.specs.declared.input.Input.{Input}
use Rattle.c_meaning.specs.declared.stepped.Stepped.{Stepped}
use Rattle.c_meaning.specs.declared.stepped.Stepped.TheVariants.{Moved, Returned, Trapped, Blocked, TooDeep}
use Rattle.c_meaning.specs.Runs.{state_from}
use Rattle.c_meaning.specs.Steps.{next}
use Rattle.tree_events.specs.declared.edge_events.event.Event.{Event}
use Rattle.tree_events_laws.specs.expression_events.Follows.{edge_tells, step_tells, state_tells, tells}
use Rattle.tree_events_laws.specs.event_laws.Happens.{Takes, HappensWhereTaken}
use Rattle.tree_events_laws.proofs.event_laws.Law.{ended_edges_tell}

or_parts : (a b c : Bool) → (a || (b || c)) ≡ ((a || b) || c)
or_parts true b c = refl
or_parts false b c = refl

or_true : (b : Bool) → (b || true) ≡ true
or_true true = refl
or_true false = refl

any_append : (test : Event → Bool) (xs ys : List Event) → list_any test (xs ++ ys) ≡ (list_any test xs || list_any test ys)
any_append test [] ys = refl
any_append test (x ∷ xs) ys = ap (λ b. test x || b) (any_append test xs ys) ∙ or_parts (test x) (list_any test xs) (list_any test ys)

module _ (parts : GraphParts) (input : Input) (first : State) (test : Event → Bool) where
  abbrev any : List Event → Bool
  any es = list_any test es

  -- at the last edge
  at_last : (n : ℕ) (o : Option State) → state_from parts input first n ≡ o → IsTrue (any (state_tells parts input o)) → Takes parts input first test (suc n)
  at_last n None is h = absurd cc
  at_last n (Some s) is h = by (next parts input s) refl h
    where
      edge : (at : ℕ) (to : State) (o : Option Edge) → next parts input s ≡ Moved at to → slice_get parts.edges at ≡ o → IsTrue (any (edge_tells o)) → Takes parts input first test (suc n)
      edge at to None goes there h = absurd cc
      edge at to (Some e) goes there h = record { number = n; less = omega arith; from = s; at = is; edge = at; to = to; goes = goes; taken = e; there = there; tells = h }

      by : (q : Stepped) → next parts input s ≡ q → IsTrue (any (step_tells parts input q)) → Takes parts input first test (suc n)
      by (Moved at to) goes h = edge at to (slice_get parts.edges at) goes refl h
      by (Returned value) goes h = absurd cc
      by (Trapped trap) goes h = absurd cc
      by Blocked goes h = absurd cc
      by TooDeep goes h = absurd cc

  forth : (n : ℕ) → IsTrue (any (tells parts input n first)) → Takes parts input first test n
  forth zero h = absurd cc
  forth (suc n) h = by (any (tells parts input n first)) refl (sym (any_append test (tells parts input n first) (state_tells parts input (state_from parts input first n))) ∙ h) (forth n)
    where
      by : (b : Bool) → any (tells parts input n first) ≡ b → IsTrue (b || any (state_tells parts input (state_from parts input first n))) → (IsTrue (any (tells parts input n first)) → Takes parts input first test n) → Takes parts input first test (suc n)
      by true e h before =
          let T = before e in
          record { number = T.number; less = let l = T.less in omega (arith, l); from = T.from; at = T.at; edge = T.edge; to = T.to; goes = T.goes; taken = T.taken; there = T.there; tells = T.tells }
      by false e h before = at_last n (state_from parts input first n) refl h

  back : (n : ℕ) → Takes parts input first test n → IsTrue (any (tells parts input n first))
  back zero T = let l = T.less in absurd (omega (arith, l))
  back (suc n) T =
      any_append test (tells parts input n first) (state_tells parts input (state_from parts input first n))
      ∙ ⊎_elim
      (λ less. ap (λ b. b || any (state_tells parts input (state_from parts input first n))) (back n (record { number = T.number; less = less; from = T.from; at = T.at; edge = T.edge; to = T.to; goes = T.goes; taken = T.taken; there = T.there; tells = T.tells })))
      (λ more. ap (λ b. any (tells parts input n first) || b) (own more) ∙ or_true (any (tells parts input n first))) (cases_lt T.number n)
    where
      own : n ≤ T.number → any (state_tells parts input (state_from parts input first n)) ≡ true
      own more =
          let l = T.less in
          let same : n ≡ T.number = omega (arith, more, l) in
          ap (λ i. any (state_tells parts input (state_from parts input first i))) same ∙ ap (λ o. any (state_tells parts input o)) T.at ∙ ap (λ q. any (step_tells parts input q)) T.goes ∙ ap (λ o. any (edge_tells o)) T.there ∙ T.tells

pub happens_where_taken : HappensWhereTaken
happens_where_taken t files entry f input n s more test made there starts path stop =
    let same = ended_edges_tell t files entry f input n s more made there starts path stop in (
      λ h. forth _ input _ test n (subst (λ (es : List Event). IsTrue (list_any test es)) same h),
      λ T. subst (λ (es : List Event). IsTrue (list_any test es)) (sym same) (back _ input _ test n T),
    )
