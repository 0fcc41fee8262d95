-- Steps of the proof that the edges of a run tell what happens.
use Rattle.std.proofs.Common.{◌≡◌, ℕ, zero, suc, ◌+◌, ◌-◌, ◌≤◌, List, [], ◌++◌, Some, Result, Ok, Err, refl, sym, ap, subst, ◌∙◌, arith, append_assoc}
use Rattle.std.specs.Prelude.{option_and_then, slice_get}
use Rattle.std.proofs.lemmas.List.{append-nil}
use Rattle.cfa.specs.declared.parts.Edge.{Edge}
use Rattle.cfa.specs.declared.parts.GraphParts.{GraphParts}
use Rattle.cfa.specs.declared.state.State.{State}
use Rattle.cfa.specs.declared.state.Trap.{Trap}
use Rattle.c_meaning.specs.declared.input.Input.{Input}
use Rattle.c_meaning.specs.declared.stepped.Stepped.TheVariants.{Moved}
use Rattle.c_meaning.specs.Runs.{state_after, state_from}
use Rattle.c_meaning.specs.Steps.{next}
use Rattle.tree_events.specs.declared.edge_events.event.Event.{Event}
use Rattle.tree_events.specs.edge_events.Told.{told}
use Rattle.tree_meaning.specs.Outcomes.{Store, Done, Gives, Ends, OutOfTurns}
use Rattle.tree_events.specs.Outcomes.{Told, gives, behind, continued, ◌thence◌, unless_trap}
use Rattle.tree_events.specs.Expressions.{First, evaluated}
use Rattle.tree_meaning.specs.Expressions.{Rest}
use Rattle.tree_meaning_laws.specs.expression_laws.Follows.{Moves}
use Rattle.tree_meaning_laws.proofs.expression_laws.Follows.{moves_add}
use Rattle.tree_events_laws.specs.expression_events.Follows.{edge_tells, step_tells, state_tells, tells, FollowsBy, Follows}

-- ---- what is told, in another order

module _ {A B C : Type 0} (g : B → Store → Told C) where
  pub then_then : (t : Told A) (f : A → Store → Told B) → ((t thence f) thence g) ≡ (t thence λ x s. f x s thence g)
  then_then t f = by t.done
    where
      told_as : List Event → Done C → Told C
      told_as es d = record { events = es; done = d }

      by : (d : Done A) → ((behind t.events (continued d f)) thence g) ≡ behind t.events (continued d (λ x s. f x s thence g))
      by (Gives x s) = ap (λ (es : List Event). told_as es (continued (f x s).done g).done) (append_assoc t.events (f x s).events (continued (f x s).done g).events)
      by (Ends end) = ap (λ (es : List Event). told_as es (Ends end)) (append-nil (t.events ++ []))
      by OutOfTurns = ap (λ (es : List Event). told_as es OutOfTurns) (append-nil (t.events ++ []))

  pub trap_then : (r : Result A Trap) (f : A → Told B) → (unless_trap r f thence g) ≡ unless_trap r (λ x. f x thence g)
  trap_then (Ok x) f = refl
  trap_then (Err trap) f = refl

-- an evaluation, and then more
pub evaluated_then : {B : Type 0} (first : First) (rest : Rest) (s : Store) (k : ℕ → Store → Told B) → (evaluated first rest s thence k) ≡ (first [] s thence λ vs s'. unless_trap (rest vs s'.cells) (λ v. k v s'))
evaluated_then first rest s k =
    then_then k (first [] s) (λ vs s'. unless_trap (rest vs s'.cells) (λ v. gives v s'))
    ∙ ap (λ h. first [] s thence h) (λ i vs s'. trap_then k (rest vs s'.cells) (λ v. gives v s') i)

pub then_gives : {A : Type 0} (t : Told A) → (t thence λ x s. gives x s) ≡ t
then_gives {A} t = by t.done
  where
    by : (d : Done A) → behind t.events (continued d (λ x s. gives x s)) ≡ record { events = t.events; done = d }
    by (Gives x s) = ap (λ (es : List Event). record { events = es; done = Gives x s }) (append-nil t.events)
    by (Ends end) = ap (λ (es : List Event). record { events = es; done = Ends end }) (append-nil t.events)
    by OutOfTurns = ap (λ (es : List Event). record { events = es; done = OutOfTurns }) (append-nil t.events)

module _ (parts : GraphParts) (input : Input) where
  -- ---- moves

  pub tells_one : (at : ℕ) (e : Edge) (from to : State) → next parts input from ≡ Moved at to → slice_get parts.edges at ≡ Some e → tells parts input 1 from ≡ told e
  tells_one at e from to goes there = ap (step_tells parts input) goes ∙ ap edge_tells there

  state_add : (m n : ℕ) (from mid : State) → Moves parts input m from mid → state_from parts input from (n + m) ≡ state_from parts input mid n
  state_add m zero from mid p = let e : m ≡ 0 + m = omega arith in subst (λ i. state_from parts input from i ≡ Some mid) e p
  state_add m (suc n) from mid p =
      let sum : suc (n + m) ≡ suc n + m = omega arith in
      subst (λ i. state_from parts input from i ≡ state_from parts input mid (suc n)) sum (ap (option_and_then (state_after parts input)) (state_add m n from mid p))

  pub tells_add : (m n : ℕ) (from mid : State) → Moves parts input m from mid → tells parts input (n + m) from ≡ tells parts input m from ++ tells parts input n mid
  tells_add m zero from mid p = let e : m ≡ 0 + m = omega arith in subst (λ i. tells parts input i from ≡ tells parts input m from ++ []) e (sym (append-nil (tells parts input m from)))
  tells_add m (suc n) from mid p =
      let sum : suc (n + m) ≡ suc n + m = omega arith in
      subst (λ i. tells parts input i from ≡ tells parts input m from ++ tells parts input (suc n) mid) sum
      (ap (λ (es : List Event). es ++ state_tells parts input (state_from parts input from (n + m))) (tells_add m n from mid p)
      ∙ ap (λ o. (tells parts input m from ++ tells parts input n mid) ++ state_tells parts input o) (state_add m n from mid p)
      ∙ append_assoc (tells parts input m from) (tells parts input n mid) (state_tells parts input (state_from parts input mid n)))

  -- ---- what is done

  pub follows_give : {A : Type 0} (Reach : A → Store → State → Type 0) (from : State) (x : A) (s : Store) → Reach x s from → Follows parts input from s.turns s.turns Reach (gives x s)
  follows_give Reach from x s h = record { moves = 0; to = from; path = refl; tell = refl; there = h; enough = omega arith; few = omega arith }

  -- what is done behind so many moves, which tell these events
  pub follows_behind : {A : Type 0} (Reach : A → Store → State → Type 0) (n : ℕ) (from mid : State) (es : List Event) (low high low' high' : ℕ) (t : Told A)
      → Moves parts input n from mid → tells parts input n from ≡ es → low ≤ low' + n → high' ≤ high → Follows parts input mid low' high' Reach t → Follows parts input from low high Reach (behind es t)
  follows_behind {A} Reach n from mid es low high low' high' t p told_es l h f = by t.done f
    where
      both : (moves : ℕ) → tells parts input moves mid ≡ t.events → tells parts input (moves + n) from ≡ es ++ t.events
      both moves tell = tells_add n moves from mid p ∙ (λ i. told_es i ++ tell i)

      by : (d : Done A) → FollowsBy parts input mid low' high' Reach t.events d → FollowsBy parts input from low high Reach (es ++ t.events) d
      by (Gives x s) f = record { moves = f.moves + n; to = f.to; path = moves_add parts input n f.moves from mid f.to p f.path; tell = both f.moves f.tell; there = f.there; enough = omega (arith, f.enough, l); few = omega (arith, f.few, h) }
      by (Ends end) f = record { moves = f.moves + n; to = f.to; path = moves_add parts input n f.moves from mid f.to p f.path; tell = both f.moves f.tell; stops = f.stops }
      by OutOfTurns f = record { moves = f.moves + n; to = f.to; path = moves_add parts input n f.moves from mid f.to p f.path; tell = both f.moves f.tell; enough = omega (arith, f.enough, l) }

  -- one thing, and then another
  pub follows_then : {A B : Type 0} (Reach : A → Store → State → Type 0) (Reach' : B → Store → State → Type 0) (from : State) (low high : ℕ) (t : Told A) (k : A → Store → Told B)
      → Follows parts input from low high Reach t
      → ((x : A) (s : Store) (to : State) → Reach x s to → s.turns ≤ high → Follows parts input to s.turns s.turns Reach' (k x s))
      → Follows parts input from low high Reach' (t thence k)
  follows_then {A} {B} Reach Reach' from low high t k f rest = by t.done f
    where
      by : (d : Done A) → FollowsBy parts input from low high Reach t.events d → Follows parts input from low high Reach' (behind t.events (continued d k))
      by (Gives x s) f = follows_behind Reach' f.moves from f.to t.events low high s.turns s.turns (k x s) f.path f.tell f.enough f.few (rest x s f.to f.there f.few)
      by (Ends end) f = record { moves = f.moves; to = f.to; path = f.path; tell = f.tell ∙ sym (append-nil t.events); stops = f.stops }
      by OutOfTurns f = record { moves = f.moves; to = f.to; path = f.path; tell = f.tell ∙ sym (append-nil t.events); enough = f.enough }

  -- behind one move, which pays for a turn and tells these events
  pub follows_spare : {A B : Type 0} (Reach : A → Store → State → Type 0) (Reach' : B → Store → State → Type 0) (from mid : State) (es : List Event) (turns : ℕ) (t : Told A) (k : A → Store → Told B)
      → Moves parts input 1 from mid → tells parts input 1 from ≡ es → Follows parts input mid turns turns Reach t
      → ((x : A) (s : Store) (to : State) → Reach x s to → s.turns ≤ turns → Follows parts input to (s.turns - 1) s.turns Reach' (k x s))
      → Follows parts input from turns turns Reach' (behind es (t thence k))
  follows_spare {A} {B} Reach Reach' from mid es turns t k p told_es f rest = by t.done f
    where
      both : (moves : ℕ) → tells parts input moves mid ≡ t.events → tells parts input (moves + 1) from ≡ es ++ t.events
      both moves tell = tells_add 1 moves from mid p ∙ (λ i. told_es i ++ tell i)

      by : (d : Done A) → FollowsBy parts input mid turns turns Reach t.events d → Follows parts input from turns turns Reach' (behind es (behind t.events (continued d k)))
      by (Gives x s) f =
          let all = follows_behind Reach' (f.moves + 1) from f.to (es ++ t.events) turns turns (s.turns - 1) s.turns (k x s) (moves_add parts input 1 f.moves from mid f.to p f.path) (both f.moves f.tell) (omega (arith, f.enough)) f.few (rest x s f.to f.there f.few) in
          subst (λ (q : List Event). FollowsBy parts input from turns turns Reach' q (k x s).done) (append_assoc es t.events (k x s).events) all
      by (Ends end) f = record { moves = f.moves + 1; to = f.to; path = moves_add parts input 1 f.moves from mid f.to p f.path; tell = both f.moves f.tell ∙ ap (λ (q : List Event). es ++ q) (sym (append-nil t.events)); stops = f.stops }
      by OutOfTurns f = record { moves = f.moves + 1; to = f.to; path = moves_add parts input 1 f.moves from mid f.to p f.path; tell = both f.moves f.tell ∙ ap (λ (q : List Event). es ++ q) (sym (append-nil t.events)); enough = omega (arith, f.enough) }

  -- what holds at the end may be less
  pub follows_less : {A : Type 0} (Reach Reach' : A → Store → State → Type 0) (from : State) (low high : ℕ) (t : Told A) → ((x : A) (s : Store) (to : State) → Reach x s to → Reach' x s to) → Follows parts input from low high Reach t → Follows parts input from low high Reach' t
  follows_less {A} Reach Reach' from low high t h f = by t.done f
    where
      by : (d : Done A) → FollowsBy parts input from low high Reach t.events d → FollowsBy parts input from low high Reach' t.events d
      by (Gives x s) f = record { moves = f.moves; to = f.to; path = f.path; tell = f.tell; there = h x s f.to f.there; enough = f.enough; few = f.few }
      by (Ends end) f = f
      by OutOfTurns f = f
