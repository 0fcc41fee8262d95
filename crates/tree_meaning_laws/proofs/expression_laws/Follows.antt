-- Steps of the proof that the states of a run do what a meaning says.
use Rattle.std.proofs.Common.{◌≡◌, ℕ, zero, suc, ◌+◌, ◌-◌, ◌<◌, ◌≤◌, Option, Some, None, refl, sym, ap, subst, ◌∙◌, arith, ⊎_elim}
use Rattle.std.proofs.lemmas.Bool.{cases_order}
use Rattle.std.proofs.lemmas.Option.{same_Some}
use Rattle.std.specs.Prelude.{option_and_then}
use Rattle.cfa.specs.declared.parts.GraphParts.{GraphParts}
use Rattle.cfa.specs.declared.state.State.{State}
use Rattle.c_meaning.specs.declared.input.Input.{Input}
use Rattle.c_meaning.specs.declared.stepped.Stepped.{Stepped}
use Rattle.c_meaning.specs.declared.stepped.Stepped.TheVariants.{Moved}
use Rattle.c_meaning.specs.Runs.{state_moved, state_after, state_from}
use Rattle.c_meaning.specs.Steps.{next}
use Rattle.tree_meaning.specs.Outcomes.{Store, Done, Gives, Ends, OutOfTurns, ◌andthen◌}
use Rattle.tree_meaning_laws.specs.expression_laws.Follows.{Moves, Follows}

module _ (parts : GraphParts) (input : Input) where
  pub move_one : (at : ℕ) (from to : State) → next parts input from ≡ Moved at to → Moves parts input 1 from to
  move_one at from to e = ap state_moved e

  pub moves_add : (m n : ℕ) (from mid to : State) → Moves parts input m from mid → Moves parts input n mid to → Moves parts input (n + m) from to
  moves_add m zero from mid to h k = let e : m ≡ 0 + m = omega arith in subst (λ i. Moves parts input i from to) e (h ∙ k)
  moves_add m (suc n) from mid to h k = by (state_from parts input mid n) refl (λ q e. moves_add m n from mid q h e) k
    where
      by : (o : Option State) → state_from parts input mid n ≡ o → ((q : State) → Moves parts input n mid q → Moves parts input (n + m) from q) → option_and_then (state_after parts input) o ≡ Some to → Moves parts input (suc n + m) from to
      by None e more k = absurd cc
      by (Some q) e more k =
          let rest = more q e in
          let sum : suc (n + m) ≡ suc n + m = omega arith in
          subst (λ i. Moves parts input i from to) sum (ap (option_and_then (state_after parts input)) rest ∙ k)

  -- nothing is done
  pub follows_give : {A : Type 0} (Reach : A → Store → State → Type 0) (from : State) (x : A) (s : Store) → Reach x s from → Follows parts input from s.turns s.turns Reach (Gives x s)
  follows_give Reach from x s h = record { moves = 0; to = from; path = refl; there = h; enough = omega arith; few = omega arith }

  -- moves before
  pub follows_behind : {A : Type 0} (Reach : A → Store → State → Type 0) (n : ℕ) (from mid : State) (low high low' high' : ℕ) (d : Done A)
      → Moves parts input n from mid → low ≤ low' + n → high' ≤ high → Follows parts input mid low' high' Reach d → Follows parts input from low high Reach d
  follows_behind Reach n from mid low high low' high' (Gives x s) p l h f = record { moves = f.moves + n; to = f.to; path = moves_add n f.moves from mid f.to p f.path; there = f.there; enough = omega (arith, f.enough, l); few = omega (arith, f.few, h) }
  follows_behind Reach n from mid low high low' high' (Ends end) p l h f = record { moves = f.moves + n; to = f.to; path = moves_add n f.moves from mid f.to p f.path; stops = f.stops }
  follows_behind Reach n from mid low high low' high' OutOfTurns p l h f = record { moves = f.moves + n; to = f.to; path = moves_add n f.moves from mid f.to p f.path; enough = omega (arith, f.enough, l) }

  -- one thing, and then another
  pub follows_then : {A B : Type 0} (Reach : A → Store → State → Type 0) (Reach' : B → Store → State → Type 0) (from : State) (low high : ℕ) (d : Done A) (k : A → Store → Done B)
      → Follows parts input from low high Reach d
      → ((x : A) (s : Store) (to : State) → Reach x s to → s.turns ≤ high → Follows parts input to s.turns s.turns Reach' (k x s))
      → Follows parts input from low high Reach' (d andthen k)
  follows_then Reach Reach' from low high (Gives x s) k f rest = follows_behind Reach' f.moves from f.to low high s.turns s.turns (k x s) f.path f.enough f.few (rest x s f.to f.there f.few)
  follows_then Reach Reach' from low high (Ends end) k f rest = f
  follows_then Reach Reach' from low high OutOfTurns k f rest = f

  -- the same behind one move, which pays for a turn
  pub follows_spare : {A B : Type 0} (Reach : A → Store → State → Type 0) (Reach' : B → Store → State → Type 0) (from mid : State) (turns : ℕ) (d : Done A) (k : A → Store → Done B)
      → Moves parts input 1 from mid → Follows parts input mid turns turns Reach d
      → ((x : A) (s : Store) (to : State) → Reach x s to → s.turns ≤ turns → Follows parts input to (s.turns - 1) s.turns Reach' (k x s))
      → Follows parts input from turns turns Reach' (d andthen k)
  follows_spare Reach Reach' from mid turns (Gives x s) k p f rest =
      follows_behind Reach' (f.moves + 1) from f.to turns turns (s.turns - 1) s.turns (k x s) (moves_add 1 f.moves from mid f.to p f.path) (omega (arith, f.enough)) f.few (rest x s f.to f.there f.few)
  follows_spare Reach Reach' from mid turns (Ends end) k p f rest = record { moves = f.moves + 1; to = f.to; path = moves_add 1 f.moves from mid f.to p f.path; stops = f.stops }
  follows_spare Reach Reach' from mid turns OutOfTurns k p f rest = record { moves = f.moves + 1; to = f.to; path = moves_add 1 f.moves from mid f.to p f.path; enough = omega (arith, f.enough) }

  -- what holds at the end may be less
  pub follows_less : {A : Type 0} (Reach Reach' : A → Store → State → Type 0) (from : State) (low high : ℕ) (d : Done A) → ((x : A) (s : Store) (to : State) → Reach x s to → Reach' x s to) → Follows parts input from low high Reach d → Follows parts input from low high Reach' d
  follows_less Reach Reach' from low high (Gives x s) h f = record { moves = f.moves; to = f.to; path = f.path; there = h x s f.to f.there; enough = f.enough; few = f.few }
  follows_less Reach Reach' from low high (Ends end) h f = f
  follows_less Reach Reach' from low high OutOfTurns h f = f

  -- moves behind, at which nothing is done
  pub follows_onto : {A : Type 0} (Reach Reach' : A → Store → State → Type 0) (from : State) (low high : ℕ) (d : Done A) → Follows parts input from low high Reach d
      → ((x : A) (s : Store) (to : State) → Reach x s to → s.turns ≤ high → Follows parts input to s.turns s.turns Reach' (Gives x s)) → Follows parts input from low high Reach' d
  follows_onto Reach Reach' from low high (Gives x s) f h = follows_behind Reach' f.moves from f.to low high s.turns s.turns (Gives x s) f.path f.enough f.few (h x s f.to f.there f.few)
  follows_onto Reach Reach' from low high (Ends end) f h = f
  follows_onto Reach Reach' from low high OutOfTurns f h = f

  -- ---- one run

  -- a run ends so
  pub record EndsIn (from : State) (end : Stepped) : Type 0 where
    pub moves : ℕ
    pub to : State
    pub path : Moves parts input moves from to
    pub stops : next parts input to ≡ end

  -- behind an end there is no state
  past_end : (n m : ℕ) (from to : State) → Moves parts input n from to → state_after parts input to ≡ None → state_from parts input from (suc m + n) ≡ None
  past_end n zero from to p e = let sum : suc n ≡ suc zero + n = omega arith in subst (λ i. state_from parts input from i ≡ None) sum (ap (option_and_then (state_after parts input)) p ∙ e)
  past_end n (suc m) from to p e =
      let sum : suc (suc m + n) ≡ suc (suc m) + n = omega arith in
      subst (λ i. state_from parts input from i ≡ None) sum (ap (option_and_then (state_after parts input)) (past_end n m from to p e))

  pub no_later : (n m : ℕ) (from to to' : State) → Moves parts input n from to → state_after parts input to ≡ None → Moves parts input m from to' → n < m → ⊥
  no_later n m from to to' p e q less =
      let sum : suc (m - suc n) + n ≡ m = omega (arith, less) in
      let none : state_from parts input from m ≡ None = subst (λ i. state_from parts input from i ≡ None) sum (past_end n (m - suc n) from to p e) in
      let both : Some to' ≡ None = sym q ∙ none in cc

  -- a run has one end
  pub one_end : (n m : ℕ) (from to to' : State) → Moves parts input n from to → state_after parts input to ≡ None → Moves parts input m from to' → state_after parts input to' ≡ None → to ≡ to'
  one_end n m from to to' p e q f =
      ⊎_elim (λ same. same_Some to to' (sym p ∙ ap (state_from parts input from) same ∙ q))
      (λ other. ⊎_elim (λ less. absurd (no_later n m from to to' p e q less)) (λ less. absurd (no_later m n from to' to q f p less)) other) (cases_order n m)
