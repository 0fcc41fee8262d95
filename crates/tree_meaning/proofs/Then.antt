-- What is done first, and then something else.
use Rattle.std.proofs.Common.{◌≡◌, refl, sym, ap, subst, ◌∙◌}
use Rattle.std.specs.Prelude.{Result, Ok, Err}
use Rattle.cfa.specs.declared.state.Trap.{Trap}
use Rattle.tree_meaning.specs.Outcomes.{Store, TrapEnd, Done, Gives, Ends, OutOfTurns, ◌andthen◌, unless_trap}
use Rattle.tree_meaning.specs.Stopping.{IsStop}
use Rattle.tree_meaning.specs.declared.stop.Stop.{Stop}
use Rattle.tree_meaning.specs.declared.stop.Stop.TheVariants as stop

pub memory_stops : {A : Type 0} (s : Stop) (d : Done A) → s ≡ stop.Memory → IsStop s d
memory_stops stop.Memory d e = tt
memory_stops (stop.Trapped trap) d e = absurd (cc)
memory_stops stop.Blocked d e = absurd (cc)
memory_stops stop.TooDeep d e = absurd (cc)
memory_stops stop.OutOfTurns d e = absurd (cc)

pub same_stop : {A : Type 0} (s : Stop) (d d' : Done A) → d ≡ d' → IsStop s d' → IsStop s d
same_stop s d d' e h = subst (λ (q : Done _). IsStop s q) (sym e) h

module _ {A B : Type 0} (next : A → Store → Done B) where
  pub then_gives : (d : Done A) (x : A) (s : Store) (r : Done B) → d ≡ Gives x s → next x s ≡ r → (d andthen next) ≡ r
  then_gives d x s r e h = ap (λ (q : Done A). q andthen next) e ∙ h

  pub then_stops : (s : Stop) (d : Done A) → IsStop s d → IsStop s (d andthen next)
  then_stops stop.Memory d h = tt
  then_stops (stop.Trapped trap) d h = ap (λ (q : Done A). q andthen next) h
  then_stops stop.Blocked d h = ap (λ (q : Done A). q andthen next) h
  then_stops stop.TooDeep d h = ap (λ (q : Done A). q andthen next) h
  then_stops stop.OutOfTurns d h = ap (λ (q : Done A). q andthen next) h

  pub later_stops : (s : Stop) (d : Done A) (x : A) (s' : Store) → d ≡ Gives x s' → IsStop s (next x s') → IsStop s (d andthen next)
  later_stops s d x s' e h = subst (λ (q : Done A). IsStop s (q andthen next)) (sym e) h

module _ {A B : Type 0} (next : A → Done B) where
  pub value_gives : (r : Result A Trap) (x : A) (d : Done B) → r ≡ Ok x → next x ≡ d → unless_trap r next ≡ d
  value_gives r x d e h = ap (λ (q : Result A Trap). unless_trap q next) e ∙ h

  pub trap_ends : (r : Result A Trap) (trap : Trap) → r ≡ Err trap → unless_trap r next ≡ Ends (TrapEnd trap)
  trap_ends r trap e = ap (λ (q : Result A Trap). unless_trap q next) e

  pub value_stops : (s : Stop) (r : Result A Trap) (x : A) → r ≡ Ok x → IsStop s (next x) → IsStop s (unless_trap r next)
  value_stops s r x e h = subst (λ (q : Result A Trap). IsStop s (unless_trap q next)) (sym e) h

module _ {A B C : Type 0} (g : B → Store → Done C) where
  pub then_then : (d : Done A) (f : A → Store → Done B) → ((d andthen f) andthen g) ≡ (d andthen λ x s. f x s andthen g)
  then_then (Gives x s) f = refl
  then_then (Ends end) f = refl
  then_then OutOfTurns f = refl

  pub trap_then : (r : Result A Trap) (f : A → Done B) → (unless_trap r f andthen g) ≡ unless_trap r (λ x. f x andthen g)
  trap_then (Ok x) f = refl
  trap_then (Err trap) f = refl
