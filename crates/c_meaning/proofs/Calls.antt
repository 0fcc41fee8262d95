-- What a call hands over meets the rules.
use Rattle.std.proofs.Common.{◌≡◌, ℕ, zero, suc, ◌<◌, Bool, List, [], ◌∷◌, Option, Some, None, map, length, refl, subst, ◌∙◌}
use Rattle.std.specs.Prelude.{Result, Ok, IfOk, IsTrue, slice_get}
use Rattle.std.specs.Option.{is_some}
use Rattle.std.proofs.lemmas.Bool.{lt-leb}
use Rattle.std.proofs.lemmas.Option.{same_Some}
use Rattle.std.proofs.lemmas.Result.{IfOk-weaker}
use Rattle.c_values.specs.declared.kinds.Kind.{Kind}
use Rattle.c_values.proofs.Fitting.{and_left, and_right}
use Rattle.cfa.specs.declared.expr.ArrayPlace.{ArrayPlace}
use Rattle.cfa.specs.declared.expr.Expr.{Expr}
use Rattle.cfa.specs.declared.parts.Edge.{Edge}
use Rattle.cfa.specs.declared.parts.Function.{Function}
use Rattle.cfa.specs.declared.state.State.{State}
use Rattle.cfa.specs.Each.{matched}
use Rattle.cfa.specs.Graph.{arrays_fit, words_fit, word_fits, call_fits}
use Rattle.cfa.specs.Rules.{Room, array_fits, checked_kind, expr_fits, has_kind}
use Rattle.c_meaning.specs.declared.stepped.Step.{Step}
use Rattle.c_meaning.specs.Steps.{called, call_of, start_in, stepped, values_in}

-- each element of a list that matches another passes the test with some element of that
matched_at : {X Y : Type 0} (test : X → Y → Bool) (xs : List X) (ys : List Y) (k : ℕ) (x : X) → IsTrue (matched test xs ys) → slice_get xs k ≡ Some x → (y : Y) × IsTrue (test x y)
matched_at test [] ys k x h e = absurd cc
matched_at test (z ∷ xs) [] k x h e = absurd cc
matched_at test (z ∷ xs) (y ∷ ys) zero x h e =
    (y, subst (λ q. IsTrue (test q y)) (same_Some z x e) (and_left (test z y) (matched test xs ys) h))
matched_at test (z ∷ xs) (y ∷ ys) (suc k) x h e = matched_at test xs ys k x (and_right (test z y) (matched test xs ys) h) e

has_some : (o : Option Kind) (kind : Kind) → IsTrue (has_kind o kind) → IsTrue (is_some o)
has_some None kind h = absurd cc
has_some (Some own) kind h = refl

module _ (room : Room) (f : Function) (words : List Expr) (arrays : List ArrayPlace) where
  -- each word meets the rules
  pub call_word : IsTrue (call_fits room (Some f) words arrays) → (k : ℕ) (word : Expr) → slice_get words k ≡ Some word → IsTrue (expr_fits room word)
  call_word h k word e =
      let m = matched_at (word_fits room) words f.parameters k word (and_left (words_fit room words f.parameters) (arrays_fit room arrays f.arrays) h) e in
      has_some (checked_kind room word) m.0 m.1

  -- each array is an array that may be lent
  pub call_array : IsTrue (call_fits room (Some f) words arrays) → (k : ℕ) (array : ArrayPlace) → slice_get arrays k ≡ Some array → (count : ℕ) × IsTrue (array_fits room array count)
  call_array h k array e =
      matched_at (array_fits room) arrays f.arrays k array (and_right (words_fit room words f.parameters) (arrays_fit room arrays f.arrays) h) e

-- a call where fewer than 64 frames stand
pub call_made : {E : Type 0} (s to : State) (at : ℕ) (e : Edge) (words : List Expr) (arrays : List ArrayPlace) (f : Function) (starts values : List ℕ) (r : Result Step E) → length s.frames < 64 → starts ≡ map (start_in s) arrays → Ok values ≡ values_in s words → IfOk r (λ step. stepped step to ≡ called s at e starts f values) → IfOk r (λ step. stepped step to ≡ call_of s at e words arrays (Some f))
call_made s to at e words arrays f starts values r few places is h =
    let made : called s at e starts f values ≡ call_of s at e words arrays (Some f) = rw (lt-leb 64 (length s.frames) few, ← is, places) refl in
    IfOk-weaker r _ _ (λ step told. told ∙ made) h
