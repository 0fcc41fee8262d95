-- How words go on along a path.
use Rattle.std.proofs.Common.{◌≡◌, ℕ, zero, suc, ◌≤◌, ◌<◌, Bool, true, [], ◌∷◌, length, drop, Some, None, refl, sym, ◌∙◌, ap, subst, arith}
use Rattle.std.specs.Prelude.{slice_get, slice_index}
use Rattle.patterns.specs.declared.path_view.PathView.{PathView}
use Rattle.goals.specs.Words.{Word}
use Rattle.goals.specs.declared.goal_letter.GoalLetter.{GoalLetter}
use Rattle.goals.specs.declared.goal_letter.GoalLetter.TheVariants.{Node, Edge, Predicate, Absent, Quoted}
use Rattle.measurer_index.specs.word_index.Walks.{Goes, Walks}
use Rattle.measurer_index.specs.word_index.Groups.{GoesOn}

pub from_letter : (w : Word) (d : ℕ) (l : GoalLetter) → slice_get w d ≡ Some l → drop d w ≡ l ∷ drop (suc d) w
from_letter [] d l e = absurd (cc)
from_letter (m ∷ w) zero l e = ap (λ x. x ∷ w) (let f : m ≡ l = cc in f)
from_letter (m ∷ w) (suc d) l e = from_letter w d l e

pub from_end : (w : Word) (d : ℕ) → slice_get w d ≡ None → drop d w ≡ []
from_end [] zero e = refl
from_end [] (suc d) e = refl
from_end (m ∷ w) zero e = absurd (cc)
from_end (m ∷ w) (suc d) e = from_end w d e

module _ (path : PathView) where
  goes_forward : (l : GoalLetter) (i j : ℕ) → Goes path l i j → i ≤ j
  goes_forward (Node n) i j h = let e = h.0 in omega arith
  goes_forward (Edge n) i j h = let e = h.0 in omega arith
  goes_forward (Predicate n) i j h = let e = h.0 in omega arith
  goes_forward (Absent n) i j h = let e = h.0 in omega arith
  goes_forward (Quoted n) i j h = absurd h

  pub walks_forward : (w : Word) (i j : ℕ) → Walks path w i j → i ≤ j
  walks_forward [] i j h = omega arith
  walks_forward (l ∷ w) i j (m, (g, h)) = let a = goes_forward l i m g in let b = walks_forward w m j h in omega arith

  -- a letter that stays at a state goes from there to no other
  stays_there : (l : GoalLetter) (i m : ℕ) → Goes path l i i → Goes path l i m → m ≡ i
  stays_there (Node n) i m s h = h.0
  stays_there (Edge e) i m s h = let x = s.0 in absurd (omega arith)
  stays_there (Predicate p) i m s h = h.0
  stays_there (Absent p) i m s h = h.0
  stays_there (Quoted q) i m s h = absurd h

  module _ (last : Bool) (w : Word) (d k : ℕ) where
    -- past a letter that stays
    pub past_staying : (l : GoalLetter) → slice_get w d ≡ Some l → Goes path l k k → GoesOn path last (drop d w) k → GoesOn path last (drop (suc d) w) k
    past_staying l e stays g =
        let h : Walks path (l ∷ drop (suc d) w) k g.to = subst (λ x. Walks path x k g.to) (from_letter w d l e) g.walks in
        record { to = g.to; within = g.within; at_last = g.at_last; walks = subst (λ i. Walks path (drop (suc d) w) i g.to) (stays_there l k h.0 stays h.1.0) h.1.1 }

    pub before_letter : (l : GoalLetter) (m : ℕ) → slice_get w d ≡ Some l → Goes path l k m → GoesOn path last (drop (suc d) w) m → GoesOn path last (drop d w) k
    before_letter l m e goes g =
        record { to = g.to; within = g.within; at_last = g.at_last; walks = subst (λ x. Walks path x k g.to) (sym (from_letter w d l e)) (m, (goes, g.walks)) }

    -- the first letter goes to some state, and the rest goes on from there
    pub first_goes : (l : GoalLetter) → slice_get w d ≡ Some l → GoesOn path last (drop d w) k → (m : ℕ) × (Goes path l k m × GoesOn path last (drop (suc d) w) m)
    first_goes l e g =
        let h : Walks path (l ∷ drop (suc d) w) k g.to = subst (λ x. Walks path x k g.to) (from_letter w d l e) g.walks in
        (h.0, (h.1.0, record { to = g.to; within = g.within; at_last = g.at_last; walks = h.1.1 }))

    pub past_edge : (e : ℕ) → slice_get w d ≡ Some (Edge e) → GoesOn path last (drop d w) k → (slice_index path.edges k ≡ e) × (GoesOn path last (drop (suc d) w) (suc k) × (k < length path.edges))
    past_edge e is g =
        let f = first_goes (Edge e) is g in
        let rest : GoesOn path last (drop (suc d) w) (suc k) = subst (λ i. GoesOn path last (drop (suc d) w) i) f.1.0.0 f.1.1 in
        let forward = walks_forward (drop (suc d) w) (suc k) rest.to rest.walks in
        let within = rest.within in
        (f.1.0.1, (rest, omega arith))

    pub at_end : slice_get w d ≡ None → GoesOn path last (drop d w) k → last ≡ true → k ≡ length path.edges
    at_end e g is =
        let h : Walks path [] k g.to = subst (λ x. Walks path x k g.to) (from_end w d e) g.walks in
        sym h ∙ g.at_last is

    pub ends_here : slice_get w d ≡ None → k ≤ length path.edges → (last ≡ true → k ≡ length path.edges) → GoesOn path last (drop d w) k
    ends_here e within at_last = record { to = k; within = within; at_last = at_last; walks = subst (λ x. Walks path x k k) (sym (from_end w d e)) refl }
