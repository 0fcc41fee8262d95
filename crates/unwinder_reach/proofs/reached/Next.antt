-- Which pair follows along an edge.
use Rattle.std.proofs.Common.{◌≡◌, ℕ, ◌<◌, ◌^◌, Some, None, sym, ap, ◌∙◌, subst}
use Rattle.std.specs.Prelude.{slice_get}
use Rattle.std.proofs.lemmas.Option.{same_Some}
use Rattle.cfa.specs.declared.parts.Edge.{Edge}
use Rattle.cfa.specs.declared.parts.GraphParts.{GraphParts}
use Rattle.cfa.specs.Contexts.{Pair, ReturnsHome, along}
use Rattle.unwinder_reach.specs.declared.reached.bounds.Bounds.{Bounds}
use Rattle.unwinder_reach.specs.reached.Reaching.{FollowsWithin, IsWithinBounds}
use Rattle.unwinder_reach.specs.reached.Searching.{IsNextAlong, IsPastBounds}

pub no_edge : (parts : GraphParts) (bounds : Bounds) (at : ℕ) (p : Pair) → slice_get parts.edges at ≡ None → IsNextAlong parts bounds at p None
no_edge parts bounds at p none e q fw = let there = fw.follows.edge in absurd (cc)

module _ (parts : GraphParts) (bounds : Bounds) (at : ℕ) (p : Pair) (own : Edge) (there : slice_get parts.edges at ≡ Some own) where
  abbrev Leads : Edge → Type 0
  Leads e = (e.source ≡ p.node) × ReturnsHome e.operation p.context × IsWithinBounds bounds (along parts at e p.context)

  leads : (e : Edge) (q : Pair) → FollowsWithin parts bounds at e p q → Leads own
  leads e q fw =
      let same : e ≡ own = same_Some e own (sym fw.follows.edge ∙ there) in
      subst Leads same (fw.follows.leaves, fw.follows.home, subst (IsWithinBounds bounds) (ap (λ (r : Pair). r.context) fw.follows.reaches) fw.within)

  pub not_left : ¬ ((own.source ≡ p.node) × ReturnsHome own.operation p.context) → IsNextAlong parts bounds at p None
  not_left ill e q fw = let l = leads e q fw in ill (l.0, l.1)

  pub not_within : ¬ IsWithinBounds bounds (along parts at own p.context) → IsNextAlong parts bounds at p None
  not_within ill e q fw = ill (leads e q fw).2

  pub is_past : bounds.turns < 2 ^ 32 → bounds.answers < 2 ^ 32 → IsPastBounds (along parts at own p.context) → IsNextAlong parts bounds at p None
  is_past turns answers past = not_within (past bounds.turns bounds.frames bounds.answers turns answers)

  pub follows : (q : Pair) → (own.source ≡ p.node) × ReturnsHome own.operation p.context → q ≡ record { node = own.target; context = along parts at own p.context } → IsWithinBounds bounds q.context → IsNextAlong parts bounds at p (Some q)
  follows q left is within = (own, record { follows = record { edge = there; leaves = left.0; home = left.1; reaches = is }; within = within })

  pub outside : (q : Pair) → q ≡ record { node = own.target; context = along parts at own p.context } → ¬ IsWithinBounds bounds q.context → IsNextAlong parts bounds at p None
  outside q is ill = not_within (λ w. ill (subst (IsWithinBounds bounds) (sym (ap (λ (r : Pair). r.context) is)) w))
