-- From the pairs of the first edges to those of all.
use Rattle.std.proofs.Common.{◌≡◌, ℕ, ◌≤◌, List, [], ◌∷◌, sym, ap, subst, arith}
use Rattle.cfa.specs.Contexts.{Context, FrameContext, Pair, along, first_context, first_pair}
use Rattle.cfa.specs.Each.{Each}
use Rattle.cfa.specs.declared.parts.Function.{Function}
use Rattle.cfa.specs.declared.parts.GraphParts.{GraphParts}
use Rattle.c_meaning.specs.Pairs.{pair_after, pair_along, pairs_along}
use Rattle.unwinder_reach.specs.reached.Reaching.{IsWithinBounds}
use Rattle.unwinder_reach.specs.declared.reached.bounds.Bounds.{Bounds}
use Rattle.suite.specs.candidates.Standing.{GoesOn, IsOnWay, Stands}
use Rattle.suite.specs.candidates.Within.{AreEdgesWithin, AreWithinFrom}
use Rattle.suite.specs.declared.candidates.standing.Standing.{Standing}
use Rattle.suite.proofs.candidates.StandingLaws.{each_cons}

first_within : (bounds : Bounds) → 1 ≤ bounds.frames → IsWithinBounds bounds first_context
first_within bounds some = record {
  turns_kept = each_cons (λ (f : FrameContext). Each f.counters (λ j n. n ≤ bounds.turns)) (record { call = _; counters = [] }) [] (λ j n e. absurd cc) (λ i f e. absurd cc);
  frames_kept = some;
  answers_kept = omega arith;
}

pub begins : (parts : GraphParts) (bounds : Bounds) (f : Function) (edges : List ℕ) (s : Standing) → 1 ≤ bounds.frames → Stands s first_context → IsOnWay parts bounds f edges edges s
begins parts bounds f edges s some stands = record { pair = first_pair f; stands = stands; within = first_within bounds some; all = λ h. h }

pub ends : (parts : GraphParts) (bounds : Bounds) (f : Function) (edges : List ℕ) (s : Standing) → IsOnWay parts bounds f edges [] s → AreEdgesWithin parts bounds f edges
ends parts bounds f edges s way = way.all (each_cons (λ (q : Pair). IsWithinBounds bounds q.context) way.pair [] way.within (λ i q e. absurd cc))

pub goes_on : (parts : GraphParts) (bounds : Bounds) (f : Function) (edges rest : List ℕ) (at : ℕ) (s t : Standing) → IsOnWay parts bounds f edges (at ∷ rest) s
    → ((c : Context) → Stands s c → IsWithinBounds bounds c → GoesOn parts bounds at c t) → IsOnWay parts bounds f edges rest t
goes_on parts bounds f edges rest at s t way on =
    let it = on way.pair.context way.stands way.within in
    let next : Pair = record { node = it.edge.target; context = along parts at it.edge way.pair.context } in
    let same : next ≡ pair_along parts way.pair at = ap (pair_after parts at way.pair) (sym it.there) in
    record {
      pair = next;
      stands = it.stands;
      within = it.within;
      all = λ h. way.all (each_cons (λ (q : Pair). IsWithinBounds bounds q.context) way.pair (pair_along parts way.pair at ∷ pairs_along parts (pair_along parts way.pair at) rest) way.within (subst (λ q. AreWithinFrom parts bounds q rest) same h));
    }
