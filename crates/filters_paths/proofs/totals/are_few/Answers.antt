use Rattle.std.proofs.Common.{ℕ, ◌-◌, ◌^◌, ◌≤◌, List, min, ap, subst, arith}
use Rattle.std.specs.List.{sum_by}
use Rattle.std.proofs.lemmas.Bool.{leb-true}
use Rattle.filters_paths.specs.Ground.{parts_of}
use Rattle.filters_paths.specs.Totals.{AreTotals, by_edge}
use Rattle.filters_paths.proofs.CountLaws.{few}
use Rattle.filters_paths.proofs.totals.are_few.Goals as goal

pub returns : goal.returns
returns c = λ low.
    let g = c.args.ground.now in
    let totals = c.in_ok-totals.totals.items in
    let T : List ℕ → Type 0 = λ xs. AreTotals (parts_of g) g.ends.items g.uses.items xs in
    let are = subst T c.deref.ensures.value (c.are_totals.ensures c.if-not-are_totals.false) in
    let total = c.total_of_firsts-total.ensures in
    let same = ap (λ xs. min (sum_by (by_edge (parts_of g) g.uses.items xs) g.firsts.items) (2 ^ 64 - 1)) c.deref-2.ensures.value in
    let under = leb-true c.total_of_firsts-total.result c.args.limit low in
    few g c.requires (λ k x is. (c.well_formed-2.ensures.edges k x is).target) totals are c.args.limit c.ranges.limit.fits (omega arith)
