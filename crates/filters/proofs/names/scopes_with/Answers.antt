use Rattle.std.proofs.Common.{◌≡◌, ap, length, arith}
use Rattle.filters.proofs.NamesLaws.{scopes_are}
use Rattle.filters.proofs.names.scopes_with.Goals as goal

pub returns : goal.returns
returns c =
    let e : length c.scopes-scope-end.result.now ≡ length c.args.graph.now.scopes = ap length c.scopes-scope-end.ensures in
    let size : length c.loop-scope.marks.items ≡ length c.args.graph.now.scopes = omega (arith, e, c.loop-scope.invariant.size) in
    scopes_are c.args.graph.now c.args.name.now c.loop-scope.marks.items size (λ k lt. c.loop-scope.invariant.each k (omega (arith, e)))
