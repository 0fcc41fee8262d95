use Rattle.std.proofs.Common.{◌≡◌, ◌+◌, ◌<◌, List, ◌∷◌, drop, get_or, length, subst, arith, drop-cons, add-one, ℕ}
use Rattle.std.specs.Prelude.{IfSome, Option}
use Rattle.std.proofs.Math.ListN.{drop_of_length-le}
use Rattle.cfa.specs.Contexts.{Context}
use Rattle.unwinder_reach.specs.reached.Reaching.{IsWithinBounds}
use Rattle.suite.specs.candidates.Standing.{GoesOn, IsOnWay, Stands}
use Rattle.suite.specs.declared.candidates.standing.Standing.{Standing}
use Rattle.suite.proofs.candidates.WithinLaws.{begins, ends, goes_on}
use Rattle.suite.proofs.candidates.within.is_within.Goals as goal

pub returns : goal.returns
returns c = λ yes.
    let parts = c.args.graph.now in
    let bounds = c.args.bounds.now in
    let f = c.args.function.now in
    let edges = c.args.edges.now in
    let none = drop_of_length-le edges c.loop-at-test.false in
    ends parts bounds f edges c.loop-at.standing (subst (λ (rest : List ℕ). IsOnWay parts bounds f edges rest c.loop-at.standing) none c.loop-at.invariant)

pub loop-at-init : goal.loop-at-init
loop-at-init c = begins c.args.graph.now c.args.bounds.now c.args.function.now c.args.edges.now c.first_standing-standing.result c.requires c.first_standing-standing.ensures

pub loop-at-preserved : goal.loop-at-preserved
loop-at-preserved c =
    let parts = c.args.graph.now in
    let bounds = c.args.bounds.now in
    let f = c.args.function.now in
    let edges = c.args.edges.now in
    let i = c.loop-at.at-index in
    let s = c.loop-at.standing in
    let lt : i < length edges = omega arith in
    let split : drop i edges ≡ get_or edges i 0 ∷ drop (i + 1) edges = rw add-one (drop-cons edges i 0 lt) in
    let way : IsOnWay parts bounds f edges (get_or edges i 0 ∷ drop (i + 1) edges) s = subst (λ (rest : List ℕ). IsOnWay parts bounds f edges rest s) split c.loop-at.invariant in
    let Goes : Standing → Type 0 = λ t. (d : Context) → Stands s d → IsWithinBounds bounds d → GoesOn parts bounds (get_or edges i 0) d t in
    let on : Goes c.in-Some.next = subst (λ (after : Option Standing). IfSome after Goes) c.in-Some.is c.in_ok-next.ensures in
    goes_on parts bounds f edges (drop (i + 1) edges) (get_or edges i 0) s c.in-Some.next way on
