use Rattle.std.proofs.Common.{◌≡◌, ◌<◌, ◌+◌, List, ℕ, length, get_or, sym, subst, arith}
use Rattle.std.specs.Prelude.{slice_index}
use Rattle.std.proofs.lemmas.List.{get_or_read}
use Rattle.measurer_index.specs.occurrences.Places.{AreTables, StandsFrom, IsFirstFrom, IsGroup, IsBoundary}
use Rattle.measurer_index.proofs.occurrences.Groups.{found_place, found_none, group_at, stands_later}
use Rattle.measurer_index.proofs.occurrences.occurrences.Occurrences.first_from.Goals as goal

-- the places of the number
group_of : (numbers places begins : List ℕ) (x begin end : ℕ) → AreTables numbers places begins → x + 1 < length begins → begin ≡ get_or begins x begin → end ≡ get_or begins (x + 1) end → IsGroup numbers x places begin end
group_of numbers places begins x begin end h lt b e = group_at numbers places begins x begin end h lt (get_or_read begins x begin (omega arith) b 0) (get_or_read begins (x + 1) end lt e 0)

pub boundary-found-requires : goal.boundary-found-requires
boundary-found-requires c =
    let lt : c.args.number + 1 < length c.self.inside.begins.items = omega arith in
    let g = group_of c.self.inside.numbers.now c.self.inside.places.items c.self.inside.begins.items c.args.number c.index.result.now c.index-end.result.now c.self.invariant lt c.index.ensures c.index-end.ensures in
    let within = g.within in
    record { forward = g.forward; within = omega arith }

pub returns-then-number-len : goal.returns-then-number-len
returns-then-number-len c = λ s. c.self.invariant.none_above c.args.number (omega arith) (stands_later c.self.inside.numbers.now c.args.number c.args.start (subst (λ (xs : List ℕ). StandsFrom xs c.args.number c.args.start) (sym c.self.view_is) s))

pub returns-then-found-end : goal.returns-then-found-end
returns-then-found-end c =
    let numbers = c.self.inside.numbers.now in
    let places = c.self.inside.places.items in
    let x = c.args.number in
    let lt : x + 1 < length c.self.inside.begins.items = omega arith in
    let g = group_of numbers places c.self.inside.begins.items x c.index.result.now c.index-end.result.now c.self.invariant lt c.index.ensures c.index-end.ensures in
    let b = subst (λ (xs : List ℕ). IsBoundary xs c.index.result.now c.index-end.result.now c.args.start c.boundary-found.result) c.deref.ensures.value c.boundary-found.ensures in
    let within = g.within in
    let below = c.if-found-end.true in
    let f = found_place numbers x places c.index.result.now c.index-end.result.now c.args.start c.boundary-found.result g b below in
    let read = get_or_read places c.boundary-found.result c.index-then-found-end.result.now (omega arith) c.index-then-found-end.ensures 0 in
    subst (λ p. IsFirstFrom c.args.self.now x c.args.start p) (sym read) (subst (λ (xs : List ℕ). IsFirstFrom xs x c.args.start (slice_index places c.boundary-found.result)) c.self.view_is f)

pub returns-else-found-end : goal.returns-else-found-end
returns-else-found-end c =
    let numbers = c.self.inside.numbers.now in
    let places = c.self.inside.places.items in
    let x = c.args.number in
    let lt : x + 1 < length c.self.inside.begins.items = omega arith in
    let g = group_of numbers places c.self.inside.begins.items x c.index.result.now c.index-end.result.now c.self.invariant lt c.index.ensures c.index-end.ensures in
    let b = subst (λ (xs : List ℕ). IsBoundary xs c.index.result.now c.index-end.result.now c.args.start c.boundary-found.result) c.deref.ensures.value c.boundary-found.ensures in
    let none = found_none numbers x places c.index.result.now c.index-end.result.now c.args.start c.boundary-found.result g b c.if-found-end.false in
    λ s. none (subst (λ (xs : List ℕ). StandsFrom xs x c.args.start) (sym c.self.view_is) s)
