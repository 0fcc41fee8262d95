use Rattle.std.proofs.Common.{◌+◌, Ok, ap, refl}
use Rattle.tree_meaning.proofs.Words.{index_yes, index_no}
use Rattle.tree_meaning.proofs.places.element_at.Goals as goal

pub returns-then-index-length_of : goal.returns-then-index-length_of
returns-then-index-length_of c =
    let small = rw c.length_of.ensures at c.length_of.type_inv in
    let below = rw c.length_of.ensures at c.if-index-length_of.true in
    rw (index_yes _ c.args.index c.args.kind small c.requires below) (ap (λ n. Ok (n + c.args.index)) c.start_of.ensures.start)

pub returns-else-index-length_of : goal.returns-else-index-length_of
returns-else-index-length_of c =
    let small = rw c.length_of.ensures at c.length_of.type_inv in
    let beyond = rw c.length_of.ensures at c.if-index-length_of.false in
    rw (index_no _ c.args.index c.args.kind small c.requires beyond) refl
