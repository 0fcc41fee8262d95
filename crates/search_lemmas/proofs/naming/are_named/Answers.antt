use Rattle.std.proofs.Common.{take, get_or, pos, arith, rules, SFits, w32}
use Rattle.std.proofs.lemmas.Int.{to_z-of_z}
use Rattle.std.proofs.lemmas.List.{take_more}
use Rattle.search_lemmas.proofs.Names.{named_more}
use Rattle.search_lemmas.proofs.naming.are_named.Goals as goal

pub loop-at-preserved : goal.loop-at-preserved
loop-at-preserved c =
    let i = c.loop-at.at in
    let literals = c.args.literals.now in
    let others = c.args.others.now in
    let fits : SFits w32 (get_or literals i (pos 0)) = search rules in
    let other_fits : SFits w32 (get_or others i (pos 0)) = search rules in
    let named = simp to_z-of_z at (c.is_named.ensures c.if-not-is_named.false) in
    rw (take_more literals i (pos 0) (omega arith), take_more others i (pos 0) (omega arith))
    (named_more c.args.table.now (take i literals) (take i others) (get_or literals i (pos 0)) (get_or others i (pos 0)) c.loop-at.invariant named)
