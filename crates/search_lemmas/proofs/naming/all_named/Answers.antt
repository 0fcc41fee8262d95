use Rattle.std.proofs.Common.{take, get_or, pos, arith, rules, SFits, w32}
use Rattle.std.proofs.lemmas.Int.{to_z-of_z}
use Rattle.std.proofs.lemmas.List.{take_more}
use Rattle.search_lemmas.proofs.Names.{named_more}
use Rattle.search_lemmas.proofs.naming.all_named.Goals as goal

pub loop-literal-preserved : goal.loop-literal-preserved
loop-literal-preserved c =
    let i = c.loop-literal.literal-index in
    let literals = c.args.literals.now in
    let fits : SFits w32 (get_or literals i (pos 0)) = search rules in
    let other_fits : SFits w32 c.in-Some.other = search rules in
    let named = simp to_z-of_z at c.in-Some.ensures in
    let pushed = simp to_z-of_z at c.in_ok-push-in-Some.ensures.items in
    rw (take_more literals i (pos 0) (omega arith), pushed)
    (named_more c.args.table.now (take i literals) c.loop-literal.others.items (get_or literals i (pos 0)) c.in-Some.other c.loop-literal.invariant named)
