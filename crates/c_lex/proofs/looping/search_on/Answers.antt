use Rattle.std.proofs.Common.{arith, refl, reverse, sym}
use Rattle.c_lex.proofs.TakingLaws.{found}
use Rattle.c_lex.proofs.SearchingLaws.{reverse_push, turn_closes, turn_plain, turn_done, turn_loops, turn_opens}
use Rattle.c_lex.proofs.looping.search_on.Goals as goal

pub returns-in_default : goal.returns-in_default
returns-in_default c =
    turn_closes c.args.table.now.macros.items c.as_slice.result.now c.args.marks.now c.args.frame _ c.as_slice.ensures.value _ c.requires.index refl c.in_default.ensures.value

pub returns-in_default-index_of : goal.returns-in_default-index_of
returns-in_default-index_of c =
    rw (reverse_push _ _ _ c.in_ok-push.ensures.items) (turn_plain c.args.table.now.macros.items c.as_slice.result.now c.args.marks.now c.args.frame _ c.as_slice.ensures.value c.in-Some.next.now c.in-Some.ensures.value c.in_default-index_of.ensures)

pub bounds : goal.bounds
bounds c = omega (arith, c.requires.lengths, (found c.args.table.now.macros.items c.in-Some.next.now.text c.in-Some-index_of.index (sym c.in-Some-index_of.ensures)).within)

pub bounds-marks-index : goal.bounds-marks-index
bounds-marks-index c = omega (arith, c.requires.lengths, (found c.args.table.now.macros.items c.in-Some.next.now.text c.in-Some-index_of.index (sym c.in-Some-index_of.ensures)).within)

pub returns-in-Open : goal.returns-in-Open
returns-in-Open c =
    turn_loops c.args.table.now.macros.items c.as_slice.result.now c.args.marks.now c.args.frame _ c.as_slice.ensures.value c.in-Some.next.now c.in-Some.ensures.value c.in-Some-index_of.index c.in-Some-index_of.ensures c.args.marks.now (reverse c.push.new.self.items) c.in-Open.is

pub returns-in-Done : goal.returns-in-Done
returns-in-Done c =
    rw (reverse_push _ _ _ c.in_ok-push.ensures.items) (turn_done c.args.table.now.macros.items c.as_slice.result.now c.args.marks.now c.args.frame _ c.as_slice.ensures.value c.in-Some.next.now c.in-Some.ensures.value c.in-Some-index_of.index c.in-Some-index_of.ensures c.in-Done.is)

pub returns-in_ok-push-in-New : goal.returns-in_ok-push-in-New
returns-in_ok-push-in-New c =
    rw (reverse_push _ _ _ c.in_ok-push-in-New.ensures.items, reverse_push _ _ _ c.in_ok-push.ensures.items)
    (turn_opens c.args.table.now.macros.items c.as_slice.result.now c.args.marks.now c.args.frame _ c.as_slice.ensures.value c.in-Some.next.now c.in-Some.ensures.value c.in-Some-index_of.index c.in-Some-index_of.ensures _ c.requires.lengths refl c.in-New.is)
