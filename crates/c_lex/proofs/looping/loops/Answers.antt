use Rattle.std.proofs.Common.{◌≡◌, ◌∙◌, ◌++◌, ◌∷◌, [], arith, ap, length, length-set}
use Rattle.c_lex.proofs.SearchingLaws.{begins, index_within, popped}
use Rattle.c_lex.proofs.looping.loops.Goals as goal

pub turns-init : goal.turns-init
turns-init c =
    let lengths : length c.in_ok-marks.marks.items ≡ length c.args.table.now.macros.items = omega (arith, c.in_ok-marks.ensures.len, c.len.ensures, c.in_ok-marks.marks.ok.0, c.args.table.now.macros.ok.0) in
    record {
      lengths = length-set _ _ _ ∙ lengths;
      searched = begins c.args.table.now.macros.items c.args.index _ c.in_ok-marks.marks.items c.push.new.self.items (omega (arith, c.requires.index)) (c.in_ok-marks.ensures.items_if_clones_equal (λ y e. e))
          (c.in_ok-push.ensures.items ∙ ap (λ fs. fs ++ record { index = c.args.index; at = 0 } ∷ []) c.new-frames.ensures.items);
    }

pub search_on-requires-clause-index : goal.search_on-requires-clause-index
search_on-requires-clause-index c =
    let s = popped c.args.table.now.macros.items c.args.index c.turns.marks.items c.turns.frames.items c.pop.new.self.items c.in-Some.frame c.in-Some.ensures.items c.turns.invariant.searched in
    let lt = index_within c.args.table.now.macros.items c.args.index c.turns.marks.items c.in-Some.frame _ c.requires.index s in
    omega (arith, c.turns.invariant.lengths, ap length c.as_mut_slice.ensures.value)
