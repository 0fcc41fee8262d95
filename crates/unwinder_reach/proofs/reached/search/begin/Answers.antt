use Rattle.std.proofs.Common.{[], None, ap, ◌∙◌, subst}
use Rattle.cfa.specs.Contexts.{Pair}
use Rattle.unwinder_reach.specs.reached.Searching.{AreNumbered}
use Rattle.unwinder_reach.proofs.reached.Visits.{comes_first}
use Rattle.unwinder_reach.proofs.reached.search.begin.Goals as goal

pub returns-in-Err-clause-err : goal.returns-in-Err-clause-err
returns-in-Err-clause-err c bounds =
    let k = c.requires.there.0 in
    let frames = c.frames.ensures ∙ ap (λ (p : Pair). p.context.frames) c.in_ok-first.ensures in
    let number = subst (λ fs. AreNumbered c.first_number.new.table fs c.in_ok-number.number) c.frames.ensures (c.in_ok-number.ensures.number (record { call = None; counters = [] }) frames) in
    c.in-Err.ensures.err bounds k c.args.function.now
    (comes_first c.args.graph.now bounds k c.args.function.now c.in_ok-first.first c.in_ok-number.number c.new-search.result.frames
    (record { frames = c.first_number.new.table; keys = c.new-search.result.keys; finished = c.new-search.result.finished; numbers = c.new-search.result.numbers; way = c.new-search.result.way }) c.requires.there.1 c.requires.once c.in_ok-first.ensures
    c.new-search.ensures.0 c.in_ok-number.ensures.extends number c.new-search.ensures.1 c.new-search.ensures.2 c.new-search.ensures.3 c.new-search.ensures.4)

pub returns-in-Ok-clause-ok : goal.returns-in-Ok-clause-ok
returns-in-Ok-clause-ok c bounds =
    let k = c.requires.there.0 in
    let frames = c.frames.ensures ∙ ap (λ (p : Pair). p.context.frames) c.in_ok-first.ensures in
    let number = subst (λ fs. AreNumbered c.first_number.new.table fs c.in_ok-number.number) c.frames.ensures (c.in_ok-number.ensures.number (record { call = None; counters = [] }) frames) in (
      k,
      c.in-Ok.ensures.ok bounds k c.args.function.now
          (comes_first c.args.graph.now bounds k c.args.function.now c.in_ok-first.first c.in_ok-number.number c.new-search.result.frames
          (record { frames = c.first_number.new.table; keys = c.new-search.result.keys; finished = c.new-search.result.finished; numbers = c.new-search.result.numbers; way = c.new-search.result.way }) c.requires.there.1 c.requires.once c.in_ok-first.ensures
          c.new-search.ensures.0 c.in_ok-number.ensures.extends number c.new-search.ensures.1 c.new-search.ensures.2 c.new-search.ensures.3 c.new-search.ensures.4),
    )
