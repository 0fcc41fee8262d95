use Rattle.std.proofs.Common.{reverse, sym, ap, ◌∙◌, subst}
use Rattle.unwinder_reach.specs.reached.Searching.{AreInOrder, HaveNumbers}
use Rattle.unwinder_reach.proofs.reached.KeyLaws.{numbers_reverse}
use Rattle.unwinder_reach.proofs.reached.SearchLaws.{ended}
use Rattle.unwinder_reach.proofs.reached.search.pairs_in_order.Goals as goal

pub returns-in-Ok-clause-ok : goal.returns-in-Ok-clause-ok
returns-in-Ok-clause-ok c =
    let s = c.in-Ok.ensures.ok.1.1 in
    let pairs = c.reverse.ensures.items ∙ ap reverse c.into_vec-pairs.ensures in
    let numbers = c.reverse-in-Ok.ensures.items ∙ ap reverse c.into_vec-numbers.ensures in
    record {
      order = subst (AreInOrder c.args.graph.now c.args.bounds.now c.args.function.now) (sym pairs)
          (ended c.args.graph.now c.args.bounds.now c.args.function.now (reverse c.in-Ok.search.finished) (reverse c.in-Ok.search.way) s.found s.searching (ap reverse c.in-Ok.ensures.ok.0));
      entries = s.keys.entries;
      numbers = subst (λ l. HaveNumbers c.in-Ok.search.frames l c.reverse-in-Ok.new.self.items) (sym pairs)
          (subst (HaveNumbers c.in-Ok.search.frames (reverse c.in-Ok.search.finished)) (sym numbers) (numbers_reverse c.in-Ok.search.frames c.in-Ok.search.finished c.in-Ok.search.numbers s.numbers));
    }
