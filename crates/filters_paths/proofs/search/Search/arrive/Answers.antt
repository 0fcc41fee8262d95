use Rattle.std.proofs.Common.{◌≡◌, length, set, refl, sym, ◌∙◌, ap, arith}
use Rattle.filters_paths.specs.Searching.{is_dead, is_met}
use Rattle.filters_paths.proofs.SearchLaws.{arrived, not_past}
use Rattle.filters_paths.proofs.search.Search.arrive.Goals as goal

pub returns-clause-search : goal.returns-clause-search
returns-clause-search c =
    let s = c.args.self.now in
    let count : c.len.result ≡ length s.layers.items = omega (arith, c.len.ensures, s.layers.ok.0) in
    (arrived c.args.graph.now c.args.ends.now c.args.left.now s _ c.args.node c.requires.node c.requires.open c.if-ends-at.false (not_past (is_met s c.args.node) (is_dead s c.args.node) (sym c.is_past.ensures ∙ c.if-is_past.false))
    refl (ap (set s.levels.items c.args.node) count) refl refl c.in_ok-wait.ensures.waiting c.in_ok-wait.ensures.kept c.in_ok-wait.ensures.more).0.search

pub returns-clause-inner : goal.returns-clause-inner
returns-clause-inner c = λ never.
    let s = c.args.self.now in
    let count : c.len.result ≡ length s.layers.items = omega (arith, c.len.ensures, s.layers.ok.0) in
    arrived c.args.graph.now c.args.ends.now c.args.left.now s _ c.args.node c.requires.node c.requires.open c.if-ends-at.false (not_past (is_met s c.args.node) (is_dead s c.args.node) (sym c.is_past.ensures ∙ c.if-is_past.false))
    refl (ap (set s.levels.items c.args.node) count) refl refl c.in_ok-wait.ensures.waiting c.in_ok-wait.ensures.kept c.in_ok-wait.ensures.more
