use Rattle.std.proofs.Common.{◌∙◌, ℕ, sym, ap}
use Rattle.std.specs.Prelude.{◌==◌}
use Rattle.std.specs.Global.{Vec}
use Rattle.std.proofs.lemmas.List.Sorted.{IsPermutation-swap, list_any-IsPermutation}
use Rattle.search.proofs.order.Order.exchange.Goals as goal

pub returns-clause-members : goal.returns-clause-members
returns-clause-members c =
    let items = ap (λ (h : Vec ℕ). h.items) (c.note-2.ensures ∙ c.note.ensures) ∙ c.swap.ensures.items in
    let permutes = IsPermutation-swap c.args.self.now.heap.items c.note-2.new.self.heap.items c.args.first c.args.second c.requires.first c.requires.second items in
    λ v. sym (list_any-IsPermutation (λ place. place == v) c.args.self.now.heap.items c.note-2.new.self.heap.items permutes)
