use Rattle.std.proofs.Common.{List, ap, set, sym, ◌∙◌, ◌≡◌, ◌++◌, ◌∷◌, []}
use Rattle.std.proofs.lemmas.List.{set-set}
use Rattle.std.proofs.lemmas.Option.{same_Some}
use Rattle.unwinder.specs.declared.arrival.Arrival.{Arrival}
use Rattle.unwinder.proofs.agenda.put.Goals as goal

pub returns : goal.returns
returns c = λ row there.
    let same : c.row_at-row.result ≡ row = same_Some c.row_at-row.result row (sym c.row_at-row.ensures.row ∙ there) in
    ap (λ (rows : List (List Arrival)). set rows c.args.place c.push.new.self) c.row_at-row.ensures.left ∙ set-set c.args.agenda.now.items c.args.place [] c.push.new.self
    ∙ ap (λ (r : List Arrival). set c.args.agenda.now.items c.args.place r) (c.in_ok-push.ensures.ok ∙ ap (λ (r : List Arrival). r ++ c.args.arrival ∷ []) same)
