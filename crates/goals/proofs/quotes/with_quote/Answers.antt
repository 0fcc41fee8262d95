use Rattle.std.proofs.Common.{◌≡◌, ◌∷◌, [], false, ap, sym, ◌∙◌}
use Rattle.std.proofs.lemmas.List.{map-append}
use Rattle.std.specs.List.{list_any}
use Rattle.std.specs.Str.{bytes_eq}
use Rattle.goals.specs.applied_clauses.Trees.{tree_of}
use Rattle.goals.specs.Quotes.{quote_of, quotes_in}
use Rattle.goals.specs.Words.{Quote}
use Rattle.goals.specs.declared.quotes.QuotedLetter.{QuotedLetter}
use Rattle.goals.proofs.Found.{quote_added}
use Rattle.goals.proofs.quotes.with_quote.Goals as goal

pub returns : goal.returns
returns c =
    let q : Quote = record { text = c.args.text.now; body = tree_of c.args.body.now } in
    let own = c.args.found.items in
    let new : list_any (λ (p : QuotedLetter). bytes_eq q.text p.text.now) own ≡ false =
    ap (list_any (λ (p : QuotedLetter). bytes_eq q.text p.text.now)) (sym c.deref.ensures.value) ∙ sym c.has_text.ensures ∙ c.if-has_text.false in
    ap quotes_in c.in_ok-push.ensures.items ∙ map-append quote_of own (record { text = c.args.text; body = c.args.body } ∷ []) ∙ sym (quote_added q own new)
