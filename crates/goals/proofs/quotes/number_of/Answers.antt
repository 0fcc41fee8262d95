use Rattle.std.proofs.Common.{◌≡◌, ◌<◌, ℕ, [], length, get_or, sym, ◌∙◌, true, false, below_more, arith}
use Rattle.std.proofs.lemmas.List.Sums.{position_or_len_is}
use Rattle.std.specs.Str.{bytes_eq}
use Rattle.goals.specs.Quotes.{quotes_in}
use Rattle.goals.specs.Words.{texts}
use Rattle.goals.proofs.Found.{length-texts, text_at}
use Rattle.goals.proofs.quotes.number_of.Goals as goal

pub returns-then-eq : goal.returns-then-eq
returns-then-eq c =
    let own = c.args.quotes.now in
    let lt : c.loop-number.number < length own = c.loop-number-test.true in
    let size : length (texts (quotes_in own)) ≡ length own = length-texts own in
    let same : bytes_eq (get_or (texts (quotes_in own)) c.loop-number.number []) c.args.text.now ≡ true =
    (λ i. bytes_eq ((text_at own c.loop-number.number c.index-quotes-number.result lt c.index-quotes-number.is ∙ sym c.bytes.ensures) i) (sym c.bytes-in-loop-number.ensures i)) ∙ sym c.eq.ensures ∙ c.if-eq.true in
    sym (position_or_len_is (λ t. bytes_eq t c.args.text.now) (texts (quotes_in own)) c.loop-number.number [] (omega arith) c.loop-number.invariant (λ _. same))

pub returns : goal.returns
returns c =
    let own = c.args.quotes.now in
    let size : length (texts (quotes_in own)) ≡ length own = length-texts own in
    let all : (k : ℕ) → k < length own → bytes_eq (get_or (texts (quotes_in own)) k []) c.args.text.now ≡ false = λ k lt. c.loop-number.invariant k (omega (arith, c.loop-number-test.false)) in
    sym (position_or_len_is (λ t. bytes_eq t c.args.text.now) (texts (quotes_in own)) (length own) [] (omega arith) all (λ lt. absurd (omega arith)))

pub loop-number-preserved : goal.loop-number-preserved
loop-number-preserved c =
    let own = c.args.quotes.now in
    let lt : c.loop-number.number < length own = c.loop-number-test.true in
    let differs : bytes_eq (get_or (texts (quotes_in own)) c.loop-number.number []) c.args.text.now ≡ false =
    (λ i. bytes_eq ((text_at own c.loop-number.number c.index-quotes-number.result lt c.index-quotes-number.is ∙ sym c.bytes.ensures) i) (sym c.bytes-in-loop-number.ensures i)) ∙ sym c.eq.ensures ∙ c.if-eq.false in
    below_more _ _ c.loop-number.invariant differs
