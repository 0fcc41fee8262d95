use Rattle.std.proofs.Common.{◌≡◌, ◌+◌, ◌<◌, ◌++◌, List, [], ◌∷◌, take, get_or, length, false, ℕ, sym, subst, arith}
use Rattle.std.specs.List.{AllZip}
use Rattle.std.proofs.lemmas.List.{take_more}
use Rattle.std.proofs.lemmas.Slice.Zip.{all_zipped_more}
use Rattle.c_meaning.proofs.Patterns.{word_value}
use Rattle.c_values.specs.Kind.{IsValue}
use Rattle.c_values.specs.declared.kinds.Kind.{Kind}
use Rattle.suite.proofs.candidates.row.Candidates.words.Goals as goal

pub convert-requires-clause-operand : goal.convert-requires-clause-operand
convert-requires-clause-operand c = word_value c.word_read-word.result c.word_read-word.type_inv

pub loop-slot-preserved : goal.loop-slot-preserved
loop-slot-preserved c =
    let kinds = c.args.kinds.now in
    let i = c.loop-slot.slot in
    let none : Kind = record { width = 0; signed = false } in
    let lt : i < length kinds = omega arith in
    let more = all_zipped_more IsValue (take i kinds) c.loop-slot.words (get_or kinds i none) c.convert.result c.loop-slot.invariant c.convert.ensures.of_kind in
    let fronts : take (i + 1) kinds ≡ take i kinds ++ get_or kinds i none ∷ [] = take_more kinds i none lt in
    subst (λ (words : List ℕ). AllZip IsValue (take (i + 1) kinds) words) (sym c.in_ok-push.ensures.ok) (subst (λ (front : List Kind). AllZip IsValue front (c.loop-slot.words ++ c.convert.result ∷ [])) (sym fronts) more)
