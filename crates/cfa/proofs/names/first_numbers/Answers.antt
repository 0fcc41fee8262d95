use Rattle.std.proofs.Common.{◌≡◌, ◌+◌, ◌<◌, ◌++◌, [], ◌∷◌, List, true, false, take, subst, sym, get_or, length, ap, ◌∙◌, arith, length-take}
use Rattle.std.specs.Option.{is_some}
use Rattle.std.proofs.lemmas.List.{take_more}
use Rattle.cfa.specs.declared.parts.Function.{Function}
use Rattle.cfa.specs.Names.{number_at, AreFirstNumbers}
use Rattle.cfa.proofs.FirstNumbers.{names_kept, names_added}
use Rattle.cfa.proofs.names.first_numbers.Goals as goal
use Rattle.cfa.proofs.names.first_numbers.Goals.{then-not-contains_key+in_ok-from_slice+in_ok-insert, else-not-contains_key}

pub loop-i-preserved : goal.loop-i-preserved
loop-i-preserved c =
    let functions : List Function = c.args.parts.now.functions in
    let f : Function = c.function-item.result in
    let i = c.loop-i.i in
    let within : i < length functions = omega (arith, ap length c.deref-function-items.ensures) in
    let read : get_or functions i f ≡ f = sym (c.function-item.is ∙ ap (λ l. get_or l i f) c.deref-function-items.ensures) in
    let more : take (i + 1) functions ≡ take i functions ++ f ∷ [] = take_more functions i f within ∙ ap (λ g. take i functions ++ g ∷ []) read in
    let tested = c.contains_key.ensures ∙ ap (λ name. is_some (number_at c.loop-i.names name)) c.bytes-name.ensures in
    elim c.if-not-contains_key.branch [
      | then-not-contains_key+in_ok-from_slice+in_ok-insert w ↦
          let none : is_some (number_at c.loop-i.names f.name) ≡ false = sym tested ∙ w.if-not-contains_key.true in
          let long : i ≡ length (take i functions) = omega (arith, length-take i functions) in
          let key = w.in_ok-from_slice.ensures.items ∙ c.bytes-name.ensures in
          subst (λ names. AreFirstNumbers (take (i + 1) functions) names) (sym w.names-is)
          (subst (λ l. AreFirstNumbers l w.insert.new.self) (sym more)
          (names_added (take i functions) c.loop-i.names f c.loop-i.invariant w.insert.new.self _ i none key long w.in_ok-insert.ensures.updates))
      | else-not-contains_key w ↦
          let there : is_some (number_at c.loop-i.names f.name) ≡ true = sym tested ∙ w.if-not-contains_key.false in
          subst (λ names. AreFirstNumbers (take (i + 1) functions) names) (sym w.names-is)
          (subst (λ l. AreFirstNumbers l c.loop-i.names) (sym more) (names_kept (take i functions) c.loop-i.names f c.loop-i.invariant there))
    ]
