use Rattle.std.proofs.Common.{◌≡◌, ◌∷◌, ◌++◌, true, false, ap, sym, subst, ◌∙◌}
use Rattle.std.proofs.lemmas.Result.{IfOk-weaker}
use Rattle.cfa.specs.Names.{is_named}
use Rattle.cfa.specs.NameTree.{HasAlso, in_part, is_low}
use Rattle.cfa.proofs.NameTreeLaws.{also_either, also_high, also_low, also_nothing, also_tree}
use Rattle.cfa.proofs.name_tree.NameTree.+with.Goals as goal
use Rattle.cfa.proofs.name_tree.NameTree.+with.Goals.{in-None+in_ok-more-in-None, in-Some+in_ok-more-in-Some}

pub returns : goal.returns
returns t c =
    let place = c.self.inside.place in
    let h = c.self.inside.hash in
    let u = c.self.inside.variable.value in
    let low = in_part c.self.inside.low in
    let high = in_part c.self.inside.high in
    let v = c.args.variable.now.value in
    let apart : is_named v.name u ≡ false = cc (c.deref.ensures, c.deref-2.ensures, c.bytes.ensures, c.if-has_name.ensures) in
    let has_more : HasAlso (in_part c.side.result.now) v c.match-side.more =
    elim c.match-side.branch [
      | in-None+in_ok-more-in-None w ↦ also_nothing v c.side.result.now c.match-side.more w.in-None.is (w.more-is ∙ w.in_ok-more-in-None.ensures)
      | in-Some+in_ok-more-in-Some w ↦
          also_tree v c.side.result.now w.in-Some.tree c.match-side.more w.in-Some.is
          (subst (λ old. HasAlso old v c.match-side.more) w.deref-in-Some.ensures (subst (HasAlso w.deref-in-Some.result.now v) (sym w.more-is) w.in_ok-more-in-Some.ensures))
    ]
    in
    let has : HasAlso (in_part c.side.result.now) v c.in_ok-more.more.value = subst (HasAlso (in_part c.side.result.now) v) (sym c.in_ok-more.ensures.ok) has_more in
    let near : is_low place c.args.hash ≡ true → HasAlso (u ∷ (low ++ high)) v (u ∷ (c.in_ok-more.more.value ++ high)) =
    λ below. also_low place h u low high c.self.invariant v apart (ap (is_low place) (sym c.requires) ∙ below) _ (subst (λ p. HasAlso (in_part p) v c.in_ok-more.more.value) (c.side.ensures.near below) has)
    in
    let far : is_low place c.args.hash ≡ false → HasAlso (u ∷ (low ++ high)) v (u ∷ (low ++ c.in_ok-more.more.value)) =
    λ above. also_high place h u low high c.self.invariant v apart (ap (is_low place) (sym c.requires) ∙ above) _ (subst (λ p. HasAlso (in_part p) v c.in_ok-more.more.value) (c.side.ensures.far above) has)
    in
    IfOk-weaker c.grown.result _ _ (λ tree is. subst (λ old. HasAlso old v tree) c.self.view_is (also_either place c.args.hash v (u ∷ (low ++ high)) tree _ _ is.0 is.1 near far)) c.grown.ensures
