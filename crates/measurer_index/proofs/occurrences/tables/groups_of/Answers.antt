use Rattle.std.proofs.Common.{◌≡◌, ◌<◌, ◌+◌, ◌++◌, ◌∷◌, [], List, ℕ, length, get_or, sym, ◌∙◌, ap, subst, arith}
use Rattle.std.specs.Prelude.{slice_index}
use Rattle.std.proofs.lemmas.List.{get_or_default, get_or_push, length_push}
use Rattle.measurer_index.specs.occurrences.Places.{AreGroups, IsNext}
use Rattle.measurer_index.proofs.occurrences.Groups.{group_added, tables_are}
use Rattle.measurer_index.proofs.occurrences.tables.groups_of.Goals as goal

pub loop-first-preserved : goal.loop-first-preserved
loop-first-preserved c =
    let numbers = c.args.numbers.now in
    let i = c.loop-first.first-index in
    let firsts = c.in_ok-chains.chains.firsts.items in
    let begins = c.loop-first.begins.items in
    let new = c.add_chain.new.places.items in
    let room : i < length firsts = omega arith in
    let value = c.deref-first-items.ensures.value in
    let read : get_or firsts i (length numbers) ≡ get_or c.deref-first-items.result.now i 0 = get_or_default firsts i (length numbers) 0 room ∙ ap (λ (xs : List ℕ). get_or xs i 0) (sym value) in
    let first = subst (λ p. IsNext numbers i 0 p) read (c.in_ok-chains.ensures.firsts i).1 in
    let added = c.in_ok-add_chain.ensures i first in
    let grown : c.len.result ≡ length new = omega arith in
    let e : c.push.new.self.items ≡ begins ++ length new ∷ [] = c.in_ok-push.ensures.items ∙ ap (λ n. begins ++ n ∷ []) grown in
    let size : length begins ≡ i + 1 = c.loop-first.invariant.size in
    record {
      size = ap length e ∙ length_push begins (length new) ∙ ap (λ n. n + 1) size;
      last = ap (λ ys. slice_index ys (i + 1)) e ∙ get_or_push begins (length new) 0 (i + 1) size;
      groups = subst (λ ys. AreGroups numbers new ys (i + 1)) (sym e) (group_added numbers c.loop-first.places.items new begins i size c.loop-first.invariant.last added c.loop-first.invariant.groups);
    }

pub returns : goal.returns
returns c =
    let past = c.loop-first-test.false in
    let end = c.loop-first.auto.first-index-end in
    let all : c.loop-first.first-index ≡ length c.in_ok-chains.chains.firsts.items = omega arith in
    tables_are c.args.numbers.now c.in_ok-chains.chains.firsts.items c.loop-first.places.items c.loop-first.begins.items c.loop-first.first-index all c.loop-first.invariant.size c.in_ok-chains.ensures.firsts c.loop-first.invariant.groups
