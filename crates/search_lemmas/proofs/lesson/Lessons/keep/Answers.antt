use Rattle.std.proofs.Common.{All, sym, subst}
use Rattle.std.proofs.lemmas.List.Elements.{All-push, All-set}
use Rattle.search_lemmas.specs.Holding.{HoldsAlways}
use Rattle.search_lemmas.proofs.lesson.Lessons.keep.Goals as goal

pub returns-then-len-lt-MOST : goal.returns-then-len-lt-MOST
returns-then-len-lt-MOST c = λ gates all own.
    let p = c.in_ok-push-2.ensures.items in
    subst (All (HoldsAlways gates)) (sym p) (All-push (HoldsAlways gates) c.args.self.now.clauses.items c.args.clause all own)

pub returns-then-place-len : goal.returns-then-place-len
returns-then-place-len c = λ gates all own.
    let same = subst (All (HoldsAlways gates)) (sym (λ i. (c.note.ensures i).items)) all in
    All-set (HoldsAlways gates) c.note.new.self.clauses.items c.oldest-place.result c.args.clause own same

pub returns-in_err-push-2 : goal.returns-in_err-push-2
returns-in_err-push-2 c = λ gates all own. subst (All (HoldsAlways gates)) (sym c.in_err-push-2.ensures.items) all
