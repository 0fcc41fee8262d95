use Rattle.std.proofs.Common.{◌-◌, length, sym, arith}
use Rattle.std.proofs.lemmas.Result.{err_from_is_err_and}
use Rattle.c_parse.proofs.LoopsStatements.{one_fails, close_fails, closes, comma_closes, goes_on}
use Rattle.c_parse.proofs.Loops.{with_no_front}
use Rattle.c_parse.proofs.Agree.{tail_most}
use Rattle.c_parse.specs.ReadingStatements.{separated_at}
use Rattle.c_parse.proofs.separated.separated.Goals as goal

pub returns-in_err-next : goal.returns-in_err-next
returns-in_err-next g c =
    let p = err_from_is_err_and c.from_residual.result c.from_residual.ensures.1 in
    rw (p.1, p.2) (one_fails g.T.Part.reads c.args.comma c.args.last c.forms.list _ c.forms.rest.now _ c.forms.invariant.so_far _ c.in_err-next.ensures.same)

pub returns-in_err-after : goal.returns-in_err-after
returns-in_err-after g c =
    let p = err_from_is_err_and c.from_residual-in_err-after.result c.from_residual-in_err-after.ensures.1 in
    rw (p.1, p.2) (close_fails g.T.Part.reads c.args.comma c.args.last c.forms.list _ c.forms.rest.now _ c.forms.invariant.so_far c.in_ok-next.next _ c.in_ok-next.ensures.same _ (sym c.if-not-starts_with.ensures) c.in_err-after.ensures)

pub returns-then-not-starts_with : goal.returns-then-not-starts_with
returns-then-not-starts_with g c =
    rw c.in_ok-push.ensures.ok (closes g.T.Part.reads c.args.comma c.args.last c.forms.list _ c.forms.rest.now _ c.forms.invariant.so_far c.in_ok-next.next _ c.in_ok-next.ensures.same _ (omega (arith, c.in_ok-next.ensures.fewer, c.forms.invariant.enough)) (sym c.if-not-starts_with.ensures) c.in_ok-after.ensures)

pub returns-then-ends_by_comma : goal.returns-then-ends_by_comma
returns-then-ends_by_comma g c =
    rw (c.in_ok-push.ensures.ok, c.tail.ensures, c.tail-rest.ensures) (comma_closes g.T.Part.reads c.args.comma c.args.last c.forms.list _ c.forms.rest.now _ c.forms.invariant.so_far c.in_ok-next.next _ c.in_ok-next.ensures.same (omega (arith, c.in_ok-next.ensures.fewer, c.forms.invariant.enough)) (sym c.if-not-starts_with.ensures) (rw c.tail-rest.ensures at (sym c.if-ends_by_comma.ensures)))

pub forms-init : goal.forms-init
forms-init g c = record {
  bound = length c.args.tokens.now;
  enough = omega arith;
  so_far = rw c.new-list.ensures (with_no_front (separated_at g.T.Part.reads c.args.comma c.args.last (length c.args.tokens.now) c.args.tokens.now));
}

pub forms-preserved : goal.forms-preserved
forms-preserved g c =
    let few = c.in_ok-next.ensures.fewer in
    let most = tail_most c.in_ok-next.after.now in
    record {
      bound = c.forms.invariant.bound - 1;
      enough = rw c.tail-rest.ensures (omega (arith, few, most, c.forms.invariant.enough));
      so_far = rw (c.in_ok-push.ensures.ok, c.tail-rest.ensures) (goes_on g.T.Part.reads c.args.comma c.args.last c.forms.list _ c.forms.rest.now _ c.forms.invariant.so_far c.in_ok-next.next _ c.in_ok-next.ensures.same (omega (arith, few, c.forms.invariant.enough)) (sym c.if-not-starts_with.ensures) (rw c.tail-rest.ensures at (sym c.if-ends_by_comma.ensures)));
    }

pub forms-smaller : goal.forms-smaller
forms-smaller g c = rw c.tail-rest.ensures (omega (arith, c.in_ok-next.ensures.fewer, tail_most c.in_ok-next.after.now))
