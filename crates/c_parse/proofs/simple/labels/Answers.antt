use Rattle.std.proofs.Common.{◌-◌, length, sym, arith}
use Rattle.std.proofs.lemmas.Result.{err_from_is_err_and}
use Rattle.c_parse.specs.ReadingStatements.{labels_at}
use Rattle.c_parse.proofs.Loops.{with_no_front}
use Rattle.c_parse.proofs.LoopsStatements.{label_fails, labels_end, labels_go_on}
use Rattle.c_parse.proofs.Shorter.{label_fewer}
use Rattle.c_parse.proofs.simple.labels.Goals as goal

pub labels-init : goal.labels-init
labels-init c = record {
  bound = length c.args.tokens.now;
  enough = omega arith;
  so_far = rw c.new-list.ensures (with_no_front (labels_at (length c.args.tokens.now) c.args.tokens.now));
}

pub returns-in_err-next : goal.returns-in_err-next
returns-in_err-next c =
    let p = err_from_is_err_and c.from_residual.result c.from_residual.ensures.1 in
    rw (p.1, p.2) (label_fails c.labels.list _ c.labels.rest.now _ c.labels.invariant.so_far _ c.in_err-next.ensures)

pub returns-then-not-starts_with_label : goal.returns-then-not-starts_with_label
returns-then-not-starts_with_label c =
    let few = label_fewer c.labels.rest.now c.in_ok-next.after.now c.in_ok-next.next c.in_ok-next.ensures in
    rw c.in_ok-push.ensures.ok (labels_end c.labels.list _ c.labels.rest.now _ c.labels.invariant.so_far c.in_ok-next.next _ (omega (arith, few, c.labels.invariant.enough)) c.in_ok-next.ensures (sym c.if-not-starts_with_label.ensures))

pub labels-preserved : goal.labels-preserved
labels-preserved c =
    let few = label_fewer c.labels.rest.now c.in_ok-next.after.now c.in_ok-next.next c.in_ok-next.ensures in
    record {
      bound = c.labels.invariant.bound - 1;
      enough = omega (arith, few, c.labels.invariant.enough);
      so_far = rw c.in_ok-push.ensures.ok (labels_go_on c.labels.list _ c.labels.rest.now _ c.labels.invariant.so_far c.in_ok-next.next _ (omega (arith, few, c.labels.invariant.enough)) c.in_ok-next.ensures (sym c.if-not-starts_with_label.ensures));
    }

pub labels-smaller : goal.labels-smaller
labels-smaller c = omega (arith, label_fewer c.labels.rest.now c.in_ok-next.after.now c.in_ok-next.next c.in_ok-next.ensures)
