use Rattle.std.proofs.Common.{◌≡◌, ◌-◌, [], ◌∷◌, ◌++◌, length, sym, ap, arith}
use Rattle.std.proofs.lemmas.List.{length-append}
use Rattle.std.proofs.lemmas.Result.{err_from_is_err_and}
use Rattle.c_parse.specs.declared.sign.Symbol.TheVariants as symbols
use Rattle.c_parse.specs.ReadingStatements.{body_at, groups_at, statement_in}
use Rattle.c_parse.proofs.Loops.{with_no_front}
use Rattle.c_parse.proofs.TakesStatements.{statement_in_takes}
use Rattle.c_parse.proofs.AgreeStatements.{body_most}
use Rattle.c_parse.proofs.Agree.{expect_fewer}
use Rattle.c_parse.proofs.Shorter.{test_fewer}
use Rattle.c_parse.proofs.ShorterStatements.{parts_most, one_fewer, labels_fewer, end_there}
use Rattle.c_parse.proofs.LoopsStatements.{body_ends, one_of_body_fails, body_goes_on, groups_closed, labels_of_group_fail, body_of_group_fails, groups_go_on}
use Rattle.c_parse.proofs.OpenStatements.{starts_shorter, part_fails, part_begun, part_takes, whole_takes, first_begun, first_fails, part_goes_on, part_stops, all_read, whole_goes_on, whole_stops}
use Rattle.c_parse.proofs.statements.+statement.Goals as goal

pub body-statements-init : goal.body-statements-init
body-statements-init t c = record {
  fewer = omega arith;
  bound = length c.args.tokens.now;
  enough = omega arith;
  so_far = rw c.new-list.ensures (with_no_front (body_at statement_in (length c.args.tokens.now) c.args.tokens.now));
}

pub body-returns-then-ends_body : goal.body-returns-then-ends_body
body-returns-then-ends_body t c =
    let i = c.statements.invariant in
    body_ends statement_in c.statements.list _ c.statements.rest.now _ i.so_far (omega (arith, i.enough, end_there c.statements.rest.now (sym c.if-ends_body.ensures))) (sym c.if-ends_body.ensures)

pub body-returns-in_err-next : goal.body-returns-in_err-next
body-returns-in_err-next t c =
    let p = err_from_is_err_and c.from_residual.result c.from_residual.ensures.1 in
    rw (p.1, p.2) (one_of_body_fails statement_in c.statements.list _ c.statements.rest.now _ c.statements.invariant.so_far _ (sym c.if-ends_body.ensures) c.in_err-next.ensures)

pub body-statements-preserved : goal.body-statements-preserved
body-statements-preserved t c =
    let i = c.statements.invariant in
    let few = one_fewer c.statements.rest.now c.in_ok-next.after.now c.in_ok-next.next c.in_ok-next.ensures in
    record {
      fewer = omega (arith, i.fewer, few);
      bound = i.bound - 1;
      enough = omega (arith, i.enough, few);
      so_far = rw (c.in_ok-push.ensures.ok, c.into_inner.ensures) (body_goes_on statement_in c.statements.list _ c.statements.rest.now _ i.so_far c.in_ok-next.next _ (omega (arith, i.enough, few)) (sym c.if-ends_body.ensures) c.in_ok-next.ensures);
    }

pub body-statements-smaller : goal.body-statements-smaller
body-statements-smaller t c = omega (arith, one_fewer c.statements.rest.now c.in_ok-next.after.now c.in_ok-next.next c.in_ok-next.ensures)

pub groups-groups-init : goal.groups-groups-init
groups-groups-init t c = record {
  fewer = omega arith;
  bound = length c.args.tokens.now;
  enough = omega arith;
  so_far = rw c.new-list.ensures (with_no_front (groups_at statement_in (length c.args.tokens.now) c.args.tokens.now));
}

pub groups-returns-then-starts_with : goal.groups-returns-then-starts_with
groups-returns-then-starts_with t c =
    let i = c.groups.invariant in
    rw c.tail.ensures (groups_closed statement_in c.groups.list _ c.groups.rest.now _ i.so_far (omega (arith, i.enough, starts_shorter symbols.CloseBrace c.groups.rest.now (sym c.if-starts_with.ensures))) (sym c.if-starts_with.ensures))

pub groups-returns-in_err-labels : goal.groups-returns-in_err-labels
groups-returns-in_err-labels t c =
    let p = err_from_is_err_and c.from_residual.result c.from_residual.ensures.1 in
    rw (p.1, p.2) (labels_of_group_fail statement_in c.groups.list _ c.groups.rest.now _ c.groups.invariant.so_far _ (sym c.if-starts_with.ensures) c.in_err-labels.ensures)

pub groups-returns-in_err-body : goal.groups-returns-in_err-body
groups-returns-in_err-body t c =
    let p = err_from_is_err_and c.from_residual-in_err-body.result c.from_residual-in_err-body.ensures.1 in
    rw (p.1, p.2) (body_of_group_fails statement_in c.groups.list _ c.groups.rest.now _ c.groups.invariant.so_far c.in_ok-labels.labels _ (sym c.if-starts_with.ensures) c.in_ok-labels.ensures _ c.in_err-body.ensures)

pub groups-body-requires : goal.groups-body-requires
groups-body-requires t c =
    let few = labels_fewer (length c.groups.rest.now) c.groups.rest.now c.in_ok-labels.after.now c.in_ok-labels.labels c.in_ok-labels.ensures in
    (omega (arith, c.groups.invariant.fewer, few), tt)

pub switched-groups-requires : goal.switched-groups-requires
switched-groups-requires t c =
    let tested = test_fewer c.args.tokens.now c.in_ok-value.rest.now c.in_ok-value.value c.in_ok-value.ensures in
    let fewer = expect_fewer symbols.OpenBrace c.in_ok-value.rest.now c.in_ok-rest.rest.now c.in_ok-rest.ensures in
    (omega (arith, tested, fewer), tt)

pub groups-groups-preserved : goal.groups-groups-preserved
groups-groups-preserved t c =
    let i = c.groups.invariant in
    let few = labels_fewer (length c.groups.rest.now) c.groups.rest.now c.in_ok-labels.after.now c.in_ok-labels.labels c.in_ok-labels.ensures in
    let most = body_most statement_in statement_in_takes (length c.in_ok-labels.after.now) c.in_ok-labels.after.now (c.in_ok-body.body, c.in_ok-body.after.now) c.in_ok-body.ensures in
    record {
      fewer = omega (arith, i.fewer, few, most);
      bound = i.bound - 1;
      enough = omega (arith, i.enough, few, most);
      so_far = rw c.in_ok-push.ensures.ok (groups_go_on statement_in c.groups.list _ c.groups.rest.now _ i.so_far c.in_ok-labels.labels _ (sym c.if-starts_with.ensures) c.in_ok-labels.ensures c.in_ok-body.body _ (omega (arith, i.enough, few)) c.in_ok-body.ensures);
    }

pub groups-groups-smaller : goal.groups-groups-smaller
groups-groups-smaller t c =
    let few = labels_fewer (length c.groups.rest.now) c.groups.rest.now c.in_ok-labels.after.now c.in_ok-labels.labels c.in_ok-labels.ensures in
    let most = body_most statement_in statement_in_takes (length c.in_ok-labels.after.now) c.in_ok-labels.after.now (c.in_ok-body.body, c.in_ok-body.after.now) c.in_ok-body.ensures in
    omega (arith, few, most)

pub by_symbol-returns-in_err-form-clause-same : goal.by_symbol-returns-in_err-form-clause-same
by_symbol-returns-in_err-form-clause-same t c =
    let p = err_from_is_err_and c.from_residual.result c.from_residual.ensures.1 in
    rw (p.1, p.2) (part_fails _ c.args.symbol c.args.span c.args.tokens.now (sym c.if-opens.ensures) c.in_err-form.ensures)

pub by_symbol-returns-then-opens-clause-same : goal.by_symbol-returns-then-opens-clause-same
by_symbol-returns-then-opens-clause-same t c =
    part_begun c.args.symbol c.args.span c.args.tokens.now c.in_ok-form.rest.now c.in_ok-form.form (sym c.if-opens.ensures) c.in_ok-form.ensures

pub by_symbol-returns-then-opens-clause-shorter : goal.by_symbol-returns-then-opens-clause-shorter
by_symbol-returns-then-opens-clause-shorter t c =
    part_takes c.args.symbol c.args.tokens.now c.in_ok-form.rest.now c.in_ok-form.form c.in_ok-form.ensures

pub by_symbol-returns-clause-shorter : goal.by_symbol-returns-clause-shorter
by_symbol-returns-clause-shorter t c =
    whole_takes c.args.symbol c.args.span c.args.tokens.now c.in_ok-whole.rest.now c.in_ok-whole.whole c.in_ok-whole.ensures

pub statement-returns-in_err-progress : goal.statement-returns-in_err-progress
statement-returns-in_err-progress t c =
    let p = err_from_is_err_and c.from_residual.result c.from_residual.ensures.1 in
    rw (p.1, p.2) (first_fails _ c.args.tokens.now c.in_err-progress.ensures.same)

pub statement-statements-init : goal.statement-statements-init
statement-statements-init t c = record {
  fewer = omega (arith, c.in_ok-progress.ensures.shorter);
  so_far = first_begun c.new-outer.result.items c.args.tokens.now _ c.new-outer.ensures.items c.in_ok-progress.ensures.same;
}

pub statement-returns-in_err-progress-in-Part : goal.statement-returns-in_err-progress-in-Part
statement-returns-in_err-progress-in-Part t c =
    let p = err_from_is_err_and c.from_residual-in_err-progress-in-Part.result c.from_residual-in_err-progress-in-Part.ensures.1 in
    let h = c.statements.invariant.so_far in
    rw (p.1, p.2) (part_stops c.statements.outer.items c.in-Part.part c.statements.rest.now _ (rw c.in-Part.is at h) _ c.in_err-progress-in-Part.ensures.same)

pub statement-statements-preserved-in-Part : goal.statement-statements-preserved-in-Part
statement-statements-preserved-in-Part t c =
    let h = c.statements.invariant.so_far in
    record {
      fewer = omega (arith, c.statements.invariant.fewer, c.in_ok-progress-in-Part.ensures.shorter);
      so_far = rw c.in_ok-push-in-Part.ensures.items (part_goes_on c.statements.outer.items c.in-Part.part c.statements.rest.now _ (rw c.in-Part.is at h) _ c.in_ok-progress-in-Part.ensures.same);
    }

pub statement-returns-in-None : goal.statement-returns-in-None
statement-returns-in-None t c =
    let h = c.statements.invariant.so_far in
    all_read c.statements.outer.items c.in-Whole.whole c.statements.rest.now _ (rw c.in-Whole.is at h) (omega (arith, c.statements.outer.ok.0, c.in-None.ensures.cases.0))

pub statement-returns-in_err-progress-in-Some : goal.statement-returns-in_err-progress-in-Some
statement-returns-in_err-progress-in-Some t c =
    let p = err_from_is_err_and c.from_residual-in_err-progress-in-Some.result c.from_residual-in_err-progress-in-Some.ensures.1 in
    let h = c.statements.invariant.so_far in
    let popped : c.statements.outer.items ≡ c.pop.new.self.items ++ c.in-Some.last ∷ [] = c.in-Some.ensures.items in
    rw (p.1, p.2) (whole_stops c.statements.outer.items c.in-Whole.whole c.statements.rest.now _ (rw c.in-Whole.is at h) c.pop.new.self.items c.in-Some.last popped _ c.in_err-progress-in-Some.ensures.same)

pub statement-statements-preserved : goal.statement-statements-preserved
statement-statements-preserved t c =
    let h = c.statements.invariant.so_far in
    let popped : c.statements.outer.items ≡ c.pop.new.self.items ++ c.in-Some.last ∷ [] = c.in-Some.ensures.items in
    record {
      fewer = omega (arith, c.statements.invariant.fewer, c.in_ok-progress-in-Some.ensures.shorter);
      so_far = whole_goes_on c.statements.outer.items c.in-Whole.whole c.statements.rest.now _ (rw c.in-Whole.is at h) c.pop.new.self.items c.in-Some.last popped _ c.in_ok-progress-in-Some.ensures.same;
    }

pub statement-statements-smaller-in-Part : goal.statement-statements-smaller-in-Part
statement-statements-smaller-in-Part t c =
    let fewer = c.in_ok-progress-in-Part.ensures.shorter in
    let parts = parts_most c.in_ok-progress-in-Part.field-0-0 in
    rw (c.in-Part.is, c.in_ok-push-in-Part.ensures.items) (simp length-append (omega (arith, fewer, parts)))

pub statement-statements-smaller : goal.statement-statements-smaller
statement-statements-smaller t c =
    let fewer = c.in_ok-progress-in-Some.ensures.shorter in
    let popped : c.statements.outer.items ≡ c.pop.new.self.items ++ c.in-Some.last ∷ [] = c.in-Some.ensures.items in
    let size = simp length-append at (ap length popped) in
    rw c.in-Whole.is (omega (arith, fewer, size))
