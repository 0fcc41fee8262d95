use Rattle.std.proofs.Common.{◌∙◌, arith}
use Rattle.std.proofs.lemmas.Result.{err_from_is_err_and}
use Rattle.command.proofs.ReadsLaws.{read_more, read_up_to, refused_map, unread_since}
use Rattle.command.proofs.sources.read_sources.Goals as goal

pub returns-in_err-text-clause-unread : goal.returns-in_err-text-clause-unread
returns-in_err-text-clause-unread g c =
    let p = err_from_is_err_and c.from_residual.result c.from_residual.ensures.1 in
    rw (p.1, p.2) (refused_map c.in_err-text.field-0.0 c.in_err-text.ensures.unread (λ x unread.
    read_up_to c.args.names.now c.loop-name.name-index _ c.loop-name-test.true _ _ x c.loop-name.invariant.read
    (unread_since _ _ _ _ _ _ _ _ _ c.loop-name.invariant.same_files c.loop-name.invariant.no_fault c.loop-name.invariant.received _ _ x unread)))

pub loop-name-preserved : goal.loop-name-preserved
loop-name-preserved g c =
    let one = rw c.loop-name.invariant.same_files at c.in_ok-text.ensures.read in
    record {
      same_files = c.in_ok-text.ensures.same_files ∙ c.loop-name.invariant.same_files;
      no_fault = c.in_ok-text.ensures.no_fault ∙ c.loop-name.invariant.no_fault;
      received = omega (arith, c.loop-name.invariant.received, c.in_ok-text.ensures.received);
      read = read_more c.args.names.now c.loop-name.name-index _ c.loop-name-test.true _ _ _ _ c.in_ok-push.ensures.items c.loop-name.invariant.read one;
    }
