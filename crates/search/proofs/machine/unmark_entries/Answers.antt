use Rattle.std.proofs.Common.{◌≡◌, get_or, pos, None, Some}
use Rattle.std.specs.Prelude.{slice_get}
use Rattle.std.proofs.lemmas.Int.{to_z-of_z}
use Rattle.std.proofs.lemmas.Option.{slice_get-get_or}
use Rattle.cnf.specs.Clauses.{IsLiteral}
use Rattle.cnf.proofs.literal_marks.PlacesLaws.{literal_fits}
use Rattle.search.specs.declared.trail.Entry.{Entry}
use Rattle.search.proofs.CutLaws.{unmarked_all, unmarked_next, unmarked_none}
use Rattle.search.proofs.machine.unmark_entries.Goals as goal

pub loop-entry-init : goal.loop-entry-init
loop-entry-init c = λ x. unmarked_none _

pub loop-entry-preserved : goal.loop-entry-preserved
loop-entry-preserved c =
    let e : Entry = get_or c.args.entries.now c.loop-entry.entry-index record { literal = pos 0; reason = None } in
    let at : slice_get c.args.entries.now c.loop-entry.entry-index ≡ Some e = slice_get-get_or c.args.entries.now c.loop-entry.entry-index _ c.loop-entry-test.true in
    let own : IsLiteral e.literal = c.requires c.loop-entry.entry-index _ c.loop-entry-test.true in
    let gives = rw (to_z-of_z _ _ (literal_fits e.literal own.1)) at c.unmark.ensures in
    λ x. unmarked_next _ _ _ c.args.entries.now c.loop-entry.entry-index e x at (c.loop-entry.invariant x) (gives x)

pub returns : goal.returns
returns c = λ x. unmarked_all _ _ c.args.entries.now c.loop-entry.entry-index x c.loop-entry-test.false (c.loop-entry.invariant x)
