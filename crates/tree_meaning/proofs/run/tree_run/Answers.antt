use Rattle.std.proofs.Common.{◌≡◌, Some, sym, ap, ◌∙◌}
use Rattle.std.specs.Prelude.{slice_get}
use Rattle.std.specs.Option.{option_copied}
use Rattle.tree_meaning.proofs.Entries.{entry_kinds, entry_body, entry_result}
use Rattle.tree_meaning.proofs.run.tree_run.Goals as goal

pub function_end-requires-clause-kinds : goal.function_end-requires-clause-kinds
function_end-requires-clause-kinds c =
    let is : slice_get c.args.typed.now.functions c.args.entry ≡ Some c.in-Some.function.now = sym c.get.ensures ∙ ap option_copied c.in-Some.is in
    entry_kinds c.args.typed.now c.args.entry c.in-Some.function.now is c.requires

pub function_end-requires-clause-body : goal.function_end-requires-clause-body
function_end-requires-clause-body c =
    let is : slice_get c.args.typed.now.functions c.args.entry ≡ Some c.in-Some.function.now = sym c.get.ensures ∙ ap option_copied c.in-Some.is in
    entry_body c.args.typed.now c.args.entry c.in-Some.function.now is c.requires

pub function_end-requires-clause-result : goal.function_end-requires-clause-result
function_end-requires-clause-result c =
    let is : slice_get c.args.typed.now.functions c.args.entry ≡ Some c.in-Some.function.now = sym c.get.ensures ∙ ap option_copied c.in-Some.is in
    entry_result c.args.typed.now c.args.entry c.in-Some.function.now is c.requires
