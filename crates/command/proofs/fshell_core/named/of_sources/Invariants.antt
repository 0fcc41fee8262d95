use Rattle.std.proofs.Common.{◌≡◌, take}
use Rattle.command_words.specs.Request.{texts_at}
use Rattle.command.specs.fshell_core.Named.{shown, sources}
use Rattle.command.proofs.fshell_core.named.of_sources.Given as goal

abbrev pub invariant-loop-name : goal.invariant-loop-name
invariant-loop-name l = shown l.all.items ≡ sources (texts_at (take l.name-index l.names))
