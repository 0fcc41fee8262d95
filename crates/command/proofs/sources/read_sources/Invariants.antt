use Rattle.std.proofs.Common.{◌≡◌, ◌≤◌, take}
use Rattle.command.specs.Sources.{AreRead}
use Rattle.command_words.specs.Request.{texts_at}
use Rattle.command.proofs.sources.read_sources.Given as goal

abbrev pub invariant-loop-name : goal.invariant-loop-name
invariant-loop-name g l = record {
  same_files : g.F.Files.holds l.files ≡ g.F.Files.holds l.initial.files;
  no_fault : g.F.Files.faults l.files ≡ g.F.Files.faults l.initial.files;
  received : g.F.Files.received l.initial.files ≤ g.F.Files.received l.files;
  read : AreRead (g.F.Files.holds l.initial.files) (texts_at (take l.name-index l.names)) l.texts.items;
}
