use Rattle.std.proofs.Common.{subst, sym}
use Rattle.c_meaning.specs.Storage.{HasRoom}
use Rattle.c_meaning.proofs.StateLaws.{has_room}
use Rattle.c_meaning.proofs.state.store_of.Goals as goal

pub returns-clause-room : goal.returns-clause-room
returns-clause-room c =
    subst HasRoom (sym c.storage_of.ensures) (has_room c.args.graph.now c.args.state.now c.well_formed-2.ensures c.requires)
