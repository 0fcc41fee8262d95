use Rattle.std.proofs.Common.{refl}
use Rattle.command_words.specs.Request.{asked}
use Rattle.command.specs.Asked.{sources_of}
use Rattle.command.specs.Due.{IsDueOf}
use Rattle.command.specs.Reads.{reads}
use Rattle.command.specs.Watched.{watched}
use Rattle.command.proofs.GivesLaws.{gives_told}
use Rattle.command.proofs.session.answer.Goals as goal

pub returns-in-Measure : goal.returns-in-Measure
returns-in-Measure g c =
    gives_told (IsDueOf (reads g.F.Files c.args.files.now c.measure.new.files) (asked c.args.request.now)) (sources_of (asked c.args.request.now))
    (watched g.W.Watch c.args.watch.now c.args.watch.now) c.measure.result refl (rw c.in-Measure.is c.measure.ensures)

pub returns-in-Goals : goal.returns-in-Goals
returns-in-Goals g c =
    gives_told (IsDueOf (reads g.F.Files c.args.files.now c.goals.new.files) (asked c.args.request.now)) (sources_of (asked c.args.request.now))
    (watched g.W.Watch c.args.watch.now c.args.watch.now) c.goals.result refl (rw c.in-Goals.is c.goals.ensures)

pub returns-in-Runs : goal.returns-in-Runs
returns-in-Runs g c =
    gives_told (IsDueOf (reads g.F.Files c.args.files.now c.runs.new.files) (asked c.args.request.now)) (sources_of (asked c.args.request.now))
    (watched g.W.Watch c.args.watch.now c.args.watch.now) c.runs.result refl (rw c.in-Runs.is c.runs.ensures)

pub returns-in-Traces : goal.returns-in-Traces
returns-in-Traces g c =
    gives_told (IsDueOf (reads g.F.Files c.args.files.now c.traces.new.files) (asked c.args.request.now)) (sources_of (asked c.args.request.now))
    (watched g.W.Watch c.args.watch.now c.args.watch.now) c.traces.result refl (rw c.in-Traces.is c.traces.ensures)

pub returns-in-Replay : goal.returns-in-Replay
returns-in-Replay g c =
    gives_told (IsDueOf (reads g.F.Files c.args.files.now c.replay.new.files) (asked c.args.request.now)) (sources_of (asked c.args.request.now))
    (watched g.W.Watch c.args.watch.now c.args.watch.now) c.replay.result refl (rw c.in-Replay.is c.replay.ensures)

pub returns-in-Trees : goal.returns-in-Trees
returns-in-Trees g c =
    gives_told (IsDueOf (reads g.F.Files c.args.files.now c.trees.new.files) (asked c.args.request.now)) (sources_of (asked c.args.request.now))
    (watched g.W.Watch c.args.watch.now c.args.watch.now) c.trees.result refl (rw c.in-Trees.is c.trees.ensures)

pub returns-in-Events : goal.returns-in-Events
returns-in-Events g c =
    gives_told (IsDueOf (reads g.F.Files c.args.files.now c.events.new.files) (asked c.args.request.now)) (sources_of (asked c.args.request.now))
    (watched g.W.Watch c.args.watch.now c.args.watch.now) c.events.result refl (rw c.in-Events.is c.events.ensures)

pub returns-in-Check : goal.returns-in-Check
returns-in-Check g c =
    gives_told (IsDueOf (reads g.F.Files c.args.files.now c.check.new.files) (asked c.args.request.now)) (sources_of (asked c.args.request.now))
    (watched g.W.Watch c.args.watch.now c.args.watch.now) c.check.result refl (rw c.in-Check.is c.check.ensures)

pub returns-in-CheckBounds : goal.returns-in-CheckBounds
returns-in-CheckBounds g c =
    gives_told (IsDueOf (reads g.F.Files c.args.files.now c.check_bounds.new.files) (asked c.args.request.now)) (sources_of (asked c.args.request.now))
    (watched g.W.Watch c.args.watch.now c.args.watch.now) c.check_bounds.result refl (rw c.in-CheckBounds.is c.check_bounds.ensures)

pub returns-in-Graph : goal.returns-in-Graph
returns-in-Graph g c =
    gives_told (IsDueOf (reads g.F.Files c.args.files.now c.graph.new.files) (asked c.args.request.now)) (sources_of (asked c.args.request.now))
    (watched g.W.Watch c.args.watch.now c.args.watch.now) c.graph.result refl (rw c.in-Graph.is (rw c.deref.ensures.value at c.graph.ensures))

pub returns-in-Generate : goal.returns-in-Generate
returns-in-Generate g c = rw c.in-Generate.is c.generate.ensures

pub returns-in-Prove : goal.returns-in-Prove
returns-in-Prove g c = rw c.in-Prove.is c.prove.ensures

pub returns-in-Bounds : goal.returns-in-Bounds
returns-in-Bounds g c = rw c.in-Bounds.is c.bounds.ensures

pub returns-in-ProveBounds : goal.returns-in-ProveBounds
returns-in-ProveBounds g c = rw c.in-ProveBounds.is c.bounds-in-ProveBounds.ensures

pub returns-in-Least : goal.returns-in-Least
returns-in-Least g c = rw c.in-Least.is c.least.ensures

pub returns-in-Sample : goal.returns-in-Sample
returns-in-Sample g c = rw c.in-Sample.is c.sample.ensures
