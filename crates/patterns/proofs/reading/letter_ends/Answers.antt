use Rattle.std.proofs.Common.{◌∷◌, [], length, ap, arith, length-append}
use Rattle.patterns.specs.Match.{LetterMatch}
use Rattle.patterns.specs.Paths.{step_of}
use Rattle.patterns.proofs.PlacesLaws.{marked_more}
use Rattle.patterns.proofs.reading.letter_ends.Goals as goal

pub loop-place-preserved : goal.loop-place-preserved
loop-place-preserved c = record {
  size = let e = c.in_ok-push.ensures.items in let f = ap length e in let s = c.loop-place.invariant.size in omega (arith, length-append c.loop-place.ends.items (c.letter_ends_at.result ∷ []), f, s);
  marked = marked_more (LetterMatch (step_of c.args.path.now) c.args.letter.now) c.args.starts.now c.loop-place.ends.items c.push.new.self.items c.letter_ends_at.result c.loop-place.place c.in_ok-push.ensures.items c.loop-place.invariant.size c.loop-place.invariant.marked c.letter_ends_at.ensures;
}
