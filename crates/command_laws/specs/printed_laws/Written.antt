-- What the bytes that a run wrote say, by its status.
use Rattle.std.specs.Prelude.{◌≡◌, ℕ, List, ◌++◌, Some}
use Rattle.command_words.specs.Reading.{Text}
use Rattle.command.specs.declared.status.Status.TheVariants as status
use Rattle.command.specs.Due.{IsDue}
use Rattle.command.specs.Reads.{Reads}
use Rattle.command.specs.Outcome.{Ends, Writes}
use Rattle.command.specs.Said.{Said}
use Rattle.command.specs.Watched.{Watched}

-- a sink that tells its bytes gained these
pub record Gained (w : Writes) (bytes : List ℕ) : Type 0 where
  pub front : List ℕ
  pub before : w.before ≡ Some front
  pub after : w.after ≡ Some (front ++ bytes)

-- this was due of the words, with status 0, and these are its bytes
pub record IsDueWith (r : Reads) (words : List Text) (bytes : List ℕ) : Type 0 where
  pub said : Said
  pub due : IsDue r words said
  pub done : said.status ≡ Some status.Done
  pub out : said.out ≡ bytes

-- Where a run ends with status 0, and standard output tells that it gained these bytes, they are those of what was due. So what follows
-- from texts that are due holds of the bytes that were written.
abbrev pub WrittenIsDue : Type 0
WrittenIsDue =
    (r : Reads) (words : List Text) (out err : Writes) (watch : Watched) (bytes : List ℕ) → Ends (IsDue r words) status.Done out err watch → Gained out bytes → IsDueWith r words bytes
