-- How a run ends.
use Rattle.std.proofs.Common.{◌≡◌, ℕ, List, [], None, Some, inl, inr, refl, sym, ap, subst, append-nil}
use Rattle.std.specs.Prelude.{Option, IsSomeAnd, MatchOption}
use Rattle.std.specs.Io.KnownBytes.{Appends, Keeps}
use Rattle.fq_core.specs.declared.refusal.Refusal.{Refusal}
use Rattle.fq_io.specs.declared.sinks.Sink.{Ghosts}
use Rattle.suite.specs.Generated.{Shown}
use Rattle.command.specs.declared.status.Status.{Status}
use Rattle.command.specs.declared.status.Status.TheVariants as status
use Rattle.command_words.specs.Reading.{Text}
use Rattle.command_words.specs.Request.{Asked, request_of}
use Rattle.command.specs.Due.{IsDue, IsDueOf}
use Rattle.command.specs.Reads.{Reads}
use Rattle.command.specs.Refusal.{line_of, said_by, status_of}
use Rattle.command.specs.Replies.{said_in}
use Rattle.command.specs.Said.{Said, refused, status_with}
use Rattle.command.specs.declared.reply.Reply.{Reply}
use Rattle.command.specs.declared.reply.Reply.TheVariants.{Answer, OtherFormula}
use Rattle.command.specs.Stages.{usage}
use Rattle.command.specs.Outcome.{Ends, EndsWriting, GainsNone, Refuses, Writes, WritesReply, writes}
use Rattle.command.specs.Watched.{IsShown, IsShownNone, Watched}
use Rattle.command.proofs.GivesLaws.{shown_nothing}

-- known bytes that stay have grown by none
Appends-nil : (old new : Option (List ℕ)) → Keeps old new → Appends old new []
Appends-nil None new keeps = tt
Appends-nil (Some xs) None keeps = keeps
Appends-nil (Some xs) (Some ys) keeps = rw append-nil keeps

pub Keeps-refl : (known : Option (List ℕ)) → Keeps known known
Keeps-refl None = tt
Keeps-refl (Some xs) = refl

module _ (due : Said → Type 0) (wanted : Status) (bytes : List ℕ) (shown : List Shown) (watch : Watched) (is_shown : IsShown shown watch) where
  -- what is due is written to `out`, or its writing is cut short
  ends_out : (s : Status) (out err : Writes) → due (record { status = Some wanted; out = bytes; err = []; shown = shown }) → EndsWriting wanted bytes s out → GainsNone err
      → Ends due s out err watch
  ends_out status.WriteFault out err is written none = (record { status = Some wanted; out = bytes; err = []; shown = shown }, is, inl (written.0, none, written.1), is_shown)
  ends_out status.Memory out err is written none =
      elim written [ inl kept ↦ inl (kept, none) | inr part ↦ inr (record { status = Some wanted; out = bytes; err = []; shown = shown }, is, inl (part.0, none, part.1)) ]
  ends_out s out err is written none =
      (record { status = Some wanted; out = bytes; err = []; shown = shown }, is, ap Some (sym written.0), (written.1, Appends-nil err.before err.after none), is_shown)

  -- the same to `err`
  ends_err : (s : Status) (out err : Writes) → due (record { status = Some wanted; out = []; err = bytes; shown = shown }) → EndsWriting wanted bytes s err → GainsNone out
      → Ends due s out err watch
  ends_err status.WriteFault out err is written none = (record { status = Some wanted; out = []; err = bytes; shown = shown }, is, inr (none, written.0, written.1), is_shown)
  ends_err status.Memory out err is written none =
      elim written [ inl kept ↦ inl (none, kept) | inr part ↦ inr (record { status = Some wanted; out = []; err = bytes; shown = shown }, is, inr (none, part.0, part.1)) ]
  ends_err s out err is written none =
      (record { status = Some wanted; out = []; err = bytes; shown = shown }, is, ap Some (sym written.0), (Appends-nil out.before out.after none, written.1), is_shown)

  -- what is due is written to one sink, and the other one is as it was
  pub ends_answered : {S : Type 0} (sink : Ghosts S) (e : S) (s : Status) (out : Writes)
      → due (record { status = Some wanted; out = bytes; err = []; shown = shown }) → EndsWriting wanted bytes s out → Ends due s out (writes sink e e) watch
  ends_answered sink e s out is written = ends_out s out (writes sink e e) is written (Keeps-refl (sink.taken e))

  pub ends_rejected : {S : Type 0} (sink : Ghosts S) (o : S) (s : Status) (err : Writes)
      → due (record { status = Some wanted; out = []; err = bytes; shown = shown }) → EndsWriting wanted bytes s err → Ends due s (writes sink o o) err watch
  ends_rejected sink o s err is written = ends_err s (writes sink o o) err is written (Keeps-refl (sink.taken o))

-- a refusal that is due is written, or its writing is cut short, and the watch was shown nothing
pub ends_refused : {S : Type 0} (sink : Ghosts S) (o : S) (due : Said → Type 0) (sources : List (List ℕ))
    (refusal : Refusal) (s : Status) (err : Writes) (watch : Watched) → due (said_by sources refusal) → IsShownNone watch → Refuses sources refusal s err
    → Ends due s (writes sink o o) err watch
unfolding said_by
ends_refused sink o due sources refusal s err watch is none refuses =
    by (status_of refusal.code) is refuses
  where
    by : (known : Option Status) → due (refused known (line_of sources refusal)) → IsSomeAnd known (λ wanted. EndsWriting wanted (line_of sources refusal) s err)
        → Ends due s (writes sink o o) err watch
    by None said written = absurd written
    by (Some wanted) said written =
        ends_rejected due wanted (line_of sources refusal) [] watch (shown_nothing watch none) sink o s err said written

-- a reply that is due is written, or its writing is cut short
pub ends_reply : (due : Said → Type 0) (r : Reply) (s : Status) (out err : Writes) (watch : Watched) (shown : List Shown) → due (said_in r shown) → IsShown shown watch
    → WritesReply r s out err → Ends due s out err watch
ends_reply due (Answer text left_open) s out err watch shown is is_shown written =
    ends_out due (status_with left_open) text.items shown watch is_shown s out err is written.0 written.1
ends_reply due (OtherFormula line) s out err watch shown is is_shown written =
    ends_err due status.CertificateRejected line.items shown watch is_shown s out err is written.0 written.1

-- ---- by the words

module _ (r : Reads) (words : List Text) where
  pub due_asked : (asked : Asked) → request_of words ≡ Some asked → (s : Status) (out err : Writes) (watch : Watched) → Ends (IsDueOf r asked) s out err watch → Ends (IsDue r words) s out err watch
  due_asked asked some s out err watch ended =
      subst (λ (o : Option Asked). Ends (λ said. MatchOption o (said ≡ usage) (λ a. IsDueOf r a said)) s out err watch) (sym some) ended

  pub due_usage : request_of words ≡ None → IsDue r words usage
  due_usage none = rw none refl
