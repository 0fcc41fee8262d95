-- What streams took that tell it, by how a run ended.
use Rattle.std.proofs.Common.{◌≡◌, ℕ, false, true, List, [], ◌++◌, take, Some, refl, sym, ◌∙◌, inl, inr}
use Rattle.std.proofs.lemmas.List.{append-nil}
use Rattle.command.specs.declared.status.Status.{Status}
use Rattle.command.specs.declared.status.Status.TheVariants as status
use Rattle.command.specs.Outcome.{Ends, HasFailed, IsCut, IsWritten, MayLackMemory, Writes}
use Rattle.command.specs.Said.{Said}
use Rattle.command.specs.Watched.{IsShown, Watched}
use Rattle.command.specs.fshell_core.Answers.{Answers}

-- the writes of a stream that tells its bytes, and whose writes need no memory
abbrev pub writes_of : List ℕ → List ℕ → ℕ → ℕ → Writes
writes_of before after faults_before faults_after = record {
  before = Some before;
  after = Some after;
  faults_before = faults_before;
  faults_after = faults_after;
  may_lack_memory = false;
}

module _ (due weaker : Said → Type 0) (weaken : (said : Said) → due said → weaker said) (a a' b b' : List ℕ) (m m' n n' : ℕ) (watch : Watched) where
  abbrev out : Writes
  out = writes_of a a' m m'

  abbrev err : Writes
  err = writes_of b b' n n'

  abbrev Took : Status → Type 0
  Took s = (x : List ℕ) × (y : List ℕ) × (a' ≡ a ++ x) × (b' ≡ b ++ y) × Answers weaker s x y

  nothing : (before after : List ℕ) → after ≡ before → after ≡ before ++ []
  nothing before after same = same ∙ sym (append-nil before)

  cut : (said : Said) → due said → IsCut HasFailed said out err → Took status.WriteFault
  cut said d (inl c) = (take c.0.0 said.out, [], c.0.2, nothing b b' c.1, (said, weaken said d, inl ((c.0.0, c.0.1, refl), refl)))
  cut said d (inr c) = ([], take c.1.0 said.err, nothing a a' c.0, c.1.2, (said, weaken said d, inr (refl, (c.1.0, c.1.1, refl))))

  lacking : (said : Said) → IsCut MayLackMemory said out err → Took status.Memory
  lacking said (inl c) = let no : false ≡ true = c.2 in cc
  lacking said (inr c) = let no : false ≡ true = c.2 in cc

  none : Ends due status.Memory out err watch → Took status.Memory
  none (inl kept) = ([], [], nothing a a' kept.0, nothing b b' kept.1, (refl, refl))
  none (inr c) = lacking c.0 c.2

  module _ (s : Status) where
    abbrev Wrote : Type 0
    Wrote = (said : Said) × due said × (said.status ≡ Some s) × IsWritten said out err × IsShown said.shown watch

    abbrev TookAll : Type 0
    TookAll = (x : List ℕ) × (y : List ℕ) × (a' ≡ a ++ x) × (b' ≡ b ++ y) × ((said : Said) × weaker said × (said.status ≡ Some s) × (x ≡ said.out) × (y ≡ said.err))

    whole : Wrote → TookAll
    whole w = (w.0.out, w.0.err, w.3.0, w.3.1, (w.0, weaken w.0 w.1, w.2, refl, refl))

  pub took : (s : Status) → Ends due s out err watch → Took s
  took status.Done e = whole status.Done e
  took status.DoneOpen e = whole status.DoneOpen e
  took status.Usage e = whole status.Usage e
  took status.SourceRefused e = whole status.SourceRefused e
  took status.QueryRefused e = whole status.QueryRefused e
  took status.InputRefused e = whole status.InputRefused e
  took status.Limit e = whole status.Limit e
  took status.ReadFault e = whole status.ReadFault e
  took status.WriteFault e = cut e.0 e.1 e.2
  took status.Memory e = none e
  took status.CertificateRejected e = whole status.CertificateRejected e
