-- What a call answers of what is due.
use Rattle.std.proofs.Common.{◌≡◌, ℕ, List, [], Some, None, refl, sym, ◌∙◌, append-nil}
use Rattle.std.specs.Prelude.{Option, IfOk, Result, Ok, Err}
use Rattle.fq_core.specs.Refusals.{IfRefused}
use Rattle.fq_core.specs.declared.refusal.Fault.{Fault}
use Rattle.fq_core.specs.declared.refusal.Fault.TheVariants as fault
use Rattle.command_words.specs.Reading.{Text}
use Rattle.suite.specs.Generated.{Shown, seen_also}
use Rattle.command.specs.declared.reply.Reply.{Reply}
use Rattle.command.specs.declared.status.Status.TheVariants as status
use Rattle.command.specs.Refusal.{said_by}
use Rattle.command.specs.Replies.{Gives, Tells, said_in}
use Rattle.command.specs.Said.{Said}
use Rattle.command.specs.Watched.{IsShown, IsShownNone, Watched}

nothing : (seen : Option (List Shown)) → seen_also seen [] ≡ seen
nothing None = refl
nothing (Some list) = rw append-nil refl

-- a watch that saw nothing new was shown nothing
pub shown_nothing : (w : Watched) → IsShownNone w → IsShown [] w
shown_nothing w none = none ∙ sym (nothing w.before)

module _ (P Q : Said → Type 0) (names : List Text) where
  -- what is due of one thing is due of another
  pub gives_map : (w : Watched) (r : Result Reply Fault) → ((said : Said) → P said → Q said) → Gives P names w r → Gives Q names w r
  gives_map w (Ok x) tells given = (given.0, tells (said_in x given.0) given.1, given.2)
  gives_map w (Err (fault.Refused x)) tells given = (tells (said_by names x) given.0, given.1)
  gives_map w (Err fault.Memory) tells given = tt

  pub tells_map : (r : Result Reply Fault) → ((said : Said) → P said → Q said) → Tells P names r → Tells Q names r
  tells_map (Ok x) tells told = tells (said_in x []) told
  tells_map (Err (fault.Refused x)) tells told = tells (said_by names x) told
  tells_map (Err fault.Memory) tells told = tt

module _ (due : Said → Type 0) (names : List Text) where
  pub gives_refused : (w : Watched) (f : Fault) → IfRefused f (λ x. due (said_by names x)) → IsShownNone w → Gives due names w (Err f)
  gives_refused w (fault.Refused x) is none = (is, none)
  gives_refused w fault.Memory is none = tt

  -- memory ran out
  pub gives_nothing : (w : Watched) (r : Result Reply Fault) → (f : Fault) × (r ≡ Err f) × (f ≡ fault.Memory) → Gives due names w r
  gives_nothing w r (f, is, memory) = rw (is, memory) tt

  pub tells_refused : (f : Fault) → IfRefused f (λ x. due (said_by names x)) → Tells due names (Err f)
  tells_refused (fault.Refused x) is = is
  tells_refused fault.Memory is = tt

  -- an answer of which nothing is shown
  pub gives_told : (w : Watched) (r : Result Reply Fault) → IsShownNone w → Tells due names r → Gives due names w r
  gives_told w (Ok x) none told = ([], told, shown_nothing w none)
  gives_told w (Err (fault.Refused x)) none told = (told, none)
  gives_told w (Err fault.Memory) none told = tt

-- what holds of what is answered tells another thing of it
pub ok_tells : {T E : Type 0} (r : Result T E) (P Q : T → Type 0) → IfOk r P → ((x : T) → P x → Q x) → IfOk r Q
ok_tells (Ok x) P Q p tells = tells x p
ok_tells (Err e) P Q p tells = tt

-- what is said of an answer that is left open, by its text
pub same_open : (a b : List ℕ) (shown : List Shown) → a ≡ b
    → ◌≡◌ {A = Said} (record { status = Some status.DoneOpen; out = a; err = []; shown = shown }) (record { status = Some status.DoneOpen; out = b; err = []; shown = shown })
same_open a b shown is = rw is refl
