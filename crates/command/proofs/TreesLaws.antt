-- The automaton and the typed tree of texts.
use Rattle.std.proofs.Common.{inr, refl}
use Rattle.std.specs.Prelude.{ℕ, IsErrOf, List, Result, Ok, Err}
use Rattle.fq_core.specs.Refusals.{IfRefused, refusal}
use Rattle.fq_core.specs.declared.refusal.Fault.{Fault}
use Rattle.fq_core.specs.declared.refusal.Fault.TheVariants as fault
use Rattle.fq_core.specs.declared.refusal.Place.{Place}
use Rattle.c_front.specs.Automata as automata
use Rattle.c_lex.specs.declared.token.SourceText.{SourceText}
use Rattle.command_words.specs.Reading.{Text}
use Rattle.command.specs.declared.types.Trees.{Trees}
use Rattle.command.specs.Calls.{AreTreesAs, HaveTreesAs}
use Rattle.command.specs.Reads.{Reads}
use Rattle.command.specs.Sources.{AreRead}
use Rattle.command.proofs.ReadsLaws.{refused_map}

abbrev error : (T : Type 0) → Fault → Result T Fault
error T f = Err f

pub text_refused : (texts : List SourceText) (T : Type 0) (f : Fault) → ((code : ℕ) (p : Place) → IsErrOf (error T f) (refusal code p) → automata.IsRefused texts code p)
    → IfRefused f (λ x. automata.IsRefused texts x.code x.place)
text_refused texts T (fault.Refused x) refused = refused x.code x.place refl
text_refused texts T fault.Memory refused = tt

-- what is said of texts is said of the files that hold them
pub trees_as : (r : Reads) (names : List Text) (texts : List SourceText) → AreRead r.holds names texts → (result : Result Trees Fault) → AreTreesAs texts result → HaveTreesAs r names result
trees_as r names texts read (Ok made) is = record { texts = texts; read = read; automaton = is.0; tree = is.1 }
trees_as r names texts read (Err e) cause = refused_map e cause (λ x why. inr (record { texts = texts; read = read; cause = why }))
