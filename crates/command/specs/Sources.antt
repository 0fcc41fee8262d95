-- The files that the words name: what is read of them, and the automaton of the sources.
use Rattle.std.specs.Prelude.{◌≡◌, ◌≤◌, ◌++◌, ◌∷◌, ℕ, List, Option, length}
use Rattle.std.specs.List.{AllZip}
use Rattle.fq_core.specs.declared.refusal.Place.TheVariants as place
use Rattle.fq_core.specs.declared.refusal.Refusal.{Refusal}
use Rattle.c_lex.specs.declared.token.SourceText.{SourceText}
use Rattle.cfa.specs.declared.parts.GraphParts.{GraphParts}
use Rattle.c_front.specs.Automata.{IsAutomatonOf, IsRefused}
use Rattle.c_front.specs.typed_sources.Trees.{IsTypedOf}
use Rattle.c_typed_trees.specs.declared.unit.Typed.{Typed}
use Rattle.command.specs.Reads.{HasFailedAt, IsPast, Reads, Sees}

-- ---- one file

-- a file isn't read: its read failed, or it has more bytes than it may have
pub data IsUnread (r : Reads) (limit : ℕ) (file : List ℕ) : Refusal → Type 0 where
  fails : HasFailedAt r file → IsUnread r limit file (record { code = 7; place = place.FileName file })
  is_past : IsPast r limit file → IsUnread r limit file (record { code = 16; place = place.FileName file })

-- ---- sources

-- the bytes of a source, at most: 4 MiB
abbrev pub most_source : ℕ
most_source = 4194304

-- the text is what a file holds
pub record IsRead (holds : List ℕ → Option (List ℕ)) (file : List ℕ) (text : SourceText) : Type 0 where
  pub name : text.name ≡ file
  pub bytes : Sees holds file text.bytes
  pub short : length text.bytes ≤ most_source

-- the texts are what the files hold, one after another
abbrev pub AreRead : (List ℕ → Option (List ℕ)) → List (List ℕ) → List SourceText → Type 0
AreRead holds files texts = AllZip (IsRead holds) files texts

-- one of the files isn't read, and those before it are
pub record IsReadUpTo (r : Reads) (files : List (List ℕ)) (refusal : Refusal) : Type 0 where
  pub front : List (List ℕ)
  pub file : List ℕ
  pub back : List (List ℕ)
  pub parts : files ≡ front ++ file ∷ back
  pub texts : List SourceText
  pub before : AreRead r.holds front texts
  pub unread : IsUnread r most_source file refusal

-- the files are read, and have this automaton
pub record HaveAutomaton (holds : List ℕ → Option (List ℕ)) (files : List (List ℕ)) (graph : GraphParts) : Type 0 where
  pub texts : List SourceText
  pub read : AreRead holds files texts
  pub automaton : IsAutomatonOf texts graph

-- the files are read, and have this automaton and this typed tree
pub record HaveTrees (holds : List ℕ → Option (List ℕ)) (files : List (List ℕ)) (graph : GraphParts) (typed : Typed) : Type 0 where
  pub texts : List SourceText
  pub read : AreRead holds files texts
  pub automaton : IsAutomatonOf texts graph
  pub tree : IsTypedOf texts typed

-- the files are read, and are refused
pub record AreRefused (holds : List ℕ → Option (List ℕ)) (files : List (List ℕ)) (refusal : Refusal) : Type 0 where
  pub texts : List SourceText
  pub read : AreRead holds files texts
  pub cause : IsRefused texts refusal.code refusal.place
