-- Laws of what is read.
use Rattle.std.proofs.Common.{◌≡◌, ℕ, zero, suc, ◌+◌, ◌-◌, ◌^◌, ◌<◌, ◌≤◌, List, [], ◌∷◌, ◌++◌, length, take, drop, get_or, refl, sym, ap, subst, ◌∙◌, arith}
use denote.Ref.{Bor}
use Rattle.std.specs.Prelude.{Option, IfSome}
use Rattle.std.proofs.lemmas.List.{drop_more, map-append, take_more, take-append-drop}
use Rattle.fq_core.specs.declared.refusal.Fault.{Fault}
use Rattle.fq_core.specs.declared.refusal.Fault.TheVariants as fault
use Rattle.fq_core.specs.declared.refusal.Place.TheVariants as place
use Rattle.fq_core.specs.declared.refusal.Refusal.{Refusal}
use Rattle.fq_io.specs.Counts.{Rose, RosePast}
use Rattle.c_lex.specs.declared.token.SourceText.{SourceText}
use Rattle.command.proofs.MeasureLaws.{zip_push}
use Rattle.command.specs.Reads.{HasFailedAt, IsPast, Reads}
use Rattle.fq_core.specs.Refusals.{IfRefused}
use Rattle.command.specs.Sources.{AreRead, IsRead, IsReadUpTo, IsUnread, fails, is_past, most_source}
use Rattle.command_words.specs.Request.{texts_at}

-- what holds of a refusal tells another thing of it
pub refused_map : (f : Fault) {P Q : Refusal → Type 0} → IfRefused f P → ((x : Refusal) → P x → Q x) → IfRefused f Q
refused_map (fault.Refused x) p tells = tells x p
refused_map fault.Memory p tells = tt

-- ---- one source

pub unread_failed : (r : Reads) (limit : ℕ) (file : List ℕ) (f : Fault) → IfRefused f (λ x. x ≡ record { code = 7; place = place.FileName file })
    → HasFailedAt r file → IfRefused f (IsUnread r limit file)
unread_failed r limit file (fault.Refused x) is failed = subst (IsUnread r limit file) (sym is) (fails failed)
unread_failed r limit file fault.Memory is failed = tt

pub unread_past : (r : Reads) (limit : ℕ) (file : List ℕ) (f : Fault) → IfRefused f (λ x. x ≡ record { code = 16; place = place.FileName file })
    → IsPast r limit file → IfRefused f (IsUnread r limit file)
unread_past r limit file (fault.Refused x) is past = subst (IsUnread r limit file) (sym is) (is_past past)
unread_past r limit file fault.Memory is past = tt

-- ---- what happened after some reads happened since before them

module _ (holds held : List ℕ → Option (List ℕ)) (last : Option (Option (List ℕ))) (before middle after first second third : ℕ)
    (same : held ≡ holds) (no_fault : middle ≡ before) (received : first ≤ second) where
  abbrev pub late : Reads
  late = record { holds = held; last_failed = last; faults_before = middle; faults_after = after; received_before = second; received_after = third }

  abbrev pub whole : Reads
  whole = record { holds = holds; last_failed = last; faults_before = before; faults_after = after; received_before = first; received_after = third }

  pub failed_since : (file : List ℕ) → HasFailedAt late file → HasFailedAt whole file
  failed_since file failed = record { last = failed.last; rose = subst (λ n. Rose n after) no_fault failed.rose }

  rose_since : (n : ℕ) → RosePast n second third → RosePast n first third
  rose_since n rose =
      let sum : first + (rose.0 + (second - first)) ≡ second + rose.0 = omega arith in
      (rose.0 + (second - first), omega (arith, rose.1), rw sum rose.2)

  pub past_since : (limit : ℕ) (file : List ℕ) → IsPast late limit file → IsPast whole limit file
  past_since limit file past = record {
    long = subst (λ (h : List ℕ → Option (List ℕ)). IfSome (h file) (λ bytes. limit < length bytes)) same past.long;
    received = rose_since limit past.received;
  }

  pub unread_since : (limit : ℕ) (file : List ℕ) (x : Refusal) → IsUnread late limit file x → IsUnread whole limit file x
  unread_since limit file x (fails failed) = fails (failed_since file failed)
  unread_since limit file x (is_past past) = is_past (past_since limit file past)

-- ---- one source after another

pub zip_length : (holds : List ℕ → Option (List ℕ)) (files : List (List ℕ)) (texts : List SourceText) → AreRead holds files texts → length texts ≡ length files
zip_length holds [] [] all = refl
zip_length holds [] (t ∷ texts) all = absurd all
zip_length holds (f ∷ files) [] all = absurd all
zip_length holds (f ∷ files) (t ∷ texts) all = let rest = zip_length holds files texts all.1 in omega (arith, rest)

pub zip_short : (holds : List ℕ → Option (List ℕ)) (files : List (List ℕ)) (texts : List SourceText) → AreRead holds files texts
    → (i : ℕ) (d : SourceText) → i < length texts → length (get_or texts i d).bytes < 2 ^ 32
zip_short holds [] [] all i d within = absurd (omega arith)
zip_short holds [] (t ∷ texts) all i d within = absurd all
zip_short holds (f ∷ files) [] all i d within = absurd all
zip_short holds (f ∷ files) (t ∷ texts) all zero d within = let short = all.0.short in omega (arith, short)
zip_short holds (f ∷ files) (t ∷ texts) all (suc i) d within = zip_short holds files texts all.1 i d (omega arith)

module _ (names : List (Bor (List ℕ))) (i : ℕ) (d : Bor (List ℕ)) (within : i < length names) where
  -- the name of the next file
  bytes_more : texts_at (take (i + 1) names) ≡ texts_at (take i names) ++ (get_or names i d).now ∷ []
  bytes_more = rw (take_more names i d within) (map-append (λ (text : Bor (List ℕ)). text.now) (take i names) (get_or names i d ∷ []))

  bytes_parts : texts_at names ≡ texts_at (take i names) ++ (get_or names i d).now ∷ texts_at (drop (i + 1) names)
  bytes_parts =
      ap texts_at (sym (take-append-drop i names)) ∙ map-append (λ (text : Bor (List ℕ)). text.now) (take i names) (drop i names)
      ∙ rw (drop_more names i d within) refl

  pub read_more : (holds : List ℕ → Option (List ℕ)) (texts new : List SourceText) (text : SourceText) → new ≡ texts ++ text ∷ []
      → AreRead holds (texts_at (take i names)) texts → IsRead holds (get_or names i d).now text
      → AreRead holds (texts_at (take (i + 1) names)) new
  read_more holds texts new text is all one = rw (is, bytes_more) (zip_push (IsRead holds) (texts_at (take i names)) texts _ text all one)

  -- the next one isn't read
  pub read_up_to : (r : Reads) (texts : List SourceText) (x : Refusal) → AreRead r.holds (texts_at (take i names)) texts
      → IsUnread r most_source (get_or names i d).now x → IsReadUpTo r (texts_at names) x
  read_up_to r texts x all unread = record {
    front = texts_at (take i names);
    file = (get_or names i d).now;
    back = texts_at (drop (i + 1) names);
    parts = bytes_parts;
    texts = texts;
    before = all;
    unread = unread;
  }
