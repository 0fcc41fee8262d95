-- The first file of a name, and what becomes of it by a write at its place.
use Rattle.std.proofs.Common.{◌≡◌, ◌≢◌, ℕ, ◌<◌, Bool, true, false, cond, List, [], ◌∷◌, length, get_or, Option, Some, None, find, slice_get, refl, sym, ap, subst, ◌∙◌}
use Rattle.std.specs.Prelude.{◌++◌, is_some, nat_lt, option_map}
use Rattle.std.specs.Option.{option_or}
use Rattle.std.specs.List.{position, position_or_len}
use Rattle.std.specs.Str.{bytes_eq}
use Rattle.std.proofs.Math.ListN.{set}
use Rattle.std.proofs.lemmas.List.{map-append}
use Rattle.std.proofs.lemmas.Bool.{ltb-false, ltb-true}
use Rattle.std.proofs.lemmas.List.Folds.{find-append, find_at, find-set, find_past}
use Rattle.std.proofs.lemmas.Option.{slice_get-get_or, slice_get_past}
use Rattle.std.proofs.lemmas.Slice.Eq.{bytes_eq-Decides}
use Rattle.fq_io.specs.MemoryFiles.{content_of}
use Rattle.fq_io_recorded.specs.declared.handed.Handed.{Handed}
use Rattle.fq_io_recorded.specs.declared.handed.Text.{Text}
use Rattle.fq_io_recorded.specs.Handed.{AreAll, AreTold, bytes_told, first_of, has_name, texts_told, times_of_file}

module _ {X : Type 0} (test : X → Bool) where
  find_passes_by : (b : Bool) (x : X) (xs : List X) (y : X) → test x ≡ b → (find test xs ≡ Some y → test y ≡ true) → cond b (Some x) (find test xs) ≡ Some y → test y ≡ true
  find_passes_by true x xs y is rest h = let same : x ≡ y = cc in ap test (sym same) ∙ is
  find_passes_by false x xs y is rest h = rest h

  find_passes : (xs : List X) (y : X) → find test xs ≡ Some y → test y ≡ true
  find_passes [] y h = cc
  find_passes (x ∷ xs) y h = find_passes_by (test x) x xs y refl (find_passes xs y) h

  module _ (xs : List X) where
    place_by : (i : ℕ) (found : Bool) → nat_lt (position_or_len test xs) (length xs) ≡ found → cond found (Some (position_or_len test xs)) None ≡ Some i → (i ≡ position_or_len test xs) × (i < length xs)
    place_by i true is some = let same : position_or_len test xs ≡ i = cc in (sym same, rw same at (ltb-true _ _ is))
    place_by i false is some = cc

    place : (i : ℕ) → position test xs ≡ Some i → (i ≡ position_or_len test xs) × (i < length xs)
    place i some = place_by i _ refl some

    -- the element at the place is the one that is found
    found : (i : ℕ) (d : X) → position test xs ≡ Some i → find test xs ≡ Some (get_or xs i d)
    found i d some =
        let at = place i some in
        find_at test xs ∙ ap (slice_get xs) (sym at.0) ∙ slice_get-get_or xs i d at.1

    missing_by : (b : Bool) → nat_lt (position_or_len test xs) (length xs) ≡ b → cond b (Some (position_or_len test xs)) None ≡ None → find test xs ≡ None
    missing_by true is none = cc
    missing_by false is none = find_at test xs ∙ slice_get_past xs (position_or_len test xs) (ltb-false _ _ is)

    missing : position test xs ≡ None → find test xs ≡ None
    missing none = missing_by _ refl none

-- ---- files by their names

module _ (files : List Handed) (name : List ℕ) (i : ℕ) (d : Handed) (at : position (has_name name) files ≡ Some i) where
  pub there : first_of files name ≡ Some (get_or files i d)
  there = found (has_name name) files i d at

  its_name : has_name name (get_or files i d) ≡ true
  its_name = find_passes (has_name name) files (get_or files i d) there

  module _ (y : Handed) (same : y.name ≡ (get_or files i d).name) where
    -- the file that was written there is the first of its name
    pub written : first_of (set files i y) name ≡ Some y
    written =
        let is = place (has_name name) files i at in
        find-set (has_name name) files i y is.0 is.1 (ap (λ n. bytes_eq n name) same ∙ its_name)

    -- other names have the files that they had
    pub others : (other : List ℕ) → other ≢ name → first_of (set files i y) other ≡ first_of files other
    others other apart =
        let not_it : bytes_eq (get_or files i d).name other ≡ false = not_other (bytes_eq (get_or files i d).name other) refl in
        find_past (has_name other) files i y d not_it (ap (λ n. bytes_eq n other) same ∙ not_it)
      where
        not_other : (b : Bool) → bytes_eq (get_or files i d).name other ≡ b → b ≡ false
        not_other false is = refl
        not_other true is =
            let one : (get_or files i d).name ≡ other = (bytes_eq-Decides _ _).0 is in
            let two : (get_or files i d).name ≡ name = (bytes_eq-Decides _ _).0 its_name in
            absurd (apart (sym one ∙ two))

    module _ (told : List (List ℕ × Text)) where
      abbrev is_told : Option Handed → Option (List ℕ)
      is_told = option_map (λ (file : Handed). bytes_told file.text)

      now_is : (n : List ℕ) → n ≡ name → first_of (set files i y) n ≡ Some y
      now_is n e = ap (first_of (set files i y)) e ∙ written

      apart_from : (n : List ℕ) → bytes_eq n name ≡ false → n ≢ name
      apart_from n is e = let t : bytes_eq n name ≡ true = (bytes_eq-Decides n name).1 e in cc

      told_by : AreTold files told → (0 < y.times → 0 < (get_or files i d).times) → (0 < y.times → y.text ≡ (get_or files i d).text) → (n : List ℕ) (b : Bool) → bytes_eq n name ≡ b
          → 0 < times_of_file (first_of (set files i y) n) → content_of (texts_told told) n ≡ is_told (first_of (set files i y) n)
      told_by before less stays n true is some =
          let e : n ≡ name = (bytes_eq-Decides n name).0 is in
          let was : first_of files n ≡ Some (get_or files i d) = ap (first_of files) e ∙ there in
          let positive : 0 < y.times = subst (λ (o : Option Handed). 0 < times_of_file o) (now_is n e) some in
          before n (subst (λ (o : Option Handed). 0 < times_of_file o) (sym was) (less positive)) ∙ ap is_told was ∙ ap (λ t. Some (bytes_told t)) (sym (stays positive)) ∙ ap is_told (sym (now_is n e))
      told_by before less stays n false is some =
          let same_file = others n (apart_from n is) in
          before n (subst (λ (o : Option Handed). 0 < times_of_file o) same_file some) ∙ ap is_told (sym same_file)

      -- what is told stays told, where the text stays as long as it may be handed over
      pub stay_told : AreTold files told → (0 < y.times → 0 < (get_or files i d).times) → (0 < y.times → y.text ≡ (get_or files i d).text) → AreTold (set files i y) told
      stay_told before less stays n some = told_by before less stays n _ refl some

      all_by : AreAll files told → (n : List ℕ) (b : Bool) → bytes_eq n name ≡ b → is_some (content_of (texts_told told) n) ≡ is_some (first_of (set files i y) n)
      all_by before n true is =
          let e : n ≡ name = (bytes_eq-Decides n name).0 is in
          before n ∙ ap is_some (ap (first_of files) e ∙ there) ∙ ap is_some (sym (now_is n e))
      all_by before n false is = before n ∙ ap is_some (sym (others n (apart_from n is)))

      pub stay_all : AreAll files told → AreAll (set files i y) told
      stay_all before n = all_by before n _ refl

pub nowhere : (files : List Handed) (name : List ℕ) → position (has_name name) files ≡ None → first_of files name ≡ None
nowhere files name none = missing (has_name name) files none

-- as long as a file may be handed over, its text is what is told
pub its_text : (files : List Handed) (told : List (List ℕ × Text)) (name : List ℕ) (d : Handed) → AreTold files told → first_of files name ≡ Some d → 0 < d.times
    → content_of (texts_told told) name ≡ Some (bytes_told d.text)
its_text files told name d before is some =
    before name (subst (λ (o : Option Handed). 0 < times_of_file o) (sym is) some) ∙ ap (option_map (λ (file : Handed). bytes_told file.text)) is

-- the place is one in the files, by the name's bytes
pub placed : (files lent : List Handed) (name bytes : List ℕ) (o p : Option ℕ) → lent ≡ files → bytes ≡ name → o ≡ position (has_name bytes) lent → o ≡ p → position (has_name name) files ≡ p
placed files lent name bytes o p e f g h = ap (position (has_name name)) (sym e) ∙ ap (λ (n : List ℕ). position (has_name n) lent) (sym f) ∙ sym g ∙ h

-- ---- a file behind the others

-- what the entries of a front tell goes before what others tell
pub content_more : (xs ys : List (List ℕ × List ℕ)) (n : List ℕ) → content_of (xs ++ ys) n ≡ option_or (content_of xs n) (content_of ys n)
content_more xs ys n = ap (option_map (λ (e : List ℕ × List ℕ). e.1)) (find-append (λ (e : List ℕ × List ℕ). bytes_eq e.0 n) xs ys) ∙ either (find (λ (e : List ℕ × List ℕ). bytes_eq e.0 n) xs)
  where
    either : (o : Option (List ℕ × List ℕ)) → option_map (λ (e : List ℕ × List ℕ). e.1) (option_or o (find (λ (e : List ℕ × List ℕ). bytes_eq e.0 n) ys)) ≡ option_or (option_map (λ (e : List ℕ × List ℕ). e.1) o) (content_of ys n)
    either None = refl
    either (Some e) = refl

module _ (files : List Handed) (told : List (List ℕ × Text)) (file : Handed) where
  abbrev longer : List (List ℕ × Text)
  longer = told ++ (file.name, file.text) ∷ []

  first_more : (n : List ℕ) → first_of (files ++ file ∷ []) n ≡ option_or (first_of files n) (cond (bytes_eq file.name n) (Some file) None)
  first_more n = find-append (has_name n) files (file ∷ [])

  told_more : (n : List ℕ) → content_of (texts_told longer) n ≡ option_or (content_of (texts_told told) n) (cond (bytes_eq file.name n) (Some (bytes_told file.text)) None)
  told_more n = ap (λ (es : List (List ℕ × List ℕ)). content_of es n) (map-append (λ (e : List ℕ × Text). (e.0, bytes_told e.1)) told ((file.name, file.text) ∷ [])) ∙ content_more (texts_told told) ((file.name, bytes_told file.text) ∷ []) n ∙ ap (option_or (content_of (texts_told told) n)) (one (bytes_eq file.name n))
    where
      one : (b : Bool) → option_map (λ (e : List ℕ × List ℕ). e.1) (cond b (Some (file.name, bytes_told file.text)) None) ≡ cond b (Some (bytes_told file.text)) None
      one true = refl
      one false = refl

  module _ (all : AreAll files told) where
    all_at : (n : List ℕ) (b : Bool) (o : Option Handed) (t : Option (List ℕ)) → is_some t ≡ is_some o → is_some (option_or t (cond b (Some (bytes_told file.text)) None)) ≡ is_some (option_or o (cond b (Some file) None))
    all_at n true None None e = refl
    all_at n false None None e = refl
    all_at n b (Some f) (Some t) e = refl
    all_at n b None (Some t) e = cc
    all_at n b (Some f) None e = cc

    pub all_added : AreAll (files ++ file ∷ []) longer
    all_added n = ap is_some (told_more n) ∙ all_at n (bytes_eq file.name n) (first_of files n) (content_of (texts_told told) n) (all n) ∙ ap is_some (sym (first_more n))

    told_at : (b : Bool) (o : Option Handed) (t : Option (List ℕ)) → is_some t ≡ is_some o → (0 < times_of_file o → t ≡ option_map (λ (f : Handed). bytes_told f.text) o)
        → 0 < times_of_file (option_or o (cond b (Some file) None)) → option_or t (cond b (Some (bytes_told file.text)) None) ≡ option_map (λ (f : Handed). bytes_told f.text) (option_or o (cond b (Some file) None))
    told_at true None None e before some = refl
    told_at false None None e before some = refl
    told_at b (Some f) (Some t) e before some = before some
    told_at b None (Some t) e before some = cc
    told_at b (Some f) None e before some = cc

    pub told_added : AreTold files told → AreTold (files ++ file ∷ []) longer
    told_added before n some =
        let here = subst (λ (o : Option Handed). 0 < times_of_file o) (first_more n) some in
        told_more n ∙ told_at (bytes_eq file.name n) (first_of files n) (content_of (texts_told told) n) (all n) (before n) here ∙ ap (option_map (λ (f : Handed). bytes_told f.text)) (sym (first_more n))

  -- the file is the first of its name, where no other had it
  pub first_added : first_of files file.name ≡ None → first_of (files ++ file ∷ []) file.name ≡ Some file
  first_added none = first_more file.name ∙ ap (λ (o : Option Handed). option_or o (cond (bytes_eq file.name file.name) (Some file) None)) none ∙ ap (λ b. cond b (Some file) None) ((bytes_eq-Decides file.name file.name).1 refl)

  -- and other names have the files that they had
  pub others_added : (other : List ℕ) → other ≢ file.name → first_of (files ++ file ∷ []) other ≡ first_of files other
  others_added other apart = first_more other ∙ ap (λ b. option_or (first_of files other) (cond b (Some file) None)) (not_it (bytes_eq file.name other) refl) ∙ nothing (first_of files other)
    where
      not_it : (b : Bool) → bytes_eq file.name other ≡ b → bytes_eq file.name other ≡ false
      not_it false is = is
      not_it true is = absurd (apart (sym ((bytes_eq-Decides file.name other).0 is)))

      nothing : (o : Option Handed) → option_or o None ≡ o
      nothing None = refl
      nothing (Some f) = refl
