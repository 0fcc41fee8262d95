-- The values in the rows of a walk.
use Rattle.std.proofs.Common.{◌≡◌, ◌∙◌, Bool, true, false, true≢false, refl, sym, ap, List, [], ◌∷◌, ◌++◌, append-nil}
use Rattle.std.specs.Prelude.{if◌then◌else◌}
use Rattle.std.specs.Str.{bytes_eq}
use Rattle.std.proofs.lemmas.Slice.Eq.{bytes_eq-Decides}
use Rattle.clap.specs.declared.builder.value_parser.Reading.{Reading}
use Rattle.clap.specs.declared.parser.matches.ValueSource.{ValueSource}
use Rattle.clap.specs.Walk.{Row, Text, with_values}
use Rattle.command_words.specs.Reading.{Use, row_values, values}

-- the values of a use, at an id
abbrev pub at_id : Text → Text → List Text → List Text
at_id id other vs = if bytes_eq id other then vs else []

pub bytes_eq-refl : (xs : Text) → bytes_eq xs xs ≡ true
bytes_eq-refl xs = (bytes_eq-Decides xs xs).1 refl

pub row_values-with_values : (id other : Text) (how : Reading) (s : ValueSource) (vs : List Text) (rows : List Row)
    → row_values other (with_values id how s vs rows) ≡ row_values other rows ++ at_id id other vs
row_values-with_values id other how s vs [] = go (bytes_eq id other) refl
  where
    go : (b : Bool) → bytes_eq id other ≡ b → row_values other (with_values id how s vs []) ≡ at_id id other vs
    go true e = rw e refl
    go false e = rw e refl
row_values-with_values id other how s vs (r ∷ rows) =
    go (row_values-with_values id other how s vs rows) (bytes_eq r.id id) refl (bytes_eq r.id other) refl
  where
    apart : (d : Bool) → bytes_eq id other ≡ d → bytes_eq r.id id ≡ false → bytes_eq r.id other ≡ true → bytes_eq id other ≡ false
    apart false g e f = g
    apart true g e f =
        let is : r.id ≡ other = (bytes_eq-Decides r.id other).0 f in
        let same : id ≡ other = (bytes_eq-Decides id other).0 g in
        absurd (true≢false (sym ((bytes_eq-Decides r.id id).1 (is ∙ sym same)) ∙ e))

    go : row_values other (with_values id how s vs rows) ≡ row_values other rows ++ at_id id other vs
        → (b : Bool) → bytes_eq r.id id ≡ b → (c : Bool) → bytes_eq r.id other ≡ c
        → row_values other (with_values id how s vs (r ∷ rows)) ≡ row_values other (r ∷ rows) ++ at_id id other vs
    go later true e true f =
        let g : bytes_eq id other ≡ true = ap (λ x. bytes_eq x other) (sym ((bytes_eq-Decides r.id id).0 e)) ∙ f in
        rw (e, f, g) refl
    go later true e false f =
        let g : bytes_eq id other ≡ false = ap (λ x. bytes_eq x other) (sym ((bytes_eq-Decides r.id id).0 e)) ∙ f in
        rw (e, f, g) (sym (append-nil (row_values other rows)))
    go later false e true f =
        let g : bytes_eq id other ≡ false = apart (bytes_eq id other) refl e f in
        rw (e, f, g) (sym (append-nil r.values))
    go later false e false f = rw (e, f) later

-- the values of one more use
pub values-cons : (id value other : Text) (uses : List Use) → values other ((id, value) ∷ uses) ≡ at_id id other (value ∷ []) ++ values other uses
values-cons id value other uses = go (bytes_eq id other) refl
  where
    go : (b : Bool) → bytes_eq id other ≡ b → values other ((id, value) ∷ uses) ≡ at_id id other (value ∷ []) ++ values other uses
    go true e = rw e refl
    go false e = rw e refl

pub at_id-append : (id other : Text) (xs ys : List Text) → at_id id other (xs ++ ys) ≡ at_id id other xs ++ at_id id other ys
at_id-append id other xs ys = go (bytes_eq id other) refl
  where
    go : (b : Bool) → bytes_eq id other ≡ b → at_id id other (xs ++ ys) ≡ at_id id other xs ++ at_id id other ys
    go true e = rw e refl
    go false e = rw e refl
