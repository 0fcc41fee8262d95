-- What the needs of variables say of each of them.
use Rattle.std.proofs.Common.{◌≡◌, ℕ, Bool, true, false, List, [], ◌∷◌, Option, ◌+◌, ◌++◌, refl, ap, ◌∙◌, arith}
use Rattle.std.specs.Prelude.{◌&&◌, nat_le}
use Rattle.std.specs.List.{list_all, flat_map}
use Rattle.std.proofs.lemmas.Bool.{le-leb}
use Rattle.std.proofs.lemmas.List.Folds.{list_all-append}
use Rattle.c_values.specs.Kind.{is_kind}
use Rattle.cfa.specs.declared.parts.Variable.{Variable}
use Rattle.cfa.specs.declared.parts.VariablePlace.{VariablePlace}
use Rattle.cfa.specs.declared.parts.VariablePlace.TheVariants as place
use Rattle.cfa.specs.declared.variables.Lent.{Lent}
use Rattle.cfa.specs.declared.variables.Needs.{Needs}
use Rattle.cfa.specs.Rules.{Room, cell_count}
use Rattle.cfa.specs.Graph.{lent_fits, variable_fits, global_fits}
use Rattle.cfa.specs.Needs.{AreNeeds, end_in_globals, end_in_frame, lent_of}

-- ---- tests of all elements

and_true : (a : Bool) → (a && true) ≡ a
and_true true = refl
and_true false = refl

and_same : {a b c d : Bool} → a ≡ b → c ≡ d → (a && c) ≡ (b && d)
and_same {a} {b} {c} {d} p q = ap (λ x. x && c) p ∙ ap (λ y. b && y) q

and_swapped : (a b c d : Bool) → ((a && b) && (c && d)) ≡ ((a && c) && (b && d))
and_swapped true b true d = refl
and_swapped true true false d = refl
and_swapped true false false d = refl
and_swapped false b c d = refl

pub both_tests : {X : Type 0} (p q r : X → Bool) → ((x : X) → (p x && q x) ≡ r x) → (xs : List X) → (list_all p xs && list_all q xs) ≡ list_all r xs
both_tests p q r h [] = refl
both_tests p q r h (x ∷ xs) = and_swapped (p x) (list_all p xs) (q x) (list_all q xs) ∙ and_same (h x) (both_tests p q r h xs)

all_of_parts : {X Y : Type 0} (p : Y → Bool) (f : X → List Y) (xs : List X) → list_all p (flat_map f xs) ≡ list_all (λ x. list_all p (f x)) xs
all_of_parts p f [] = refl
all_of_parts p f (x ∷ xs) = list_all-append p (f x) (flat_map f xs) ∙ ap (λ b. list_all p (f x) && b) (all_of_parts p f xs)

-- ---- the needs of variables

least : (n : ℕ) → nat_le 0 n ≡ true
least n = le-leb 0 n (omega arith)

pub no_needs : (needs : Needs) → needs.kinds ≡ true → needs.globals ≡ 0 → needs.cells ≡ 0 → needs.lent ≡ [] → AreNeeds [] needs
no_needs needs k g c l = record {
  kinds = k;
  globals = λ n. ap (λ m. nat_le m n) g ∙ least n;
  cells = λ n. ap (λ m. nat_le m n) c ∙ least n;
  lent = l;
}

pub more_needs : (v : Variable) (list : List Variable) (others needs : Needs) → AreNeeds list others → needs.kinds ≡ (is_kind v.kind && others.kinds) → ((n : ℕ) → nat_le needs.globals n ≡ (nat_le (end_in_globals v.length v.place) n && nat_le others.globals n)) → ((n : ℕ) → nat_le needs.cells n ≡ (nat_le (end_in_frame v.length v.place) n && nat_le others.cells n)) → needs.lent ≡ (lent_of v.length v.place ++ others.lent) → AreNeeds (v ∷ list) needs
more_needs v list others needs are k g c l = record {
  kinds = k ∙ ap (λ b. is_kind v.kind && b) are.kinds;
  globals = λ n. g n ∙ ap (λ b. nat_le (end_in_globals v.length v.place) n && b) (are.globals n);
  cells = λ n. c n ∙ ap (λ b. nat_le (end_in_frame v.length v.place) n && b) (are.cells n);
  lent = l ∙ ap (λ rest. lent_of v.length v.place ++ rest) are.lent;
}

global_part : (n : ℕ) (length : Option ℕ) (p : VariablePlace) → nat_le (end_in_globals length p) n ≡ global_fits n length p
global_part n length (place.Global first) = refl
global_part n length (place.Local first) = least n
global_part n length (place.Lent parameter) = least n

pub are_within : (list : List Variable) (needs : Needs) (n : ℕ) → AreNeeds list needs → (needs.kinds && nat_le needs.globals n) ≡ list_all (λ (v : Variable). is_kind v.kind && global_fits n v.length v.place) list
are_within list needs n are =
    and_same are.kinds (are.globals n)
    ∙ both_tests (λ (v : Variable). is_kind v.kind) (λ (v : Variable). nat_le (end_in_globals v.length v.place) n) _ (λ v. ap (λ b. is_kind v.kind && b) (global_part n v.length v.place)) list

abbrev lent_test : Room → Lent → Bool
lent_test room lent = lent_fits room lent.parameter lent.length

room_part : (room : Room) (length : Option ℕ) (p : VariablePlace) → ((nat_le (end_in_globals length p) room.globals && nat_le (end_in_frame length p) room.cells) && list_all (lent_test room) (lent_of length p)) ≡ variable_fits room length p
room_part room length (place.Global first) = ap (λ b. (nat_le (first + cell_count length) room.globals && b) && true) (least room.cells) ∙ and_true _ ∙ and_true _
room_part room length (place.Local first) = ap (λ b. (b && nat_le (first + cell_count length) room.cells) && true) (least room.globals) ∙ and_true _
room_part room length (place.Lent parameter) = ap (λ b. b && (lent_fits room parameter length && true)) (and_same (least room.globals) (least room.cells)) ∙ and_true _

pub fit_in : (list : List Variable) (needs : Needs) (room : Room) → AreNeeds list needs → ((nat_le needs.globals room.globals && nat_le needs.cells room.cells) && list_all (λ (l : Lent). lent_fits room l.parameter l.length) needs.lent) ≡ list_all (λ (v : Variable). variable_fits room v.length v.place) list
fit_in list needs room are =
    and_same (and_same (are.globals room.globals) (are.cells room.cells) ∙ both_tests _ _ (λ (v : Variable). nat_le (end_in_globals v.length v.place) room.globals && nat_le (end_in_frame v.length v.place) room.cells) (λ v. refl) list) (ap (list_all (lent_test room)) are.lent ∙ all_of_parts (lent_test room) (λ (v : Variable). lent_of v.length v.place) list)
    ∙ both_tests _ _ _ (λ v. room_part room v.length v.place) list
