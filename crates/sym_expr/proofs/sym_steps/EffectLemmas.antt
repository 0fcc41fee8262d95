-- What words tell of the cells that an operation makes, by what its parts come to.
use Rattle.std.proofs.Common.{◌≡◌, ℕ, ◌+◌, ◌*◌, ◌<◌, ◌≤◌, Bool, true, false, ◌&&◌, cond, List, [], ◌∷◌, ◌++◌, length, take, get_or, set, Option, Some, None, refl, sym, ap, subst, ◌∙◌, ⊎_elim, length-append, arith}
use Rattle.std.specs.Prelude.{All, Result, Ok, Err, option_and_then, slice_get, sum_by}
use Rattle.std.proofs.lemmas.Bool.{cases_eq}
use Rattle.std.proofs.lemmas.List.{map-append, take_more}
use Rattle.std.proofs.lemmas.List.Elements.{All-append, All-cons}
use Rattle.std.proofs.lemmas.List.Sums.{sum_by_push, sum_by-take-le}
use Rattle.std.proofs.lemmas.Option.{get_or_from_slice_get, slice_get-get_or, slice_get_within}
use Rattle.std.specs.Option.{option_map}
use Rattle.std.specs.Result.{is_ok, result_ok}
use Rattle.circuit.specs.Truth.{World}
use Rattle.circuit.specs.Wires.{IsWire, lit_holds}
use Rattle.circuit.specs.declared.lit.Lit.{Lit}
use Rattle.circuit.specs.declared.lit.Gate.{Gate}
use Rattle.bit_words.specs.Words.{Grows, word_value}
use Rattle.bit_words.proofs.Digits.{all_still}
use Rattle.bit_words.proofs.Steps.{grows_none, grows_then, grows_within, same}
use Rattle.bit_words.proofs.Values.{yes_holds, no_holds, word_value-later}
use Rattle.cfa.specs.declared.expr.Expr.{Expr}
use Rattle.cfa.specs.declared.state.Frame.{Frame}
use Rattle.cfa.specs.declared.state.Trap.{Trap}
use Rattle.cfa.specs.Values.{value_of}
use Rattle.c_meaning.specs.Steps.{value_before, values_of}
use Rattle.sym_expr.specs.Stores.{cells_in, outcome_in}
use Rattle.sym_expr.specs.Weights.{weight_of}
use Rattle.sym_expr.proofs.ElementLemmas.{cells_later, cells_still}
use Rattle.sym_expr.specs.sym_steps.Effects.{words_in}

-- words, with a literal of a later circuit
pub words_later : {a b : List Gate} {n : ℕ} → Grows a b n → (words : List (List Lit)) (fine : Lit) (p : Bool) (w : World) → All (All (IsWire a)) words → lit_holds b fine w ≡ p → words_in b words fine w ≡ cond p (Some (cells_in a words w)) None
words_later {a} {b} f words fine p w h e =
    ap (λ t. cond t (Some (cells_in b words w)) None) e ∙ ap (λ xs. cond p (Some xs) None) (cells_later f words h w)

pub words_still : {a b : List Gate} {n : ℕ} → Grows a b n → (words : List (List Lit)) (fine : Lit) (w : World) → All (All (IsWire a)) words → IsWire a fine → words_in b words fine w ≡ words_in a words fine w
words_still {a} f words fine w h wire = words_later f words fine (lit_holds a fine w) w h (same f fine wire w)

pub put_stored : (p : Bool) (r : Result ℕ Trap) (after cells : List ℕ) (v : ℕ) → p ≡ is_ok r → ((cell : ℕ) → r ≡ Ok cell → after ≡ set cells cell v) → cond p (Some after) None ≡ option_map (λ cell. set cells cell v) (result_ok r)
put_stored p (Ok cell) after cells v e h = ap (λ t. cond t (Some after) None) e ∙ ap Some (h cell refl)
put_stored p (Err t) after cells v e h = ap (λ t. cond t (Some after) None) e

pub assigned_stored : (p q : Bool) (rc rv : Result ℕ Trap) (x : ℕ) (after cells : List ℕ) → cond p (Some x) None ≡ result_ok rv → q ≡ is_ok rc → ((cell : ℕ) → rc ≡ Ok cell → after ≡ set cells cell x)
    → cond (p && q) (Some after) None ≡ option_and_then (λ cell. option_map (λ v. set cells cell v) (result_ok rv)) (result_ok rc)
assigned_stored true q (Ok cell) rv x after cells value e h =
    ap (λ t. cond t (Some after) None) e ∙ ap Some (h cell refl) ∙ ap (λ o. option_map (λ v. set cells cell v) o) value
assigned_stored true q (Err t) rv x after cells value e h = ap (λ t. cond t (Some after) None) e
assigned_stored false q (Ok cell) rv x after cells value e h = ap (λ o. option_map (λ v. set cells cell v) o) value
assigned_stored false q (Err t) rv x after cells value e h = refl

-- ---- constants

lit_is : (l : Lit) (n : ℕ) (b : Bool) → l.wire ≡ n → l.negated ≡ b → l ≡ record { wire = n; negated = b }
lit_is l n b e f = λ i. record { wire = e i; negated = f i }

pub and_no : (gates : List Gate) (b : Lit) (p : Bool) (w : World) → b.wire ≡ 0 → b.negated ≡ true → lit_holds gates (record { wire = 0; negated = true }) w ≡ (p && lit_holds gates b w)
and_no gates b p w zero sign =
    let is : lit_holds gates b w ≡ false = ap (λ (l : Lit). lit_holds gates l w) (lit_is b 0 true zero sign) ∙ no_holds gates w in
    no_holds gates w ∙ sym (ap (λ t. p && t) is ∙ never p)
  where
    never : (p : Bool) → (p && false) ≡ false
    never true = refl
    never false = refl

pub and_yes : (gates : List Gate) (b : Lit) (p : Bool) (w : World) → b.wire ≡ 0 → b.negated ≡ false → p ≡ (p && lit_holds gates b w)
and_yes gates b p w zero sign =
    let is : lit_holds gates b w ≡ true = ap (λ (l : Lit). lit_holds gates l w) (lit_is b 0 false zero sign) ∙ yes_holds gates w in
    sym (ap (λ t. p && t) is ∙ always p)
  where
    always : (p : Bool) → (p && true) ≡ p
    always true = refl
    always false = refl

-- ---- words one after another

values_push : (cells : List ℕ) (frame : Frame) (xs : List Expr) (x : Expr) → result_ok (values_of cells frame (xs ++ x ∷ [])) ≡ option_and_then (λ vs. option_map (λ v. vs ++ v ∷ []) (result_ok (value_of cells frame x))) (result_ok (values_of cells frame xs))
values_push cells frame [] x = at (value_of cells frame x)
  where
    at : (r : Result ℕ Trap) → result_ok (value_before r (Ok [])) ≡ option_map (λ v. v ∷ []) (result_ok r)
    at (Ok v) = refl
    at (Err t) = refl
values_push cells frame (y ∷ xs) x = at (value_of cells frame y) (values_of cells frame (xs ++ x ∷ [])) (values_of cells frame xs) (result_ok (value_of cells frame x)) (values_push cells frame xs x)
  where
    at : (r : Result ℕ Trap) (all some : Result (List ℕ) Trap) (o : Option ℕ) → result_ok all ≡ option_and_then (λ vs. option_map (λ v. vs ++ v ∷ []) o) (result_ok some)
        → result_ok (value_before r all) ≡ option_and_then (λ vs. option_map (λ v. vs ++ v ∷ []) o) (result_ok (value_before r some))
    at (Err t) all some o e = refl
    at (Ok n) (Ok whole) (Ok vs) (Some v) e = let is : whole ≡ vs ++ v ∷ [] = cc in ap (λ xs. Some (n ∷ xs)) is
    at (Ok n) (Ok whole) (Ok vs) None e = absurd cc
    at (Ok n) (Ok whole) (Err t) o e = absurd cc
    at (Ok n) (Err t) (Ok vs) (Some v) e = absurd cc
    at (Ok n) (Err t) (Ok vs) None e = refl
    at (Ok n) (Err t) (Err u) o e = refl

pushed_option : (p q : Bool) (vs : List ℕ) (v : ℕ) → cond (p && q) (Some (vs ++ v ∷ [])) None ≡ option_and_then (λ xs. option_map (λ x. xs ++ x ∷ []) (cond q (Some v) None)) (cond p (Some vs) None)
pushed_option true true vs v = refl
pushed_option true false vs v = refl
pushed_option false q vs v = refl

pub record WordsSoFar (old new : List Gate) (store : List (List Lit)) (frame : Frame) (words : List Expr) (values : List (List Lit)) (fine : Lit) (k : ℕ) : Type 0 where
  pub grows : Grows old new (32 * sum_by weight_of (take k words))
  pub wires : All (All (IsWire new)) values
  pub count : length values ≡ k
  pub wire : IsWire new fine
  pub value : (w : World) → words_in new values fine w ≡ result_ok (values_of (cells_in old store w) frame (take k words))

pub words_none : (gates : List Gate) (store : List (List Lit)) (frame : Frame) (words : List Expr) → WordsSoFar gates gates store frame words [] (record { wire = 0; negated = false }) 0
words_none gates store frame words = record {
  grows = grows_none gates _;
  wires = λ k d lt. absurd (omega arith);
  count = refl;
  wire = omega arith;
  value = λ w. ap (λ t. cond t (Some []) None) (yes_holds gates w);
}

take_with : (words : List Expr) (k : ℕ) (x : Expr) → slice_get words k ≡ Some x → take (k + 1) words ≡ take k words ++ x ∷ []
take_with words k x at = take_more words k x (slice_get_within words k x at) ∙ ap (λ y. take k words ++ y ∷ []) (get_or_from_slice_get words k x x at)

-- the gates of one word more
word_grows : {a b c d : List Gate} (s weight : ℕ) → Grows a b (32 * s) → Grows b c (31 * weight) → Grows c d 1 → (weight ≡ 0 → Grows c d 0) → Grows a d (32 * (s + weight))
word_grows s weight f g h none = ⊎_elim
    (λ z. grows_within (32 * (s + weight)) (grows_then (grows_then f g) (none z)) (omega arith))
    (λ n. grows_within (32 * (s + weight)) (grows_then (grows_then f g) h) (omega arith))
    (cases_eq weight 0)

-- the element that a loop is at
pub item_at : (words : List Expr) (k : ℕ) (x : Expr) → k < length words → x ≡ get_or words k x → slice_get words k ≡ Some x
item_at words k x lt is = slice_get-get_or words k x lt ∙ ap Some (sym is)

-- a word and those before it weigh no more than all
pub words_weigh : (words : List Expr) (k : ℕ) (x : Expr) → slice_get words k ≡ Some x → sum_by weight_of (take k words) + weight_of x ≤ sum_by weight_of words
words_weigh words k x at =
    let most = sum_by-take-le weight_of words (k + 1) in
    omega (arith, ap (sum_by weight_of) (take_with words k x at), sum_by_push weight_of (take k words) x)

pub words_more : {old mid g1 g2 : List Gate} {store : List (List Lit)} {frame : Frame} {words : List Expr} {values : List (List Lit)} {fine : Lit} {k : ℕ} (x : Expr) (word : List Lit) (has now : Lit)
    → slice_get words k ≡ Some x → All (All (IsWire old)) store → WordsSoFar old mid store frame words values fine k
    → Grows mid g1 (31 * weight_of x) → (weight_of x ≡ 0 → has.wire ≡ 0) → Grows g1 g2 1 → (has.wire ≡ 0 → Grows g1 g2 0) → All (IsWire g1) word → IsWire g2 now
    → ((w : World) → outcome_in g1 (word, has) w ≡ result_ok (value_of (cells_in mid store w) frame x))
    → ((w : World) → lit_holds g2 now w ≡ (lit_holds g1 fine w && lit_holds g1 has w))
    → WordsSoFar old g2 store frame words (values ++ word ∷ []) now (k + 1)
words_more {old} {mid} {g1} {g2} {store} {frame} {words} {values} {fine} {k} x word has now at h so f sure g none wires wire value held =
    let more = take_with words k x at in
    record {
      grows = subst (λ n. Grows old g2 (32 * n)) (sym (ap (sum_by weight_of) more ∙ sum_by_push weight_of (take k words) x)) (word_grows (sum_by weight_of (take k words)) (weight_of x) so.grows f g (λ z. none (sure z)));
      wires = All-append (All (IsWire g2)) values (word ∷ []) (cells_still (grows_then f g) values so.wires) (All-cons (All (IsWire g2)) word [] (all_still g word wires) (λ j d l. absurd (omega arith)));
      count = (let n = so.count in omega (arith, length-append values (word ∷ [])));
      wire = wire;
      value = λ w.
          let vs = cells_in mid values w in
          let v = word_value g1 word w in
          let p = lit_holds mid fine w in
          let q = lit_holds g1 has w in
          let both_is : lit_holds g2 now w ≡ (p && q) = held w ∙ ap (λ t. t && q) (same f fine so.wire w) in
          let values_is : cells_in g2 (values ++ word ∷ []) w ≡ vs ++ v ∷ [] =
          map-append (λ word. word_value g2 word w) values (word ∷ [])
          ∙ ap (λ xs. xs ++ word_value g2 word w ∷ []) (cells_later (grows_then f g) values so.wires w)
          ∙ ap (λ n. vs ++ n ∷ []) (word_value-later g word wires w) in
          ap (λ t. cond t (Some (cells_in g2 (values ++ word ∷ []) w)) None) both_is
          ∙ ap (λ xs. cond (p && q) (Some xs) None) values_is
          ∙ pushed_option p q vs v
          ∙ ap (λ o. option_and_then (λ xs. option_map (λ y. xs ++ y ∷ []) (cond q (Some v) None)) o) (so.value w)
          ∙ ap (λ o. option_and_then (λ xs. option_map (λ y. xs ++ y ∷ []) o) (result_ok (values_of (cells_in old store w) frame (take k words)))) (value w ∙ ap (λ xs. result_ok (value_of xs frame x)) (cells_later so.grows store h w))
          ∙ sym (values_push (cells_in old store w) frame (take k words) x)
          ∙ ap (λ ws. result_ok (values_of (cells_in old store w) frame ws)) (sym more);
    }
