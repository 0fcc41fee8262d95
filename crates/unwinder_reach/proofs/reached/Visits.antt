-- Going on to the pair that comes next.
use Rattle.std.proofs.Common.{◌≡◌, ℕ, ◌+◌, ◌^◌, ◌<◌, ◌≤◌, true, false, List, [], ◌∷◌, ◌++◌, length, reverse, Option, Some, None, refl, sym, ap, ◌∙◌, subst, inl, ⊎_elim, arith, length-append}
use Rattle.std.specs.Prelude.{Contains, slice_get, Result, Ok, Err, OnOk, IfErr}
use Rattle.cfa.specs.declared.parts.Function.{Function}
use Rattle.cfa.specs.declared.parts.GraphParts.{GraphParts}
use Rattle.cfa.specs.Contexts.{Pair, IsOnce, first_pair}
use Rattle.unwinder_reach.specs.declared.reached.bounds.Bounds.{Bounds}
use Rattle.unwinder_reach.specs.declared.reached.search.Open.{Open}
use Rattle.unwinder_reach.specs.declared.reached.search.Search.{Search}
use Rattle.unwinder_reach.specs.reached.Reaching.{AreTooMany}
use Rattle.unwinder_reach.specs.reached.Searching.{AreEntries, AreKeys, AreNumbered, AreWays, ComesNext, Extends, HaveNumbers, IsAdded, IsIn, IsNextAlong, IsSearching, IsSearchOf, IsTrail, key_by, pairs_of, work_left}
use Rattle.unwinder_reach.proofs.reached.KeyLaws.{has_key, has_pair, keys_push, keys_stay, number_stays, numbers_push, numbers_stay}
use Rattle.unwinder_reach.proofs.reached.Lists.{in_left, in_parts, in_right, reverse_push}
use Rattle.unwinder_reach.proofs.reached.SearchLaws.{begun, known, too_many, visited, visited_less, finished, finished_less, followed, followed_less}

module _ (parts : GraphParts) (bounds : Bounds) (k : ℕ) (f : Function) (q : Pair) (n : ℕ) (s : Search) (next : ComesNext parts bounds k f q n s) (key : List ℕ) (own : key ≡ key_by n q) (keys : List (List ℕ)) where
  pub stays : IsAdded false s.keys key keys → IsSearchOf parts bounds k f None (record { frames = s.frames; keys = keys; finished = s.finished; numbers = s.numbers; way = s.way })
  stays was =
      let there : Contains s.keys (key_by n q) = subst (Contains s.keys) own was.0 in
      let some : reverse s.way ≡ [] → ⊥ = λ e. let none : Contains [] (key_by n q) = subst (λ l. Contains l (key_by n q)) (next.begins e) there in omega (arith, none.1) in
      record {
        function = next.search.function;
        once = next.search.once;
        found = next.search.found;
        searching = known parts bounds f (reverse s.finished) (reverse s.way) next.search.found q next.search.searching some (has_pair s.frames s.keys next.search.found next.search.keys q n next.number there);
        keys = subst (λ l. AreKeys s.frames l next.search.found) (sym was.1) next.search.keys;
        numbers = next.search.numbers;
        on_way = next.search.on_way;
      }

  module _ (is : IsAdded true s.keys key keys) where
    new : ¬ IsIn next.search.found q
    new i = is.0 (subst (Contains s.keys) (sym own) (has_key s.frames s.keys next.search.found next.search.keys q n next.number i))

    pub long : length keys ≡ length s.keys + 1
    long = ap length is.1 ∙ length-append s.keys (key ∷ [])

    pub refused : 50000 < length keys → AreTooMany parts bounds f
    refused many =
        let grown = long in
        let same = next.search.keys.long in
        too_many parts bounds f (reverse s.finished) (reverse s.way) next.search.found k next.search.function next.search.once q next.search.searching next.trail new (omega arith)

    pub grows : (ways : List ℕ) (way : List Open) → length keys ≤ 50000 → way ≡ s.way ++ record { pair = q; frames = n; ways = ways } ∷ [] → AreWays parts q ways → length ways < 2 ^ 64
        → IsSearchOf parts bounds k f None (record { frames = s.frames; keys = keys; finished = s.finished; numbers = s.numbers; way = way })
    grows ways way room pushed all short =
        let grown = long in
        let same = next.search.keys.long in
        let shape : reverse way ≡ record { pair = q; frames = n; ways = ways } ∷ reverse s.way = ap reverse pushed ∙ reverse_push s.way (record { pair = q; frames = n; ways = ways }) in
        let made : keys ≡ s.keys ++ key_by n q ∷ [] = is.1 ∙ ap (λ w. s.keys ++ w ∷ []) own in
        let after = visited parts bounds f (reverse s.finished) (reverse s.way) next.search.found k next.search.function next.search.once q ways (record { pair = q; frames = n; ways = ways }) refl refl next.search.searching next.trail new (omega arith) all short in
        record {
          function = next.search.function;
          once = next.search.once;
          found = next.search.found ++ q ∷ [];
          searching = subst (λ l. IsSearching parts bounds f None (reverse s.finished) l (next.search.found ++ q ∷ [])) (sym shape) after;
          keys = subst (λ l. AreKeys s.frames l (next.search.found ++ q ∷ [])) (sym made) (keys_push s.frames s.keys next.search.found next.search.keys q n next.number);
          numbers = next.search.numbers;
          on_way = λ o i.
              ⊎_elim (λ old. next.search.on_way o old)
              (λ last. ⊎_elim (λ e. subst (λ (x : Open). AreNumbered s.frames x.pair.context.frames x.frames) e next.number) (λ none. absurd none) last)
              (in_parts s.way (record { pair = q; frames = n; ways = ways } ∷ []) o (subst (λ l. IsIn l o) pushed i));
        }

pub grows_less : (key : List ℕ) (s : Search) (q : Pair) (n : ℕ) (ways : List ℕ) (keys : List (List ℕ)) (way : List Open) → IsAdded true s.keys key keys → length keys ≤ 50000 → way ≡ s.way ++ record { pair = q; frames = n; ways = ways } ∷ [] → length ways < 2 ^ 64
    → work_left (length keys) (reverse way) ≤ work_left (length s.keys) (reverse s.way)
grows_less key s q n ways keys way is room pushed short =
    let grown = ap length is.1 ∙ length-append s.keys (key ∷ []) in
    let shape : reverse way ≡ record { pair = q; frames = n; ways = ways } ∷ reverse s.way = ap reverse pushed ∙ reverse_push s.way (record { pair = q; frames = n; ways = ways }) in
    let P : List Open → Type 0 = λ l. work_left (length keys) l ≤ work_left (length s.keys) (reverse s.way) in
    subst P (sym shape) (visited_less (length s.keys) (length keys) (record { pair = q; frames = n; ways = ways }) (reverse s.way) grown room short)

pub on_ok : {X E P Q : Type 0} (r : Result X E) → (P → Q) → OnOk r P → OnOk r Q
on_ok (Ok x) g h = g h
on_ok (Err e) g h = h

pub if_err : {X E : Type 0} {P Q : E → Type 0} (r : Result X E) → ((e : E) → P e → Q e) → IfErr r P → IfErr r Q
if_err (Ok x) g h = h
if_err (Err e) g h = g e h

module _ (parts : GraphParts) (bounds : Bounds) (k : ℕ) (f : Function) (s : Search) (h : IsSearchOf parts bounds k f None s) (below : List Open) (top : Open) (popped : s.way ≡ below ++ top ∷ []) where
  shape : reverse s.way ≡ top ∷ reverse below
  shape = ap reverse popped ∙ reverse_push below top

  at_top : IsSearching parts bounds f None (reverse s.finished) (top ∷ reverse below) h.found
  at_top = subst (λ l. IsSearching parts bounds f None (reverse s.finished) l h.found) shape h.searching

  -- the pair that was last on the way has the number of its frames beside it
  pub top_number : AreNumbered s.frames top.pair.context.frames top.frames
  top_number = h.on_way top (subst (λ l. IsIn l top) (sym popped) (in_right below (top ∷ []) top (inl refl)))

  below_number : (o : Open) → IsIn below o → AreNumbered s.frames o.pair.context.frames o.frames
  below_number o i = h.on_way o (subst (λ l. IsIn l o) (sym popped) (in_left below (top ∷ []) o i))

  pub finishes : (done : List Pair) (numbers : List ℕ) → top.ways ≡ [] → done ≡ s.finished ++ top.pair ∷ [] → numbers ≡ s.numbers ++ top.frames ∷ [] → IsSearchOf parts bounds k f None (record { frames = s.frames; keys = s.keys; finished = done; numbers = numbers; way = below })
  finishes done numbers none pushed numbered =
      let one_more : reverse done ≡ top.pair ∷ reverse s.finished = ap reverse pushed ∙ reverse_push s.finished top.pair in
      record {
        function = h.function;
        once = h.once;
        found = h.found;
        searching = subst (λ l. IsSearching parts bounds f None l (reverse below) h.found) (sym one_more)
            (finished parts bounds f (reverse s.finished) top (reverse below) h.found at_top k h.function h.once none);
        keys = h.keys;
        numbers = subst (λ l. HaveNumbers s.frames l numbers) (sym pushed) (subst (HaveNumbers s.frames (s.finished ++ top.pair ∷ [])) (sym numbered) (numbers_push s.frames s.finished s.numbers top.pair top.frames h.numbers top_number));
        on_way = below_number;
      }

  pub finishes_less : work_left (length s.keys) (reverse below) < work_left (length s.keys) (reverse s.way)
  finishes_less = subst (λ l. work_left (length s.keys) (reverse below) < work_left (length s.keys) l) (sym shape) (finished_less parts bounds f (reverse s.finished) top (reverse below) h.found at_top (length s.keys))

  module _ (ways : List ℕ) (at : ℕ) (way : List Open) (all : top.ways ≡ ways ++ at ∷ []) (pushed : way ≡ below ++ record { pair = top.pair; frames = top.frames; ways = ways } ∷ []) where
    again : reverse way ≡ record { pair = top.pair; frames = top.frames; ways = ways } ∷ reverse below
    again = ap reverse pushed ∙ reverse_push below (record { pair = top.pair; frames = top.frames; ways = ways })

    pub follows : (next : Option Pair) (table : List (List ℕ)) → IsNextAlong parts bounds at top.pair next → Extends s.frames table → IsSearchOf parts bounds k f next (record { frames = table; keys = s.keys; finished = s.finished; numbers = s.numbers; way = way })
    follows next table is more = record {
      function = h.function;
      once = h.once;
      found = h.found;
      searching = subst (λ l. IsSearching parts bounds f next (reverse s.finished) l h.found) (sym again)
          (followed parts bounds f (reverse s.finished) top (reverse below) h.found at_top top.frames ways at next all is);
      keys = keys_stay s.frames table s.keys h.found more h.keys;
      numbers = numbers_stay s.frames table s.finished s.numbers more h.numbers;
      on_way = λ o i.
          ⊎_elim (λ old. number_stays s.frames table more o.pair.context.frames o.frames (below_number o old))
          (λ last.
          ⊎_elim (λ e. subst (λ (x : Open). AreNumbered table x.pair.context.frames x.frames) e (number_stays s.frames table more top.pair.context.frames top.frames top_number))
          (λ none. absurd none) last)
          (in_parts below (record { pair = top.pair; frames = top.frames; ways = ways } ∷ []) o (subst (λ l. IsIn l o) pushed i));
    }

    pub comes : (q : Pair) (n : ℕ) (table : List (List ℕ)) → IsNextAlong parts bounds at top.pair (Some q) → Extends s.frames table → AreNumbered table q.context.frames n → ComesNext parts bounds k f q n (record { frames = table; keys = s.keys; finished = s.finished; numbers = s.numbers; way = way })
    comes q n table is more number = record {
      search = follows (Some q) table is more;
      trail = subst (λ l. IsTrail parts bounds f (q ∷ pairs_of l)) (sym again) ((at, is.0, is.1), at_top.trail);
      begins = λ e. let bad = sym again ∙ e in absurd (cc);
      number = number;
    }

    pub follows_less : work_left (length s.keys) (reverse way) < work_left (length s.keys) (reverse s.way)
    follows_less =
        subst (λ l. work_left (length s.keys) (reverse way) < work_left (length s.keys) l) (sym shape)
        (subst (λ l. work_left (length s.keys) l < work_left (length s.keys) (top ∷ reverse below)) (sym again) (followed_less parts bounds f (reverse s.finished) top (reverse below) h.found at_top (length s.keys) top.frames ways at all))

no_entries : AreEntries []
no_entries i j w e d = absurd (cc)

pub no_keys : (table : List (List ℕ)) → AreEntries table → AreKeys table [] []
no_keys table entries = record { entries = entries; long = refl; each = λ i p e. absurd (cc) }

no_numbers : (table : List (List ℕ)) → HaveNumbers table [] []
no_numbers table = record { long = refl; each = λ i p e. absurd (cc) }

-- the first pair comes next where nothing was found
pub comes_first : (parts : GraphParts) (bounds : Bounds) (k : ℕ) (f : Function) (q : Pair) (n : ℕ) (old : List (List ℕ)) (s : Search) → slice_get parts.functions k ≡ Some f → IsOnce parts → q ≡ first_pair f → old ≡ [] → Extends old s.frames → AreNumbered s.frames q.context.frames n → s.keys ≡ [] → s.finished ≡ [] → s.numbers ≡ [] → s.way ≡ []
    → ComesNext parts bounds k f q n s
comes_first parts bounds k f q n old s there once first empty more number keys finished numbers way =
    let none : reverse s.way ≡ [] = ap reverse way in
    let entries = more.entries (subst AreEntries (sym empty) no_entries) in
    record {
      search = record {
        function = there;
        once = once;
        found = [];
        searching = subst (λ l. IsSearching parts bounds f (Some q) (reverse s.finished) l []) (sym none)
            (subst (λ l. IsSearching parts bounds f (Some q) l [] []) (sym (ap reverse finished)) (subst (λ r. IsSearching parts bounds f (Some r) [] [] []) (sym first) (begun parts bounds f)));
        keys = subst (λ l. AreKeys s.frames l []) (sym keys) (no_keys s.frames entries);
        numbers = subst (λ l. HaveNumbers s.frames l s.numbers) (sym finished) (subst (HaveNumbers s.frames []) (sym numbers) (no_numbers s.frames));
        on_way = λ o i. absurd (subst (λ l. IsIn l o) way i);
      };
      trail = subst (λ l. IsTrail parts bounds f (q ∷ pairs_of l)) (sym none) first;
      begins = λ e. keys;
      number = number;
    }
