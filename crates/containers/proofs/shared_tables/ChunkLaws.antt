-- Lists in chunks of 16 items: where an item stands, and what a change of a chunk changes.
use Rattle.std.proofs.Common.{◌≡◌, ℕ, zero, suc, ◌+◌, ◌-◌, ◌*◌, ◌/◌, ◌%◌, ◌<◌, ◌≤◌, List, [], ◌∷◌, ◌++◌, Some, length, take, set, get_or, refl, sym, ap, ◌∙◌, append_assoc, length-append, length-set, arith}
use Rattle.std.specs.Prelude.{All, replicate, slice_get}
use Rattle.std.proofs.lemmas.List.{append-nil, length-take, length-take-le, take-take, set-append_left, set-append_right, get_or_append_left, get_or-append_right, get_or-take, take_all, take_more_set, length-replicate}
use Rattle.std.proofs.Math.Seq.{take-append-add, take-set-lt}
use Rattle.std.proofs.lemmas.List.Elements.{All-head, All-tail, All-set, All-push, All-take, All-get_or}
use Rattle.std.proofs.lemmas.Option.{slice_get_read}
use Rattle.containers.specs.Lists.{joined}
use Rattle.containers.specs.shared_tables.Chunks.{IsStored, items_of}

module _ {T : Type 0} where
  abbrev IsFull : List T → Type 0
  IsFull chunk = length chunk ≡ 16

  length-joined : (chunks : List (List T)) → All IsFull chunks → length (joined chunks) ≡ 16 * length chunks
  length-joined [] full = refl
  length-joined (c ∷ cs) full =
      let first : length c ≡ 16 = All-head IsFull c cs full in
      let rest : length (joined cs) ≡ 16 * length cs = length-joined cs (All-tail IsFull c cs full) in
      omega (arith, first, rest, length-append c (joined cs))

  joined-push : (chunks : List (List T)) (c : List T) → joined (chunks ++ c ∷ []) ≡ joined chunks ++ c
  joined-push [] c = append-nil c
  joined-push (d ∷ ds) c = ap (λ xs. d ++ xs) (joined-push ds c) ∙ sym (append_assoc d (joined ds) c)

  joined-take : (chunks : List (List T)) (k : ℕ) → All IsFull chunks → joined (take k chunks) ≡ take (16 * k) (joined chunks)
  joined-take [] zero full = refl
  joined-take [] (suc k) full = sym (take_all (16 * suc k) [] (omega arith))
  joined-take (c ∷ cs) zero full = refl
  joined-take (c ∷ cs) (suc k) full =
      let first : length c ≡ 16 = All-head IsFull c cs full in
      let next : length c + 16 * k ≡ 16 * suc k = omega (arith, first) in
      ap (λ xs. c ++ xs) (joined-take cs k (All-tail IsFull c cs full)) ∙ sym (take-append-add c (joined cs) (16 * k)) ∙ ap (λ n. take n (c ++ joined cs)) next

  -- an item of a chunk among all items
  get_or-joined : (chunks : List (List T)) (q r : ℕ) (e : List T) (d : T) → All IsFull chunks → q < length chunks → r < 16 → get_or (joined chunks) (16 * q + r) d ≡ get_or (get_or chunks q e) r d
  get_or-joined [] q r e d full within low = absurd (omega arith)
  get_or-joined (c ∷ cs) zero r e d full within low =
      let first : length c ≡ 16 = All-head IsFull c cs full in
      let at : 16 * 0 + r ≡ r = omega arith in
      ap (λ n. get_or (c ++ joined cs) n d) at ∙ get_or_append_left c (joined cs) d r (omega (arith, first))
  get_or-joined (c ∷ cs) (suc q) r e d full within low =
      let first : length c ≡ 16 = All-head IsFull c cs full in
      let at : 16 * suc q + r - 16 ≡ 16 * q + r = omega arith in
      get_or-append_right c (joined cs) 16 (16 * suc q + r) d first (omega arith) ∙ ap (λ n. get_or (joined cs) n d) at
      ∙ get_or-joined cs q r e d (All-tail IsFull c cs full) (omega arith) low

  -- an item that is changed in its chunk
  set-joined : (chunks : List (List T)) (q r : ℕ) (e : List T) (v : T) → All IsFull chunks → q < length chunks → r < 16 → joined (set chunks q (set (get_or chunks q e) r v)) ≡ set (joined chunks) (16 * q + r) v
  set-joined [] q r e v full within low = absurd (omega arith)
  set-joined (c ∷ cs) zero r e v full within low =
      let first : length c ≡ 16 = All-head IsFull c cs full in
      let at : r ≡ 16 * 0 + r = omega arith in
      sym (set-append_left c (joined cs) r v (omega (arith, first))) ∙ ap (λ n. set (c ++ joined cs) n v) at
  set-joined (c ∷ cs) (suc q) r e v full within low =
      let first : length c ≡ 16 = All-head IsFull c cs full in
      let at : 16 * q + r ≡ 16 * suc q + r - 16 = omega arith in
      ap (λ xs. c ++ xs) (set-joined cs q r e v (All-tail IsFull c cs full) (omega arith) low)
      ∙ ap (λ n. c ++ set (joined cs) n v) at
      ∙ sym (set-append_right c (joined cs) 16 (16 * suc q + r) v first (omega arith))

  module _ (chunks : List (List T)) (count : ℕ) (stored : IsStored chunks count) where
    long : count ≤ length (joined chunks)
    long = omega (arith, length-joined chunks stored.full, stored.enough)

    pub count_is : length (items_of chunks count) ≡ count
    count_is = length-take-le count (joined chunks) long

    -- the item at a place, in its chunk
    pub item_at : (place : ℕ) (c : List T) (x : T) → place < count → c ≡ get_or chunks (place / 16) c → x ≡ get_or c (place % 16) x → slice_get (items_of chunks count) place ≡ Some x
    item_at place c x within there here =
        let q = place / 16 in
        let r = place % 16 in
        let enough = stored.enough in
        let split : place ≡ 16 * q + r = omega arith in
        let low : q < length chunks = omega arith in
        let same : x ≡ get_or (items_of chunks count) place x =
        here ∙ ap (λ cs. get_or cs r x) there ∙ sym (get_or-joined chunks q r c x stored.full low (omega arith)) ∙ ap (λ n. get_or (joined chunks) n x) (sym split) ∙ sym (get_or-take count (joined chunks) place x within) in
        slice_get_read (items_of chunks count) count place x (sym count_is) within same

    changed_chunks : (place : ℕ) (c : List T) (x : T) → place < 16 * length chunks → c ≡ get_or chunks (place / 16) c → joined (set chunks (place / 16) (set c (place % 16) x)) ≡ set (joined chunks) place x
    changed_chunks place c x within there =
        let q = place / 16 in
        let r = place % 16 in
        let split : 16 * q + r ≡ place = omega arith in
        let low : q < length chunks = omega arith in
        ap (λ d. joined (set chunks q (set d r x))) there ∙ set-joined chunks q r c x stored.full low (omega arith) ∙ ap (λ n. set (joined chunks) n x) split

    -- an item is put in the place of another
    pub changed : (place : ℕ) (c : List T) (x : T) → place < count → c ≡ get_or chunks (place / 16) c → items_of (set chunks (place / 16) (set c (place % 16) x)) count ≡ set (items_of chunks count) place x
    changed place c x within there =
        let enough = stored.enough in
        ap (take count) (changed_chunks place c x (omega arith) there) ∙ take-set-lt count (joined chunks) place x within

    still_full : (place : ℕ) (c : List T) (x : T) → place < 16 * length chunks → c ≡ get_or chunks (place / 16) c → All IsFull (set chunks (place / 16) (set c (place % 16) x))
    still_full place c x within there =
        let q = place / 16 in
        let full : length (get_or chunks q c) ≡ 16 = All-get_or IsFull chunks q c (omega arith) stored.full in
        All-set IsFull chunks q (set c (place % 16) x) (length-set c (place % 16) x ∙ ap length there ∙ full) stored.full

    pub still_stored : (place : ℕ) (c : List T) (x : T) → place < count → c ≡ get_or chunks (place / 16) c → IsStored (set chunks (place / 16) (set c (place % 16) x)) count
    still_stored place c x within there =
        let enough = stored.enough in
        record { full = still_full place c x (omega arith) there; enough = omega (arith, length-set chunks (place / 16) (set c (place % 16) x)) }

    -- an item more, in a chunk that has room
    module _ (room : count / 16 < length chunks) (c : List T) (x : T) (there : c ≡ get_or chunks (count / 16) c) where
      pub pushed_within : items_of (set chunks (count / 16) (set c (count % 16) x)) (count + 1) ≡ items_of chunks count ++ x ∷ []
      pushed_within =
          let within : count < 16 * length chunks = omega arith in
          ap (take (count + 1)) (changed_chunks count c x within there) ∙ take_more_set (joined chunks) count x (omega (arith, length-joined chunks stored.full))

      pub stored_within : IsStored (set chunks (count / 16) (set c (count % 16) x)) (count + 1)
      stored_within =
          let within : count < 16 * length chunks = omega arith in
          record { full = still_full count c x within there; enough = omega (arith, length-set chunks (count / 16) (set c (count % 16) x)) }

    -- an item more, in a new chunk
    module _ (none : count / 16 ≡ length chunks) (x : T) where
      all : count ≡ 16 * length chunks
      all = let enough = stored.enough in omega arith

      pub pushed_behind : items_of (chunks ++ replicate 16 x ∷ []) (count + 1) ≡ items_of chunks count ++ x ∷ []
      pushed_behind =
          let many : count + 1 ≡ length (joined chunks) + 1 = omega (arith, all, length-joined chunks stored.full) in
          let whole : joined chunks ≡ items_of chunks count = sym (take_all count (joined chunks) (omega (arith, all, length-joined chunks stored.full))) in
          ap (take (count + 1)) (joined-push chunks (replicate 16 x)) ∙ ap (λ n. take n (joined chunks ++ replicate 16 x)) many
          ∙ take-append-add (joined chunks) (replicate 16 x) 1 ∙ ap (λ xs. xs ++ x ∷ []) whole

      pub stored_behind : IsStored (chunks ++ replicate 16 x ∷ []) (count + 1)
      stored_behind = record {
        full = All-push IsFull chunks (replicate 16 x) stored.full (length-replicate 16 x);
        enough = omega (arith, all, length-append chunks (replicate 16 x ∷ []));
      }

    -- the first items, in the chunks that they need
    module _ (fewer k : ℕ) (less : fewer ≤ count) (enough : fewer ≤ 16 * k) where
      pub first_items : items_of (take k chunks) fewer ≡ take fewer (items_of chunks count)
      first_items =
          ap (take fewer) (joined-take chunks k stored.full) ∙ take-take fewer (16 * k) (joined chunks) enough ∙ sym (take-take fewer count (joined chunks) less)

      pub first_stored : IsStored (take k chunks) fewer
      first_stored = record {
        full = All-take IsFull k chunks stored.full;
        enough = (let most = stored.enough in omega (arith, length-take k chunks));
      }
