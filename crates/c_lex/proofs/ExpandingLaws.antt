-- The turns of a word's replacement.
use Rattle.std.proofs.Common.{◌≡◌, ℕ, zero, suc, ◌+◌, ◌<◌, ◌≤◌, List, [], ◌∷◌, ◌++◌, length, length-append, get_or, drop, refl, arith, ap, sym, ◌∙◌, append_assoc, append-nil}
use Rattle.std.proofs.Math.Numerals.{add-one}
use Rattle.std.specs.Prelude.{Some, None, slice_get, Result, Ok}
use Rattle.std.specs.Result.{IsErrAnd}
use Rattle.std.specs.declared.alloc.AllocError.{AllocError}
use Rattle.std.proofs.lemmas.Result.{err_from_is_err_and}
use Rattle.fq_core.specs.declared.span.Span.{Span}
use Rattle.c_lex.specs.declared.expand.Frame.{Frame}
use Rattle.c_lex.specs.declared.expand.Turn.{Turn}
use Rattle.c_lex.specs.declared.expand.Turn.TheVariants as turn
use Rattle.c_lex.specs.declared.macros.Replacement.{Replacement}
use Rattle.c_lex.specs.declared.macros.Macro.{Macro}
use Rattle.c_lex.specs.declared.token.Token.{Token}
use Rattle.c_lex.specs.Macros.{index_of, list_at}
use Rattle.c_lex.specs.Lexed.{most, token_at}
use Rattle.c_lex.specs.Expanding.{pending, unread_of, Turned, frame_done, makes_token, replaces, passes_tokens, passes_replacements, no_memory}
use Rattle.c_lex.proofs.TakingLaws.{found, unknown}

pub list_at_within : (ms : List Macro) (i : ℕ) (d : Macro) → i < length ms → list_at ms i ≡ (get_or ms i d).list
unfolding list_at
list_at_within [] i d h = absurd (omega arith)
list_at_within (m ∷ ms) zero d h = refl
list_at_within (m ∷ ms) (suc i) d h = list_at_within ms i d (omega arith)

pub list_at_past : (ms : List Macro) (i : ℕ) → length ms ≤ i → list_at ms i ≡ []
unfolding list_at
list_at_past [] i h = refl
list_at_past (m ∷ ms) zero h = absurd (omega arith)
list_at_past (m ∷ ms) (suc i) h = list_at_past ms i (omega arith)

pub get_past : (A : Type 0) (xs : List A) (i : ℕ) → length xs ≤ i → None ≡ slice_get xs i
get_past A [] i h = refl
get_past A (x ∷ xs) zero h = absurd (omega arith)
get_past A (x ∷ xs) (suc i) h = get_past A xs i (omega arith)

pub get_within : (A : Type 0) (xs : List A) (i : ℕ) (d : A) → i < length xs → Some (get_or xs i d) ≡ slice_get xs i
get_within A [] i d h = absurd (omega arith)
get_within A (x ∷ xs) zero d h = refl
get_within A (x ∷ xs) (suc i) d h = get_within A xs i d (omega arith)

pub drop_get : (A : Type 0) (xs : List A) (i : ℕ) (r : A) → Some r ≡ slice_get xs i → drop i xs ≡ r ∷ drop (suc i) xs
drop_get A [] i r h = cc
drop_get A (x ∷ xs) zero r h = let e : r ≡ x = cc in rw e refl
drop_get A (x ∷ xs) (suc i) r h = drop_get A xs i r h

drop_none : (A : Type 0) (xs : List A) (i : ℕ) → None ≡ slice_get xs i → drop i xs ≡ []
drop_none A [] zero h = refl
drop_none A [] (suc i) h = refl
drop_none A (x ∷ xs) zero h = cc
drop_none A (x ∷ xs) (suc i) h = drop_none A xs i h

pub pending_push : (table : List Macro) (fs : List Frame) (f : Frame) → pending table (fs ++ f ∷ []) ≡ unread_of table f ++ pending table fs
unfolding pending
pending_push table [] f = sym (simp append-nil)
pending_push table (g ∷ gs) f = ap (λ xs. xs ++ unread_of table g) (pending_push table gs f) ∙ simp append_assoc

module _ (table shown : List Macro) (span : Span) (frames fs : List Frame) (f : Frame) (tokens : List Token) (replaced : ℕ) (popped : frames ≡ fs ++ f ∷ []) (same : shown ≡ table) where
  one_more : length frames ≡ suc (length fs)
  one_more = ap length popped ∙ simp length-append (omega arith)

  pub turn_done : None ≡ slice_get (list_at shown f.index) f.at → Turned table span frames tokens replaced fs tokens replaced (Ok turn.GoesOn)
  turn_done h =
      let e : unread_of table f ≡ [] = drop_none Replacement (list_at table f.index) f.at (rw same at h) in
      frame_done (sym (ap (pending table) popped ∙ pending_push table fs f ∙ ap (λ xs. xs ++ pending table fs) e)) (omega (arith, one_more)) refl refl

  module _ (r : Replacement) (here : Some r ≡ slice_get (list_at shown f.index) f.at) (after : List Frame) (pushed : after ≡ fs ++ record { index = f.index; at = f.at + 1 } ∷ []) where
    heads : pending table frames ≡ r ∷ pending table after
    heads =
        let e : unread_of table f ≡ r ∷ drop (suc f.at) (list_at table f.index) = drop_get Replacement (list_at table f.index) f.at r (rw same at here) in
        let g : pending table after ≡ drop (suc f.at) (list_at table f.index) ++ pending table fs =
        ap (pending table) pushed ∙ pending_push table fs (record { index = f.index; at = f.at + 1 }) ∙ ap (λ k. drop k (list_at table f.index) ++ pending table fs) (add-one f.at) in
        ap (pending table) popped ∙ pending_push table fs f ∙ ap (λ xs. xs ++ pending table fs) e ∙ sym (ap (λ xs. r ∷ xs) g)

    same_length : length after ≡ length frames
    same_length = omega (arith, one_more, ap length pushed, length-append fs (record { index = f.index; at = f.at + 1 } ∷ []))

    pub turn_passes_tokens : None ≡ index_of table r.text → most ≤ length tokens → Turned table span frames tokens replaced after tokens replaced (Ok turn.Passes)
    turn_passes_tokens n h = passes_tokens r (pending table after) heads (unknown table r.text (sym n)) h

    pub turn_token : (more : List Token) (made : Token) → None ≡ index_of table r.text → length tokens < most → more ≡ tokens ++ made ∷ [] → made ≡ token_at span r
        → Turned table span frames tokens replaced after more replaced (Ok turn.GoesOn)
    turn_token more made n h m e = makes_token r heads (unknown table r.text (sym n)) same_length h (rw e at m) refl

    module _ (index : ℕ) (at : Some index ≡ index_of table r.text) where
      pub turn_passes_replacements : most ≤ replaced → Turned table span frames tokens replaced after tokens replaced (Ok turn.Passes)
      turn_passes_replacements h = passes_replacements r (pending table after) (list_at table index) heads (found table r.text index (sym at)).list h

      pub turn_replaces : (top : List Frame) → replaced < most → top ≡ after ++ record { index = index; at = 0 } ∷ []
          → Turned table span frames tokens replaced top tokens (replaced + 1) (Ok turn.GoesOn)
      turn_replaces top h t =
          replaces r (pending table after) (list_at table index) heads (found table r.text index (sym at)).list
          (ap (pending table) t ∙ pending_push table after (record { index = index; at = 0 }))
          (omega (arith, same_length, ap length t, length-append after (record { index = index; at = 0 } ∷ []))) refl h refl

pub turn_memory : (table : List Macro) (span : Span) (frames : List Frame) (tokens : List Token) (replaced : ℕ) (fs : List Frame) (ts : List Token) (n : ℕ) (r : Result Turn AllocError) (Q : AllocError → Type 0) → IsErrAnd r Q
    → Turned table span frames tokens replaced fs ts n r
turn_memory table span frames tokens replaced fs ts n r Q h = let p = err_from_is_err_and r h in rw p.1 (no_memory p.0)

pub shown_at : (xs ys : List Replacement) (i : ℕ) (r : Replacement) → r ≡ get_or xs i r → i < length xs → xs ≡ ys → Some r ≡ slice_get ys i
shown_at xs ys i r e h s = ap Some e ∙ get_within Replacement xs i r h ∙ ap (λ zs. slice_get zs i) s
