-- How far the replacement of some tokens has come.
use Rattle.std.proofs.Common.{◌≡◌, ℕ, suc, ◌+◌, ◌-◌, ◌*◌, ◌<◌, ◌≤◌, List, [], ◌∷◌, ◌++◌, length, length-append, map, refl, arith, ap, sym, ◌∙◌, append_assoc, append-nil, subst}
use Rattle.std.proofs.lemmas.List.{length-map, map-append, length_push}
use Rattle.std.proofs.Math.Numerals.{one-add}
use Rattle.std.proofs.Common.{add-zero}
use Rattle.std.specs.Prelude.{Some, None, Ok}
use Rattle.fq_core.specs.declared.span.Span.{Span}
use Rattle.c_lex.specs.declared.macros.Replacement.{Replacement}
use Rattle.c_lex.specs.declared.macros.Macro.{Macro}
use Rattle.c_lex.specs.declared.token.Token.{Token}
use Rattle.c_lex.specs.declared.expand.Frame.{Frame}
use Rattle.c_lex.specs.declared.expand.Turn.TheVariants as turn
use Rattle.c_lex.specs.declared.expand.Expansion.TheVariants as expansion
use Rattle.c_lex.specs.Expanding.{pending, ExpandsTo, Turned, ends, frame_done, makes_token, replaces, passes_tokens, passes_replacements}
use Rattle.c_lex.proofs.TakingLaws.{found}
use Rattle.c_lex.specs.Macros.{macro_of, index_of, list_at, Expands, nothing, stays, is_replaced}
use Rattle.c_lex.specs.Lexed.{most, IsWithin, token_at}

-- ---- what a derivation begins with

pub record Stays (table : List Macro) (r : Replacement) (rs us : List Replacement) (m : ℕ) : Type 0 where
  pub rest : List Replacement
  pub parts : us ≡ r ∷ rest
  pub goes : Expands table rs rest m

pub when_stays : {table : List Macro} {r : Replacement} {rs us : List Replacement} {m : ℕ} → Expands table (r ∷ rs) us m → macro_of table r.text ≡ None → Stays table r rs us m
when_stays (stays e d) n = record { rest = _; parts = refl; goes = d }
when_stays (is_replaced list e d) n = cc

pub record IsReplaced (table : List Macro) (rs us : List Replacement) (list : List Replacement) (m : ℕ) : Type 0 where
  pub count : ℕ
  pub one : m ≡ suc count
  pub goes : Expands table (list ++ rs) us count

pub when_replaced : {table : List Macro} {r : Replacement} {rs us : List Replacement} {m : ℕ} (list : List Replacement) → Expands table (r ∷ rs) us m → macro_of table r.text ≡ Some list → IsReplaced table rs us list m
when_replaced list (stays e d) s = cc
when_replaced list (is_replaced other e d) s = let same : other ≡ list = cc in record { count = _; one = refl; goes = rw same at d }

pub when_nothing : {table : List Macro} {us : List Replacement} {m : ℕ} → Expands table [] us m → (us ≡ []) × (m ≡ 0)
when_nothing nothing = (refl, refl)

-- ---- from the tokens `from`, `given` was made with so many replacements, and `now` is left

pub record Reached (table : List Macro) (from now given : List Replacement) (done : ℕ) : Type 0 where
  pub forth : (us : List Replacement) (m : ℕ) → Expands table now us m → Expands table from (given ++ us) (done + m)
  pub back : (us : List Replacement) (m : ℕ) → Expands table from us m → (vs : List Replacement) × (n : ℕ) × Expands table now vs n × (us ≡ given ++ vs) × (m ≡ done + n)

module _ (table : List Macro) (from : List Replacement) where
  pub reached_word : (r : Replacement) (list : List Replacement) → from ≡ r ∷ [] → macro_of table r.text ≡ Some list → Reached table from list [] 1
  reached_word r list f e = record {
    forth = λ us m d. rw (f, one-add m) (is_replaced {rs = []} {us = us} {n = m} list e (rw append-nil d));
    back = λ us m d. let i = when_replaced list (rw f at d) e in (us, i.count, rw append-nil at i.goes, refl, i.one ∙ sym (one-add i.count));
  }

  module _ (now given : List Replacement) (done : ℕ) (reached : Reached table from now given done) where
    pub reached_token : (r : Replacement) (rest : List Replacement) → now ≡ r ∷ rest → macro_of table r.text ≡ None → Reached table from rest (given ++ r ∷ []) done
    reached_token r rest e n = record {
      forth = λ us m d. rw append_assoc (reached.forth (r ∷ us) m (rw e (stays n d)));
      back = λ us m d.
          let b = reached.back us m d in
          let i = when_stays (rw e at b.2) n in
          (i.rest, b.1, i.goes, b.3 ∙ ap (λ xs. given ++ xs) i.parts ∙ sym (append_assoc given (r ∷ []) i.rest), b.4);
    }

    pub reached_macro : (r : Replacement) (rest list : List Replacement) → now ≡ r ∷ rest → macro_of table r.text ≡ Some list → Reached table from (list ++ rest) given (done + 1)
    reached_macro r rest list e s = record {
      forth = λ us m d. let k : done + 1 + m ≡ done + suc m = omega arith in rw k (reached.forth us (suc m) (rw e (is_replaced list s d)));
      back = λ us m d.
          let b = reached.back us m d in
          let i = when_replaced list (rw e at b.2) s in
          (b.0, i.count, i.goes, b.3, omega (arith, b.4, i.one));
    }

    pub reached_end : now ≡ [] → Expands table from given done
    reached_end e = let d = reached.forth [] 0 (rw e nothing) in rw (append-nil, add-zero) at d

-- ---- the tokens that were made so far

pub record Progress (table : List Macro) (span : Span) (from now : List Replacement) (old new : List Token) (start replaced : ℕ) : Type 0 where
  pub given : List Replacement
  pub done : ℕ
  pub reached : Reached table from now given done
  pub tokens : new ≡ old ++ map (token_at span) given
  pub count : replaced ≡ start + done
  pub within : IsWithin (length new) replaced

module _ (table : List Macro) (span : Span) (from now : List Replacement) (old new : List Token) (start replaced : ℕ) (p : Progress table span from now old new start replaced) where
  made : length new ≡ length old + length p.given
  made = ap length p.tokens ∙ length-append old (map (token_at span) p.given) ∙ ap (λ k. length old + k) (length-map p.given (token_at span))

  pub progress_same : (next : List Replacement) → next ≡ now → Progress table span from next old new start replaced
  progress_same next e = rw e p

  pub progress_token : (r : Replacement) (rest : List Replacement) (more : List Token) → now ≡ r ∷ rest → macro_of table r.text ≡ None → length new < most → more ≡ new ++ token_at span r ∷ []
      → Progress table span from rest old more start replaced
  progress_token r rest more e n room m = record {
    given = p.given ++ r ∷ [];
    done = p.done;
    reached = reached_token table from now p.given p.done p.reached r rest e n;
    tokens = m ∙ ap (λ ts. ts ++ token_at span r ∷ []) p.tokens ∙ append_assoc old (map (token_at span) p.given) (token_at span r ∷ []) ∙ ap (λ ts. old ++ ts) (sym (map-append (token_at span) p.given (r ∷ [])));
    count = p.count;
    within = (omega (arith, ap length m, length_push new (token_at span r)), p.within.1);
  }

  pub progress_macro : (r : Replacement) (rest list next : List Replacement) (more : ℕ) → now ≡ r ∷ rest → macro_of table r.text ≡ Some list → next ≡ list ++ rest → replaced < most → more ≡ replaced + 1
      → Progress table span from next old new start more
  progress_macro r rest list next more e s f room m = record {
    given = p.given;
    done = p.done + 1;
    reached = rw f (reached_macro table from now p.given p.done p.reached r rest list e s);
    tokens = p.tokens;
    count = omega (arith, m, p.count);
    within = (p.within.0, omega arith);
  }

  pub progress_end : now ≡ [] → (us : List Replacement) × (m : ℕ) × Expands table from us m × IsWithin (length old + length us) (start + m) × (new ≡ old ++ map (token_at span) us) × (replaced ≡ start + m)
  progress_end e = (p.given, p.done, reached_end table from now p.given p.done p.reached e, (omega (arith, made, p.within.0), omega (arith, p.count, p.within.1)), p.tokens, p.count)

  pub progress_passes_tokens : (r : Replacement) (rest : List Replacement) → now ≡ r ∷ rest → macro_of table r.text ≡ None → most ≤ length new
      → (us : List Replacement) (m : ℕ) → Expands table from us m → IsWithin (length old + length us) (start + m) → ⊥
  progress_passes_tokens r rest e n full us m d w =
      let b = p.reached.back us m d in
      let i = when_stays (rw e at b.2) n in
      let l : length us ≡ length p.given + suc (length i.rest) = ap length b.3 ∙ length-append p.given b.0 ∙ ap (λ xs. length p.given + length xs) i.parts in
      omega (arith, made, l, full, w.0)

  pub progress_passes_replacements : (r : Replacement) (rest list : List Replacement) → now ≡ r ∷ rest → macro_of table r.text ≡ Some list → most ≤ replaced
      → (us : List Replacement) (m : ℕ) → Expands table from us m → IsWithin (length old + length us) (start + m) → ⊥
  progress_passes_replacements r rest list e s full us m d w =
      let b = p.reached.back us m d in
      let i = when_replaced list (rw e at b.2) s in
      omega (arith, p.count, b.4, i.one, full, w.1)

-- ---- turns

pending_none : (table : List Macro) (fs : List Frame) → fs ≡ [] → pending table fs ≡ []
unfolding pending
pending_none table fs e = rw e refl

module _ (table : List Macro) (span : Span) (from : List Replacement) (old : List Token) (start : ℕ) (frames fs : List Frame) (tokens ts : List Token) (replaced n : ℕ) where
  pub turn_goes : Turned table span frames tokens replaced fs ts n (Ok turn.GoesOn) → Progress table span from (pending table frames) old tokens start replaced → Progress table span from (pending table fs) old ts start n
  turn_goes (frame_done e l t k) p = rw (t, k) (progress_same table span from _ old tokens start replaced p (pending table fs) e)
  turn_goes (makes_token r e n l room t k) p = rw k (progress_token table span from _ old tokens start replaced p r (pending table fs) ts e n room t)
  turn_goes (replaces r rs list e s f l t room k) p = rw t (progress_macro table span from _ old tokens start replaced p r rs list (pending table fs) n e s f room k)

  pub turn_smaller : Turned table span frames tokens replaced fs ts n (Ok turn.GoesOn)
      → 3 * (most - length ts) + 3 * (most - n) + length fs < 3 * (most - length tokens) + 3 * (most - replaced) + length frames
  turn_smaller (frame_done e l t k) = rw (t, k) (omega arith)
  turn_smaller (makes_token r e n l room t k) = rw (t, k) (simp length-append (omega arith))
  turn_smaller (replaces r rs list e s f l t room k) = rw (t, k) (omega arith)

  pub turn_ends : Turned table span frames tokens replaced fs ts n (Ok turn.Ends) → Progress table span from (pending table frames) old tokens start replaced → ExpandsTo table from span old ts start n expansion.Done
  turn_ends (ends e t k) p = rw (t, k) (progress_end table span from _ old tokens start replaced p (pending_none table frames e))

  pub turn_passes : Turned table span frames tokens replaced fs ts n (Ok turn.Passes) → Progress table span from (pending table frames) old tokens start replaced → ExpandsTo table from span old ts start n expansion.Passed
  turn_passes (passes_tokens r rs e n full) p = progress_passes_tokens table span from _ old tokens start replaced p r rs e n full
  turn_passes (passes_replacements r rs list e s full) p = progress_passes_replacements table span from _ old tokens start replaced p r rs list e s full

-- the first turn
module _ (table : List Macro) (span : Span) (word : Replacement) (index : ℕ) (old : List Token) (start : ℕ) (known : index_of table word.text ≡ Some index) where
  pub first_passes : most ≤ start → ExpandsTo table (word ∷ []) span old old start start expansion.Passed
  first_passes full us m d w = let i = when_replaced (list_at table index) d (found table word.text index known).list in omega (arith, i.one, full, w.1)

  first_pending : (fs : List Frame) → fs ≡ record { index = index; at = 0 } ∷ [] → list_at table index ≡ pending table fs
  unfolding pending
  first_pending fs e = rw e refl

  pub first_progress : (fs : List Frame) → fs ≡ record { index = index; at = 0 } ∷ [] → length old ≤ most → start < most → Progress table span (word ∷ []) (pending table fs) old old start (start + 1)
  first_progress fs e a b = record {
    given = [];
    done = 1;
    reached = subst (λ rs. Reached table (word ∷ []) rs [] 1) (first_pending fs e) (reached_word table (word ∷ []) word (list_at table index) refl (found table word.text index known).list);
    tokens = sym (append-nil old);
    count = refl;
    within = (a, omega arith);
  }
