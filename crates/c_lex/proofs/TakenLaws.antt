-- What a token comes to.
use Rattle.std.proofs.Common.{◌≡◌, ℕ, suc, ◌+◌, List, [], ◌∷◌, length, length-append, map, arith, ap, ◌∙◌, append-nil, Bool, true, false}
use Rattle.std.specs.Prelude.{Some, None, Result, Ok, Err}
use Rattle.std.specs.Result.{IsErrAnd}
use Rattle.std.proofs.lemmas.List.{length-map}
use Rattle.std.proofs.lemmas.Result.{err_from_is_err_and}
use Rattle.fq_core.specs.declared.span.Span.{Span}
use Rattle.fq_core.specs.declared.refusal.Fault.{Fault}
use Rattle.fq_core.specs.declared.refusal.Fault.TheVariants as fault
use Rattle.fq_core.specs.Refusals.{refusal}
use Rattle.c_lex.specs.declared.expand.Expansion.TheVariants as expansion
use Rattle.c_lex.specs.declared.macros.Replacement.{Replacement}
use Rattle.c_lex.specs.declared.macros.Macro.{Macro}
use Rattle.c_lex.specs.declared.output.Output.{Output}
use Rattle.c_lex.specs.Constants.{token_kind}
use Rattle.c_lex.specs.Expanding.{ExpandsTo}
use Rattle.c_lex.specs.Lexed as lexed
use Rattle.c_lex.specs.Lexed.{IsWithin, line_of_span, the_limit, token_at}
use Rattle.c_lex.specs.Macros.{index_of, list_at, Expands, nothing, stays, is_replaced, within, LoopsOrEnds}
use Rattle.c_lex.specs.Taking.{TokenTaken, PlainTaken}
use Rattle.c_lex.proofs.TakingLaws.{found, unknown}

pub token_memory : (table : List Macro) (bytes : List ℕ) (span : Span) (old new : Output) (r : Result Unit Fault) → IsErrAnd r (λ e. e ≡ fault.Memory) → TokenTaken table bytes span old new r
token_memory table bytes span old new r h = let p = err_from_is_err_and r h in rw (p.1, p.2) tt

module _ (table : List Macro) (word : Replacement) (span : Span) (old new : Output) (kind : token_kind word.text ≡ Some word.kind) where
  pub use_done : ExpandsTo table (word ∷ []) span old.tokens.items new.tokens.items old.replaced new.replaced expansion.Done → TokenTaken table word.text span old new (Ok tt)
  use_done e =
      let l : length new.tokens.items ≡ length old.tokens.items + length e.0 = ap length e.4 ∙ length-append old.tokens.items (map (token_at span) e.0) ∙ ap (λ k. length old.tokens.items + k) (length-map e.0 (token_at span)) in
      (map (token_at span) e.0, e.1, (rw (l, e.5) e.3, e.4, e.5), lexed.expands e.0 e.1 kind e.2 e.3)

  module _ (index : ℕ) (known : index_of table word.text ≡ Some index) where
    pub use_loops : (b : Bool) → LoopsOrEnds table (list_at table index) b → b ≡ true → TokenTaken table word.text span old new (Err (refusal 14 (line_of_span span)))
    use_loops true h e = lexed.loops kind (h.0, within index known h.1, h.2)
    use_loops false h e = cc

    pub use_passed : (b : Bool) → LoopsOrEnds table (list_at table index) b → b ≡ false → ExpandsTo table (word ∷ []) span old.tokens.items new.tokens.items old.replaced new.replaced expansion.Passed
        → TokenTaken table word.text span old new (Err (refusal 15 the_limit))
    use_passed true h e p = cc
    use_passed false h e p =
        let d : Expands table (word ∷ []) h.0 (suc h.1) = is_replaced (list_at table index) (found table word.text index known).list (rw append-nil h.2) in
        lexed.too_many h.0 (suc h.1) kind d (p h.0 (suc h.1) d)

  pub plain_taken : index_of table word.text ≡ None → (r : Result Unit Fault) → PlainTaken word span old new r → TokenTaken table word.text span old new r
  plain_taken n (Ok u) p =
      let l : length new.tokens.items ≡ length old.tokens.items + 1 = ap length p.1 ∙ length-append old.tokens.items (token_at span word ∷ []) in
      (token_at span word ∷ [], 0, p, lexed.expands (word ∷ []) 0 kind (stays (unknown table word.text n) nothing) (rw (l, p.2) at p.0))
  plain_taken n (Err fault.Memory) p = tt
  plain_taken n (Err (fault.Refused r)) p =
      rw p.0 (lexed.too_many (word ∷ []) 0 kind (stays (unknown table word.text n) nothing) (λ w. omega (arith, w.0, p.1)))
