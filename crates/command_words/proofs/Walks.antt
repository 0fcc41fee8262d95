-- The walk of `clap` over the words of a command, and the reading of these words.
use Rattle.std.proofs.Common.{◌≡◌, ◌∙◌, ◌+◌, ◌≤◌, ◌&&◌, ◌||◌, ◌==◌, ℕ, suc, Bool, true, false, not, true≢false, refl, sym, ap, arith, List, [], ◌∷◌, ◌++◌, length, length-append, append-nil, append_assoc, Option, Some, None, is_some}
use Rattle.std.specs.Prelude.{IfSome, fold}
use Rattle.std.proofs.lemmas.Bool.{le-ltb}
use Rattle.std.specs.Str.{bytes_eq}
use Rattle.clap.specs.Lexer.{long_of, short_of, usize_max}
use Rattle.clap.specs.Kinds.{Kinds, or_else, range_kinds}
use Rattle.clap.specs.Faults.{settle_fault, turn_fault, walk_fault, use_fault, values_fault, positional_fault}
use Rattle.clap.specs.Walk.{Held, Row, Waiting, Walk, idle, option, positional, settled, settled_rows, subcommand_met, used, walked, positional_held}
use Rattle.clap.specs.Simple.{Shape}
use Rattle.command_words.specs.declared.command_option.CommandOption.{CommandOption}
use Rattle.command_words.specs.Options.{name_of, takes_value}
use Rattle.command_words.specs.Reading.{Text, Use, dashes, has_hyphen, has_short, is_short, option_named, positional_id, positionals, option_use, reading, row_values, values, with_use}
use Rattle.command_words.proofs.Rows.{at_id, at_id-append, bytes_eq-refl, row_values-with_values, values-cons}
use Rattle.command_words.proofs.Rules.{IsForm, flag_rule, opt_rule-flag, opt_rule-valued, valued_rule, words_rule}

-- no kind of error
abbrev pub passes : Kinds → Bool
passes [] = true
passes (k ∷ ks) = false

pub passes-or_else : (a b : Kinds) → passes (or_else a b) ≡ (passes a && passes b)
passes-or_else [] b = refl
passes-or_else (k ∷ ks) b = refl

and_assoc : (a b c : Bool) → ((a && b) && c) ≡ (a && (b && c))
and_assoc true b c = refl
and_assoc false b c = refl

abbrev pub held : List Row → Option (Text × List Text) → Held
held rows p = record { rows = rows; pending = p; skip = 0 }

abbrev pub at : List Row → Option (Text × List Text) → Waiting → Bool → Walk
at rows p x t = record { held = held rows p; waiting = x; position = 1; is_trailing = t; stopped = None }

-- a walk, and what it comes to at its end, pass
abbrev pub total : Shape → Walk → List Text → Bool
total s w words = passes (walk_fault s [] w words)
    && passes (settle_fault s.rules s.args_override_self (fold (walked s.rules []) w words).held)

abbrev pub final : Shape → Walk → List Text → List Row
final s w words = (settled s.rules (fold (walked s.rules []) w words).held).rows

total-cons : (s : Shape) (w : Walk) (word : Text) (rest : List Text)
    → total s w (word ∷ rest) ≡ (passes (turn_fault s [] w word) && total s (walked s.rules [] w word) rest)
unfolding walk_fault
total-cons s w word rest =
    ap (λ b. b && passes (settle_fault s.rules s.args_override_self (fold (walked s.rules []) (walked s.rules [] w word) rest).held))
    (passes-or_else (turn_fault s [] w word) (walk_fault s [] (walked s.rules [] w word) rest))
    ∙ and_assoc (passes (turn_fault s [] w word)) _ _

no_subcommand : (x : Waiting) (word : Text) → subcommand_met [] x word ≡ None
no_subcommand idle word = refl
no_subcommand (option id) word = refl
no_subcommand positional word = refl

-- a pending use that may end, with at most n words of positionals
pub data Settles (opts : List CommandOption) (n : ℕ) : Option (Text × List Text) → Type 0 where
  nothing : Settles opts n None
  many_words : (vs : List Text) → length vs ≤ n → Settles opts n (Some (positional_id, vs))
  one_value : (name : Text) (o : CommandOption) (v : Text) → option_named opts name ≡ Some o → (takes_value o) ≡ true → Settles opts n (Some ((name_of o), v ∷ []))

-- ---- one use

values_pass : (vs : List Text) → values_fault words_rule vs ≡ []
values_pass [] = refl
values_pass (v ∷ vs) = values_pass vs

many : (n : ℕ) → n ≤ usize_max → range_kinds 0 usize_max n ≡ []
many n le = rw (le-ltb n 0 (omega arith), le-ltb usize_max n le) refl

words_pass : (again : Bool) (vs : List Text) (rows : List Row) → length vs ≤ usize_max → use_fault again words_rule vs rows ≡ []
words_pass again [] rows le = refl
words_pass again (v ∷ vs) rows le = rw (many (length (v ∷ vs)) le) (values_pass (v ∷ vs))

words_used : (vs : List Text) (rows : List Row) (other : Text) → row_values other (used words_rule vs rows) ≡ row_values other rows ++ at_id positional_id other vs
words_used [] rows other = row_values-with_values positional_id other _ _ [] rows
words_used (v ∷ vs) rows other = row_values-with_values positional_id other _ _ (v ∷ vs) rows

module _ (s : Shape) (opts : List CommandOption) (form : IsForm s opts) where
  -- what a pending use adds at an id
  abbrev pending_at : Option (Text × List Text) → Text → List Text
  pending_at None other = []
  pending_at (Some p) other = at_id p.0 other p.1

  settle_passes : (n : ℕ) (p : Option (Text × List Text)) (rows : List Row) → n ≤ usize_max → Settles opts n p
      → settle_fault s.rules s.args_override_self (held rows p) ≡ []
  settle_passes n None rows le nothing = refl
  settle_passes n (Some p) rows le (many_words vs within) = rw form.id (words_pass s.args_override_self vs rows (omega arith))
  settle_passes n (Some p) rows le (one_value name o v named takes) = rw ((form.known name o named).0, opt_rule-valued o takes) refl

  settle_adds : (n : ℕ) (p : Option (Text × List Text)) (rows : List Row) (other : Text) → Settles opts n p
      → row_values other (settled_rows s.rules p rows) ≡ row_values other rows ++ pending_at p other
  settle_adds n None rows other nothing = sym (append-nil (row_values other rows))
  settle_adds n (Some p) rows other (many_words vs within) = rw form.id (words_used vs rows other)
  settle_adds n (Some p) rows other (one_value name o v named takes) =
      rw ((form.known name o named).0, opt_rule-valued o takes) (row_values-with_values (name_of o) other _ _ (v ∷ []) rows)

  -- ---- one word

  -- what a walk over the words comes to, where their reading is this, and these values were seen before
  pub record Ends (w : Walk) (words : List Text) (seen : Text → List Text) (read : Option (List Use)) : Type 0 where
    pub all : total s w words ≡ is_some read
    pub rows : IfSome read (λ uses. (other : Text) → row_values other (final s w words) ≡ seen other ++ values other uses)

  fails : (w : Walk) (word : Text) (rest : List Text) (seen : Text → List Text) → passes (turn_fault s [] w word) ≡ false
      → Ends w (word ∷ rest) seen None
  fails w word rest seen e = record { all = total-cons s w word rest ∙ rw e refl; rows = tt }

  goes_on : (w next : Walk) (word : Text) (rest : List Text) (seen : Text → List Text) (read : Option (List Use))
      → passes (turn_fault s [] w word) ≡ true → walked s.rules [] w word ≡ next → Ends next rest seen read → Ends w (word ∷ rest) seen read
  goes_on w next word rest seen None e is ends = record { all = total-cons s w word rest ∙ rw (e, is) ends.all; rows = tt }
  goes_on w next word rest seen (Some uses) e is ends = record {
    all = total-cons s w word rest ∙ rw (e, is) ends.all;
    rows = λ other. ap (λ (v : Walk). row_values other (final s v rest)) is ∙ ends.rows other;
  }

  uses_one : (w : Walk) (words : List Text) (seen next : Text → List Text) (id v : Text) (read : Option (List Use))
      → ((other : Text) → next other ≡ seen other ++ at_id id other (v ∷ [])) → Ends w words next read → Ends w words seen (with_use id v read)
  uses_one w words seen next id v None more ends = record { all = ends.all; rows = tt }
  uses_one w words seen next id v (Some uses) more ends = record {
    all = ends.all;
    rows = λ other. ends.rows other ∙ ap (λ vs. vs ++ values other uses) (more other)
        ∙ append_assoc (seen other) (at_id id other (v ∷ [])) (values other uses) ∙ ap (λ vs. seen other ++ vs) (sym (values-cons id v other uses));
  }

  -- a word that begins with no hyphen
  pub no_hyphen : (word : Text) → has_hyphen word ≡ false → (long_of word ≡ None) × (short_of word ≡ None) × (bytes_eq word dashes ≡ false)
  no_hyphen [] e = (refl, refl, refl)
  no_hyphen (x ∷ xs) e = (rw e refl, rw e refl, rw e refl)

  -- the positional that takes the word
  abbrev taken : List Row → Option (Text × List Text) → Text → Held
  taken rows p word = positional_held s.rules words_rule word (held rows p)

  -- ---- after `--`

  trails_on : (rows : List Row) (p : Option (Text × List Text)) (x : Waiting) (word : Text)
      → walked s.rules [] (at rows p x true) word ≡ record { held = taken rows p word; waiting = positional; position = 1; is_trailing = true; stopped = None }
  unfolding walked
  trails_on rows p x word = rw form.index refl

  trail_fault : (rows : List Row) (p : Option (Text × List Text)) (x : Waiting) (word : Text)
      → turn_fault s [] (at rows p x true) word ≡ positional_fault s.rules s.args_override_self words_rule (held rows p)
  trail_fault rows p x word = rw form.index refl

  -- where a positional's word leads
  record Takes (n : ℕ) (rows : List Row) (p : Option (Text × List Text)) (word : Text) : Type 0 where
    next_rows : List Row
    next : Option (Text × List Text)
    is : taken rows p word ≡ held next_rows next
    ok : Settles opts (n + 1) next
    fault : positional_fault s.rules s.args_override_self words_rule (held rows p) ≡ []
    adds : (other : Text) → row_values other (settled_rows s.rules next next_rows)
        ≡ row_values other (settled_rows s.rules p rows) ++ at_id positional_id other (word ∷ [])

  takes : (n : ℕ) (rows : List Row) (p : Option (Text × List Text)) (word : Text) → n ≤ usize_max → Settles opts n p → Takes n rows p word
  takes n rows None word le nothing =
      let ok : Settles opts (n + 1) (Some (positional_id, word ∷ [])) = many_words (word ∷ []) (omega arith) in
      record {
        next_rows = rows;
        next = Some (positional_id, word ∷ []);
        is = refl;
        ok = ok;
        fault = refl;
        adds = λ other. settle_adds (n + 1) _ rows other ok;
      }
  takes n rows (Some p) word le (many_words vs within) =
      let ok : Settles opts (n + 1) (Some (positional_id, vs ++ word ∷ [])) =
      many_words (vs ++ word ∷ []) (omega (arith, length-append vs (word ∷ []))) in
      record {
        next_rows = rows;
        next = Some (positional_id, vs ++ word ∷ []);
        is = refl;
        ok = ok;
        fault = refl;
        adds = λ other. settle_adds (n + 1) _ rows other ok ∙ ap (λ xs. row_values other rows ++ xs) (at_id-append positional_id other vs (word ∷ []))
            ∙ sym (append_assoc (row_values other rows) (at_id positional_id other vs) (at_id positional_id other (word ∷ [])))
            ∙ ap (λ xs. xs ++ at_id positional_id other (word ∷ [])) (sym (settle_adds n _ rows other (many_words vs within)));
      }
  takes n rows (Some p) word le (one_value name o v named valued) =
      let ok : Settles opts (n + 1) (Some (positional_id, word ∷ [])) = many_words (word ∷ []) (omega arith) in
      let old : Option (Text × List Text) = Some ((name_of o), v ∷ []) in
      record {
        next_rows = settled_rows s.rules old rows;
        next = Some (positional_id, word ∷ []);
        is = rw (form.known name o named).1 refl;
        ok = ok;
        fault = rw (form.known name o named).1 (settle_passes n old rows le (one_value name o v named valued));
        adds = λ other. settle_adds (n + 1) _ (settled_rows s.rules old rows) other ok;
      }

  -- the values that were seen before the words
  abbrev seen : List Row → Option (Text × List Text) → Text → List Text
  seen rows p other = row_values other (settled_rows s.rules p rows)

  at_end : (n : ℕ) (rows : List Row) (p : Option (Text × List Text)) (x : Waiting) (t : Bool) → n ≤ usize_max → Settles opts n p
      → Ends (at rows p x t) [] (seen rows p) (Some [])
  unfolding walk_fault
  at_end n rows p x t le ok = record {
    all = rw (settle_passes n p rows le ok) refl;
    rows = λ other. sym (append-nil (seen rows p other));
  }

  trailing : (words : List Text) (n : ℕ) (rows : List Row) (p : Option (Text × List Text)) (x : Waiting) → n + length words ≤ usize_max → Settles opts n p
      → Ends (at rows p x true) words (seen rows p) (Some (positionals words))
  trailing [] n rows p x le ok = at_end n rows p x true (omega arith) ok
  trailing (word ∷ rest) n rows p x le ok =
      let t = takes n rows p word (omega arith) ok in
      let fault : passes (turn_fault s [] (at rows p x true) word) ≡ true = rw (trail_fault rows p x word, t.fault) refl in
      let goes : walked s.rules [] (at rows p x true) word ≡ at t.next_rows t.next positional true =
      trails_on rows p x word ∙ ap (λ (h : Held). record { held = h; waiting = positional; position = 1; is_trailing = true; stopped = None }) t.is in
      uses_one _ (word ∷ rest) (seen rows p) (seen t.next_rows t.next) positional_id word (Some (positionals rest)) t.adds
      (goes_on _ (at t.next_rows t.next positional true) word rest (seen t.next_rows t.next) (Some (positionals rest)) fault goes
      (trailing rest (n + 1) t.next_rows t.next positional (omega arith) t.ok))

  -- ---- an option that waits for its value

  abbrev waiting_for : CommandOption → Option (Text × List Text)
  waiting_for o = Some ((name_of o), [])

  missing_fault : (name : Text) (o : CommandOption) (rows : List Row) → option_named opts name ≡ Some o → (takes_value o) ≡ true
      → passes (settle_fault s.rules s.args_override_self (held rows (waiting_for o))) ≡ false
  missing_fault name o rows named valued = rw ((form.known name o named).0, opt_rule-valued o valued) refl

  and_false : (a b : Bool) → a ≡ false → (a && b) ≡ false
  and_false true b e = absurd (true≢false e)
  and_false false b e = refl

  -- after `--` it never comes
  never : (words : List Text) (name : Text) (o : CommandOption) (rows : List Row) (x : Waiting) → option_named opts name ≡ Some o → (takes_value o) ≡ true
      → total s (at rows (waiting_for o) x true) words ≡ false
  unfolding walk_fault
  never [] name o rows x named valued = missing_fault name o rows named valued
  never (word ∷ rest) name o rows x named valued =
      let fault : passes (turn_fault s [] (at rows (waiting_for o) x true) word) ≡ false =
      rw (trail_fault rows (waiting_for o) x word, (form.known name o named).1) (missing_fault name o rows named valued) in
      total-cons s (at rows (waiting_for o) x true) word rest ∙ and_false _ _ fault

  never_ends : (w : Walk) (words : List Text) (before : Text → List Text) → total s w words ≡ false → Ends w words before None
  never_ends w words before e = record { all = e; rows = tt }

  -- `--` begins the positionals
  dashes_on : (rows : List Row) (p : Option (Text × List Text)) (x : Waiting) (word : Text) → bytes_eq word dashes ≡ true
      → walked s.rules [] (at rows p x false) word ≡ at rows p x true
  unfolding walked
  dashes_on rows p x word e = rw (no_subcommand x word, e) refl

  dashes_pass : (rows : List Row) (p : Option (Text × List Text)) (x : Waiting) (word : Text) → bytes_eq word dashes ≡ true
      → turn_fault s [] (at rows p x false) word ≡ []
  dashes_pass rows p x word e = rw (no_subcommand x word, e) refl

  -- the value of the option
  value_on : (name : Text) (o : CommandOption) (rows : List Row) (word : Text) → option_named opts name ≡ Some o → (takes_value o) ≡ true → has_hyphen word ≡ false
      → walked s.rules [] (at rows (waiting_for o) (option (name_of o)) false) word ≡ at rows (Some ((name_of o), word ∷ [])) idle false
  unfolding walked
  value_on name o rows word named valued plain =
      let n = no_hyphen word plain in
      rw (n.2, n.0, n.1, (form.known name o named).0, opt_rule-valued o valued, bytes_eq-refl (name_of o)) refl

  value_pass : (name : Text) (o : CommandOption) (rows : List Row) (word : Text) → option_named opts name ≡ Some o → (takes_value o) ≡ true → has_hyphen word ≡ false
      → turn_fault s [] (at rows (waiting_for o) (option (name_of o)) false) word ≡ []
  value_pass name o rows word named valued plain =
      let n = no_hyphen word plain in
      rw (n.2, n.0, n.1) refl

  first_fails : (a b : Kinds) → passes a ≡ false → passes (or_else a b) ≡ false
  first_fails a b e = passes-or_else a b ∙ and_false (passes a) (passes b) e

  -- another option in its place
  option_fails : (name : Text) (o : CommandOption) (rows : List Row) (word : Text) (other : Text) (value : Option Text) (found : Option CommandOption)
      → option_named opts name ≡ Some o → (takes_value o) ≡ true → bytes_eq word dashes ≡ false → long_of word ≡ Some (other, value)
      → option_named opts other ≡ found → passes (turn_fault s [] (at rows (waiting_for o) (option (name_of o)) false) word) ≡ false
  option_fails name o rows word other value None named valued n long none = rw (n, long, form.long other, none) refl
  option_fails name o rows word other value (Some q) named valued n long some = go value (takes_value q) refl long
    where
      missing : passes (settle_fault s.rules s.args_override_self (held rows (waiting_for o))) ≡ false
      missing = missing_fault name o rows named valued

      go : (value : Option Text) (b : Bool) → (takes_value q) ≡ b → long_of word ≡ Some (other, value)
          → passes (turn_fault s [] (at rows (waiting_for o) (option (name_of o)) false) word) ≡ false
      go None true e long = rw (n, long, form.long other, some, opt_rule-valued q e) (first_fails _ _ missing)
      go None false e long = rw (n, long, form.long other, some, opt_rule-flag q e) (first_fails _ _ (first_fails _ _ missing))
      go (Some v) true e long = rw (n, long, form.long other, some, opt_rule-valued q e) (first_fails _ _ (first_fails _ _ missing))
      go (Some v) false e long = rw (n, long, form.long other, some, opt_rule-flag q e) refl

  -- ---- a word where nothing waits

  pub data Free : Waiting → Type 0 where
    is_idle : Free idle
    is_positional : Free positional

  plain_on : (rows : List Row) (p : Option (Text × List Text)) (x : Waiting) (word : Text) → Free x → has_hyphen word ≡ false
      → walked s.rules [] (at rows p x false) word ≡ record { held = taken rows p word; waiting = positional; position = 1; is_trailing = false; stopped = None }
  unfolding walked
  plain_on rows p idle word is_idle plain = let n = no_hyphen word plain in rw (n.2, n.0, n.1, form.index) refl
  plain_on rows p (option id) word free plain = elim free [ ]
  plain_on rows p positional word is_positional plain = let n = no_hyphen word plain in rw (n.2, n.0, n.1, form.index) refl

  plain_fault : (rows : List Row) (p : Option (Text × List Text)) (x : Waiting) (word : Text) → Free x → has_hyphen word ≡ false
      → turn_fault s [] (at rows p x false) word ≡ positional_fault s.rules s.args_override_self words_rule (held rows p)
  plain_fault rows p idle word is_idle plain = let n = no_hyphen word plain in rw (n.2, n.0, n.1, form.index) refl
  plain_fault rows p (option id) word free plain = elim free [ ]
  plain_fault rows p positional word is_positional plain = let n = no_hyphen word plain in rw (n.2, n.0, n.1, form.index) refl

  -- the option that a word names
  record Names (word name : Text) (value : Option Text) (found : Option CommandOption) : Type 0 where
    other : bytes_eq word dashes ≡ false
    long : long_of word ≡ Some (name, value)
    is : option_named opts name ≡ found

  unknown_fails : (rows : List Row) (p : Option (Text × List Text)) (x : Waiting) (word name : Text) (value : Option Text) → Names word name value None
      → passes (turn_fault s [] (at rows p x false) word) ≡ false
  unknown_fails rows p x word name value names = rw (no_subcommand x word, names.other, names.long, form.long name, names.is) refl

  module _ (rows : List Row) (p : Option (Text × List Text)) (x : Waiting) (word name : Text) (o : CommandOption) (n : ℕ) (le : n ≤ usize_max) (ok : Settles opts n p) where
    flag_with_value : (v : Text) → Names word name (Some v) (Some o) → (takes_value o) ≡ false → passes (turn_fault s [] (at rows p x false) word) ≡ false
    flag_with_value v names flag = rw (no_subcommand x word, names.other, names.long, form.long name, names.is, opt_rule-flag o flag) refl

    flag_pass : Names word name None (Some o) → (takes_value o) ≡ false → passes (turn_fault s [] (at rows p x false) word) ≡ true
    flag_pass names flag =
        rw (no_subcommand x word, names.other, names.long, form.long name, names.is, opt_rule-flag o flag, settle_passes n p rows le ok) refl

    flag_on : Names word name None (Some o) → (takes_value o) ≡ false
        → walked s.rules [] (at rows p x false) word ≡ at (used (flag_rule (name_of o)) [] (settled_rows s.rules p rows)) None idle false
    unfolding walked
    flag_on names flag = rw (no_subcommand x word, names.other, names.long, form.long name, names.is, opt_rule-flag o flag) refl

    attached_pass : (v : Text) → Names word name (Some v) (Some o) → (takes_value o) ≡ true → passes (turn_fault s [] (at rows p x false) word) ≡ true
    attached_pass v names valued =
        rw (no_subcommand x word, names.other, names.long, form.long name, names.is, opt_rule-valued o valued, settle_passes n p rows le ok) refl

    attached_on : (v : Text) → Names word name (Some v) (Some o) → (takes_value o) ≡ true
        → walked s.rules [] (at rows p x false) word ≡ at (used (valued_rule (name_of o)) (v ∷ []) (settled_rows s.rules p rows)) None idle false
    unfolding walked
    attached_on v names valued = rw (no_subcommand x word, names.other, names.long, form.long name, names.is, opt_rule-valued o valued) refl

    awaited_pass : Names word name None (Some o) → (takes_value o) ≡ true → passes (turn_fault s [] (at rows p x false) word) ≡ true
    awaited_pass names valued =
        rw (no_subcommand x word, names.other, names.long, form.long name, names.is, opt_rule-valued o valued, settle_passes n p rows le ok) refl

    awaited_on : Names word name None (Some o) → (takes_value o) ≡ true
        → walked s.rules [] (at rows p x false) word ≡ at (settled_rows s.rules p rows) (waiting_for o) (option (name_of o)) false
    unfolding walked
    awaited_on names valued = rw (no_subcommand x word, names.other, names.long, form.long name, names.is, opt_rule-valued o valued) refl

  -- ---- all the words

  or_false : (a b : Bool) → (a || b) ≡ false → (a ≡ false) × (b ≡ false)
  or_false true b e = absurd (true≢false e)
  or_false false b e = (refl, e)

  not_false : (b : Bool) → not b ≡ false → b ≡ true
  not_false true e = refl
  not_false false e = absurd (true≢false e)

  -- a word that begins with a hyphen and isn't short names an option, or is `--`
  not_short : (word : Text) → has_hyphen word ≡ true → is_short word ≡ false → bytes_eq word dashes ≡ false → long_of word ≡ None → ⊥
  not_short [] hyphen short other none = true≢false (sym hyphen)
  not_short (x ∷ []) hyphen short other none = true≢false (sym hyphen ∙ short)
  not_short (x ∷ y ∷ []) hyphen short other none =
      let second : (y == 45) ≡ true = not_false (y == 45) (rw hyphen at short) in
      true≢false (rw (hyphen, second) at other)
  not_short (x ∷ y ∷ z ∷ rest) hyphen short other none =
      let second : (y == 45) ≡ true = not_false (y == 45) (rw hyphen at short) in
      let bad = rw (hyphen, second) at none in
      absurd (cc)

  -- what follows the words, where nothing waits, and where an option does
  abbrev FreeAfter : List Text → Type 0
  FreeAfter rest = (n : ℕ) (rows : List Row) (p : Option (Text × List Text)) (x : Waiting) → Free x → has_short rest ≡ false
      → n + length rest ≤ usize_max → Settles opts n p → Ends (at rows p x false) rest (seen rows p) (reading opts rest None)

  abbrev AwaitingAfter : List Text → Type 0
  AwaitingAfter rest = (n : ℕ) (rows : List Row) (name : Text) (o : CommandOption) → option_named opts name ≡ Some o → (takes_value o) ≡ true → has_short rest ≡ false
      → n + length rest ≤ usize_max
      → Ends (at rows (waiting_for o) (option (name_of o)) false) rest (λ other. row_values other rows) (reading opts rest (Some (name_of o)))

  -- a plain word goes to the positional
  plain_step : (word : Text) (rest : List Text) (n : ℕ) (rows : List Row) (p : Option (Text × List Text)) (x : Waiting) → Free x → has_hyphen word ≡ false
      → has_short rest ≡ false → n + suc (length rest) ≤ usize_max → Settles opts n p → FreeAfter rest
      → Ends (at rows p x false) (word ∷ rest) (seen rows p) (with_use positional_id word (reading opts rest None))
  plain_step word rest n rows p x is plain short le ok after =
      let t = takes n rows p word (omega arith) ok in
      let fault : passes (turn_fault s [] (at rows p x false) word) ≡ true = rw (plain_fault rows p x word is plain, t.fault) refl in
      let goes : walked s.rules [] (at rows p x false) word ≡ at t.next_rows t.next positional false =
      plain_on rows p x word is plain ∙ ap (λ (h : Held). record { held = h; waiting = positional; position = 1; is_trailing = false; stopped = None }) t.is in
      uses_one _ (word ∷ rest) (seen rows p) (seen t.next_rows t.next) positional_id word (reading opts rest None) t.adds
      (goes_on _ (at t.next_rows t.next positional false) word rest (seen t.next_rows t.next) (reading opts rest None) fault goes
      (after (n + 1) t.next_rows t.next positional is_positional short (omega arith) t.ok))

  -- a word that names an option
  option_step : (word : Text) (rest : List Text) (n : ℕ) (rows : List Row) (p : Option (Text × List Text)) (x : Waiting) (name : Text)
      (value : Option Text) (found : Option CommandOption) → Names word name value found → has_short rest ≡ false → n + suc (length rest) ≤ usize_max → Settles opts n p
      → FreeAfter rest → AwaitingAfter rest → Ends (at rows p x false) (word ∷ rest) (seen rows p) (option_use found value (reading opts rest))
  option_step word rest n rows p x name value None names short le ok after waits =
      fails (at rows p x false) word rest (seen rows p) (unknown_fails rows p x word name value names)
  option_step word rest n rows p x name value (Some o) names short le ok after waits = go value (takes_value o) refl names
    where
      go : (value : Option Text) (b : Bool) → (takes_value o) ≡ b → Names word name value (Some o)
          → Ends (at rows p x false) (word ∷ rest) (seen rows p) (option_use (Some o) value (reading opts rest))
      go None true e names =
          rw e (goes_on (at rows p x false) (at (settled_rows s.rules p rows) (waiting_for o) (option (name_of o)) false) word rest (seen rows p)
          (reading opts rest (Some (name_of o))) (awaited_pass rows p x word name o n (omega arith) ok names e)
          (awaited_on rows p x word name o n (omega arith) ok names e) (waits n (settled_rows s.rules p rows) name o names.is e short (omega arith)))
      go None false e names =
          let next = used (flag_rule (name_of o)) [] (settled_rows s.rules p rows) in
          rw e (uses_one (at rows p x false) (word ∷ rest) (seen rows p) (seen next None) (name_of o) [] (reading opts rest None)
          (λ other. row_values-with_values (name_of o) other _ _ ([] ∷ []) (settled_rows s.rules p rows))
          (goes_on (at rows p x false) (at next None idle false) word rest (seen next None) (reading opts rest None)
          (flag_pass rows p x word name o n (omega arith) ok names e) (flag_on rows p x word name o n (omega arith) ok names e)
          (after n next None idle is_idle short (omega arith) nothing)))
      go (Some v) true e names =
          let next = used (valued_rule (name_of o)) (v ∷ []) (settled_rows s.rules p rows) in
          rw e (uses_one (at rows p x false) (word ∷ rest) (seen rows p) (seen next None) (name_of o) v (reading opts rest None)
          (λ other. row_values-with_values (name_of o) other _ _ (v ∷ []) (settled_rows s.rules p rows))
          (goes_on (at rows p x false) (at next None idle false) word rest (seen next None) (reading opts rest None)
          (attached_pass rows p x word name o n (omega arith) ok v names e) (attached_on rows p x word name o n (omega arith) ok v names e)
          (after n next None idle is_idle short (omega arith) nothing)))
      go (Some v) false e names =
          rw e (fails (at rows p x false) word rest (seen rows p) (flag_with_value rows p x word name o n (omega arith) ok v names e))

  free_step : (word : Text) (rest : List Text) (n : ℕ) (rows : List Row) (p : Option (Text × List Text)) (x : Waiting) → Free x
      → has_short (word ∷ rest) ≡ false → n + suc (length rest) ≤ usize_max → Settles opts n p → FreeAfter rest → AwaitingAfter rest
      → Ends (at rows p x false) (word ∷ rest) (seen rows p) (reading opts (word ∷ rest) None)
  free_step word rest n rows p x is short le ok after waits = first (bytes_eq word dashes) refl
    where
      third : (h : Bool) → has_hyphen word ≡ h → bytes_eq word dashes ≡ false → long_of word ≡ None → (is_short word ≡ false) × (has_short rest ≡ false)
          → Ends (at rows p x false) (word ∷ rest) (seen rows p) (reading opts (word ∷ rest) None)
      third true h d l both = absurd (not_short word h both.0 d l)
      third false h d l both = rw (d, l, h) (plain_step word rest n rows p x is h both.1 le ok after)

      second : (q : Option (Text × Option Text)) → long_of word ≡ q → bytes_eq word dashes ≡ false → (is_short word ≡ false) × (has_short rest ≡ false)
          → Ends (at rows p x false) (word ∷ rest) (seen rows p) (reading opts (word ∷ rest) None)
      second None l d both = third (has_hyphen word) refl d l both
      second (Some q) l d both =
          rw (d, l) (option_step word rest n rows p x q.0 q.1 (option_named opts q.0) (record { other = d; long = l; is = refl }) both.1 le ok after waits)

      first : (d : Bool) → bytes_eq word dashes ≡ d → Ends (at rows p x false) (word ∷ rest) (seen rows p) (reading opts (word ∷ rest) None)
      first true d =
          rw d (goes_on (at rows p x false) (at rows p x true) word rest (seen rows p) (Some (positionals rest)) (rw (dashes_pass rows p x word d) refl)
          (dashes_on rows p x word d) (trailing rest n rows p x (omega arith) ok))
      first false d = second (long_of word) refl d (or_false _ _ (rw d at short))

  awaiting_step : (word : Text) (rest : List Text) (n : ℕ) (rows : List Row) (name : Text) (o : CommandOption) → option_named opts name ≡ Some o → (takes_value o) ≡ true
      → has_short (word ∷ rest) ≡ false → n + suc (length rest) ≤ usize_max → FreeAfter rest
      → Ends (at rows (waiting_for o) (option (name_of o)) false) (word ∷ rest) (λ other. row_values other rows) (reading opts (word ∷ rest) (Some (name_of o)))
  awaiting_step word rest n rows name o named valued short le after = first (has_hyphen word) refl
    where
      third : (q : Option (Text × Option Text)) → long_of word ≡ q → bytes_eq word dashes ≡ false → has_hyphen word ≡ true
          → Ends (at rows (waiting_for o) (option (name_of o)) false) (word ∷ rest) (λ other. row_values other rows) None
      third None l d h = absurd (not_short word h (or_false _ _ (rw d at short)).0 d l)
      third (Some q) l d h =
          fails _ word rest _ (option_fails name o rows word q.0 q.1 (option_named opts q.0) named valued d l refl)

      second : (d : Bool) → bytes_eq word dashes ≡ d → has_hyphen word ≡ true
          → Ends (at rows (waiting_for o) (option (name_of o)) false) (word ∷ rest) (λ other. row_values other rows) None
      second true d h =
          goes_on _ (at rows (waiting_for o) (option (name_of o)) true) word rest _ None (rw (dashes_pass rows (waiting_for o) (option (name_of o)) word d) refl)
          (dashes_on rows (waiting_for o) (option (name_of o)) word d)
          (never_ends (at rows (waiting_for o) (option (name_of o)) true) rest _ (never rest name o rows (option (name_of o)) named valued))
      second false d h = third (long_of word) refl d h

      first : (h : Bool) → has_hyphen word ≡ h
          → Ends (at rows (waiting_for o) (option (name_of o)) false) (word ∷ rest) (λ other. row_values other rows) (reading opts (word ∷ rest) (Some (name_of o)))
      first true h = rw h (second (bytes_eq word dashes) refl h)
      first false h =
          let later : has_short rest ≡ false = (or_false _ _ (rw (no_hyphen word h).2 at short)).1 in
          let pending : Option (Text × List Text) = Some ((name_of o), word ∷ []) in
          let ok : Settles opts n pending = one_value name o word named valued in
          rw h (uses_one _ (word ∷ rest) (λ other. row_values other rows) (seen rows pending) (name_of o) word (reading opts rest None)
          (λ other. settle_adds n pending rows other ok)
          (goes_on _ (at rows pending idle false) word rest (seen rows pending) (reading opts rest None)
          (rw (value_pass name o rows word named valued h) refl) (value_on name o rows word named valued h)
          (after n rows pending idle is_idle later (omega arith) ok)))

  none_left : (n : ℕ) (rows : List Row) (name : Text) (o : CommandOption) → option_named opts name ≡ Some o → (takes_value o) ≡ true
      → Ends (at rows (waiting_for o) (option (name_of o)) false) [] (λ other. row_values other rows) None
  unfolding walk_fault
  none_left n rows name o named valued = record { all = missing_fault name o rows named valued; rows = tt }

  mutual
    pub free : (words : List Text) → FreeAfter words
    free [] n rows p x is short le ok = at_end n rows p x false (omega arith) ok
    free (word ∷ rest) n rows p x is short le ok = free_step word rest n rows p x is short le ok (free rest) (awaiting rest)

    pub awaiting : (words : List Text) → AwaitingAfter words
    awaiting [] n rows name o named valued short le = none_left n rows name o named valued
    awaiting (word ∷ rest) n rows name o named valued short le = awaiting_step word rest n rows name o named valued short le (free rest)
