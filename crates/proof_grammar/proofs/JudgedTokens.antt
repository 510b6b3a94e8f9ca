-- Each token of a line is read, or the line is refused there by its first diagnostic.
use Rattle.std.proofs.Common.{◌≡◌, ◌+◌, inl, inr, ℕ, zero, suc, Bool, true, false, cond, List, [], ◌∷◌, Option, Some, None, Ok, Err, Result, refl, sym, ◌∙◌, ap, subst, arith}
use Rattle.std.proofs.lemmas.Bool.{true≢false, false≢true, cond_both}
use Rattle.std.proofs.lemmas.Option.{none-some}
use Rattle.std.specs.Prelude.{codes, ok_or, option_map}
use Rattle.std.proofs.lemmas.Slice.Eq.{bytes_eq-Decides}
use Rattle.lexer.specs.declared.token.LexError.{LexError}
use Rattle.lexer.specs.declared.token.TokenKind.{TokenKind}
use Rattle.lexer.specs.declared.token.TokenKind.TheVariants as token
use Rattle.lexer.specs.Tokens.{Mark, is_colon}
use Rattle.schema_grammar.specs.declared.refusal.SchemaRefusal.{SchemaRefusal}
use Rattle.schema_grammar.specs.declared.refusal.What.{What}
use Rattle.schema_grammar.specs.declared.refusal.What.TheVariants as what
use Rattle.schema_grammar.specs.declared.symbol.Sign.{Sign}
use Rattle.schema_grammar.specs.Rests.{Rest, ◌>>=◌, take, take_from, refusal_of_token, number, arrow, arrow_in, refusal_at_end, number_in, unless}
use Rattle.schema_grammar.specs.Words.{is_word_token}
use Rattle.proof_grammar.specs.LineDiagnostics.{RuleForm, TokenForm, Names, token_form, word_form, a_with, a_rule, a_word}
use Rattle.proof_grammar.specs.Readers.{colon, with_word, rule_by}
use Rattle.proof_grammar.specs.Tokens.{is_with, named_by}
use Rattle.proof_grammar.proofs.FormShapes.{Part, lhs, rhs, After, first, Shape, at_number, at_side, past, at_rule, at_with, past_arrow, past_colon, shape_of_rule, past_number, shape_after, is_last, is_final, takes_words, wanted_after, wanted_by}
use Rattle.proof_grammar.proofs.JudgedLines.{form, IsRight, Judged, Wrong, goes_on, stuck_here, end_here, flaw_here}
use Rattle.schema_grammar.specs.DiagnosticKinds.{DiagnosticKind}

-- what is left of a line
abbrev pub left_at : ℕ → ℕ → List Mark → Option LexError → Rest
left_at line next_column ms stop = record { line = line; next_column = next_column; marks = ms; stop = stop }

-- a reading is judged as the same one with its steps in a row
pub in_row : {A B L : Type 0} (s : Shape) (names : Names) (line next_column : ℕ) (ms : List Mark)
    (stop : Option LexError) (m : Result A SchemaRefusal) (f : A → Result B SchemaRefusal)
    (g : B → Result L SchemaRefusal) → Judged s names line next_column ms stop (m >>= λ x. f x >>= g)
    → Judged s names line next_column ms stop ((m >>= f) >>= g)
in_row s names line next_column ms stop (Ok x) f g judged = judged
in_row s names line next_column ms stop (Err e) f g judged = judged

-- ---- words
-- what holds of each form of a word
pub word_forms : (P : TokenForm → Type 0) → ((r : RuleForm) → P (a_rule r)) → P a_with → P a_word
    → (o : Option RuleForm) (b : Bool) → P (word_form o b)
word_forms P rules keyword other (Some r) b = rules r
word_forms P rules keyword other None true = keyword
word_forms P rules keyword other None false = other

-- the next token is no word
abbrev pub NoWord : List Mark → Type 0
NoWord [] = Unit {0}
NoWord (m ∷ ms) = is_word_token m.kind ≡ false

pub not_word : (s : Shape) (names : Names) (m : Mark) → (takes_words s ≡ true → is_word_token m.kind ≡ false)
    → IsRight s names m
not_word s names m other n takes diagnoses = true≢false (sym diagnoses.0 ∙ other takes)

-- ---- readers of one token
-- a token that leads nowhere is refused, and after one that leads on the reading is judged from there
abbrev pub Reads : {L : Type 0} → Names → ℕ → Option LexError → What → Option Shape → Mark → List Mark
    → Result L SchemaRefusal → Type 0
Reads names line stop want None m ms r =
    r ≡ Err (refusal_of_token want m (left_at line (m.column + m.length) ms stop))
Reads names line stop want (Some t) m ms r = Judged t names line (m.column + m.length) ms stop r

-- where a token leads is reported by what is found in it
token_judged : {D L : Type 0} (s : Shape) (names : Names) (line next_column : ℕ) (ms : List Mark)
    (stop : Option LexError) (want : What) (found : Mark → D) (t : D → Option Shape)
    (read : D → Mark × Rest → Result L SchemaRefusal) → want ≡ wanted_by s → is_final s ≡ false
    → (takes_words s ≡ true → NoWord ms)
    → ((m : Mark) → (takes_words s ≡ true → is_word_token m.kind ≡ false) → shape_after s (form names m) ≡ t (found m))
    → ((d : D) (m : Mark) (more : List Mark) → Reads names line stop want (t d) m more
    (read d (m, left_at line (m.column + m.length) more stop)))
    → Judged s names line next_column ms stop (take_from want line next_column ms stop >>= λ u. read (found u.0) u)
token_judged {D} {L} s names line next_column [] None want found t read wants open_end other goes reads =
    end_here s names line next_column want open_end wants
token_judged {D} {L} s names line next_column [] (Some stop) want found t read wants open_end other goes reads =
    flaw_here s names line next_column stop
token_judged {D} {L} s names line next_column (m ∷ ms) stop want found t read wants open_end other goes reads =
    by_cases (t (found m)) _ (goes m other) (reads (found m) m ms)
  where
    by_cases : (o : Option Shape) (r : Result L SchemaRefusal) → shape_after s (form names m) ≡ o
        → Reads names line stop want o m ms r → Judged s names line next_column (m ∷ ms) stop r
    by_cases None r cannot is = subst (Judged s names line next_column (m ∷ ms) stop) (sym is)
        (stuck_here s names line next_column m ms stop want cannot (not_word s names m other) wants)
    by_cases (Some u) r on rest = goes_on s u names line next_column m ms stop r on (not_word s names m other) rest

-- what follows a token, from any column
abbrev pub Follows : {X L : Type 0} → Names → ℕ → Option LexError → (X → Shape)
    → (X × Rest → Result L SchemaRefusal) → Type 0
Follows {X} names line stop t f = (x : X) (next_column : ℕ) (ms : List Mark)
    → Judged (t x) names line next_column ms stop (f (x, left_at line next_column ms stop))

abbrev pub FollowsIf : {L : Type 0} → Names → ℕ → Option LexError → Shape → (Rest → Result L SchemaRefusal) → Type 0
FollowsIf names line stop t f = (next_column : ℕ) (ms : List Mark)
    → Judged t names line next_column ms stop (f (left_at line next_column ms stop))

-- a reader of a value
value_judged : {X L : Type 0} (s : Shape) (names : Names) (line next_column : ℕ) (ms : List Mark)
    (stop : Option LexError) (want : What) (found : Mark → Option X) (t : X → Shape)
    (f : X × Rest → Result L SchemaRefusal) → want ≡ wanted_by s → is_final s ≡ false
    → (takes_words s ≡ true → NoWord ms)
    → ((m : Mark) → (takes_words s ≡ true → is_word_token m.kind ≡ false) → shape_after s (form names m) ≡ option_map t (found m))
    → Follows names line stop t f → Judged s names line next_column ms stop
    ((take_from want line next_column ms stop >>= λ u. ok_or (found u.0) (refusal_of_token want u.0 u.1) >>= λ x. Ok (x, u.1)) >>= f)
value_judged {X} {L} s names line next_column ms stop want found t f wants open_end other goes follows =
    in_row s names line next_column ms stop (take_from want line next_column ms stop) _ f
    (token_judged s names line next_column ms stop want found (option_map t)
    (λ o u. (ok_or o (refusal_of_token want u.0 u.1) >>= λ x. Ok (x, u.1)) >>= f) wants open_end other goes
    (elim [ None ↦ λ m more. refl | Some x ↦ λ m more. follows x (m.column + m.length) more ]))

-- a reader that tests
test_judged : {L : Type 0} (s : Shape) (names : Names) (line next_column : ℕ) (ms : List Mark) (stop : Option LexError)
    (want : What) (test : Mark → Bool) (t : Shape) (f : Rest → Result L SchemaRefusal) → want ≡ wanted_by s
    → is_final s ≡ false → (takes_words s ≡ true → NoWord ms)
    → ((m : Mark) → (takes_words s ≡ true → is_word_token m.kind ≡ false)
    → shape_after s (form names m) ≡ cond (test m) (Some t) None)
    → FollowsIf names line stop t f → Judged s names line next_column ms stop
    ((take_from want line next_column ms stop >>= λ u. cond (test u.0) (Ok u.1) (Err (refusal_of_token want u.0 u.1))) >>= f)
test_judged s names line next_column ms stop want test t f wants open_end other goes follows =
    in_row s names line next_column ms stop (take_from want line next_column ms stop) _ f
    (token_judged s names line next_column ms stop want test (λ b. cond b (Some t) None)
    (λ b u. cond b (Ok u.1) (Err (refusal_of_token want u.0 u.1)) >>= f) wants open_end other goes
    (elim [ true ↦ λ m more. follows (m.column + m.length) more | false ↦ λ m more. refl ]))

-- ---- numbers, the words of the grammar, and what closes a part
number_goes : (names : Names) (a : After) (kd : TokenKind) (word : List ℕ)
    → shape_after (at_number a) (token_form names kd word) ≡ option_map (λ n. past_number a) (number_in kd)
number_goes names a (token.Number n) word = refl
number_goes names a token.Identifier word =
    word_forms (λ f. shape_after (at_number a) f ≡ None) (λ r. refl) refl refl _ _
number_goes names a _ word = refl

pub first_judged : {L : Type 0} (names : Names) (line next_column : ℕ) (ms : List Mark) (stop : Option LexError)
    (g : ℕ → Rest → Result L SchemaRefusal)
    → Follows names line stop (λ n. past_number first) (λ x. g x.0 x.1)
    → Judged (at_number first) names line next_column ms stop (take_from what.Number line next_column ms stop >>= λ t. ok_or
    (number_in t.0.kind) (refusal_of_token what.Number t.0 t.1) >>= λ n. g n t.1)
first_judged names line next_column ms stop g follows =
    token_judged (at_number first) names line next_column ms stop what.Number (λ m. number_in m.kind)
    (option_map (λ n. past_number first)) (λ o u. ok_or o (refusal_of_token what.Number u.0 u.1) >>= λ n. g n u.1) refl refl
    (λ e. absurd (false≢true e)) (λ m other. number_goes names first m.kind m.word)
    (elim [ None ↦ λ m more. refl | Some n ↦ λ m more. follows n (m.column + m.length) more ])

pub premise_judged : {L : Type 0} (a : After) (names : Names) (line next_column : ℕ) (ms : List Mark) (stop : Option LexError)
    (f : ℕ × Rest → Result L SchemaRefusal) → Follows names line stop (λ n. past_number a) f
    → Judged (at_number a) names line next_column ms stop (number (left_at line next_column ms stop) >>= f)
unfolding number take
premise_judged a names line next_column ms stop f follows =
    value_judged (at_number a) names line next_column ms stop what.Number (λ m. number_in m.kind)
    (λ n. past_number a) f refl refl (λ e. absurd (false≢true e)) (λ m other. number_goes names a m.kind m.word) follows

with_goes : (names : Names) → names.rules (codes "with") ≡ None → (k : Part) (kd : TokenKind) (word : List ℕ)
    → shape_after (at_with k) (token_form names kd word) ≡ cond (is_with kd word) (Some (at_side k)) None
unfolding is_with
with_goes names no_rule k token.Identifier word =
    by_cases (names.rules word) (is_with token.Identifier word) refl refl
  where
    by_cases : (o : Option RuleForm) (b : Bool) → names.rules word ≡ o → is_with token.Identifier word ≡ b
        → shape_after (at_with k) (word_form o b) ≡ cond b (Some (at_side k)) None
    by_cases (Some r) true rule is =
        let same : word ≡ codes "with" = (bytes_eq-Decides word (codes "with")).0 is in
        absurd (none-some r (sym no_rule ∙ sym (ap names.rules same) ∙ rule))
    by_cases None true rule is = refl
    by_cases (Some r) false rule is = refl
    by_cases None false rule is = refl
with_goes names no_rule k _ word = refl

pub with_judged : {L : Type 0} (k : Part) (names : Names) (line next_column : ℕ) (ms : List Mark)
    (stop : Option LexError) (f : Rest → Result L SchemaRefusal) → names.rules (codes "with") ≡ None
    → FollowsIf names line stop (at_side k) f
    → Judged (at_with k) names line next_column ms stop (with_word (left_at line next_column ms stop) >>= f)
unfolding with_word take
with_judged k names line next_column ms stop f no_rule follows =
    test_judged (at_with k) names line next_column ms stop what.With (λ m. is_with m.kind m.word) (at_side k) f refl refl
    (λ e. absurd (false≢true e)) (λ m other. with_goes names no_rule k m.kind m.word) follows

-- the names of rules, each of its form
abbrev pub AreNames : {R : Type 0} → (List ℕ → Option R) → (R → RuleForm) → Names → Type 0
AreNames named form_of names = (word : List ℕ) → names.rules word ≡ option_map form_of (named word)

rule_goes : {R : Type 0} (named : List ℕ → Option R) (form_of : R → RuleForm) (names : Names)
    → AreNames named form_of names → (kd : TokenKind) (word : List ℕ)
    → shape_after at_rule (token_form names kd word) ≡ option_map (λ r. shape_of_rule (form_of r)) (named_by named kd word)
unfolding named_by
rule_goes {R} named form_of names same token.Identifier word =
    ap (λ o. shape_after at_rule (word_form o (is_with token.Identifier word))) (same word)
    ∙ by_cases (named word) (is_with token.Identifier word)
  where
    by_cases : (o : Option R) (b : Bool) → shape_after at_rule (word_form (option_map form_of o) b)
        ≡ option_map (λ r. shape_of_rule (form_of r)) o
    by_cases (Some r) b = refl
    by_cases None true = refl
    by_cases None false = refl
rule_goes named form_of names same _ word = refl

pub rule_judged : {R L : Type 0} (named : List ℕ → Option R) (form_of : R → RuleForm) (names : Names)
    (line next_column : ℕ) (ms : List Mark) (stop : Option LexError) (f : R × Rest → Result L SchemaRefusal)
    → AreNames named form_of names → Follows names line stop (λ r. shape_of_rule (form_of r)) f
    → Judged at_rule names line next_column ms stop (rule_by named (left_at line next_column ms stop) >>= f)
unfolding rule_by take
rule_judged named form_of names line next_column ms stop f same follows =
    value_judged at_rule names line next_column ms stop what.Rule (λ m. named_by named m.kind m.word)
    (λ r. shape_of_rule (form_of r)) f refl refl (λ e. absurd (false≢true e))
    (λ m other. rule_goes named form_of names same m.kind m.word) follows

arrow_goes : (names : Names) (words : Bool) (kd : TokenKind) (word : List ℕ) → (words ≡ true → is_word_token kd ≡ false)
    → shape_after (past words lhs) (token_form names kd word) ≡ option_map (λ a. at_side rhs) (arrow_in kd)
arrow_goes names true token.Identifier word other = absurd (true≢false (other refl))
arrow_goes names true token.Quoted word other = absurd (true≢false (other refl))
arrow_goes names false token.Quoted word other = refl
arrow_goes names false token.Identifier word other =
    word_forms (λ f. shape_after (past false lhs) f ≡ None) (λ r. refl) refl refl _ _
arrow_goes names words _ word other = refl

pub arrow_judged : {L : Type 0} (words : Bool) (names : Names) (line next_column : ℕ) (ms : List Mark) (stop : Option LexError)
    (f : Sign × Rest → Result L SchemaRefusal) → (words ≡ true → NoWord ms)
    → Follows names line stop (λ a. at_side rhs) f
    → Judged (past words lhs) names line next_column ms stop (arrow (left_at line next_column ms stop) >>= f)
unfolding arrow take
arrow_judged words names line next_column ms stop f none follows =
    value_judged (past words lhs) names line next_column ms stop what.Arrow (λ m. arrow_in m.kind) (λ a. at_side rhs) f
    refl refl none (λ m other. arrow_goes names words m.kind m.word other) follows

-- a part after which no arrow comes
closing_goes : (names : Names) (words : Bool) (k : Part) (o : Option Shape) (kd : TokenKind) (word : List ℕ) → past_colon k ≡ o
    → past_arrow k ≡ None → (words ≡ true → is_word_token kd ≡ false)
    → shape_after (past words k) (token_form names kd word) ≡ cond (is_colon kd) o None
closing_goes names words k o token.Colon word on none other = on
closing_goes names words k o token.Arrow word on none other = none
closing_goes names words k o token.DoubleArrow word on none other = none
closing_goes names true k o token.Identifier word on none other = absurd (true≢false (other refl))
closing_goes names true k o token.Quoted word on none other = absurd (true≢false (other refl))
closing_goes names false k o token.Quoted word on none other = refl
closing_goes names false k o token.Identifier word on none other =
    word_forms (λ f. shape_after (past false k) f ≡ None) (λ r. refl) refl refl _ _
closing_goes names words k o _ word on none other = refl

-- a part of a line after which a colon comes, and no arrow; t is the shape after the colon
abbrev pub IsBeforeColon : Part → Shape → Type 0
IsBeforeColon k t = (past_colon k ≡ Some t) × (past_arrow k ≡ None) × (what.Colon ≡ wanted_after k) × (is_last k ≡ false)

pub colon_judged : {L : Type 0} (words : Bool) (k : Part) (t : Shape) (names : Names) (line next_column : ℕ) (ms : List Mark)
    (stop : Option LexError) (f : Rest → Result L SchemaRefusal) → IsBeforeColon k t → (words ≡ true → NoWord ms)
    → FollowsIf names line stop t f
    → Judged (past words k) names line next_column ms stop (colon (left_at line next_column ms stop) >>= f)
unfolding colon take
colon_judged words k t names line next_column ms stop f is none follows =
    test_judged (past words k) names line next_column ms stop what.Colon (λ m. is_colon m.kind) t f is.2 is.3 none
    (λ m other. closing_goes names words k (Some t) m.kind m.word is.0 is.1 other) follows

-- a part after which the line ends
abbrev pub IsBeforeEnd : Part → Type 0
IsBeforeEnd k = (past_colon k ≡ None) × (past_arrow k ≡ None) × (what.LineEnd ≡ wanted_after k) × (is_last k ≡ true)

pub end_judged : {L : Type 0} (words : Bool) (k : Part) (names : Names) (line next_column : ℕ) (ms : List Mark)
    (stop : Option LexError) (l : L) → IsBeforeEnd k → (words ≡ true → NoWord ms)
    → Judged (past words k) names line next_column ms stop (unless (refusal_at_end (left_at line next_column ms stop)) l)
unfolding refusal_at_end
end_judged words k names line next_column [] None l is none = ((past words k, refl, is.3), refl, fine)
  where
    fine : (p : ℕ) (n : DiagnosticKind) → Wrong (past words k) names [] None p n → ⊥
    fine zero n (inl here) = true≢false (sym is.3 ∙ here.1.2)
    fine (suc p) n (inl here) = absurd (omega (arith, here.0))
    fine p n (inr flaw) = none-some flaw.0 flaw.1
end_judged words k names line next_column [] (Some stop) l is none = flaw_here (past words k) names line next_column stop
end_judged words k names line next_column (m ∷ ms) stop l is none =
    stuck_here (past words k) names line next_column m ms stop what.LineEnd
    (closing_goes names words k None m.kind m.word is.0 is.1 none
    ∙ cond_both (is_colon m.kind) None None (λ o. o ≡ None) (λ e. refl) (λ e. refl))
    (not_word (past words k) names m none) is.2
