-- A side is read, or the line is refused there by its first diagnostic.
use Rattle.std.proofs.Common.{◌≡◌, ◌+◌, inl, inr, ⊎_elim, ℕ, Bool, true, false, cond, List, [], ◌∷◌, Option, Some, None, Ok, Err, Result, refl, sym, ◌∙◌, ap, arith}
use Rattle.std.proofs.lemmas.Bool.{true≢false, false≢true}
use Rattle.std.proofs.lemmas.Option.{none-some}
use Rattle.attr_sets.specs.Attributes.{Attributes, only, none, union}
use Rattle.schema_model.specs.Schemas.{attribute_named}
use Rattle.lexer.specs.declared.token.LexError.{LexError}
use Rattle.lexer.specs.declared.token.TokenKind.{TokenKind}
use Rattle.lexer.specs.declared.token.TokenKind.TheVariants as token
use Rattle.lexer.specs.Tokens.{Mark}
use Rattle.schema_grammar.specs.declared.format.Format.TheVariants as format
use Rattle.schema_grammar.specs.declared.refusal.SchemaRefusal.{SchemaRefusal}
use Rattle.schema_grammar.specs.declared.refusal.SchemaRefusalKind.TheVariants as kind
use Rattle.schema_grammar.specs.declared.refusal.What.TheVariants as what
use Rattle.schema_grammar.specs.Refusals.{at, refusal}
use Rattle.schema_grammar.specs.Rests.{Rest, ◌>>=◌, attribute_of_word, take, words, words_from, side, side_from}
use Rattle.schema_grammar.specs.Words.{is_word_token, is_reserved_token, look_up, known_attribute}
use Rattle.proof_grammar.specs.LineDiagnostics.{RuleForm, Names, token_form, word_form}
use Rattle.proof_grammar.proofs.FormShapes.{Part, Shape, at_side, past, shape_after, takes_words}
use Rattle.proof_grammar.proofs.JudgedLines.{Judged, first_here, goes_on, stuck_here, end_here, flaw_here}
use Rattle.proof_grammar.proofs.JudgedTokens.{left_at, in_row, word_forms, NoWord, not_word}
use Rattle.schema_grammar.specs.DiagnosticKinds.{number_of}

-- where each word leads, a quoted name leads
word_leads : (names : Names) (s t : Shape) → ((o : Option RuleForm) (b : Bool) → shape_after s (word_form o b) ≡ Some t)
    → (kd : TokenKind) (word : List ℕ) → is_word_token kd ≡ true → shape_after s (token_form names kd word) ≡ Some t
word_leads names s t stays token.Identifier word is = stays _ _
word_leads names s t stays token.Quoted word is = stays None false
word_leads names s t stays kd word is = cc

word_judged : {L : Type 0} (s : Shape) (k : Part) (names : Names) (line next_column : ℕ) (m : Mark) (ms : List Mark)
    (stop : Option LexError) (g : ℕ → Result L SchemaRefusal) → is_word_token m.kind ≡ true → takes_words s ≡ true
    → ((o : Option RuleForm) (b : Bool) → shape_after s (word_form o b) ≡ Some (past true k))
    → ((a : ℕ) → Judged (past true k) names line (m.column + m.length) ms stop (g a))
    → Judged s names line next_column (m ∷ ms) stop (attribute_of_word names.attributes line m >>= g)
unfolding look_up
word_judged s k names line next_column m ms stop g word takes stays rest =
    by_cases (is_reserved_token format.Plain m.kind m.word) (attribute_named names.attributes m.word) refl refl
  where
    by_cases : (b : Bool) (o : Option ℕ) → is_reserved_token format.Plain m.kind m.word ≡ b → attribute_named names.attributes m.word ≡ o
        → Judged s names line next_column (m ∷ ms) stop
        (at line m.column m.length (cond b (Err kind.ReservedName) (known_attribute o)) >>= g)
    by_cases true o reserved named =
        first_here s names line next_column (m ∷ ms) stop (refusal line m.column m.length kind.ReservedName)
        (inl (omega arith, inl (takes, (word, inl (refl, reserved))))) tt refl
        (λ n wrong. ⊎_elim (λ here. ⊎_elim (λ c. ⊎_elim (λ three. omega (arith, ap number_of three.0))
        (λ five. omega (arith, ap number_of five.0))
        c.1.1) (λ six. omega (arith, ap number_of six.0)) here.1) (λ flaw. absurd (omega (arith, flaw.2))) wrong)
    by_cases false None not_reserved named =
        first_here s names line next_column (m ∷ ms) stop (refusal line m.column m.length kind.UnknownName)
        (inl (omega arith, inl (takes, (word, inr (refl, named))))) tt refl
        (λ n wrong. ⊎_elim (λ here. ⊎_elim (λ c. ⊎_elim (λ three. absurd (true≢false (sym three.1 ∙ not_reserved)))
        (λ five. omega (arith, ap number_of five.0)) c.1.1) (λ six. omega (arith, ap number_of six.0)) here.1)
        (λ flaw. absurd (omega (arith, flaw.2))) wrong)
    by_cases false (Some a) not_reserved named =
        goes_on s (past true k) names line next_column m ms stop (g a)
        (word_leads names s (past true k) stays m.kind m.word word)
        (λ n on diagnoses. ⊎_elim (λ three. true≢false (sym three.1 ∙ not_reserved))
        (λ five. none-some a (sym five.1 ∙ named)) diagnoses.1) (rest a)

-- what follows a side, from any column
abbrev pub FollowsSide : {L : Type 0} → Part → Names → ℕ → Option LexError → (Attributes × Rest → Result L SchemaRefusal)
    → Type 0
FollowsSide k names line stop f =
    (x : Attributes) (words : Bool) (next_column : ℕ) (ms : List Mark) → (words ≡ true → NoWord ms)
    → Judged (past words k) names line next_column ms stop (f (x, left_at line next_column ms stop))

words_judged : {L : Type 0} (k : Part) (names : Names) (line : ℕ) (x : Attributes) (next_column : ℕ) (ms : List Mark)
    (stop : Option LexError) (f : Attributes × Rest → Result L SchemaRefusal) → FollowsSide k names line stop f
    → Judged (past true k) names line next_column ms stop (words_from names.attributes line x next_column ms stop >>= f)
unfolding words_from
words_judged k names line x next_column [] stop f follows = follows x true next_column [] (λ e. tt)
words_judged k names line x next_column (m ∷ ms) stop f follows =
    by_cases (is_word_token m.kind) refl (λ a. words_judged k names line (union x (only a))
    (m.column + m.length) ms stop f follows)
  where
    by_cases : (b : Bool) → is_word_token m.kind ≡ b
        → ((a : ℕ) → Judged (past true k) names line (m.column + m.length) ms stop
        (words_from names.attributes line (union x (only a)) (m.column + m.length) ms stop >>= f))
        → Judged (past true k) names line next_column (m ∷ ms) stop
        (cond b (attribute_of_word names.attributes line m >>= λ a. words_from names.attributes line (union x (only a))
        (m.column + m.length) ms stop) (Ok (x, left_at line next_column (m ∷ ms) stop)) >>= f)
    by_cases true is rest =
        in_row (past true k) names line next_column (m ∷ ms) stop (attribute_of_word names.attributes line m) _ f
        (word_judged (past true k) k names line next_column m ms stop _ is refl
        (word_forms (λ t. shape_after (past true k) t ≡ Some (past true k)) (λ r. refl) refl refl) rest)
    by_cases false is rest = follows x true next_column (m ∷ ms) (λ e. is)

abbrev of_kind : Mark → TokenKind → Mark
of_kind m kd = record m { kind = kd }

pub side_judged : {L : Type 0} (k : Part) (names : Names) (line next_column : ℕ) (ms : List Mark) (stop : Option LexError)
    (f : Attributes × Rest → Result L SchemaRefusal) → FollowsSide k names line stop f
    → Judged (at_side k) names line next_column ms stop (side names.attributes (left_at line next_column ms stop) >>= f)
unfolding side take
side_judged k names line next_column [] None f follows = end_here (at_side k) names line next_column what.Side refl refl
side_judged k names line next_column [] (Some stop) f follows = flaw_here (at_side k) names line next_column stop
side_judged k names line next_column (m ∷ ms) stop f follows = by_cases m.kind
  where
    word : (kd : TokenKind) → is_word_token kd ≡ true → Judged (at_side k) names line next_column (of_kind m kd ∷ ms) stop
        ((attribute_of_word names.attributes line (of_kind m kd) >>= λ a. words names.attributes (only a) (left_at line (m.column + m.length) ms stop)) >>= f)
    word kd is =
        in_row (at_side k) names line next_column (of_kind m kd ∷ ms) stop (attribute_of_word names.attributes line (of_kind m kd)) _ f
        (word_judged (at_side k) k names line next_column (of_kind m kd) ms stop _ is refl
        (word_forms (λ t. shape_after (at_side k) t ≡ Some (past true k)) (λ r. refl) refl refl)
        (λ a. words_judged k names line (only a) (m.column + m.length) ms stop f follows))

    by_cases : (kd : TokenKind) → Judged (at_side k) names line next_column (of_kind m kd ∷ ms) stop
        (side_from names.attributes (of_kind m kd) (left_at line (m.column + m.length) ms stop) kd >>= f)
    by_cases token.Identifier = word token.Identifier refl
    by_cases token.Quoted = word token.Quoted refl
    by_cases token.Empty =
        goes_on (at_side k) (past false k) names line next_column (of_kind m token.Empty) ms stop _ refl
        (not_word (at_side k) names (of_kind m token.Empty) (λ e. refl))
        (follows none false (m.column + m.length) ms (λ e. absurd (false≢true e)))
    by_cases kd = stuck_here (at_side k) names line next_column (of_kind m kd) ms stop what.Side refl
        (not_word (at_side k) names (of_kind m kd) (λ e. refl)) refl
