-- The forms that begin a line are those by which its reading goes on.
use Rattle.std.proofs.Common.{◌≡◌, inl, inr, ⊎_elim, ℕ, zero, suc, true, false, List, [], ◌∷◌, ◌++◌, length, take, slice_get, Option, Some, None, Ok, Err, Result, refl, sym, ◌∙◌, ap, subst}
use Rattle.std.proofs.lemmas.Bool.{true≢false, false≢true}
use Rattle.std.proofs.lemmas.Option.{none-some, same_Some}
use Rattle.std.specs.Prelude.{◌↔◌, codes, map}
use Rattle.schema_model.specs.Schemas.{attribute_named}
use Rattle.lexer.specs.declared.token.TokenKind.{TokenKind}
use Rattle.lexer.specs.declared.token.TokenKind.TheVariants as token
use Rattle.lexer.specs.Tokens.{Mark}
use Rattle.schema_grammar.specs.declared.format.Format.TheVariants as format
use Rattle.schema_grammar.specs.declared.refusal.SchemaRefusal.{SchemaRefusal}
use Rattle.schema_grammar.specs.Words.{is_reserved, is_reserved_token}
use Rattle.proof_grammar.specs.Lines.{Line, certificate_line}
use Rattle.proof_grammar.specs.LineDiagnostics.{RuleForm, with_none, with_one, with_two, with_set, with_sets, TokenForm, token_form, token_forms, certificate_names, a_number, a_colon, an_arrow, an_empty, a_with, a_rule, a_word, AreLine, BeginLine, TakesNames, FormsWant}
use Rattle.proof_grammar.specs.Tokens.{is_with, rule_word}
use Rattle.proof_grammar.proofs.FormShapes.{heading, lhs, rhs, by, wide, narrow, ending, Shape, at_number, at_start, at_side, past, at_rule, at_with, Ends, comes_from, is_final, shape_may_end, runs, runs-append, takes_words, then_turn, shape_after, wanted_by}
use Rattle.proof_grammar.proofs.JudgedLines.{Judged, WrongAt}
use Rattle.proof_grammar.proofs.JudgedRules.{line_judged}
use Rattle.proof_grammar.proofs.LineLaws.{line_reads, marks_read}
use Rattle.proof_grammar.proofs.TokenLaws.{rest_at}
use Rattle.schema_grammar.specs.DiagnosticKinds.{DiagnosticKind}

-- ---- a token of each form, over names that are a rule of each form, `with` and one more
abbrev sample_rule : RuleForm → List ℕ
sample_rule with_none = codes "reflexivity"
sample_rule with_one = codes "complementation"
sample_rule with_two = codes "transitivity"
sample_rule with_set = codes "augmentation"
sample_rule with_sets = codes "maugmentation"

abbrev sample_of : TokenKind → List ℕ → Mark
sample_of k word = record { kind = k; column = 0; length = length word; word = word }

abbrev sample_mark : TokenForm → Mark
sample_mark a_number = sample_of (token.Number 0) (codes "a")
sample_mark a_colon = sample_of token.Colon (codes "a")
sample_mark an_arrow = sample_of token.Arrow (codes "a")
sample_mark an_empty = sample_of token.Empty (codes "a")
sample_mark a_with = sample_of token.Identifier (codes "with")
sample_mark (a_rule r) = sample_of token.Identifier (sample_rule r)
sample_mark a_word = sample_of token.Identifier (codes "a")

abbrev all_words : List (List ℕ)
all_words =
    codes "a" ∷ codes "with" ∷ codes "reflexivity" ∷ codes "complementation" ∷ codes "transitivity" ∷ codes "augmentation"
    ∷ codes "maugmentation" ∷ []

sample_form : (f : TokenForm)
    → token_form (certificate_names all_words) (sample_mark f).kind (sample_mark f).word ≡ f
unfolding is_with rule_word
sample_form (a_rule with_none) = refl
sample_form _ = refl

sample_forms : (fs : List TokenForm) → token_forms (certificate_names all_words) (map sample_mark fs) ≡ fs
sample_forms [] = refl
sample_forms (f ∷ fs) = (λ i. sample_form f i ∷ sample_forms fs i)

-- the word of a sample is declared and not reserved
sample_is_name : (f : TokenForm) → (index : ℕ) × (attribute_named all_words (sample_mark f).word ≡ Some index)
    × (is_reserved_token format.Plain (sample_mark f).kind (sample_mark f).word ≡ false)
unfolding is_reserved
sample_is_name (a_rule with_none) = (_, refl, refl)
sample_is_name _ = (_, refl, refl)

-- nothing is wrong with samples that lead to an end
sample_fine : (o : Option Shape) (fs : List TokenForm) (last : Shape) (p : ℕ) (n : DiagnosticKind) → runs o fs ≡ Some last
    → is_final last ≡ true
    → WrongAt (certificate_names all_words) None n (runs o (take p (token_forms (certificate_names all_words) (map sample_mark fs)))) (slice_get (map sample_mark fs) p) → ⊥
sample_fine o (f ∷ fs) last (suc p) n leads final h =
    sample_fine (then_turn o f) fs last p n leads final (subst (λ g. WrongAt (certificate_names all_words) None n
    (runs (then_turn o g) (take p (token_forms (certificate_names all_words) (map sample_mark fs)))) (slice_get (map sample_mark fs) p)) (sample_form f) h)
sample_fine None (f ∷ fs) last zero n leads final h = h
sample_fine (Some s) (f ∷ fs) last zero n leads final (inl (takes, (word, inl three))) =
    true≢false (sym three.1 ∙ (sample_is_name f).2)
sample_fine (Some s) (f ∷ fs) last zero n leads final (inl (takes, (word, inr five))) =
    none-some (sample_is_name f).0 (sym five.1 ∙ (sample_is_name f).1)
sample_fine (Some s) (f ∷ fs) last zero n leads final (inr six) =
    let next = comes_from (shape_after s f) fs last leads in
    none-some next.0 (sym six.1 ∙ ap (shape_after s) (sample_form f) ∙ next.1)
sample_fine None [] last p n leads final h = none-some last leads
sample_fine (Some s) [] last zero n leads final h =
    true≢false (sym final ∙ ap is_final (same_Some last s (sym leads)) ∙ h.2)
sample_fine (Some s) [] last (suc p) n leads final h =
    true≢false (sym final ∙ ap is_final (same_Some last s (sym leads)) ∙ h.2)

-- ---- lines
pub final_line : (fs : List TokenForm) (s : Shape) → runs (Some at_start) fs ≡ Some s → is_final s ≡ true → AreLine fs
final_line fs s leads final = by_cases (certificate_line all_words (rest_at 1 1 (map sample_mark fs))) refl
    (line_judged all_words 1 1 (map sample_mark fs) None)
  where
    by_cases : (r : Result Line SchemaRefusal) → certificate_line all_words (rest_at 1 1 (map sample_mark fs)) ≡ r
        → Judged at_start (certificate_names all_words) 1 1 (map sample_mark fs) None r → AreLine fs
    by_cases (Ok l) read judged =
        let reads = line_reads all_words (rest_at 1 1 (map sample_mark fs)) l read in
        record {
          names = all_words;
          marks = map sample_mark fs;
          line = l;
          same_forms = sample_forms fs;
          is_line = reads.is_line;
        }
    by_cases (Err e) read judged =
        absurd (⊎_elim (λ here. sample_fine (Some at_start) fs s judged.position _ leads final here.1)
        (λ flaw. none-some flaw.0 flaw.1) judged.stands)

pub line_ends : (fs : List TokenForm) → AreLine fs → Ends at_start fs
line_ends fs is =
    let read = marks_read is.names 1 1 is.marks is.line is.is_line in
    let judged = line_judged is.names 1 1 is.marks None in
    let ok : Judged at_start (certificate_names is.names) 1 1 is.marks None (Ok is.line) =
    subst (Judged at_start (certificate_names is.names) 1 1 is.marks None) read judged in
    subst (Ends at_start) is.same_forms ok.0

pub begins_from : (fs : List TokenForm) (s : Shape) → runs (Some at_start) fs ≡ Some s → BeginLine fs
begins_from fs s leads =
    let more = shape_may_end s in
    record {
      rest = more.0;
      line = final_line (fs ++ more.0) more.1.0
          (runs-append (Some at_start) fs more.0 ∙ ap (λ o. runs o more.0) leads ∙ more.1.1) more.1.2;
    }

-- forms that begin a line lead to a shape; where one form more begins it too, that leads on from
-- there
pub begins_to : (fs : List TokenForm) → BeginLine fs → (s : Shape) × (runs (Some at_start) fs ≡ Some s)
begins_to fs begins =
    let ends = line_ends (fs ++ begins.rest) begins.line in
    comes_from (runs (Some at_start) fs) begins.rest ends.0 (sym (runs-append (Some at_start) fs begins.rest) ∙ ends.1)

pub begins_on : (fs : List TokenForm) (f : TokenForm) → BeginLine (fs ++ f ∷ [])
    → (s : Shape) × (t : Shape) × (runs (Some at_start) fs ≡ Some s) × (shape_after s f ≡ Some t)
begins_on fs f begins =
    let on = begins_to (fs ++ f ∷ []) begins in
    let leads = sym (runs-append (Some at_start) fs (f ∷ [])) ∙ on.1 in
    let here = comes_from (runs (Some at_start) fs) (f ∷ []) on.0 leads in
    (here.0, on.0, here.1, sym (ap (λ o. then_turn o f) here.1) ∙ leads)

pub on_begins : (fs : List TokenForm) (f : TokenForm) (s t : Shape) → runs (Some at_start) fs ≡ Some s
    → shape_after s f ≡ Some t → BeginLine (fs ++ f ∷ [])
on_begins fs f s t leads on = begins_from (fs ++ f ∷ []) t
    (runs-append (Some at_start) fs (f ∷ []) ∙ ap (λ o. then_turn o f) leads ∙ on)

-- ---- words of a side
pub names_at : (fs : List TokenForm) (s : Shape) → runs (Some at_start) fs ≡ Some s
    → (takes_words s ≡ true) ↔ TakesNames fs
names_at fs (at_side k) leads = (λ takes. on_begins fs a_word (at_side k) (past true k) leads refl, λ names. refl)
names_at fs (past true k) leads = (λ takes. on_begins fs a_word (past true k) (past true k) leads refl, λ names. refl)
names_at fs s leads = (
  λ takes. absurd (false≢true takes),
  λ names.
      let on = begins_on fs a_word names in
      let same = same_Some s on.0 (sym leads ∙ on.2) in
      absurd (none-some on.1 (ap (λ t. shape_after t a_word) same ∙ on.3)),
)

-- ---- what is wanted
pub wants_from : (fs : List TokenForm) (s : Shape) → runs (Some at_start) fs ≡ Some s → FormsWant fs (wanted_by s)
wants_from fs (at_number a) leads = on_begins fs a_number (at_number a) _ leads refl
wants_from fs (at_side k) leads = on_begins fs an_empty (at_side k) _ leads refl
wants_from fs (past words heading) leads = on_begins fs a_colon (past words heading) _ leads refl
wants_from fs (past words lhs) leads = on_begins fs an_arrow (past words lhs) _ leads refl
wants_from fs (past words rhs) leads = on_begins fs a_colon (past words rhs) _ leads refl
wants_from fs (past words wide) leads = on_begins fs a_colon (past words wide) _ leads refl
wants_from fs (past words by) leads = final_line fs (past words by) leads refl
wants_from fs (past words narrow) leads = final_line fs (past words narrow) leads refl
wants_from fs (past words ending) leads = final_line fs (past words ending) leads refl
wants_from fs at_rule leads =
    (on_begins fs (a_rule with_none) at_rule _ leads refl, λ names. false≢true ((names_at fs at_rule leads).1 names))
wants_from fs (at_with k) leads =
    (on_begins fs a_with (at_with k) _ leads refl, λ names. false≢true ((names_at fs (at_with k) leads).1 names))
