-- How far a dependency is read, by the kinds of its tokens.
use Rattle.std.proofs.Common.{◌≡◌, ◌≤◌, ◌+◌, ◌⊎◌, inl, inr, ℕ, Bool, true, false, cond, List, [], ◌∷◌, ◌++◌, Option, Some, None, Ok, Err, Result, refl, sym, ◌∙◌, ap, subst, arith}
use Rattle.dep_model.specs.Dependencies.{Dependency}
use Rattle.schema_model.specs.Schemas.{attribute_named}
use Rattle.lexer.specs.declared.token.TokenKind.{TokenKind}
use Rattle.lexer.specs.declared.token.TokenKind.TheVariants as token
use Rattle.lexer.specs.Tokens.{Mark}
use Rattle.schema_grammar.specs.declared.refusal.SchemaRefusalKind.{SchemaRefusalKind}
use Rattle.schema_grammar.specs.declared.refusal.SchemaRefusalKind.TheVariants as kind
use Rattle.schema_grammar.specs.declared.symbol.Sign.TheVariants as sign
use Rattle.schema_grammar.specs.declared.symbol.Symbol.TheVariants as symbol
use Rattle.schema_grammar.specs.declared.format.Format.{Format}
use Rattle.schema_grammar.specs.declared.format.Format.TheVariants as format
use Rattle.schema_grammar.specs.declared.refusal.What.{What}
use Rattle.schema_grammar.specs.declared.refusal.What.TheVariants as what
use Rattle.schema_grammar.specs.declared.symbol.Symbol.{Symbol}
use Rattle.schema_grammar.specs.DiagnosticKinds.{DiagnosticKind, expected, number_of, diagnostic_kind}
use Rattle.schema_grammar.specs.Diagnostics.{IsLine, BeginsLine, Wants, Carries, DiagnosesOfWord, kinds}
use Rattle.schema_grammar.specs.Grammar.{Reached, start, left, left_empty, after_sign, right, right_empty, advance, finish_dependency}
use Rattle.schema_grammar.specs.Reading.{step, follow}
use Rattle.schema_grammar.specs.Refusals.{at, expect}
use Rattle.schema_grammar.specs.Words.{is_word_token, is_reserved, is_reserved_token, look_up, known_attribute}
use Rattle.schema_grammar.specs.Rests.{◌>>=◌}
use Rattle.schema_grammar.proofs.GoalLaws.{dependency-law}
use Rattle.schema_grammar.proofs.KindLemmas.{same_number}

-- how far a dependency is read, but for its sets
pub data Shape : Type 0 where
  at_start : Shape
  in_left : Shape
  past_empty : Shape
  past_arrow : Shape
  in_right : Shape
  past_end : Shape

abbrev pub shape_of : Reached → Shape
shape_of start = at_start
shape_of (left x) = in_left
shape_of left_empty = past_empty
shape_of (after_sign s x) = past_arrow
shape_of (right s x y) = in_right
shape_of (right_empty s x) = past_end

-- where a token of a kind leads
abbrev pub advance_shape : Shape → TokenKind → Option Shape
advance_shape at_start token.Identifier = Some in_left
advance_shape at_start token.Quoted = Some in_left
advance_shape at_start token.Empty = Some past_empty
advance_shape in_left token.Identifier = Some in_left
advance_shape in_left token.Quoted = Some in_left
advance_shape in_left token.Arrow = Some past_arrow
advance_shape in_left token.DoubleArrow = Some past_arrow
advance_shape past_empty token.Arrow = Some past_arrow
advance_shape past_empty token.DoubleArrow = Some past_arrow
advance_shape past_arrow token.Identifier = Some in_right
advance_shape past_arrow token.Quoted = Some in_right
advance_shape past_arrow token.Empty = Some past_end
advance_shape in_right token.Identifier = Some in_right
advance_shape in_right token.Quoted = Some in_right
advance_shape s k = None

abbrev pub is_final : Shape → Bool
is_final in_right = true
is_final past_end = true
is_final s = false

-- what is wanted there
abbrev pub wanted_by : Shape → What
wanted_by at_start = what.Side
wanted_by in_left = what.Arrow
wanted_by past_empty = what.Arrow
wanted_by past_arrow = what.Side
wanted_by s = what.LineEnd

abbrev pub bind : Option Shape → (Shape → Option Shape) → Option Shape
bind None f = None
bind (Some s) f = f s

abbrev pub runs : Shape → List TokenKind → Option Shape
runs s [] = Some s
runs s (k ∷ ks) = bind (advance_shape s k) (λ t. runs t ks)

-- what a token is to the grammar, where a word names this attribute
abbrev symbol_at : ℕ → TokenKind → Symbol
symbol_at a token.Identifier = symbol.Attribute a
symbol_at a token.Quoted = symbol.Attribute a
symbol_at a token.Arrow = symbol.Arrow sign.Functional
symbol_at a token.DoubleArrow = symbol.Arrow sign.Multivalued
symbol_at a token.Empty = symbol.Empty
symbol_at a k = symbol.Other

-- a turn is one of the shapes, and what the grammar gives in its place is what is wanted
abbrev Turns : Reached → TokenKind → Result Reached What → Type 0
Turns r k (Ok next) = advance_shape (shape_of r) k ≡ Some (shape_of next)
Turns r k (Err w) = (advance_shape (shape_of r) k ≡ None) × (w ≡ wanted_by (shape_of r))

advance-Turns : (r : Reached) (k : TokenKind) (a : ℕ) → Turns r k (advance r (symbol_at a k))
unfolding advance
advance-Turns start token.Identifier a = refl
advance-Turns start token.Quoted a = refl
advance-Turns start token.Empty a = refl
advance-Turns (left x) token.Identifier a = refl
advance-Turns (left x) token.Quoted a = refl
advance-Turns (left x) token.Arrow a = refl
advance-Turns (left x) token.DoubleArrow a = refl
advance-Turns left_empty token.Arrow a = refl
advance-Turns left_empty token.DoubleArrow a = refl
advance-Turns (after_sign s x) token.Identifier a = refl
advance-Turns (after_sign s x) token.Quoted a = refl
advance-Turns (after_sign s x) token.Empty a = refl
advance-Turns (right s x y) token.Identifier a = refl
advance-Turns (right s x y) token.Quoted a = refl
advance-Turns r k a = (refl, refl)

-- where a side goes on, no word is stuck
pub stuck_first : (k : TokenKind) → advance_shape past_arrow k ≡ None → is_word_token k ≡ false
stuck_first token.Identifier e = cc
stuck_first token.Quoted e = cc
stuck_first k e = refl

pub stuck_later : (k : TokenKind) → advance_shape in_right k ≡ None → is_word_token k ≡ false
stuck_later token.Identifier e = cc
stuck_later token.Quoted e = cc
stuck_later k e = refl

-- what a step gives: where it leads, or the diagnostic
abbrev pub StepFits : Format → List (List ℕ) → Reached → Mark → Result Reached SchemaRefusalKind → Type 0
StepFits f declared r m (Ok next) =
    (advance_shape (shape_of r) m.kind ≡ Some (shape_of next)) × ((n : DiagnosticKind) → DiagnosesOfWord f declared m n → ⊥)
StepFits f declared r m (Err why) =
    (DiagnosesOfWord f declared m (diagnostic_kind why) ⊎
    ((diagnostic_kind why ≡ expected) × (advance_shape (shape_of r) m.kind ≡ None)))
    × ((n : DiagnosticKind) → DiagnosesOfWord f declared m n → number_of (diagnostic_kind why) ≤ number_of n) × (number_of (diagnostic_kind why) ≤ number_of expected)
    × Carries (λ w. w ≡ wanted_by (shape_of r)) why

advance_fits : (f : Format) (declared : List (List ℕ)) (r : Reached) (m : Mark) (t : Result Reached What)
    → Turns r m.kind t
    → ((n : DiagnosticKind) → DiagnosesOfWord f declared m n → ⊥) → StepFits f declared r m (expect t)
advance_fits f declared r m (Ok next) turned none = (turned, none)
advance_fits f declared r m (Err w) turned none =
    (inr (refl, turned.0), (λ n diagnostic. absurd (none n diagnostic)), omega arith, turned.1)

pub step_fits : (f : Format) (declared : List (List ℕ)) (r : Reached) (m : Mark) → StepFits f declared r m (step f declared r m.kind m.word)
unfolding step look_up
step_fits f declared r m = by_cases m.kind
  where
    word : (k : TokenKind) → is_word_token k ≡ true → ((a : ℕ) → Turns r k (advance r (symbol.Attribute a)))
        → (b : Bool) (o : Option ℕ) → is_reserved_token f k m.word ≡ b → attribute_named declared m.word ≡ o
        → StepFits f declared r (record m { kind = k })
        (cond b (Err kind.ReservedName) (known_attribute o) >>= (λ a. Ok (symbol.Attribute a))
        >>= (λ s. expect (advance r s)))
    word k is turns true o reserved lookup =
        (inl (is, inl (refl, reserved)), (λ n diagnostic. grind (arith, same_number)), omega arith, tt)
    word k is turns false None not_reserved lookup =
        (inl (is, inr (refl, lookup)), (λ n diagnostic. grind (arith, same_number)), omega arith, tt)
    word k is turns false (Some a) not_reserved lookup =
        advance_fits f declared r (record m { kind = k }) _ (turns a)
        (λ n diagnostic. grind arith)

    by_cases : (k : TokenKind) → StepFits f declared r (record m { kind = k }) (step f declared r k m.word)
    by_cases token.Identifier = word token.Identifier refl (advance-Turns r token.Identifier) (is_reserved_token f token.Identifier m.word)
        (attribute_named declared m.word) refl refl
    by_cases token.Quoted = word token.Quoted refl (advance-Turns r token.Quoted) (is_reserved_token f token.Quoted m.word)
        (attribute_named declared m.word) refl refl
    by_cases k =
        advance_fits f declared r (record m { kind = k }) _ (advance-Turns r k 0)
        (λ n diagnostic. let is = diagnostic.0 in cc)

-- whether the line may end
abbrev pub EndFits : Reached → Result Dependency What → Type 0
EndFits r (Ok d) = is_final (shape_of r) ≡ true
EndFits r (Err w) = (is_final (shape_of r) ≡ false) × (w ≡ wanted_by (shape_of r))

pub end_fits : (r : Reached) → EndFits r (finish_dependency r)
unfolding finish_dependency
end_fits (right s x y) = refl
end_fits (right_empty s x) = refl
end_fits r = (refl, refl)

-- tokens that lead to an end of the line
pub record Ends (s : Shape) (ks : List TokenKind) : Type 0 where
  pub last : Shape
  pub leads : runs s ks ≡ Some last
  pub final : is_final last ≡ true

follow_runs : (f : Format) (declared : List (List ℕ)) (line : ℕ) (r : Reached) (from : ℕ) (ms : List Mark) (d : Dependency)
    → follow f declared line r from ms None ≡ Ok d → Ends (shape_of r) (kinds ms)
unfolding follow
follow_runs f declared line r from [] d e = by_cases (finish_dependency r) (end_fits r) e
  where
    by_cases : (o : Result Dependency What) → EndFits r o → at line from 0 (expect o) ≡ Ok d → Ends (shape_of r) []
    by_cases (Ok dep) final e = record { last = shape_of r; leads = refl; final = final }
    by_cases (Err what) final e = cc
follow_runs f declared line r from (m ∷ ms) d e =
    by_cases (step f declared r m.kind m.word) (step_fits f declared r m) (λ next h. follow_runs f declared line next (m.column + m.length) ms d h) e
  where
    by_cases : (o : Result Reached SchemaRefusalKind) → StepFits f declared r m o → ((next : Reached) → follow f declared line next (m.column + m.length) ms None ≡ Ok d → Ends (shape_of next) (kinds ms))
        → (at line m.column m.length o >>= (λ next. follow f declared line next (m.column + m.length) ms None)) ≡ Ok d → Ends (shape_of r) (m.kind ∷ kinds ms)
    by_cases (Ok next) fit rest e = let more = rest next e in record { last = more.last; leads = rw fit.0 more.leads; final = more.final }
    by_cases (Err why) fit rest e = cc

-- a token of each kind, over the one name `a`
abbrev sample_mark : TokenKind → Mark
sample_mark k = record { kind = k; column = 0; length = 1; word = 97 ∷ [] }

abbrev one_name : List (List ℕ)
one_name = (97 ∷ []) ∷ []

sample_is_free : (k : TokenKind) → is_reserved_token format.Plain k (97 ∷ []) ≡ false
unfolding is_reserved
sample_is_free token.Identifier = refl
sample_is_free k = refl

record Reads (r : Reached) (ks : List TokenKind) : Type 0 where
  marks : List Mark
  same : kinds marks ≡ ks
  dep : Dependency
  read : follow format.Plain one_name 1 r 1 marks None ≡ Ok dep

runs_read : (r : Reached) (ks : List TokenKind) (s : Shape) → runs (shape_of r) ks ≡ Some s → is_final s ≡ true → Reads r ks
unfolding follow is_reserved
runs_read r [] s e final = by_cases (finish_dependency r) refl (end_fits r)
  where
    by_cases : (o : Result Dependency What) → finish_dependency r ≡ o → EndFits r o → Reads r []
    by_cases (Ok dep) is fit =
        record { marks = []; same = refl; dep = dep; read = ap (λ t. at 1 1 0 (expect t)) is }
    by_cases (Err what) is fit =
        let last : shape_of r ≡ s = cc in
        let wrong : false ≡ true = sym fit.0 ∙ ap is_final last ∙ final in cc
runs_read r (k ∷ ks) s e final = by_cases (step format.Plain one_name r k (97 ∷ [])) refl (step_fits format.Plain one_name r (sample_mark k)) (λ next h. runs_read next ks s h final)
  where
    by_cases : (o : Result Reached SchemaRefusalKind) → step format.Plain one_name r k (97 ∷ []) ≡ o → StepFits format.Plain one_name r (sample_mark k) o
        → ((next : Reached) → runs (shape_of next) ks ≡ Some s → Reads next ks) → Reads r (k ∷ ks)
    by_cases (Ok next) is fit rest =
        let more = rest next (ap (λ o. bind o (λ t. runs t ks)) (sym fit.0) ∙ e) in
        record {
          marks = sample_mark k ∷ more.marks;
          same = ap (λ t. k ∷ t) more.same;
          dep = more.dep;
          read = ap (λ o. at 1 0 1 o >>= (λ n. follow format.Plain one_name 1 n 1 more.marks None)) is
              ∙ more.read;
        }
    by_cases (Err why) is (inl (word, inl (number, reserved)), less, small, carries) rest = let not_reserved = sample_is_free k in cc
    by_cases (Err why) is (inl (word, inr (number, unknown)), less, small, carries) rest = cc
    by_cases (Err why) is (inr (six, stuck), less, small, carries) rest =
        let wrong : None ≡ Some s = ap (λ o. bind o (λ t. runs t ks)) (sym stuck) ∙ e in cc

pub final_line : (ks : List TokenKind) (s : Shape) → runs at_start ks ≡ Some s → is_final s ≡ true → IsLine ks
final_line ks s e final =
    let reads = runs_read start ks s e final in
    record {
      declared = one_name;
      marks = reads.marks;
      dep = reads.dep;
      same_kinds = reads.same;
      dependency = (dependency-law format.Plain one_name 1 1 reads.marks reads.dep).0 reads.read;
    }

pub line_ends : (ks : List TokenKind) → IsLine ks → Ends at_start ks
line_ends ks line =
    let read = (dependency-law format.Plain line.declared 1 1 line.marks line.dep).1 line.dependency in
    subst (Ends at_start) line.same_kinds (follow_runs format.Plain line.declared 1 start 1 line.marks line.dep read)

-- how a line may go on
abbrev completion : Shape → List TokenKind
completion at_start = token.Empty ∷ token.Arrow ∷ token.Empty ∷ []
completion in_left = token.Arrow ∷ token.Empty ∷ []
completion past_empty = token.Arrow ∷ token.Empty ∷ []
completion past_arrow = token.Empty ∷ []
completion in_right = []
completion past_end = []

pub runs-append : (s : Shape) (ks ls : List TokenKind) → runs s (ks ++ ls) ≡ bind (runs s ks) (λ t. runs t ls)
runs-append s [] ls = refl
runs-append s (k ∷ ks) ls = by_cases (λ t. runs-append t ks ls) (advance_shape s k)
  where
    by_cases : ((t : Shape) → runs t (ks ++ ls) ≡ bind (runs t ks) (λ u. runs u ls)) → (o : Option Shape) → bind o (λ t. runs t (ks ++ ls)) ≡ bind (bind o (λ t. runs t ks)) (λ t. runs t ls)
    by_cases rest None = refl
    by_cases rest (Some t) = rest t

pub begins_from : (ks : List TokenKind) (s : Shape) → runs at_start ks ≡ Some s → BeginsLine ks
begins_from ks s e =
    let more = elim s as (λ s. Ends s (completion s)) [
      | in_right ↦ record { last = in_right; leads = refl; final = refl }
      | _ ↦ record { last = past_end; leads = refl; final = refl }
    ] in
    let leads = runs-append at_start ks (completion s) ∙ ap (λ o. bind o (λ t. runs t (completion s))) e
    ∙ more.leads in
    record { rest = completion s; line = final_line (ks ++ completion s) more.last leads more.final }

-- one token more
pub runs-one : (pre : List TokenKind) (s : Shape) (k : TokenKind) → runs at_start pre ≡ Some s → runs at_start (pre ++ k ∷ []) ≡ advance_shape s k
runs-one pre s k reached = runs-append at_start pre (k ∷ []) ∙ ap (λ o. bind o (λ t. runs t (k ∷ []))) reached ∙ last (advance_shape s k)
  where
    last : (o : Option Shape) → bind o (λ t. Some t) ≡ o
    last None = refl
    last (Some t) = refl

-- what the shape wants is wanted after tokens that lead to it
pub wants_from : (ks : List TokenKind) (s : Shape) → runs at_start ks ≡ Some s → Wants ks (wanted_by s)
wants_from ks at_start e = begins_from (ks ++ token.Empty ∷ []) past_empty (runs-one ks at_start token.Empty e)
wants_from ks in_left e = begins_from (ks ++ token.Arrow ∷ []) past_arrow (runs-one ks in_left token.Arrow e)
wants_from ks past_empty e = begins_from (ks ++ token.Arrow ∷ []) past_arrow (runs-one ks past_empty token.Arrow e)
wants_from ks past_arrow e = begins_from (ks ++ token.Empty ∷ []) past_end (runs-one ks past_arrow token.Empty e)
wants_from ks in_right e = final_line ks in_right e refl
wants_from ks past_end e = final_line ks past_end e refl

pub record Leads (ks : List TokenKind) : Type 0 where
  pub shape : Shape
  pub leads : runs at_start ks ≡ Some shape

pub begins_to : (ks : List TokenKind) → BeginsLine ks → Leads ks
begins_to ks begins =
    let ends = line_ends (ks ++ begins.rest) begins.line in
    by_cases (runs at_start ks) ends.last refl (sym (runs-append at_start ks begins.rest) ∙ ends.leads)
  where
    by_cases : (o : Option Shape) (last : Shape) → runs at_start ks ≡ o → bind o (λ t. runs t begins.rest) ≡ Some last → Leads ks
    by_cases None last same e = cc
    by_cases (Some s) last same e = record { shape = s; leads = same }
