-- A line is read exactly where the grammar has one, where its rules are; so it is with lines of certificates.
use Rattle.std.specs.Prelude.{◌↔◌, ok_or}
use Rattle.std.proofs.Common.{◌≡◌, ℕ, false, List, [], ◌∷◌, ◌++◌, Option, Some, None, Ok, refl, sym, ◌∙◌, ap, subst, append_assoc}
use Rattle.dep_model.specs.Dependencies.{Dependency}
use Rattle.derivation.proofs.RuleTableLemmas.{the_ok}
use Rattle.schema_model.specs.declared.naming.Naming.{Naming}
use Rattle.lexer.specs.Modes as mode
use Rattle.lexer.specs.declared.token.LexError.{LexError}
use Rattle.lexer.specs.declared.token.TokenKind.{TokenKind}
use Rattle.lexer.specs.declared.token.TokenKind.TheVariants as token
use Rattle.lexer.specs.Tokens.{Mark, lex}
use Rattle.schema_grammar.specs.declared.refusal.What.TheVariants as what
use Rattle.schema_grammar.specs.declared.symbol.Sign.{Sign}
use Rattle.schema_grammar.specs.declared.symbol.Sign.TheVariants as sign
use Rattle.schema_grammar.specs.declared.format.Format.TheVariants as format
use Rattle.schema_grammar.specs.Meanings.{IsArrow, IsDependency}
use Rattle.proof_grammar.specs.Lines.{NumberedLine, Rules, Body, Line, stated_dependency, line_by, line_by_from, certificate_rules, certificate_line}
use Rattle.proof_grammar.specs.Meanings.{IsRule, IsLineBy, MeansLineBy, IsCertificateLine, MeansLine}
use Rattle.schema_grammar.specs.Rests.{Rest, rest_from, take, refusal_of_token, number, arrow, refusal_at_end, side, arrow_in, number_in, unless}
use Rattle.schema_grammar.specs.Words.{is_word_token}
use Rattle.proof_grammar.specs.Readers.{colon, rule_by}
use Rattle.proof_grammar.proofs.CheckedLemmas.{bind_ok}
use Rattle.proof_grammar.proofs.SideLaws.{side_there, side-from}
use Rattle.proof_grammar.proofs.TokenLaws.{reads_value, after_of, number_there, colon_there, rest_at}
use Rattle.proof_grammar.proofs.RuleLaws.{AreRead, ten_are_read}

-- ---- the dependency
pub arrow_law : (a : Sign) (k : TokenKind) → (arrow_in k ≡ Some a) ↔ IsArrow a k
arrow_law sign.Functional token.Arrow = (λ e. refl, λ e. refl)
arrow_law sign.Multivalued token.DoubleArrow = (λ e. refl, λ e. refl)
arrow_law sign.Functional _ = (λ e. cc, λ e. cc)
arrow_law sign.Multivalued _ = (λ e. cc, λ e. cc)

pub arrow_other : (s : Sign) (k : TokenKind) → IsArrow s k → is_word_token k ≡ false
arrow_other sign.Functional k is = ap is_word_token is
arrow_other sign.Multivalued k is = ap is_word_token is

-- a dependency that is read
pub record ReadsDependency (names : List (List ℕ)) (r : Rest) (d : Dependency) (next : Rest) : Type 0 where
  pub marks : List Mark
  pub whole : r.marks ≡ marks ++ next.marks
  pub is : IsDependency format.Plain names marks d
  pub stop : next.stop ≡ r.stop

pub dependency_there : (names : List (List ℕ)) (r : Rest) (d : Dependency × Rest)
    → stated_dependency names r ≡ Ok d → ReadsDependency names r d.0 d.1
unfolding stated_dependency arrow
dependency_there names r d e =
    let x = bind_ok (side names r) _ d e in
    let a = bind_ok (arrow x.0.1) _ d x.2 in
    let y = bind_ok (side names a.0.1) _ d a.2 in
    let lhs = side_there names r x.0 x.1 in
    let middle = reads_value what.Arrow (λ m. arrow_in m.kind) (λ s m. IsArrow s m.kind)
    (λ s m. (arrow_law s m.kind).0) x.0.1 a.0 a.1 in
    let rhs = side_there names a.0.1 y.0 y.1 in
    subst (λ (u : Dependency × Rest). ReadsDependency names r u.0 u.1) (the_ok _ d y.2)
    (record {
      marks = lhs.marks ++ middle.mark ∷ rhs.marks;
      whole = lhs.whole ∙ ap (λ t. lhs.marks ++ t) (middle.takes.marks ∙ ap (λ t. middle.mark ∷ t) rhs.whole)
          ∙ sym (append_assoc lhs.marks (middle.mark ∷ rhs.marks) y.0.1.marks);
      is = record {
        lhs = lhs.marks;
        arrow = middle.mark;
        rhs = rhs.marks;
        x = x.0.0;
        y = y.0.0;
        sign = a.0.0;
        whole = refl;
        left_side = lhs.is_side;
        is_arrow = middle.holds;
        right_side = rhs.is_side;
        states = refl;
      };
      stop = rhs.stop ∙ middle.takes.stop ∙ lhs.stop;
    })

-- ---- the line
-- a value that is given only where a line ends
pub record Ends (r : Rest) : Type 0 where
  pub marks : r.marks ≡ []
  pub stop : r.stop ≡ None

pub unless_there : {X : Type 0} (r : Rest) (x y : X) → unless (refusal_at_end r) x ≡ Ok y → (x ≡ y) × Ends r
unfolding refusal_at_end
unless_there {X} r x y e = by_cases r.marks r.stop e
  where
    by_cases : (ms : List Mark) (stop : Option LexError)
        → unless (refusal_at_end (record { line = r.line; next_column = r.next_column; marks = ms; stop = stop })) x ≡ Ok y
        → (x ≡ y) × Ends (record { line = r.line; next_column = r.next_column; marks = ms; stop = stop })
    by_cases [] None e = (cc, record { marks = refl; stop = refl })
    by_cases [] (Some stop) e = cc
    by_cases (m ∷ ms) stop e = cc

-- a line that is read
pub record ReadsLine (B : Type 0) (IsBody : List (List ℕ) → List Mark → B → Type 0) (names : List (List ℕ)) (start : Rest)
    (l : NumberedLine B) : Type 0 where
  pub is_line : IsLineBy B IsBody names start.marks l
  pub stop : start.stop ≡ None

pub line_reads_by : {R B : Type 0} (rules : Rules R B) (IsBody : List (List ℕ) → List Mark → B → Type 0)
    → AreRead R B rules IsBody → (names : List (List ℕ)) (start : Rest) (l : NumberedLine B)
    → line_by rules names start ≡ Ok l → ReadsLine B IsBody names start l
unfolding line_by line_by_from number
line_reads_by {R} {B} rules IsBody are names start l e =
    let t = bind_ok (take what.Number start) _ l e in
    let n = bind_ok (ok_or (number_in t.0.0.kind) (refusal_of_token what.Number t.0.0 t.0.1)) _ l t.2 in
    let a = bind_ok (colon t.0.1) _ l n.2 in
    let d = bind_ok (stated_dependency names a.0) _ l a.2 in
    let b = bind_ok (colon d.0.1) _ l d.2 in
    let r = bind_ok (rule_by rules.named b.0) _ l b.2 in
    let x = bind_ok (rules.body names r.0.0 r.0.1) _ l r.2 in
    let end = unless_there x.0.1 (record { number = n.0; stated = d.0.0; body = x.0.0 }) l x.2 in
    let number = number_there start (n.0, t.0.1) (simp (t.1, n.1)) in
    let first = colon_there t.0.1 a.0 a.1 in
    let dependency = dependency_there names a.0 d.0 d.1 in
    let second = colon_there d.0.1 b.0 b.1 in
    let rule = are.there names b.0 r.0 x.0 r.1 x.1 in
    subst (ReadsLine B IsBody names start) end.0
    (record {
      is_line = record {
        number = number.mark;
        first = first.mark;
        stated = dependency.marks;
        second = second.mark;
        rule = b.0.marks;
        whole = number.takes.marks
            ∙ ap (λ t. number.mark ∷ t)
            (first.takes.marks
            ∙ ap (λ t. first.mark ∷ t) (dependency.whole ∙ ap (λ t. dependency.marks ++ t) second.takes.marks));
        is_number = number.holds;
        first_colon = first.holds;
        dependency = dependency.is;
        second_colon = second.holds;
        is_rule = rule.is_rule end.1.marks;
      };
      stop = sym (rule.stop ∙ second.takes.stop ∙ dependency.stop ∙ first.takes.stop ∙ number.takes.stop)
          ∙ end.1.stop;
    })

-- a line that is read means what is read
pub line_there_by : {R B : Type 0} (rules : Rules R B) (IsBody : List (List ℕ) → List Mark → B → Type 0)
    → AreRead R B rules IsBody → (naming : Naming) (names : List (List ℕ)) (number : ℕ) (text : List ℕ)
    (l : NumberedLine B) → line_by rules names (rest_from number 1 (lex (mode.numbered naming) text)) ≡ Ok l
    → MeansLineBy B IsBody naming names text l
line_there_by rules IsBody are naming names number text l e =
    let ms = (lex (mode.numbered naming) text).marks in
    let reads = line_reads_by rules IsBody are names (rest_from number 1 (lex (mode.numbered naming) text)) l e in
    record { marks = ms; tokens = λ i. record { marks = ms; stop = reads.stop i }; is_line = reads.is_line }

-- tokens that are a line are read as it, from any column
pub marks_read_by : {R B : Type 0} (rules : Rules R B) (IsBody : List (List ℕ) → List Mark → B → Type 0)
    → AreRead R B rules IsBody → (names : List (List ℕ)) (at from : ℕ) (ms : List Mark) (l : NumberedLine B)
    → IsLineBy B IsBody names ms l → line_by rules names (rest_at at from ms) ≡ Ok l
unfolding line_by line_by_from stated_dependency arrow take colon refusal_at_end
marks_read_by rules IsBody are names at from ms l is =
    let d = is.dependency in
    let sign = arrow_law d.sign d.arrow.kind in
    let rest = is.second ∷ is.rule in
    let left = side-from names at (after_of is.first) d.lhs (d.arrow ∷ d.rhs ++ rest) None d.x d.left_side
    (arrow_other d.sign d.arrow.kind d.is_arrow) in
    let right = side-from names at (after_of d.arrow) d.rhs rest None d.y d.right_side
    (ap is_word_token is.second_colon) in
    let rule = are.back names at (after_of is.second) is.rule l.body is.is_rule in
    let stated : is.stated ++ rest ≡ d.lhs ++ (d.arrow ∷ d.rhs ++ rest) =
    ap (λ t. t ++ rest) d.whole ∙ append_assoc d.lhs (d.arrow ∷ d.rhs) rest in
    ap (λ t. line_by rules names (rest_at at from t)) (is.whole ∙ ap (λ t. is.number ∷ is.first ∷ t) stated)
    ∙ rw (
      is.is_number,
      is.first_colon,
      left.read,
      sign.1 d.is_arrow,
      right.read,
      is.second_colon,
      rule.name,
      rule.read,
    )
    (ap (λ z. Ok (record { number = l.number; stated = z; body = l.body })) (sym d.states))

-- and a line that has a meaning is read as it
pub line_back_by : {R B : Type 0} (rules : Rules R B) (IsBody : List (List ℕ) → List Mark → B → Type 0)
    → AreRead R B rules IsBody → (naming : Naming) (names : List (List ℕ)) (number : ℕ) (text : List ℕ)
    (l : NumberedLine B) → MeansLineBy B IsBody naming names text l
    → line_by rules names (rest_from number 1 (lex (mode.numbered naming) text)) ≡ Ok l
line_back_by rules IsBody are naming names at text l means =
    ap (λ t. line_by rules names (rest_from at 1 t)) means.tokens
    ∙ marks_read_by rules IsBody are names at 1 means.marks l means.is_line

-- a line whose body other rules have too is a line of theirs
pub line_of_others : {A B : Type 0} (IsA : List (List ℕ) → List Mark → A → Type 0)
    (IsB : List (List ℕ) → List Mark → B → Type 0) (naming : Naming) (names : List (List ℕ)) (text : List ℕ)
    (l : NumberedLine A) (b : B) → ((ms : List Mark) → IsA names ms l.body → IsB names ms b)
    → MeansLineBy A IsA naming names text l
    → MeansLineBy B IsB naming names text (record { number = l.number; stated = l.stated; body = b })
line_of_others IsA IsB naming names text l b body means =
    let line = means.is_line in
    record {
      marks = means.marks;
      tokens = means.tokens;
      is_line = record {
        number = line.number;
        first = line.first;
        stated = line.stated;
        second = line.second;
        rule = line.rule;
        whole = line.whole;
        is_number = line.is_number;
        first_colon = line.first_colon;
        dependency = line.dependency;
        second_colon = line.second_colon;
        is_rule = body line.rule line.is_rule;
      };
    }

-- ---- those of certificates
pub line_reads : (names : List (List ℕ)) (start : Rest) (l : Line) → certificate_line names start ≡ Ok l
    → ReadsLine Body IsRule names start l
line_reads = line_reads_by certificate_rules IsRule ten_are_read

pub marks_read : (names : List (List ℕ)) (at from : ℕ) (ms : List Mark) (l : Line)
    → IsCertificateLine names ms l → certificate_line names (rest_at at from ms) ≡ Ok l
marks_read = marks_read_by certificate_rules IsRule ten_are_read

pub line_there : (naming : Naming) (names : List (List ℕ)) (number : ℕ) (text : List ℕ) (l : Line)
    → certificate_line names (rest_from number 1 (lex (mode.numbered naming) text)) ≡ Ok l
    → MeansLine naming names text l
line_there = line_there_by certificate_rules IsRule ten_are_read

pub line_back : (naming : Naming) (names : List (List ℕ)) (number : ℕ) (text : List ℕ) (l : Line)
    → MeansLine naming names text l
    → certificate_line names (rest_from number 1 (lex (mode.numbered naming) text)) ≡ Ok l
line_back = line_back_by certificate_rules IsRule ten_are_read
