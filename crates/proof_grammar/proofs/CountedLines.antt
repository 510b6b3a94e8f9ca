-- Which lines of a text count, line by line, and after some of them; and the sets of a line are of attributes.
use Rattle.std.proofs.Common.{◌≡◌, inl, inr, ℕ, Bool, true, false, ◌&&◌, not, List, [], ◌∷◌, ◌++◌, length, Option, Some, None, refl, sym, ◌∙◌, ap, subst, arith, append_assoc}
use Rattle.std.specs.Prelude.{filter}
use Rattle.std.proofs.lemmas.List.{append-nil}
use Rattle.std.proofs.lemmas.Bool.{cond_both}
use Rattle.std.proofs.lemmas.Bool.Decides.{nat_tests}
use Rattle.attr_sets.specs.Attributes.{Attributes, below}
use Rattle.schema_model.specs.Schemas.{Schema}
use Rattle.dep_model.specs.Dependencies.{left_of, right_of}
use Rattle.schema_model.specs.Schemas.{names_of, naming_of}
use Rattle.derivation.specs.Trees.{augmentation, complementation, maugmentation, replication}
use Rattle.derivation.proofs.WithinLemmas.{OfAttributes}
use Rattle.schema_model.specs.declared.naming.Naming.{Naming}
use Rattle.lexer.specs.Modes as mode
use Rattle.lexer.specs.declared.token.LexError.{LexError}
use Rattle.lexer.specs.Tokens.{Mark, lex}
use Rattle.schema_grammar.specs.declared.symbol.Sign.TheVariants as sign
use Rattle.schema_grammar.specs.declared.format.Format.TheVariants as format
use Rattle.schema_grammar.specs.Grammar.{dependency_of_sign}
use Rattle.schema_grammar.specs.Meanings.{IsSide}
use Rattle.schema_grammar.proofs.WithinLemmas.{named_within}
use Rattle.proof_grammar.specs.declared.line_kind.LineKind.{LineKind}
use Rattle.proof_grammar.specs.declared.line_kind.LineKind.TheVariants.{Blank, Opening, Certificate}
use Rattle.proof_grammar.specs.Lines.{Body, by_given, by_reflexivity, by_mreflexivity, by_step, by_pair, Line}
use Rattle.proof_grammar.specs.Meanings.{certificate_lines_of, IsRule, MeansLine}
use Rattle.proof_grammar.specs.Texts.{is_yes, is_blank, is_blank_from, kind_from, line_kind}
use Rattle.proof_grammar.proofs.PreparedLaws.{BodyOfAttributes, IsLineOfAttributes}

-- ---- the lines that count from a line on; `fresh` is whether a `yes` may still come
abbrev pub lines_that_count : Naming → List (List ℕ) → List (List ℕ)
lines_that_count naming texts = filter (λ line. not (is_blank (lex (mode.numbered naming) line))) texts

abbrev pub lines_to_read : Naming → Bool → List (List ℕ) → List (List ℕ)
lines_to_read naming true texts = certificate_lines_of naming texts
lines_to_read naming false texts = lines_that_count naming texts

-- how a line changes them
abbrev pub Counts : Naming → LineKind → Bool → List ℕ → Type 0
Counts naming Blank fresh text = (texts : List (List ℕ)) → lines_to_read naming fresh (text ∷ texts) ≡ lines_to_read naming fresh texts
Counts naming Opening fresh text = (texts : List (List ℕ)) → lines_to_read naming fresh (text ∷ texts) ≡ lines_to_read naming false texts
Counts naming Certificate fresh text = (texts : List (List ℕ)) → lines_to_read naming fresh (text ∷ texts) ≡ text ∷ lines_to_read naming false texts

pub kind_counts : (naming : Naming) (fresh : Bool) (text : List ℕ) (k : LineKind)
    → line_kind fresh (lex (mode.numbered naming) text) ≡ k → Counts naming k fresh text
unfolding line_kind
kind_counts naming fresh text k e =
    subst (λ (j : LineKind). Counts naming j fresh text) e
    (by_cases fresh (lex (mode.numbered naming) text).marks (lex (mode.numbered naming) text).stop refl refl)
  where
    by_cases : (a : Bool) (ms : List Mark) (stop : Option LexError)
        → (lex (mode.numbered naming) text).marks ≡ ms
        → (lex (mode.numbered naming) text).stop ≡ stop → Counts naming (kind_from a ms stop) a text
    by_cases true [] None marks ends = λ texts. rw (marks, ends) refl
    by_cases false [] None marks ends = λ texts. rw (marks, ends) refl
    by_cases true [] (Some stop) marks ends = λ texts. rw (marks, ends, marks) refl
    by_cases false [] (Some stop) marks ends = λ texts. rw (marks, ends) refl
    by_cases true (m ∷ ms) stop marks ends =
        cond_both (is_yes m.kind m.word && is_blank_from ms stop) Opening Certificate (λ j. Counts naming j true text)
        (λ says texts. rw (marks, marks, ends, says) refl) (λ says texts. rw (marks, marks, ends, says) refl)
    by_cases false (m ∷ ms) stop marks ends = λ texts. rw marks refl

-- ---- after some lines
pub nothing_counts : (naming : Naming) (fresh : Bool) → lines_to_read naming fresh [] ≡ []
nothing_counts naming true = refl
nothing_counts naming false = refl

-- after some lines of a text those that count are those before, and what is read from there on
abbrev pub CountOn : Naming → List (List ℕ) → Bool → Type 0
CountOn naming before fresh =
    (more : List (List ℕ)) → certificate_lines_of naming (before ++ more) ≡ certificate_lines_of naming before ++ lines_to_read naming fresh more

module _ (naming : Naming) (before : List (List ℕ)) (fresh : Bool) (here : List ℕ) (so_far : CountOn naming before fresh) where
  -- a line that does not count
  module _ (next : Bool) (skips : (more : List (List ℕ)) → lines_to_read naming fresh (here ∷ more) ≡ lines_to_read naming next more) where
    pub same_lines : certificate_lines_of naming (before ++ here ∷ []) ≡ certificate_lines_of naming before
    same_lines =
        so_far (here ∷ []) ∙ ap (λ (ls : List (List ℕ)). certificate_lines_of naming before ++ ls) (skips [] ∙ nothing_counts naming next)
        ∙ append-nil (certificate_lines_of naming before)

    pub count_past : CountOn naming (before ++ here ∷ []) next
    count_past more =
        ap (certificate_lines_of naming) (append_assoc before (here ∷ []) more) ∙ so_far (here ∷ more)
        ∙ ap (λ (ls : List (List ℕ)). certificate_lines_of naming before ++ ls) (skips more)
        ∙ ap (λ (ls : List (List ℕ)). ls ++ lines_to_read naming next more) (sym same_lines)

  -- one that counts stands after those before
  module _ (counts : Counts naming Certificate fresh here) where
    pub one_line_more : certificate_lines_of naming (before ++ here ∷ []) ≡ certificate_lines_of naming before ++ here ∷ []
    one_line_more = so_far (here ∷ []) ∙ ap (λ (ls : List (List ℕ)). certificate_lines_of naming before ++ ls) (counts [])

    pub count_after : CountOn naming (before ++ here ∷ []) false
    count_after more =
        ap (certificate_lines_of naming) (append_assoc before (here ∷ []) more) ∙ so_far (here ∷ more)
        ∙ ap (λ (ls : List (List ℕ)). certificate_lines_of naming before ++ ls) (counts more)
        ∙ sym (append_assoc (certificate_lines_of naming before) (here ∷ []) (lines_to_read naming false more))
        ∙ ap (λ (ls : List (List ℕ)). ls ++ lines_to_read naming false more) (sym one_line_more)

-- ---- the sets of a line
of_attributes : (s : Schema) (ms : List Mark) (x : Attributes) → IsSide format.Plain (names_of s) ms x
    → OfAttributes x
of_attributes s ms x (inl empty) k member =
    let wrong : true ≡ false = sym member ∙ ap (λ (y : Attributes). y k) empty.nothing in cc
of_attributes s ms x (inr not_empty) k member =
    let inside : below (length (names_of s)) k ≡ true =
    named_within (names_of s) ms k (ap (λ (y : Attributes). y k) (sym not_empty.members) ∙ member) in
    grind (arith, nat_tests, inside, s.valid.names_within_limit)

pub rule_of_attributes : (s : Schema) (ms : List Mark) (b : Body) → IsRule (names_of s) ms b
    → BodyOfAttributes b
rule_of_attributes s ms (by_given k) is = tt
rule_of_attributes s ms by_reflexivity is = tt
rule_of_attributes s ms by_mreflexivity is = tt
rule_of_attributes s ms (by_step (augmentation z) p) is = of_attributes s is.has_sets.sides z is.has_sets.side
rule_of_attributes s ms (by_step complementation p) is = tt
rule_of_attributes s ms (by_step (maugmentation w z) p) is = (
  of_attributes s is.has_sets.wide w is.has_sets.wide_side,
  of_attributes s is.has_sets.narrow z is.has_sets.narrow_side,
)
rule_of_attributes s ms (by_step replication p) is = tt
rule_of_attributes s ms (by_pair rule p q) is = tt

pub line_of_attributes : (s : Schema) (text : List ℕ) (l : Line)
    → MeansLine (naming_of s) (names_of s) text l → IsLineOfAttributes l
line_of_attributes s text l means =
    let d = means.is_line.dependency in
    let left : left_of (dependency_of_sign d.sign d.x d.y) ≡ d.x =
    elim d.sign as (λ g. left_of (dependency_of_sign g d.x d.y) ≡ d.x) [ sign.Functional ↦ refl | sign.Multivalued ↦ refl ] in
    let right : right_of (dependency_of_sign d.sign d.x d.y) ≡ d.y =
    elim d.sign as (λ g. right_of (dependency_of_sign g d.x d.y) ≡ d.y) [ sign.Functional ↦ refl | sign.Multivalued ↦ refl ] in
    record {
      left = rw (d.states, left) (of_attributes s d.lhs d.x d.left_side);
      right = rw (d.states, right) (of_attributes s d.rhs d.y d.right_side);
      body = rule_of_attributes s means.is_line.rule l.body means.is_line.is_rule;
    }
