-- A line of a derivation is read exactly where the grammar has one.
use Rattle.std.specs.Prelude.{ok_or, codes}
use Rattle.std.proofs.Common.{◌≡◌, ℕ, List, [], ◌∷◌, Option, Some, Ok, refl, ◌∙◌, ap, subst}
use Rattle.derivation.proofs.RuleTableLemmas.{some_of_ok, the_ok}
use Rattle.schema_model.specs.declared.naming.Naming.{Naming}
use Rattle.lexer.specs.Modes as mode
use Rattle.lexer.specs.declared.token.TokenKind.TheVariants as token
use Rattle.lexer.specs.Tokens.{Mark, lex}
use Rattle.schema_grammar.specs.declared.refusal.What.TheVariants as what
use Rattle.schema_grammar.specs.Rests.{Rest, rest_from, take, refusal_of_token, number}
use Rattle.proof_grammar.specs.declared.rule_name.RuleName.{RuleName}
use Rattle.proof_grammar.specs.Lines.{body}
use Rattle.proof_grammar.specs.Readers.{rule_by, rule_name}
use Rattle.proof_grammar.specs.Tokens.{rule_word, named_by}
use Rattle.proof_grammar.proofs.CheckedLemmas.{bind_ok}
use Rattle.proof_grammar.proofs.LineLaws.{line_there_by, line_back_by}
use Rattle.proof_grammar.proofs.RuleLaws.{RuleEnds, RuleRead, AreRead, rule_there, rule_back}
use Rattle.proof_grammar.proofs.TokenLaws.{reads_value, after_of, number_there, named_there, rest_at}
use Rattle.derivation_rules.specs.declared.rule.FurtherRule.{FurtherRule}
use Rattle.derivation_rules.specs.declared.rule.FurtherRule.TheVariants as further
use Rattle.derivation_rules.specs.FurtherRules as table
use Rattle.derivation_rules.specs.Views.{further_of}
use Rattle.derivation_grammar.specs.declared.line_rule.LineRule.{LineRule}
use Rattle.derivation_grammar.specs.declared.line_rule.LineRule.TheVariants as rule
use Rattle.derivation_grammar.specs.Lines.{DerivationBody, by_rule, by_decomposition, by_further, DerivationLine, line_rule_word, line_rule_name, derivation_body, derivation_rules, derivation_line}
use Rattle.derivation_grammar.specs.Meanings.{further_name, IsLineRule, MeansDerivationLine}
use Rattle.derivation_grammar.proofs.RuleWords.{Named, word_names, certificate_word}

-- ---- the rule
-- a token that names a rule
abbrev TokenNames : LineRule → Mark → Type 0
TokenNames x m = (m.kind ≡ token.Identifier) × Named m.word x

token_names : (x : LineRule) (m : Mark) → named_by line_rule_word m.kind m.word ≡ Some x → TokenNames x m
token_names x m e =
    let is = named_there line_rule_word m.kind m.word x e in (is.0, word_names m.word x is.1)

-- a rule that is read where words have these names is read where they have others too
renamed : {R S : Type 0} (named : List ℕ → Option R) (other : List ℕ → Option S) (x : R) (y : S) (r next : Rest)
    → ((word : List ℕ) → named word ≡ Some x → other word ≡ Some y)
    → rule_by named r ≡ Ok (x, next) → rule_by other r ≡ Ok (y, next)
unfolding rule_by named_by
renamed {R} named other x y r next same e =
    let t = bind_ok (take what.Rule r) _ (x, next) e in
    let m = t.0.0 in
    let n = bind_ok (ok_or (named_by named m.kind m.word) (refusal_of_token what.Rule m t.0.1)) _ (x, next) t.2 in
    let whole : (n.0, t.0.1) ≡ (x, next) = the_ok _ (x, next) n.2 in
    let found = named_there named m.kind m.word x
    (some_of_ok (named_by named m.kind m.word) _ n.0 n.1 ∙ ap (λ (u : R × Rest). Some u.0) whole) in
    rw (t.1, found.0, same m.word found.1) (ap (λ (u : R × Rest). Ok (y, u.1)) whole)

-- a name of one of the ten is read as it
ten_there : (r next : Rest) (c : RuleName) → line_rule_name r ≡ Ok (rule.Certificate c, next)
    → rule_name r ≡ Ok (c, next)
ten_there r next c e =
    renamed line_rule_word rule_word (rule.Certificate c) c r next (λ word h. word_names word (rule.Certificate c) h) e

rule_ends : (names : List (List ℕ)) (x : LineRule) (r next : Rest) (b : DerivationBody × Rest)
    → line_rule_name r ≡ Ok (x, next) → derivation_body names x next ≡ Ok b
    → RuleEnds DerivationBody IsLineRule names r b.0 b.1
unfolding derivation_body rule_by
rule_ends names (rule.Certificate c) r next b here there =
    let inner = bind_ok (body names c next) _ b there in
    let reads = rule_there names r (c, next) inner.0 (ten_there r next c here) inner.1 in
    subst (λ (u : DerivationBody × Rest). RuleEnds DerivationBody IsLineRule names r u.0 u.1) (the_ok _ b inner.2)
    (record { is_rule = reads.is_rule; stop = reads.stop })
rule_ends names rule.Decomposition r next b here there =
    let name = reads_value what.Rule (λ m. named_by line_rule_word m.kind m.word) TokenNames token_names r (rule.Decomposition, next) here in
    let p = bind_ok (number next) _ b there in
    let premise = number_there next p.0 p.1 in
    subst (λ (u : DerivationBody × Rest). RuleEnds DerivationBody IsLineRule names r u.0 u.1) (the_ok _ b p.2) (record {
      is_rule = λ ended. record {
        name = name.mark;
        premise = premise.mark;
        whole = name.takes.marks
            ∙ ap (λ t. name.mark ∷ t) (premise.takes.marks ∙ ap (λ t. premise.mark ∷ t) ended);
        says = name.holds;
        number = premise.holds;
      };
      stop = premise.takes.stop ∙ name.takes.stop;
    })
rule_ends names (rule.Further f) r next b here there =
    let name = reads_value what.Rule (λ m. named_by line_rule_word m.kind m.word) TokenNames token_names r (rule.Further f, next) here in
    let p = bind_ok (number next) _ b there in
    let q = bind_ok (number p.0.1) _ b p.2 in
    let first = number_there next p.0 p.1 in
    let second = number_there p.0.1 q.0 q.1 in
    subst (λ (u : DerivationBody × Rest). RuleEnds DerivationBody IsLineRule names r u.0 u.1) (the_ok _ b q.2) (record {
      is_rule = λ ended. record {
        name = name.mark;
        first = first.mark;
        second = second.mark;
        whole = name.takes.marks
            ∙ ap (λ t. name.mark ∷ t)
            (first.takes.marks
            ∙ ap (λ t. first.mark ∷ t) (second.takes.marks ∙ ap (λ t. second.mark ∷ t) ended));
        says = name.holds;
        first_number = first.holds;
        second_number = second.holds;
      };
      stop = second.takes.stop ∙ first.takes.stop ∙ name.takes.stop;
    })

-- ---- back
further_back : (f : table.Further)
    → (c : FurtherRule) × (further_of c ≡ f) × (line_rule_word (further_name f) ≡ Some (rule.Further c))
unfolding line_rule_word
further_back table.union = (further.Union, refl, refl)
further_back table.pseudotransitivity = (further.Pseudotransitivity, refl, refl)
further_back table.intersection = (further.Intersection, refl, refl)
further_back table.difference = (further.Difference, refl, refl)
further_back table.mpseudotransitivity = (further.MPseudotransitivity, refl, refl)

decomposition_back : line_rule_word (codes "decomposition") ≡ Some rule.Decomposition
unfolding line_rule_word
decomposition_back = refl

ten_back : (r next : Rest) (c : RuleName) → rule_name r ≡ Ok (c, next)
    → line_rule_name r ≡ Ok (rule.Certificate c, next)
ten_back r next c e =
    renamed rule_word line_rule_word c (rule.Certificate c) r next (λ word h. certificate_word word c h) e

rule_read : (names : List (List ℕ)) (line from : ℕ) (marks : List Mark) (b : DerivationBody)
    → IsLineRule names marks b → RuleRead LineRule DerivationBody derivation_rules names line from marks b
unfolding derivation_body rule_by named_by number take
rule_read names line from marks (by_rule b) is =
    let back = rule_back names line from marks b is in
    record {
      rule = rule.Certificate back.rule;
      next = back.next;
      next_column = back.next_column;
      name = ten_back (rest_at line from marks) back.next back.rule back.name;
      read = rw back.read refl;
    }
rule_read names line from marks (by_decomposition p) is = record {
  rule = rule.Decomposition;
  next = rest_at line (after_of is.name) (is.premise ∷ []);
  next_column = after_of is.premise;
  name = rw (is.whole, is.says.0, ap line_rule_word is.says.1 ∙ decomposition_back) refl;
  read = rw is.number refl;
}
rule_read names line from marks (by_further f p q) is =
    let code = further_back f in
    record {
      rule = rule.Further code.0;
      next = rest_at line (after_of is.name) (is.first ∷ is.second ∷ []);
      next_column = after_of is.second;
      name = rw (is.whole, is.says.0, ap line_rule_word is.says.1 ∙ code.2) refl;
      read = rw (is.first_number, is.second_number, code.1) refl;
    }

-- ---- the line
all_are_read : AreRead LineRule DerivationBody derivation_rules IsLineRule
all_are_read = record { there = λ names r n b. rule_ends names n.0 r n.1 b; back = rule_read }

-- a line that is read means what is read
pub line_there : (naming : Naming) (names : List (List ℕ)) (number : ℕ) (text : List ℕ) (l : DerivationLine)
    → derivation_line names (rest_from number 1 (lex (mode.numbered naming) text)) ≡ Ok l
    → MeansDerivationLine naming names text l
line_there = line_there_by derivation_rules IsLineRule all_are_read

-- and a line that has a meaning is read as it
pub line_back : (naming : Naming) (names : List (List ℕ)) (number : ℕ) (text : List ℕ) (l : DerivationLine)
    → MeansDerivationLine naming names text l
    → derivation_line names (rest_from number 1 (lex (mode.numbered naming) text)) ≡ Ok l
line_back = line_back_by derivation_rules IsLineRule all_are_read
