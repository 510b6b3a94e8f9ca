-- The names of the rules of a line: which word each is.
use Rattle.std.proofs.Common.{◌≡◌, ℕ, Bool, true, false, cond, List, Option, Some, None, refl, sym, ◌∙◌, ap, subst}
use Rattle.std.specs.Prelude.{codes, option_map}
use Rattle.std.specs.Str.{bytes_eq}
use Rattle.std.proofs.lemmas.Option.{none-some, same_Some}
use Rattle.std.proofs.lemmas.Slice.Eq.{bytes_eq-Decides}
use Rattle.proof_grammar.specs.declared.rule_name.RuleName.{RuleName}
use Rattle.proof_grammar.specs.Tokens.{rule_word}
use Rattle.derivation_rules.specs.declared.rule.FurtherRule.TheVariants as further
use Rattle.derivation_rules.specs.Views.{further_of}
use Rattle.derivation_grammar.specs.declared.line_rule.LineRule.{LineRule}
use Rattle.derivation_grammar.specs.declared.line_rule.LineRule.TheVariants as rule
use Rattle.derivation_grammar.specs.Lines.{line_rule_word}
use Rattle.derivation_grammar.specs.Meanings.{further_name}

-- a word names a rule
abbrev pub Named : List ℕ → LineRule → Type 0
Named word (rule.Certificate c) = rule_word word ≡ Some c
Named word rule.Decomposition = word ≡ codes "decomposition"
Named word (rule.Further f) = word ≡ further_name (further_of f)

peel : (P : LineRule → Type 0) (b : Bool) (first x : LineRule) (others : Option LineRule)
    → (b ≡ true → P first)
    → (others ≡ Some x → P x) → cond b (Some first) others ≡ Some x → P x
peel P true first x others here more e = subst P (same_Some first x e) (here refl)
peel P false first x others here more e = more e

is_word : (word other : List ℕ) → bytes_eq word other ≡ true → word ≡ other
is_word word other e = (bytes_eq-Decides word other).0 e

certificate_named : (word : List ℕ) (o : Option RuleName) (x : LineRule) → rule_word word ≡ o
    → option_map rule.Certificate o ≡ Some x → Named word x
certificate_named word None x is e = cc
certificate_named word (Some c) x is e = subst (Named word) (same_Some (rule.Certificate c) x e) is

pub word_names : (word : List ℕ) (x : LineRule) → line_rule_word word ≡ Some x → Named word x
unfolding line_rule_word
word_names word x e =
    let P = Named word in
    peel P _ (rule.Further further.Union) x _ (is_word word (codes "union"))
    (peel P _ rule.Decomposition x _ (is_word word (codes "decomposition"))
    (peel P _ (rule.Further further.Pseudotransitivity) x _ (is_word word (codes "pseudotransitivity"))
    (peel P _ (rule.Further further.Intersection) x _ (is_word word (codes "intersection"))
    (peel P _ (rule.Further further.Difference) x _ (is_word word (codes "difference"))
    (peel P _ (rule.Further further.MPseudotransitivity) x _ (is_word word (codes "mpseudotransitivity"))
    (certificate_named word (rule_word word) x refl)))))) e

-- the name of a certificates' rule is no further one
other_word : (word other : List ℕ) (c : RuleName) → rule_word word ≡ Some c → rule_word other ≡ None
    → bytes_eq word other ≡ false
other_word word other c is none = by_cases (bytes_eq word other) refl
  where
    by_cases : (b : Bool) → bytes_eq word other ≡ b → b ≡ false
    by_cases true e = absurd (none-some c (sym none ∙ ap rule_word (sym (is_word word other e)) ∙ is))
    by_cases false e = refl

pub certificate_word : (word : List ℕ) (c : RuleName) → rule_word word ≡ Some c
    → line_rule_word word ≡ Some (rule.Certificate c)
unfolding line_rule_word rule_word
certificate_word word c is =
    rw (
      other_word word (codes "union") c is refl,
      other_word word (codes "decomposition") c is refl,
      other_word word (codes "pseudotransitivity") c is refl,
      other_word word (codes "intersection") c is refl,
      other_word word (codes "difference") c is refl,
      other_word word (codes "mpseudotransitivity") c is refl,
    )
    (ap (option_map rule.Certificate) is)
