-- A token of a line is read exactly where the grammar has it.
use Rattle.std.proofs.Common.{◌≡◌, ◌+◌, ⊎_elim, ℕ, Bool, true, false, cond, List, Option, Some, None, Ok, Err, refl, ◌∙◌, ap, subst}
use Rattle.std.specs.Prelude.{codes, ok_or}
use Rattle.std.specs.Str.{bytes_eq}
use Rattle.std.proofs.lemmas.Bool.{cases_Bool}
use Rattle.std.proofs.lemmas.Slice.Eq.{bytes_eq-Decides}
use Rattle.derivation.proofs.RuleTableLemmas.{some_of_ok, the_ok, cond-ok}
use Rattle.lexer.specs.declared.token.TokenKind.{TokenKind}
use Rattle.lexer.specs.declared.token.TokenKind.TheVariants as token
use Rattle.lexer.specs.Tokens.{Mark, is_colon}
use Rattle.lexer.proofs.KindLemmas.{colon_kind}
use Rattle.schema_grammar.specs.declared.refusal.What.{What}
use Rattle.schema_grammar.specs.declared.refusal.What.TheVariants as what
use Rattle.proof_grammar.specs.declared.rule_name.RuleName.{RuleName}
use Rattle.proof_grammar.specs.declared.rule_name.RuleName.TheVariants as rule
use Rattle.proof_grammar.specs.Meanings.{IsColon, IsNumber, IsKeyword}
use Rattle.schema_grammar.specs.Rests.{number_in, Rest, ◌>>=◌, take, refusal_of_token, number}
use Rattle.proof_grammar.specs.Readers.{colon, with_word}
use Rattle.proof_grammar.specs.Tokens.{is_with, named_by, rule_word}
use Rattle.proof_grammar.proofs.CheckedLemmas.{bind_ok}
use Rattle.proof_grammar.proofs.SideLaws.{Takes, take_there}

-- ---- one token
-- a token that is read
pub record Reads (P : Mark → Type 0) (r next : Rest) : Type 0 where
  pub mark : Mark
  pub takes : Takes r mark next
  pub holds : P mark

pub reads_value : {X : Type 0} (want : What) (found : Mark → Option X) (P : X → Mark → Type 0)
    → ((x : X) (m : Mark) → found m ≡ Some x → P x m) → (r : Rest) (v : X × Rest)
    → (take want r >>= λ t. ok_or (found t.0) (refusal_of_token want t.0 t.1) >>= λ x. Ok (x, t.1)) ≡ Ok v
    → Reads (P v.0) r v.1
reads_value {X} want found P holds r v e =
    let t = bind_ok (take want r) _ v e in
    let x = bind_ok (ok_or (found t.0.0) (refusal_of_token want t.0.0 t.0.1)) _ v t.2 in
    let same = the_ok _ v x.2 in
    record {
      mark = t.0.0;
      takes = subst (λ (u : X × Rest). Takes r t.0.0 u.1) same (take_there want r t.0 t.1);
      holds = holds v.0 t.0.0 (some_of_ok (found t.0.0) _ x.0 x.1 ∙ ap (λ (u : X × Rest). Some u.0) same);
    }

reads_test : (want : What) (test : Mark → Bool) (P : Mark → Type 0) → ((m : Mark) → test m ≡ true → P m)
    → (r next : Rest)
    → (take want r >>= λ t. cond (test t.0) (Ok t.1) (Err (refusal_of_token want t.0 t.1))) ≡ Ok next → Reads P r next
reads_test want test P holds r next e =
    let t = bind_ok (take want r) _ next e in
    let passed = cond-ok (test t.0.0) (refusal_of_token want t.0.0 t.0.1) t.0.1 next t.2 in
    record {
      mark = t.0.0;
      takes = subst (λ (u : Rest). Takes r t.0.0 u) passed.1 (take_there want r t.0 t.1);
      holds = holds t.0.0 passed.0;
    }

number_kind : (n : ℕ) (k : TokenKind) → number_in k ≡ Some n → k ≡ token.Number n
number_kind n (token.Number m) e = let same : m ≡ n = cc in ap token.Number same
number_kind n _ e = cc

pub number_there : (r : Rest) (v : ℕ × Rest) → number r ≡ Ok v → Reads (IsNumber v.0) r v.1
unfolding number
number_there r v e =
    reads_value what.Number (λ m. number_in m.kind) IsNumber (λ n m h. number_kind n m.kind h) r v e

pub colon_there : (r next : Rest) → colon r ≡ Ok next → Reads IsColon r next
unfolding colon
colon_there r next e =
    reads_test what.Colon (λ m. is_colon m.kind) IsColon (λ m h. colon_kind m.kind h) r next e

with_says : (k : TokenKind) (word : List ℕ) → is_with k word ≡ true → (k ≡ token.Identifier) × (word ≡ codes "with")
unfolding is_with
with_says token.Identifier word e = (refl, (bytes_eq-Decides word (codes "with")).0 e)
with_says _ word e = cc

pub with_there : (r next : Rest) → with_word r ≡ Ok next → Reads (IsKeyword (codes "with")) r next
unfolding with_word
with_there r next e =
    reads_test what.With (λ m. is_with m.kind m.word) (IsKeyword (codes "with"))
    (λ m h. with_says m.kind m.word h) r next e

-- ---- the name of a rule
abbrev pub rule_spelling : RuleName → List ℕ
rule_spelling rule.Given = codes "given"
rule_spelling rule.Reflexivity = codes "reflexivity"
rule_spelling rule.Augmentation = codes "augmentation"
rule_spelling rule.Transitivity = codes "transitivity"
rule_spelling rule.Complementation = codes "complementation"
rule_spelling rule.MReflexivity = codes "mreflexivity"
rule_spelling rule.MAugmentation = codes "maugmentation"
rule_spelling rule.MTransitivity = codes "mtransitivity"
rule_spelling rule.Replication = codes "replication"
rule_spelling rule.Coalescence = codes "coalescence"

peel : (word : List ℕ) (first r : RuleName) (others : Option RuleName) → (others ≡ Some r → word ≡ rule_spelling r)
    → cond (bytes_eq word (rule_spelling first)) (Some first) others ≡ Some r
    → word ≡ rule_spelling r
peel word first r others more e =
    ⊎_elim
    (λ (same : bytes_eq word (rule_spelling first) ≡ true). let found = rw same at e in
    let this : first ≡ r = cc in (bytes_eq-Decides word (rule_spelling first)).0 same ∙ ap rule_spelling this)
    (λ (other : bytes_eq word (rule_spelling first) ≡ false). more (rw other at e))
    (cases_Bool (bytes_eq word (rule_spelling first)))

-- a word that names one of the ten is its name
pub rule_word_there : (word : List ℕ) (r : RuleName) → rule_word word ≡ Some r → word ≡ rule_spelling r
unfolding rule_word
rule_word_there word r e =
    peel word rule.Given r _
    (peel word rule.Reflexivity r _
    (peel word rule.Augmentation r _ (peel word rule.Transitivity r _ (peel word rule.Complementation r _
    (peel word rule.MReflexivity r _
    (peel word rule.MAugmentation r _ (peel word rule.MTransitivity r _ (peel word rule.Replication r _
    (peel word rule.Coalescence r _ (λ none. cc)))))))))) e

-- a token that names a rule is a word that does
pub named_there : {R : Type 0} (named : List ℕ → Option R) (k : TokenKind) (word : List ℕ) (r : R)
    → named_by named k word ≡ Some r → (k ≡ token.Identifier) × (named word ≡ Some r)
unfolding named_by
named_there named token.Identifier word r e = (refl, e)
named_there named _ word r e = cc

-- ---- back
-- what is left of a line that ends with its tokens
abbrev pub rest_at : ℕ → ℕ → List Mark → Rest
rest_at line next_column marks = record { line = line; next_column = next_column; marks = marks; stop = None }

abbrev pub after_of : Mark → ℕ
after_of m = m.column + m.length

pub named_back : (r : RuleName) → rule_word (rule_spelling r) ≡ Some r
unfolding rule_word
named_back rule.Given = refl
named_back rule.Reflexivity = refl
named_back rule.Augmentation = refl
named_back rule.Transitivity = refl
named_back rule.Complementation = refl
named_back rule.MReflexivity = refl
named_back rule.MAugmentation = refl
named_back rule.MTransitivity = refl
named_back rule.Replication = refl
named_back rule.Coalescence = refl
