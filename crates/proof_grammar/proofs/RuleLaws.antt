-- The rule of a line is read exactly where the grammar has one: what that asks of any rules, and that it
-- holds of the ten of certificates.
use Rattle.std.proofs.Common.{◌≡◌, ℕ, List, [], ◌∷◌, ◌++◌, None, Ok, refl, sym, ◌∙◌, ap, subst}
use Rattle.std.specs.Prelude.{codes}
use Rattle.std.proofs.lemmas.List.{append-nil}
use Rattle.std.proofs.lemmas.Slice.Eq.{bytes_eq-Decides}
use Rattle.derivation.specs.Trees.{Step, augmentation, complementation, maugmentation, replication, Pair, transitivity, mtransitivity, coalescence}
use Rattle.derivation.proofs.RuleTableLemmas.{the_ok}
use Rattle.lexer.specs.Tokens.{Mark}
use Rattle.schema_grammar.specs.declared.refusal.What.TheVariants as what
use Rattle.proof_grammar.specs.declared.rule_name.RuleName.{RuleName}
use Rattle.proof_grammar.specs.declared.rule_name.RuleName.TheVariants as rule
use Rattle.proof_grammar.specs.Lines.{Body, by_given, by_reflexivity, by_mreflexivity, by_step, by_pair, one_premise, two_premises, augmentation_body, maugmentation_body, Rules, body, certificate_rules}
use Rattle.proof_grammar.specs.Meanings.{IsNumber, IsKeyword, pair_name, IsRule, step_name, HasSets}
use Rattle.schema_grammar.specs.Rests.{Rest, ◌>>=◌, take, number, side}
use Rattle.schema_grammar.specs.Words.{is_word_token}
use Rattle.proof_grammar.specs.Readers.{colon, with_word, rule_by}
use Rattle.proof_grammar.specs.Tokens.{is_with, named_by, rule_word}
use Rattle.proof_grammar.proofs.CheckedLemmas.{bind_ok}
use Rattle.proof_grammar.proofs.SideLaws.{side_there, side-from}
use Rattle.proof_grammar.proofs.TokenLaws.{reads_value, rule_spelling, after_of, number_there, colon_there, with_there, rule_word_there, named_there, rest_at, named_back}

-- ---- any rules
-- a rule that is read, up to the end of a line
pub record RuleEnds (B : Type 0) (IsBody : List (List ℕ) → List Mark → B → Type 0) (names : List (List ℕ)) (r : Rest)
    (b : B) (next : Rest) : Type 0 where
  pub is_rule : next.marks ≡ [] → IsBody names r.marks b
  pub stop : next.stop ≡ r.stop

-- a rule that is read from a column
pub record RuleRead (R B : Type 0) (rules : Rules R B) (names : List (List ℕ)) (line from : ℕ) (marks : List Mark) (b : B)
    : Type 0 where
  pub rule : R
  pub next : Rest
  pub next_column : ℕ
  pub name : rule_by rules.named (rest_at line from marks) ≡ Ok (rule, next)
  pub read : rules.body names rule next ≡ Ok (b, rest_at line next_column [])

-- rules are read exactly where tokens are a body
pub record AreRead (R B : Type 0) (rules : Rules R B) (IsBody : List (List ℕ) → List Mark → B → Type 0) : Type 0 where
  pub there : (names : List (List ℕ)) (r : Rest) (n : R × Rest) (b : B × Rest) → rule_by rules.named r ≡ Ok n
      → rules.body names n.0 n.1 ≡ Ok b → RuleEnds B IsBody names r b.0 b.1
  pub back : (names : List (List ℕ)) (line from : ℕ) (marks : List Mark) (b : B) → IsBody names marks b
      → RuleRead R B rules names line from marks b

-- ---- what follows the name
-- a rule that is read after its name, up to the end of a line
pub record ReadsRule (names : List (List ℕ)) (name : Mark) (r : Rest) (b : Body) (next : Rest) : Type 0 where
  pub is_rule : next.marks ≡ [] → IsRule names (name ∷ r.marks) b
  pub stop : next.stop ≡ r.stop

abbrev Rule : List (List ℕ) → Mark → Rest → Body × Rest → Type 0
Rule names name r b = ReadsRule names name r b.0 b.1

-- a number alone
numbered_there : (names : List (List ℕ)) (make : ℕ → Body) (name : Mark) (r : Rest) (b : Body × Rest)
    → ((p : ℕ) (m : Mark) → IsNumber p m → IsRule names (name ∷ m ∷ []) (make p))
    → (number r >>= λ p. Ok (make p.0, p.1)) ≡ Ok b → Rule names name r b
numbered_there names make name r b is e =
    let p = bind_ok (number r) _ b e in
    let premise = number_there r p.0 p.1 in
    let of : List Mark → Type 0 = λ t. IsRule names (name ∷ t) (make p.0.0) in
    subst (Rule names name r) (the_ok _ b p.2) (record {
      is_rule = λ ended. subst of (sym (premise.takes.marks ∙ ap (λ t. premise.mark ∷ t) ended))
          (is p.0.0 premise.mark premise.holds);
      stop = premise.takes.stop;
    })

two_premises_there : (names : List (List ℕ)) (rule : Pair) (name : Mark) (r : Rest) (b : Body × Rest) → IsKeyword (pair_name rule) name → two_premises rule r ≡ Ok b → Rule names name r b
unfolding two_premises
two_premises_there names rule name r b says e =
    let p = bind_ok (number r) _ b e in
    let q = bind_ok (number p.0.1) _ b p.2 in
    let first = number_there r p.0 p.1 in
    let second = number_there p.0.1 q.0 q.1 in
    subst (Rule names name r) (the_ok _ b q.2) (record {
      is_rule = λ ended. record {
        name = name;
        first = first.mark;
        second = second.mark;
        whole = ap (λ t. name ∷ t)
            (first.takes.marks
            ∙ ap (λ t. first.mark ∷ t) (second.takes.marks ∙ ap (λ t. second.mark ∷ t) ended));
        says = says;
        first_number = first.holds;
        second_number = second.holds;
      };
      stop = second.takes.stop ∙ first.takes.stop;
    })

-- a premise, and the sets of the rule
premise_there : (names : List (List ℕ)) (rule : Step) (name : Mark) (r : Rest) (p : ℕ × Rest) (next : Rest)
    → IsKeyword (step_name rule) name → number r ≡ Ok p → (next.marks ≡ [] → HasSets names p.1.marks rule)
    → next.stop ≡ p.1.stop → Rule names name r (by_step rule p.0, next)
premise_there names rule name r p next says e sets stop =
    let premise = number_there r p e in
    record {
      is_rule = λ ended. record {
        name = name;
        premise = premise.mark;
        sets = p.1.marks;
        whole = ap (λ t. name ∷ t) premise.takes.marks;
        says = says;
        number = premise.holds;
        has_sets = sets ended;
      };
      stop = stop ∙ premise.takes.stop;
    }

augmentation_there : (names : List (List ℕ)) (name : Mark) (r : Rest) (b : Body × Rest) → IsKeyword (codes "augmentation") name → augmentation_body names r ≡ Ok b → Rule names name r b
unfolding augmentation_body
augmentation_there names name r b says e =
    let p = bind_ok (number r) _ b e in
    let w = bind_ok (with_word p.0.1) _ b p.2 in
    let z = bind_ok (side names w.0) _ b w.2 in
    let keyword = with_there p.0.1 w.0 w.1 in
    let sides = side_there names w.0 z.0 z.1 in
    subst (Rule names name r) (the_ok _ b z.2)
    (premise_there names (augmentation z.0.0) name r p.0 z.0.1 says p.1
    (λ ended.
    let end : w.0.marks ≡ sides.marks =
    sides.whole ∙ ap (λ t. sides.marks ++ t) ended ∙ append-nil sides.marks in
    record {
      keyword = keyword.mark;
      sides = sides.marks;
      whole = keyword.takes.marks ∙ ap (λ t. keyword.mark ∷ t) end;
      says = keyword.holds;
      side = sides.is_side;
    })
    (sides.stop ∙ keyword.takes.stop))

maugmentation_there : (names : List (List ℕ)) (name : Mark) (r : Rest) (b : Body × Rest) → IsKeyword (codes "maugmentation") name → maugmentation_body names r ≡ Ok b → Rule names name r b
unfolding maugmentation_body
maugmentation_there names name r b says e =
    let p = bind_ok (number r) _ b e in
    let w = bind_ok (with_word p.0.1) _ b p.2 in
    let x = bind_ok (side names w.0) _ b w.2 in
    let c = bind_ok (colon x.0.1) _ b x.2 in
    let z = bind_ok (side names c.0) _ b c.2 in
    let keyword = with_there p.0.1 w.0 w.1 in
    let wide = side_there names w.0 x.0 x.1 in
    let between = colon_there x.0.1 c.0 c.1 in
    let narrow = side_there names c.0 z.0 z.1 in
    subst (Rule names name r) (the_ok _ b z.2)
    (premise_there names (maugmentation x.0.0 z.0.0) name r p.0 z.0.1 says p.1
    (λ ended.
    let end : c.0.marks ≡ narrow.marks =
    narrow.whole ∙ ap (λ t. narrow.marks ++ t) ended ∙ append-nil narrow.marks in
    let sides : w.0.marks ≡ wide.marks ++ between.mark ∷ narrow.marks = wide.whole
    ∙ ap (λ t. wide.marks ++ t) (between.takes.marks ∙ ap (λ t. between.mark ∷ t) end) in
    record {
      keyword = keyword.mark;
      wide = wide.marks;
      colon = between.mark;
      narrow = narrow.marks;
      whole = keyword.takes.marks ∙ ap (λ t. keyword.mark ∷ t) sides;
      says = keyword.holds;
      wide_side = wide.is_side;
      is_colon = between.holds;
      narrow_side = narrow.is_side;
    })
    (narrow.stop ∙ between.takes.stop ∙ wide.stop ∙ keyword.takes.stop))

-- a rule without sets
without_sets : (names : List (List ℕ)) (rule : Step) (name : Mark) → IsKeyword (step_name rule) name
    → HasSets names [] rule → (p : ℕ) (m : Mark) → IsNumber p m → IsRule names (name ∷ m ∷ []) (by_step rule p)
without_sets names rule name says none p m is =
    record { name = name; premise = m; sets = []; whole = refl; says = says; number = is; has_sets = none }

body_there : (names : List (List ℕ)) (r : RuleName) (name : Mark) (start : Rest) (b : Body × Rest) → IsKeyword (rule_spelling r) name → body names r start ≡ Ok b → Rule names name start b
unfolding body one_premise
body_there names rule.Given name start b says e =
    numbered_there names by_given name start b
    (λ k m is. record { name = name; numeral = m; whole = refl; says = says; number = is }) e
body_there names rule.Reflexivity name start b says e =
    subst (Rule names name start) (the_ok _ b e) (record {
      is_rule = λ ended. record { name = name; whole = ap (λ t. name ∷ t) ended; says = says };
      stop = refl;
    })
body_there names rule.MReflexivity name start b says e =
    subst (Rule names name start) (the_ok _ b e) (record {
      is_rule = λ ended. record { name = name; whole = ap (λ t. name ∷ t) ended; says = says };
      stop = refl;
    })
body_there names rule.Augmentation name start b says e = augmentation_there names name start b says e
body_there names rule.MAugmentation name start b says e = maugmentation_there names name start b says e
body_there names rule.Complementation name start b says e =
    numbered_there names (by_step complementation) name start b (without_sets names complementation name says refl) e
body_there names rule.Replication name start b says e =
    numbered_there names (by_step replication) name start b (without_sets names replication name says refl) e
body_there names rule.Transitivity name start b says e = two_premises_there names transitivity name start b says e
body_there names rule.MTransitivity name start b says e = two_premises_there names mtransitivity name start b says e
body_there names rule.Coalescence name start b says e = two_premises_there names coalescence name start b says e

pub rule_there : (names : List (List ℕ)) (r : Rest) (n : RuleName × Rest) (b : Body × Rest)
    → rule_by rule_word r ≡ Ok n → body names n.0 n.1 ≡ Ok b → RuleEnds Body IsRule names r b.0 b.1
unfolding rule_by
rule_there names r n b here there =
    let name = reads_value what.Rule (λ m. named_by rule_word m.kind m.word) (λ x. IsKeyword (rule_spelling x))
    (λ x m h. let is = named_there rule_word m.kind m.word x h in (is.0, rule_word_there m.word x is.1)) r n here in
    let reads = body_there names n.0 name.mark n.1 b name.holds there in
    let of : List Mark → Type 0 = λ t. IsRule names t b.0 in
    record {
      is_rule = λ ended. subst of (sym name.takes.marks) (reads.is_rule ended);
      stop = reads.stop ∙ name.takes.stop;
    }

-- ---- back
-- the rest of a rule that is read after its name
record BodyRead (names : List (List ℕ)) (line from : ℕ) (r : RuleName) (marks : List Mark) (b : Body) : Type 0 where
  next_column : ℕ
  read : body names r (rest_at line from marks) ≡ Ok (b, rest_at line next_column [])

-- one of the ten
abbrev OneRead : List (List ℕ) → ℕ → ℕ → List Mark → Body → Type 0
OneRead names line from marks b = RuleRead RuleName Body certificate_rules names line from marks b

rule_made : {names : List (List ℕ)} {line from : ℕ} {whole : List Mark} {b : Body} (r : RuleName) (m : Mark)
    (marks : List Mark)
    → whole ≡ m ∷ marks → IsKeyword (rule_spelling r) m
    → BodyRead names line (after_of m) r marks b → OneRead names line from whole b
unfolding rule_by take named_by
rule_made {names} {line} r m marks same says rest = record {
  rule = r;
  next = rest_at line (after_of m) marks;
  next_column = rest.next_column;
  name = rw (same, says.0, ap rule_word says.1 ∙ named_back r) refl;
  read = rest.read;
}

pub rule_back : (names : List (List ℕ)) (line from : ℕ) (marks : List Mark) (b : Body) → IsRule names marks b
    → OneRead names line from marks b
unfolding body one_premise two_premises augmentation_body maugmentation_body number with_word colon take is_with
rule_back names line from marks (by_given k) is =
    rule_made rule.Given is.name (is.numeral ∷ []) is.whole is.says
    (record { next_column = after_of is.numeral; read = rw is.number refl })
rule_back names line from marks by_reflexivity is =
    rule_made rule.Reflexivity is.name [] is.whole is.says
    (record { next_column = after_of is.name; read = refl })
rule_back names line from marks by_mreflexivity is =
    rule_made rule.MReflexivity is.name [] is.whole is.says
    (record { next_column = after_of is.name; read = refl })
rule_back names line from marks (by_step (augmentation z) p) is =
    let has = is.has_sets in
    let last = side-from names line (after_of has.keyword) has.sides [] None z has.side tt in
    let same : is.sets ≡ has.keyword ∷ has.sides ++ [] =
    has.whole ∙ ap (λ t. has.keyword ∷ t) (sym (append-nil has.sides)) in
    let keyword = (bytes_eq-Decides has.keyword.word (codes "with")).1 has.says.1 in
    rule_made rule.Augmentation is.name (is.premise ∷ is.sets) is.whole is.says
    (record { next_column = last.next_column; read = rw (same, is.number, has.says.0, keyword, last.read) refl })
rule_back names line from marks (by_step complementation p) is =
    rule_made rule.Complementation is.name (is.premise ∷ is.sets) is.whole is.says
    (record { next_column = after_of is.premise; read = rw (is.has_sets, is.number) refl })
rule_back names line from marks (by_step (maugmentation w z) p) is =
    let has = is.has_sets in
    let tail = has.colon ∷ has.narrow ++ [] in
    let wide = side-from names line (after_of has.keyword) has.wide tail None w has.wide_side
    (ap is_word_token has.is_colon) in
    let last = side-from names line (after_of has.colon) has.narrow [] None z has.narrow_side tt in
    let same : is.sets ≡ has.keyword ∷ has.wide ++ tail =
    has.whole ∙ ap (λ t. has.keyword ∷ has.wide ++ has.colon ∷ t) (sym (append-nil has.narrow)) in
    let keyword = (bytes_eq-Decides has.keyword.word (codes "with")).1 has.says.1 in
    rule_made rule.MAugmentation is.name (is.premise ∷ is.sets) is.whole is.says (record {
      next_column = last.next_column;
      read = rw (same, is.number, has.says.0, keyword, wide.read, has.is_colon, last.read) refl;
    })
rule_back names line from marks (by_step replication p) is =
    rule_made rule.Replication is.name (is.premise ∷ is.sets) is.whole is.says
    (record { next_column = after_of is.premise; read = rw (is.has_sets, is.number) refl })
rule_back names line from marks (by_pair transitivity p q) is =
    rule_made rule.Transitivity is.name (is.first ∷ is.second ∷ []) is.whole is.says
    (record { next_column = after_of is.second; read = rw (is.first_number, is.second_number) refl })
rule_back names line from marks (by_pair mtransitivity p q) is =
    rule_made rule.MTransitivity is.name (is.first ∷ is.second ∷ []) is.whole is.says
    (record { next_column = after_of is.second; read = rw (is.first_number, is.second_number) refl })
rule_back names line from marks (by_pair coalescence p q) is =
    rule_made rule.Coalescence is.name (is.first ∷ is.second ∷ []) is.whole is.says
    (record { next_column = after_of is.second; read = rw (is.first_number, is.second_number) refl })

pub ten_are_read : AreRead RuleName Body certificate_rules IsRule
ten_are_read = record { there = rule_there; back = rule_back }
