-- A line is read, or refused by its first diagnostic, where what follows the names of its rules is; so it is with
-- lines of certificates.
use Rattle.std.proofs.Common.{◌≡◌, ℕ, Bool, true, false, List, Option, None, Result, Ok, refl}
use Rattle.std.specs.Prelude.{codes}
use Rattle.std.proofs.lemmas.Bool.{false≢true}
use Rattle.derivation.specs.Trees.{augmentation, complementation, maugmentation, replication, transitivity, mtransitivity, coalescence}
use Rattle.lexer.specs.declared.token.LexError.{LexError}
use Rattle.lexer.specs.Tokens.{Mark}
use Rattle.schema_grammar.specs.declared.refusal.SchemaRefusal.{SchemaRefusal}
use Rattle.schema_grammar.specs.Rests.{Rest, ◌>>=◌, take, number, arrow, side}
use Rattle.schema_grammar.specs.Grammar as grammar
use Rattle.proof_grammar.specs.declared.rule_name.RuleName.{RuleName}
use Rattle.proof_grammar.specs.declared.rule_name.RuleName.TheVariants as rule
use Rattle.proof_grammar.specs.Lines.{NumberedLine, Rules, Body, by_given, by_reflexivity, by_mreflexivity, by_step, by_pair, one_premise, two_premises, augmentation_body, maugmentation_body, body, stated_dependency, line_by, line_by_from, certificate_rules, certificate_line}
use Rattle.proof_grammar.specs.LineDiagnostics.{RuleForm, Names, rule_form, certificate_names}
use Rattle.proof_grammar.specs.Tokens.{rule_word}
use Rattle.proof_grammar.specs.Readers.{colon, with_word}
use Rattle.proof_grammar.proofs.FormShapes.{Part, heading, lhs, rhs, by, wide, narrow, ending, nothing, second, sets, at_start, at_number, at_side, past, at_rule, shape_of_rule}
use Rattle.proof_grammar.proofs.JudgedLines.{Judged}
use Rattle.proof_grammar.proofs.JudgedSides.{side_judged}
use Rattle.proof_grammar.proofs.JudgedTokens.{left_at, in_row, NoWord, IsBeforeEnd, AreNames, first_judged, premise_judged, arrow_judged, colon_judged, with_judged, rule_judged, end_judged}

-- ---- any rules
-- what follows the rule, from any column
abbrev pub FollowsRule : {B L : Type 0} → Names → ℕ → Option LexError → (B × Rest → Result L SchemaRefusal) → Type 0
FollowsRule {B} names at stop f =
    (b : B) (words : Bool) (k : Part) (next_column : ℕ) (ms : List Mark) → IsBeforeEnd k → (words ≡ true → NoWord ms)
    → Judged (past words k) names at next_column ms stop (f (b, left_at at next_column ms stop))

-- a number with which the line ends
pub last_judged : {B L : Type 0} (make : ℕ → B) (names : Names) (at next_column : ℕ) (ms : List Mark)
    (stop : Option LexError) (f : B × Rest → Result L SchemaRefusal) → FollowsRule names at stop f
    → Judged (at_number nothing) names at next_column ms stop
    ((number (left_at at next_column ms stop) >>= λ p. Ok (make p.0, p.1)) >>= f)
last_judged make names at next_column ms stop f follows =
    in_row (at_number nothing) names at next_column ms stop (number (left_at at next_column ms stop)) _ f
    (premise_judged nothing names at next_column ms stop _ (λ p from ns. follows (make p) false ending from ns
    (refl, refl, refl, refl) (λ e. absurd (false≢true e))))

-- and two of them
pub two_judged : {B L : Type 0} (make : ℕ → ℕ → B) (names : Names) (at next_column : ℕ) (ms : List Mark)
    (stop : Option LexError) (f : B × Rest → Result L SchemaRefusal) → FollowsRule names at stop f
    → Judged (at_number second) names at next_column ms stop
    ((number (left_at at next_column ms stop) >>= λ p. number p.1 >>= λ q. Ok (make p.0 q.0, q.1)) >>= f)
two_judged make names at next_column ms stop f follows =
    in_row (at_number second) names at next_column ms stop (number (left_at at next_column ms stop)) _ f
    (premise_judged second names at next_column ms stop _
    (λ p from ns. last_judged (make p) names at from ns stop f follows))

-- what follows the names of rules is read, or refused by its first diagnostic, each by its form
abbrev pub AreJudged : {R B : Type 0} → Rules R B → (R → RuleForm) → Names → Type 0
AreJudged {R} {B} rules form_of names =
    (r : R) (at next_column : ℕ) (ms : List Mark) (stop : Option LexError)
    (f : B × Rest → Result (NumberedLine B) SchemaRefusal) → FollowsRule names at stop f
    → Judged (shape_of_rule (form_of r)) names at next_column ms stop
    (rules.body names.attributes r (left_at at next_column ms stop) >>= f)

pub line_judged_by : {R B : Type 0} (rules : Rules R B) (form_of : R → RuleForm) (names : Names)
    → AreNames rules.named form_of names → AreJudged rules form_of names
    → (at next_column : ℕ) (ms : List Mark) (stop : Option LexError)
    → Judged at_start names at next_column ms stop (line_by rules names.attributes (left_at at next_column ms stop))
unfolding line_by line_by_from stated_dependency take
line_judged_by rules form_of names same are at next_column ms stop =
    first_judged names at next_column ms stop _
    (λ n a ks. colon_judged false heading (at_side lhs) names at a ks stop _ (refl, refl, refl, refl)
    (λ e. absurd (false≢true e))
    (λ b bs. in_row (at_side lhs) names at b bs stop (side names.attributes (left_at at b bs stop)) _ _
    (side_judged lhs names at b bs stop _
    (λ x not_empty c cs none. in_row _ names at c cs stop (arrow (left_at at c cs stop)) _ _
    (arrow_judged not_empty names at c cs stop _ none
    (λ s d ds. in_row (at_side rhs) names at d ds stop (side names.attributes (left_at at d ds stop)) _ _
    (side_judged rhs names at d ds stop _
    (λ y words e es end. colon_judged words rhs at_rule names at e es stop _ (refl, refl, refl, refl) end
    (λ f fs. rule_judged rules.named form_of names at f fs stop _ same
    (λ r g gs. are r at g gs stop _
    (λ z more k h hs is last.
    end_judged more k names at h hs stop
    (record { number = n; stated = grammar.dependency_of_sign s x y; body = z }) is last)))))))))))

-- ---- those of certificates
pub body_judged : {L : Type 0} (names : Names) → names.rules (codes "with") ≡ None → (r : RuleName) (at next_column : ℕ)
    (ms : List Mark) (stop : Option LexError) (f : Body × Rest → Result L SchemaRefusal) → FollowsRule names at stop f
    → Judged (shape_of_rule (rule_form r)) names at next_column ms stop
    (body names.attributes r (left_at at next_column ms stop) >>= f)
unfolding body one_premise two_premises augmentation_body maugmentation_body
body_judged names no_rule rule.Given at next_column ms stop f follows =
    last_judged by_given names at next_column ms stop f follows
body_judged names no_rule rule.Reflexivity at next_column ms stop f follows =
    follows by_reflexivity false ending next_column ms (refl, refl, refl, refl) (λ e. absurd (false≢true e))
body_judged names no_rule rule.MReflexivity at next_column ms stop f follows =
    follows by_mreflexivity false ending next_column ms (refl, refl, refl, refl) (λ e. absurd (false≢true e))
body_judged names no_rule rule.Augmentation at next_column ms stop f follows =
    in_row (at_number (sets by)) names at next_column ms stop (number (left_at at next_column ms stop)) _ f
    (premise_judged (sets by) names at next_column ms stop _
    (λ p from ns. in_row _ names at from ns stop (with_word (left_at at from ns stop)) _ f
    (with_judged by names at from ns stop _ no_rule
    (λ to ks. in_row _ names at to ks stop (side names.attributes (left_at at to ks stop)) _ f
    (side_judged by names at to ks stop _
    (λ z words last ls none. follows (by_step (augmentation z) p) words by last ls (refl, refl, refl, refl) none))))))
body_judged names no_rule rule.MAugmentation at next_column ms stop f follows =
    in_row (at_number (sets wide)) names at next_column ms stop (number (left_at at next_column ms stop)) _ f
    (premise_judged (sets wide) names at next_column ms stop _
    (λ p from ns. in_row _ names at from ns stop (with_word (left_at at from ns stop)) _ f
    (with_judged wide names at from ns stop _ no_rule
    (λ to ks. in_row _ names at to ks stop (side names.attributes (left_at at to ks stop)) _ f
    (side_judged wide names at to ks stop _
    (λ w not_empty middle ls none. in_row _ names at middle ls stop (colon (left_at at middle ls stop)) _ f
    (colon_judged not_empty wide (at_side narrow) names at middle ls stop _ (refl, refl, refl, refl) none
    (λ then_from rs. in_row _ names at then_from rs stop (side names.attributes (left_at at then_from rs stop)) _ f
    (side_judged narrow names at then_from rs stop _ (λ z words last ts end.
    follows (by_step (maugmentation w z) p) words narrow last ts (refl, refl, refl, refl) end))))))))))
body_judged names no_rule rule.Complementation at next_column ms stop f follows =
    last_judged (by_step complementation) names at next_column ms stop f follows
body_judged names no_rule rule.Replication at next_column ms stop f follows =
    last_judged (by_step replication) names at next_column ms stop f follows
body_judged names no_rule rule.Transitivity at next_column ms stop f follows =
    two_judged (by_pair transitivity) names at next_column ms stop f follows
body_judged names no_rule rule.MTransitivity at next_column ms stop f follows =
    two_judged (by_pair mtransitivity) names at next_column ms stop f follows
body_judged names no_rule rule.Coalescence at next_column ms stop f follows =
    two_judged (by_pair coalescence) names at next_column ms stop f follows

pub line_judged : (names : List (List ℕ)) (at next_column : ℕ) (ms : List Mark) (stop : Option LexError)
    → Judged at_start (certificate_names names) at next_column ms stop
    (certificate_line names (left_at at next_column ms stop))
unfolding rule_word
line_judged names =
    line_judged_by certificate_rules rule_form (certificate_names names) (λ word. refl)
    (λ r. body_judged (certificate_names names) refl r)
