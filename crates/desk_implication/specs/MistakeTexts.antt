-- What is printed of a line of a derivation with which something is wrong: for `check derivation`.
use Rattle.std.specs.Prelude.{ℕ, Bool, true, false, List, ◌++◌, codes}
use Rattle.std.specs.List.{flat_map}
use Rattle.std.specs.Fmt.{decimal}
use Rattle.derivation.specs.FaultTexts.{fault_text}
use Rattle.derivation.specs.Trees.{Step, augmentation, complementation, maugmentation, replication, Pair}
use Rattle.derivation.specs.Trees.{transitivity, mtransitivity, coalescence}
use Rattle.proof_grammar.specs.Lines.{by_given, by_reflexivity, by_mreflexivity, by_step, by_pair}
use Rattle.schema_printer.specs.Printing.{dependency_text}
use Rattle.derivation_grammar.specs.Lines.{DerivationBody, by_rule, by_decomposition, by_further}
use Rattle.derivation_grammar.specs.Meanings.{further_name}
use Rattle.derivation_mistakes.specs.declared.misuse.Misuse.{Misuse}
use Rattle.derivation_mistakes.specs.declared.misuse.Misuse.TheVariants.{AnotherKind, NotTheLeftSide, LeftSidesDiffer}
use Rattle.derivation_mistakes.specs.declared.misuse.Misuse.TheVariants.{NotWithinLeftSide, AnotherLeftSide}
use Rattle.derivation_mistakes.specs.declared.misuse.Misuse.TheVariants.{NotWithinRightSide, Fault}
use Rattle.derivation_mistakes.specs.Mistakes.{Mistake, does_not_apply, gives, MistakenLine}
use Rattle.desk_texts.specs.Texts.{line}

-- ---- a rule
abbrev pub step_name : Step → List ℕ
step_name (augmentation z) = codes "augmentation"
step_name complementation = codes "complementation"
step_name (maugmentation w z) = codes "maugmentation"
step_name replication = codes "replication"

abbrev pub pair_name : Pair → List ℕ
pair_name transitivity = codes "transitivity"
pair_name mtransitivity = codes "mtransitivity"
pair_name coalescence = codes "coalescence"

-- a name and a number, and a name and two
abbrev pub with_number : List ℕ → ℕ → List ℕ
with_number name p = name ++ codes " " ++ decimal p

abbrev pub with_numbers : List ℕ → ℕ → ℕ → List ℕ
with_numbers name p q = with_number name p ++ codes " " ++ decimal q

-- a rule with its numbers, without its sets
abbrev pub rule_text : DerivationBody → List ℕ
rule_text (by_rule (by_given k)) = with_number (codes "given") k
rule_text (by_rule by_reflexivity) = codes "reflexivity"
rule_text (by_rule by_mreflexivity) = codes "mreflexivity"
rule_text (by_rule (by_step r p)) = with_number (step_name r) p
rule_text (by_rule (by_pair r p q)) = with_numbers (pair_name r) p q
rule_text (by_decomposition p) = with_number (codes "decomposition") p
rule_text (by_further r p q) = with_numbers (further_name r) p q

-- ---- what is wrong
-- why a rule does not apply
abbrev pub misuse_text : Misuse → List ℕ
misuse_text (AnotherKind m) = codes "line " ++ decimal m ++ codes " is of another kind"
misuse_text (NotTheLeftSide m k) =
    codes "the right side of " ++ decimal m ++ codes " is not the left side of " ++ decimal k
misuse_text (LeftSidesDiffer m k) =
    codes "the left sides of " ++ decimal m ++ codes " and " ++ decimal k ++ codes " differ"
misuse_text (NotWithinLeftSide m k) =
    codes "the right side of " ++ decimal m ++ codes " does not lie within the left side of " ++ decimal k
misuse_text (AnotherLeftSide m) = codes "the left side is not that of " ++ decimal m
misuse_text (NotWithinRightSide m) = codes "the right side does not lie within that of " ++ decimal m
misuse_text (Fault kind) = fault_text kind

abbrev pub mistake_text : List (List ℕ) → Mistake → List ℕ
mistake_text names (does_not_apply why) = codes " does not apply: " ++ misuse_text why
mistake_text names (gives d) = codes " gives " ++ dependency_text names d

abbrev pub follows_text : Bool → List ℕ
follows_text true = codes " follows"
follows_text false = codes " does not follow"

-- the line's own number, its rule and what is wrong; below it whether what it states follows
abbrev pub mistaken_line_text : List (List ℕ) → MistakenLine → List ℕ
mistaken_line_text names w =
    line (codes "line " ++ decimal w.line.number ++ codes ": " ++ rule_text w.line.body ++ mistake_text names w.mistake)
    ++ line (codes "  " ++ dependency_text names w.line.stated ++ follows_text w.follows)

abbrev pub mistaken_lines_text : List (List ℕ) → List MistakenLine → List ℕ
mistaken_lines_text names found = flat_map (mistaken_line_text names) found
