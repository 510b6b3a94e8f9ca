-- Which reason a fault of the rule table stands for: for the functions below `misuse_of`. `Desk` does not
-- cite it.
use Rattle.std.specs.Prelude.{ℕ, Bool, true, false, if◌then◌else◌, List, Option, None, Some}
use Rattle.attr_sets.specs.Sets.{is_same}
use Rattle.dep_model.specs.Dependencies.{Dependency, is_fd, left_of}
use Rattle.derivation.specs.declared.fault.FaultKind.{FaultKind}
use Rattle.derivation.specs.declared.fault.FaultKind.TheVariants.{NotWithin, WrongKind, MiddleDiffers}
use Rattle.derivation.specs.Trees.{Pair, transitivity}
use Rattle.proof_grammar.specs.Lines.{by_step, by_pair}
use Rattle.derivation_rules.specs.FurtherRules.{Further}
use Rattle.derivation_rules.specs.FurtherRules as further
use Rattle.derivation_grammar.specs.Derivations.{stated_at}
use Rattle.derivation_grammar.specs.Lines.{DerivationBody, by_rule, by_decomposition, by_further}
use Rattle.derivation_mistakes.specs.declared.misuse.Misuse.{Misuse}
use Rattle.derivation_mistakes.specs.declared.misuse.Misuse.TheVariants.{AnotherKind, NotTheLeftSide, LeftSidesDiffer}
use Rattle.derivation_mistakes.specs.declared.misuse.Misuse.TheVariants.{NotWithinLeftSide, AnotherLeftSide}
use Rattle.derivation_mistakes.specs.declared.misuse.Misuse.TheVariants.{NotWithinRightSide, Fault}

-- the second of two premises where the first states a dependency of this kind, else the first
abbrev pub second_if : Bool → ℕ → ℕ → Misuse
second_if first_right p q = if first_right then AnotherKind q else AnotherKind p

abbrev pub is_functional_at : Option Dependency → Bool
is_functional_at None = false
is_functional_at (Some d) = is_fd d

abbrev pub is_multivalued_at : Option Dependency → Bool
is_multivalued_at None = false
is_multivalued_at (Some d) = if is_fd d then false else true

-- ---- the rules of certificates
abbrev pub step_misuse : ℕ → FaultKind → Misuse
step_misuse p WrongKind = AnotherKind p
step_misuse p kind = Fault kind

-- whether the first premise is of the kind that the rule takes
abbrev pub takes_first : Pair → Option Dependency → Bool
takes_first transitivity first = is_functional_at first
takes_first _ first = is_multivalued_at first

abbrev pub pair_misuse : List Dependency → Pair → ℕ → ℕ → FaultKind → Misuse
pair_misuse before r p q WrongKind = second_if (takes_first r (stated_at before p)) p q
pair_misuse before r p q MiddleDiffers = NotTheLeftSide p q
pair_misuse before r p q kind = Fault kind

-- ---- the further rules
-- of decomposition, whose left side is compared first
abbrev pub side_misuse : Dependency → ℕ → Option Dependency → Misuse
side_misuse stated p None = NotWithinRightSide p
side_misuse stated p (Some d) = if is_same (left_of stated) (left_of d) then NotWithinRightSide p
    else AnotherLeftSide p

abbrev pub part_misuse : List Dependency → Dependency → ℕ → FaultKind → Misuse
part_misuse before stated p WrongKind = AnotherKind p
part_misuse before stated p NotWithin = side_misuse stated p (stated_at before p)
part_misuse before stated p kind = Fault kind

abbrev pub takes_first_of : Further → Option Dependency → Bool
takes_first_of further.union first = true
takes_first_of further.pseudotransitivity first = is_functional_at first
takes_first_of _ first = is_multivalued_at first

-- what two premises of one kind lack
abbrev pub sides_misuse : Further → ℕ → ℕ → Misuse
sides_misuse further.pseudotransitivity p q = NotWithinLeftSide p q
sides_misuse further.mpseudotransitivity p q = NotWithinLeftSide p q
sides_misuse _ p q = LeftSidesDiffer p q

abbrev pub further_misuse : List Dependency → Further → ℕ → ℕ → FaultKind → Misuse
further_misuse before r p q WrongKind = second_if (takes_first_of r (stated_at before p)) p q
further_misuse before r p q MiddleDiffers = sides_misuse r p q
further_misuse before r p q kind = Fault kind

-- ---- any rule
abbrev pub misuse_of : List Dependency → Dependency → DerivationBody → FaultKind → Misuse
misuse_of before stated (by_rule (by_step r p)) kind = step_misuse p kind
misuse_of before stated (by_rule (by_pair r p q)) kind = pair_misuse before r p q kind
misuse_of before stated (by_rule _) kind = Fault kind
misuse_of before stated (by_decomposition p) kind = part_misuse before stated p kind
misuse_of before stated (by_further r p q) kind = further_misuse before r p q kind
