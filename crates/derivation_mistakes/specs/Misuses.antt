-- Why the rule of a line does not apply to what the lines before state: for what is wrong with a line.
use Rattle.std.specs.Prelude.{◌≡◌, ◌⊎◌, ◌≤◌, ℕ, Bool, true, false, List, [], ◌∷◌, Option, Some, option_map, Err}
use Rattle.attr_sets.specs.Sets.{is_same, is_subset}
use Rattle.schema_model.specs.Schemas.{Schema}
use Rattle.dep_model.specs.Dependencies.{Dependency, is_fd, left_of, right_of}
use Rattle.derivation.specs.declared.fault.FaultKind.{FaultKind}
use Rattle.derivation.specs.Trees.{augmentation, complementation, maugmentation, replication, transitivity}
use Rattle.derivation.specs.Trees.{mtransitivity, coalescence}
use Rattle.proof_grammar.specs.Lines.{by_step, by_pair}
use Rattle.derivation_rules.specs.FurtherRules as further
use Rattle.derivation_grammar.specs.Derivations.{stated_at, outcome_of_line}
use Rattle.derivation_grammar.specs.Lines.{DerivationBody, by_rule, by_decomposition, by_further}
use Rattle.derivation_mistakes.specs.declared.misuse.Misuse.{Misuse}
use Rattle.derivation_mistakes.specs.declared.misuse.Misuse.TheVariants.{AnotherKind, NotTheLeftSide, LeftSidesDiffer}
use Rattle.derivation_mistakes.specs.declared.misuse.Misuse.TheVariants.{NotWithinLeftSide, AnotherLeftSide}
use Rattle.derivation_mistakes.specs.declared.misuse.Misuse.TheVariants.{NotWithinRightSide, Fault}

-- ---- the kinds of premises
-- whether a line states a functional dependency
abbrev pub kind_at : List Dependency → ℕ → Option Bool
kind_at before p = option_map is_fd (stated_at before p)

-- a premise of a rule, with the kind that the rule takes there
pub record Wanted : Type 0 where
  pub line : ℕ
  pub kind : Option Bool

abbrev pub functional : ℕ → Wanted
functional p = record { line = p; kind = Some true }

abbrev pub multivalued : ℕ → Wanted
multivalued p = record { line = p; kind = Some false }

-- the kinds that a rule takes, premise by premise; union takes two of one kind
abbrev pub wanted_by : List Dependency → DerivationBody → List Wanted
wanted_by before (by_rule (by_step (augmentation z) p)) = functional p ∷ []
wanted_by before (by_rule (by_step complementation p)) = multivalued p ∷ []
wanted_by before (by_rule (by_step (maugmentation w z) p)) = multivalued p ∷ []
wanted_by before (by_rule (by_step replication p)) = functional p ∷ []
wanted_by before (by_rule (by_pair transitivity p q)) = functional p ∷ functional q ∷ []
wanted_by before (by_rule (by_pair mtransitivity p q)) = multivalued p ∷ multivalued q ∷ []
wanted_by before (by_rule (by_pair coalescence p q)) = multivalued p ∷ functional q ∷ []
wanted_by before (by_rule _) = []
wanted_by before (by_decomposition p) = functional p ∷ []
wanted_by before (by_further further.union p q) = record { line = q; kind = kind_at before p } ∷ []
wanted_by before (by_further further.pseudotransitivity p q) = functional p ∷ functional q ∷ []
wanted_by before (by_further further.intersection p q) = multivalued p ∷ multivalued q ∷ []
wanted_by before (by_further further.difference p q) = multivalued p ∷ multivalued q ∷ []
wanted_by before (by_further further.mpseudotransitivity p q) = multivalued p ∷ multivalued q ∷ []

-- the first premise of another kind than the rule takes is line m
abbrev pub IsFirstOfAnotherKind : List Dependency → List Wanted → ℕ → Type 0
IsFirstOfAnotherKind before [] m = ⊥
IsFirstOfAnotherKind before (w ∷ ws) m =
    ((kind_at before w.line ≡ w.kind → ⊥) × (m ≡ w.line))
    ⊎ ((kind_at before w.line ≡ w.kind) × IsFirstOfAnotherKind before ws m)

-- ---- the sides of premises
-- what a rule asks of the sides of its premises: that the right side of the one is the left side of the
-- other, that their left sides are the same, that the right side of the one lies within the left side of the
-- other, or that what is stated has the premise's left side and a part of its right side
pub data Asked : Type 0 where
  nothing : Asked
  chain : ℕ → ℕ → Asked
  same_left : ℕ → ℕ → Asked
  within_left : ℕ → ℕ → Asked
  part : ℕ → Asked

abbrev pub asked_by : DerivationBody → Asked
asked_by (by_rule (by_pair transitivity p q)) = chain p q
asked_by (by_rule (by_pair mtransitivity p q)) = chain p q
asked_by (by_rule _) = nothing
asked_by (by_decomposition p) = part p
asked_by (by_further further.union p q) = same_left p q
asked_by (by_further further.intersection p q) = same_left p q
asked_by (by_further further.difference p q) = same_left p q
asked_by (by_further further.pseudotransitivity p q) = within_left p q
asked_by (by_further further.mpseudotransitivity p q) = within_left p q

-- a test fails of what a line states, or of what two lines state
abbrev pub Fails : List Dependency → ℕ → (Dependency → Bool) → Type 0
Fails before p test = (x : Dependency) × (stated_at before p ≡ Some x) × (test x ≡ false)

abbrev pub FailsOfTwo : List Dependency → ℕ → ℕ → (Dependency → Dependency → Bool) → Type 0
FailsOfTwo before p q test =
    (x y : Dependency) × (stated_at before p ≡ Some x) × (stated_at before q ≡ Some y) × (test x y ≡ false)

-- the premises lack what is asked of their sides; m and k are their numbers
abbrev pub Lacks : List Dependency → Dependency → Asked → Misuse → Type 0
Lacks before stated (chain p q) (NotTheLeftSide m k) =
    (m ≡ p) × (k ≡ q) × FailsOfTwo before p q (λ x y. is_same (right_of x) (left_of y))
Lacks before stated (same_left p q) (LeftSidesDiffer m k) =
    (m ≡ p) × (k ≡ q) × FailsOfTwo before p q (λ x y. is_same (left_of x) (left_of y))
Lacks before stated (within_left p q) (NotWithinLeftSide m k) =
    (m ≡ p) × (k ≡ q) × FailsOfTwo before p q (λ x y. is_subset (right_of x) (left_of y))
Lacks before stated (part p) (AnotherLeftSide m) =
    (m ≡ p) × Fails before p (λ x. is_same (left_of stated) (left_of x))
Lacks before stated (part p) (NotWithinRightSide m) =
    (m ≡ p) × Fails before p (λ x. is_subset (right_of stated) (right_of x))
Lacks before stated _ _ = ⊥

-- ---- why a rule does not apply
-- what a reason says is so
abbrev pub Hinders : Schema → List Dependency → Dependency → DerivationBody → Misuse → Type 0
Hinders s before stated body (AnotherKind m) = IsFirstOfAnotherKind before (wanted_by before body) m
Hinders s before stated body (Fault kind) = outcome_of_line s before stated body ≡ Some (Err kind)
Hinders s before stated body why = Lacks before stated (asked_by body) why

-- the order of reasons: kinds first, then what the rule asks of sides, then the fault that certificates have
abbrev pub misuse_rank : Misuse → ℕ
misuse_rank (AnotherKind m) = 0
misuse_rank (NotTheLeftSide m k) = 1
misuse_rank (LeftSidesDiffer m k) = 1
misuse_rank (NotWithinLeftSide m k) = 1
misuse_rank (AnotherLeftSide m) = 1
misuse_rank (NotWithinRightSide m) = 2
misuse_rank (Fault kind) = 3

-- the rule of a line gives nothing, and this is the first reason
pub record IsMisuse (s : Schema) (before : List Dependency) (stated : Dependency) (body : DerivationBody)
    (why : Misuse) : Type 0 where
  pub kind : FaultKind
  pub gives_nothing : outcome_of_line s before stated body ≡ Some (Err kind)
  pub hinders : Hinders s before stated body why
  pub first : (other : Misuse) → Hinders s before stated body other → misuse_rank why ≤ misuse_rank other
