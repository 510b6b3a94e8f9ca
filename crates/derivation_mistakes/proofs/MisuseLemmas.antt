-- That a reason is the first, and that it is one.
use Rattle.std.proofs.Common.{◌≡◌, inl, inr, ◌<◌, ◌≤◌, ℕ, Bool, true, false, List, [], ◌∷◌, Option, Some, Result, Err, refl, sym, ◌∙◌, ap, subst, arith}
use Rattle.std.specs.Prelude.{◌==◌, if◌then◌else◌, option_map}
use Rattle.schema_model.specs.Schemas.{Schema}
use Rattle.dep_model.specs.Dependencies.{Dependency, fd, mvd, is_fd}
use Rattle.attr_sets.specs.Attributes.{Attributes}
use Rattle.derivation.specs.declared.fault.FaultKind.{FaultKind}
use Rattle.derivation_grammar.specs.Derivations.{stated_at, outcome_of_line}
use Rattle.derivation_grammar.specs.Lines.{DerivationBody}
use Rattle.derivation_mistakes.specs.declared.misuse.Misuse.{Misuse}
use Rattle.derivation_mistakes.specs.declared.misuse.Misuse.TheVariants.{AnotherKind, NotTheLeftSide, LeftSidesDiffer, NotWithinLeftSide, AnotherLeftSide, NotWithinRightSide, Fault}
use Rattle.derivation_mistakes.specs.FaultReasons.{second_if}
use Rattle.derivation_mistakes.specs.Misuses.{Wanted, kind_at, wanted_by, IsFirstOfAnotherKind, Asked, nothing, chain, same_left, within_left, part, asked_by, Lacks, Hinders, misuse_rank, IsMisuse}

-- ---- kinds
pub kind_of : (before : List Dependency) (p : ℕ) (x : Dependency) → stated_at before p ≡ Some x
    → kind_at before p ≡ Some (is_fd x)
kind_of before p x at = ap (option_map is_fd) at

some_true : Some true ≡ Some false → ⊥
some_true e = cc

pub functional_differs : (before : List Dependency) (p : ℕ) (x y : Attributes) → stated_at before p ≡ Some (fd x y)
    → kind_at before p ≡ Some false → ⊥
functional_differs before p x y at same = some_true (sym (kind_of before p (fd x y) at) ∙ same)

pub multivalued_differs : (before : List Dependency) (p : ℕ) (x y : Attributes) → stated_at before p ≡ Some (mvd x y)
    → kind_at before p ≡ Some true → ⊥
multivalued_differs before p x y at same = some_true (sym same ∙ kind_of before p (mvd x y) at)

-- no premise is of another kind
pub none_of_one : (before : List Dependency) (w : Wanted) → kind_at before w.line ≡ w.kind
    → (m : ℕ) → IsFirstOfAnotherKind before (w ∷ []) m → ⊥
none_of_one before w right m (inl other) = other.0 right
none_of_one before w right m (inr later) = absurd later.1

pub none_of_two : (before : List Dependency) (w u : Wanted) → kind_at before w.line ≡ w.kind → kind_at before u.line ≡ u.kind
    → (m : ℕ) → IsFirstOfAnotherKind before (w ∷ u ∷ []) m → ⊥
none_of_two before w u right also m (inl other) = other.0 right
none_of_two before w u right also m (inr (same, inl other)) = other.0 also
none_of_two before w u right also m (inr (same, inr later)) = absurd later.1

-- ---- what is first
module _ (s : Schema) (before : List Dependency) (stated : Dependency) (body : DerivationBody) (kind : FaultKind)
    (gives : outcome_of_line s before stated body ≡ Some (Err kind))
  where
    pub first_wrong : (w : Wanted) (ws : List Wanted) → wanted_by before body ≡ w ∷ ws → (kind_at before w.line ≡ w.kind → ⊥)
        → IsMisuse s before stated body (AnotherKind w.line)
    first_wrong w ws wanted other = record {
      kind = kind;
      gives_nothing = gives;
      hinders = subst (λ (all : List Wanted). IsFirstOfAnotherKind before all w.line) (sym wanted) (inl (other, refl));
      first = λ c h. omega arith;
    }

    pub second_wrong : (w u : Wanted) (ws : List Wanted) → wanted_by before body ≡ w ∷ u ∷ ws
        → kind_at before w.line ≡ w.kind → (kind_at before u.line ≡ u.kind → ⊥)
        → IsMisuse s before stated body (AnotherKind u.line)
    second_wrong w u ws wanted right other = record {
      kind = kind;
      gives_nothing = gives;
      hinders = subst (λ (all : List Wanted). IsFirstOfAnotherKind before all u.line) (sym wanted) (inr (right, inl (other, refl)));
      first = λ c h. omega arith;
    }

    -- the same, as the code names them
    pub first_of_two : (b : Bool) (w u : Wanted) → wanted_by before body ≡ w ∷ u ∷ [] → b ≡ false
        → (kind_at before w.line ≡ w.kind → ⊥) → IsMisuse s before stated body (second_if b w.line u.line)
    first_of_two b w u wanted is other = rw is (first_wrong w (u ∷ []) wanted other)

    pub second_of_two : (b : Bool) (w u : Wanted) → wanted_by before body ≡ w ∷ u ∷ [] → b ≡ true
        → kind_at before w.line ≡ w.kind → (kind_at before u.line ≡ u.kind → ⊥)
        → IsMisuse s before stated body (second_if b w.line u.line)
    second_of_two b w u wanted is right other = rw is (second_wrong w u [] wanted right other)

    pub side_wrong : (why : Misuse) → misuse_rank why ≤ 1 → Hinders s before stated body why
        → ((m : ℕ) → IsFirstOfAnotherKind before (wanted_by before body) m → ⊥) → IsMisuse s before stated body why
    side_wrong why low hinders none = record { kind = kind; gives_nothing = gives; hinders = hinders; first = at_least }
      where
        at_least : (other : Misuse) → Hinders s before stated body other → misuse_rank why ≤ misuse_rank other
        at_least (AnotherKind m) h = absurd (none m h)
        at_least (NotTheLeftSide m k) h = low
        at_least (LeftSidesDiffer m k) h = low
        at_least (NotWithinLeftSide m k) h = low
        at_least (AnotherLeftSide m) h = low
        at_least (NotWithinRightSide m) h = omega (arith, low)
        at_least (Fault other) h = omega (arith, low)

    -- the right side alone, where the left side that is stated is that of the premise
    pub right_wrong : (p : ℕ) → asked_by body ≡ part p → Hinders s before stated body (NotWithinRightSide p)
        → ((m : ℕ) → IsFirstOfAnotherKind before (wanted_by before body) m → ⊥)
        → ((m : ℕ) → Hinders s before stated body (AnotherLeftSide m) → ⊥)
        → IsMisuse s before stated body (NotWithinRightSide p)
    right_wrong p asked hinders none same = record { kind = kind; gives_nothing = gives; hinders = hinders; first = at_least }
      where
        of_part : (other : Misuse) → Lacks before stated (asked_by body) other → Lacks before stated (part p) other
        of_part other h = subst (λ a. Lacks before stated a other) asked h

        at_least : (other : Misuse) → Hinders s before stated body other → 2 ≤ misuse_rank other
        at_least (AnotherKind m) h = absurd (none m h)
        at_least (NotTheLeftSide m k) h = absurd (of_part (NotTheLeftSide m k) h)
        at_least (LeftSidesDiffer m k) h = absurd (of_part (LeftSidesDiffer m k) h)
        at_least (NotWithinLeftSide m k) h = absurd (of_part (NotWithinLeftSide m k) h)
        at_least (AnotherLeftSide m) h = absurd (same m h)
        at_least (NotWithinRightSide m) h = omega arith
        at_least (Fault other) h = omega arith

    -- the fault, where nothing is asked of sides
    pub fault_wrong : asked_by body ≡ nothing → ((m : ℕ) → IsFirstOfAnotherKind before (wanted_by before body) m → ⊥)
        → IsMisuse s before stated body (Fault kind)
    fault_wrong asked none = record { kind = kind; gives_nothing = gives; hinders = gives; first = at_least }
      where
        of_nothing : (other : Misuse) → Lacks before stated (asked_by body) other → Lacks before stated nothing other
        of_nothing other h = subst (λ a. Lacks before stated a other) asked h

        at_least : (other : Misuse) → Hinders s before stated body other → 3 ≤ misuse_rank other
        at_least (AnotherKind m) h = absurd (none m h)
        at_least (NotTheLeftSide m k) h = absurd (of_nothing (NotTheLeftSide m k) h)
        at_least (LeftSidesDiffer m k) h = absurd (of_nothing (LeftSidesDiffer m k) h)
        at_least (NotWithinLeftSide m k) h = absurd (of_nothing (NotWithinLeftSide m k) h)
        at_least (AnotherLeftSide m) h = absurd (of_nothing (AnotherLeftSide m) h)
        at_least (NotWithinRightSide m) h = absurd (of_nothing (NotWithinRightSide m) h)
        at_least (Fault other) h = omega arith

-- ---- one reason
one_first : (before : List Dependency) (ws : List Wanted) (m k : ℕ) → IsFirstOfAnotherKind before ws m
    → IsFirstOfAnotherKind before ws k → m ≡ k
one_first before [] m k h g = absurd h
one_first before (w ∷ ws) m k (inl h) (inl g) = h.1 ∙ sym g.1
one_first before (w ∷ ws) m k (inl h) (inr g) = absurd (h.0 g.0)
one_first before (w ∷ ws) m k (inr h) (inl g) = absurd (g.0 h.0)
one_first before (w ∷ ws) m k (inr h) (inr g) = one_first before ws m k h.1 g.1

-- what is lacking of what is asked, by its rank
lacking : Asked → ℕ → Misuse
lacking (chain p q) rank = NotTheLeftSide p q
lacking (same_left p q) rank = LeftSidesDiffer p q
lacking (within_left p q) rank = NotWithinLeftSide p q
lacking (part p) rank = if rank == 1 then AnotherLeftSide p else NotWithinRightSide p
lacking nothing rank = NotWithinRightSide 0

lacks_that : (before : List Dependency) (stated : Dependency) (a : Asked) (c : Misuse) → Lacks before stated a c
    → c ≡ lacking a (misuse_rank c)
unfolding lacking
lacks_that before stated (chain p q) (NotTheLeftSide m k) h = (λ i. NotTheLeftSide (h.0 i) (h.1 i))
lacks_that before stated (same_left p q) (LeftSidesDiffer m k) h = (λ i. LeftSidesDiffer (h.0 i) (h.1 i))
lacks_that before stated (within_left p q) (NotWithinLeftSide m k) h = (λ i. NotWithinLeftSide (h.0 i) (h.1 i))
lacks_that before stated (part p) (AnotherLeftSide m) h = ap AnotherLeftSide h.0
lacks_that before stated (part p) (NotWithinRightSide m) h = ap NotWithinRightSide h.0
lacks_that before stated a c h = absurd h

module _ (s : Schema) (before : List Dependency) (stated : Dependency) (body : DerivationBody) where
  -- a reason between the first rank and the last is that something is lacking
  middle : (d : Misuse) → 0 < misuse_rank d → misuse_rank d < 3 → Hinders s before stated body d
      → d ≡ lacking (asked_by body) (misuse_rank d)
  middle (AnotherKind m) more less h = absurd (omega (arith, more))
  middle (NotTheLeftSide m k) more less h = lacks_that before stated (asked_by body) (NotTheLeftSide m k) h
  middle (LeftSidesDiffer m k) more less h = lacks_that before stated (asked_by body) (LeftSidesDiffer m k) h
  middle (NotWithinLeftSide m k) more less h = lacks_that before stated (asked_by body) (NotWithinLeftSide m k) h
  middle (AnotherLeftSide m) more less h = lacks_that before stated (asked_by body) (AnotherLeftSide m) h
  middle (NotWithinRightSide m) more less h = lacks_that before stated (asked_by body) (NotWithinRightSide m) h
  middle (Fault kind) more less h = absurd (omega (arith, less))

  both_middle : (c d : Misuse) → misuse_rank c ≡ misuse_rank d → 0 < misuse_rank c → misuse_rank c < 3
      → Hinders s before stated body c → Hinders s before stated body d → c ≡ d
  both_middle c d same more less h g =
      middle c more less h ∙ ap (lacking (asked_by body)) same
      ∙ sym (middle d (omega (arith, same, more)) (omega (arith, same, less)) g)

  another_kind : (m : ℕ) (d : Misuse) → 0 ≡ misuse_rank d → IsFirstOfAnotherKind before (wanted_by before body) m
      → Hinders s before stated body d → AnotherKind m ≡ d
  another_kind m (AnotherKind k) same h g = ap AnotherKind (one_first before (wanted_by before body) m k h g)
  another_kind m (NotTheLeftSide p k) same h g = absurd (omega (arith, same))
  another_kind m (LeftSidesDiffer p k) same h g = absurd (omega (arith, same))
  another_kind m (NotWithinLeftSide p k) same h g = absurd (omega (arith, same))
  another_kind m (AnotherLeftSide p) same h g = absurd (omega (arith, same))
  another_kind m (NotWithinRightSide p) same h g = absurd (omega (arith, same))
  another_kind m (Fault kind) same h g = absurd (omega (arith, same))

  same_fault : (kind : FaultKind) (d : Misuse) → 3 ≡ misuse_rank d → outcome_of_line s before stated body ≡ Some (Err kind)
      → Hinders s before stated body d → Fault kind ≡ d
  same_fault kind (AnotherKind k) same h g = absurd (omega (arith, same))
  same_fault kind (NotTheLeftSide p k) same h g = absurd (omega (arith, same))
  same_fault kind (LeftSidesDiffer p k) same h g = absurd (omega (arith, same))
  same_fault kind (NotWithinLeftSide p k) same h g = absurd (omega (arith, same))
  same_fault kind (AnotherLeftSide p) same h g = absurd (omega (arith, same))
  same_fault kind (NotWithinRightSide p) same h g = absurd (omega (arith, same))
  same_fault kind (Fault other) same h g =
      let both : ◌≡◌ {A = Option (Result Dependency FaultKind)} (Some (Err kind)) (Some (Err other)) = sym h ∙ g in
      let one : kind ≡ other = cc in
      ap Fault one

  one_of_rank : (c d : Misuse) → misuse_rank c ≡ misuse_rank d → Hinders s before stated body c → Hinders s before stated body d
      → c ≡ d
  one_of_rank (AnotherKind m) d same h g = another_kind m d same h g
  one_of_rank (NotTheLeftSide m k) d same h g = both_middle (NotTheLeftSide m k) d same (omega arith) (omega arith) h g
  one_of_rank (LeftSidesDiffer m k) d same h g = both_middle (LeftSidesDiffer m k) d same (omega arith) (omega arith) h g
  one_of_rank (NotWithinLeftSide m k) d same h g = both_middle (NotWithinLeftSide m k) d same (omega arith) (omega arith) h g
  one_of_rank (AnotherLeftSide m) d same h g = both_middle (AnotherLeftSide m) d same (omega arith) (omega arith) h g
  one_of_rank (NotWithinRightSide m) d same h g = both_middle (NotWithinRightSide m) d same (omega arith) (omega arith) h g
  one_of_rank (Fault kind) d same h g = same_fault kind d same h g

  pub one_misuse : (c d : Misuse) → IsMisuse s before stated body c → IsMisuse s before stated body d → c ≡ d
  one_misuse c d first other =
      let same : misuse_rank c ≡ misuse_rank d = omega (arith, first.first d other.hinders, other.first c first.hinders) in
      one_of_rank c d same first.hinders other.hinders
