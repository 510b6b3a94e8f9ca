-- What is left to prove of `outside_all`: its clause `members` and that the invariant of its loop
-- holds at first and stays.
use Rattle.std.proofs.Common.{◌≡◌, ℕ, ◌+◌, ◌<◌, ◌↔◌, true, false, List, length, get_or, sym, ap, subst, ◌∙◌, inl, inr, arith}
use Rattle.std.proofs.lemmas.Bool.{cases_eq}
use Rattle.std.proofs.lemmas.List.{get_or_default}
use Rattle.attr_sets.specs.Attributes.{Attributes, difference}
use Rattle.attr_sets.specs.declared.set.AttrSet.{AttrSet}
use Rattle.attr_sets.specs.Sets.{attributes}
use Rattle.attr_sets.proofs.AttributesLemmas.{same_at}
use Rattle.dep_basis.proofs.pieces.outside_all.Goals as goal

abbrev zero : AttrSet
zero = record { 0 = 0 }

abbrev NoneBefore : List AttrSet → ℕ → ℕ → Type 0
NoneBefore pieces a i = (j : ℕ) (d : AttrSet) → j < i → attributes (get_or pieces j d) a ≡ false

one_more : (pieces : List AttrSet) (universe left rest : Attributes) (i : ℕ) → i < length pieces → rest ≡ difference left (attributes (get_or pieces i zero))
    → ((a : ℕ) → (left a ≡ true) ↔ (universe a ≡ true) × NoneBefore pieces a i) → (a : ℕ) → (rest a ≡ true) ↔ (universe a ≡ true) × NoneBefore pieces a (i + 1)
one_more pieces universe left rest i short is before a = (
  (λ m.
      let h = (before a).0 (grind (arith, same_at is a, m)) in (
        h.0,
        (λ j d lt. elim (cases_eq j i) [
          | inl same ↦
              let at_i : get_or pieces j d ≡ get_or pieces i zero = ap (λ (k : ℕ). get_or pieces k d) same ∙ get_or_default pieces i d zero short in
              subst (λ (p : AttrSet). attributes p a ≡ false) (sym at_i) (grind (arith, same_at is a, m))
          | inr differ ↦ h.1 j d (omega arith)
        ]),
      )),
  (λ h. grind (arith, same_at is a, (before a).1 (h.0, (λ j d lt. h.1 j d (omega arith))), h.1 i zero (omega arith))),
)

pub loop-piece-init : goal.loop-piece-init
loop-piece-init c a = ((λ m. (m, (λ j d lt. absurd (omega arith)))), (λ h. h.0))

pub loop-piece-preserved : goal.loop-piece-preserved
loop-piece-preserved c =
    one_more c.args.pieces.now (attributes c.args.universe) (attributes c.loop-piece.left) (attributes c.difference-left.result) c.loop-piece.piece-index c.loop-piece-test.true c.difference-left.ensures.members c.loop-piece.invariant

pub returns : goal.returns
returns c = record {
  members = λ a. (
    (λ m. let h = (c.loop-piece.invariant a).0 m in (h.0, (λ j d l. h.1 j d (omega arith)))),
    (λ h. (c.loop-piece.invariant a).1 (h.0, (λ j d lt. h.1 j d (omega arith)))),
  );
}
