-- What is left to prove of `piece_with`: its clauses `none`, `piece` and `member` and that a round
-- of its loop keeps the invariant.
use Rattle.std.proofs.Common.{◌≡◌, ℕ, ◌+◌, ◌<◌, true, false, List, length, get_or, sym, ap, subst, ◌∙◌, inl, inr, arith}
use Rattle.std.proofs.lemmas.Bool.{true≢false, cases_eq}
use Rattle.std.proofs.lemmas.List.{get_or_default}
use Rattle.attr_sets.specs.declared.set.AttrSet.{AttrSet}
use Rattle.attr_sets.specs.Sets.{attributes}
use Rattle.attr_sets.proofs.AttributesLemmas.{same_at}
use Rattle.dep_basis.proofs.pieces.piece_with.Goals as goal

abbrev zero : AttrSet
zero = record { 0 = 0 }

-- the next piece has not the attribute either
none_more : (pieces : List AttrSet) (a i : ℕ) → i < length pieces → ((j : ℕ) (d : AttrSet) → j < i → attributes (get_or pieces j d) a ≡ false) → attributes (get_or pieces i zero) a ≡ false
    → (j : ℕ) (d : AttrSet) → j < i + 1 → attributes (get_or pieces j d) a ≡ false
none_more pieces a i short before next j d lt = elim (cases_eq j i) [
  | inl same ↦
      let at_i : get_or pieces j d ≡ get_or pieces i zero = ap (λ (k : ℕ). get_or pieces k d) same ∙ get_or_default pieces i d zero short in
      subst (λ (p : AttrSet). attributes p a ≡ false) (sym at_i) next
  | inr differ ↦ before j d (omega arith)
]

pub loop-piece-preserved : goal.loop-piece-preserved
loop-piece-preserved c =
    none_more c.args.pieces.now c.args.attribute c.loop-piece.piece-index c.loop-piece-test.true c.loop-piece.invariant (sym c.contains.ensures.member ∙ c.if-contains.false)

pub returns-then-contains : goal.returns-then-contains
returns-then-contains c =
    let i = c.loop-piece.piece-index in
    let p = get_or c.args.pieces.now i zero in
    let member : attributes p c.args.attribute ≡ true = sym c.contains.ensures.member ∙ c.if-contains.true in
    record {
      none = λ empty. absurd (true≢false (sym member ∙ empty c.args.attribute));
      piece = λ _. (i, c.loop-piece-test.true, get_or_default c.args.pieces.now i p zero c.loop-piece-test.true);
      member = λ _. member;
    }

pub returns : goal.returns
returns c = record {
  none = λ _ j d l. c.loop-piece.invariant j d (omega arith);
  piece = λ filled. absurd (filled (same_at c.empty.ensures.members));
  member = λ filled. absurd (filled (same_at c.empty.ensures.members));
}
