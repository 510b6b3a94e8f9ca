-- What two rows agree on is evidence, and what is asked of rows stays answered with more of it.
use Rattle.std.proofs.Common.{inl, inr, ◌≡◌, ◌++◌, ◌<◌, ◌≤◌, ℕ, false, List, [], ◌∷◌, get_or, length, sym, ap, subst, ◌∙◌}
use Rattle.std.specs.Prelude.{All, Contains}
use Rattle.std.proofs.lemmas.Bool.{cases_Bool, lt-ltb, ltb-true}
use Rattle.std.proofs.lemmas.List.{map_push}
use Rattle.std.proofs.lemmas.List.Elements.{All-contains, All-push, All-weaker, Contains-append_left, Contains-get_or, Contains-push}
use Rattle.attr_sets.specs.Attributes.{Attributes, IsSubset, below, count_below}
use Rattle.attr_sets.specs.Sets.{attributes}
use Rattle.attr_sets.specs.declared.set.AttrSet.{AttrSet}
use Rattle.attr_sets.specs.declared.set.TheConstants.{MOST_ATTRIBUTES}
use Rattle.attr_sets.proofs.AttributesLemmas.{count_below-low}
use Rattle.dep_model.specs.Plans.{schemes_of}
use Rattle.dep_model.specs.Tuples.{Relation, IsOver}
use Rattle.dep_model.proofs.ListLemmas.{map-member}
use Rattle.row_store.specs.Rows.{row_at}
use Rattle.candidate_sets.specs.Evidence.{AreEvidence, IsEvidence, agreement}
use Rattle.candidate_sets.specs.Standing.{IsCandidate}
use Rattle.candidate_sets.proofs.EvidenceLemmas.{agreement-from, agreement-to, agreement_exact}
use Rattle.candidate_search.specs.Pairs.{IsBroken}
use Rattle.candidate_search.specs.Sides.{IsAnswered, IsAnsweredAt, HasCandidates, lefts_of}
use Rattle.candidate_search.specs.Asking.{AsksAll, IsAskedWithin, IsRefutation, HasAnswer}
use Rattle.candidate_search.specs.declared.asking.Asked.{Asked}
use Rattle.candidate_search.specs.declared.side.Side.{Side}

-- ---- evidence
pub agreement_evidence : (n : ℕ) (r : Relation) (i j : ℕ) → IsOver n r → i < length r → j < length r
    → IsEvidence n r (agreement n (row_at r i) (row_at r j))
agreement_evidence n r i j over i_in j_in = record {
  within = λ k m. lt-ltb k n (agreement-to n (row_at r i) (row_at r j) k m).0;
  one = row_at r i;
  other = row_at r j;
  one_row = Contains-get_or r i [] i_in;
  other_row = Contains-get_or r j [] j_in;
  agree = agreement_exact n r (row_at r i) (row_at r j) over (Contains-get_or r i [] i_in) (Contains-get_or r j [] j_in);
}

-- one more set that is evidence
pub evidence_push : (n : ℕ) (r : Relation) (found : List AttrSet) (s : AttrSet) → AreEvidence n r (schemes_of found)
    → IsEvidence n r (attributes s) → AreEvidence n r (schemes_of (found ++ s ∷ []))
evidence_push n r found s are is =
    subst (AreEvidence n r) (sym (map_push attributes found s)) (All-push (IsEvidence n r) (schemes_of found) (attributes s) are is)

-- ---- what is answered
pub answered_more : (r : Relation) (es fs : List Attributes) → ((e : Attributes) → Contains es e → Contains fs e)
    → (asked : Asked) → HasAnswer r es asked → HasAnswer r fs asked
answered_more r es fs among asked is = elim is [
  | inl obeys ↦ inl obeys
  | inr refuted ↦ inr (refuted.0, among refuted.0 refuted.1, refuted.2, refuted.3)
]

pub push_among : (found : List AttrSet) (s : AttrSet) (e : Attributes) → Contains (schemes_of found) e
    → Contains (schemes_of (found ++ s ∷ [])) e
push_among found s e listed =
    subst (λ (es : List Attributes). Contains es e) (sym (map_push attributes found s))
    (Contains-append_left (schemes_of found) (attributes s ∷ []) e listed)

pub all_answered_push : (r : Relation) (found : List AttrSet) (s : AttrSet) (asked : List Asked)
    → All (HasAnswer r (schemes_of found)) asked → All (HasAnswer r (schemes_of (found ++ s ∷ []))) asked
all_answered_push r found s asked are = All-weaker (HasAnswer r (schemes_of found)) (HasAnswer r (schemes_of (found ++ s ∷ [])))
    (answered_more r (schemes_of found) (schemes_of (found ++ s ∷ [])) (push_among found s)) asked are

-- one more set that refutes what is asked
pub refutation_answers : (r : Relation) (found : List AttrSet) (s : AttrSet) (asked : Asked)
    → IsRefutation (attributes s) asked → HasAnswer r (schemes_of (found ++ s ∷ [])) asked
refutation_answers r found s asked is = inr (
  attributes s,
  subst (λ (es : List Attributes). Contains es (attributes s)) (sym (map_push attributes found s))
      (Contains-push (schemes_of found) (attributes s)),
  is.lacks,
  is.holds,
)

-- what a broken pair agrees on refutes
pub broken_refutes : (n : ℕ) (r : Relation) (s : AttrSet) (asked : Asked) (i j : ℕ) → IsAskedWithin n asked
    → IsBroken r (attributes asked.left) asked.right i j → attributes s ≡ agreement n (row_at r i) (row_at r j)
    → IsRefutation (attributes s) asked
broken_refutes n r s asked i j low broken is = record {
  lacks = ap (λ (e : Attributes). e asked.right) is ∙ lacks;
  holds = λ k m. ap (λ (e : Attributes). e k) is
      ∙ agreement-from n (row_at r i) (row_at r j) k (ltb-true k n (low.left k m)) (broken.agree k m);
}
  where
    lacks : agreement n (row_at r i) (row_at r j) asked.right ≡ false
    lacks = elim (cases_Bool (agreement n (row_at r i) (row_at r j) asked.right)) [
      | inl has ↦ absurd (broken.differ (agreement-to n (row_at r i) (row_at r j) asked.right has).1)
      | inr out ↦ out
    ]

-- ---- what is asked of a side
-- where all that is asked of a size is answered, the side is answered at that size
pub side_answered : (n most : ℕ) (r : Relation) (es : List Attributes) (size : ℕ) (asked : List Asked) (side : Side)
    → n ≤ MOST_ATTRIBUTES → HasCandidates n most side → AsksAll asked size side → All (HasAnswer r es) asked
    → IsAnsweredAt n r es size side
side_answered n most r es size asked side wide has all answered x listed count =
    let (s, s_in, is) = map-member attributes side.lefts.items x listed in
    let low : IsSubset (attributes s) (below n) = λ k m. within k (ap (λ (y : Attributes). y k) (sym is) ∙ m) in
    subst (λ (y : Attributes). IsAnswered r es y side.right) is
    (All-contains (HasAnswer r es) asked (record { left = s; right = side.right }) answered
    (All-contains (λ (t : AttrSet). count_below (attributes t) MOST_ATTRIBUTES ≡ size
    → Contains asked (record { left = t; right = side.right })) side.lefts.items s all s_in
    (counts s low ∙ ap (λ (y : Attributes). count_below y n) is ∙ count)))
  where
    within : IsSubset x (below n)
    within = (All-contains (IsCandidate n most has.seen side.right) (lefts_of side) x
        has.candidates.each listed).within

    counts : (s : AttrSet) → IsSubset (attributes s) (below n)
        → count_below (attributes s) MOST_ATTRIBUTES ≡ count_below (attributes s) n
    counts s low = count_below-low MOST_ATTRIBUTES n (attributes s) low wide

pub sides_answered : (n most : ℕ) (r : Relation) (es : List Attributes) (size : ℕ) (asked : List Asked) (sides : List Side)
    → n ≤ MOST_ATTRIBUTES → All (HasCandidates n most) sides → All (AsksAll asked size) sides → All (HasAnswer r es) asked
    → All (IsAnsweredAt n r es size) sides
sides_answered n most r es size asked sides wide has all answered = λ k d l.
    side_answered n most r es size asked (get_or sides k d) wide (has k d l) (all k d l) answered
