-- Candidates after further evidence, and what is known of them once those of one size more are tested.
use Rattle.std.proofs.Common.{inl, inr, ◌≡◌, ◌+◌, ◌++◌, ◌<◌, ◌≤◌, ℕ, List, [], ◌∷◌, get_or, length, take, sym, ap, subst, ◌∙◌, arith}
use Rattle.std.specs.Prelude.{All, Contains}
use Rattle.std.proofs.lemmas.List.{map_more, take-map}
use Rattle.std.proofs.lemmas.Bool.{cases_lt}
use Rattle.std.proofs.lemmas.List.Elements.{All-append, All-contains, All-contains_itself, All-take, All-weaker, Contains-append_cases, Contains-append_left, Contains-append_right, Contains-get_or, Contains-push, Contains-push_cases}
use Rattle.attr_sets.specs.Attributes.{Attributes, IsSubset, below, count_below, only}
use Rattle.attr_sets.specs.declared.set.AttrSet.{AttrSet}
use Rattle.attr_sets.specs.Sets.{attributes}
use Rattle.attr_sets.proofs.AttributesLemmas.{count_below-lt, count_below-within, tell_subset}
use Rattle.dep_model.specs.Dependencies.{ObeysFd}
use Rattle.dep_model.specs.Failures.{RefusesAs}
use Rattle.dep_model.specs.Plans.{schemes_of}
use Rattle.dep_model.specs.Tuples.{Relation}
use Rattle.dep_model.specs.declared.failure.Failure.{Failure}
use Rattle.dep_model.proofs.FailureLemmas.{refuses_also}
use Rattle.dep_model.proofs.ListLemmas.{Contains-cases, Contains-head, Contains-later, Contains-map}
use Rattle.candidate_sets.specs.declared.refusal.TheConstants.{MOST_CANDIDATES}
use Rattle.candidate_sets.specs.Evidence.{AreEvidence, IsEvidence}
use Rattle.candidate_sets.specs.Standing.{AreCandidates, ExceedsCandidates, HasMoreCandidates, IsCandidate, Stands}
use Rattle.candidate_sets.proofs.StandingLemmas.{candidate_within, obeyed_minimal}
use Rattle.candidate_search.specs.Sides.{AreMinimalLeftSides, AreTested, HasCandidates, HasMinimal, IsAnswered, IsAnsweredAt, IsTested, lefts_of, rights_of}
use Rattle.candidate_search.specs.declared.side.Side.{Side}
use Rattle.candidate_search.specs.declared.side.TooManyLeftSides.{TooManyLeftSides}

-- ---- the order of evidence means nothing
abbrev pub AreAmong : List Attributes → List Attributes → Type 0
AreAmong es fs = (e : Attributes) → Contains es e → Contains fs e

stands_by : (es fs : List Attributes) (a : ℕ) (x : Attributes) → AreAmong fs es → Stands es a x → Stands fs a x
stands_by es fs a x among stands e listed lacks inside = stands e (among e listed) lacks inside

candidate_by : (n most : ℕ) (es fs : List Attributes) (a : ℕ) (x : Attributes) → AreAmong es fs → AreAmong fs es
    → IsCandidate n most es a x → IsCandidate n most fs a x
candidate_by n most es fs a x there back is = record {
  within = is.within;
  outside = is.outside;
  within_limit = is.within_limit;
  minimal = record {
    stands = stands_by es fs a x back is.minimal.stands;
    minimal = λ v inside stands. is.minimal.minimal v inside (stands_by fs es a v there stands);
  };
}

candidates_by : (n most : ℕ) (es fs : List Attributes) (a : ℕ) (xs : List Attributes) → AreAmong es fs → AreAmong fs es
    → AreCandidates n most es a xs → AreCandidates n most fs a xs
candidates_by n most es fs a xs there back are = record {
  each = All-weaker (IsCandidate n most es a) (IsCandidate n most fs a)
      (λ x is. candidate_by n most es fs a x there back is) xs are.each;
  all = λ x is. are.all x (candidate_by n most fs es a x back there is);
  ascending = are.ascending;
}

first_among : (e : Attributes) (ds es : List Attributes) → AreAmong (e ∷ (ds ++ es)) ((ds ++ e ∷ []) ++ es)
first_among e ds es f listed = elim (Contains-cases e (ds ++ es) f listed) [
  | inl same ↦ Contains-append_left (ds ++ e ∷ []) es f
      (subst (λ (g : Attributes). Contains (ds ++ e ∷ []) g) (sym same) (Contains-push ds e))
  | inr later ↦ elim (Contains-append_cases ds es f later) [
    | inl there ↦ Contains-append_left (ds ++ e ∷ []) es f (Contains-append_left ds (e ∷ []) f there)
    | inr here ↦ Contains-append_right (ds ++ e ∷ []) es f here
  ]
]

last_among : (e : Attributes) (ds es : List Attributes) → AreAmong ((ds ++ e ∷ []) ++ es) (e ∷ (ds ++ es))
last_among e ds es f listed = elim (Contains-append_cases (ds ++ e ∷ []) es f listed) [
  | inr here ↦ Contains-later e (ds ++ es) f (Contains-append_right ds es f here)
  | inl before ↦ elim (Contains-push_cases ds e f before) [
    | inl there ↦ Contains-later e (ds ++ es) f (Contains-append_left ds es f there)
    | inr same ↦ subst (λ (g : Attributes). Contains (e ∷ (ds ++ es)) g) same (Contains-head e (ds ++ es))
  ]
]

-- one more of the evidence found
pub candidates_more : (n most a : ℕ) (found : List AttrSet) (i : ℕ) (d : AttrSet) (es xs : List Attributes) → i < length found
    → AreCandidates n most (attributes (get_or found i d) ∷ (schemes_of (take i found) ++ es)) a xs
    → AreCandidates n most (schemes_of (take (i + 1) found) ++ es) a xs
candidates_more n most a found i d es xs l are =
    let e : Attributes = attributes (get_or found i d) in
    let ds : List Attributes = schemes_of (take i found) in
    subst (λ (fs : List Attributes). AreCandidates n most (fs ++ es) a xs) (sym (map_more attributes found i d l))
    (candidates_by n most (e ∷ (ds ++ es)) ((ds ++ e ∷ []) ++ es) a xs (first_among e ds es) (last_among e ds es) are)

-- too many after one more
pub exceeds_more : (n most : ℕ) (r : Relation) (a m : ℕ) (found : List AttrSet) (i : ℕ) (d : AttrSet) (es : List Attributes)
    → i < length found → AreEvidence n r es → AreEvidence n r (schemes_of found)
    → HasMoreCandidates n most (attributes (get_or found i d) ∷ (schemes_of (take i found) ++ es)) a m
    → ExceedsCandidates n most r a m
exceeds_more n most r a m found i d es l are new more =
    let e : Attributes = attributes (get_or found i d) in
    let ds : List Attributes = schemes_of (take i found) in
    record {
      seen = e ∷ (ds ++ es);
      evidence = λ k f k_in. All-contains (IsEvidence n r) ((ds ++ e ∷ []) ++ es) (get_or (e ∷ (ds ++ es)) k f)
          (All-append (IsEvidence n r) (ds ++ e ∷ []) es
          (subst (AreEvidence n r) (map_more attributes found i d l) (some_evidence n r found (i + 1) new)) are)
          (first_among e ds es (get_or (e ∷ (ds ++ es)) k f)
          (All-contains_itself (e ∷ (ds ++ es)) k f k_in));
      exceeds = more;
    }
  where
    some_evidence : (n : ℕ) (r : Relation) (found : List AttrSet) (i : ℕ) → AreEvidence n r (schemes_of found)
        → AreEvidence n r (schemes_of (take i found))
    some_evidence n r found i are =
        subst (AreEvidence n r) (take_schemes found i) (All-take (IsEvidence n r) i (schemes_of found) are)
      where
        take_schemes : (found : List AttrSet) (i : ℕ) → take i (schemes_of found) ≡ schemes_of (take i found)
        take_schemes found i = take-map attributes i found

-- ---- what is tested
-- what follows from a set follows from a larger one
obeys_more : (r : Relation) (x y : Attributes) (a : ℕ) → IsSubset x y → ObeysFd x (only a) r → ObeysFd y (only a) r
obeys_more r x y a inside obeys t u t_in u_in agree = obeys t u t_in u_in (λ k m. agree k (inside k m))

module _ (n most : ℕ) (r : Relation) (size a : ℕ) (xs ys seen found : List Attributes)
    (before : AreCandidates n most seen a xs) (after : AreCandidates n most (found ++ seen) a ys)
    (obeyed : All (λ x. count_below x n < size → ObeysFd x (only a) r) xs)
    (answered : (x : Attributes) → Contains xs x → count_below x n ≡ size → IsAnswered r found x a) where
  stood : (y : Attributes) → Stands (found ++ seen) a y → Stands seen a y
  stood y stands e listed lacks inside = stands e (Contains-append_right found seen e listed) lacks inside

  -- a candidate of no more members that holds one is that one
  no_larger : (x y : Attributes) → IsSubset y (below n) → IsSubset x y
      → count_below y n ≤ count_below x n → IsSubset y x
  no_larger x y low inside few = elim (tell_subset n y x low) [
    | inr within ↦ within
    | inl apart ↦ absurd (omega (arith, few, count_below-lt n x y apart.0 inside apart.1 apart.3 apart.2))
  ]

  pub obeyed_next : (y : Attributes) → Contains ys y → count_below y n < size + 1 → ObeysFd y (only a) r
  obeyed_next y listed few =
      let is : IsCandidate n most (found ++ seen) a y =
      All-contains (IsCandidate n most (found ++ seen) a) ys y after.each listed in
      let held = candidate_within n most seen y a is.within is.outside is.within_limit (stood y is.minimal.stands) in
      by held.0 held.1 (before.all held.0 held.2) is
    where
      by : (x : Attributes) → IsSubset x y → Contains xs x → IsCandidate n most (found ++ seen) a y → ObeysFd y (only a) r
      by x inside has is =
          let less : count_below x n ≤ count_below y n = count_below-within n x y inside in
          elim (cases_lt (count_below x n) size) [
            | inl small ↦ obeys_more r x y a inside
                (All-contains (λ (v : Attributes). count_below v n < size → ObeysFd v (only a) r) xs x obeyed has small)
            | inr large ↦ elim (answered x has (omega (arith, large, less, few))) [
              | inl obeys ↦ obeys_more r x y a inside obeys
              | inr refuted ↦ absurd (is.minimal.stands refuted.0 (Contains-append_left found seen refuted.0 refuted.1) refuted.2
                  (λ k m. refuted.3 k (no_larger x y is.within inside (omega (arith, large, few)) k m)))
            ]
          ]

pub tested_next : (n most : ℕ) (r : Relation) (size a : ℕ) (xs ys found : List Attributes) (before : AreTested n most r size a xs)
    → AreEvidence n r found → AreCandidates n most (found ++ before.seen) a ys
    → ((x : Attributes) → Contains xs x → count_below x n ≡ size → IsAnswered r found x a)
    → AreTested n most r (size + 1) a ys
tested_next n most r size a xs ys found before new after answered = record {
  seen = found ++ before.seen;
  evidence = All-append (IsEvidence n r) found before.seen new before.evidence;
  candidates = after;
  obeyed = λ k d l. obeyed_next n most r size a xs ys before.seen found before.candidates after before.obeyed answered
      (get_or ys k d) (All-contains_itself ys k d l);
}

-- without tests there is nothing to know
pub tested_none : (n most : ℕ) (r : Relation) (size a : ℕ) (xs ys found : List Attributes) (before : AreTested n most r size a xs)
    → AreEvidence n r found → AreCandidates n most (found ++ before.seen) a ys → AreTested n most r 0 a ys
tested_none n most r size a xs ys found before new after = record {
  seen = found ++ before.seen;
  evidence = All-append (IsEvidence n r) found before.seen new before.evidence;
  candidates = after;
  obeyed = λ k d l few. absurd (omega (arith, few));
}

-- once all sizes are tested
pub minimal_tested : (n most : ℕ) (r : Relation) (a : ℕ) (xs : List Attributes) → a < n
    → AreTested n most r (most + 1) a xs → AreMinimalLeftSides n most r a xs
minimal_tested n most r a xs a_in are = record {
  exactly = obeyed_minimal n most r are.seen a xs a_in are.evidence are.candidates
      (λ k d l. are.obeyed k d l (omega (arith, small k d l)));
  ascending = are.candidates.ascending;
}
  where
    small : (k : ℕ) (d : Attributes) → k < length xs → count_below (get_or xs k d) n ≤ most
    small k d l = (are.candidates.each k d l).within_limit

-- ---- sides
pub side_candidates : (n most : ℕ) (r : Relation) (size : ℕ) (side : Side) → IsTested n most r size side
    → HasCandidates n most side
side_candidates n most r size side is = record {
  right = is.right;
  within_limit = is.within_limit;
  seen = is.tested.seen;
  candidates = is.tested.candidates;
}

pub side_minimal : (n most : ℕ) (r : Relation) (side : Side) → IsTested n most r (most + 1) side → HasMinimal n most r side
side_minimal n most r side is = record {
  right = is.right;
  minimal = minimal_tested n most r side.right (lefts_of side) is.right is.tested;
}

module _ (n most : ℕ) (r : Relation) (size : ℕ) (side next : Side) (found : List Attributes)
    (before : IsTested n most r size side) (new : AreEvidence n r found) (same : next.right ≡ side.right)
    (fits : length next.lefts.items ≤ MOST_CANDIDATES)
    (after : (es : List Attributes) → AreCandidates n most es side.right (lefts_of side)
    → AreCandidates n most (found ++ es) side.right (lefts_of next)) where
  pub side_next : IsAnsweredAt n r found size side → IsTested n most r (size + 1) next
  side_next answered = record {
    right = subst (λ (a : ℕ). a < n) (sym same) before.right;
    within_limit = fits;
    tested = subst (λ (a : ℕ). AreTested n most r (size + 1) a (lefts_of next)) (sym same)
        (tested_next n most r size side.right (lefts_of side) (lefts_of next) found before.tested new
        (after before.tested.seen before.tested.candidates) answered);
  }

  pub side_none : IsTested n most r 0 next
  side_none = record {
    right = subst (λ (a : ℕ). a < n) (sym same) before.right;
    within_limit = fits;
    tested = subst (λ (a : ℕ). AreTested n most r 0 a (lefts_of next)) (sym same)
        (tested_none n most r size side.right (lefts_of side) (lefts_of next) found before.tested new
        (after before.tested.seen before.tested.candidates));
  }

-- a side without evidence
pub side_first : (n most : ℕ) (r : Relation) (side : Side) → side.right < n → length side.lefts.items ≤ MOST_CANDIDATES
    → AreCandidates n most [] side.right (lefts_of side) → IsTested n most r 0 side
side_first n most r side low fits are = record {
  right = low;
  within_limit = fits;
  tested = record {
    seen = [];
    evidence = λ k d l. absurd (omega (arith, l));
    candidates = are;
    obeyed = λ k d l few. absurd (omega (arith, few));
  };
}

pub sides_candidates : (n most : ℕ) (r : Relation) (size : ℕ) (sides : List Side) → All (IsTested n most r size) sides
    → All (HasCandidates n most) sides
sides_candidates n most r size sides are =
    All-weaker (IsTested n most r size) (HasCandidates n most) (side_candidates n most r size) sides are

-- a refusal of one side names a right side that is listed
pub named_among : (sides : List Side) (i : ℕ) (side : Side) (e : Failure TooManyLeftSides) → i < length sides
    → side ≡ get_or sides i side → RefusesAs (λ refusal. refusal.right ≡ side.right) e
    → RefusesAs (λ refusal. Contains (rights_of sides) refusal.right) e
named_among sides i side e l is = refuses_also (λ (refusal : TooManyLeftSides). refusal.right ≡ side.right)
    (λ (refusal : TooManyLeftSides). Contains (rights_of sides) refusal.right) e
    (λ refusal same. subst (λ (a : ℕ). Contains (rights_of sides) a) (sym (same ∙ ap (λ (s : Side). s.right) is))
    (Contains-map (λ (s : Side). s.right) sides (get_or sides i side) (Contains-get_or sides i side l)))
