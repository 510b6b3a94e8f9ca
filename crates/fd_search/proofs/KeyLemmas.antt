-- Keys of rows as left sides of minimal dependencies of the rows with a name as one value more.
use Rattle.std.proofs.Common.{inl, inr, ◌≡◌, ◌+◌, ◌<◌, ◌≤◌, ◌↔◌, ℕ, true, false, List, [], ◌∷◌, length, filter, get_or, not, sym, ap, subst, ◌∙◌, arith}
use Rattle.std.specs.Prelude.{All, Contains}
use Rattle.std.proofs.lemmas.Bool.{cases_Bool, cases_lt, lt-ltb, ltb-true, not-true, true≢false}
use Rattle.std.proofs.lemmas.Bool.Decides.{nat_tests}
use Rattle.std.proofs.lemmas.List.{get_or_append_left, length-append}
use Rattle.std.proofs.Math.Seq.{get_or-append_seam}
use Rattle.std.proofs.lemmas.List.Elements.{All-contains, All-map, All-weaker, Contains-get_or}
use Rattle.attr_sets.specs.Attributes.{Attributes, IsSubset, below, count_below, only}
use Rattle.attr_sets.proofs.AttributesLemmas.{count_below-le, count_below-outside}
use Rattle.candidate_sets.specs.Evidence.{AreEvidence, IsEvidence}
use Rattle.candidate_sets.specs.Standing.{ExceedsCandidates, HasMoreCandidates, IsCandidate}
use Rattle.candidate_sets.specs.declared.refusal.TheConstants.{MOST_CANDIDATES}
use Rattle.fd_discovery.specs.Leaders.{IsTableOfRows}
use Rattle.fd_discovery.specs.declared.table.CodeColumns.{CodeColumns}
use Rattle.dep_model.specs.Dependencies.{ObeysFd}
use Rattle.dep_model.specs.Tuples.{Tuple, Relation, AgreeExactly, AgreeOn, IsOver, value_at}
use Rattle.dep_model.proofs.DistinctLemmas.{filter-keeps, filter-member}
use Rattle.dep_model.proofs.ListLemmas.{Contains-cases, Contains-map, map-member}
use Rattle.dep_model.proofs.TupleLemmas.{IsOver-length, same_tuple-Contains}
use Rattle.candidate_search.specs.Levels.{AreTabled}
use Rattle.candidate_search.specs.Sides.{AreMinimalLeftSides, HasMinimal, IsTooManyLeftSides, lefts_of, rights_of}
use Rattle.candidate_search.specs.declared.side.Side.{Side}
use Rattle.candidate_search.specs.declared.side.TooManyLeftSides.{TooManyLeftSides}
use Rattle.fd_discovery.specs.Minimal.{IsMinimalWithin}
use Rattle.fd_search.specs.Keys.{AreRowKeys, HasTooManyKeys, Identifies, IsKeyEvidence, IsRowKey}
use Rattle.fd_search.proofs.NameLemmas.{AreNames, with_name, with_names}

-- ---- a key determines all columns
pub identifies_all : (n : ℕ) (r : Relation) (x : Attributes) → IsOver n r → Identifies r x ↔ ObeysFd x (below n) r
identifies_all n r x over = (
  λ identifies t u t_in u_in agree k has. ap (λ (w : Tuple). value_at w k) (identifies t u t_in u_in agree),
  λ obeys t u t_in u_in agree. same_tuple-Contains n t u (IsOver-length n r t over t_in) (IsOver-length n r u over u_in)
      (λ k low. obeys t u t_in u_in agree k (grind (arith, nat_tests, low))),
)

-- ---- rows with one value more
-- within n columns a row keeps its values
value_kept : (name : Tuple → List ℕ) (n : ℕ) (t : Tuple) (k : ℕ) → length t ≡ n → k < n
    → value_at (with_name name t) k ≡ value_at t k
value_kept name n t k long low = get_or_append_left t (name t ∷ []) [] k (omega (arith, long, low))

name_value : (name : Tuple → List ℕ) (n : ℕ) (t : Tuple) → length t ≡ n → value_at (with_name name t) n ≡ name t
name_value name n t long =
    subst (λ (k : ℕ). value_at (with_name name t) k ≡ name t) long (get_or-append_seam t (name t) [] [])

pub names_over : (name : Tuple → List ℕ) (n : ℕ) (r : Relation) → IsOver n r → IsOver (n + 1) (with_names name r)
names_over name n r over = All-map (λ (t : Tuple). length t ≡ n + 1) (with_name name) r
    (All-weaker (λ (t : Tuple). length t ≡ n) (λ (t : Tuple). length (with_name name t) ≡ n + 1)
    (λ t long. length-append t (name t ∷ []) ∙ ap (λ (k : ℕ). k + 1) long) r over)

pub names_tabled : (name : Tuple → List ℕ) (n : ℕ) (r made : Relation) (table : CodeColumns) → IsOver n r
    → made ≡ with_names name r → IsTableOfRows (n + 1) made table → AreTabled (n + 1) (with_names name r) table
names_tabled name n r made table over is made_table = record {
  over = names_over name n r over;
  table = subst (λ (rows : Relation). IsTableOfRows (n + 1) rows table) is made_table;
}

below_more : (n : ℕ) (x : Attributes) → IsSubset x (below n) → IsSubset x (below (n + 1))
below_more n x within k has =
    let low = ltb-true k n (within k has) in grind (arith, nat_tests, low)

below_less : (n : ℕ) (x : Attributes) → IsSubset x (below (n + 1)) → x n ≡ false → IsSubset x (below n)
below_less n x within out k has =
    let low : k < n + 1 = ltb-true k (n + 1) (within k has) in
    elim (cases_lt k n) [
      | inl less ↦ lt-ltb k n less
      | inr other ↦
          let last : k ≡ n = omega (arith, low, other) in
          absurd (true≢false (sym (subst (λ (j : ℕ). x j ≡ true) last has) ∙ out))
    ]

none_beyond : (n : ℕ) (x : Attributes) → IsSubset x (below n) → x n ≡ false
none_beyond n x within = elim (cases_Bool (x n)) [
  | inl has ↦ let low = ltb-true n n (within n has) in absurd (omega (arith, low))
  | inr lacks ↦ lacks
]

first_right : (sides : List Side) (d : Side) (n : ℕ) → rights_of sides ≡ n ∷ []
    → (0 < length sides) × ((get_or sides 0 d).right ≡ n)
first_right [] d n is = absurd (by is)
  where
    by : [] ≡ n ∷ [] → ⊥
    by h = cc
first_right (side ∷ sides) d n is = (omega arith, ap (λ (ks : List ℕ). get_or ks 0 0) is)

module _ (name : Tuple → List ℕ) (n : ℕ) (r : Relation) (over : IsOver n r) (names : AreNames r name) where
  agree_named : (x : Attributes) (t u : Tuple) → IsSubset x (below n) → Contains r t → Contains r u → AgreeOn x t u
      → AgreeOn x (with_name name t) (with_name name u)
  agree_named x t u within t_in u_in agree k has =
      let low : k < n = ltb-true k n (within k has) in
      value_kept name n t k (IsOver-length n r t over t_in) low ∙ agree k has
      ∙ sym (value_kept name n u k (IsOver-length n r u over u_in) low)

  agree_part : (x : Attributes) (t u : Tuple) → IsSubset x (below n) → Contains r t → Contains r u
      → AgreeOn x (with_name name t) (with_name name u) → AgreeOn x t u
  agree_part x t u within t_in u_in agree k has =
      let low : k < n = ltb-true k n (within k has) in
      sym (value_kept name n t k (IsOver-length n r t over t_in) low) ∙ agree k has
      ∙ value_kept name n u k (IsOver-length n r u over u_in) low

  identifies_obeyed : (x : Attributes) → IsSubset x (below n) → Identifies r x → ObeysFd x (only n) (with_names name r)
  identifies_obeyed x within identifies v w v_in w_in agree =
      let (t, t_in, t_is) = map-member (with_name name) r v v_in in
      let (u, u_in, u_is) = map-member (with_name name) r w w_in in
      let here : AgreeOn x (with_name name t) (with_name name u) =
      subst (λ (y : Tuple). AgreeOn x y (with_name name u)) (sym t_is) (subst (λ (y : Tuple). AgreeOn x v y) (sym u_is) agree) in
      let same : v ≡ w =
      sym t_is ∙ ap (with_name name) (identifies t u t_in u_in (agree_part x t u within t_in u_in here)) ∙ u_is in
      λ k has. ap (λ (y : Tuple). value_at y k) same

  obeyed_identifies : (x : Attributes) → IsSubset x (below n) → ObeysFd x (only n) (with_names name r) → Identifies r x
  obeyed_identifies x within obeys t u t_in u_in agree =
      let same : value_at (with_name name t) n ≡ value_at (with_name name u) n =
      obeys (with_name name t) (with_name name u) (Contains-map (with_name name) r t t_in) (Contains-map (with_name name) r u u_in)
      (agree_named x t u within t_in u_in agree) n (grind (arith, nat_tests)) in
      names t u t_in u_in (sym (name_value name n t (IsOver-length n r t over t_in)) ∙ same
      ∙ name_value name n u (IsOver-length n r u over u_in))

  key_from : (x : Attributes) → IsMinimalWithin (n + 1) (with_names name r) x n → IsRowKey n r x
  key_from x is =
      let within : IsSubset x (below n) = below_less n x is.left is.minimal.outside in
      record {
        within = within;
        identifies = obeyed_identifies x within is.minimal.obeys;
        minimal = λ v inside identifies. is.minimal.minimal v inside
            (identifies_obeyed v (λ k has. within k (inside k has)) identifies);
      }

  key_to : (x : Attributes) → IsRowKey n r x → IsMinimalWithin (n + 1) (with_names name r) x n
  key_to x is = record {
    left = below_more n x is.within;
    right = omega arith;
    minimal = record {
      outside = none_beyond n x is.within;
      obeys = identifies_obeyed x is.within is.identifies;
      minimal = λ v inside obeys. is.minimal v inside (obeyed_identifies v (λ k has. is.within k (inside k has)) obeys);
    };
  }

  -- the minimal left sides of the name are exactly the keys
  pub keys_found : (xs : List Attributes) → AreMinimalLeftSides (n + 1) n (with_names name r) n xs → AreRowKeys n r xs
  keys_found xs are = record {
    each = λ i d l. key_from (get_or xs i d) ((are.exactly (get_or xs i d)).0 (Contains-get_or xs i d l)).0;
    all = λ x key. (are.exactly x).1 (key_to x key, few x key);
    ascending = are.ascending;
  }
    where
      few : (x : Attributes) → IsRowKey n r x → count_below x (n + 1) ≤ n
      few x key = omega (arith, count_below-outside n x (none_beyond n x key.within), count_below-le n x)

  -- the first of one side
  pub keys_of_first : (sides : List Side) (d : Side) → rights_of sides ≡ n ∷ []
      → All (HasMinimal (n + 1) n (with_names name r)) sides → AreRowKeys n r (lefts_of (get_or sides 0 d))
  keys_of_first sides d rights are =
      let (some, right) = first_right sides d n rights in
      let has = are 0 d some in
      keys_found (lefts_of (get_or sides 0 d))
      (subst (λ (a : ℕ). AreMinimalLeftSides (n + 1) n (with_names name r) a (lefts_of (get_or sides 0 d))) right has.minimal)

  -- ---- too many
  key_evidence : (e : Attributes) → IsEvidence (n + 1) (with_names name r) e → e n ≡ false → IsKeyEvidence n r e
  key_evidence e is lacks =
      let (t, t_in, t_is) = map-member (with_name name) r is.one is.one_row in
      let (u, u_in, u_is) = map-member (with_name name) r is.other is.other_row in
      by t u t_in u_in (subst (λ (y : Tuple). AgreeExactly (n + 1) e y (with_name name u)) (sym t_is)
      (subst (λ (y : Tuple). AgreeExactly (n + 1) e is.one y) (sym u_is) is.agree))
    where
      by : (t u : Tuple) → Contains r t → Contains r u → AgreeExactly (n + 1) e (with_name name t) (with_name name u)
          → IsKeyEvidence n r e
      by t u t_in u_in agree =
          let t_long : length t ≡ n = IsOver-length n r t over t_in in
          let u_long : length u ≡ n = IsOver-length n r u over u_in in
          record {
            evidence = record {
              within = below_less n e is.within lacks;
              one = t;
              other = u;
              one_row = t_in;
              other_row = u_in;
              agree = record {
                first = t_long;
                second = u_long;
                equal = λ k low. (
                  λ has. sym (value_kept name n t k t_long low) ∙ (agree.equal k (omega (arith, low))).0 has
                      ∙ value_kept name n u k u_long low,
                  λ same. (agree.equal k (omega (arith, low))).1
                      (value_kept name n t k t_long low ∙ same ∙ sym (value_kept name n u k u_long low)),
                );
              };
            };
            differ = λ same. true≢false (sym ((agree.equal n (omega arith)).1
                (ap (λ (y : Tuple). value_at (with_name name y) n) same)) ∙ lacks);
          }

  module _ (es : List Attributes) (evidence : AreEvidence (n + 1) (with_names name r) es) where
    -- the evidence without the name
    abbrev apart : List Attributes
    apart = filter (λ e. not (e n)) es

    apart_evidence : All (IsKeyEvidence n r) apart
    apart_evidence i d l =
        let (listed, lacks) = filter-member (λ (e : Attributes). not (e n)) es (get_or apart i d) (Contains-get_or apart i d l) in
        key_evidence (get_or apart i d) (All-contains (IsEvidence (n + 1) (with_names name r)) es (get_or apart i d) evidence listed)
        (not-true (get_or apart i d n) lacks)

    apart_candidate : (x : Attributes) → IsCandidate (n + 1) n es n x → IsCandidate n n apart n x
    apart_candidate x is = record {
      within = below_less n x is.within is.outside;
      outside = is.outside;
      within_limit = count_below-le n x;
      minimal = record {
        stands = λ e listed lacks inside. is.minimal.stands e
            (filter-member (λ (e : Attributes). not (e n)) es e listed).0 lacks inside;
        minimal = λ v inside stands. is.minimal.minimal v inside (λ e listed lacks held. stands e
            (filter-keeps (λ (e : Attributes). not (e n)) es e listed (ap not lacks)) lacks held);
      };
    }

  pub keys_exceeded : ExceedsCandidates (n + 1) n (with_names name r) n MOST_CANDIDATES → HasTooManyKeys n r
  keys_exceeded exceeded = by exceeded.seen exceeded.evidence exceeded.exceeds
    where
      by : (es : List Attributes) → AreEvidence (n + 1) (with_names name r) es
          → HasMoreCandidates (n + 1) n es n MOST_CANDIDATES → HasTooManyKeys n r
      by es evidence more = record {
        seen = apart es evidence;
        evidence = apart_evidence es evidence;
        exceeds = record {
          sets = more.sets;
          each = All-weaker (IsCandidate (n + 1) n es n) (IsCandidate n n (apart es evidence) n)
              (apart_candidate es evidence) more.sets more.each;
          differ = more.differ;
          more = more.more;
        };
      }

  -- the refusal of the one attribute that is asked for
  pub keys_refused : (refusal : TooManyLeftSides) → Contains (n ∷ []) refusal.right
      → IsTooManyLeftSides (n + 1) n (with_names name r) refusal → HasTooManyKeys n r
  keys_refused refusal named exceeded = elim (Contains-cases n [] refusal.right named) [
    | inl same ↦ keys_exceeded
        (subst (λ (a : ℕ). ExceedsCandidates (n + 1) n (with_names name r) a MOST_CANDIDATES) same exceeded.exceeds)
    | inr none ↦ absurd (omega (arith, none.1))
  ]
