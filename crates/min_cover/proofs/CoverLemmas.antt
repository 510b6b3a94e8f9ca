-- The fixed cover is a minimal one, and the fixed whole cover says the same as the schema.
use Rattle.std.proofs.Common.{◌≡◌, ℕ, true, false, inl, inr, not, List, [], ◌∷◌, ◌++◌, refl, sym, ◌∙◌, subst, ap, ⊎_elim, arith, append-nil, append_assoc}
use Rattle.std.proofs.lemmas.Bool.{true≢false, not-true}
use Rattle.std.proofs.lemmas.Bool.Decides.{nat_tests}
use Rattle.std.proofs.lemmas.List.Elements.{All-nil, All-cons, All-head, All-tail, All-append, All-weaker, All-contains, All-map, All-filter, filter-append, filter_passes}
use Rattle.std.specs.Prelude.{All}
use Rattle.std.specs.List.{flat_map}
use Rattle.attr_sets.specs.Attributes.{below, only, difference, IsSubset}
use Rattle.dep_model.specs.Tuples.{Relation}
use Rattle.dep_model.specs.Dependencies.{Dependency, fd, mvd, Obeys, is_fd, functional_part, left_of, right_of, IsWithin}
use Rattle.dep_model.specs.Implication.{IsLegal, Implies}
use Rattle.dep_model.specs.Projections.{members_below}
use Rattle.dep_model.proofs.RuleLemmas.{fd_weaker_obeyed, replication_obeyed}
use Rattle.dep_model.proofs.ListLemmas.{cons_parts}
use Rattle.min_cover.specs.Members.{members_of, IsLeftReducedDependency}
use Rattle.min_cover.specs.Covers.{IsThinned, IsFixedCover, IsFixedWholeCover, multivalued_part, HaveSameLegal, IsSingle, IsMinimalCover, IsWholeCover}
use Rattle.min_cover.proofs.ListLemmas.{All-left, All-right, All-flat_map-to, All-flat_map-from, AllZip-to, AllZip-from, nil_not_split, split_later}
use Rattle.min_cover.proofs.MemberLemmas.{members_are, members_obeyed-to, short_implied, left_reduced-needed}

-- a relation obeys each of a list
abbrev Each : ℕ → Relation → List Dependency → Type 0
Each n r ds = All (λ (d : Dependency). Obeys n d r) ds

legal_from : (n : ℕ) (ds es : List Dependency) (r : Relation) → IsLegal n ds r → Each n r es → IsLegal n es r
legal_from n ds es r legal each = record { over = legal.over; obeys = each }

-- ---- thinning
-- it keeps the legal relations
pub thinned_legal-to : (n : ℕ) (kept ds rest : List Dependency) (r : Relation) → IsThinned n kept ds rest → IsLegal n rest r → IsLegal n (kept ++ ds) r
thinned_legal-to n kept [] rest r thinned legal = subst (λ (es : List Dependency). IsLegal n es r) (thinned ∙ sym (append-nil kept)) legal
thinned_legal-to n kept (d ∷ later) rest r thinned legal =
    ⊎_elim
    (λ (out : Implies n (kept ++ later) d × IsThinned n kept later rest).
    let others = thinned_legal-to n kept later rest r out.1 legal in
    let P : Dependency → Type 0 = λ (e : Dependency). Obeys n e r in
    legal_from n rest (kept ++ d ∷ later) r legal (All-append P kept (d ∷ later) (All-left P kept later others.obeys) (All-cons P d later (out.0 r others) (All-right P kept later others.obeys))))
    (λ (stays : (Implies n (kept ++ later) d → ⊥) × IsThinned n (kept ++ d ∷ []) later rest).
    subst (λ (es : List Dependency). IsLegal n es r) (append_assoc kept (d ∷ []) later) (thinned_legal-to n (kept ++ d ∷ []) later rest r stays.1 legal))
    thinned

pub thinned_legal-from : (n : ℕ) (kept ds rest : List Dependency) (r : Relation) → IsThinned n kept ds rest → IsLegal n (kept ++ ds) r → IsLegal n rest r
thinned_legal-from n kept [] rest r thinned legal = subst (λ (es : List Dependency). IsLegal n es r) (append-nil kept ∙ sym thinned) legal
thinned_legal-from n kept (d ∷ later) rest r thinned legal =
    ⊎_elim
    (λ (out : Implies n (kept ++ later) d × IsThinned n kept later rest).
    let P : Dependency → Type 0 = λ (e : Dependency). Obeys n e r in
    let others = All-append P kept later (All-left P kept (d ∷ later) legal.obeys) (All-tail P d later (All-right P kept (d ∷ later) legal.obeys)) in
    thinned_legal-from n kept later rest r out.1 (legal_from n (kept ++ d ∷ later) (kept ++ later) r legal others))
    (λ (stays : (Implies n (kept ++ later) d → ⊥) × IsThinned n (kept ++ d ∷ []) later rest).
    thinned_legal-from n (kept ++ d ∷ []) later rest r stays.1 (subst (λ (es : List Dependency). IsLegal n es r) (sym (append_assoc kept (d ∷ []) later)) legal))
    thinned

-- what is left are some of the dependencies
pub thinned_all : (n : ℕ) (P : Dependency → Type 0) (kept ds rest : List Dependency) → IsThinned n kept ds rest → All P kept → All P ds → All P rest
thinned_all n P kept [] rest thinned all_kept all = subst (λ (es : List Dependency). All P es) (sym thinned) all_kept
thinned_all n P kept (d ∷ later) rest thinned all_kept all =
    ⊎_elim
    (λ (out : Implies n (kept ++ later) d × IsThinned n kept later rest). thinned_all n P kept later rest out.1 all_kept (All-tail P d later all))
    (λ (stays : (Implies n (kept ++ later) d → ⊥) × IsThinned n (kept ++ d ∷ []) later rest).
    thinned_all n P (kept ++ d ∷ []) later rest stays.1 (All-append P kept (d ∷ []) all_kept (All-cons P d [] (All-head P d later all) (All-nil P))) (All-tail P d later all))
    thinned

-- what is left after those kept before, none of which follows from the others
pub record IsLeftOf (n : ℕ) (kept ds rest left : List Dependency) : Type 0 where
  pub whole : rest ≡ kept ++ left
  pub among : (r : Relation) → All (λ (d : Dependency). Obeys n d r) ds → All (λ (d : Dependency). Obeys n d r) left
  pub needed : (before after : List Dependency) (d : Dependency) → left ≡ before ++ d ∷ after → Implies n (kept ++ (before ++ after)) d → ⊥

left_more : (n : ℕ) (kept later rest left : List Dependency) (d : Dependency) → (Implies n (kept ++ later) d → ⊥) → IsLeftOf n (kept ++ d ∷ []) later rest left → IsLeftOf n kept (d ∷ later) rest (d ∷ left)
left_more n kept later rest left d fails others = record {
  whole = others.whole ∙ append_assoc kept (d ∷ []) left;
  among = λ r all.
      let P : Dependency → Type 0 = λ (e : Dependency). Obeys n e r in
      All-cons P d left (All-head P d later all) (others.among r (All-tail P d later all));
  needed = needed_at;
}
  where
    needed_at : (before after : List Dependency) (e : Dependency) → d ∷ left ≡ before ++ e ∷ after → Implies n (kept ++ (before ++ after)) e → ⊥
    needed_at [] after e same implied =
        let parts = cons_parts d e left after same in
        fails (λ r legal.
        let P : Dependency → Type 0 = λ (f : Dependency). Obeys n f r in
        let rest_obeyed : All P after = subst (λ (es : List Dependency). All P es) parts.1 (others.among r (All-right P kept later legal.obeys)) in
        subst P (sym parts.0) (implied r (legal_from n (kept ++ later) (kept ++ after) r legal (All-append P kept after (All-left P kept later legal.obeys) rest_obeyed))))
    needed_at (b ∷ before) after e same implied =
        let parts = cons_parts d b left (before ++ e ∷ after) same in
        let joined : kept ++ (b ∷ (before ++ after)) ≡ (kept ++ d ∷ []) ++ (before ++ after) =
        ap (λ (f : Dependency). kept ++ (f ∷ (before ++ after))) (sym parts.0) ∙ sym (append_assoc kept (d ∷ []) (before ++ after)) in
        others.needed before after e parts.1 (subst (λ (es : List Dependency). Implies n es e) joined implied)

pub thinned_left : (n : ℕ) (kept ds rest : List Dependency) → IsThinned n kept ds rest → (left : List Dependency) × IsLeftOf n kept ds rest left
thinned_left n kept [] rest thinned = (
  [],
  record {
    whole = thinned ∙ sym (append-nil kept);
    among = λ r all. All-nil (λ (d : Dependency). Obeys n d r);
    needed = λ before after d same implied. nil_not_split before d after same;
  },
)
thinned_left n kept (d ∷ later) rest thinned =
    ⊎_elim
    (λ (out : Implies n (kept ++ later) d × IsThinned n kept later rest).
    let others = thinned_left n kept later rest out.1 in (
      others.0,
      record {
        whole = others.1.whole;
        among = λ r all. others.1.among r (All-tail (λ (e : Dependency). Obeys n e r) d later all);
        needed = others.1.needed;
      },
    ))
    (λ (stays : (Implies n (kept ++ later) d → ⊥) × IsThinned n (kept ++ d ∷ []) later rest).
    let others = thinned_left n (kept ++ d ∷ []) later rest stays.1 in
    (d ∷ others.0, left_more n kept later rest others.0 d stays.0 others.1))
    thinned

-- ---- the members
-- an implied functional dependency within n attributes, with one attribute on the right
record IsFirst (n : ℕ) (ds : List Dependency) (d : Dependency) : Type 0 where
  pub single : IsSingle d
  pub within : IsSubset (left_of d) (below n)
  pub implied : Implies n (functional_part ds) (fd (left_of d) (right_of d))

-- the members of one dependency are such
first_of : (n : ℕ) (ds : List Dependency) (d : Dependency) → IsWithin (below n) d → (is_fd d ≡ true → Implies n (functional_part ds) d) → All (IsFirst n ds) (members_of n d)
first_of n ds (fd x y) within implied =
    All-map (IsFirst n ds) (λ (a : ℕ). fd x (only a)) (members_below n (difference y x))
    (All-weaker (λ (a : ℕ). difference y x a ≡ true) (λ (a : ℕ). IsFirst n ds (fd x (only a))) one (members_below n (difference y x)) (members_are n (difference y x)))
  where
    one : (a : ℕ) → difference y x a ≡ true → IsFirst n ds (fd x (only a))
    one a member = record {
      single = (x, a, refl);
      within = within.0;
      implied = λ r legal. fd_weaker_obeyed x y x (only a) r (λ (k : ℕ) m. m) (λ (k : ℕ) m. grind (arith, nat_tests, m, member)) (implied refl r legal);
    }
first_of n ds (mvd x y) within implied = All-nil (IsFirst n ds)

-- a fact of each functional dependency of a list
functional_to : (P : Dependency → Type 0) (ds : List Dependency) → All P (functional_part ds) → All (λ (d : Dependency). is_fd d ≡ true → P d) ds
functional_to P [] h = All-nil (λ (d : Dependency). is_fd d ≡ true → P d)
functional_to P (fd x y ∷ ds) h =
    All-cons (λ (d : Dependency). is_fd d ≡ true → P d) (fd x y) ds (λ _. All-head P (fd x y) (functional_part ds) h) (functional_to P ds (All-tail P (fd x y) (functional_part ds) h))
functional_to P (mvd x y ∷ ds) h =
    All-cons (λ (d : Dependency). is_fd d ≡ true → P d) (mvd x y) ds (λ is. absurd (true≢false (sym is))) (functional_to P ds h)

functional_from : (P : Dependency → Type 0) (ds : List Dependency) → All (λ (d : Dependency). is_fd d ≡ true → P d) ds → All P (functional_part ds)
functional_from P [] h = All-nil P
functional_from P (fd x y ∷ ds) h =
    All-cons P (fd x y) (functional_part ds) (All-head (λ (d : Dependency). is_fd d ≡ true → P d) (fd x y) ds h refl) (functional_from P ds (All-tail (λ (d : Dependency). is_fd d ≡ true → P d) (fd x y) ds h))
functional_from P (mvd x y ∷ ds) h = functional_from P ds (All-tail (λ (d : Dependency). is_fd d ≡ true → P d) (mvd x y) ds h)

-- and of each multivalued one
both_parts : (P : Dependency → Type 0) (ds : List Dependency) → All P (functional_part ds) → All P (multivalued_part ds) → All P ds
both_parts P [] f m = All-nil P
both_parts P (fd x y ∷ ds) f m =
    All-cons P (fd x y) ds (All-head P (fd x y) (functional_part ds) f) (both_parts P ds (All-tail P (fd x y) (functional_part ds) f) m)
both_parts P (mvd x y ∷ ds) f m =
    All-cons P (mvd x y) ds (All-head P (mvd x y) (multivalued_part ds) m) (both_parts P ds f (All-tail P (mvd x y) (multivalued_part ds) m))

-- a member with its left side shortened says as much
shortened_obeyed : (n : ℕ) (ds : List Dependency) (r : Relation) (d e : Dependency) → IsLeftReducedDependency n ds d e → Obeys n e r → Obeys n d r
shortened_obeyed n ds r (fd x y) e is obeys =
    fd_weaker_obeyed is.0 y x y r is.2.within (λ (k : ℕ) m. m) (subst (λ (f : Dependency). Obeys n f r) is.1 obeys)
shortened_obeyed n ds r (mvd x y) e is obeys =
    replication_obeyed (below n) x y r (fd_weaker_obeyed is.0 y x y r is.2.within (λ (k : ℕ) m. m) (subst (λ (f : Dependency). Obeys n f r) is.1 obeys))

shortened_implied : (n : ℕ) (ds : List Dependency) (d e : Dependency) → IsLeftReducedDependency n ds d e → IsFirst n ds d → Implies n (functional_part ds) e
shortened_implied n ds d e is first =
    subst (λ (f : Dependency). Implies n (functional_part ds) f) (sym is.1) (short_implied n ds (left_of d) (right_of d) is.0 is.2 first.within first.implied)

shortened_single : (n : ℕ) (ds : List Dependency) (d e : Dependency) → IsLeftReducedDependency n ds d e → IsFirst n ds d → IsSingle e
shortened_single n ds d e is first =
    let single = first.single in
    (is.0, single.1, is.1 ∙ ap (λ (f : Dependency). fd is.0 (right_of f)) single.2)

-- no attribute of its left side can be left out
abbrev IsShort : ℕ → List Dependency → Dependency → Type 0
IsShort n ds d = (i : ℕ) → left_of d i ≡ true → Implies n (functional_part ds) (fd (difference (left_of d) (only i)) (right_of d)) → ⊥

shortened_short : (n : ℕ) (ds : List Dependency) (d e : Dependency) → IsLeftReducedDependency n ds d e → IsShort n ds e
shortened_short n ds d e is =
    subst (λ (f : Dependency). IsShort n ds f) (sym is.1) (λ i member. left_reduced-needed n ds (left_of d) (right_of d) is.0 i is.2 member)

-- ---- the fixed cover
module _ (n : ℕ) (ds cover : List Dependency) (within : All (IsWithin (below n)) ds) (is : IsFixedCover n ds cover) where
  abbrev firsts : List Dependency
  firsts = flat_map (members_of n) ds

  all_first : All (IsFirst n ds) firsts
  all_first = All-flat_map-from (IsFirst n ds) (members_of n) ds
      (λ k d l. first_of n ds _ (within k d l) (λ is_functional r legal. functional_to (λ (e : Dependency). Obeys n e r) ds legal.obeys k d l is_functional))

  -- a relation that obeys the members obeys the functional dependencies
  obeyed_to : (r : Relation) → Each n r is.members → Each n r (functional_part ds)
  obeyed_to r each =
      let P : Dependency → Type 0 = λ (d : Dependency). Obeys n d r in
      let parts = All-flat_map-to P (members_of n) ds (AllZip-from (IsLeftReducedDependency n ds) P P firsts is.members (shortened_obeyed n ds r) is.shortened each) in
      functional_from P ds (λ k d l. member_obeyed r _ (within k d l) (parts k d l))
    where
      member_obeyed : (r : Relation) (d : Dependency) → IsWithin (below n) d → All (λ (e : Dependency). Obeys n e r) (members_of n d) → is_fd d ≡ true → Obeys n d r
      member_obeyed r (fd x y) d_in all _ = members_obeyed-to n x y r d_in.1 all
      member_obeyed r (mvd x y) d_in all is_functional = absurd (true≢false (sym is_functional))

  -- and the other way round
  obeyed_from : (r : Relation) → IsLegal n (functional_part ds) r → Each n r is.members
  obeyed_from r legal =
      AllZip-to (IsLeftReducedDependency n ds) (IsFirst n ds) (λ (d : Dependency). Obeys n d r) firsts is.members
      (λ d e short first. shortened_implied n ds d e short first r legal) is.shortened all_first

  same : HaveSameLegal n cover (functional_part ds)
  same r = (
    (λ legal. let members = thinned_legal-to n [] is.members cover r is.thinned legal in legal_from n cover (functional_part ds) r legal (obeyed_to r members.obeys)),
    (λ legal. thinned_legal-from n [] is.members cover r is.thinned (legal_from n (functional_part ds) is.members r legal (obeyed_from r legal))),
  )

  all_single : All IsSingle cover
  all_single =
      thinned_all n IsSingle [] is.members cover is.thinned (All-nil IsSingle)
      (AllZip-to (IsLeftReducedDependency n ds) (IsFirst n ds) IsSingle firsts is.members (shortened_single n ds) is.shortened all_first)

  pub fixed_is_minimal : IsMinimalCover n ds cover
  fixed_is_minimal = record {
    single = all_single;
    same_legal = same;
    needed = λ before after d split implied.
        let left = thinned_left n [] is.members cover is.thinned in
        left.1.needed before after d (sym left.1.whole ∙ split) implied;
    short = λ d member.
        let all = AllZip-to (IsLeftReducedDependency n ds) (IsFirst n ds) (IsShort n ds) firsts is.members (λ (e f : Dependency) short first. shortened_short n ds e f short) is.shortened all_first in
        All-contains (IsShort n ds) cover d (thinned_all n (IsShort n ds) [] is.members cover is.thinned (All-nil (IsShort n ds)) all) member;
  }

-- ---- the fixed whole cover
module _ (n : ℕ) (ds whole : List Dependency) (within : All (IsWithin (below n)) ds) (is : IsFixedWholeCover n ds whole) where
  minimal : IsMinimalCover n ds is.cover
  minimal = fixed_is_minimal n ds is.cover within is.fixed

  whole_to : (r : Relation) → IsLegal n whole r → IsLegal n ds r
  whole_to r legal =
      let P : Dependency → Type 0 = λ (d : Dependency). Obeys n d r in
      let all = thinned_legal-to n is.cover (multivalued_part ds) whole r is.thinned legal in
      let functional = (minimal.same_legal r).0 (legal_from n whole is.cover r legal (All-left P is.cover (multivalued_part ds) all.obeys)) in
      legal_from n whole ds r legal (both_parts P ds functional.obeys (All-right P is.cover (multivalued_part ds) all.obeys))

  whole_from : (r : Relation) → IsLegal n ds r → IsLegal n whole r
  whole_from r legal =
      let P : Dependency → Type 0 = λ (d : Dependency). Obeys n d r in
      let functional : IsLegal n (functional_part ds) r = legal_from n ds (functional_part ds) r legal (All-filter is_fd P ds legal.obeys) in
      let cover = (minimal.same_legal r).1 functional in
      thinned_legal-from n is.cover (multivalued_part ds) whole r is.thinned
      (legal_from n ds (is.cover ++ multivalued_part ds) r legal (All-append P is.cover (multivalued_part ds) cover.obeys (All-filter (λ (d : Dependency). not (is_fd d)) P ds legal.obeys)))

  pub fixed_is_whole : IsWholeCover n ds whole
  fixed_is_whole = record {
    same_legal = λ r. (whole_to r, whole_from r);
    needed = λ before after d split multivalued implied.
        let left = thinned_left n is.cover (multivalued_part ds) whole is.thinned in
        let functional : All (λ (e : Dependency). is_fd e ≡ true) is.cover = All-weaker IsSingle (λ (e : Dependency). is_fd e ≡ true) (λ e single. ap is_fd single.2) is.cover minimal.single in
        let at = split_later (λ (e : Dependency). is_fd e ≡ true) is.cover left.0 before after d functional (λ is_functional. true≢false (sym is_functional ∙ multivalued)) (sym left.1.whole ∙ split) in
        left.1.needed at.0 after d at.2 (subst (λ (es : List Dependency). Implies n es d) (ap (λ (es : List Dependency). es ++ after) at.1 ∙ append_assoc is.cover at.0 after) implied);
  }

-- ---- the functional part of the fixed whole cover
-- thinning multivalued dependencies leaves the functional ones
functional_kept : (n : ℕ) (kept later whole : List Dependency) → All (λ (d : Dependency). is_fd d ≡ false) later
    → IsThinned n kept later whole → functional_part whole ≡ functional_part kept
functional_kept n kept [] whole multivalued is = ap functional_part is
functional_kept n kept (d ∷ later) whole multivalued is =
    let rest = All-tail (λ (e : Dependency). is_fd e ≡ false) d later multivalued in
    let first : is_fd d ≡ false = All-head (λ (e : Dependency). is_fd e ≡ false) d later multivalued in
    let pushed : functional_part (kept ++ d ∷ []) ≡ functional_part kept =
    filter-append is_fd kept (d ∷ []) ∙ (rw first (append-nil (functional_part kept))) in
    elim is [
      | inl left_out ↦ functional_kept n kept later whole rest left_out.1
      | inr needed ↦ functional_kept n (kept ++ d ∷ []) later whole rest needed.1 ∙ pushed
    ]

all_kept : (ds : List Dependency) → All (λ (d : Dependency). is_fd d ≡ true) ds → functional_part ds ≡ ds
all_kept [] all = refl
all_kept (d ∷ ds) all =
    let first : is_fd d ≡ true = All-head (λ (e : Dependency). is_fd e ≡ true) d ds all in
    rw first (ap (λ (es : List Dependency). d ∷ es) (all_kept ds (All-tail (λ (e : Dependency). is_fd e ≡ true) d ds all)))

pub whole_is_minimal : (n : ℕ) (ds whole : List Dependency) → All (IsWithin (below n)) ds → IsFixedWholeCover n ds whole
    → IsMinimalCover n ds (functional_part whole)
whole_is_minimal n ds whole within is =
    let minimal : IsMinimalCover n ds is.cover = fixed_is_minimal n ds is.cover within is.fixed in
    let functional = All-weaker IsSingle (λ (d : Dependency). is_fd d ≡ true) (λ d single. ap is_fd single.2) is.cover minimal.single in
    let multivalued = All-weaker (λ (d : Dependency). not (is_fd d) ≡ true) (λ (d : Dependency). is_fd d ≡ false)
    (λ d passes. not-true (is_fd d) passes) (multivalued_part ds) (filter_passes (λ d. not (is_fd d)) ds) in
    subst (λ (es : List Dependency). IsMinimalCover n ds es)
    (sym (functional_kept n is.cover (multivalued_part ds) whole multivalued is.thinned ∙ all_kept is.cover functional)) minimal
