-- Left sides in groups: each is in one, all of one are alike, and there are as many groups as left sides of which no two
-- are alike. Those with the same closure are the groups.
use Rattle.std.proofs.Common.{◌≡◌, ℕ, ◌≤◌, ◌↔◌, Bool, true, List, [], map, sym, subst, ap, ◌∙◌, arith}
use Rattle.std.specs.Prelude.{All, Contains, filter}
use Rattle.std.proofs.lemmas.Bool.{lt-ltb}
use Rattle.std.proofs.lemmas.Bool.Decides.{nat_tests}
use Rattle.std.proofs.lemmas.List.Elements.{All-nil, All-contains, All-contains_itself}
use Rattle.attr_sets.specs.declared.set.TheConstants.{MOST_ATTRIBUTES}
use Rattle.attr_sets.specs.Attributes.{Attributes, below, only, intersection, IsSubset}
use Rattle.attr_sets.specs.Sets.{attributes, is_same}
use Rattle.attr_sets.proofs.AttributesLemmas.{is_same-true, is_same-from, same_from_within}
use Rattle.dep_model.specs.Dependencies.{Dependency, fd, functional_part, IsWithin}
use Rattle.dep_model.specs.Implication.{Implies}
use Rattle.dep_model.proofs.ListLemmas.{All-members, Contains-map, map-member}
use Rattle.fd_closure.proofs.ClosureLemmas.{fd_each-from}
use Rattle.fd_closure.proofs.ClosedSets.{IsClosure, closure_set}
use Rattle.fd_closure.specs.Closures.{IsKnownClosure}
use Rattle.fd_closure.specs.declared.known.KnownClosure.{KnownClosure}
use Rattle.synthesis_3nf.proofs.ThirdLemmas.{fd_trans, fd_within}
use Rattle.fewest_tables.specs.Alike.{AreAlike, AreGroups, firsts_after}
use Rattle.fewest_tables.specs.FewestSteps.{group_with, same_closure, set_of, sets_of}
use Rattle.fewest_tables.proofs.FirstLemmas.{Contains-filter, filter_map_is, filter_member, filter_same, firsts_among, firsts_hold, firsts_map, firsts_same, map_map_is, map_same}

-- ---- alike
pub alike_itself : (n : ℕ) (ds : List Dependency) (x : Attributes) → AreAlike n ds x x
alike_itself n ds x =
    let own = fd_within n (functional_part ds) x x (λ (k : ℕ) m. m) in
    (own, own)

pub alike_turned : (n : ℕ) (ds : List Dependency) (x y : Attributes) → AreAlike n ds x y → AreAlike n ds y x
alike_turned n ds x y are = (are.1, are.0)

pub alike_through : (n : ℕ) (ds : List Dependency) (x y z : Attributes) → AreAlike n ds x y → AreAlike n ds y z → AreAlike n ds x z
alike_through n ds x y z first second = (
  fd_trans n (functional_part ds) x y z first.0 second.0,
  fd_trans n (functional_part ds) z y x second.1 first.1,
)

-- ---- groups
pub record IsGrouped (n : ℕ) (ds : List Dependency) (xs : List Attributes) (groups : List (List Attributes)) : Type 0 where
  -- their sets are those of the list
  pub among : (group : List Attributes) (x : Attributes) → Contains groups group → Contains group x → Contains xs x
  pub alike : (group : List Attributes) (x y : Attributes) → Contains groups group → Contains group x → Contains group y → AreAlike n ds x y
  pub holds : (x : Attributes) → Contains xs x → (group : List Attributes) × Contains groups group × Contains group x
  pub not_empty : (group : List Attributes) → Contains groups group → (x : Attributes) × Contains group x

pub groups_are : (n : ℕ) (ds : List Dependency) (xs : List Attributes) (groups : List (List Attributes)) → AreGroups n ds xs groups → IsGrouped n ds xs groups
groups_are n ds xs groups (test, decides, same) =
    let firsts = firsts_after test [] xs in
    let first_in : (f : Attributes) → Contains firsts f → Contains xs f = λ f has. firsts_among test [] xs f has in
    let named : (group : List Attributes) → Contains groups group → (f : Attributes) × Contains firsts f × (filter (test f) xs ≡ group) =
    λ group has. map-member (λ (x : Attributes). filter (test x) xs) firsts group (subst (λ (gs : List (List Attributes)). Contains gs group) same has) in
    let own : (x : Attributes) → Contains xs x → test x x ≡ true = λ x has. (decides x x has has).1 (alike_itself n ds x) in
    let member : (group : List Attributes) (f x : Attributes) → filter (test f) xs ≡ group → Contains group x → Contains xs x × (test f x ≡ true) =
    λ group f x is has. filter_member (test f) xs x (subst (λ (g : List Attributes). Contains g x) (sym is) has) in
    record {
      among = λ group x has x_in. let found = named group has in (member group found.0 x found.2 x_in).0;
      alike = λ group x y has x_in y_in.
          let found = named group has in
          let f_in = first_in found.0 found.1 in
          let one = member group found.0 x found.2 x_in in
          let other = member group found.0 y found.2 y_in in
          alike_through n ds x found.0 y (alike_turned n ds found.0 x ((decides found.0 x f_in one.0).0 one.1)) ((decides found.0 y f_in other.0).0 other.1);
      holds = λ x has.
          let found = firsts_hold test [] xs x (own x has) has in
          let group = filter (test found.0) xs in (
            group,
            subst (λ (gs : List (List Attributes)). Contains gs group) (sym same) (Contains-map (λ (y : Attributes). filter (test y) xs) firsts found.0 found.1),
            Contains-filter (test found.0) xs x has found.2,
          );
      not_empty = λ group has.
          let found = named group has in
          let f_in = first_in found.0 found.1 in
          (found.0, subst (λ (g : List Attributes). Contains g found.0) found.2 (Contains-filter (test found.0) xs found.0 f_in (own found.0 f_in)));
    }

-- ---- those with the same closure
module _ (n : ℕ) (ds : List Dependency) (within_limit : n ≤ MOST_ATTRIBUTES) (functional_in : All (IsWithin (below n)) (functional_part ds)) (functional : functional_part (functional_part ds) ≡ functional_part ds) where
  low : (x : Attributes) → IsSubset (intersection x (below n)) (below n)
  low x k m = grind (arith, nat_tests, m)

  -- what a set determines
  abbrev closed : Attributes → Attributes
  closed x = (closure_set n (functional_part ds) (intersection x (below n)) functional_in functional (low x)).0

  closed_is : (x : Attributes) → IsSubset x (below n) → IsClosure n (functional_part ds) x (closed x)
  closed_is x x_in =
      let same : intersection x (below n) ≡ x = same_from_within (intersection x (below n)) x (λ k m. grind (arith, m)) (λ k m. grind (arith, m, x_in k m)) in
      subst (λ (y : Attributes). IsClosure n (functional_part ds) y (closed x)) same
      (closure_set n (functional_part ds) (intersection x (below n)) functional_in functional (low x)).1

  closed_low : (x : Attributes) → IsSubset x (below n) → IsSubset (closed x) (below MOST_ATTRIBUTES)
  closed_low x x_in k m =
      let member = ((closed_is x x_in).exact k).0 m in
      lt-ltb k MOST_ATTRIBUTES (omega (arith, within_limit, member.0))

  -- sets with the same closure determine each other
  determines : (x y : Attributes) → IsSubset x (below n) → IsSubset y (below n) → closed x ≡ closed y → Implies n (functional_part ds) (fd x y)
  determines x y x_in y_in same = fd_each-from n (functional_part ds) x y (λ (k : ℕ) m.
      (((closed_is x x_in).exact k).0 (subst (λ (c : Attributes). c k ≡ true) (sym same) ((closed_is y y_in).holds k m))).1)

  closed_part : (x y : Attributes) → IsSubset x (below n) → IsSubset y (below n) → Implies n (functional_part ds) (fd y x) → IsSubset (closed x) (closed y)
  closed_part x y x_in y_in leads k m =
      let member = ((closed_is x x_in).exact k).0 m in
      ((closed_is y y_in).exact k).1 (member.0, fd_trans n (functional_part ds) y x (only k) leads member.1)

  abbrev alike_by : Attributes → Attributes → Bool
  alike_by x y = is_same (closed x) (closed y)

  decides_by : (x y : Attributes) → IsSubset x (below n) → IsSubset y (below n) → (alike_by x y ≡ true) ↔ AreAlike n ds x y
  decides_by x y x_in y_in = (
    λ is.
        let same = is_same-true (closed x) (closed y) (closed_low x x_in) (closed_low y y_in) is in
        (determines x y x_in y_in same, determines y x y_in x_in (sym same)),
    λ are. is_same-from (closed x) (closed y) (same_from_within (closed x) (closed y) (closed_part x y x_in y_in are.1) (closed_part y x y_in x_in are.0)),
  )

  module _ (known : List KnownClosure) (are : All (IsKnownClosure n (functional_part ds)) known) (known_in : All (λ one. IsSubset (set_of one) (below n)) known) where
    -- the closure that is known is the one
    closed_known : (one : KnownClosure) → Contains known one → closed (set_of one) ≡ attributes one.closed
    closed_known one has =
        let exact = All-contains (IsKnownClosure n (functional_part ds)) known one are has in
        let one_in = All-contains (λ (k : KnownClosure). IsSubset (set_of k) (below n)) known one known_in has in
        let is = closed_is (set_of one) one_in in
        same_from_within (closed (set_of one)) (attributes one.closed) (λ (k : ℕ) m. (exact k).1 ((is.exact k).0 m)) (λ (k : ℕ) m. (is.exact k).1 ((exact k).0 m))

    tests_same : (one other : KnownClosure) → Contains known one → Contains known other → alike_by (set_of one) (set_of other) ≡ same_closure one other
    tests_same one other one_in other_in =
        ap (λ (c : Attributes). is_same c (closed (set_of other))) (closed_known one one_in)
        ∙ ap (λ (c : Attributes). is_same (attributes one.closed) c) (closed_known other other_in)

    group_same : (one : KnownClosure) → Contains known one → filter (alike_by (set_of one)) (sets_of known) ≡ group_with known one
    group_same one one_in =
        filter_map_is set_of (alike_by (set_of one)) known
        ∙ ap (λ (l : List KnownClosure). sets_of l)
        (filter_same (λ (other : KnownClosure). alike_by (set_of one) (set_of other)) (same_closure one) known
        (All-members (λ (other : KnownClosure). alike_by (set_of one) (set_of other) ≡ same_closure one other) known (λ other has. tests_same one other one_in has)))

    firsts_are : firsts_after alike_by [] (sets_of known) ≡ sets_of (firsts_after same_closure [] known)
    firsts_are =
        firsts_map set_of alike_by [] known
        ∙ ap (λ (l : List KnownClosure). sets_of l)
        (firsts_same (Contains known) (λ one other. alike_by (set_of one) (set_of other)) same_closure [] known tests_same (All-nil (Contains known)) (All-contains_itself known))

    -- so they are the groups
    pub grouped_by_closures : AreGroups n ds (sets_of known) (map (group_with known) (firsts_after same_closure [] known))
    grouped_by_closures =
        let firsts = firsts_after same_closure [] known in
        let set_in : (x : Attributes) → Contains (sets_of known) x → IsSubset x (below n) = λ x has.
        let found = map-member set_of known x has in
        subst (λ (y : Attributes). IsSubset y (below n)) found.2 (All-contains (λ (k : KnownClosure). IsSubset (set_of k) (below n)) known found.0 known_in found.1) in
        let each : All (λ (one : KnownClosure). group_with known one ≡ filter (alike_by (set_of one)) (sets_of known)) firsts =
        All-members (λ (one : KnownClosure). group_with known one ≡ filter (alike_by (set_of one)) (sets_of known)) firsts
        (λ one has. sym (group_same one (firsts_among same_closure [] known one has))) in (
          alike_by,
          λ x y x_has y_has. decides_by x y (set_in x x_has) (set_in y y_has),
          map_same (group_with known) (λ (one : KnownClosure). filter (alike_by (set_of one)) (sets_of known)) firsts each
              ∙ sym (map_map_is set_of (λ (x : Attributes). filter (alike_by x) (sets_of known)) firsts)
              ∙ ap (λ (l : List Attributes). map (λ (x : Attributes). filter (alike_by x) (sets_of known)) l) (sym firsts_are),
        )
