-- What is alike, as a list of dependencies: each set of a group determines each other one, or all of the group, which says
-- the same.
use Rattle.std.proofs.Common.{◌≡◌, ℕ, ◌≤◌, Bool, true, false, not, if◌then◌else◌, List, [], ◌∷◌, map, refl, sym, subst, ap, inl, inr, arith}
use Rattle.std.specs.Prelude.{All, Contains, filter}
use Rattle.std.specs.List.{flat_map}
use Rattle.std.proofs.lemmas.Bool.{cases_Bool, lt-ltb, ltb-true}
use Rattle.std.proofs.lemmas.List.Elements.{All-contains}
use Rattle.attr_sets.specs.declared.set.TheConstants.{MOST_ATTRIBUTES}
use Rattle.attr_sets.specs.Attributes.{Attributes, below, IsSubset}
use Rattle.attr_sets.specs.Sets.{is_same}
use Rattle.attr_sets.proofs.AttributesLemmas.{is_same-true}
use Rattle.dep_model.specs.Tuples.{Relation}
use Rattle.dep_model.specs.Dependencies.{Dependency, fd, Obeys, ObeysFd, is_fd, IsWithin}
use Rattle.dep_model.specs.Implication.{Implies}
use Rattle.dep_model.proofs.ListLemmas.{All-members, Contains-flat_map, Contains-head, Contains-map, Contains-nil, Contains-cases, flat_map-member, map-member}
use Rattle.dep_model.proofs.RuleLemmas.{reflexivity_obeyed, fd_weaker_obeyed}
use Rattle.fd_closure.proofs.ClosureLemmas.{fd_each-to, fd_each-from}
use Rattle.min_cover.specs.Covers.{HaveSameLegal}
use Rattle.plans.proofs.ListLemmas.{any_from, any_some}
use Rattle.synthesis_3nf.proofs.ThirdLemmas.{fd_within, member_implied}
use Rattle.fewest_tables.specs.Alike.{all_exchanges, exchanges}
use Rattle.fewest_tables.specs.FewestSteps.{shared_exchange, shared_exchanges, union_of}
use Rattle.fewest_tables.proofs.FirstLemmas.{Contains-filter, filter_member}

-- sets of groups lie within n attributes
abbrev pub AreLow : ℕ → List (List Attributes) → Type 0
AreLow n groups = All (λ group. All (λ x. IsSubset x (below n)) group) groups

pub set_low : (n : ℕ) (groups : List (List Attributes)) → AreLow n groups → (group : List Attributes) (x : Attributes) → Contains groups group → Contains group x → IsSubset x (below n)
set_low n groups are group x has x_in =
    All-contains (λ (y : Attributes). IsSubset y (below n)) group x (All-contains (λ (g : List Attributes). All (λ y. IsSubset y (below n)) g) groups group are has) x_in

-- ---- each set of a group determines each different one
-- which dependency is one of the list
pub record IsExchange (groups : List (List Attributes)) (d : Dependency) : Type 0 where
  pub group : List Attributes
  pub grouped : Contains groups group
  pub from : Attributes
  pub from_in : Contains group from
  pub to : Attributes
  pub to_in : Contains group to
  pub is : d ≡ fd from to

pub exchange_is : (groups : List (List Attributes)) (d : Dependency) → Contains (all_exchanges groups) d → IsExchange groups d
exchange_is groups d has =
    let at = flat_map-member exchanges groups d has in
    let group = at.0 in
    let row : Attributes → List Dependency = λ x. map (λ (y : Attributes). fd x y) (filter (λ (y : Attributes). not (is_same x y)) group) in
    let first = flat_map-member row group d at.2 in
    let x = first.0 in
    let second = map-member (λ (y : Attributes). fd x y) (filter (λ (y : Attributes). not (is_same x y)) group) d first.2 in
    record {
      group = group;
      grouped = at.1;
      from = x;
      from_in = first.1;
      to = second.0;
      to_in = (filter_member (λ (y : Attributes). not (is_same x y)) group second.0 second.1).0;
      is = sym second.2;
    }

pub exchange_holds : (groups : List (List Attributes)) (group : List Attributes) (x y : Attributes) → Contains groups group → Contains group x → Contains group y → is_same x y ≡ false
    → Contains (all_exchanges groups) (fd x y)
exchange_holds groups group x y grouped x_in y_in other =
    let row : Attributes → List Dependency = λ z. map (λ (w : Attributes). fd z w) (filter (λ (w : Attributes). not (is_same z w)) group) in
    Contains-flat_map exchanges groups group (fd x y) grouped
    (Contains-flat_map row group x (fd x y) x_in
    (Contains-map (λ (w : Attributes). fd x w) (filter (λ (w : Attributes). not (is_same x w)) group) y
    (Contains-filter (λ (w : Attributes). not (is_same x w)) group y y_in (ap not other))))

module _ (n : ℕ) (within_limit : n ≤ MOST_ATTRIBUTES) (groups : List (List Attributes)) (are_low : AreLow n groups) where
  wide : (x : Attributes) → IsSubset x (below n) → IsSubset x (below MOST_ATTRIBUTES)
  wide x x_in k m = lt-ltb k MOST_ATTRIBUTES (omega (arith, within_limit, ltb-true k n (x_in k m)))

  -- a list with them implies that any set of a group determines any other
  pub exchange_implied : (rules : List Dependency) → ((d : Dependency) → Contains (all_exchanges groups) d → Contains rules d)
      → (group : List Attributes) (x y : Attributes) → Contains groups group → Contains group x → Contains group y → Implies n rules (fd x y)
  exchange_implied rules among group x y grouped x_in y_in = elim (cases_Bool (is_same x y)) [
    | inl same ↦
        let is = is_same-true x y (wide x (set_low n groups are_low group x grouped x_in)) (wide y (set_low n groups are_low group y grouped y_in)) same in
        fd_within n rules x y (λ (k : ℕ) m. subst (λ (z : Attributes). z k ≡ true) (sym is) m)
    | inr other ↦ member_implied n rules (fd x y) (among (fd x y) (exchange_holds groups group x y grouped x_in y_in other))
  ]

  pub exchanges_within : All (IsWithin (below n)) (all_exchanges groups)
  exchanges_within = All-members (IsWithin (below n)) (all_exchanges groups) (λ d has.
      let one = exchange_is groups d has in
      subst (λ (e : Dependency). IsWithin (below n) e) (sym one.is)
      (set_low n groups are_low one.group one.from one.grouped one.from_in, set_low n groups are_low one.group one.to one.grouped one.to_in))

-- all are functional
pub exchanges_functional : (groups : List (List Attributes)) → All (λ d. is_fd d ≡ true) (all_exchanges groups)
exchanges_functional groups = All-members (λ (d : Dependency). is_fd d ≡ true) (all_exchanges groups) (λ d has.
    let one = exchange_is groups d has in
    subst (λ (e : Dependency). is_fd e ≡ true) (sym one.is) refl)

-- ---- each set of a group determines the group
pub record IsShared (groups : List (List Attributes)) (d : Dependency) : Type 0 where
  pub group : List Attributes
  pub grouped : Contains groups group
  pub from : Attributes
  pub from_in : Contains group from
  pub is : d ≡ fd from (union_of group)

pub shared_is : (groups : List (List Attributes)) (d : Dependency) → Contains (flat_map shared_exchanges groups) d → IsShared groups d
shared_is groups d has =
    let at = flat_map-member shared_exchanges groups d has in
    let group = at.0 in
    let together = union_of group in
    let first = flat_map-member (shared_exchange together) group d at.2 in
    record {
      group = group;
      grouped = at.1;
      from = first.0;
      from_in = first.1;
      is = one_shared together first.0 d first.2;
    }
  where
    one_shared : (together x : Attributes) (d : Dependency) → Contains (shared_exchange together x) d → d ≡ fd x together
    one_shared together x d has = elim (cases_Bool (is_same x together)) [
      | inl same ↦
          let none : shared_exchange together x ≡ [] = ap (λ (b : Bool). if b then [] else (fd x together ∷ [])) same in
          absurd (Contains-nil d (subst (λ (l : List Dependency). Contains l d) none has))
      | inr other ↦
          let one : shared_exchange together x ≡ fd x together ∷ [] = ap (λ (b : Bool). if b then [] else (fd x together ∷ [])) other in
          elim (Contains-cases (fd x together) [] d (subst (λ (l : List Dependency). Contains l d) one has)) [
            | inl is ↦ is
            | inr nowhere ↦ absurd (Contains-nil d nowhere)
          ]
    ]

module _ (n : ℕ) (within_limit : n ≤ MOST_ATTRIBUTES) (groups : List (List Attributes)) (are_low : AreLow n groups) where
  union_low : (group : List Attributes) → Contains groups group → IsSubset (union_of group) (below n)
  union_low group grouped k m =
      let found = any_some (λ (x : Attributes). x k) group m in
      set_low n groups are_low group found.0 grouped found.1 k found.2

  pub shared_within : All (IsWithin (below n)) (flat_map shared_exchanges groups)
  shared_within = All-members (IsWithin (below n)) (flat_map shared_exchanges groups) (λ d has.
      let one = shared_is groups d has in
      subst (λ (e : Dependency). IsWithin (below n) e) (sym one.is)
      (set_low n groups are_low one.group one.from one.grouped one.from_in, union_low one.group one.grouped))

  -- a relation obeys that a set determines its group
  shared_obeyed : (r : Relation) → All (λ d. Obeys n d r) (flat_map shared_exchanges groups) → (group : List Attributes) (x : Attributes) → Contains groups group → Contains group x → ObeysFd x (union_of group) r
  shared_obeyed r obeys group x grouped x_in =
      let together = union_of group in
      elim (cases_Bool (is_same x together)) [
        | inl same ↦
            let is = is_same-true x together (wide n within_limit groups are_low x (set_low n groups are_low group x grouped x_in)) (wide n within_limit groups are_low together (union_low group grouped)) same in
            reflexivity_obeyed x together r (λ (k : ℕ) m. subst (λ (z : Attributes). z k ≡ true) (sym is) m)
        | inr other ↦
            let one : shared_exchange together x ≡ fd x together ∷ [] = ap (λ (b : Bool). if b then [] else (fd x together ∷ [])) other in
            All-contains (λ (d : Dependency). Obeys n d r) (flat_map shared_exchanges groups) (fd x together) obeys
            (Contains-flat_map shared_exchanges groups group (fd x together) grouped
            (Contains-flat_map (shared_exchange together) group x (fd x together) x_in
            (subst (λ (l : List Dependency). Contains l (fd x together)) (sym one) (Contains-head (fd x together) []))))
      ]

  -- both lists say the same
  pub shared_same : HaveSameLegal n (flat_map shared_exchanges groups) (all_exchanges groups)
  shared_same r = (
    λ legal. record {
      over = legal.over;
      obeys = All-members (λ (d : Dependency). Obeys n d r) (all_exchanges groups) (λ d has.
          let one = exchange_is groups d has in
          let part : IsSubset one.to (union_of one.group) = λ (k : ℕ) m. any_from (λ (x : Attributes). x k) one.group one.to one.to_in m in
          subst (λ (e : Dependency). Obeys n e r) (sym one.is)
          (fd_weaker_obeyed one.from (union_of one.group) one.from one.to r (λ (k : ℕ) m. m) part (shared_obeyed r legal.obeys one.group one.from one.grouped one.from_in)));
    },
    λ legal. record {
      over = legal.over;
      obeys = All-members (λ (d : Dependency). Obeys n d r) (flat_map shared_exchanges groups) (λ d has.
          let one = shared_is groups d has in
          subst (λ (e : Dependency). Obeys n e r) (sym one.is)
          (fd_each-from n (all_exchanges groups) one.from (union_of one.group) (λ (k : ℕ) m.
          let found = any_some (λ (x : Attributes). x k) one.group m in
          let leads = exchange_implied n within_limit groups are_low (all_exchanges groups) (λ e e_in. e_in) one.group one.from found.0 one.grouped one.from_in found.1 in
          fd_each-to n (all_exchanges groups) one.from found.0 leads k found.2) r legal));
    },
  )
