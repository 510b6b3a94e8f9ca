-- No design whose keys state the functional dependencies has fewer schemes than there are groups: a left side of each group is
-- alike with a key of some scheme, and keys of one scheme are alike.
use Rattle.std.proofs.Common.{◌≡◌, ℕ, ◌≤◌, Bool, true, not, List, [], ◌++◌, length, refl, sym, subst, ap, ◌∙◌, ⊎_elim, arith}
use Rattle.std.specs.Prelude.{All, Contains, filter}
use Rattle.std.specs.List.{flat_map}
use Rattle.std.proofs.lemmas.Bool.{cases_Bool, true≢false, lt-ltb, ltb-true, not-true}
use Rattle.std.proofs.lemmas.Bool.Decides.{nat_tests}
use Rattle.std.proofs.lemmas.List.{length-map}
use Rattle.std.proofs.lemmas.List.Elements.{All-contains, All-filter}
use Rattle.attr_sets.specs.declared.set.TheConstants.{MOST_ATTRIBUTES}
use Rattle.attr_sets.specs.Attributes.{Attributes, below, only, intersection, IsSubset}
use Rattle.attr_sets.proofs.AttributesLemmas.{tell_subset}
use Rattle.dep_model.specs.Dependencies.{Dependency, fd, Obeys, is_fd, functional_part, left_of, right_of, IsWithin}
use Rattle.dep_model.specs.Implication.{Implies}
use Rattle.dep_model.specs.TwoTuples.{two_tuples}
use Rattle.dep_model.specs.Keys.{IsSuperkey}
use Rattle.dep_model.proofs.KeyLemmas.{fd_on-to}
use Rattle.dep_model.proofs.ListLemmas.{All-members, flat_map-member, map-member}
use Rattle.dep_model.proofs.PreservationLemmas.{fd-obeyed}
use Rattle.dep_model.proofs.TwoTupleLemmas.{two_tuples_fd-to}
use Rattle.fd_closure.specs.FunctionallyClosed.{IsFunctionallyClosed}
use Rattle.fd_closure.proofs.ClosureLemmas.{fd_each-to, fd_each-from}
use Rattle.fd_closure.proofs.ClosedSets.{IsClosure, closed-from, closure_set, tell_functionally_closed}
use Rattle.min_cover.specs.Covers.{IsMinimalCover, IsSingle}
use Rattle.synthesis_3nf.specs.Groups.{left_sides_after}
use Rattle.synthesis_3nf.proofs.GroupSchemes.{AreRules}
use Rattle.synthesis_3nf.proofs.GroupLemmas.{left_among, left_found}
use Rattle.synthesis_3nf.proofs.ThirdLemmas.{Contains-insert_cases, contains_split, cover_rules, fd_trans, fd_within, functional_same, implied_by_rules, member_holds, rules_implied, rules_same}
use Rattle.fewest_tables.specs.Alike.{AreAlike, AreGroups, DecidesAlike, firsts_after}
use Rattle.fewest_tables.specs.KeyedDesigns.{AreFewest, KeyedScheme, StatesDependencies, key_dependencies}
use Rattle.fewest_tables.proofs.AlikeLemmas.{alike_itself, alike_through, alike_turned}
use Rattle.fewest_tables.proofs.FirstLemmas.{filter_member, Contains-filter, firsts_among, firsts_apart, no_fewer}

-- more dependencies imply what fewer imply
implied_by_more : (n : ℕ) (es fs : List Dependency) (d : Dependency) → ((e : Dependency) → Contains es e → Contains fs e) → Implies n es d → Implies n fs d
implied_by_more n es fs d part implied r legal =
    implied r (record { over = legal.over; obeys = All-members (λ (e : Dependency). Obeys n e r) es (λ e has. All-contains (λ (f : Dependency). Obeys n f r) fs e legal.obeys (part e has)) })

-- ---- the dependencies of keys
-- which key of which table says it
record IsOfKey (design : List KeyedScheme) (d : Dependency) : Type 0 where
  table : KeyedScheme
  listed : Contains design table
  key : Attributes
  key_in : Contains table.keys key
  is : d ≡ fd key table.scheme

of_key : (design : List KeyedScheme) (d : Dependency) → Contains (flat_map key_dependencies design) d → IsOfKey design d
of_key design d has =
    let at = flat_map-member key_dependencies design d has in
    let found = map-member (λ (key : Attributes). fd key at.0.scheme) at.0.keys d at.2 in
    record { table = at.0; listed = at.1; key = found.0; key_in = found.1; is = sym found.2 }

module _ (n : ℕ) (ds : List Dependency) (design : List KeyedScheme) (states : StatesDependencies n ds design) where
  table_low : (table : KeyedScheme) → Contains design table → IsSubset table.scheme (below n)
  table_low table has = All-contains (λ (t : KeyedScheme). IsSubset t.scheme (below n)) design table states.within has

  is_superkey : (table : KeyedScheme) (key : Attributes) → Contains design table → Contains table.keys key → IsSuperkey n (functional_part ds) table.scheme key
  is_superkey table key has key_in =
      All-contains (IsSuperkey n (functional_part ds) table.scheme) table.keys key
      (All-contains (λ (t : KeyedScheme). All (IsSuperkey n (functional_part ds) t.scheme) t.keys) design table states.keys has) key_in

  key_determines : (table : KeyedScheme) (key : Attributes) → Contains design table → Contains table.keys key → Implies n (functional_part ds) (fd key table.scheme)
  key_determines table key has key_in = fd_on-to n (functional_part ds) table.scheme key table.scheme (is_superkey table key has key_in)

  key_part : (table : KeyedScheme) (key : Attributes) → Contains design table → Contains table.keys key → IsSubset key table.scheme
  key_part table key has key_in = (is_superkey table key has key_in).within.0

  -- keys of one scheme are alike
  keys_alike : (table : KeyedScheme) (one other : Attributes) → Contains design table → Contains table.keys one → Contains table.keys other → AreAlike n ds one other
  keys_alike table one other has one_in other_in = (
    fd_trans n (functional_part ds) one table.scheme other (key_determines table one has one_in) (fd_within n (functional_part ds) table.scheme other (key_part table other has other_in)),
    fd_trans n (functional_part ds) other table.scheme one (key_determines table other has other_in) (fd_within n (functional_part ds) table.scheme one (key_part table one has one_in)),
  )

  keys_within : All (IsWithin (below n)) (flat_map key_dependencies design)
  keys_within = All-members (IsWithin (below n)) (flat_map key_dependencies design) (λ d has.
      let one = of_key design d has in
      let low = table_low one.table one.listed in
      subst (λ (e : Dependency). IsWithin (below n) e) (sym one.is) ((λ (k : ℕ) m. low k (key_part one.table one.key one.listed one.key_in k m)), low))

  keys_functional : All (λ d. is_fd d ≡ true) (flat_map key_dependencies design)
  keys_functional = All-members (λ (d : Dependency). is_fd d ≡ true) (flat_map key_dependencies design) (λ d has.
      let one = of_key design d has in
      subst (λ (e : Dependency). is_fd e ≡ true) (sym one.is) refl)

  -- they imply what the functional part implies
  stated : (d : Dependency) → Implies n (functional_part ds) d → Implies n (flat_map key_dependencies design) d
  stated d implied r legal = implied r (record {
    over = legal.over;
    obeys = All-members (λ (e : Dependency). Obeys n e r) (functional_part ds) (λ e has.
        All-contains (λ (f : Dependency). Implies n (flat_map key_dependencies design) f) (functional_part ds) e states.stated has r legal);
  })

  module _ (cover : List Dependency) (within_limit : n ≤ MOST_ATTRIBUTES) (minimal : IsMinimalCover n ds cover) (within : All (IsWithin (below n)) cover)
      (test : Attributes → Attributes → Bool) (decides : DecidesAlike n ds (left_sides_after [] cover) test) where
    rules : AreRules n ds cover
    rules = cover_rules n ds cover minimal within

    left_side : (d : Dependency) → Contains cover d → Contains (left_sides_after [] cover) (left_of d)
    left_side d has = left_among n within_limit cover minimal.single within d has

    module _ (x : Attributes) (a : ℕ) (member : Contains cover (fd x (only a))) where
      x_side : Contains (left_sides_after [] cover) x
      x_side = left_side (fd x (only a)) member

      x_low : IsSubset x (below n)
      x_low = (All-contains (IsWithin (below n)) cover (fd x (only a)) within member).0

      a_low : below n a ≡ true
      a_low = (All-contains (IsWithin (below n)) cover (fd x (only a)) within member).1 a (grind (arith, nat_tests))

      -- the members of the other groups
      abbrev is_other : Dependency → Bool
      is_other d = not (test x (left_of d))

      abbrev others : List Dependency
      others = filter is_other cover

      others_within : All (IsWithin (below n)) others
      others_within = All-filter is_other (IsWithin (below n)) cover within

      others_functional : functional_part others ≡ others
      others_functional = functional_same others (All-filter is_other (λ (d : Dependency). is_fd d ≡ true) cover rules.functional)

      -- what they imply the functional part implies
      by_others : (d : Dependency) → Implies n others d → Implies n (functional_part ds) d
      by_others d implied =
          rules_implied n ds cover rules d (implied_by_more n others cover d (λ e has. (filter_member is_other cover e has).0) implied)

      -- they do not lead from the left side to the attribute
      not_given : Implies n others (fd x (only a)) → ⊥
      not_given implied =
          let split = contains_split cover (fd x (only a)) member in
          minimal.needed split.0 split.1 (fd x (only a)) split.2
          (implied_by_more n others (split.0 ++ split.1) (fd x (only a)) (λ e has.
          let found = filter_member is_other cover e has in
          ⊎_elim
          (λ beside. beside)
          (λ same.
          let alike : test x (left_of e) ≡ true = subst (λ (d : Dependency). test x (left_of d) ≡ true) same ((decides x x x_side x_side).1 (alike_itself n ds x)) in
          absurd (true≢false (sym alike ∙ not-true (test x (left_of e)) found.1)))
          (Contains-insert_cases split.0 split.1 (fd x (only a)) e (subst (λ (es : List Dependency). Contains es e) split.2 found.0))) implied)

      -- a set that holds what follows from the left side by them, and a key within it whose scheme leads out of it
      module _ (c : Attributes) (closure : IsClosure n others x c) (table : KeyedScheme) (key : Attributes) (listed : Contains design table) (key_in : Contains table.keys key)
          (inside : IsSubset key c) (beyond : IsSubset table.scheme c → ⊥) where
        key_low : IsSubset key (below n)
        key_low k m = table_low table listed k (key_part table key listed key_in k m)

        -- the left side determines the key
        to_key : Implies n (functional_part ds) (fd x key)
        to_key = by_others (fd x key) (fd_each-from n others x key (λ (k : ℕ) m. ((closure.exact k).0 (inside k m)).1))

        -- and the key the left side: else what follows from the key would follow by the other groups
        to_left : Implies n (functional_part ds) (fd key x)
        to_left =
            let found = closure_set n cover key within (rules_same n ds cover rules) key_low in
            let e = found.0 in
            let reach = found.1 in
            ⊎_elim
            (λ out.
            let misses : IsSubset x e → ⊥ = λ all. true≢false (sym (all out.0 out.2) ∙ out.3) in
            absurd (beyond (all_inside e reach misses)))
            (λ all. rules_implied n ds cover rules (fd key x) (fd_each-from n cover key x (λ (k : ℕ) m. ((reach.exact k).0 (all k m)).1)))
            (tell_subset n x e x_low)
          where
            both_closed : (e : Attributes) → IsClosure n cover key e → (IsSubset x e → ⊥) → IsFunctionallyClosed cover (intersection e c)
            both_closed e reach misses = All-members (λ (d : Dependency). IsSubset (left_of d) (intersection e c) → IsSubset (right_of d) (intersection e c)) cover (λ d has left k m.
                let low = All-contains (IsWithin (below n)) cover d within has in
                let is = All-contains (λ (f : Dependency). is_fd f ≡ true) cover d rules.functional has in
                let left_e : IsSubset (left_of d) e = λ (j : ℕ) j_in. grind (arith, left j j_in) in
                let left_c : IsSubset (left_of d) c = λ (j : ℕ) j_in. grind (arith, left j j_in) in
                let obeyed_e = fd-obeyed n d (two_tuples n e) is (All-contains (λ (f : Dependency). Obeys n f (two_tuples n e)) cover d reach.legal.obeys has) in
                let right_e : IsSubset (right_of d) e = two_tuples_fd-to n e (left_of d) (right_of d) low.0 low.1 obeyed_e left_e in
                ⊎_elim
                (λ alike.
                let leads = ((decides x (left_of d) x_side (left_side d has)).0 alike).1 in
                let in_e : IsSubset x e = λ (j : ℕ) j_in.
                let from_left = fd_each-to n cover (left_of d) x (implied_by_rules n ds cover rules (fd (left_of d) x) leads) j j_in in
                (reach.exact j).1 (ltb-true j n (x_low j j_in), fd_trans n cover key (left_of d) (only j) (fd_each-from n cover key (left_of d) (λ (i : ℕ) i_in. ((reach.exact i).0 (left_e i i_in)).1)) from_left) in
                absurd (misses in_e))
                (λ other.
                let other_in = Contains-filter is_other cover d has (ap not other) in
                let obeyed_c = fd-obeyed n d (two_tuples n c) is (All-contains (λ (f : Dependency). Obeys n f (two_tuples n c)) others d closure.legal.obeys other_in) in
                let right_c : IsSubset (right_of d) c = two_tuples_fd-to n c (left_of d) (right_of d) low.0 low.1 obeyed_c left_c in
                grind (arith, right_e k m, right_c k m))
                (cases_Bool (test x (left_of d))))

            all_inside : (e : Attributes) → IsClosure n cover key e → (IsSubset x e → ⊥) → IsSubset table.scheme c
            all_inside e reach misses k m =
                let both = intersection e c in
                let holds : IsSubset key both = λ (j : ℕ) j_in. grind (arith, reach.holds j j_in, inside j j_in) in
                let low : IsSubset both (below n) = λ (j : ℕ) j_in. lt-ltb j n ((reach.exact j).0 (grind (arith, j_in))).0 in
                let follows : Implies n cover (fd both (only k)) =
                fd_trans n cover both key (only k) (fd_within n cover both key holds)
                (fd_each-to n cover key table.scheme (implied_by_rules n ds cover rules (fd key table.scheme) (key_determines table key listed key_in)) k m) in
                let member = closed-from n cover both within (rules_same n ds cover rules) low (both_closed e reach misses) k (ltb-true k n (table_low table listed k m), follows) in
                grind (arith, member)

      -- a key of some scheme is alike with the left side
      found_key : (table : KeyedScheme) × Contains design table × ((key : Attributes) × Contains table.keys key × AreAlike n ds x key)
      found_key =
          let all = flat_map key_dependencies design in
          let found = closure_set n others x others_within others_functional x_low in
          let c = found.0 in
          let closure = found.1 in
          let c_low : IsSubset c (below n) = λ (k : ℕ) m. lt-ltb k n ((closure.exact k).0 m).0 in
          let given : Implies n all (fd c (only a)) =
          fd_trans n all c x (only a) (fd_within n all c x closure.holds) (stated (fd x (only a)) (member_holds n ds cover minimal within (fd x (only a)) member)) in
          ⊎_elim
          (λ out.
          let one = of_key design out.0 out.1 in
          let inside : IsSubset one.key c = λ (k : ℕ) m. out.2.inside k (subst (λ (d : Dependency). left_of d k ≡ true) (sym one.is) m) in
          let beyond : IsSubset one.table.scheme c → ⊥ = λ fits. out.2.beyond (λ k m. fits k (subst (λ (d : Dependency). right_of d k ≡ true) one.is m)) in (
            one.table,
            one.listed,
            (
              one.key,
              one.key_in,
              (to_key c closure one.table one.key one.listed one.key_in inside beyond, to_left c closure one.table one.key one.listed one.key_in inside beyond),
            ),
          ))
          (λ is_closed.
          let in_c = closed-from n all c keys_within (functional_same all keys_functional) c_low is_closed a (ltb-true a n a_low, given) in
          absurd (not_given ((closure.exact a).0 in_c).1))
          (tell_functionally_closed n c all keys_within)

    -- so does a table stand for each group, and for no other one
    as_many : length (firsts_after test [] (left_sides_after [] cover)) ≤ length design
    as_many =
        let sides = left_sides_after [] cover in
        let firsts = firsts_after test [] sides in
        let HasTable : Attributes → KeyedScheme → Type 0 = λ x table. Contains design table × ((key : Attributes) × Contains table.keys key × AreAlike n ds x key) in
        let side_in : (x : Attributes) → Contains firsts x → Contains sides x = λ x has. firsts_among test [] sides x has in
        no_fewer test HasTable firsts design (firsts_apart test [] sides)
        (λ x has.
        let owner = left_found [] cover x (side_in x has) in
        let found = table_of x owner.0 owner.1 owner.2 in
        (found.0, found.1, (found.1, found.2)))
        (λ x z table x_has z_has x_table z_table.
        let keys = keys_alike table x_table.1.0 z_table.1.0 x_table.0 x_table.1.1 z_table.1.1 in
        (decides x z (side_in x x_has) (side_in z z_has)).1
        (alike_through n ds x x_table.1.0 z x_table.1.2
        (alike_through n ds x_table.1.0 z_table.1.0 z keys (alike_turned n ds z z_table.1.0 z_table.1.2))))
      where
        table_of : (x : Attributes) (d : Dependency) → Contains cover d → left_of d ≡ x → (table : KeyedScheme) × Contains design table × ((key : Attributes) × Contains table.keys key × AreAlike n ds x key)
        table_of x d has left =
            let one = All-contains IsSingle cover d minimal.single has in
            let own : one.0 ≡ x = sym (ap left_of one.2) ∙ left in
            let is : d ≡ fd x (only one.1) = one.2 ∙ ap (λ (y : Attributes). fd y (only one.1)) own in
            found_key x one.1 (subst (λ (e : Dependency). Contains cover e) is has)

pub fewest_groups : (n : ℕ) (ds cover : List Dependency) (groups : List (List Attributes)) → n ≤ MOST_ATTRIBUTES → IsMinimalCover n ds cover → All (IsWithin (below n)) cover
    → AreGroups n ds (left_sides_after [] cover) groups → AreFewest n ds groups
fewest_groups n ds cover groups within_limit minimal within (test, decides, same) design states =
    let firsts = firsts_after test [] (left_sides_after [] cover) in
    let fewer = as_many n ds design states cover within_limit minimal within test decides in
    omega (arith, fewer, ap (λ (l : List (List Attributes)). length l) same, length-map firsts (λ (x : Attributes). filter (test x) (left_sides_after [] cover)))
