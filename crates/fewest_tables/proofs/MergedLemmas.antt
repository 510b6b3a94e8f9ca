-- The scheme of a group of left sides is in third normal form, each of these is a key of it, and what is alike and the members
-- that are kept lie within the schemes of the groups.
use Rattle.std.proofs.Common.{◌≡◌, ℕ, ◌≤◌, ◌⊎◌, Bool, true, false, ◌&&◌, List, [], ◌∷◌, ◌++◌, map, refl, sym, subst, ap, ◌∙◌, inl, inr, ⊎_elim, arith, append_assoc}
use Rattle.std.specs.Prelude.{All, Contains}
use Rattle.std.specs.List.{list_any}
use Rattle.std.proofs.lemmas.Bool.{cases_Bool, true≢false, eqb-true, eq-eqb, ltb-true, or_left, or_cases}
use Rattle.std.proofs.lemmas.Bool.Decides.{nat_tests}
use Rattle.std.proofs.lemmas.List.Elements.{All-append, All-contains, All-contains_itself, Contains-append_left, Contains-append_right, Contains-append_cases}
use Rattle.attr_sets.specs.declared.set.TheConstants.{MOST_ATTRIBUTES}
use Rattle.attr_sets.specs.Attributes.{Attributes, below, only, difference, union, IsSubset, IsEmpty}
use Rattle.attr_sets.specs.Sets.{is_same}
use Rattle.attr_sets.proofs.AttributesLemmas.{same_from_within}
use Rattle.dep_model.specs.Dependencies.{Dependency, fd, Obeys, is_fd, functional_part, left_of, right_of, IsWithin, LeadsOut}
use Rattle.dep_model.specs.Tuples.{Relation}
use Rattle.dep_model.specs.Implication.{IsLegal, Implies}
use Rattle.dep_model.specs.Keys.{IsSuperkey, IsKey}
use Rattle.dep_model.specs.Forms.{IsThird}
use Rattle.dep_model.proofs.KeyLemmas.{fd_on-to}
use Rattle.dep_model.proofs.ListLemmas.{All-members, Contains-map, map-member}
use Rattle.fd_closure.proofs.ClosureLemmas.{fd_each-to, fd_each-from}
use Rattle.fd_closure.proofs.ClosedSets.{closed-from, tell_functionally_closed}
use Rattle.min_cover.specs.Covers.{HaveSameLegal, IsMinimalCover, IsSingle, IsThinned}
use Rattle.min_cover.proofs.CoverLemmas.{thinned_legal-to, thinned_legal-from}
use Rattle.min_cover.proofs.ListLemmas.{All-right}
use Rattle.plans.proofs.ListLemmas.{any_from, any_some}
use Rattle.synthesis_3nf.specs.Groups.{group_scheme, left_sides_after}
use Rattle.synthesis_3nf.proofs.CompleteLemmas.{AreThirdSchemes}
use Rattle.synthesis_3nf.proofs.GroupSchemes.{AreRules}
use Rattle.synthesis_3nf.proofs.GroupLemmas.{left_among, left_found, member_lies, scheme_attribute}
use Rattle.synthesis_3nf.proofs.ThirdLemmas.{Contains-insert_cases, contains_split, cover_rules, fd_trans, fd_within, implied_by_rules, left_is_key, member_holds, member_implied, rules_same, superkey_by_others}
use Rattle.fewest_tables.specs.Alike.{all_exchanges}
use Rattle.fewest_tables.specs.MergedPlans.{merged_scheme}
use Rattle.fewest_tables.proofs.AlikeLemmas.{IsGrouped}
use Rattle.fewest_tables.proofs.ExchangeLemmas.{AreLow, exchange_implied, exchange_is, exchanges_functional, exchanges_within}
use Rattle.fewest_tables.proofs.ThinnedLemmas.{kept_each, kept_needed}

-- the left sides of members lie within the universe
pub left_sides_low : (n : ℕ) (cover : List Dependency) → All (IsWithin (below n)) cover → (x : Attributes) → Contains (left_sides_after [] cover) x → IsSubset x (below n)
left_sides_low n cover within x has =
    let found = left_found [] cover x has in
    subst (λ (y : Attributes). IsSubset y (below n)) found.2 (All-contains (IsWithin (below n)) cover found.0 within found.1).0

pub groups_low : (n : ℕ) (ds cover : List Dependency) (groups : List (List Attributes)) → All (IsWithin (below n)) cover → IsGrouped n ds (left_sides_after [] cover) groups → AreLow n groups
groups_low n ds cover groups within grouped =
    All-members (λ (group : List Attributes). All (λ (x : Attributes). IsSubset x (below n)) group) groups (λ group has.
    All-members (λ (x : Attributes). IsSubset x (below n)) group (λ x x_in. left_sides_low n cover within x (grouped.among group x has x_in)))

-- ---- the members that are kept, and the scheme of a group
module _ (n : ℕ) (ds cover : List Dependency) (within_limit : n ≤ MOST_ATTRIBUTES) (minimal : IsMinimalCover n ds cover) (within : All (IsWithin (below n)) cover)
    (groups : List (List Attributes)) (grouped : IsGrouped n ds (left_sides_after [] cover) groups)
    (kept : List Dependency) (thinned : IsThinned n (all_exchanges groups) cover (all_exchanges groups ++ kept)) where
  abbrev exchanged : List Dependency
  exchanged = all_exchanges groups

  abbrev rules : List Dependency
  rules = exchanged ++ kept

  low : AreLow n groups
  low = groups_low n ds cover groups within grouped

  kept_in : (d : Dependency) → Contains kept d → Contains cover d
  kept_in d has = All-contains (Contains cover) kept d (kept_each n (Contains cover) exchanged cover kept thinned (All-contains_itself cover)) has

  kept_single : All IsSingle kept
  kept_single = kept_each n IsSingle exchanged cover kept thinned minimal.single

  kept_within : All (IsWithin (below n)) kept
  kept_within = kept_each n (IsWithin (below n)) exchanged cover kept thinned within

  cover_functional : All (λ d. is_fd d ≡ true) cover
  cover_functional = (cover_rules n ds cover minimal within).functional

  -- what is alike is so by the functional part
  exchanges_obeyed : (r : Relation) → IsLegal n (functional_part ds) r → All (λ d. Obeys n d r) exchanged
  exchanges_obeyed r legal = All-members (λ (d : Dependency). Obeys n d r) exchanged (λ d has.
      let one = exchange_is groups d has in
      subst (λ (e : Dependency). Obeys n e r) (sym one.is)
      ((grouped.alike one.group one.from one.to one.grouped one.from_in one.to_in).0 r legal))

  -- so both together say what the functional part says
  rules_legal : HaveSameLegal n rules (functional_part ds)
  rules_legal r = (
    λ legal.
        let all = thinned_legal-to n exchanged cover rules r thinned legal in
        (minimal.same_legal r).0 (record { over = all.over; obeys = All-right (λ (d : Dependency). Obeys n d r) exchanged cover all.obeys }),
    λ legal.
        let members = (minimal.same_legal r).1 legal in
        thinned_legal-from n exchanged cover rules r thinned
        (record { over = legal.over; obeys = All-append (λ (d : Dependency). Obeys n d r) exchanged cover (exchanges_obeyed r legal) members.obeys }),
  )

  pub merged_rules : AreRules n ds rules
  merged_rules = record {
    same_legal = rules_legal;
    functional = All-append (λ (d : Dependency). is_fd d ≡ true) exchanged kept (exchanges_functional groups)
        (kept_each n (λ (d : Dependency). is_fd d ≡ true) exchanged cover kept thinned cover_functional);
    within = All-append (IsWithin (below n)) exchanged kept (exchanges_within n within_limit groups low) kept_within;
  }

  -- an attribute of the scheme of a left side is in it, or a member that is kept gives it
  attribute_of : (x : Attributes) (k : ℕ) → IsSubset x (below n) → group_scheme kept x k ≡ true → (x k ≡ true) ⊎ Contains kept (fd x (only k))
  attribute_of x k x_in in_scheme = scheme_attribute n within_limit kept kept_single kept_within x x_in k in_scheme

  member_says : (x : Attributes) (k : ℕ) → Contains kept (fd x (only k)) → Implies n (functional_part ds) (fd x (only k))
  member_says x k has = member_holds n ds cover minimal within (fd x (only k)) (kept_in (fd x (only k)) has)

  -- a member of the cover with a left side
  member_with : (x : Attributes) → Contains (left_sides_after [] cover) x → (a : ℕ) × Contains cover (fd x (only a))
  member_with x has =
      let found = left_found [] cover x has in
      let one = All-contains IsSingle cover found.0 minimal.single found.1 in
      let left : one.0 ≡ x = sym (ap left_of one.2) ∙ found.2 in
      let is : found.0 ≡ fd x (only one.1) = one.2 ∙ ap (λ (y : Attributes). fd y (only one.1)) left in
      (one.1, subst (λ (d : Dependency). Contains cover d) is found.1)

  -- ---- one group
  module _ (group : List Attributes) (has : Contains groups group) where
    abbrev scheme : Attributes
    scheme = merged_scheme kept group

    left_low : (x : Attributes) → Contains group x → IsSubset x (below n)
    left_low x x_in = left_sides_low n cover within x (grouped.among group x has x_in)

    left_part : (x : Attributes) → Contains group x → IsSubset x scheme
    left_part x x_in k m =
        any_from (λ (y : Attributes). group_scheme kept y k) group x x_in
        (or_left (x k) (list_any (λ (d : Dependency). is_same x (left_of d) && right_of d k) kept) m)

    given_part : (x : Attributes) (k : ℕ) → Contains group x → Contains kept (fd x (only k)) → scheme k ≡ true
    given_part x k x_in member =
        any_from (λ (y : Attributes). group_scheme kept y k) group x x_in
        (member_lies n within_limit kept kept_single kept_within (fd x (only k)) member k (grind (arith, nat_tests)))

    -- an attribute of the scheme: from which left side
    source : (k : ℕ) → scheme k ≡ true → (x : Attributes) × Contains group x × ((x k ≡ true) ⊎ Contains kept (fd x (only k)))
    source k m =
        let found = any_some (λ (y : Attributes). group_scheme kept y k) group m in
        (found.0, found.1, attribute_of found.0 k (left_low found.0 found.1) found.2)

    scheme_low : IsSubset scheme (below n)
    scheme_low k m =
        let found = source k m in
        ⊎_elim
        (λ own. left_low found.0 found.1 k own)
        (λ member. (All-contains (IsWithin (below n)) kept (fd found.0 (only k)) kept_within member).1 k (grind (arith, nat_tests)))
        found.2

    -- each left side determines the scheme
    left_determines : (x : Attributes) → Contains group x → Implies n (functional_part ds) (fd x scheme)
    left_determines x x_in = fd_each-from n (functional_part ds) x scheme (λ (k : ℕ) m.
        let found = source k m in
        let leads = (grouped.alike group x found.0 has x_in found.1).0 in
        ⊎_elim
        (λ own. fd_each-to n (functional_part ds) x found.0 leads k own)
        (λ member. fd_trans n (functional_part ds) x found.0 (only k) leads (member_says found.0 k member))
        found.2)

    -- and is a key of it
    left_key : (x : Attributes) → Contains group x → IsKey n (functional_part ds) scheme x
    left_key x x_in =
        let member = member_with x (grouped.among group x has x_in) in
        left_is_key n ds cover minimal within x scheme member.0 (left_part x x_in) (left_determines x x_in) member.1

    -- without the member of an attribute outside a set of the scheme, a left side still determines the set
    left_to_rest : (x v : Attributes) (b : ℕ) (y : Attributes) (before after : List Dependency) → Contains group x → IsSubset v scheme → v b ≡ false → kept ≡ before ++ fd y (only b) ∷ after
        → Implies n ((exchanged ++ before) ++ after) (fd x v)
    left_to_rest x v b y before after x_in inside lacks parts =
        let others = (exchanged ++ before) ++ after in
        let exchange_in : (d : Dependency) → Contains exchanged d → Contains others d =
        λ d d_in. Contains-append_left (exchanged ++ before) after d (Contains-append_left exchanged before d d_in) in
        fd_each-from n others x v (λ (k : ℕ) m.
        let found = source k (inside k m) in
        let leads = exchange_implied n within_limit groups low others exchange_in group x found.0 has x_in found.1 in
        ⊎_elim
        (λ own. fd_each-to n others x found.0 leads k own)
        (λ member. ⊎_elim
        (λ beside. fd_trans n others x found.0 (only k) leads
        (member_implied n others (fd found.0 (only k)) (among before after (fd found.0 (only k)) beside)))
        (λ same. absurd (true≢false (sym m ∙ subst (λ (j : ℕ). v j ≡ false) (sym (same_attribute y found.0 b k same)) lacks)))
        (Contains-insert_cases before after (fd y (only b)) (fd found.0 (only k)) (subst (λ (es : List Dependency). Contains es (fd found.0 (only k))) parts member)))
        found.2)
      where
        same_attribute : (y z : Attributes) (b k : ℕ) → fd y (only b) ≡ fd z (only k) → k ≡ b
        same_attribute y z b k same = eqb-true k b (ap (λ (e : Dependency). right_of e k) same ∙ eq-eqb k k refl)

        among : (before after : List Dependency) (d : Dependency) → Contains (before ++ after) d → Contains ((exchanged ++ before) ++ after) d
        among before after d d_in =
            subst (λ (es : List Dependency). Contains es d) (sym (append_assoc exchanged before after)) (Contains-append_right exchanged (before ++ after) d d_in)

    -- what determines an attribute that a member gives is a superkey
    given_third : (x v : Attributes) (b : ℕ) → Contains group x → Contains kept (fd x (only b)) → IsSubset v scheme → scheme b ≡ true → v b ≡ false → Implies n (functional_part ds) (fd v (only b)) → IsSuperkey n (functional_part ds) scheme v
    given_third x v b x_in member inside in_scheme lacks determines =
        let split = contains_split kept (fd x (only b)) member in
        let before = split.0 in
        let after = split.1 in
        let parts : rules ≡ (exchanged ++ before) ++ fd x (only b) ∷ after =
        ap (λ (es : List Dependency). exchanged ++ es) split.2 ∙ sym (append_assoc exchanged before (fd x (only b) ∷ after)) in
        superkey_by_others n ds rules merged_rules x scheme v b (exchanged ++ before) after scheme_low (left_part x x_in) inside in_scheme (left_determines x x_in) parts
        (kept_needed n exchanged cover kept thinned before after (fd x (only b)) split.2)
        (left_to_rest x v b x before after x_in inside lacks split.2) determines

    merged_third : IsThird n ds scheme
    merged_third v b on lacks =
        let in_scheme : scheme b ≡ true = on.within.1 b (grind (arith, nat_tests)) in
        let found = source b in_scheme in
        ⊎_elim
        (λ own. inr (found.0, left_key found.0 found.1, own))
        (λ member. inl (given_third found.0 v b found.1 member on.within.0 in_scheme lacks (fd_on-to n (functional_part ds) scheme v (only b) on)))
        found.2

    -- where it had no attribute, no rule would lead out of the empty set
    merged_not_empty : IsEmpty scheme → ⊥
    merged_not_empty empty =
        let x = (grouped.not_empty group has).0 in
        let x_in = (grouped.not_empty group has).1 in
        let x_empty : IsEmpty x = λ k. none_in (x k) (λ m. true≢false (sym (left_part x x_in k m) ∙ empty k)) in
        let member = member_with x (grouped.among group x has x_in) in
        let a = member.0 in
        let low_a = (All-contains (IsWithin (below n)) cover (fd x (only a)) within member.1).1 a (grind (arith, nat_tests)) in
        let implied = implied_by_rules n ds rules merged_rules (fd x (only a)) (member_holds n ds cover minimal within (fd x (only a)) member.1) in
        ⊎_elim
        (λ found. leads_nowhere x x_in x_empty found.0 (Contains-append_cases exchanged kept found.0 found.1) found.2)
        (λ is_closed.
        let inside = closed-from n rules x merged_rules.within (rules_same n ds rules merged_rules) (left_low x x_in) is_closed a (ltb-true a n low_a, implied) in
        true≢false (sym inside ∙ x_empty a))
        (tell_functionally_closed n x rules merged_rules.within)
      where
        none_in : (b : Bool) → (b ≡ true → ⊥) → b ≡ false
        none_in b none = ⊎_elim (λ is. absurd (none is)) (λ not. not) (cases_Bool b)

        -- an empty left side is alike with no other, and the scheme has what it gives
        leads_nowhere : (x : Attributes) → Contains group x → IsEmpty x → (d : Dependency) → Contains exchanged d ⊎ Contains kept d → LeadsOut x d → ⊥
        leads_nowhere x x_in x_empty d (inl exchange) out =
            let one = exchange_is groups d exchange in
            let from_empty : (k : ℕ) → one.from k ≡ true → ⊥ = λ k m. true≢false (sym (out.inside k (subst (λ (e : Dependency). left_of e k ≡ true) (sym one.is) m)) ∙ x_empty k) in
            out.beyond (λ k m.
            let i_in : one.to k ≡ true = subst (λ (e : Dependency). right_of e k ≡ true) one.is m in
            let member = member_with one.to (grouped.among one.group one.to one.grouped one.to_in) in
            let shorter = difference one.to (only k) in
            let leads = (grouped.alike one.group one.from one.to one.grouped one.from_in one.to_in).0 in
            let nothing : IsSubset one.from shorter = λ (j : ℕ) n_in. absurd (from_empty j n_in) in
            absurd (minimal.short (fd one.to (only member.0)) member.1 k i_in
            (fd_trans n (functional_part ds) shorter one.from (only member.0) (fd_within n (functional_part ds) shorter one.from nothing)
            (fd_trans n (functional_part ds) one.from one.to (only member.0) leads (member_holds n ds cover minimal within (fd one.to (only member.0)) member.1)))))
        leads_nowhere x x_in x_empty d (inr member) out =
            let one = All-contains IsSingle kept d kept_single member in
            let same : one.0 ≡ x =
            same_from_within one.0 x (λ (k : ℕ) m. out.inside k (subst (λ (e : Dependency). left_of e k ≡ true) (sym one.2) m)) (λ (k : ℕ) m. absurd (true≢false (sym m ∙ x_empty k))) in
            let is : d ≡ fd x (only one.1) = one.2 ∙ ap (λ (y : Attributes). fd y (only one.1)) same in
            true≢false (sym (given_part x one.1 x_in (subst (λ (e : Dependency). Contains kept e) is member)) ∙ empty one.1)

  -- each rule lies within the scheme of a group
  merged_held : (d : Dependency) → Contains rules d → (s : Attributes) × Contains (map (merged_scheme kept) groups) s × IsSubset (union (left_of d) (right_of d)) s
  merged_held d has = ⊎_elim
      (λ exchange.
      let one = exchange_is groups d exchange in (
        merged_scheme kept one.group,
        Contains-map (merged_scheme kept) groups one.group one.grouped,
        λ k m. subst (λ (e : Dependency). union (left_of e) (right_of e) k ≡ true → merged_scheme kept one.group k ≡ true) (sym one.is)
            (λ both. ⊎_elim (λ here. left_part one.group one.grouped one.from one.from_in k here) (λ there. left_part one.group one.grouped one.to one.to_in k there)
            (or_cases (one.from k) (one.to k) both)) m,
      ))
      (λ member.
      let at = grouped.holds (left_of d) (left_among n within_limit cover minimal.single within d (kept_in d member)) in (
        merged_scheme kept at.0,
        Contains-map (merged_scheme kept) groups at.0 at.1,
        λ k m. any_from (λ (y : Attributes). group_scheme kept y k) at.0 (left_of d) at.2
            (member_lies n within_limit kept kept_single kept_within d member k m),
      ))
      (Contains-append_cases exchanged kept d has)

  -- so the schemes of the groups are such as a synthesis makes
  pub merged_schemes_are : AreThirdSchemes n ds rules (map (merged_scheme kept) groups)
  merged_schemes_are = record {
    within = λ s s_in. let found = map-member (merged_scheme kept) groups s s_in in subst (λ (t : Attributes). IsSubset t (below n)) found.2 (scheme_low found.0 found.1);
    not_empty = λ s s_in. let found = map-member (merged_scheme kept) groups s s_in in subst (λ (t : Attributes). IsEmpty t → ⊥) found.2 (merged_not_empty found.0 found.1);
    third = λ s s_in. let found = map-member (merged_scheme kept) groups s s_in in subst (λ (t : Attributes). IsThird n ds t) found.2 (merged_third found.0 found.1);
    held = merged_held;
  }
