-- The whole search: from nothing tried to all sets, and what is found then.
use Rattle.std.proofs.Common.{inl, inr, ◌≡◌, ◌<◌, ◌≤◌, ◌||◌, nat_lt, ℕ, Bool, true, List, [], length, replicate, sym, ap, subst, ◌∙◌, arith}
use mathlib.Core.Path.{fun_ext}
use Rattle.std.specs.Prelude.{All, AllPairs, Contains}
use Rattle.std.proofs.lemmas.Bool.{true≢false, eqb-true}
use Rattle.std.proofs.lemmas.Bool.Decides.{nat_tests}
use Rattle.std.proofs.lemmas.List.{get_or-replicate, length-replicate}
use Rattle.std.proofs.lemmas.List.Elements.{All-contains, All-weaker}
use Rattle.attr_sets.specs.Attributes.{Attributes, IsEmpty, IsSubset, below, only, union}
use Rattle.attr_sets.proofs.AttributesLemmas.{same_from_within, same_at}
use Rattle.candidate_sets.proofs.CountLemmas.{different_no_longer}
use Rattle.row_groups.specs.Numberings.{number_at}
use Rattle.dep_model.specs.Tuples.{Relation}
use Rattle.dep_model.specs.Dependencies.{Dependency, IsWithin, fd}
use Rattle.dep_model.specs.Deps.{dependencies_of}
use Rattle.fd_discovery.specs.Minimal.{Precedes}
use Rattle.fd_discovery.specs.Searching.{AreUndetermined, IsTried}
use Rattle.attr_sets.proofs.UpToLemmas.{subset_up_to}
use Rattle.near_rules.specs.NearRules.{AreErrors, AreNearRules, ExceedsTried, IsNearFd, MustBeTried}
use Rattle.near_rules.specs.Searching.{AreNearFoundBefore, AreTriedFor, IsNearFoundBefore}
use Rattle.near_rules.specs.declared.found.Found.{Found}
use Rattle.near_rules.specs.declared.found.Sought.{Sought}
use Rattle.near_rules.proofs.FrontLemmas.{listed_near}

module _ (s : Sought) (r : Relation) where
  -- ---- at first
  nothing_before : (set : Attributes) → IsEmpty set → (x : Attributes) (a : ℕ) → IsTried set 0 x a → ⊥
  nothing_before set empty x a tried = elim tried [
    | inl before ↦ true≢false (sym before.2 ∙ empty before.0)
    | inr same ↦ omega (arith, same.1)
  ]

  pub start : (set : Attributes) (found : Found) → IsEmpty set → found.deps.items ≡ [] → found.errors.items ≡ []
      → found.tried.items ≡ replicate s.rights 0 → AreNearFoundBefore s r set 0 found
  start set found empty no_deps no_errors zeros = record {
    each = subst (All (IsNearFoundBefore s r set 0)) (sym no_ds) (λ k d l. absurd (omega (arith, l)));
    ascending = subst (AllPairs Precedes) (sym no_ds) (λ i j d less l. absurd (omega (arith, l)));
    given = λ x a x_in few a_in out tried near. absurd (nothing_before set empty x a tried);
    errors = subst (λ (ds : List Dependency). AreErrors s.width r ds found.errors.items) (sym no_ds)
        (subst (AreErrors s.width r []) (sym no_errors) tt);
    one_each = ap length zeros ∙ length-replicate s.rights 0;
    within_limit = λ a a_in. omega (arith, zero_at a a_in);
    tried = λ a a_in. record {
      sets = [];
      each = λ k d l. absurd (omega (arith, l));
      all = λ x must tried. absurd (nothing_before set empty x a tried);
      differ = λ i j d less l. absurd (omega (arith, l));
      size = omega (arith, zero_at a a_in);
    };
  }
    where
      no_ds : dependencies_of found.deps.items ≡ []
      no_ds = ap dependencies_of no_deps

      zero_at : (a : ℕ) → a < s.rights → number_at found.tried.items a ≡ 0
      zero_at a a_in = ap (λ (l : List ℕ). number_at l a) zeros ∙ get_or-replicate s.rights a 0 0 a_in

  pub all_wanted : (set full : Attributes) (found : Found) → IsEmpty set → found.deps.items ≡ [] → full ≡ below s.rights
      → AreUndetermined s.rights (dependencies_of found.deps.items) set full
  all_wanted set full found empty no_deps whole = record {
    within = λ k m. sym (same_at whole k) ∙ m;
    outside = λ a m. empty a;
    none = λ a m h. omega (arith, subst (λ (ds : List Dependency). h.0 < length ds) (ap dependencies_of no_deps) h.2);
    rest = λ a l lacks out. absurd (true≢false (grind (arith, nat_tests, l, same_at whole a, lacks)));
  }

  pub whole_set : (set : Attributes) (found : Found) → IsEmpty set
      → AreNearFoundBefore s r (union set (below s.width)) s.rights found → AreNearFoundBefore s r (below s.width) s.rights found
  whole_set set found empty = subst (λ (v : Attributes). AreNearFoundBefore s r v s.rights found)
      (fun_ext (λ k. ap (λ (b : Bool). b || nat_lt k s.width) (empty k)))

  -- ---- in the end
  module _ (found : Found) (old : AreNearFoundBefore s r (below s.width) s.rights found) where
    all_tried : (x : Attributes) (a : ℕ) → IsSubset x (below s.width) → a < s.rights → IsTried (below s.width) s.rights x a
    all_tried x a x_in a_in = elim (subset_up_to s.width x (below s.width) (λ k m. m) x_in)
        [ inl same ↦ inr (same, a_in) | inr before ↦ inl before ]

    pub all_rules : s.rights ≡ s.width
        → AreNearRules s.width s.most s.limit r (dependencies_of found.deps.items) found.errors.items
    all_rules every = record {
      each = All-weaker (IsNearFoundBefore s r (below s.width) s.rights) (IsNearFd s.width s.most s.limit r)
          (λ d h. (h.0, h.1, h.2, h.3)) (dependencies_of found.deps.items) old.each;
      all = λ x a m.
          let a_in : a < s.rights = omega (arith, m.right, every) in
          let (v, listed, inside, minimal) = listed_near s r (below s.width) s.rights found old x a
          (old.given x a m.tried.within m.tried.few a_in m.tried.outside (all_tried x a m.tried.within a_in) m.near) in
          let same : v ≡ x = same_from_within v x inside (m.tried.apart v inside minimal.near) in
          subst (λ (w : Attributes). Contains (dependencies_of found.deps.items) (fd w (only a))) same listed;
      ascending = old.ascending;
      numbers = old.errors;
    }

    pub rules_within : All (IsWithin (below s.width)) (dependencies_of found.deps.items)
    rules_within = All-weaker (IsNearFoundBefore s r (below s.width) s.rights) (IsWithin (below s.width)) (λ d h. within d h)
        (dependencies_of found.deps.items) old.each
      where
        within : (d : Dependency) → IsNearFoundBefore s r (below s.width) s.rights d → IsWithin (below s.width) d
        within d (x, a, is, m, tried) = subst (λ (e : Dependency). IsWithin (below s.width) e) (sym is) (
          m.tried.within,
          (λ k has. subst (λ (i : ℕ). below s.width i ≡ true) (sym (eqb-true k a has))
              (let small : a < s.width = m.right in grind (arith, nat_tests, small))),
        )

    -- none of the right sides had too many sets
    pub none_exceeds : (a : ℕ) → a < s.rights → ExceedsTried s.width s.most s.limit r a → ⊥
    none_exceeds a a_in exceeds =
        let are : AreTriedFor s r (below s.width) s.rights a (number_at found.tried.items a) = old.tried a a_in in
        let short : length exceeds.sets ≤ length are.sets = different_no_longer exceeds.sets are.sets exceeds.differ
        (λ x there.
        let must : MustBeTried s.width s.most s.limit r x a =
        All-contains (λ (v : Attributes). MustBeTried s.width s.most s.limit r v a) exceeds.sets x exceeds.each there in
        are.all x must (all_tried x a must.within a_in)) in
        omega (arith, short, are.size, old.within_limit a a_in, exceeds.more)
