-- Keys that are found one from another by functional dependencies, and their order once they are sorted.
use Rattle.std.proofs.Common.{◌≡◌, ℕ, ◌+◌, ◌^◌, ◌<◌, ◌≤◌, ◌⊎◌, suc, false, List, [], ◌∷◌, ◌++◌, length, get_or, map, take, refl, sym, ◌∙◌, subst, ap, ⊎_elim, inl, inr, arith}
use Rattle.std.proofs.lemmas.Bool.{cases_eq, true≢false}
use Rattle.std.proofs.lemmas.List.{length_push, length-map, get_or_default, get_or-take, map_more}
use Rattle.std.proofs.lemmas.List.Elements.{All-push, All-contains, All-map, Contains-get_or}
use Rattle.std.proofs.lemmas.List.Quantifiers.{all_pairs_push}
use Rattle.std.proofs.lemmas.List.Sorted.{All-permutation, length_permutation}
use Rattle.std.specs.Prelude.{All, Any, Contains}
use Rattle.std.specs.List.Sorted.{IsSorted, IsPermutation}
use Rattle.std.specs.Ordering.{nat_cmp}
use Rattle.attr_sets.specs.declared.set.AttrSet.{AttrSet}
use Rattle.attr_sets.specs.declared.set.TheConstants.{MOST_ATTRIBUTES}
use Rattle.attr_sets.proofs.AttributesLemmas.{same_at}
use Rattle.attr_sets.proofs.OrderLemmas.{sorted_ascend}
use Rattle.dep_model.specs.declared.dep.Dep.{Dep}
use Rattle.dep_model.specs.Deps.{dependency_of, dependencies_of}
use Rattle.attr_sets.specs.Sets.{attributes}
use Rattle.attr_sets.specs.Attributes.{Attributes, below, union, IsSubset}
use Rattle.dep_model.specs.Dependencies.{Dependency, fd, mvd, Obeys, ObeysFd, is_fd, functional_part, IsWithin}
use Rattle.dep_model.specs.Keys.{IsSuperkey, IsKey, IsGreedyKey}
use Rattle.dep_model.proofs.RuleLemmas.{reflexivity_obeyed, transitivity_obeyed, fd_weaker_obeyed, fd_union_obeyed}
use Rattle.dep_model.proofs.KeyLemmas.{superkey-from, fd_on-to, greedy_is_key, key_of_superkey}
use Rattle.key_listing.specs.declared.refusal.TheConstants.{MOST_KEYS}
use Rattle.dep_model.proofs.ListLemmas.{Contains-map, map-member}
use Rattle.key_listing.specs.Listing.{HoldsAny, HoldsAnyUnlessMany, AreSomeKeys, AreFoundKeys, exchanged_key, IsExchangedBy, IsExchangedUnlessMany}
use Rattle.fd_closure.specs.KeyLists.{HoldsOne, IsExchanged}
use Rattle.fd_closure.proofs.AllKeys.{all_keys}
use Rattle.fd_closure.proofs.ClosedSets.{all_functional}
use Rattle.dep_model.proofs.PermutationLemmas.{Any-map, Any-permutation, AllPairs-permutation}
use Rattle.key_listing.proofs.ListLemmas.{Any-grows, grows_longer}

-- what a dependency makes of a key is a superkey
pub exchanged_superkey : (n : ℕ) (ds : List Dependency) (scheme x y k : Attributes) → Contains ds (fd x y) → IsSubset x scheme → IsSuperkey n ds scheme k → IsSuperkey n ds scheme (exchanged_key (fd x y) k)
exchanged_superkey n ds scheme x y k given x_in superkey =
    superkey-from n ds scheme (exchanged_key (fd x y) k) (λ i m. grind (arith, m, x_in i, superkey.within.0 i))
    (λ r legal.
    let made = exchanged_key (fd x y) k in
    let obeys : ObeysFd x y r = All-contains (λ (d : Dependency). Obeys n d r) ds (fd x y) legal.obeys given in
    let gives_y : ObeysFd made y r = fd_weaker_obeyed x y made y r (λ i m. grind (arith, m)) (λ i m. m) obeys in
    let gives_both : ObeysFd made (union made y) r = fd_union_obeyed made made y r (reflexivity_obeyed made made r (λ i m. m)) gives_y in
    let gives_key : ObeysFd made k r = fd_weaker_obeyed made (union made y) made k r (λ i m. m) (λ i m. grind (arith, m)) gives_both in
    transitivity_obeyed made k scheme r gives_key (fd_on-to n ds scheme k scheme superkey r legal))

-- no key
pub keys_none : (n : ℕ) (ds : List Dependency) (scheme : Attributes) → AreSomeKeys n ds scheme []
keys_none n ds scheme = record {
  each = λ k d l. absurd (omega (arith, l));
  differ = λ i j d before l. absurd (omega (arith, l));
  within_limit = omega arith;
  numbers = λ k d l. absurd (omega (arith, l));
}

-- one more key
pub keys_more : (n : ℕ) (ds : List Dependency) (scheme set : Attributes) (found : List AttrSet) (k : AttrSet) → AreSomeKeys n ds scheme found → length found ≤ MOST_KEYS
    → IsKey n ds scheme (attributes k) → IsSubset (attributes k) set → (HoldsAny found set → ⊥) → k.0 < 2 ^ MOST_ATTRIBUTES → AreSomeKeys n ds scheme (found ++ k ∷ [])
keys_more n ds scheme set found k not_empty within_limit key inside none number = record {
  each = All-push (λ (j : AttrSet). IsKey n ds scheme (attributes j)) found k not_empty.each key;
  differ = all_pairs_push (λ (i j : AttrSet). attributes i ≡ attributes j → ⊥) found k not_empty.differ
      (λ i d l same. none (i, get_or found i d, l, get_or_default found i (get_or found i d) d l, λ p m. inside p (sym (same_at same p) ∙ m)));
  within_limit = omega (arith, length_push found k, within_limit);
  numbers = All-push (λ (j : AttrSet). j.0 < 2 ^ MOST_ATTRIBUTES) found k not_empty.numbers number;
}

-- the greedy key of a superkey is a key
pub greedy_found : (n : ℕ) (ds : List Dependency) (scheme s k : Attributes) → IsSubset scheme (below n) → functional_part ds ≡ ds → IsSuperkey n ds scheme s → IsGreedyKey n (functional_part ds) s k → IsKey n ds scheme k
greedy_found n ds scheme s k low functional superkey greedy =
    let by_all : IsGreedyKey n ds s k = subst (λ (es : List Dependency). IsGreedyKey n es s k) functional greedy in
    key_of_superkey n ds scheme s k superkey (greedy_is_key n ds s k (λ i m. low i (superkey.within.0 i m)) by_all)

-- ---- with each dependency
-- a dependency of a list of them
pub dependencies_of-Contains : (deps : List Dep) (i : ℕ) (first e : Dep) → i < length deps → get_or deps i first ≡ e → Contains (dependencies_of deps) (dependency_of e)
dependencies_of-Contains deps i first e lt at = Contains-map dependency_of deps e (i, lt, get_or_default deps i e first lt ∙ at)

-- none has been tried
pub exchanged_none : (deps : List Dep) (found : List AttrSet) (k : Attributes) → IsExchangedUnlessMany (dependencies_of (take 0 deps)) found k
exchanged_none deps found k within_limit i d l = absurd (omega (arith, l))

-- one more
pub exchanged_more : (deps : List Dep) (i : ℕ) (first e : Dep) (old found : List AttrSet) (k : Attributes) → i < length deps → get_or deps i first ≡ e → take (length old) found ≡ old
    → IsExchangedUnlessMany (dependencies_of (take i deps)) old k → HoldsAnyUnlessMany found (exchanged_key (dependency_of e) k) → IsExchangedUnlessMany (dependencies_of (take (i + 1) deps)) found k
exchanged_more deps i first e old found k lt at grows before held within_limit =
    let P : Dependency → Type 0 = λ (d : Dependency). HoldsAny found (exchanged_key d k) in
    let longer : length old ≤ length found = grows_longer old found grows in
    let earlier : All P (dependencies_of (take i deps)) = λ j d l. Any-grows (λ (s : AttrSet). IsSubset (attributes s) (exchanged_key (get_or (dependencies_of (take i deps)) j d) k)) old found grows (before (omega (arith, longer, within_limit)) j d l) in
    let more : dependencies_of (take (i + 1) deps) ≡ dependencies_of (take i deps) ++ dependency_of e ∷ [] =
    map_more dependency_of deps i first lt ∙ ap (λ (d : Dep). dependencies_of (take i deps) ++ dependency_of d ∷ []) at in
    subst (λ (ds : List Dependency). All P ds) (sym more) (All-push P (dependencies_of (take i deps)) (dependency_of e) earlier (held within_limit))

-- a key that was tried stays so where more are found
pub exchanged_grows : (ds : List Dependency) (old found : List AttrSet) (k : Attributes) → take (length old) found ≡ old → IsExchangedUnlessMany ds old k → IsExchangedUnlessMany ds found k
exchanged_grows ds old found k grows before within_limit =
    let longer : length old ≤ length found = grows_longer old found grows in
    λ j d l. Any-grows (λ (s : AttrSet). IsSubset (attributes s) (exchanged_key (get_or ds j d) k)) old found grows (before (omega (arith, longer, within_limit)) j d l)

-- each key before a position was tried, and so was that at it
pub tried_more : (ds : List Dependency) (old found : List AttrSet) (tried j : ℕ) (key : AttrSet) → j ≡ tried + 1 → tried < length old → key ≡ get_or old tried key → take (length old) found ≡ old
    → ((i : ℕ) (d : AttrSet) → i < tried → IsExchangedUnlessMany ds old (attributes (get_or old i d))) → IsExchangedUnlessMany ds found (attributes key)
    → (i : ℕ) (d : AttrSet) → i < j → IsExchangedUnlessMany ds found (attributes (get_or found i d))
tried_more ds old found tried j key e lt at grows before now i d l =
    let short : i < length old = omega (arith, l, e, lt) in
    let same : get_or found i d ≡ get_or old i d = sym (get_or-take (length old) found i d short) ∙ ap (λ (xs : List AttrSet). get_or xs i d) grows in
    subst (λ (k : AttrSet). IsExchangedUnlessMany ds found (attributes k)) (sym same)
    (⊎_elim
    (λ (here : i ≡ tried).
    let is : get_or old i d ≡ key = ap (λ (m : ℕ). get_or old m d) here ∙ get_or_default old tried d key lt ∙ sym at in
    subst (λ (k : AttrSet). IsExchangedUnlessMany ds found (attributes k)) (sym is) now)
    (λ (earlier : i ≡ tried → ⊥). exchanged_grows ds old found (attributes (get_or old i d)) grows (before i d (omega (arith, l, e, earlier))))
    (cases_eq i tried))

-- ---- multivalued dependencies
tell_multivalued : (ds : List Dependency) → Any (λ (d : Dependency). is_fd d ≡ false) ds ⊎ (functional_part ds ≡ ds)
tell_multivalued [] = inr refl
tell_multivalued (fd x y ∷ ds) =
    ⊎_elim
    (λ not_empty. inl (suc not_empty.0, not_empty.1, omega (arith, not_empty.2), not_empty.3, not_empty.4))
    (λ same. inr (ap (λ (es : List Dependency). fd x y ∷ es) same))
    (tell_multivalued ds)
tell_multivalued (mvd x y ∷ ds) = inl (0, mvd x y, omega arith, refl, refl)

-- where one is given, not all are functional
pub some_multivalued : (ds : List Dependency) → (functional_part ds ≡ ds → ⊥) → Any (λ (d : Dependency). is_fd d ≡ false) ds
some_multivalued ds other = ⊎_elim (λ not_empty. not_empty) (λ same. absurd (other same)) (tell_multivalued ds)

pub none_multivalued : (ds : List Dependency) → functional_part ds ≡ ds → Any (λ (d : Dependency). is_fd d ≡ false) ds → ⊥
none_multivalued ds same not_empty =
    true≢false (sym (all_functional ds same not_empty.0 not_empty.1 not_empty.2) ∙ ap is_fd not_empty.3 ∙ not_empty.4)

-- ---- all keys
-- the law over lists of sets of attributes
exchanged_all : (n : ℕ) (ds : List Dependency) (found : List AttrSet) → All (IsWithin (below n)) ds → functional_part ds ≡ ds → 0 < length found → All (λ (k : AttrSet). IsKey n ds (below n) (attributes k)) found
    → ((i : ℕ) (d : AttrSet) → i < length found → IsExchangedBy ds found (attributes (get_or found i d))) → (k : Attributes) → IsKey n ds (below n) k → Any (λ (j : AttrSet). attributes j ≡ k) found
exchanged_all n ds found within functional not_empty each exchange k key =
    let held = all_keys n ds (map attributes found) within functional (get_or (map attributes found) 0 (below n)) (Contains-get_or (map attributes found) 0 (below n) (omega (arith, not_empty, length-map found attributes)))
    (All-map (IsKey n ds (below n)) attributes found each) all_exchanged k key in
    let at = map-member attributes found held.1 (held.0, held.2, held.3) in
    (at.1.0, at.0, at.1.1, at.1.2, subst (λ (v : Attributes). v ≡ k) (sym at.2) held.4)
  where
    all_exchanged : IsExchanged ds (map attributes found)
    all_exchanged j e in_ds =
        All-map (λ (v : Attributes). HoldsOne (map attributes found) (exchanged_key (get_or ds j e) v)) attributes found
        (λ i d l. Any-map (λ (v : Attributes). IsSubset v (exchanged_key (get_or ds j e) (attributes (get_or found i d)))) found (exchange i d l j e in_ds))

-- what was found, once it is sorted
pub sorted_keys : (n : ℕ) (ds : List Dependency) (scheme : Attributes) (found sorted : List AttrSet) → AreSomeKeys n ds scheme found
    → (length found ≤ MOST_KEYS → (k : Attributes) → IsKey n ds scheme k → Any (λ (j : AttrSet). attributes j ≡ k) found)
    → IsPermutation found sorted → IsSorted (λ (j k : AttrSet). nat_cmp j.0 k.0) sorted → AreFoundKeys n ds scheme sorted
sorted_keys n ds scheme found sorted keys all moved in_order =
    let long = length_permutation found sorted moved in
    let differ = AllPairs-permutation (λ (j k : AttrSet). attributes j ≡ attributes k → ⊥) (λ j k other same. other (sym same)) found sorted moved keys.differ in
    record {
      each = All-permutation (λ (k : AttrSet). IsKey n ds scheme (attributes k)) found sorted moved keys.each;
      ascending = sorted_ascend sorted differ (All-permutation (λ (k : AttrSet). k.0 < 2 ^ MOST_ATTRIBUTES) found sorted moved keys.numbers) in_order;
      within_limit = omega (arith, long, keys.within_limit);
      all = λ within_limit k key. Any-permutation (λ (j : AttrSet). attributes j ≡ k) found sorted moved (all (omega (arith, long, within_limit)) k key);
    }

-- the same, once all were tried
pub sorted_found : (n : ℕ) (ds : List Dependency) (found sorted : List AttrSet) → All (IsWithin (below n)) ds → functional_part ds ≡ ds → 0 < length found → AreSomeKeys n ds (below n) found
    → (length found ≤ MOST_KEYS → (i : ℕ) (d : AttrSet) → i < length found → IsExchangedBy ds found (attributes (get_or found i d)))
    → IsPermutation found sorted → IsSorted (λ (j k : AttrSet). nat_cmp j.0 k.0) sorted → AreFoundKeys n ds (below n) sorted
sorted_found n ds found sorted within functional not_empty keys exchange =
    sorted_keys n ds (below n) found sorted keys (λ within_limit k key. exchanged_all n ds found within functional not_empty keys.each (exchange within_limit) k key)
