-- A scheme has one list of all its keys.
use Rattle.std.proofs.Common.{◌≡◌, ℕ, List}
use Rattle.std.specs.Prelude.{All, AllPairs, Contains}
use Rattle.std.proofs.lemmas.List.Elements.{All-contains, All-map}
use Rattle.attr_sets.specs.Attributes.{Attributes, IsBefore}
use Rattle.attr_sets.specs.Sets.{attributes}
use Rattle.attr_sets.specs.declared.set.AttrSet.{AttrSet}
use Rattle.attr_sets.proofs.OrderLemmas.{IsBefore-irrefl, IsBefore-trans}
use Rattle.dep_model.specs.Dependencies.{Dependency}
use Rattle.dep_model.specs.Keys.{IsKey}
use Rattle.dep_model.specs.Plans.{schemes_of}
use Rattle.key_listing.specs.Listing.{AreAllKeys}
use Rattle.dep_model.proofs.OrderedLists.{IsOneWay, one_ordered_list, Any-image}
use Rattle.dep_model.proofs.PairLemmas.{pairs_map}

pub before_one_way : (P : Attributes → Type 0) → IsOneWay P IsBefore
before_one_way P x y x_is y_is there back = IsBefore-irrefl x (IsBefore-trans x y x there back)

-- the sets of a list, in the order of sets
pub ascends : (keys : List AttrSet) → AllPairs (λ j k. IsBefore (attributes j) (attributes k)) keys
    → AllPairs IsBefore (schemes_of keys)
ascends keys ordered = pairs_map IsBefore attributes keys ordered

pub each_key : (n : ℕ) (ds : List Dependency) (scheme : Attributes) (keys : List AttrSet)
    → All (λ k. IsKey n ds scheme (attributes k)) keys
    → All (IsKey n ds scheme) (schemes_of keys)
each_key n ds scheme keys each = All-map (IsKey n ds scheme) attributes keys each

-- a key is listed where all are
pub key_listed : (n : ℕ) (ds : List Dependency) (scheme : Attributes) (keys : List AttrSet)
    → AreAllKeys n ds scheme keys → (k : Attributes)
    → IsKey n ds scheme k → Contains (schemes_of keys) k
key_listed n ds scheme keys all k is = Any-image attributes keys k (all.all k is)

pub one_keys : (n : ℕ) (ds : List Dependency) (scheme : Attributes) (one other : List AttrSet)
    → AreAllKeys n ds scheme one
    → AreAllKeys n ds scheme other → schemes_of one ≡ schemes_of other
one_keys n ds scheme one other first second =
    let here = each_key n ds scheme one first.each in
    let there = each_key n ds scheme other second.each in
    one_ordered_list (IsKey n ds scheme) IsBefore (schemes_of one) (schemes_of other)
    (before_one_way (IsKey n ds scheme)) here there
    (ascends one first.ascending) (ascends other second.ascending)
    (λ k has. key_listed n ds scheme other second k (All-contains (IsKey n ds scheme) (schemes_of one) k here has))
    (λ k has. key_listed n ds scheme one first k (All-contains (IsKey n ds scheme) (schemes_of other) k there has))
