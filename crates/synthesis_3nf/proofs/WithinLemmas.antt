-- The members of the fixed cover lie within the universe.
use Rattle.std.proofs.Common.{◌≡◌, ℕ, true, List, sym, subst, arith}
use Rattle.std.proofs.lemmas.Bool.Decides.{nat_tests}
use Rattle.std.proofs.lemmas.List.Elements.{All-map, All-nil, All-weaker}
use Rattle.std.specs.Prelude.{All}
use Rattle.std.specs.List.{flat_map}
use Rattle.attr_sets.specs.Attributes.{below, difference, only}
use Rattle.dep_model.specs.Dependencies.{Dependency, fd, mvd, IsWithin}
use Rattle.dep_model.specs.Projections.{members_below}
use Rattle.min_cover.proofs.CoverLemmas.{thinned_all}
use Rattle.min_cover.proofs.ListLemmas.{All-flat_map-from, AllZip-to}
use Rattle.min_cover.proofs.MemberLemmas.{members_are}
use Rattle.min_cover.specs.Covers.{IsFixedCover}
use Rattle.min_cover.specs.Members.{members_of, IsLeftReducedDependency}

member_within : (n : ℕ) (d : Dependency) → IsWithin (below n) d → All (IsWithin (below n)) (members_of n d)
member_within n (fd x y) within =
    All-map (IsWithin (below n)) (λ (a : ℕ). fd x (only a)) (members_below n (difference y x))
    (All-weaker (λ (a : ℕ). difference y x a ≡ true) (λ (a : ℕ). IsWithin (below n) (fd x (only a)))
    (λ a member. (within.0, λ (k : ℕ) m. let inside = within.1 k in grind (arith, nat_tests, m, member, inside)))
    (members_below n (difference y x)) (members_are n (difference y x)))
member_within n (mvd x y) within = All-nil (IsWithin (below n))

shortened_within : (n : ℕ) (ds : List Dependency) (d e : Dependency) → IsLeftReducedDependency n ds d e
    → IsWithin (below n) d → IsWithin (below n) e
shortened_within n ds d e (short, is, reduced) within =
    subst (IsWithin (below n)) (sym is) ((λ k m. within.0 k (reduced.within k m)), within.1)

pub cover_within : (n : ℕ) (ds cover : List Dependency) → All (IsWithin (below n)) ds → IsFixedCover n ds cover
    → All (IsWithin (below n)) cover
cover_within n ds cover within is =
    thinned_all n (IsWithin (below n)) _ is.members cover is.thinned (All-nil (IsWithin (below n)))
    (AllZip-to (IsLeftReducedDependency n ds) (IsWithin (below n)) (IsWithin (below n)) (flat_map (members_of n) ds)
    is.members (shortened_within n ds) is.shortened
    (All-flat_map-from (IsWithin (below n)) (members_of n) ds (λ k d l. member_within n _ (within k d l))))
