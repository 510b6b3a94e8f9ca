-- A list of dependencies has one fixed cover, one fixed whole cover, and one fixed canonical cover.
use Rattle.std.proofs.Common.{◌≡◌, ◌+◌, ℕ, List, [], ◌∷◌, ◌++◌, refl, sym, subst, ap, ◌∙◌, inl, inr}
use Rattle.std.specs.List.{AllZip, flat_map}
use Rattle.attr_sets.specs.Attributes.{Attributes}
use Rattle.attr_sets.proofs.NarrowingLemmas.{one_narrowed_ascending}
use Rattle.dep_model.specs.Dependencies.{Dependency, fd, functional_part, left_of, right_of}
use Rattle.dep_model.specs.Implication.{Implies}
use Rattle.canonical_cover.specs.Canonical.{IsFixedCanonicalCover}
use Rattle.canonical_cover.specs.Merging.{merge_left_sides}
use Rattle.min_cover.specs.Covers.{IsThinned, IsFixedCover, IsFixedWholeCover, multivalued_part}
use Rattle.min_cover.specs.Members.{members_of, IsLeftReducedDependency}

-- ---- shortened left sides
one_short : (n : ℕ) (ds : List Dependency) (d e f : Dependency) → IsLeftReducedDependency n ds d e
    → IsLeftReducedDependency n ds d f → e ≡ f
one_short n ds d e f (one, is, first) (other, also, second) =
    let same : one ≡ other = one_narrowed_ascending (λ left. Implies n (functional_part ds) (fd left (right_of d))) (left_of d) (left_of d)
    one other first second in
    is ∙ ap (λ (x : Attributes). fd x (right_of d)) same ∙ sym also

one_list : (n : ℕ) (ds firsts es fs : List Dependency) → AllZip (IsLeftReducedDependency n ds) firsts es
    → AllZip (IsLeftReducedDependency n ds) firsts fs → es ≡ fs
one_list n ds [] [] [] first second = refl
one_list n ds [] [] (f ∷ fs) first second = absurd second
one_list n ds [] (e ∷ es) fs first second = absurd first
one_list n ds (d ∷ firsts) [] fs first second = absurd first
one_list n ds (d ∷ firsts) (e ∷ es) [] first second = absurd second
one_list n ds (d ∷ firsts) (e ∷ es) (f ∷ fs) first second =
    ap (λ (g : Dependency). g ∷ es) (one_short n ds d e f first.0 second.0)
    ∙ ap (λ (gs : List Dependency). f ∷ gs) (one_list n ds firsts es fs first.1 second.1)

-- ---- what is left
pub one_thinned : (n : ℕ) (kept ds one other : List Dependency) → IsThinned n kept ds one
    → IsThinned n kept ds other → one ≡ other
one_thinned n kept [] one other first second = first ∙ sym second
one_thinned n kept (d ∷ later) one other (inl first) (inl second) = one_thinned n kept later one other first.1 second.1
one_thinned n kept (d ∷ later) one other (inl first) (inr second) = absurd (second.0 first.0)
one_thinned n kept (d ∷ later) one other (inr first) (inl second) = absurd (first.0 second.0)
one_thinned n kept (d ∷ later) one other (inr first) (inr second) =
    one_thinned n (kept ++ d ∷ []) later one other first.1 second.1

pub one_cover : (n : ℕ) (ds one other : List Dependency) → IsFixedCover n ds one → IsFixedCover n ds other → one ≡ other
one_cover n ds one other first second =
    let same : first.members ≡ second.members =
    one_list n ds (flat_map (members_of n) ds) first.members second.members first.shortened
    second.shortened in
    one_thinned n [] second.members one other
    (subst (λ (ms : List Dependency). IsThinned n [] ms one) same first.thinned) second.thinned

pub one_whole_cover : (n : ℕ) (ds one other : List Dependency) → IsFixedWholeCover n ds one
    → IsFixedWholeCover n ds other → one ≡ other
one_whole_cover n ds one other first second =
    let same : first.cover ≡ second.cover = one_cover n ds first.cover second.cover first.fixed second.fixed in
    one_thinned n second.cover (multivalued_part ds) one other
    (subst (λ (cover : List Dependency). IsThinned n cover (multivalued_part ds) one) same first.thinned) second.thinned

-- ---- the left sides merged
pub one_canonical_cover : (n : ℕ) (ds one other : List Dependency) → IsFixedCanonicalCover n ds one
    → IsFixedCanonicalCover n ds other → one ≡ other
one_canonical_cover n ds one other first second =
    first.once ∙ ap merge_left_sides (one_whole_cover n ds first.whole second.whole first.fixed second.fixed) ∙ sym second.once
