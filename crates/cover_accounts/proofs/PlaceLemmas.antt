-- Dependencies with their positions, and the same without them.
use Rattle.std.proofs.Common.{◌≡◌, ℕ, ◌+◌, ◌<◌, ◌≤◌, List, [], ◌∷◌, ◌++◌, map, length, get_or, take, drop, append-nil, refl, sym, ap, ◌∙◌, arith}
use Rattle.std.specs.Prelude.{filter}
use Rattle.std.specs.List.{flat_map}
use Rattle.std.proofs.lemmas.List.{map-append, map_more, length-take, take-append-le, drop-map, drop_at, length-map}
use Rattle.std.proofs.lemmas.List.Elements.{filter-append}
use Rattle.dep_model.specs.Dependencies.{Dependency, fd, mvd}
use Rattle.dep_model.specs.Deps.{dependency_of, dependencies_of}
use Rattle.min_cover.specs.Members.{members_of}
use Rattle.min_cover.specs.Covers.{multivalued_part}
use Rattle.cover_accounts.specs.declared.shortening.ShortMember.{ShortMember}
use Rattle.cover_accounts.specs.declared.thinning.PlacedDep.{PlacedDep}
use Rattle.cover_accounts.specs.Steps.{Placed, placed, placed_from, placed_members, place_of, places_of, without_positions, is_multivalued, short_of, shortened_of, shortened_list}
use Rattle.cover_accounts.specs.Gathering.{deps_of_places, short_dep}

-- those of the code
pub positions_gone : (list : List PlacedDep) → without_positions (places_of list) ≡ dependencies_of (deps_of_places list)
positions_gone [] = refl
positions_gone (p ∷ list) = ap (λ (ds : List Dependency). dependency_of p.dep ∷ ds) (positions_gone list)

-- ---- one more of a list
pub placed_from-append : (k : ℕ) (ds es : List Dependency) → placed_from k (ds ++ es) ≡ placed_from k ds ++ placed_from (k + length ds) es
placed_from-append k [] es = ap (λ (j : ℕ). placed_from j es) (omega arith)
placed_from-append k (d ∷ ds) es =
    ap (λ (list : List Placed). placed k d ∷ list)
    (placed_from-append (k + 1) ds es
    ∙ ap (λ (j : ℕ). placed_from (k + 1) ds ++ placed_from j es) (omega arith))

-- ---- members and multivalued ones of them
members_alone : (n k : ℕ) (ms : List Dependency) → without_positions (map (placed k) ms) ≡ ms
members_alone n k [] = refl
members_alone n k (m ∷ ms) = ap (λ (l : List Dependency). m ∷ l) (members_alone n k ms)

pub all_members_alone : (n k : ℕ) (ds : List Dependency) → without_positions (flat_map (placed_members n) (placed_from k ds)) ≡ flat_map (members_of n) ds
all_members_alone n k [] = refl
all_members_alone n k (d ∷ ds) =
    map-append (λ (p : Placed). p.dependency) (placed_members n (placed k d)) (flat_map (placed_members n) (placed_from (k + 1) ds))
    ∙ ap (λ (l : List Dependency). l ++ without_positions (flat_map (placed_members n) (placed_from (k + 1) ds))) (members_alone n k (members_of n d))
    ∙ ap (λ (l : List Dependency). members_of n d ++ l) (all_members_alone n (k + 1) ds)

pub multivalued_alone : (k : ℕ) (ds : List Dependency) → without_positions (filter is_multivalued (placed_from k ds)) ≡ multivalued_part ds
multivalued_alone k [] = refl
multivalued_alone k (fd x y ∷ ds) = multivalued_alone (k + 1) ds
multivalued_alone k (mvd x y ∷ ds) = ap (λ (l : List Dependency). mvd x y ∷ l) (multivalued_alone (k + 1) ds)

-- multivalued ones of one more of a list
module _ (list : List PlacedDep) (i : ℕ) (one : PlacedDep) (low : i < length list) where
  more_of : filter is_multivalued (places_of (take (i + 1) list)) ≡ filter is_multivalued (places_of (take i list)) ++ filter is_multivalued (place_of (get_or list i one) ∷ [])
  more_of =
      ap (λ (ps : List Placed). filter is_multivalued ps) (map_more place_of list i one low)
      ∙ filter-append is_multivalued (places_of (take i list)) (place_of (get_or list i one) ∷ [])

  pub multivalued_more : filter is_multivalued (place_of (get_or list i one) ∷ []) ≡ place_of (get_or list i one) ∷ []
      → filter is_multivalued (places_of (take (i + 1) list)) ≡ filter is_multivalued (places_of (take i list)) ++ place_of (get_or list i one) ∷ []
  multivalued_more is = more_of ∙ ap (λ (l : List Placed). filter is_multivalued (places_of (take i list)) ++ l) is

  pub multivalued_no_more : filter is_multivalued (place_of (get_or list i one) ∷ []) ≡ []
      → filter is_multivalued (places_of (take (i + 1) list)) ≡ filter is_multivalued (places_of (take i list))
  multivalued_no_more is =
      more_of ∙ ap (λ (l : List Placed). filter is_multivalued (places_of (take i list)) ++ l) is
      ∙ append-nil (filter is_multivalued (places_of (take i list)))

-- the front stays
pub front_push : (xs ys : List PlacedDep) (e : PlacedDep) → take (length xs) ys ≡ xs → take (length xs) (ys ++ e ∷ []) ≡ xs
front_push xs ys e front =
    let long : length xs ≤ length ys = omega (arith, length-take (length xs) ys, ap (λ (l : List PlacedDep). length l) front) in
    take-append-le (length xs) ys (e ∷ []) long ∙ front

-- a list that begins with another: what stands after it
pub stands_after : (cover all : List PlacedDep) (ms : List Placed) → places_of all ≡ places_of cover ++ ms → places_of (drop (length cover) all) ≡ ms
stands_after cover all ms are =
    sym (drop-map place_of (length cover) all) ∙ ap (λ (ps : List Placed). drop (length cover) ps) are ∙ drop_at (places_of cover) ms (length cover) (length-map cover place_of)

-- ---- members as dependencies
pub short_places : (members : List ShortMember) → places_of (map short_dep members) ≡ map short_of (shortened_list members)
short_places [] = refl
short_places (m ∷ members) = ap (λ (ps : List Placed). short_of (shortened_of m) ∷ ps) (short_places members)
