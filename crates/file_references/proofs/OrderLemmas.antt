-- References in their order: what is sorted, each once.
use Rattle.std.specs.Prelude.{AllPairs, Contains}
use Rattle.std.specs.List.{dedup}
use Rattle.std.specs.Cmp.{IsEquivalence, IsTotalOrder}
use Rattle.std.specs.Cmp.Lexicographic.{pointwise, slice_cmp}
use Rattle.std.specs.List.Sorted.{IsPermutation, IsSorted, IsStrictlySortedBy}
use Rattle.std.specs.Ordering.{eq_by_cmp, nat_cmp, ordering_then}
use Rattle.std.proofs.Common.{inl, inr, ◌≡◌, ◌<◌, ◌⊎◌, ◌&&◌, ◌==◌, ℕ, Bool, true, nat_eq, List, [], ◌∷◌, length, map, get_or, Ordering, Less, Equal, Greater, is_eq, refl, sym, ap, subst, ◌∙◌, ⊎_elim, arith}
use Rattle.std.proofs.lemmas.Bool.{and_parts, cases_order, eqb-true}
use Rattle.std.proofs.lemmas.Bool.Decides.{nat_tests}
use Rattle.std.proofs.lemmas.Cmp.{and_equiv, nat_cmp_total, nat_eq_equiv, nat_list_cmp_total, nat_list_eq_equiv, on_equiv, on_total, then_total}
use Rattle.std.proofs.lemmas.List.Elements.{All-from_recursion}
use Rattle.std.proofs.lemmas.List.Kept.{AllPairs-cons, Any-dedup, Contains-from_dedup, IsStrictlySortedBy-dedup}
use Rattle.std.proofs.lemmas.List.Sorted.{Contains-permutation, IsPermutation-sym}
use Rattle.dep_model.proofs.ListLemmas.{All-members, Contains-map, map-member}
use Rattle.dep_model.proofs.PairLemmas.{no_pairs, pairs_map}
use Rattle.file_references.specs.Finds.{Adds, reference_of}
use Rattle.file_references.specs.References.{AreAllReferences, AreColumnsBefore, IsListBefore, IsReference, Precedes, Reference}
use Rattle.file_references.specs.declared.reference.FoundReference.{FoundReference}
use Rattle.headed_rows.specs.Headings.{HeadedRows}

-- the order of the code
abbrev pub order : FoundReference → FoundReference → Ordering
order x y =
    ordering_then (nat_cmp x.file y.file)
    (ordering_then (slice_cmp nat_cmp x.columns.items y.columns.items)
    (ordering_then (nat_cmp x.target y.target) (slice_cmp nat_cmp x.key.items y.key.items)))

abbrev pub equal : FoundReference → FoundReference → Bool
equal x y =
    (x.file == y.file)
    && (pointwise nat_eq x.columns.items y.columns.items && ((x.target == y.target) && pointwise nat_eq x.key.items y.key.items))

pub total : IsTotalOrder order
total =
    then_total (on_total (λ (x : FoundReference). x.file) nat_cmp_total)
    (then_total (on_total (λ (x : FoundReference). x.columns.items) nat_list_cmp_total)
    (then_total (on_total (λ (x : FoundReference). x.target) nat_cmp_total)
    (on_total (λ (x : FoundReference). x.key.items) nat_list_cmp_total)))

-- ---- equal
eq_then : (a b : Ordering) → is_eq (ordering_then a b) ≡ (is_eq a && is_eq b)
eq_then Less b = refl
eq_then Equal b = refl
eq_then Greater b = refl

eq_nat : (a b : ℕ) → is_eq (nat_cmp a b) ≡ (a == b)
eq_nat a b = elim (cases_order a b) [
  | inl same ↦ grind (arith, nat_tests, same)
  | inr (inl less) ↦ grind (arith, nat_tests, less)
  | inr (inr more) ↦ grind (arith, nat_tests, more)
]

eq_lists : (xs ys : List ℕ) → is_eq (slice_cmp nat_cmp xs ys) ≡ pointwise nat_eq xs ys
eq_lists [] [] = refl
eq_lists [] (y ∷ ys) = refl
eq_lists (x ∷ xs) [] = refl
eq_lists (x ∷ xs) (y ∷ ys) =
    eq_then (nat_cmp x y) (slice_cmp nat_cmp xs ys) ∙ rw (eq_nat x y, eq_lists xs ys) refl

pub ties : (x y : FoundReference) → equal x y ≡ eq_by_cmp order x y
ties x y = sym (
    eq_then (nat_cmp x.file y.file) _ ∙ rw (
      eq_nat x.file y.file,
      eq_then (slice_cmp nat_cmp x.columns.items y.columns.items) (ordering_then (nat_cmp x.target y.target) (slice_cmp nat_cmp x.key.items y.key.items)),
      eq_lists x.columns.items y.columns.items,
      eq_then (nat_cmp x.target y.target) (slice_cmp nat_cmp x.key.items y.key.items),
      eq_nat x.target y.target,
      eq_lists x.key.items y.key.items,
    ) refl
    )

-- ---- less
less_then : (a b : Ordering) → ordering_then a b ≡ Less → (a ≡ Less) ⊎ ((a ≡ Equal) × (b ≡ Less))
less_then Less b h = inl refl
less_then Equal b h = inr (refl, h)
less_then Greater b h = cc

less_nat : (a b : ℕ) → nat_cmp a b ≡ Less → a < b
less_nat a b h = elim (cases_order a b) [
  | inl same ↦ absurd (let wrong : nat_cmp a b ≡ Equal = grind (arith, nat_tests, same) in let no = sym h ∙ wrong in cc)
  | inr (inl less) ↦ less
  | inr (inr more) ↦ absurd (let wrong : nat_cmp a b ≡ Greater = grind (arith, nat_tests, more) in let no = sym h ∙ wrong in cc)
]

equal_nat : (a b : ℕ) → nat_cmp a b ≡ Equal → a ≡ b
equal_nat a b h = elim (cases_order a b) [
  | inl same ↦ same
  | inr (inl less) ↦ absurd (let wrong : nat_cmp a b ≡ Less = grind (arith, nat_tests, less) in let no = sym h ∙ wrong in cc)
  | inr (inr more) ↦ absurd (let wrong : nat_cmp a b ≡ Greater = grind (arith, nat_tests, more) in let no = sym h ∙ wrong in cc)
]

equal_then : (a b : Ordering) → ordering_then a b ≡ Equal → (a ≡ Equal) × (b ≡ Equal)
equal_then Less b h = cc
equal_then Equal b h = (refl, h)
equal_then Greater b h = cc

less_lists : (xs ys : List ℕ) → slice_cmp nat_cmp xs ys ≡ Less → IsListBefore xs ys
less_lists [] [] h = cc
less_lists [] (y ∷ ys) h = tt
less_lists (x ∷ xs) [] h = cc
less_lists (x ∷ xs) (y ∷ ys) h = ⊎_elim (λ less. inl (less_nat x y less))
    (λ both. inr (equal_nat x y both.0, less_lists xs ys both.1)) (less_then (nat_cmp x y) (slice_cmp nat_cmp xs ys) h)

equal_lists : (xs ys : List ℕ) → slice_cmp nat_cmp xs ys ≡ Equal → xs ≡ ys
equal_lists [] [] h = refl
equal_lists [] (y ∷ ys) h = cc
equal_lists (x ∷ xs) [] h = cc
equal_lists (x ∷ xs) (y ∷ ys) h =
    let both = equal_then (nat_cmp x y) (slice_cmp nat_cmp xs ys) h in
    ap (λ (z : ℕ). z ∷ xs) (equal_nat x y both.0) ∙ ap (λ (zs : List ℕ). y ∷ zs) (equal_lists xs ys both.1)

columns_before : (file other : ℕ) (columns others : List ℕ)
    → ordering_then (nat_cmp file other) (slice_cmp nat_cmp columns others) ≡ Less → AreColumnsBefore file columns other others
columns_before file other columns others h = ⊎_elim (λ less. inl (less_nat file other less))
    (λ both. inr (equal_nat file other both.0, less_lists columns others both.1))
    (less_then (nat_cmp file other) (slice_cmp nat_cmp columns others) h)

pub precedes : (x y : FoundReference) → order x y ≡ Less → Precedes (reference_of x) (reference_of y)
precedes x y h = ⊎_elim (λ less. inl (inl (less_nat x.file y.file less)))
    (λ (file, rest). ⊎_elim (λ less. inl (inr (equal_nat x.file y.file file, less_lists x.columns.items y.columns.items less)))
    (λ (columns, later). inr (
      equal_nat x.file y.file file,
      equal_lists x.columns.items y.columns.items columns,
      columns_before x.target y.target x.key.items y.key.items later,
    ))
    (less_then (slice_cmp nat_cmp x.columns.items y.columns.items) _ rest))
    (less_then (nat_cmp x.file y.file) _ h)

pairs_precede : (ys : List FoundReference) → IsStrictlySortedBy order ys
    → AllPairs (λ (x y : FoundReference). Precedes (reference_of x) (reference_of y)) ys
unfolding IsStrictlySortedBy
pairs_precede [] h = no_pairs (λ (x y : FoundReference). Precedes (reference_of x) (reference_of y))
pairs_precede (y ∷ ys) h =
    AllPairs-cons (λ (a b : FoundReference). Precedes (reference_of a) (reference_of b)) y ys
    (λ i d l. precedes y (get_or ys i d) (All-from_recursion (λ (z : FoundReference). order y z ≡ Less) ys h.0 i d l)) (pairs_precede ys h.1)

pub all_precede : (xs : List FoundReference) → IsStrictlySortedBy order xs → AllPairs Precedes (map reference_of xs)
all_precede xs sorted = pairs_map Precedes reference_of xs (pairs_precede xs sorted)

-- ---- each once
pub equivalence : IsEquivalence equal
equivalence =
    and_equiv (on_equiv (λ (x : FoundReference). x.file) nat_eq_equiv)
    (and_equiv (on_equiv (λ (x : FoundReference). x.columns.items) nat_list_eq_equiv)
    (and_equiv (on_equiv (λ (x : FoundReference). x.target) nat_eq_equiv)
    (on_equiv (λ (x : FoundReference). x.key.items) nat_list_eq_equiv)))

same_lists : (xs ys : List ℕ) → pointwise nat_eq xs ys ≡ true → xs ≡ ys
same_lists [] [] h = refl
same_lists [] (y ∷ ys) h = cc
same_lists (x ∷ xs) [] h = cc
same_lists (x ∷ xs) (y ∷ ys) h =
    let both = and_parts (nat_eq x y) (pointwise nat_eq xs ys) h in
    ap (λ (z : ℕ). z ∷ xs) (eqb-true x y both.0) ∙ ap (λ (zs : List ℕ). y ∷ zs) (same_lists xs ys both.1)

pub equal_same : (x y : FoundReference) → equal x y ≡ true → reference_of x ≡ reference_of y
equal_same x y h =
    let first = and_parts (x.file == y.file) _ h in
    let second = and_parts (pointwise nat_eq x.columns.items y.columns.items) _ first.1 in
    let third = and_parts (x.target == y.target) (pointwise nat_eq x.key.items y.key.items) second.1 in
    let file : x.file ≡ y.file = eqb-true x.file y.file first.0 in
    let columns : x.columns.items ≡ y.columns.items = same_lists x.columns.items y.columns.items second.0 in
    let target : x.target ≡ y.target = eqb-true x.target y.target third.0 in
    let key : x.key.items ≡ y.key.items = same_lists x.key.items y.key.items third.1 in
    (λ i. record { file = file i; columns = columns i; target = target i; key = key i })

-- what was found, sorted and each once, is all there is
pub all_found : (files : List HeadedRows) (found sorted once : List FoundReference) → IsPermutation found sorted → IsSorted order sorted
    → once ≡ dedup equal sorted → Adds files (λ (ref : Reference). ref.target < length files) [] (map reference_of found)
    → AreAllReferences files (map reference_of once)
all_found files found sorted once moved in_order is adds = record {
  each = All-members (IsReference files) (map reference_of once) each;
  all = all;
  ascending = all_precede once (subst (IsStrictlySortedBy order) (sym is) (IsStrictlySortedBy-dedup total ties sorted in_order));
}
  where
    each : (ref : Reference) → Contains (map reference_of once) ref → IsReference files ref
    each ref has =
        let (x, x_in, at) = map-member reference_of once ref has in
        let in_sorted : Contains sorted x = Contains-from_dedup equal sorted x (subst (λ (xs : List FoundReference). Contains xs x) is x_in) in
        let in_found : Contains found x = Contains-permutation sorted found x (IsPermutation-sym found sorted moved) in_sorted in
        ⊎_elim (λ none. absurd (omega (arith, none.1))) (λ of. of)
        (adds.only ref (subst (Contains (map reference_of found)) at (Contains-map reference_of found x in_found)))

    all : (ref : Reference) → IsReference files ref → Contains (map reference_of once) ref
    all ref of =
        let (x, x_in, at) = map-member reference_of found ref (adds.all ref of of.candidate.target_file) in
        let (i, y, low, y_at, same) = Any-dedup equivalence sorted x (Contains-permutation found sorted x moved x_in) in
        subst (Contains (map reference_of once)) (sym (equal_same x y same) ∙ at)
        (Contains-map reference_of once y (subst (λ (xs : List FoundReference). Contains xs y) (sym is) (i, low, y_at)))
