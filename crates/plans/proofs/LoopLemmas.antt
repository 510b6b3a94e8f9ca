-- A turn of the loop that leaves out contained schemes: the scheme at a position is taken out, or passed.
use Rattle.std.proofs.Common.{◌≡◌, ℕ, suc, ◌<◌, ◌+◌, true, false, not, ⊎_elim, List, [], ◌∷◌, ◌++◌, take, drop, length, sym, subst, ap, ◌∙◌, arith}
use Rattle.std.specs.List.{list_any}
use Rattle.std.specs.Prelude.{slice_index_or}
use Rattle.std.proofs.Math.Seq.{drop-cons, take-append_seam, drop-append_seam}
use Rattle.std.proofs.lemmas.List.{take-append-drop, take_more, length-take-le}
use Rattle.std.proofs.lemmas.List.Folds.{list_any-append}
use Rattle.std.proofs.lemmas.Bool.{or_cases, or_left, or_right, and_parts}
use Rattle.attr_sets.specs.declared.set.AttrSet.{AttrSet}
use Rattle.dep_model.specs.Dependencies.{Dependency}
use Rattle.dep_model.specs.Projections.{IsLossless}
use Rattle.dep_model.specs.Plans.{schemes_of}
use Rattle.plans.specs.Schemes.{AreSchemes}
use Rattle.plans.specs.Containing.{is_contained, lies_within, lies_properly_within}
use Rattle.plans.proofs.ContainingLemmas.{AreTried, tried_contained, tried_kept}
use Rattle.plans.proofs.ListLemmas.{any_some, any_from}
use Rattle.plans.proofs.DroppingLemmas.{schemes_dropped, lossless_dropped}

-- the schemes before position i are tried, and what was left out is in what stays
pub record IsTriedTo (whole items : List AttrSet) (i : ℕ) : Type 0 where
  pub tried : (done : List AttrSet) × AreTried whole done (take i items) (drop i items)
  pub plan : (n : ℕ) → AreSchemes n whole → AreSchemes n items
  pub lossless : (n : ℕ) (ds : List Dependency) → IsLossless n ds (schemes_of whole) → IsLossless n ds (schemes_of items)

-- a list as what stands before a position, the scheme there, and what stands after it
take-item-drop : (items : List AttrSet) (i : ℕ) (x : AttrSet) → i < length items → items ≡ take i items ++ slice_index_or items i x ∷ drop (suc i) items
take-item-drop items i x lt = sym (take-append-drop i items) ∙ ap (λ rest. take i items ++ rest) (drop-cons items i x lt)

contained_held : (before : List AttrSet) (x : AttrSet) (later : List AttrSet) → is_contained before x later ≡ true → list_any (lies_within x) (before ++ later) ≡ true
contained_held before x later spare =
    list_any-append (lies_within x) before later
    ∙ ⊎_elim
    (λ near. or_left (list_any (lies_within x) before) (list_any (lies_within x) later) near)
    (λ far.
    let found = any_some (lies_properly_within x) later far in
    or_right (list_any (lies_within x) before) (list_any (lies_within x) later)
    (any_from (lies_within x) later found.0 found.1 (and_parts (lies_within x found.0) (not (lies_within found.0 x)) found.2).0))
    (or_cases (list_any (lies_within x) before) (list_any (lies_properly_within x) later) spare)

pub IsTriedTo-dropped : (whole items : List AttrSet) (i : ℕ) (x : AttrSet) → i < length items → IsTriedTo whole items i → is_contained (take i items) (slice_index_or items i x) (drop (i + 1) items) ≡ true → IsTriedTo whole (take i items ++ drop (suc i) items) i
IsTriedTo-dropped whole items i x lt before fact =
    let next : i + 1 ≡ suc i = omega arith in
    let spare = subst (λ (k : ℕ). is_contained (take i items) (slice_index_or items i x) (drop k items) ≡ true) next fact in
    let y = slice_index_or items i x in
    let seam : length (take i items) ≡ i = length-take-le i items (omega (arith, lt)) in
    let firsts : take i (take i items ++ drop (suc i) items) ≡ take i items = subst (λ (k : ℕ). take k (take i items ++ drop (suc i) items) ≡ take i items) seam (take-append_seam (take i items) (drop (suc i) items)) in
    let lasts : drop i (take i items ++ drop (suc i) items) ≡ drop (suc i) items = subst (λ (k : ℕ). drop k (take i items ++ drop (suc i) items) ≡ drop (suc i) items) seam (drop-append_seam (take i items) (drop (suc i) items)) in
    let done = before.tried.0 in
    let old = subst (λ (rest : List AttrSet). AreTried whole done (take i items) rest) (drop-cons items i x lt) before.tried.1 in
    let new = tried_contained whole done (take i items) y (drop (suc i) items) old spare in
    let held = contained_held (take i items) y (drop (suc i) items) spare in
    record {
      tried = (done ++ y ∷ [], subst (λ (a : List AttrSet). AreTried whole (done ++ y ∷ []) a (drop i (take i items ++ drop (suc i) items))) (sym firsts) (subst (λ (b : List AttrSet). AreTried whole (done ++ y ∷ []) (take i items) b) (sym lasts) new));
      plan = λ n plan. schemes_dropped n (take i items) (drop (suc i) items) y held (subst (λ (xs : List AttrSet). AreSchemes n xs) (take-item-drop items i x lt) (before.plan n plan));
      lossless = λ n ds lossless. lossless_dropped n ds (take i items) (drop (suc i) items) y held (subst (λ (xs : List AttrSet). IsLossless n ds (schemes_of xs)) (take-item-drop items i x lt) (before.lossless n ds lossless));
    }

pub IsTriedTo-kept : (whole items : List AttrSet) (i : ℕ) (x : AttrSet) → i < length items → IsTriedTo whole items i → is_contained (take i items) (slice_index_or items i x) (drop (i + 1) items) ≡ false → IsTriedTo whole items (i + 1)
IsTriedTo-kept whole items i x lt before fact =
    let next : i + 1 ≡ suc i = omega arith in
    let stays = subst (λ (k : ℕ). is_contained (take i items) (slice_index_or items i x) (drop k items) ≡ false) next fact in
    let y = slice_index_or items i x in
    let done = before.tried.0 in
    let old = subst (λ (rest : List AttrSet). AreTried whole done (take i items) rest) (drop-cons items i x lt) before.tried.1 in
    let new = tried_kept whole done (take i items) y (drop (suc i) items) old stays in
    record {
      tried = (done ++ y ∷ [], subst (λ (a : List AttrSet). AreTried whole (done ++ y ∷ []) a (drop (i + 1) items)) (sym (take_more items i x lt)) (subst (λ (k : ℕ). AreTried whole (done ++ y ∷ []) (take i items ++ y ∷ []) (drop k items)) (sym next) new));
      plan = before.plan;
      lossless = before.lossless;
    }
