-- The loop that lets go what the others imply: a list in which a dependency that every relation obeys stands
-- for each that went. And what is left is what `IsThinned` says.
use Rattle.std.proofs.Common.{◌≡◌, ℕ, ◌+◌, ◌<◌, ◌≤◌, suc, ◌↔◌, List, [], ◌∷◌, ◌++◌, length, get_or, set, take, drop, refl, sym, ◌∙◌, subst, ap, inl, inr, append_assoc, append-nil, arith}
use Rattle.std.proofs.lemmas.List.{set_split, drop-set-lt, drop_more, drop_all, take_more, take_more_set, map_push, map-append, drop-map, take-map}
use Rattle.std.proofs.lemmas.List.Elements.{All-cons, All-tail, All-append, All-push}
use Rattle.std.specs.Prelude.{All}
use Rattle.dep_model.specs.declared.dep.Dep.{Dep}
use Rattle.dep_model.specs.Tuples.{Relation}
use Rattle.dep_model.specs.Dependencies.{Dependency, Obeys}
use Rattle.dep_model.specs.Implication.{IsLegal, Implies}
use Rattle.dep_model.specs.Deps.{dependency_of, dependencies_of}
use Rattle.dep_model.proofs.DepLemmas.{legal-to, legal-from}
use Rattle.dep_model.proofs.ListLemmas.{cons_parts}
use Rattle.min_cover.specs.Covers.{IsThinned}
use Rattle.min_cover.proofs.ListLemmas.{All-left, All-right}
use Rattle.min_cover.proofs.ThinningLemmas.{ObeysEach}
use Rattle.cover_accounts.specs.declared.thinning.PlacedDep.{PlacedDep}
use Rattle.cover_accounts.specs.Steps.{Placed, IsThinnedInto, place_of, places_of, without_positions}
use Rattle.cover_accounts.specs.Gathering.{deps_of_places}
use Rattle.cover_accounts.proofs.PlaceLemmas.{positions_gone}

-- how far the list from a position on is parted: those before k were tried, `kept` are those kept, and
-- `out` those that went
pub record IsPartedTo (n : ℕ) (first first_kept list : List PlacedDep) (others : List Dep) (kept : List PlacedDep) (out : List Placed) (k : ℕ) : Type 0 where
  pub same : (r : Relation) → ObeysEach n r (take k others) ↔ ObeysEach n r (deps_of_places kept)
  pub rest : drop k others ≡ deps_of_places (drop k list)
  pub onward : (left gone : List Placed) → IsThinnedInto n (places_of kept) (places_of (drop k list)) left gone
      → IsThinnedInto n (places_of first_kept) (places_of first) left (out ++ gone)

-- nothing was tried
pub parted_none : (n : ℕ) (list : List PlacedDep) (others : List Dep) (from : ℕ) → others ≡ deps_of_places list
    → IsPartedTo n (drop from list) (take from list) list others (take from list) [] from
parted_none n list others from are =
    let f : PlacedDep → Dep = λ (p : PlacedDep). p.dep in
    let front : take from others ≡ deps_of_places (take from list) = ap (λ (ds : List Dep). take from ds) are ∙ take-map f from list in
    record {
      same = λ r. (
        (λ all. subst (λ (ds : List Dep). ObeysEach n r ds) front all),
        (λ all. subst (λ (ds : List Dep). ObeysEach n r ds) (sym front) all),
      );
      rest = ap (λ (ds : List Dep). drop from ds) are ∙ drop-map f from list;
      onward = λ left gone parted. parted;
    }

-- what is left once all were tried
pub parted_done : (n : ℕ) (first first_kept list : List PlacedDep) (others : List Dep) (kept : List PlacedDep) (out : List Placed) (k : ℕ) → length list ≤ k
    → IsPartedTo n first first_kept list others kept out k → IsThinnedInto n (places_of first_kept) (places_of first) (places_of kept) out
parted_done n first first_kept list others kept out k done parted =
    let over : drop k list ≡ [] = drop_all k list done in
    subst (λ (gone : List Placed). IsThinnedInto n (places_of first_kept) (places_of first) (places_of kept) gone) (append-nil out)
    (parted.onward (places_of kept) []
    (subst (λ (l : List PlacedDep). IsThinnedInto n (places_of kept) (places_of l) (places_of kept) []) (sym over) (refl, refl)))

module _ (n : ℕ) (first first_kept list : List PlacedDep) (others : List Dep) (kept : List PlacedDep) (out : List Placed) (k : ℕ) (p zero : PlacedDep) (nothing : Dep)
    (at : p ≡ get_or list k zero) (low : k < length list) (lt : k < length others) (obeyed : (r : Relation) → Obeys n (dependency_of nothing) r)
    (before : IsPartedTo n first first_kept list others kept out k) where
  -- the list without that one, and those still to be tried
  abbrev without : List Dep
  without = set others k nothing

  abbrev later : List PlacedDep
  later = drop (k + 1) list

  next_list : drop k list ≡ p ∷ later
  next_list = drop_more list k zero low ∙ ap (λ (q : PlacedDep). q ∷ later) (sym at)

  next_parts : (get_or others k p.dep ≡ p.dep) × (drop (k + 1) others ≡ deps_of_places later)
  next_parts =
      cons_parts (get_or others k p.dep) p.dep (drop (k + 1) others) (deps_of_places later)
      (sym (drop_more others k p.dep lt) ∙ before.rest ∙ ap (λ (l : List PlacedDep). deps_of_places l) next_list)

  pub here : get_or others k p.dep ≡ p.dep
  here = next_parts.0

  split : without ≡ take k others ++ nothing ∷ deps_of_places later
  split =
      let next : suc k ≡ k + 1 = omega arith in
      set_split others k nothing lt ∙ ap (λ (j : ℕ). take k others ++ nothing ∷ drop j others) next
      ∙ ap (λ (ds : List Dep). take k others ++ nothing ∷ ds) next_parts.1

  obeyed_to : (r : Relation) → ObeysEach n r without → ObeysEach n r (deps_of_places kept ++ deps_of_places later)
  obeyed_to r all =
      let P : Dep → Type 0 = λ (e : Dep). Obeys n (dependency_of e) r in
      let parts : All P (take k others ++ nothing ∷ deps_of_places later) = subst (λ (es : List Dep). All P es) split all in
      All-append P (deps_of_places kept) (deps_of_places later) ((before.same r).0 (All-left P (take k others) (nothing ∷ deps_of_places later) parts))
      (All-tail P nothing (deps_of_places later) (All-right P (take k others) (nothing ∷ deps_of_places later) parts))

  obeyed_from : (r : Relation) → ObeysEach n r (deps_of_places kept ++ deps_of_places later) → ObeysEach n r without
  obeyed_from r all =
      let P : Dep → Type 0 = λ (e : Dep). Obeys n (dependency_of e) r in
      subst (λ (es : List Dep). All P es) (sym split)
      (All-append P (take k others) (nothing ∷ deps_of_places later) ((before.same r).1 (All-left P (deps_of_places kept) (deps_of_places later) all))
      (All-cons P nothing (deps_of_places later) (obeyed r) (All-right P (deps_of_places kept) (deps_of_places later) all)))

  joined : dependencies_of (deps_of_places kept ++ deps_of_places later) ≡ without_positions (places_of kept) ++ without_positions (places_of later)
  joined =
      map-append dependency_of (deps_of_places kept) (deps_of_places later)
      ∙ ap (λ (ds : List Dependency). ds ++ dependencies_of (deps_of_places later)) (sym (positions_gone kept))
      ∙ ap (λ (ds : List Dependency). without_positions (places_of kept) ++ ds) (sym (positions_gone later))

  -- so it implies what those kept and those still to be tried imply
  implied_to : (e : Dependency) → Implies n (dependencies_of without) e → Implies n (without_positions (places_of kept) ++ without_positions (places_of later)) e
  implied_to e implied r legal =
      let others_legal = subst (λ (es : List Dependency). IsLegal n es r) (sym joined) legal in
      implied r (legal-from n without r legal.over (obeyed_from r (legal-to n (deps_of_places kept ++ deps_of_places later) r others_legal)))

  implied_from : (e : Dependency) → Implies n (without_positions (places_of kept) ++ without_positions (places_of later)) e → Implies n (dependencies_of without) e
  implied_from e implied r legal =
      implied r (subst (λ (es : List Dependency). IsLegal n es r) joined (legal-from n (deps_of_places kept ++ deps_of_places later) r legal.over (obeyed_to r (legal-to n without r legal))))

  -- the others imply it: it goes
  pub parted_gone : (j : ℕ) → j ≡ k + 1 → Implies n (dependencies_of without) (dependency_of p.dep) → IsPartedTo n first first_kept list without kept (out ++ place_of p ∷ []) j
  parted_gone j e implied = subst (λ (i : ℕ). IsPartedTo n first first_kept list without kept (out ++ place_of p ∷ []) i) (sym e) (record {
    same = λ r.
        let P : Dep → Type 0 = λ (f : Dep). Obeys n (dependency_of f) r in
        let taken : take (k + 1) without ≡ take k others ++ nothing ∷ [] = take_more_set others k nothing lt in (
          (λ all. (before.same r).0 (All-left P (take k others) (nothing ∷ []) (subst (λ (es : List Dep). All P es) taken all))),
          (λ all. subst (λ (es : List Dep). All P es) (sym taken) (All-push P (take k others) nothing ((before.same r).1 all) (obeyed r))),
        );
    rest = drop-set-lt (k + 1) others k nothing (omega arith) ∙ next_parts.1;
    onward = λ left gone parted.
        subst (λ (all : List Placed). IsThinnedInto n (places_of first_kept) (places_of first) left all) (sym (append_assoc out (place_of p ∷ []) gone))
        (before.onward left (place_of p ∷ gone)
        (subst (λ (l : List PlacedDep). IsThinnedInto n (places_of kept) (places_of l) left (place_of p ∷ gone)) (sym next_list)
        (inl (implied_to (dependency_of p.dep) implied, (gone, refl, parted)))));
  })

  -- they do not: it is kept
  pub parted_kept : (j : ℕ) → j ≡ k + 1 → (Implies n (dependencies_of without) (dependency_of p.dep) → ⊥) → IsPartedTo n first first_kept list others (kept ++ p ∷ []) out j
  parted_kept j e fails = subst (λ (i : ℕ). IsPartedTo n first first_kept list others (kept ++ p ∷ []) out i) (sym e) (record {
    same = λ r.
        let P : Dep → Type 0 = λ (f : Dep). Obeys n (dependency_of f) r in
        let taken : take (k + 1) others ≡ take k others ++ p.dep ∷ [] = take_more others k p.dep lt ∙ ap (λ (f : Dep). take k others ++ f ∷ []) here in
        let now : deps_of_places (kept ++ p ∷ []) ≡ deps_of_places kept ++ p.dep ∷ [] = map_push (λ (q : PlacedDep). q.dep) kept p in (
          (λ all.
              let parts = subst (λ (es : List Dep). All P es) taken all in
              subst (λ (es : List Dep). All P es) (sym now)
              (All-append P (deps_of_places kept) (p.dep ∷ []) ((before.same r).0 (All-left P (take k others) (p.dep ∷ []) parts)) (All-right P (take k others) (p.dep ∷ []) parts))),
          (λ all.
              let parts = subst (λ (es : List Dep). All P es) now all in
              subst (λ (es : List Dep). All P es) (sym taken)
              (All-append P (take k others) (p.dep ∷ []) ((before.same r).1 (All-left P (deps_of_places kept) (p.dep ∷ []) parts)) (All-right P (deps_of_places kept) (p.dep ∷ []) parts))),
        );
    rest = next_parts.1;
    onward = λ left gone parted.
        let then : IsThinnedInto n (places_of kept ++ place_of p ∷ []) (places_of later) left gone =
        subst (λ (ps : List Placed). IsThinnedInto n ps (places_of later) left gone) (map_push place_of kept p) parted in
        before.onward left gone
        (subst (λ (l : List PlacedDep). IsThinnedInto n (places_of kept) (places_of l) left gone) (sym next_list)
        (inr ((λ implied. fails (implied_from (dependency_of p.dep) implied)), then)));
  })

-- ---- what is left is what `IsThinned` says, and there is one
pub parted_is_thinned : (n : ℕ) (kept list rest gone : List Placed) → IsThinnedInto n kept list rest gone
    → IsThinned n (without_positions kept) (without_positions list) (without_positions rest)
parted_is_thinned n kept [] rest gone parted = ap (λ (ps : List Placed). without_positions ps) parted.0
parted_is_thinned n kept (p ∷ list) rest gone (inl (implied, (more, is, parted))) =
    inl (implied, parted_is_thinned n kept list rest more parted)
parted_is_thinned n kept (p ∷ list) rest gone (inr (fails, parted)) =
    inr (
      fails,
      subst (λ (ds : List Dependency). IsThinned n ds (without_positions list) (without_positions rest))
          (map_push (λ (q : Placed). q.dependency) kept p) (parted_is_thinned n (kept ++ p ∷ []) list rest gone parted),
    )

pub one_parting : (n : ℕ) (kept list rest other gone also : List Placed) → IsThinnedInto n kept list rest gone → IsThinnedInto n kept list other also
    → (rest ≡ other) × (gone ≡ also)
one_parting n kept [] rest other gone also first second = (first.0 ∙ sym second.0, first.1 ∙ sym second.1)
one_parting n kept (p ∷ list) rest other gone also (inl (implied, (more, is, parted))) (inl (again, (others, are, apart))) =
    let same = one_parting n kept list rest other more others parted apart in
    (same.0, is ∙ ap (λ (l : List Placed). p ∷ l) same.1 ∙ sym are)
one_parting n kept (p ∷ list) rest other gone also (inl (implied, parted)) (inr (fails, apart)) = absurd (fails implied)
one_parting n kept (p ∷ list) rest other gone also (inr (fails, parted)) (inl (implied, apart)) = absurd (fails implied)
one_parting n kept (p ∷ list) rest other gone also (inr (fails, parted)) (inr (again, apart)) =
    one_parting n (kept ++ p ∷ []) list rest other gone also parted apart
