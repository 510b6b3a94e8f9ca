-- The loop that leaves out what the others imply: a list in which a dependency that every relation obeys stands for each that was left out.
use Rattle.std.proofs.Common.{◌≡◌, ℕ, ◌+◌, ◌<◌, suc, ◌↔◌, true, List, [], ◌∷◌, ◌++◌, length, get_or, set, take, drop, refl, sym, ◌∙◌, subst, ap, ◌≤◌, inl, inr, Bool, not, false, append-nil, arith}
use Rattle.std.proofs.lemmas.Bool.{true≢false}
use Rattle.std.proofs.lemmas.List.{set_split, set-set, set-get_or, drop-set-lt, drop_more, drop_all, take_more, take_more_set, map_push, map-append, drop-map, drop_at, length-map, length-take, map_more, take-append-le}
use Rattle.std.proofs.lemmas.List.Elements.{All-cons, All-tail, All-append, All-push, filter-append}
use Rattle.std.specs.Prelude.{All, filter}
use Rattle.dep_model.specs.declared.dep.Dep.{Dep}
use Rattle.dep_model.specs.Tuples.{Relation}
use Rattle.dep_model.specs.Dependencies.{Dependency, fd, mvd, Obeys, is_fd}
use Rattle.dep_model.specs.Implication.{IsLegal, Implies}
use Rattle.dep_model.specs.Deps.{dependency_of, dependencies_of}
use Rattle.dep_model.proofs.DepLemmas.{legal-to, legal-from}
use Rattle.min_cover.specs.Covers.{IsThinned, multivalued_part}
use Rattle.min_cover.proofs.ListLemmas.{All-left, All-right}

-- a relation obeys each of a list
abbrev pub ObeysEach : ℕ → Relation → List Dep → Type 0
ObeysEach n r ds = All (λ (d : Dep). Obeys n (dependency_of d) r) ds

-- how far the list from a position on is thinned: those before k were tried, and `kept` are those kept
pub record IsThinnedTo (n : ℕ) (first first_kept others kept : List Dep) (k : ℕ) : Type 0 where
  pub same : (r : Relation) → ObeysEach n r (take k others) ↔ ObeysEach n r kept
  pub onward : (rest : List Dependency) → IsThinned n (dependencies_of kept) (dependencies_of (drop k others)) rest
      → IsThinned n (dependencies_of first_kept) (dependencies_of first) rest

-- what was left out is put back
pub set-set_back : (others : List Dep) (k : ℕ) (d nothing : Dep) → d ≡ get_or others k d → set (set others k nothing) k d ≡ others
set-set_back others k d nothing at = set-set others k nothing d ∙ ap (λ (e : Dep). set others k e) at ∙ set-get_or others k d

-- nothing was tried
pub thinned_none : (n : ℕ) (ds : List Dep) (from : ℕ) → IsThinnedTo n (drop from ds) (take from ds) ds (take from ds) from
thinned_none n ds from = record { same = λ r. ((λ all. all), (λ all. all)); onward = λ rest thinned. thinned }

-- what is left once all were tried
pub thinned_done : (n : ℕ) (first first_kept others kept : List Dep) (k : ℕ) → length others ≤ k → IsThinnedTo n first first_kept others kept k
    → IsThinned n (dependencies_of first_kept) (dependencies_of first) (dependencies_of kept)
thinned_done n first first_kept others kept k done thinned =
    let over : drop k others ≡ [] = drop_all k others done in
    thinned.onward (dependencies_of kept) (subst (λ (es : List Dep). IsThinned n (dependencies_of kept) (dependencies_of es) (dependencies_of kept)) (sym over) refl)

module _ (n : ℕ) (first first_kept others kept : List Dep) (k : ℕ) (d nothing : Dep) (at : d ≡ get_or others k d) (lt : k < length others)
    (obeyed : (r : Relation) → Obeys n (dependency_of nothing) r) (before : IsThinnedTo n first first_kept others kept k) where
  -- the list with d left out, and those still to be tried
  abbrev without : List Dep
  without = set others k nothing

  abbrev later : List Dep
  later = drop (k + 1) others

  split : without ≡ take k others ++ nothing ∷ later
  split =
      let next : suc k ≡ k + 1 = omega arith in
      set_split others k nothing lt ∙ ap (λ (j : ℕ). take k others ++ nothing ∷ drop j others) next

  obeyed_to : (r : Relation) → ObeysEach n r without → ObeysEach n r (kept ++ later)
  obeyed_to r all =
      let P : Dep → Type 0 = λ (e : Dep). Obeys n (dependency_of e) r in
      let parts : All P (take k others ++ nothing ∷ later) = subst (λ (es : List Dep). All P es) split all in
      All-append P kept later ((before.same r).0 (All-left P (take k others) (nothing ∷ later) parts)) (All-tail P nothing later (All-right P (take k others) (nothing ∷ later) parts))

  obeyed_from : (r : Relation) → ObeysEach n r (kept ++ later) → ObeysEach n r without
  obeyed_from r all =
      let P : Dep → Type 0 = λ (e : Dep). Obeys n (dependency_of e) r in
      subst (λ (es : List Dep). All P es) (sym split)
      (All-append P (take k others) (nothing ∷ later) ((before.same r).1 (All-left P kept later all)) (All-cons P nothing later (obeyed r) (All-right P kept later all)))

  joined : dependencies_of (kept ++ later) ≡ dependencies_of kept ++ dependencies_of later
  joined = map-append dependency_of kept later

  -- so it implies what those kept and those still to be tried imply
  implied_to : (e : Dependency) → Implies n (dependencies_of without) e → Implies n (dependencies_of kept ++ dependencies_of later) e
  implied_to e implied r legal =
      let others_legal = subst (λ (es : List Dependency). IsLegal n es r) (sym joined) legal in
      implied r (legal-from n without r legal.over (obeyed_from r (legal-to n (kept ++ later) r others_legal)))

  implied_from : (e : Dependency) → Implies n (dependencies_of kept ++ dependencies_of later) e → Implies n (dependencies_of without) e
  implied_from e implied r legal =
      implied r (subst (λ (es : List Dependency). IsLegal n es r) joined (legal-from n (kept ++ later) r legal.over (obeyed_to r (legal-to n without r legal))))

  next_tried : dependencies_of (drop k others) ≡ dependency_of d ∷ dependencies_of later
  next_tried = ap (λ (es : List Dep). dependencies_of es) (drop_more others k d lt ∙ ap (λ (e : Dep). e ∷ later) (sym at))

  -- the others imply d: it is left out
  pub thinned_left_out : (j : ℕ) → j ≡ k + 1 → Implies n (dependencies_of without) (dependency_of d) → IsThinnedTo n first first_kept without kept j
  thinned_left_out j e implied = subst (λ (i : ℕ). IsThinnedTo n first first_kept without kept i) (sym e) (record {
    same = λ r.
        let P : Dep → Type 0 = λ (f : Dep). Obeys n (dependency_of f) r in
        let taken : take (k + 1) without ≡ take k others ++ nothing ∷ [] = take_more_set others k nothing lt in (
          (λ all. (before.same r).0 (All-left P (take k others) (nothing ∷ []) (subst (λ (es : List Dep). All P es) taken all))),
          (λ all. subst (λ (es : List Dep). All P es) (sym taken) (All-push P (take k others) nothing ((before.same r).1 all) (obeyed r))),
        );
    onward = λ rest thinned.
        let dropped : drop (k + 1) without ≡ later = drop-set-lt (k + 1) others k nothing (omega arith) in
        let then : IsThinned n (dependencies_of kept) (dependencies_of later) rest = subst (λ (es : List Dep). IsThinned n (dependencies_of kept) (dependencies_of es) rest) dropped thinned in
        before.onward rest (subst (λ (es : List Dependency). IsThinned n (dependencies_of kept) es rest) (sym next_tried) (inl (implied_to (dependency_of d) implied, then)));
  })

  -- they do not: it is kept
  kept_at : (Implies n (dependencies_of without) (dependency_of d) → ⊥) → IsThinnedTo n first first_kept others (kept ++ d ∷ []) (k + 1)
  kept_at fails = record {
    same = λ r.
        let P : Dep → Type 0 = λ (f : Dep). Obeys n (dependency_of f) r in
        let taken : take (k + 1) others ≡ take k others ++ d ∷ [] = take_more others k d lt ∙ ap (λ (e : Dep). take k others ++ e ∷ []) (sym at) in (
          (λ all.
              let parts = subst (λ (es : List Dep). All P es) taken all in
              All-append P kept (d ∷ []) ((before.same r).0 (All-left P (take k others) (d ∷ []) parts)) (All-right P (take k others) (d ∷ []) parts)),
          (λ all. subst (λ (es : List Dep). All P es) (sym taken)
              (All-append P (take k others) (d ∷ []) ((before.same r).1 (All-left P kept (d ∷ []) all)) (All-right P kept (d ∷ []) all))),
        );
    onward = λ rest thinned.
        let then : IsThinned n (dependencies_of kept ++ dependency_of d ∷ []) (dependencies_of later) rest =
        subst (λ (es : List Dependency). IsThinned n es (dependencies_of later) rest) (map_push dependency_of kept d) thinned in
        before.onward rest (subst (λ (es : List Dependency). IsThinned n (dependencies_of kept) es rest) (sym next_tried) (inr ((λ implied. fails (implied_from (dependency_of d) implied)), then)));
  }

  pub thinned_kept : (j : ℕ) → j ≡ k + 1 → (Implies n (dependencies_of without) (dependency_of d) → ⊥) → IsThinnedTo n first first_kept (set without k d) (kept ++ d ∷ []) j
  thinned_kept j e fails =
      subst (λ (i : ℕ). IsThinnedTo n first first_kept (set without k d) (kept ++ d ∷ []) i) (sym e)
      (subst (λ (es : List Dep). IsThinnedTo n first first_kept es (kept ++ d ∷ []) (k + 1)) (sym (set-set_back others k d nothing at)) (kept_at fails))

-- ---- multivalued dependencies added to a cover
-- they stand after it
pub added_later : (cover others : List Dep) (ms : List Dependency) → dependencies_of others ≡ dependencies_of cover ++ ms → dependencies_of (drop (length cover) others) ≡ ms
added_later cover others ms added =
    sym (drop-map dependency_of (length cover) others) ∙ ap (λ (es : List Dependency). drop (length cover) es) added ∙ drop_at (dependencies_of cover) ms (length cover) (length-map cover dependency_of)

-- one more of a list
multivalued_part-take : (deps : List Dep) (i : ℕ) (first : Dep) → i < length deps
    → multivalued_part (dependencies_of (take (i + 1) deps)) ≡ multivalued_part (dependencies_of (take i deps)) ++ multivalued_part (dependency_of (get_or deps i first) ∷ [])
multivalued_part-take deps i first lt =
    let test : Dependency → Bool = λ (d : Dependency). not (is_fd d) in
    ap (λ (ds : List Dependency). filter test ds) (map_more dependency_of deps i first lt) ∙ filter-append test (dependencies_of (take i deps)) (dependency_of (get_or deps i first) ∷ [])

multivalued_one : (d : Dependency) → is_fd d ≡ false → multivalued_part (d ∷ []) ≡ d ∷ []
multivalued_one (fd x y) is = absurd (true≢false is)
multivalued_one (mvd x y) is = refl

functional_one : (d : Dependency) → is_fd d ≡ true → multivalued_part (d ∷ []) ≡ []
functional_one (fd x y) is = refl
functional_one (mvd x y) is = absurd (true≢false (sym is))

pub multivalued_more : (deps : List Dep) (i : ℕ) (first : Dep) → i < length deps → is_fd (dependency_of (get_or deps i first)) ≡ false
    → multivalued_part (dependencies_of (take (i + 1) deps)) ≡ multivalued_part (dependencies_of (take i deps)) ++ dependency_of (get_or deps i first) ∷ []
multivalued_more deps i first lt is =
    multivalued_part-take deps i first lt ∙ ap (λ (ds : List Dependency). multivalued_part (dependencies_of (take i deps)) ++ ds) (multivalued_one (dependency_of (get_or deps i first)) is)

pub multivalued_no_more : (deps : List Dep) (i : ℕ) (first : Dep) → i < length deps → is_fd (dependency_of (get_or deps i first)) ≡ true
    → multivalued_part (dependencies_of (take (i + 1) deps)) ≡ multivalued_part (dependencies_of (take i deps))
multivalued_no_more deps i first lt is =
    multivalued_part-take deps i first lt ∙ ap (λ (ds : List Dependency). multivalued_part (dependencies_of (take i deps)) ++ ds) (functional_one (dependency_of (get_or deps i first)) is)
    ∙ append-nil (multivalued_part (dependencies_of (take i deps)))

-- the front stays
pub front_push : (xs ys : List Dep) (e : Dep) → take (length xs) ys ≡ xs → take (length xs) (ys ++ e ∷ []) ≡ xs
front_push xs ys e front =
    let long : length xs ≤ length ys = omega (arith, length-take (length xs) ys, ap (λ (l : List Dep). length l) front) in
    take-append-le (length xs) ys (e ∷ []) long ∙ front

-- a list whose front is a cover, thinned from there on: said of the cover and of what stands after
-- it
pub thinned_after : (n width from : ℕ) (cover others : List Dep) (ms rest : List Dependency) → width ≡ n → from ≡ length cover → take (length cover) others ≡ cover → dependencies_of (drop (length cover) others) ≡ ms
    → IsThinned width (dependencies_of (take from others)) (dependencies_of (drop from others)) rest → IsThinned n (dependencies_of cover) ms rest
thinned_after n width from cover others ms rest width_is from_is front later thinned =
    let by_n : IsThinned n (dependencies_of (take from others)) (dependencies_of (drop from others)) rest =
    subst (λ (m : ℕ). IsThinned m (dependencies_of (take from others)) (dependencies_of (drop from others)) rest) width_is thinned in
    let by_cover : IsThinned n (dependencies_of (take (length cover) others)) (dependencies_of (drop (length cover) others)) rest =
    subst (λ (k : ℕ). IsThinned n (dependencies_of (take k others)) (dependencies_of (drop k others)) rest) from_is by_n in
    subst (λ (es : List Dependency). IsThinned n (dependencies_of cover) es rest) later
    (subst (λ (es : List Dep). IsThinned n (dependencies_of es) (dependencies_of (drop (length cover) others)) rest) front by_cover)
