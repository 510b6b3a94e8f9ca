-- The loop that leaves out contained schemes: what lies within a scheme that was left out lies within one that stays.
use Rattle.std.proofs.Common.{◌≡◌, Bool, true, false, ◌||◌, not, if◌then◌else◌, List, [], ◌∷◌, ◌++◌, sym, subst, ap, ◌∙◌, ⊎_elim, refl, append_assoc}
use Rattle.std.specs.Prelude.{All, Contains}
use Rattle.std.specs.List.{list_any}
use Rattle.std.proofs.Math.Bool.{or-false}
use Rattle.std.proofs.lemmas.List.{append-nil}
use Rattle.std.proofs.lemmas.Bool.{true≢false, cases_Bool, or_cases, or_left, or_right, and_parts, and_from, not-true, not_from_false, false_from_ne_true}
use Rattle.std.proofs.lemmas.List.Elements.{All-nil, All-push, All-weaker, All-contains, Contains-append_left, Contains-push}
use Rattle.attr_sets.specs.declared.set.AttrSet.{AttrSet}
use Rattle.attr_sets.specs.Sets.{attributes}
use Rattle.attr_sets.proofs.AttributesLemmas.{attributes_below, is_subset-true, is_subset-from, same_truth}
use Rattle.plans.specs.Containing.{lies_within, lies_properly_within, is_contained, without_contained_after, without_contained}
use Rattle.plans.proofs.ListLemmas.{any_from, any_some}

-- ---- within, as a test
pub lies_within-refl : (a : AttrSet) → lies_within a a ≡ true
lies_within-refl a = is_subset-from (attributes a) (attributes a) (λ k member. member)

pub lies_within-trans : (a b c : AttrSet) → lies_within a b ≡ true → lies_within b c ≡ true → lies_within a c ≡ true
lies_within-trans a b c first second =
    is_subset-from (attributes a) (attributes c)
    (λ k member. is_subset-true (attributes b) (attributes c) (attributes_below b) second k (is_subset-true (attributes a) (attributes b) (attributes_below a) first k member))

-- the schemes so far are tried: these were kept, and each lies within one of them or properly within one
-- that is still to be tried
pub record AreTried (whole done kept later : List AttrSet) : Type 0 where
  pub answer : without_contained whole ≡ kept ++ without_contained_after done later
  pub held : All (λ (d : AttrSet). (list_any (lies_within d) kept || list_any (lies_properly_within d) later) ≡ true) done
  pub among : All (λ (k : AttrSet). Contains done k) kept

pub tried_none : (whole : List AttrSet) → AreTried whole [] [] whole
tried_none whole = record {
  answer = refl;
  held = All-nil (λ (d : AttrSet). (list_any (lies_within d) [] || list_any (lies_properly_within d) whole) ≡ true);
  among = All-nil (λ (k : AttrSet). Contains [] k);
}

-- what lies within a scheme lies where that one does
any_within : (a b : AttrSet) (xs : List AttrSet) → lies_within a b ≡ true → list_any (lies_within b) xs ≡ true → list_any (lies_within a) xs ≡ true
any_within a b xs within passes =
    let found = any_some (lies_within b) xs passes in
    any_from (lies_within a) xs found.0 found.1 (lies_within-trans a b found.0 within found.2)

properly_trans : (a b c : AttrSet) → lies_within a b ≡ true → lies_properly_within b c ≡ true → lies_properly_within a c ≡ true
properly_trans a b c within properly =
    let both = and_parts (lies_within b c) (not (lies_within c b)) properly in
    and_from (lies_within a c) (not (lies_within c a)) (lies_within-trans a b c within both.0)
    (not_from_false (lies_within c a) (false_from_ne_true (lies_within c a) (λ back. true≢false (sym (lies_within-trans c a b back within) ∙ not-true (lies_within c b) both.1))))

any_properly : (a b : AttrSet) (xs : List AttrSet) → lies_within a b ≡ true → list_any (lies_properly_within b) xs ≡ true → list_any (lies_properly_within a) xs ≡ true
any_properly a b xs within passes =
    let found = any_some (lies_properly_within b) xs passes in
    any_from (lies_properly_within a) xs found.0 found.1 (properly_trans a b found.0 within found.2)

-- kept schemes serve as all tried ones do
pub is_contained-same : (whole done kept : List AttrSet) (x : AttrSet) (later : List AttrSet) → AreTried whole done kept (x ∷ later) → is_contained kept x later ≡ is_contained done x later
is_contained-same whole done kept x later tried = same_truth (is_contained kept x later) (is_contained done x later) there back
  where
    there : is_contained kept x later ≡ true → is_contained done x later ≡ true
    there spare =
        ⊎_elim
        (λ near.
        let found = any_some (lies_within x) kept near in
        or_left (list_any (lies_within x) done) (list_any (lies_properly_within x) later)
        (any_from (lies_within x) done found.0 (All-contains (λ (k : AttrSet). Contains done k) kept found.0 tried.among found.1) found.2))
        (λ far. or_right (list_any (lies_within x) done) (list_any (lies_properly_within x) later) far)
        (or_cases (list_any (lies_within x) kept) (list_any (lies_properly_within x) later) spare)

    back : is_contained done x later ≡ true → is_contained kept x later ≡ true
    back spare =
        ⊎_elim
        (λ near. let found = any_some (lies_within x) done near in by_holder found.0 found.1 found.2)
        (λ far. or_right (list_any (lies_within x) kept) (list_any (lies_properly_within x) later) far)
        (or_cases (list_any (lies_within x) done) (list_any (lies_properly_within x) later) spare)
      where
        by_holder : (d : AttrSet) → Contains done d → lies_within x d ≡ true → is_contained kept x later ≡ true
        by_holder d has within =
            ⊎_elim
            (λ near. or_left (list_any (lies_within x) kept) (list_any (lies_properly_within x) later) (any_within x d kept within near))
            (λ far.
            ⊎_elim
            (λ here. absurd (true≢false (sym within ∙ not-true (lies_within x d) (and_parts (lies_within d x) (not (lies_within x d)) here).1)))
            (λ there. or_right (list_any (lies_within x) kept) (list_any (lies_properly_within x) later) (any_properly x d later within there))
            (or_cases (lies_properly_within d x) (list_any (lies_properly_within d) later) far))
            (or_cases (list_any (lies_within d) kept) (list_any (lies_properly_within d) (x ∷ later))
            (All-contains (λ (e : AttrSet). (list_any (lies_within e) kept || list_any (lies_properly_within e) (x ∷ later)) ≡ true) done d tried.held has))

pub tried_contained : (whole done kept : List AttrSet) (x : AttrSet) (later : List AttrSet) → AreTried whole done kept (x ∷ later) → is_contained kept x later ≡ true → AreTried whole (done ++ x ∷ []) kept later
tried_contained whole done kept x later tried spare = record {
  answer = tried.answer ∙ ap (λ (b : Bool). kept ++ (if b then without_contained_after (done ++ x ∷ []) later else (x ∷ without_contained_after (done ++ x ∷ []) later))) (sym (is_contained-same whole done kept x later tried) ∙ spare);
  held = All-push (λ (d : AttrSet). (list_any (lies_within d) kept || list_any (lies_properly_within d) later) ≡ true) done x
      (All-weaker (λ (d : AttrSet). (list_any (lies_within d) kept || list_any (lies_properly_within d) (x ∷ later)) ≡ true) (λ (d : AttrSet). (list_any (lies_within d) kept || list_any (lies_properly_within d) later) ≡ true) moved done tried.held)
      spare;
  among = All-weaker (λ (k : AttrSet). Contains done k) (λ (k : AttrSet). Contains (done ++ x ∷ []) k) (λ k has. Contains-append_left done (x ∷ []) k has) kept tried.among;
}
  where
    by_x : (d : AttrSet) → lies_within d x ≡ true → (list_any (lies_within d) kept || list_any (lies_properly_within d) later) ≡ true
    by_x d within =
        ⊎_elim
        (λ near. or_left (list_any (lies_within d) kept) (list_any (lies_properly_within d) later) (any_within d x kept within near))
        (λ far. or_right (list_any (lies_within d) kept) (list_any (lies_properly_within d) later) (any_properly d x later within far))
        (or_cases (list_any (lies_within x) kept) (list_any (lies_properly_within x) later) spare)

    moved : (d : AttrSet) → (list_any (lies_within d) kept || list_any (lies_properly_within d) (x ∷ later)) ≡ true → (list_any (lies_within d) kept || list_any (lies_properly_within d) later) ≡ true
    moved d held =
        ⊎_elim
        (λ near. or_left (list_any (lies_within d) kept) (list_any (lies_properly_within d) later) near)
        (λ far.
        ⊎_elim
        (λ here. by_x d (and_parts (lies_within d x) (not (lies_within x d)) here).0)
        (λ there. or_right (list_any (lies_within d) kept) (list_any (lies_properly_within d) later) there)
        (or_cases (lies_properly_within d x) (list_any (lies_properly_within d) later) far))
        (or_cases (list_any (lies_within d) kept) (list_any (lies_properly_within d) (x ∷ later)) held)

pub tried_kept : (whole done kept : List AttrSet) (x : AttrSet) (later : List AttrSet) → AreTried whole done kept (x ∷ later) → is_contained kept x later ≡ false → AreTried whole (done ++ x ∷ []) (kept ++ x ∷ []) later
tried_kept whole done kept x later tried stays = record {
  answer = tried.answer ∙ ap (λ (b : Bool). kept ++ (if b then without_contained_after (done ++ x ∷ []) later else (x ∷ without_contained_after (done ++ x ∷ []) later))) (sym (is_contained-same whole done kept x later tried) ∙ stays) ∙ sym (append_assoc kept (x ∷ []) (without_contained_after (done ++ x ∷ []) later));
  held = All-push (λ (d : AttrSet). (list_any (lies_within d) (kept ++ x ∷ []) || list_any (lies_properly_within d) later) ≡ true) done x
      (All-weaker (λ (d : AttrSet). (list_any (lies_within d) kept || list_any (lies_properly_within d) (x ∷ later)) ≡ true) (λ (d : AttrSet). (list_any (lies_within d) (kept ++ x ∷ []) || list_any (lies_properly_within d) later) ≡ true) moved done tried.held)
      (by_last x (lies_within-refl x));
  among = All-push (λ (k : AttrSet). Contains (done ++ x ∷ []) k) kept x
      (All-weaker (λ (k : AttrSet). Contains done k) (λ (k : AttrSet). Contains (done ++ x ∷ []) k) (λ k has. Contains-append_left done (x ∷ []) k has) kept tried.among)
      (Contains-push done x);
}
  where
    by_last : (d : AttrSet) → lies_within d x ≡ true → (list_any (lies_within d) (kept ++ x ∷ []) || list_any (lies_properly_within d) later) ≡ true
    by_last d within = or_left (list_any (lies_within d) (kept ++ x ∷ [])) (list_any (lies_properly_within d) later) (any_from (lies_within d) (kept ++ x ∷ []) x (Contains-push kept x) within)

    moved : (d : AttrSet) → (list_any (lies_within d) kept || list_any (lies_properly_within d) (x ∷ later)) ≡ true → (list_any (lies_within d) (kept ++ x ∷ []) || list_any (lies_properly_within d) later) ≡ true
    moved d held =
        ⊎_elim
        (λ near.
        let found = any_some (lies_within d) kept near in
        or_left (list_any (lies_within d) (kept ++ x ∷ [])) (list_any (lies_properly_within d) later)
        (any_from (lies_within d) (kept ++ x ∷ []) found.0 (Contains-append_left kept (x ∷ []) found.0 found.1) found.2))
        (λ far.
        ⊎_elim
        (λ here. by_last d (and_parts (lies_within d x) (not (lies_within x d)) here).0)
        (λ there. or_right (list_any (lies_within d) (kept ++ x ∷ [])) (list_any (lies_properly_within d) later) there)
        (or_cases (lies_properly_within d x) (list_any (lies_properly_within d) later) far))
        (or_cases (list_any (lies_within d) kept) (list_any (lies_properly_within d) (x ∷ later)) held)

-- in the end all schemes are tried
tried_all : (whole done kept later : List AttrSet) → whole ≡ done ++ later → AreTried whole done kept later → (rest : List AttrSet) × AreTried whole whole rest []
tried_all whole done kept [] parts tried = (kept, subst (λ (all : List AttrSet). AreTried whole all kept []) (sym (parts ∙ append-nil done)) tried)
tried_all whole done kept (x ∷ later) parts tried =
    let next = parts ∙ sym (append_assoc done (x ∷ []) later) in
    ⊎_elim
    (λ spare. tried_all whole (done ++ x ∷ []) kept later next (tried_contained whole done kept x later tried spare))
    (λ stays. tried_all whole (done ++ x ∷ []) (kept ++ x ∷ []) later next (tried_kept whole done kept x later tried stays))
    (cases_Bool (is_contained kept x later))

-- each scheme that is kept is one of the list, and each of the list lies within one that is kept
pub kept_among_held : (whole : List AttrSet)
    → All (λ (k : AttrSet). Contains whole k) (without_contained whole) × All (λ (s : AttrSet). list_any (lies_within s) (without_contained whole) ≡ true) whole
kept_among_held whole =
    let found = tried_all whole [] [] whole refl (tried_none whole) in
    let kept : found.0 ≡ without_contained whole = sym (found.1.answer ∙ append-nil found.0) in (
      subst (λ (xs : List AttrSet). All (λ (k : AttrSet). Contains whole k) xs) kept found.1.among,
      subst (λ (xs : List AttrSet). All (λ (s : AttrSet). list_any (lies_within s) xs ≡ true) whole) kept
          (All-weaker (λ (s : AttrSet). (list_any (lies_within s) found.0 || false) ≡ true) (λ (s : AttrSet). list_any (lies_within s) found.0 ≡ true) (λ s held. sym (or-false (list_any (lies_within s) found.0)) ∙ held) whole found.1.held),
    )
