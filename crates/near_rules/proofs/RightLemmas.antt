-- One right side of a set is tried: it is counted, and added where it is near.
use Rattle.std.proofs.Common.{inl, inr, ◌≡◌, ◌≢◌, ◌<◌, ◌≤◌, ◌+◌, ℕ, List, [], ◌∷◌, ◌++◌, length, get_or, set, refl, sym, ap, subst, ◌∙◌, arith}
use Rattle.std.specs.Prelude.{All, AllPairs, Contains}
use Rattle.std.proofs.lemmas.Bool.{cases_lt, cases_eq, true≢false}
use Rattle.std.proofs.lemmas.Bool.Decides.{nat_tests}
use Rattle.std.proofs.lemmas.Grind.{get_or-set_at}
use Rattle.std.proofs.lemmas.List.{get_or-set_other, length-set}
use Rattle.std.proofs.lemmas.List.Elements.{All-cons, All-push, All-weaker}
use Rattle.std.proofs.lemmas.List.Kept.{AllPairs-cons}
use Rattle.std.proofs.lemmas.List.Quantifiers.{all_pairs_push}
use Rattle.attr_sets.specs.Attributes.{Attributes, only}
use Rattle.attr_sets.proofs.AttributesLemmas.{same_at}
use Rattle.row_groups.specs.Numberings.{number_at}
use Rattle.dep_model.specs.Tuples.{Relation}
use Rattle.dep_model.specs.Dependencies.{Dependency, fd}
use Rattle.dep_model.specs.Deps.{dependencies_of}
use Rattle.dep_model.proofs.ListLemmas.{Contains-head, Contains-later}
use Rattle.fd_discovery.specs.Minimal.{Precedes}
use Rattle.fd_discovery.specs.Searching.{IsListedFrom, IsTried}
use Rattle.fd_discovery.proofs.GivenLemmas.{given_now, given_still}
use Rattle.attr_sets.proofs.UpToLemmas.{only_before}
use Rattle.removal_laws.specs.Errors.{IsError}
use Rattle.removal_laws.proofs.ErrorLemmas.{same_error}
use Rattle.near_rules.specs.NearRules.{AreErrors, ExceedsTried, MustBeTried}
use Rattle.near_rules.specs.Searching.{AreNearFoundBefore, AreTriedFor, IsNearFoundBefore, IsSoughtNear}
use Rattle.near_rules.specs.declared.found.Found.{Found}
use Rattle.near_rules.specs.declared.found.Sought.{Sought}
use Rattle.near_rules.specs.declared.found.TheConstants.{MOST_TRIED}

pub errors_push : (n : ℕ) (r : Relation) (ds : List Dependency) (es : List ℕ) (d : Dependency) (e : ℕ) → AreErrors n r ds es
    → IsError n r d e → AreErrors n r (ds ++ d ∷ []) (es ++ e ∷ [])
errors_push n r [] [] d e are is = (is, are)
errors_push n r [] (f ∷ es) d e are is = absurd are
errors_push n r (c ∷ ds) [] d e are is = absurd are
errors_push n r (c ∷ ds) (f ∷ es) d e are is = (are.0, errors_push n r ds es d e are.1 is)

-- there is one list of errors
pub same_errors : (n : ℕ) (r : Relation) (ds : List Dependency) (one other : List ℕ) → AreErrors n r ds one → AreErrors n r ds other
    → one ≡ other
same_errors n r [] [] [] first second = refl
same_errors n r [] [] (e ∷ es) first second = absurd second
same_errors n r [] (e ∷ es) other first second = absurd first
same_errors n r (d ∷ ds) [] other first second = absurd first
same_errors n r (d ∷ ds) (e ∷ es) [] first second = absurd second
same_errors n r (d ∷ ds) (e ∷ es) (f ∷ fs) first second =
    ap (λ (g : ℕ). g ∷ es) (same_error n r d e f first.0 second.0) ∙ ap (λ (l : List ℕ). f ∷ l) (same_errors n r ds es fs first.1 second.1)

-- there are as many as dependencies
pub errors_even : (n : ℕ) (r : Relation) (ds : List Dependency) (es : List ℕ) → AreErrors n r ds es → length es ≡ length ds
errors_even n r [] [] are = refl
errors_even n r [] (e ∷ es) are = absurd are
errors_even n r (d ∷ ds) [] are = absurd are
errors_even n r (d ∷ ds) (e ∷ es) are = omega (arith, errors_even n r ds es are.1)

module _ (s : Sought) (r : Relation) (y : Attributes) (a : ℕ) where
  abbrev Must : Attributes → ℕ → Type 0
  Must x b = MustBeTried s.width s.most s.limit r x b

  more : (x : Attributes) (b : ℕ) → IsTried y a x b → IsTried y (a + 1) x b
  more x b tried = elim tried [
    | inl before ↦ inl before
    | inr same ↦ inr (same.0, omega (arith, same.1))
  ]

  -- ---- how many sets were tried
  -- none of them is the set itself
  apart : (x : Attributes) → IsTried y a x a → y ≢ x
  apart x tried is = elim tried [
    | inl before ↦ true≢false (sym before.2 ∙ same_at is before.0 ∙ before.1)
    | inr same ↦ omega (arith, same.1)
  ]

  counted_with : (sets : List Attributes) → All (λ x. Must x a × IsTried y a x a) sets → AllPairs (λ x z. x ≢ z) sets
      → AllPairs (λ x z. x ≢ z) (y ∷ sets)
  counted_with sets each differ = AllPairs-cons (λ (x z : Attributes). x ≢ z) y sets
      (All-weaker (λ x. Must x a × IsTried y a x a) (λ x. y ≢ x) (λ x h. apart x h.1) sets each) differ

  counted : (m : ℕ) → AreTriedFor s r y a a m → Must y a → AreTriedFor s r y (a + 1) a (m + 1)
  counted m are must = record {
    sets = y ∷ are.sets;
    each = All-cons (λ x. Must x a × IsTried y (a + 1) x a) y are.sets (must, inr (refl, omega arith))
        (All-weaker (λ x. Must x a × IsTried y a x a) (λ x. Must x a × IsTried y (a + 1) x a)
        (λ x h. (h.0, more x a h.1)) are.sets are.each);
    all = λ x has tried. elim tried [
      | inl before ↦ Contains-later y are.sets x (are.all x has (inl before))
      | inr same ↦ subst (λ (v : Attributes). Contains (y ∷ are.sets) v) (sym same.0) (Contains-head y are.sets)
    ];
    differ = counted_with are.sets are.each are.differ;
    size = omega (arith, are.size);
  }

  counted_before : (b m : ℕ) → b ≢ a → AreTriedFor s r y a b m → AreTriedFor s r y (a + 1) b m
  counted_before b m other are = record {
    sets = are.sets;
    each = All-weaker (λ x. Must x b × IsTried y a x b) (λ x. Must x b × IsTried y (a + 1) x b)
        (λ x h. (h.0, more x b h.1)) are.sets are.each;
    all = λ x has tried. elim tried [
      | inl before ↦ are.all x has (inl before)
      | inr same ↦ are.all x has (inr (same.0, omega (arith, same.1, other)))
    ];
    differ = are.differ;
    size = are.size;
  }

  -- they are too many
  pub exceeds : (found : Found) → AreNearFoundBefore s r y a found → a < s.rights → Must y a → MOST_TRIED ≤ number_at found.tried.items a
      → ExceedsTried s.width s.most s.limit r a
  exceeds found old a_in must many =
      let are = old.tried a a_in in
      record {
        sets = y ∷ are.sets;
        each = All-cons (λ x. Must x a) y are.sets must
            (All-weaker (λ x. Must x a × IsTried y a x a) (λ x. Must x a) (λ x h. h.0) are.sets are.each);
        differ = counted_with are.sets are.each are.differ;
        more = omega (arith, are.size, many);
      }

  -- ---- the next state
  module _ (old new : Found) (found : AreNearFoundBefore s r y a old) (a_in : a < s.rights) (must : Must y a)
      (few : number_at old.tried.items a < MOST_TRIED)
      (tried_is : new.tried.items ≡ set old.tried.items a (number_at old.tried.items a + 1)) where
    abbrev ds : List Dependency
    ds = dependencies_of old.deps.items

    a_low : a < length old.tried.items
    a_low = omega (arith, a_in, found.one_each)

    here : number_at new.tried.items a ≡ number_at old.tried.items a + 1
    here = ap (λ (l : List ℕ). number_at l a) tried_is
        ∙ get_or-set_at old.tried.items a a (number_at old.tried.items a + 1) 0 refl a_low

    there : (b : ℕ) → b ≢ a → number_at new.tried.items b ≡ number_at old.tried.items b
    there b other = ap (λ (l : List ℕ). number_at l b) tried_is
        ∙ get_or-set_other old.tried.items a b (number_at old.tried.items a + 1) 0 other

    new_one_each : length new.tried.items ≡ s.rights
    new_one_each = ap length tried_is ∙ length-set old.tried.items a (number_at old.tried.items a + 1) ∙ found.one_each

    new_within : (b : ℕ) → b < s.rights → number_at new.tried.items b ≤ MOST_TRIED
    new_within b b_in = elim (cases_eq b a) [
      | inl same ↦ omega (arith, ap (number_at new.tried.items) same, here, few)
      | inr other ↦ omega (arith, there b other, found.within_limit b b_in)
    ]

    new_tried : (b : ℕ) → b < s.rights → AreTriedFor s r y (a + 1) b (number_at new.tried.items b)
    new_tried b b_in = elim (cases_eq b a) [
      | inl same ↦ subst (λ (c : ℕ). AreTriedFor s r y (a + 1) c (number_at new.tried.items c)) (sym same)
          (subst (AreTriedFor s r y (a + 1) a) (sym here) (counted (number_at old.tried.items a) (found.tried a a_in) must))
      | inr other ↦ subst (AreTriedFor s r y (a + 1) b) (sym (there b other))
          (counted_before b (number_at old.tried.items b) other (found.tried b b_in))
    ]

    -- what is not near is not added
    pub not_near : dependencies_of new.deps.items ≡ ds → new.errors.items ≡ old.errors.items
        → (IsSoughtNear s r y a → ⊥) → AreNearFoundBefore s r y (a + 1) new
    not_near deps_is errors_is far = record {
      each = subst (All (IsNearFoundBefore s r y (a + 1))) (sym deps_is)
          (All-weaker (IsNearFoundBefore s r y a) (IsNearFoundBefore s r y (a + 1)) (λ d h. (h.0, h.1, h.2, h.3, more h.0 h.1 h.4)) ds found.each);
      ascending = subst (AllPairs Precedes) (sym deps_is) found.ascending;
      given = λ x b x_in x_few b_in lacks tried near. subst (λ (es : List Dependency). IsListedFrom es x b) (sym deps_is)
          (elim tried [
            | inl before ↦ found.given x b x_in x_few b_in lacks (inl before) near
            | inr same ↦ elim (cases_lt b a) [
              | inl less ↦ found.given x b x_in x_few b_in lacks (inr (same.0, less)) near
              | inr last ↦
                  let at : b ≡ a = omega (arith, same.1, last) in
                  absurd (far (subst (IsSoughtNear s r y) at (subst (λ (v : Attributes). IsSoughtNear s r v b) same.0 near)))
            ]
          ]);
      errors = subst (λ (es : List Dependency). AreErrors s.width r es new.errors.items) (sym deps_is)
          (subst (AreErrors s.width r ds) (sym errors_is) found.errors);
      one_each = new_one_each;
      within_limit = new_within;
      tried = new_tried;
    }

    precedes_new : (d : Dependency) → IsNearFoundBefore s r y a d → Precedes d (fd y (only a))
    precedes_new d (x, b, is, minimal, tried) =
        subst (λ (e : Dependency). Precedes e (fd y (only a))) (sym is) (elim tried [
          | inl before ↦ inl before
          | inr same ↦ inr (same.0, only_before b a same.1)
        ])

    -- what is near is added
    pub near_added : (e : ℕ) → s.rights ≤ s.width → IsError s.width r (fd y (only a)) e → e ≤ s.limit
        → dependencies_of new.deps.items ≡ ds ++ fd y (only a) ∷ [] → new.errors.items ≡ old.errors.items ++ e ∷ []
        → AreNearFoundBefore s r y (a + 1) new
    near_added e rights error small deps_is errors_is = record {
      each = subst (All (IsNearFoundBefore s r y (a + 1))) (sym deps_is)
          (All-push (IsNearFoundBefore s r y (a + 1)) ds (fd y (only a))
          (All-weaker (IsNearFoundBefore s r y a) (IsNearFoundBefore s r y (a + 1)) (λ d h. (h.0, h.1, h.2, h.3, more h.0 h.1 h.4)) ds found.each)
          (y, a, refl, record { right = omega (arith, a_in, rights); tried = must; near = (e, error, small) }, inr (refl, omega arith)));
      ascending = subst (AllPairs Precedes) (sym deps_is) (all_pairs_push Precedes ds (fd y (only a)) found.ascending
          (λ k d l. precedes_new (get_or ds k d) (found.each k d l)));
      given = λ x b x_in x_few b_in lacks tried near. subst (λ (es : List Dependency). IsListedFrom es x b) (sym deps_is)
          (elim tried [
            | inl before ↦ given_still ds (fd y (only a)) x b (found.given x b x_in x_few b_in lacks (inl before) near)
            | inr same ↦ elim (cases_lt b a) [
              | inl less ↦ given_still ds (fd y (only a)) x b (found.given x b x_in x_few b_in lacks (inr (same.0, less)) near)
              | inr last ↦
                  let at : b ≡ a = omega (arith, same.1, last) in
                  given_now ds (fd y (only a)) x b (λ k m. same_at same.0 k ∙ m) (grind (arith, nat_tests, at))
            ]
          ]);
      errors = subst (λ (es : List Dependency). AreErrors s.width r es new.errors.items) (sym deps_is)
          (subst (AreErrors s.width r (ds ++ fd y (only a) ∷ [])) (sym errors_is)
          (errors_push s.width r ds old.errors.items (fd y (only a)) e found.errors error));
      one_each = new_one_each;
      within_limit = new_within;
      tried = new_tried;
    }
