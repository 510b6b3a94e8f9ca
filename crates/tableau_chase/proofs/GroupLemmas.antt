-- Leaders and their followers, one row more.
use Rattle.std.proofs.Common.{◌≡◌, ◌≢◌, ℕ, ◌+◌, ◌<◌, ◌≤◌, ◌⊎◌, List, [], ◌∷◌, ◌++◌, length, map, take, get_or, refl, sym, ap, subst, ◌∙◌, inl, inr, arith}
use Rattle.std.proofs.Math.ListN.{set}
use Rattle.std.proofs.lemmas.Bool.{cases_lt, cases_eq}
use Rattle.std.proofs.lemmas.List.{get_or-map, length-map, get_or_append_left, get_or_push, length_push, get_or-set_same, get_or-set_other, length-set, get_or_default, get_or_past}
use Rattle.std.proofs.lemmas.List.Elements.{All-push, All-take, Contains-append_left, Contains-push}
use Rattle.std.specs.Prelude.{Contains, All}
use Rattle.attr_sets.specs.Attributes.{Attributes}
use Rattle.chase_laws.specs.Tableaux.{SymbolRow, Tableau, symbol_at, SymbolsAgree, IsTableauOver}
use Rattle.tableau_chase.specs.Groups.{symbol_row_at, AreSymbolLeaders, AreFollowers}
use Rattle.tableau_chase.specs.Numbers.{IsFirstPosition}
use Rattle.tableau_chase.proofs.RowLemmas.{key_on, agree_from_keys, keys_from_agree}

pub leaders_none : (x : Attributes) → AreSymbolLeaders x [] []
leaders_none x = record { one_each = refl; first = λ i l. absurd (omega arith); agree = λ i l. absurd (omega arith); same = λ i j l. absurd (omega arith) }

module _ (x : Attributes) (done : Tableau) (leaders : List ℕ) (row : SymbolRow) (number : ℕ) (before : AreSymbolLeaders x done leaders) (low : number ≤ length done)
    (fresh : number ≡ length done → (k : ℕ) → k < length done → SymbolsAgree x (symbol_row_at done k) row → ⊥)
    (known : number < length done → SymbolsAgree x (symbol_row_at done number) row × ((j : ℕ) → j < number → SymbolsAgree x (symbol_row_at done j) row → ⊥)) where
  old_row : (i : ℕ) → i < length done → symbol_row_at (done ++ row ∷ []) i ≡ symbol_row_at done i
  old_row i l = get_or_append_left done (row ∷ []) [] i l

  new_row : (i : ℕ) → i ≡ length done → symbol_row_at (done ++ row ∷ []) i ≡ row
  new_row i e = get_or_push done row [] i (sym e)

  old_leader : (i : ℕ) → i < length done → get_or (leaders ++ number ∷ []) i 0 ≡ get_or leaders i 0
  old_leader i l = get_or_append_left leaders (number ∷ []) 0 i (omega (arith, l, before.one_each))

  new_leader : (i : ℕ) → i ≡ length done → get_or (leaders ++ number ∷ []) i 0 ≡ number
  new_leader i e = get_or_push leaders number 0 i (omega (arith, e, before.one_each))

  agree_sym : (p q : SymbolRow) → SymbolsAgree x p q → SymbolsAgree x q p
  agree_sym p q agree k m = sym (agree k m)

  agree_trans : (p q r : SymbolRow) → SymbolsAgree x p q → SymbolsAgree x q r → SymbolsAgree x p r
  agree_trans p q r one other k m = one k m ∙ other k m

  -- a row that agrees with the new one has the new one's leader
  leads_both : (i : ℕ) → i < length done → SymbolsAgree x (symbol_row_at done i) row → get_or leaders i 0 ≡ number
  leads_both i i_low agree = elim (cases_lt number (length done)) [
    | inr past ↦ absurd (fresh (omega arith) i i_low agree)
    | inl lt ↦
        let k = known lt in
        let same : get_or leaders i 0 ≡ get_or leaders number 0 = before.same i number i_low lt (agree_trans (symbol_row_at done i) row (symbol_row_at done number) agree (agree_sym (symbol_row_at done number) row k.0)) in
        let le = before.first number lt in
        elim (cases_lt (get_or leaders number 0) number) [
          | inr ge ↦ omega (arith, same, le, ge)
          | inl less ↦ absurd (k.1 (get_or leaders number 0) less
              (agree_trans (symbol_row_at done (get_or leaders number 0)) (symbol_row_at done number) row (before.agree number lt) k.0))
        ]
  ]

  bound : (i : ℕ) → i < length (done ++ row ∷ []) → (i < length done) ⊎ (i ≡ length done)
  bound i l = elim (cases_lt i (length done)) [
    | inl lt ↦ inl lt
    | inr ge ↦ inr (omega (arith, l, ge, length_push done row))
  ]

  first_of : (i : ℕ) → i < length (done ++ row ∷ []) → get_or (leaders ++ number ∷ []) i 0 ≤ i
  first_of i l = elim (bound i l) [
    | inl lt ↦ omega (arith, old_leader i lt, before.first i lt)
    | inr e ↦ omega (arith, new_leader i e, low, e)
  ]

  agree_of : (i : ℕ) → i < length (done ++ row ∷ []) → SymbolsAgree x (symbol_row_at (done ++ row ∷ []) (get_or (leaders ++ number ∷ []) i 0)) (symbol_row_at (done ++ row ∷ []) i)
  agree_of i l k m = elim (bound i l) [
    | inl lt ↦
        let led : get_or leaders i 0 < length done = omega (arith, before.first i lt, lt) in
        ap (λ (j : ℕ). symbol_at (symbol_row_at (done ++ row ∷ []) j) k) (old_leader i lt) ∙ ap (λ (r : SymbolRow). symbol_at r k) (old_row (get_or leaders i 0) led) ∙ before.agree i lt k m
        ∙ ap (λ (r : SymbolRow). symbol_at r k) (sym (old_row i lt))
    | inr e ↦
        ap (λ (j : ℕ). symbol_at (symbol_row_at (done ++ row ∷ []) j) k) (new_leader i e)
        ∙ elim (cases_lt number (length done)) [
          | inl lt ↦ ap (λ (r : SymbolRow). symbol_at r k) (old_row number lt) ∙ (known lt).0 k m
          | inr past ↦ ap (λ (r : SymbolRow). symbol_at r k) (new_row number (omega (arith, past, low)))
        ]
        ∙ ap (λ (r : SymbolRow). symbol_at r k) (sym (new_row i e))
  ]

  same_of : (i j : ℕ) → i < length (done ++ row ∷ []) → j < length (done ++ row ∷ []) → SymbolsAgree x (symbol_row_at (done ++ row ∷ []) i) (symbol_row_at (done ++ row ∷ []) j)
      → get_or (leaders ++ number ∷ []) i 0 ≡ get_or (leaders ++ number ∷ []) j 0
  same_of i j i_low j_low agree = elim (bound i i_low) [
    | inl i_lt ↦ elim (bound j j_low) [
      | inl j_lt ↦ old_leader i i_lt ∙ before.same i j i_lt j_lt (λ k m. ap (λ (r : SymbolRow). symbol_at r k) (sym (old_row i i_lt)) ∙ agree k m ∙ ap (λ (r : SymbolRow). symbol_at r k) (old_row j j_lt)) ∙ sym (old_leader j j_lt)
      | inr j_e ↦ old_leader i i_lt ∙ leads_both i i_lt (λ k m. ap (λ (r : SymbolRow). symbol_at r k) (sym (old_row i i_lt)) ∙ agree k m ∙ ap (λ (r : SymbolRow). symbol_at r k) (new_row j j_e)) ∙ sym (new_leader j j_e)
    ]
    | inr i_e ↦ elim (bound j j_low) [
      | inl j_lt ↦ new_leader i i_e ∙ sym (leads_both j j_lt (λ k m. ap (λ (r : SymbolRow). symbol_at r k) (sym (old_row j j_lt)) ∙ sym (agree k m) ∙ ap (λ (r : SymbolRow). symbol_at r k) (new_row i i_e))) ∙ sym (old_leader j j_lt)
      | inr j_e ↦ new_leader i i_e ∙ sym (new_leader j j_e)
    ]
  ]

  pub leaders_more : AreSymbolLeaders x (done ++ row ∷ []) (leaders ++ number ∷ [])
  leaders_more = record {
    one_each = omega (arith, length_push leaders number, length_push done row, before.one_each);
    first = first_of;
    agree = agree_of;
    same = same_of;
  }

-- ---- by the keys
key_of : (n : ℕ) (x : Attributes) (done : Tableau) (k : ℕ) → k < length done → get_or (map (key_on n x) done) k [] ≡ key_on n x (symbol_row_at done k)
key_of n x done k l = get_or-map (key_on n x) done k [] [] l

pub fresh_by_key : (n : ℕ) (x : Attributes) (done : Tableau) (row : SymbolRow) → (Contains (map (key_on n x) done) (key_on n x row) → ⊥) → (k : ℕ) → k < length done → SymbolsAgree x (symbol_row_at done k) row → ⊥
fresh_by_key n x done row none k low agree =
    let short : k < length (map (key_on n x) done) = omega (arith, low, length-map done (key_on n x)) in
    none (k, short, get_or_default (map (key_on n x) done) k (key_on n x row) [] short ∙ key_of n x done k low ∙ keys_from_agree n x (symbol_row_at done k) row agree)

pub known_by_key : (n : ℕ) (x : Attributes) (done : Tableau) (row : SymbolRow) (number : ℕ) → IsTableauOver n done → length row ≡ n → IsFirstPosition (map (key_on n x) done) (key_on n x row) number
    → (number < length done) × SymbolsAgree x (symbol_row_at done number) row × ((j : ℕ) → j < number → SymbolsAgree x (symbol_row_at done j) row → ⊥)
known_by_key n x done row number over len at =
    let low : number < length done = omega (arith, at.low, length-map done (key_on n x)) in (
      low,
      agree_from_keys n x (symbol_row_at done number) row (over number [] low) len (sym (key_of n x done number low) ∙ at.here),
      λ j lt agree. at.first j lt (key_of n x done j (omega (arith, lt, low)) ∙ keys_from_agree n x (symbol_row_at done j) row agree),
    )

pub take_is_over : (n i : ℕ) (rows : Tableau) → IsTableauOver n rows → IsTableauOver n (take i rows)
take_is_over n i rows over = All-take (λ (row : SymbolRow). length row ≡ n) i rows over

-- ---- followers among the first rows, as `AreFollowers` has them of all
pub record AreFollowersUpTo (leaders seconds : List ℕ) (upto : ℕ) (groups : List (List ℕ)) : Type 0 where
  pub one_each : length groups ≡ length leaders
  pub each : (g : ℕ) → All (λ j. j < length leaders) (get_or groups g [])
  pub led : (g : ℕ) → All (λ j. get_or leaders j 0 ≡ g) (get_or groups g [])
  pub all : (j : ℕ) → j < upto → get_or seconds j 0 ≡ j → Contains (get_or groups (get_or leaders j 0) []) j

get_or-empty_groups : (groups : List (List ℕ)) (g : ℕ) → All (λ group. group ≡ []) groups → get_or groups g [] ≡ []
get_or-empty_groups groups g none = elim (cases_lt g (length groups)) [
  | inl low ↦ none g [] low
  | inr past ↦ get_or_past groups g [] past
]

All-nil : (P : ℕ → Type 0) (group : List ℕ) → group ≡ [] → All P group
All-nil P group e = subst (λ (xs : List ℕ). All P xs) (sym e) (λ k d l. absurd (omega arith))

pub followers_none : (leaders seconds : List ℕ) (groups : List (List ℕ)) → length groups ≡ length leaders → All (λ group. group ≡ []) groups → AreFollowersUpTo leaders seconds 0 groups
followers_none leaders seconds groups count none = record {
  one_each = count;
  each = λ g. All-nil (λ (j : ℕ). j < length leaders) (get_or groups g []) (get_or-empty_groups groups g none);
  led = λ g. All-nil (λ (j : ℕ). get_or leaders j 0 ≡ g) (get_or groups g []) (get_or-empty_groups groups g none);
  all = λ j l. absurd (omega arith);
}

pub followers_same : (leaders seconds : List ℕ) (upto next : ℕ) (groups : List (List ℕ)) → next ≡ upto + 1 → (get_or seconds upto 0 ≡ upto → ⊥) → AreFollowersUpTo leaders seconds upto groups → AreFollowersUpTo leaders seconds next groups
followers_same leaders seconds upto next groups up not_first before = record {
  one_each = before.one_each;
  each = before.each;
  led = before.led;
  all = λ j l is. elim (cases_lt j upto) [
    | inl lt ↦ before.all j lt is
    | inr ge ↦ let here : j ≡ upto = omega arith in absurd (not_first (subst (λ (i : ℕ). get_or seconds i 0 ≡ i) here is))
  ];
}

module _ (leaders seconds : List ℕ) (upto next : ℕ) (groups : List (List ℕ)) (up : next ≡ upto + 1) (low : upto < length leaders) (led_low : get_or leaders upto 0 < length leaders)
    (group : List ℕ) (group_is : group ≡ get_or groups (get_or leaders upto 0) [] ++ upto ∷ []) (before : AreFollowersUpTo leaders seconds upto groups) where
  at_group : get_or (set groups (get_or leaders upto 0) group) (get_or leaders upto 0) [] ≡ get_or groups (get_or leaders upto 0) [] ++ upto ∷ []
  at_group = get_or-set_same groups (get_or leaders upto 0) group [] (omega (arith, led_low, before.one_each)) ∙ group_is

  other_group : (g : ℕ) → g ≢ (get_or leaders upto 0) → get_or (set groups (get_or leaders upto 0) group) g [] ≡ get_or groups g []
  other_group g ne = get_or-set_other groups (get_or leaders upto 0) g group [] ne

  all_of : (P : ℕ → ℕ → Type 0) → P (get_or leaders upto 0) upto → ((g : ℕ) → All (P g) (get_or groups g [])) → (g : ℕ) → All (P g) (get_or (set groups (get_or leaders upto 0) group) g [])
  all_of P here old g = elim (cases_eq g (get_or leaders upto 0)) [
    | inl e ↦ subst (λ (i : ℕ). All (P i) (get_or (set groups (get_or leaders upto 0) group) i [])) (sym e) (subst (λ (xs : List ℕ). All (P (get_or leaders upto 0)) xs) (sym at_group) (All-push (P (get_or leaders upto 0)) (get_or groups (get_or leaders upto 0) []) upto (old (get_or leaders upto 0)) here))
    | inr ne ↦ subst (λ (xs : List ℕ). All (P g) xs) (sym (other_group g ne)) (old g)
  ]

  pub followers_more : AreFollowersUpTo leaders seconds next (set groups (get_or leaders upto 0) group)
  followers_more = record {
    one_each = length-set groups (get_or leaders upto 0) group ∙ before.one_each;
    each = all_of (λ g j. j < length leaders) low before.each;
    led = all_of (λ g j. get_or leaders j 0 ≡ g) refl before.led;
    all = λ j l is. elim (cases_lt j upto) [
      | inr ge ↦ let here : j ≡ upto = omega arith in
          subst (λ (i : ℕ). Contains (get_or (set groups (get_or leaders upto 0) group) (get_or leaders i 0) []) i) (sym here)
          (subst (λ (xs : List ℕ). Contains xs upto) (sym at_group) (Contains-push (get_or groups (get_or leaders upto 0) []) upto))
      | inl lt ↦
          let held = before.all j lt is in
          elim (cases_eq (get_or leaders j 0) (get_or leaders upto 0)) [
            | inl e ↦ subst (λ (i : ℕ). Contains (get_or (set groups (get_or leaders upto 0) group) i []) j) (sym e)
                (subst (λ (xs : List ℕ). Contains xs j) (sym at_group) (Contains-append_left (get_or groups (get_or leaders upto 0) []) (upto ∷ []) j (subst (λ (i : ℕ). Contains (get_or groups i []) j) e held)))
            | inr ne ↦ subst (λ (xs : List ℕ). Contains xs j) (sym (other_group (get_or leaders j 0) ne)) held
          ]
    ];
  }

pub followers_all : (leaders seconds : List ℕ) (upto : ℕ) (groups : List (List ℕ)) → length leaders ≤ upto → AreFollowersUpTo leaders seconds upto groups → AreFollowers leaders seconds groups
followers_all leaders seconds upto groups all before = record { one_each = before.one_each; each = before.each; led = before.led; all = λ j l is. before.all j (omega (arith, l, all)) is }
