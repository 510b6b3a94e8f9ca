-- Rows that are made symbol by symbol, and the keys by which rows are distinguished.
use Rattle.std.proofs.Common.{◌≡◌, ℕ, ◌+◌, ◌<◌, zero, suc, true, cond, List, [], ◌∷◌, ◌++◌, length, map, get_or, refl, sym, ap, subst, ◌∙◌, inl, inr, arith}
use Rattle.std.proofs.lemmas.Bool.{cases_Bool, cases_lt}
use Rattle.std.proofs.lemmas.List.{get_or-map, map-append, get_or_append_left, get_or_push, length_push}
use Rattle.std.proofs.lemmas.List.FromFn.{map-range_with_len_more}
use Rattle.attr_sets.specs.Attributes.{Attributes, count_below}
use Rattle.attr_sets.proofs.AttributesLemmas.{count_below-before_member}
use Rattle.dep_model.specs.Projections.{members_below}
use Rattle.dep_model.proofs.SchemeLemmas.{members_below-at, length-members_below, members_below-none, members_below-one_more, members_below-no_more}
use Rattle.chase_laws.specs.Tableaux.{SymbolRow, symbol_at, SymbolsAgree, scheme_row}
use Rattle.chase_laws.specs.Steps.{exchange_rows}
use Rattle.chase_laws.proofs.TableauLemmas.{symbol_at_past}

pub scheme_row-none : (x : Attributes) (i : ℕ) → scheme_row 0 x i ≡ []
unfolding scheme_row
scheme_row-none x i = refl

pub scheme_row-more : (n : ℕ) (x : Attributes) (i : ℕ) → scheme_row (n + 1) x i ≡ scheme_row n x i ++ cond (x n) 0 i ∷ []
unfolding scheme_row
scheme_row-more n x i = map-range_with_len_more (λ (k : ℕ). cond (x k) 0 i) 0 n n (omega arith)

pub exchange_rows-none : (z : Attributes) (p q : SymbolRow) → exchange_rows 0 z p q ≡ []
unfolding exchange_rows
exchange_rows-none z p q = refl

pub exchange_rows-more : (n : ℕ) (z : Attributes) (p q : SymbolRow) → exchange_rows (n + 1) z p q ≡ exchange_rows n z p q ++ cond (z n) (symbol_at p n) (symbol_at q n) ∷ []
unfolding exchange_rows
exchange_rows-more n z p q = map-range_with_len_more (λ (k : ℕ). cond (z k) (symbol_at p k) (symbol_at q k)) 0 n n (omega arith)

-- ---- the members of a set, one attribute more

pub members-low : (n : ℕ) (x : Attributes) (k : ℕ) → k < length (members_below n x) → get_or (members_below n x) k 0 < n
unfolding members_below
members-low zero x k l = absurd (omega arith)
members-low (suc n) x k l = elim (cases_Bool (x n)) [
  | inr out ↦
      let same : members_below (suc n) x ≡ members_below n x = members_below-no_more n (suc n) x (omega arith) out in
      let low : k < length (members_below n x) = subst (λ (ms : List ℕ). k < length ms) same l in
      subst (λ (ms : List ℕ). get_or ms k 0 < suc n) (sym same) (let e = members-low n x k low in omega (arith, e))
  | inl m ↦
      let same : members_below (suc n) x ≡ members_below n x ++ n ∷ [] = members_below-one_more n (suc n) x (omega arith) m in
      let bound : k < length (members_below n x ++ n ∷ []) = subst (λ (ms : List ℕ). k < length ms) same l in
      subst (λ (ms : List ℕ). get_or ms k 0 < suc n) (sym same) (elim (cases_lt k (length (members_below n x))) [
        | inl before ↦ let e = members-low n x k before in omega (arith, e, get_or_append_left (members_below n x) (n ∷ []) 0 k before)
        | inr past ↦ omega (arith, get_or_push (members_below n x) n 0 k (omega (arith, bound, past, length_push (members_below n x) n)))
      ])
]

-- ---- keys
-- the symbols of a row at the members of a set
abbrev pub key_on : ℕ → Attributes → SymbolRow → List ℕ
key_on n x row = map (symbol_at row) (members_below n x)

key_at : (n : ℕ) (x : Attributes) (row : SymbolRow) (k : ℕ) → k < n → x k ≡ true → get_or (key_on n x row) (count_below x k) 0 ≡ symbol_at row k
key_at n x row k low m =
    let short : count_below x k < length (members_below n x) = omega (arith, length-members_below n x, count_below-before_member n k x low m) in
    get_or-map (symbol_at row) (members_below n x) (count_below x k) 0 0 short ∙ ap (symbol_at row) (members_below-at n x k 0 low m)

pub agree_from_keys : (n : ℕ) (x : Attributes) (p q : SymbolRow) → length p ≡ n → length q ≡ n → key_on n x p ≡ key_on n x q → SymbolsAgree x p q
agree_from_keys n x p q lp lq same k m = elim (cases_lt k n) [
  | inl low ↦ sym (key_at n x p k low m) ∙ ap (λ (key : List ℕ). get_or key (count_below x k) 0) same ∙ key_at n x q k low m
  | inr past ↦ symbol_at_past p k (omega (arith, lp, past)) ∙ sym (symbol_at_past q k (omega (arith, lq, past)))
]

pub keys_from_agree : (n : ℕ) (x : Attributes) (p q : SymbolRow) → SymbolsAgree x p q → key_on n x p ≡ key_on n x q
keys_from_agree zero x p q agree = rw (members_below-none x) refl
keys_from_agree (suc n) x p q agree =
    let before = keys_from_agree n x p q agree in
    elim (cases_Bool (x n)) [
      | inr out ↦ rw (members_below-no_more n (suc n) x (omega arith) out) before
      | inl m ↦ rw (members_below-one_more n (suc n) x (omega arith) m)
          (map-append (symbol_at p) (members_below n x) (n ∷ []) ∙ ap (λ (vs : List ℕ). vs ++ symbol_at p n ∷ []) before ∙ ap (λ (v : ℕ). key_on n x q ++ v ∷ []) (agree n m) ∙ sym (map-append (symbol_at q) (members_below n x) (n ∷ [])))
    ]

-- what stands in the list of members is a member
pub members-member : (n : ℕ) (x : Attributes) (k : ℕ) → k < length (members_below n x) → x (get_or (members_below n x) k 0) ≡ true
unfolding members_below
members-member zero x k l = absurd (omega arith)
members-member (suc n) x k l = elim (cases_Bool (x n)) [
  | inr out ↦
      let same : members_below (suc n) x ≡ members_below n x = members_below-no_more n (suc n) x (omega arith) out in
      let low : k < length (members_below n x) = subst (λ (ms : List ℕ). k < length ms) same l in
      subst (λ (ms : List ℕ). x (get_or ms k 0) ≡ true) (sym same) (members-member n x k low)
  | inl m ↦
      let same : members_below (suc n) x ≡ members_below n x ++ n ∷ [] = members_below-one_more n (suc n) x (omega arith) m in
      let bound : k < length (members_below n x ++ n ∷ []) = subst (λ (ms : List ℕ). k < length ms) same l in
      subst (λ (ms : List ℕ). x (get_or ms k 0) ≡ true) (sym same) (elim (cases_lt k (length (members_below n x))) [
        | inl before ↦ ap x (get_or_append_left (members_below n x) (n ∷ []) 0 k before) ∙ members-member n x k before
        | inr past ↦ ap x (get_or_push (members_below n x) n 0 k (omega (arith, bound, past, length_push (members_below n x) n))) ∙ m
      ])
]
