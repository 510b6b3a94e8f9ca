-- Rows of tableaux, symbol by symbol, and tableaux up to equal rows.
use Rattle.std.proofs.Common.{◌≡◌, ℕ, ◌<◌, ◌≤◌, zero, suc, cond, ◌⊎◌, List, [], ◌∷◌, length, get_or, refl, sym, ap, subst, ◌∙◌, inl, inr, ⊎_elim, arith}
use Rattle.std.proofs.Math.ListN.{set}
use Rattle.std.proofs.lemmas.Bool.{cases_Bool, true≢false, cases_eq, cases_lt, cond-true, cond-false, eq-eqb, ne_eqb}
use Rattle.std.proofs.lemmas.Bool.Decides.{Decides-eqb}
use Rattle.std.proofs.lemmas.List.{length-replicate, get_or-replicate, get_or_past, get_or-set_same, get_or-set_other, length-set, set_past, ext_get_or}
use Rattle.std.proofs.lemmas.List.FromFn.{length-map-range_with_len, get_or-map-range_with_len}
use Rattle.std.proofs.lemmas.Slice.Eq.{slice_eq-Decides}
use Rattle.std.specs.Prelude.{Contains, nat_eq}
use Rattle.std.specs.Cmp.Lexicographic.{pointwise}
use Rattle.attr_sets.specs.Attributes.{Attributes}
use Rattle.dep_model.proofs.ListLemmas.{Contains-nil, Contains-map, map-member, Contains-head, Contains-later}
use Rattle.chase_laws.specs.Tableaux.{SymbolRow, Tableau, SameTableau, symbol_at, distinguished_row, scheme_row}
use Rattle.chase_laws.specs.Steps.{replace_in_row, replace_symbol, exchange_rows}

-- ---- rows
-- rows of one length are the same where their symbols are
pub same_rows : (n : ℕ) (p q : SymbolRow) → length p ≡ n → length q ≡ n → ((k : ℕ) → k < n → symbol_at p k ≡ symbol_at q k) → p ≡ q
same_rows n p q lp lq same = ext_get_or 0 p q (lp ∙ sym lq) (λ (k : ℕ) l. same k (omega (arith, l, lp)))

pub symbol_at_past : (row : SymbolRow) (k : ℕ) → length row ≤ k → symbol_at row k ≡ 0
symbol_at_past row k past = get_or_past row k 0 past

pub length-distinguished_row : (n : ℕ) → length (distinguished_row n) ≡ n
unfolding distinguished_row
length-distinguished_row n = length-replicate n 0

pub symbol_at-distinguished_row : (n k : ℕ) → k < n → symbol_at (distinguished_row n) k ≡ 0
unfolding distinguished_row
symbol_at-distinguished_row n k h = get_or-replicate n k 0 0 h

pub length-scheme_row : (n : ℕ) (scheme : Attributes) (i : ℕ) → length (scheme_row n scheme i) ≡ n
unfolding scheme_row
length-scheme_row n scheme i = length-map-range_with_len (λ (k : ℕ). cond (scheme k) 0 i) 0 n

pub symbol_at-scheme_row : (n : ℕ) (scheme : Attributes) (i k : ℕ) → k < n → symbol_at (scheme_row n scheme i) k ≡ cond (scheme k) 0 i
unfolding scheme_row
symbol_at-scheme_row n scheme i k h = get_or-map-range_with_len (λ (j : ℕ). cond (scheme j) 0 i) 0 n k k 0 h (omega arith)

pub length-exchange_rows : (n : ℕ) (z : Attributes) (p q : SymbolRow) → length (exchange_rows n z p q) ≡ n
unfolding exchange_rows
length-exchange_rows n z p q = length-map-range_with_len (λ (k : ℕ). cond (z k) (symbol_at p k) (symbol_at q k)) 0 n

pub symbol_at-exchange_rows : (n : ℕ) (z : Attributes) (p q : SymbolRow) (k : ℕ) → k < n → symbol_at (exchange_rows n z p q) k ≡ cond (z k) (symbol_at p k) (symbol_at q k)
unfolding exchange_rows
symbol_at-exchange_rows n z p q k h = get_or-map-range_with_len (λ (j : ℕ). cond (z j) (symbol_at p j) (symbol_at q j)) 0 n k k 0 h (omega arith)

-- ---- a symbol replaced throughout an attribute
pub replaced_hit : (a former later : ℕ) (row : SymbolRow) → symbol_at row a ≡ former → replace_in_row a former later row ≡ set row a later
replaced_hit a former later row e = cond-true (nat_eq (symbol_at row a) former) (set row a later) row (eq-eqb (symbol_at row a) former e)

pub replaced_miss : (a former later : ℕ) (row : SymbolRow) → (symbol_at row a ≡ former → ⊥) → replace_in_row a former later row ≡ row
replaced_miss a former later row ne = cond-false (nat_eq (symbol_at row a) former) (set row a later) row (ne_eqb (symbol_at row a) former ne)

pub length-replace_in_row : (a former later : ℕ) (row : SymbolRow) → length (replace_in_row a former later row) ≡ length row
length-replace_in_row a former later row = elim (cases_eq (symbol_at row a) former) [
  | inl hit ↦ ap (λ (r : SymbolRow). length r) (replaced_hit a former later row hit) ∙ length-set row a later
  | inr miss ↦ ap (λ (r : SymbolRow). length r) (replaced_miss a former later row miss)
]

-- a function of the symbols of each attribute that does not tell the two symbols apart
set_image : {X : Type 0} (G : ℕ → ℕ → X) (a later : ℕ) (row : SymbolRow) (k : ℕ) → G a (symbol_at row a) ≡ G a later → G k (symbol_at (set row a later) k) ≡ G k (symbol_at row k)
set_image {X} G a later row k same = elim (cases_eq k a) [
  | inr other ↦ ap (λ (v : ℕ). G k v) (get_or-set_other row a k later 0 other)
  | inl here ↦ elim (cases_lt a (length row)) [
    | inr past ↦ ap (λ (r : SymbolRow). G k (symbol_at r k)) (set_past row a later past)
    | inl low ↦ subst (λ (j : ℕ). G j (symbol_at (set row a later) j) ≡ G j (symbol_at row j)) (sym here) (ap (λ (v : ℕ). G a v) (get_or-set_same row a later 0 low) ∙ sym same)
  ]
]

pub replaced_image : {X : Type 0} (G : ℕ → ℕ → X) (a former later : ℕ) (row : SymbolRow) (k : ℕ) → G a former ≡ G a later → G k (symbol_at (replace_in_row a former later row) k) ≡ G k (symbol_at row k)
replaced_image {X} G a former later row k same = elim (cases_eq (symbol_at row a) former) [
  | inr miss ↦ ap (λ (r : SymbolRow). G k (symbol_at r k)) (replaced_miss a former later row miss)
  | inl hit ↦ ap (λ (r : SymbolRow). G k (symbol_at r k)) (replaced_hit a former later row hit) ∙ set_image G a later row k (ap (λ (v : ℕ). G a v) hit ∙ same)
]

-- no symbol grows
pub replaced_le : (a former later : ℕ) (row : SymbolRow) (k : ℕ) → later ≤ former → symbol_at (replace_in_row a former later row) k ≤ symbol_at row k
replaced_le a former later row k le = elim (cases_eq (symbol_at row a) former) [
  | inr miss ↦ subst (λ (r : SymbolRow). symbol_at r k ≤ symbol_at row k) (sym (replaced_miss a former later row miss)) (omega arith)
  | inl hit ↦ subst (λ (r : SymbolRow). symbol_at r k ≤ symbol_at row k) (sym (replaced_hit a former later row hit)) (elim (cases_eq k a) [
    | inr other ↦ let e : symbol_at (set row a later) k ≡ symbol_at row k = get_or-set_other row a k later 0 other in omega (arith, e)
    | inl here ↦ elim (cases_lt a (length row)) [
      | inr past ↦ let e : symbol_at (set row a later) k ≡ symbol_at row k = ap (λ (r : SymbolRow). symbol_at r k) (set_past row a later past) in omega (arith, e)
      | inl low ↦
          let e : symbol_at (set row a later) k ≡ later = ap (λ (j : ℕ). symbol_at (set row a later) j) here ∙ get_or-set_same row a later 0 low in
          let f : symbol_at row k ≡ former = ap (λ (j : ℕ). symbol_at row j) here ∙ hit in
          omega (arith, e, f, le)
    ]
  ])
]

-- the symbol after
abbrev pub symbol_after : ℕ → ℕ → ℕ → ℕ → ℕ → ℕ
symbol_after a former later k v = cond (nat_eq k a) (cond (nat_eq v former) later v) v

pub symbol_after-hit : (a former later k v : ℕ) → k ≡ a → v ≡ former → symbol_after a former later k v ≡ later
symbol_after-hit a former later k v ka vf = cond-true (nat_eq k a) (cond (nat_eq v former) later v) v (eq-eqb k a ka) ∙ cond-true (nat_eq v former) later v (eq-eqb v former vf)

pub symbol_after-miss : (a former later k v : ℕ) → (v ≡ former → ⊥) → symbol_after a former later k v ≡ v
symbol_after-miss a former later k v ne = elim (cases_eq k a) [
  | inl ka ↦ cond-true (nat_eq k a) (cond (nat_eq v former) later v) v (eq-eqb k a ka) ∙ cond-false (nat_eq v former) later v (ne_eqb v former ne)
  | inr other ↦ cond-false (nat_eq k a) (cond (nat_eq v former) later v) v (ne_eqb k a other)
]

pub symbol_after-other : (a former later k v : ℕ) → (k ≡ a → ⊥) → symbol_after a former later k v ≡ v
symbol_after-other a former later k v other = cond-false (nat_eq k a) (cond (nat_eq v former) later v) v (ne_eqb k a other)

pub symbol_at-replace_in_row : (a former later : ℕ) (row : SymbolRow) (k : ℕ) → a < length row → symbol_at (replace_in_row a former later row) k ≡ symbol_after a former later k (symbol_at row k)
symbol_at-replace_in_row a former later row k low = elim (cases_eq (symbol_at row a) former) [
  | inr miss ↦ ap (λ (r : SymbolRow). symbol_at r k) (replaced_miss a former later row miss) ∙ elim (cases_eq k a) [
    | inl here ↦ sym (symbol_after-miss a former later k (symbol_at row k) (λ (e : symbol_at row k ≡ former). miss (ap (λ (j : ℕ). symbol_at row j) (sym here) ∙ e)))
    | inr other ↦ sym (symbol_after-other a former later k (symbol_at row k) other)
  ]
  | inl hit ↦ ap (λ (r : SymbolRow). symbol_at r k) (replaced_hit a former later row hit) ∙ elim (cases_eq k a) [
    | inl here ↦
        ap (λ (j : ℕ). symbol_at (set row a later) j) here ∙ get_or-set_same row a later 0 low
        ∙ sym (symbol_after-hit a former later k (symbol_at row k) here (ap (λ (j : ℕ). symbol_at row j) here ∙ hit))
    | inr other ↦ get_or-set_other row a k later 0 other ∙ sym (symbol_after-other a former later k (symbol_at row k) other)
  ]
]

-- ---- members
cons_cases_at : {X : Type 0} (x : X) (xs : List X) (y : X) (k : ℕ) → k < length (x ∷ xs) → get_or (x ∷ xs) k y ≡ y → (x ≡ y) ⊎ Contains xs y
cons_cases_at x xs y zero l e = inl e
cons_cases_at x xs y (suc k) l e = let low : k < length xs = omega arith in inr (k, low, e)

pub cons_cases : {X : Type 0} (x : X) (xs : List X) (y : X) → Contains (x ∷ xs) y → (x ≡ y) ⊎ Contains xs y
cons_cases x xs y h = cons_cases_at x xs y h.0 h.1 h.2

-- whether two rows are equal, and whether a tableau has a row
pub rows_tell : (p q : SymbolRow) → (p ≡ q) ⊎ (p ≡ q → ⊥)
rows_tell p q =
    let d = slice_eq-Decides Decides-eqb p q (pointwise nat_eq p q) refl in
    elim (cases_Bool (pointwise nat_eq p q)) [
      | inl equal ↦ inl (d.0 equal)
      | inr differ ↦ inr (λ (e : p ≡ q). true≢false (sym (d.1 e) ∙ differ))
    ]

pub tell_row : (t : Tableau) (row : SymbolRow) → Contains t row ⊎ (Contains t row → ⊥)
tell_row [] row = inr (λ h. Contains-nil row h)
tell_row (p ∷ t) row = elim (rows_tell p row) [
  | inl equal ↦ inl (subst (λ (r : SymbolRow). Contains (p ∷ t) r) equal (Contains-head p t))
  | inr differ ↦ elim (tell_row t row) [
    | inl inside ↦ inl (Contains-later p t row inside)
    | inr out ↦ inr (λ h. ⊎_elim differ out (cons_cases p t row h))
  ]
]

-- ---- tableaux up to equal rows
pub Same-refl : (t : Tableau) → SameTableau t t
Same-refl t row = ((λ h. h), (λ h. h))

pub Same-sym : (t s : Tableau) → SameTableau t s → SameTableau s t
Same-sym t s same row = ((same row).1, (same row).0)

pub Same-trans : (t s u : Tableau) → SameTableau t s → SameTableau s u → SameTableau t u
Same-trans t s u ts su row = ((λ h. (su row).0 ((ts row).0 h)), (λ h. (ts row).1 ((su row).1 h)))

replaced_kept : (a former later : ℕ) (t s : Tableau) → SameTableau t s → (row : SymbolRow) → Contains (replace_symbol a former later t) row → Contains (replace_symbol a former later s) row
replaced_kept a former later t s same row h =
    let w = map-member (replace_in_row a former later) t row h in
    subst (λ (r : SymbolRow). Contains (replace_symbol a former later s) r) w.2 (Contains-map (replace_in_row a former later) s w.0 ((same w.0).0 w.1))

pub Same-replace_symbol : (a former later : ℕ) (t s : Tableau) → SameTableau t s → SameTableau (replace_symbol a former later t) (replace_symbol a former later s)
Same-replace_symbol a former later t s same row = (replaced_kept a former later t s same row, replaced_kept a former later s t (Same-sym t s same) row)

cons_kept : (p : SymbolRow) (t s : Tableau) → SameTableau t s → (row : SymbolRow) → Contains (p ∷ t) row → Contains (p ∷ s) row
cons_kept p t s same row h = ⊎_elim
    (λ (e : p ≡ row). subst (λ (r : SymbolRow). Contains (p ∷ s) r) e (Contains-head p s))
    (λ inside. Contains-later p s row ((same row).0 inside))
    (cons_cases p t row h)

pub Same-cons : (p : SymbolRow) (t s : Tableau) → SameTableau t s → SameTableau (p ∷ t) (p ∷ s)
Same-cons p t s same row = (cons_kept p t s same row, cons_kept p s t (Same-sym t s same) row)
