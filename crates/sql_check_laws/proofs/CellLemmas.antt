-- The test of equal cells, and members of sets of attributes.
use Rattle.std.proofs.Common.{◌≡◌, ◌<◌, ℕ, ◌⊎◌, zero, suc, true, false, List, [], ◌∷◌, ◌++◌, length, refl, sym, ap, subst, ◌∙◌, inl, inr, ⊎_elim, arith}
use Rattle.std.proofs.lemmas.Bool.{cases_Bool, cases_lt, true≢false}
use Rattle.std.proofs.lemmas.Bool.Decides.{Decides-int_eq, Decides-like}
use Rattle.std.proofs.lemmas.List.{get_or_past}
use Rattle.std.specs.Bool.{Decides}
use Rattle.std.specs.Cmp.Lexicographic.{pointwise_decides}
use Rattle.std.specs.Ordering.{int_eq}
use Rattle.std.specs.Prelude.{ℤ, pos, Contains}
use Rattle.std.specs.Str.{bytes_eq, str_to_ascii_lowercase}
use Rattle.attr_sets.specs.Attributes.{Attributes, count_below}
use Rattle.schema_model.specs.Schemas.{Schema}
use Rattle.schema_model.specs.Names.{same_name}
use Rattle.dep_model.specs.Projections.{members_below}
use Rattle.schema_model.specs.Schemas.{width_of}
use Rattle.dep_model.proofs.ListLemmas.{Contains-head, Contains-later, Contains-cases}
use Rattle.dep_model.proofs.SchemeLemmas.{members_below-none, members_below-member, members_below-outside, members_below-at}
use Rattle.sql_check_laws.proofs.CountLemmas.{DecidesSame}
use Rattle.sql_check.specs.Columns.{name_at}
use Rattle.sql_evaluation.specs.Cells.{Cell, missing, text, number, same_cell, same_row}
use Rattle.sql_check_laws.proofs.ColumnLemmas.{bytes_same, bytes_self, NamesApart}

-- ---- cells
kind_of : Cell → ℕ
kind_of missing = 0
kind_of (text t) = 1
kind_of (number n) = 2

bytes_in : Cell → List ℕ
bytes_in (text t) = t
bytes_in c = []

integer_in : Cell → ℤ
integer_in (number n) = n
integer_in c = pos 0

apart_kinds : (a b : Cell) → (kind_of a ≡ kind_of b → ⊥) → Decides false (a ≡ b)
apart_kinds a b differ = (λ e. absurd (true≢false (sym e)), λ same. absurd (differ (ap kind_of same)))

pub same_cell-decides : DecidesSame same_cell
unfolding kind_of bytes_in integer_in
same_cell-decides missing missing = (λ e. refl, λ e. refl)
same_cell-decides (text a) (text b) = Decides-like (bytes_eq a b) (λ (e : a ≡ b). ap text e) (λ e. ap bytes_in e) (bytes_same a b)
same_cell-decides (number m) (number n) = Decides-like (int_eq m n) (λ (e : m ≡ n). ap number e) (λ e. ap integer_in e) (Decides-int_eq m n)
same_cell-decides missing (text b) = apart_kinds missing (text b) (λ e. omega (arith, e))
same_cell-decides missing (number n) = apart_kinds missing (number n) (λ e. omega (arith, e))
same_cell-decides (text a) missing = apart_kinds (text a) missing (λ e. omega (arith, e))
same_cell-decides (text a) (number n) = apart_kinds (text a) (number n) (λ e. omega (arith, e))
same_cell-decides (number m) missing = apart_kinds (number m) missing (λ e. omega (arith, e))
same_cell-decides (number m) (text b) = apart_kinds (number m) (text b) (λ e. omega (arith, e))

pub same_row-decides : DecidesSame same_row
same_row-decides = pointwise_decides same_cell-decides

-- ---- members
push-member : {X : Type 0} (xs : List X) (y x : X) → Contains (xs ++ y ∷ []) x → Contains xs x ⊎ (x ≡ y)
push-member [] y x h = ⊎_elim (λ first. inr first) (λ later. inl later) (Contains-cases y [] x h)
push-member (z ∷ xs) y x h = ⊎_elim
    (λ (first : x ≡ z). inl (subst (λ (w : _). Contains (w ∷ xs) x) first (Contains-head x xs)))
    (λ later. ⊎_elim (λ front. inl (Contains-later z xs x front)) (λ last. inr last) (push-member xs y x later))
    (Contains-cases z (xs ++ y ∷ []) x h)

pub member_of : (n : ℕ) (x : Attributes) (k : ℕ) → Contains (members_below n x) k → (k < n) × (x k ≡ true)
member_of zero x k h = absurd (let h' = subst (λ (ms : List ℕ). Contains ms k) (members_below-none x) h in omega (arith, h'.1))
member_of (suc n) x k h = elim (cases_Bool (x n)) [
  | inl inside ↦ ⊎_elim
      (λ before. let m = member_of n x k before in (omega (arith, m.0), m.1))
      (λ (last : k ≡ n). (omega (arith, last), ap x last ∙ inside))
      (push-member (members_below n x) n k (subst (λ (ms : List ℕ). Contains ms k) (members_below-member n x inside) h))
  | inr outside ↦ let m = member_of n x k (subst (λ (ms : List ℕ). Contains ms k) (members_below-outside n x outside) h) in (omega (arith, m.0), m.1)
]

pub place_low : (n : ℕ) (x : Attributes) (k : ℕ) → k < n → x k ≡ true → count_below x k < length (members_below n x)
place_low n x k low inside = elim (cases_lt (count_below x k) (length (members_below n x))) [
  | inl there ↦ there
  | inr past ↦
      let at = members_below-at n x k (suc k) low inside in
      let out = get_or_past (members_below n x) (count_below x k) (suc k) past in
      absurd (omega (arith, at, out))
]

pub is_member_of : (n : ℕ) (x : Attributes) (k : ℕ) → k < n → x k ≡ true → Contains (members_below n x) k
is_member_of n x k low inside = (count_below x k, place_low n x k low inside, members_below-at n x k k low inside)

-- ---- names
same_name-self : (a : List ℕ) → same_name a a ≡ true
same_name-self a = bytes_self (str_to_ascii_lowercase a)

pub names_apart : (s : Schema) (k m : ℕ) → k < width_of s → m < width_of s → name_at s k ≡ name_at s m → k ≡ m
names_apart s k m lk lm same = elim (cases_lt k m) [
  | inl before ↦ absurd (true≢false (sym (same_name-self (name_at s m)) ∙ ap (λ (a : List ℕ). same_name a (name_at s m)) (sym same) ∙ s.valid.names_differ k m [] before lm))
  | inr not_before ↦ elim (cases_lt m k) [
    | inl after ↦ absurd (true≢false (sym (same_name-self (name_at s k)) ∙ ap (λ (a : List ℕ). same_name a (name_at s k)) same ∙ s.valid.names_differ m k [] after lk))
    | inr not_after ↦ omega (arith, not_before, not_after)
  ]
]

pub names_on_apart : (s : Schema) (x : Attributes) → NamesApart (name_at s) (members_below (width_of s) x)
names_on_apart s x k m hk hm same =
    names_apart s k m (member_of (width_of s) x k hk).0 (member_of (width_of s) x m hm).0 same
