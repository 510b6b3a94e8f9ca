-- Pools: a row more, and one row too many.
use Rattle.std.proofs.Common.{◌≡◌, ℕ, ◌+◌, ◌<◌, ◌≤◌, suc, ◌⊎◌, List, [], ◌∷◌, ◌++◌, length, take, drop, get_or, sym, ap, subst, ◌∙◌, inl, inr, ⊎_elim, arith, length-append, append_assoc}
use Rattle.std.proofs.lemmas.List.{length_push, take-append-drop, append-nil, get_or_append_left}
use Rattle.std.proofs.lemmas.List.Elements.{All-push, Contains-get_or, Contains-append_left, Contains-push, Contains-push_cases}
use Rattle.std.proofs.lemmas.List.Quantifiers.{all_pairs_push}
use Rattle.std.specs.Prelude.{Contains, AllPairs}
use Rattle.attr_sets.specs.Attributes.{Attributes}
use Rattle.chase_laws.specs.Tableaux.{SymbolRow, Tableau, SameTableau, scheme_row, scheme_rows}
use Rattle.chase_laws.specs.Rounds.{HasMoreThan}
use Rattle.tableau_chase.specs.Groups.{symbol_row_at}
use Rattle.tableau_chase.specs.Pools.{IsAdded, Extends}
use Rattle.tableau_chase.specs.Making.{AddsAll, Overflows}

pub differ_push : (rows : Tableau) (row : SymbolRow) → AllPairs (λ p q. p ≡ q → ⊥) rows → (Contains rows row → ⊥) → AllPairs (λ p q. p ≡ q → ⊥) (rows ++ row ∷ [])
differ_push rows row differ fresh =
    all_pairs_push (λ (p q : SymbolRow). p ≡ q → ⊥) rows row differ (λ k d l e. fresh (subst (λ (r : SymbolRow). Contains rows r) e (Contains-get_or rows k d l)))

-- ---- a row is added
pub added_into : (t : Tableau) (row : SymbolRow) (s : Tableau) → IsAdded t row s → Contains s row
added_into t row s (inl same) = subst (λ (u : Tableau). Contains u row) (sym same.0) same.1
added_into t row s (inr more) = subst (λ (u : Tableau). Contains u row) (sym more) (Contains-push t row)

pub added_old : (t : Tableau) (row : SymbolRow) (s : Tableau) (p : SymbolRow) → IsAdded t row s → Contains t p → Contains s p
added_old t row s p (inl same) h = subst (λ (u : Tableau). Contains u p) (sym same.0) h
added_old t row s p (inr more) h = subst (λ (u : Tableau). Contains u p) (sym more) (Contains-append_left t (row ∷ []) p h)

pub added_cases : (t : Tableau) (row : SymbolRow) (s : Tableau) (p : SymbolRow) → IsAdded t row s → Contains s p → Contains t p ⊎ (row ≡ p)
added_cases t row s p (inl same) h = inl (subst (λ (u : Tableau). Contains u p) same.0 h)
added_cases t row s p (inr more) h = Contains-push_cases t row p (subst (λ (u : Tableau). Contains u p) more h)

pub added_length : (t : Tableau) (row : SymbolRow) (s : Tableau) → IsAdded t row s → length s ≤ length t + 1
added_length t row s (inl same) = let e = ap (λ (u : Tableau). length u) same.0 in omega (arith, e)
added_length t row s (inr more) = let e = ap (λ (u : Tableau). length u) more in omega (arith, e, length_push t row)

pub extends_added : (t m : Tableau) (row : SymbolRow) (s : Tableau) → Extends t m → IsAdded m row s → Extends t s
extends_added t m row s extends (inl same) = (extends.0, same.0 ∙ extends.1)
extends_added t m row s extends (inr more) =
    (extends.0 ++ row ∷ [], more ∙ ap (λ (u : Tableau). u ++ row ∷ []) extends.1 ∙ append_assoc t extends.0 (row ∷ []))

pub Extends-refl : (t : Tableau) → Extends t t
Extends-refl t = ([], sym (append-nil t))

pub Extends-trans : (t m s : Tableau) → Extends t m → Extends m s → Extends t s
Extends-trans t m s one other = (one.0 ++ other.0, other.1 ∙ ap (λ (u : Tableau). u ++ other.0) one.1 ∙ append_assoc t one.0 other.0)

pub extends_length : (t s : Tableau) → Extends t s → length t ≤ length s
extends_length t s extends = let e = ap (λ (u : Tableau). length u) extends.1 in omega (arith, e, length-append t extends.0)

pub extends_row : (t s : Tableau) (i : ℕ) → Extends t s → i < length t → symbol_row_at s i ≡ symbol_row_at t i
extends_row t s i extends low = ap (λ (u : Tableau). symbol_row_at u i) extends.1 ∙ get_or_append_left t extends.0 [] i low

pub extends_in : (t s : Tableau) (p : SymbolRow) → Extends t s → Contains t p → Contains s p
extends_in t s p extends h = subst (λ (u : Tableau). Contains u p) (sym extends.1) (Contains-append_left t extends.0 p h)

-- one row too many
pub too_many : (limit : ℕ) (rows : Tableau) (row : SymbolRow) (t : Tableau) → AllPairs (λ p q. p ≡ q → ⊥) rows → (Contains rows row → ⊥) → length rows ≡ limit → ((p : SymbolRow) → Contains rows p → Contains t p) → Contains t row
    → HasMoreThan limit t
too_many limit rows row t differ fresh full within here = record {
  rows = rows ++ row ∷ [];
  differ = differ_push rows row differ fresh;
  each = All-push (Contains t) rows row (λ k d l. within (get_or rows k d) (Contains-get_or rows k d l)) here;
  many = omega (arith, full, length_push rows row);
}

-- ---- rows with a property are added
pub adds_none : (P : SymbolRow → Type 0) (t : Tableau) → ((row : SymbolRow) → P row → ⊥) → AddsAll P t t
adds_none P t none = record { extends = Extends-refl t; sound = λ row h. inl h; complete = λ row h. absurd (none row h) }

pub adds_more : (P Q : SymbolRow → Type 0) (t m : Tableau) (row : SymbolRow) (s : Tableau) → ((p : SymbolRow) → P p → Q p) → Q row → ((p : SymbolRow) → Q p → P p ⊎ (row ≡ p)) → AddsAll P t m → IsAdded m row s → AddsAll Q t s
adds_more P Q t m row s weaker here cases before added = record {
  extends = extends_added t m row s before.extends added;
  sound = λ p h. ⊎_elim
      (λ old. ⊎_elim inl (λ q. inr (weaker p q)) (before.sound p old))
      (λ (e : row ≡ p). inr (subst Q e here))
      (added_cases m row s p added h);
  complete = λ p h. ⊎_elim
      (λ old. added_old m row s p added (before.complete p old))
      (λ (e : row ≡ p). subst (λ (r : SymbolRow). Contains s r) e (added_into m row s added))
      (cases p h);
}

pub adds_join : (P Q R : SymbolRow → Type 0) (t m s : Tableau) → ((p : SymbolRow) → P p → R p) → ((p : SymbolRow) → Q p → R p) → ((p : SymbolRow) → R p → P p ⊎ Q p) → AddsAll P t m → AddsAll Q m s → AddsAll R t s
adds_join P Q R t m s from_p from_q cases one other = record {
  extends = Extends-trans t m s one.extends other.extends;
  sound = λ p h. ⊎_elim
      (λ old. ⊎_elim inl (λ q. inr (from_p p q)) (one.sound p old))
      (λ q. inr (from_q p q))
      (other.sound p h);
  complete = λ p h. ⊎_elim (λ q. extends_in m s p other.extends (one.complete p q)) (λ q. other.complete p q) (cases p h);
}

pub adds_like : (P Q : SymbolRow → Type 0) (t s : Tableau) → ((p : SymbolRow) → P p → Q p) → ((p : SymbolRow) → Q p → P p) → AddsAll P t s → AddsAll Q t s
adds_like P Q t s to from before = record {
  extends = before.extends;
  sound = λ p h. ⊎_elim inl (λ q. inr (to p q)) (before.sound p h);
  complete = λ p h. before.complete p (from p h);
}

pub overflow_here : (P Q : SymbolRow → Type 0) (limit : ℕ) (t m : Tableau) (row : SymbolRow) → ((p : SymbolRow) → P p → Q p) → Q row → AddsAll P t m → AllPairs (λ p q. p ≡ q → ⊥) m → (Contains m row → ⊥) → length m ≡ limit → Overflows Q limit t
overflow_here P Q limit t m row weaker here before differ fresh full s old made =
    too_many limit m row s differ fresh full (λ p h. ⊎_elim (old p) (λ q. made p (weaker p q)) (before.sound p h)) (made row here)

pub overflow_after : (P Q R : SymbolRow → Type 0) (limit : ℕ) (t m : Tableau) → ((p : SymbolRow) → P p → R p) → ((p : SymbolRow) → Q p → R p) → AddsAll P t m → Overflows Q limit m → Overflows R limit t
overflow_after P Q R limit t m from_p from_q one over s old made =
    over s (λ p h. ⊎_elim (old p) (λ q. made p (from_p p q)) (one.sound p h)) (λ p h. made p (from_q p h))

-- ---- the rows of a plan
scheme_rows-append : (n i : ℕ) (front rest : List Attributes) → scheme_rows n i (front ++ rest) ≡ scheme_rows n i front ++ scheme_rows n (i + length front) rest
scheme_rows-append n i [] rest = ap (λ (k : ℕ). scheme_rows n k rest) (omega arith)
scheme_rows-append n i (scheme ∷ front) rest =
    let next : suc i + length front ≡ i + suc (length front) = omega arith in
    ap (λ (t : Tableau). scheme_row n scheme i ∷ t) (scheme_rows-append n (suc i) front rest ∙ ap (λ (k : ℕ). scheme_rows n (suc i) front ++ scheme_rows n k rest) next)

pub scheme_rows-push : (n i j : ℕ) (front : List Attributes) (scheme : Attributes) → j ≡ i + length front → scheme_rows n i (front ++ scheme ∷ []) ≡ scheme_rows n i front ++ scheme_row n scheme j ∷ []
scheme_rows-push n i j front scheme e = scheme_rows-append n i front (scheme ∷ []) ∙ ap (λ (k : ℕ). scheme_rows n i front ++ scheme_row n scheme k ∷ []) (sym e)

pub scheme_rows-take : (n i k : ℕ) (plan : List Attributes) (row : SymbolRow) → Contains (scheme_rows n i (take k plan)) row → Contains (scheme_rows n i plan) row
scheme_rows-take n i k plan row h =
    subst (λ (p : List Attributes). Contains (scheme_rows n i p) row) (take-append-drop k plan)
    (subst (λ (t : Tableau). Contains t row) (sym (scheme_rows-append n i (take k plan) (drop k plan))) (Contains-append_left (scheme_rows n i (take k plan)) (scheme_rows n (i + length (take k plan)) (drop k plan)) row h))

pub same_added : (t s : Tableau) (row : SymbolRow) (u : Tableau) → SameTableau t s → IsAdded s row u → SameTableau (t ++ row ∷ []) u
same_added t s row u same added p = (
  (λ h. ⊎_elim (λ old. added_old s row u p added ((same p).0 old)) (λ (e : row ≡ p). subst (λ (r : SymbolRow). Contains u r) e (added_into s row u added)) (Contains-push_cases t row p h)),
  (λ h. ⊎_elim (λ old. Contains-append_left t (row ∷ []) p ((same p).1 old)) (λ (e : row ≡ p). subst (λ (r : SymbolRow). Contains (t ++ row ∷ []) r) e (Contains-push t row)) (added_cases s row u p added h)),
)
