-- The rows that a multivalued dependency makes: each part of the first rows with each part of the second.
use Rattle.std.proofs.Common.{◌≡◌, ℕ, ◌+◌, ◌<◌, ◌≤◌, Bool, true, cond, ◌⊎◌, List, [], ◌∷◌, ◌++◌, length, take, drop, get_or, refl, sym, ap, subst, ◌∙◌, inl, inr, ⊎_elim, arith}
use mathlib.Core.Path.{fun_ext}
use Rattle.std.proofs.lemmas.Bool.{cases_lt, cases_Bool}
use Rattle.std.proofs.lemmas.Bool.Decides.{nat_tests}
use Rattle.std.proofs.lemmas.List.{get_or_default, get_or_read, take-append-drop, get_or-take, length-take-le, take_more}
use Rattle.std.proofs.lemmas.List.Elements.{All-contains, Contains-get_or, Contains-append_left, Contains-push, Contains-push_cases}
use Rattle.std.specs.Prelude.{Contains}
use Rattle.attr_sets.specs.Attributes.{Attributes, below, union, difference}
use Rattle.dep_model.specs.Dependencies.{Dependency, fd, mvd}
use Rattle.chase_laws.specs.Tableaux.{SymbolRow, Tableau, symbol_at, SymbolsAgree, IsTableauOver}
use Rattle.chase_laws.specs.Steps.{exchange_rows}
use Rattle.chase_laws.specs.Rounds.{IsMadeOf}
use Rattle.chase_laws.proofs.TableauLemmas.{same_rows, length-exchange_rows, symbol_at-exchange_rows}
use Rattle.tableau_chase.specs.Groups.{symbol_row_at, AreSymbolLeaders, AreFollowers}
use Rattle.tableau_chase.specs.Pools.{Extends}
use Rattle.tableau_chase.proofs.PoolLemmas.{extends_length, extends_row, adds_join, overflow_after}
use Rattle.tableau_chase.specs.Making.{IsExchangedRow, IsMadeFrom, IsExchangedWith, AddsAll, Overflows}
use Rattle.attr_sets.proofs.AttributesLemmas.{same_at}

-- ---- the same parts make the same row
pub same_exchange : (n : ℕ) (x y : Attributes) (p q u v : SymbolRow) → SymbolsAgree (union x y) u p → SymbolsAgree (union (difference (below n) (union x y)) x) v q → exchange_rows n (union x y) u v ≡ exchange_rows n (union x y) p q
same_exchange n x y p q u v firsts seconds =
    same_rows n (exchange_rows n (union x y) u v) (exchange_rows n (union x y) p q) (length-exchange_rows n (union x y) u v) (length-exchange_rows n (union x y) p q) (λ (k : ℕ) low.
    symbol_at-exchange_rows n (union x y) u v k low ∙ parts k low ∙ sym (symbol_at-exchange_rows n (union x y) p q k low))
  where
    parts : (k : ℕ) → k < n → cond (union x y k) (symbol_at u k) (symbol_at v k) ≡ cond (union x y k) (symbol_at p k) (symbol_at q k)
    parts k low = elim (cases_Bool (union x y k)) [
      | inl m ↦ ap (λ (b : Bool). cond b (symbol_at u k) (symbol_at v k)) m ∙ firsts k m ∙ ap (λ (b : Bool). cond b (symbol_at p k) (symbol_at q k)) (sym m)
      | inr out ↦
          let rest : union (difference (below n) (union x y)) x k ≡ true = grind (arith, nat_tests, low, out) in
          ap (λ (b : Bool). cond b (symbol_at u k) (symbol_at v k)) out ∙ seconds k rest ∙ ap (λ (b : Bool). cond b (symbol_at p k) (symbol_at q k)) (sym out)
    ]

-- ---- leaders
-- a leader leads itself
pub leads_nowhere : (x : Attributes) (rows : Tableau) (leaders : List ℕ) (i : ℕ) → AreSymbolLeaders x rows leaders → i < length rows → get_or leaders (get_or leaders i 0) 0 ≡ get_or leaders i 0
leads_nowhere x rows leaders i are low = are.same (get_or leaders i 0) i (omega (arith, are.first i low, low)) low (are.agree i low)

-- the products so far: of the first rows that lead on both sides
pub record IsProductOf (n : ℕ) (z : Attributes) (t : Tableau) (agreeing firsts : List ℕ) (groups : List (List ℕ)) (upto : ℕ) (row : SymbolRow) : Type 0 where
  pub first : ℕ
  pub second : ℕ
  pub low : first < upto
  pub leads : get_or firsts first 0 ≡ first
  pub member : Contains (get_or groups (get_or agreeing first 0) []) second
  pub row_is : row ≡ exchange_rows n z (symbol_row_at t first) (symbol_row_at t second)

module _ (n : ℕ) (x y : Attributes) (t : Tableau) (agreeing firsts seconds : List ℕ) (groups : List (List ℕ)) (over : IsTableauOver n t)
    (agree : AreSymbolLeaders x t agreeing) (first : AreSymbolLeaders (union x y) t firsts) (second : AreSymbolLeaders (union (difference (below n) (union x y)) x) t seconds) (are : AreFollowers agreeing seconds groups) where
  row_in : (i : ℕ) → i < length t → Contains t (symbol_row_at t i)
  row_in i low = Contains-get_or t i [] low

  product_sound : (row : SymbolRow) → IsProductOf n (union x y) t agreeing firsts groups (length t) row → IsExchangedRow n x y t row
  product_sound row product =
      let i = product.first in
      let j = product.second in
      let j_low : j < length t = omega (arith, All-contains (λ (k : ℕ). k < length agreeing) (get_or groups (get_or agreeing i 0) []) j (are.each (get_or agreeing i 0)) product.member, agree.one_each) in
      let led : get_or agreeing j 0 ≡ get_or agreeing i 0 = All-contains (λ (k : ℕ). get_or agreeing k 0 ≡ get_or agreeing i 0) (get_or groups (get_or agreeing i 0) []) j (are.led (get_or agreeing i 0)) product.member in
      record {
        first = symbol_row_at t i;
        second = symbol_row_at t j;
        first_in = row_in i product.low;
        second_in = row_in j j_low;
        agree = λ k m. sym (agree.agree i product.low k m) ∙ ap (λ (l : ℕ). symbol_at (symbol_row_at t l) k) (sym led) ∙ agree.agree j j_low k m;
        row_is = product.row_is;
      }

  at_position : (p : SymbolRow) (h : Contains t p) → symbol_row_at t h.0 ≡ p
  at_position p h = get_or_default t h.0 [] p h.1 ∙ h.2

  product_complete : (row : SymbolRow) → IsExchangedRow n x y t row → IsProductOf n (union x y) t agreeing firsts groups (length t) row
  product_complete row made =
      let i0 = made.first_in.0 in
      let j0 = made.second_in.0 in
      let i_at = at_position made.first made.first_in in
      let j_at = at_position made.second made.second_in in
      let i = get_or firsts i0 0 in
      let j = get_or seconds j0 0 in
      let i_low : i < length t = omega (arith, first.first i0 made.first_in.1, made.first_in.1) in
      let j_low : j < length t = omega (arith, second.first j0 made.second_in.1, made.second_in.1) in
      let i_agree : SymbolsAgree (union x y) (symbol_row_at t i) made.first = λ k m. first.agree i0 made.first_in.1 k m ∙ ap (λ (r : SymbolRow). symbol_at r k) i_at in
      let j_agree : SymbolsAgree (union (difference (below n) (union x y)) x) (symbol_row_at t j) made.second = λ k m. second.agree j0 made.second_in.1 k m ∙ ap (λ (r : SymbolRow). symbol_at r k) j_at in
      let both : SymbolsAgree x (symbol_row_at t j) (symbol_row_at t i) = λ k m. j_agree k (grind (arith, m)) ∙ sym (made.agree k m) ∙ sym (i_agree k (grind (arith, m))) in
      let led : get_or agreeing j 0 ≡ get_or agreeing i 0 = agree.same j i j_low i_low both in
      let held = are.all j (omega (arith, j_low, agree.one_each)) (leads_nowhere (union (difference (below n) (union x y)) x) t seconds j0 second made.second_in.1) in
      record {
        first = i;
        second = j;
        low = i_low;
        leads = leads_nowhere (union x y) t firsts i0 first made.first_in.1;
        member = subst (λ (g : ℕ). Contains (get_or groups g []) j) led held;
        row_is = made.row_is ∙ sym (same_exchange n x y made.first made.second (symbol_row_at t i) (symbol_row_at t j) i_agree j_agree);
      }

  pub products_to : (row : SymbolRow) → IsProductOf n (union x y) t agreeing firsts groups (length t) row → IsExchangedRow n x y t row
  products_to = product_sound

  pub products_from : (row : SymbolRow) → IsExchangedRow n x y t row → IsProductOf n (union x y) t agreeing firsts groups (length t) row
  products_from = product_complete

-- ---- one first row more
module _ (n : ℕ) (z : Attributes) (t : Tableau) (agreeing firsts : List ℕ) (groups : List (List ℕ)) (upto next : ℕ) (up : next ≡ upto + 1) where
  pub product_old : (row : SymbolRow) → IsProductOf n z t agreeing firsts groups upto row → IsProductOf n z t agreeing firsts groups next row
  product_old row p = record { first = p.first; second = p.second; low = omega (arith, p.low, up); leads = p.leads; member = p.member; row_is = p.row_is }

  pub product_new : (row : SymbolRow) → get_or firsts upto 0 ≡ upto → IsExchangedWith n z t upto (get_or groups (get_or agreeing upto 0) []) row → IsProductOf n z t agreeing firsts groups next row
  product_new row leads made = record { first = upto; second = made.0; low = omega (arith, up); leads = leads; member = made.1; row_is = made.2 }

  pub product_cases : (row : SymbolRow) → IsProductOf n z t agreeing firsts groups next row → IsProductOf n z t agreeing firsts groups upto row ⊎ IsExchangedWith n z t upto (get_or groups (get_or agreeing upto 0) []) row
  product_cases row p = elim (cases_lt p.first upto) [
    | inl lt ↦ inl (record { first = p.first; second = p.second; low = lt; leads = p.leads; member = p.member; row_is = p.row_is })
    | inr ge ↦
        let here : p.first ≡ upto = omega (arith, ge, p.low, up) in
        inr (p.second, subst (λ (i : ℕ). Contains (get_or groups (get_or agreeing i 0) []) p.second) here p.member, subst (λ (i : ℕ). row ≡ exchange_rows n z (symbol_row_at t i) (symbol_row_at t p.second)) here p.row_is)
  ]

  pub product_not : (row : SymbolRow) → (get_or firsts upto 0 ≡ upto → ⊥) → IsProductOf n z t agreeing firsts groups next row → IsProductOf n z t agreeing firsts groups upto row
  product_not row not_first p = elim (cases_lt p.first upto) [
    | inl lt ↦ record { first = p.first; second = p.second; low = lt; leads = p.leads; member = p.member; row_is = p.row_is }
    | inr ge ↦ let here : p.first ≡ upto = omega (arith, ge, p.low, up) in absurd (not_first (subst (λ (i : ℕ). get_or firsts i 0 ≡ i) here p.leads))
  ]

pub product_none : (n : ℕ) (z : Attributes) (t : Tableau) (agreeing firsts : List ℕ) (groups : List (List ℕ)) (row : SymbolRow) → IsProductOf n z t agreeing firsts groups 0 row → ⊥
product_none n z t agreeing firsts groups row p = absurd (omega (arith, p.low))

-- ---- exchanges with a list, one more
pub exchanged_with_old : (n : ℕ) (z : Attributes) (t : Tableau) (first upto next : ℕ) (seconds : List ℕ) → next ≡ upto + 1 → upto < length seconds → (row : SymbolRow) → IsExchangedWith n z t first (take upto seconds) row
    → IsExchangedWith n z t first (take next seconds) row
exchanged_with_old n z t first upto next seconds up low row made =
    let longer : take next seconds ≡ take upto seconds ++ get_or seconds upto 0 ∷ [] = ap (λ (k : ℕ). take k seconds) up ∙ take_more seconds upto 0 low in
    (made.0, subst (λ (js : List ℕ). Contains js made.0) (sym longer) (Contains-append_left (take upto seconds) (get_or seconds upto 0 ∷ []) made.0 made.1), made.2)

pub exchanged_with_new : (n : ℕ) (z : Attributes) (t : Tableau) (first upto next : ℕ) (seconds : List ℕ) → next ≡ upto + 1 → upto < length seconds → (row : SymbolRow) → row ≡ exchange_rows n z (symbol_row_at t first) (symbol_row_at t (get_or seconds upto 0))
    → IsExchangedWith n z t first (take next seconds) row
exchanged_with_new n z t first upto next seconds up low row e =
    let longer : take next seconds ≡ take upto seconds ++ get_or seconds upto 0 ∷ [] = ap (λ (k : ℕ). take k seconds) up ∙ take_more seconds upto 0 low in
    (get_or seconds upto 0, subst (λ (js : List ℕ). Contains js (get_or seconds upto 0)) (sym longer) (Contains-push (take upto seconds) (get_or seconds upto 0)), e)

pub exchanged_with_cases : (n : ℕ) (z : Attributes) (t : Tableau) (first upto next : ℕ) (seconds : List ℕ) → next ≡ upto + 1 → upto < length seconds → (row made : SymbolRow) → made ≡ exchange_rows n z (symbol_row_at t first) (symbol_row_at t (get_or seconds upto 0))
    → IsExchangedWith n z t first (take next seconds) row → IsExchangedWith n z t first (take upto seconds) row ⊎ (made ≡ row)
exchanged_with_cases n z t first upto next seconds up low row made e h =
    let longer : take next seconds ≡ take upto seconds ++ get_or seconds upto 0 ∷ [] = ap (λ (k : ℕ). take k seconds) up ∙ take_more seconds upto 0 low in
    ⊎_elim
    (λ old. inl (h.0, old, h.2))
    (λ (here : get_or seconds upto 0 ≡ h.0). inr (e ∙ ap (λ (j : ℕ). exchange_rows n z (symbol_row_at t first) (symbol_row_at t j)) here ∙ sym h.2))
    (Contains-push_cases (take upto seconds) (get_or seconds upto 0) h.0 (subst (λ (js : List ℕ). Contains js h.0) longer h.1))

pub exchanged_with_none : (n : ℕ) (z : Attributes) (t : Tableau) (first : ℕ) (row : SymbolRow) → IsExchangedWith n z t first [] row → ⊥
exchanged_with_none n z t first row made = absurd (omega (arith, made.1.1))

-- ---- dependency by dependency
-- a row that one of the first dependencies makes
abbrev pub IsMadeUpTo : ℕ → List Dependency → Tableau → ℕ → SymbolRow → Type 0
IsMadeUpTo n ds t upto row = (j : ℕ) × (j < upto) × (j < length ds) × IsMadeFrom n (get_or ds j (fd (below 0) (below 0))) t row

pub made_none : (n : ℕ) (ds : List Dependency) (t : Tableau) (row : SymbolRow) → IsMadeUpTo n ds t 0 row → ⊥
made_none n ds t row made = absurd (omega (arith, made.1))

pub made_old : (n : ℕ) (ds : List Dependency) (t : Tableau) (upto next : ℕ) → next ≡ upto + 1 → (row : SymbolRow) → IsMadeUpTo n ds t upto row → IsMadeUpTo n ds t next row
made_old n ds t upto next up row made = (made.0, omega (arith, made.1, up), made.2, made.3)

pub made_new : (n : ℕ) (ds : List Dependency) (t : Tableau) (upto next : ℕ) → next ≡ upto + 1 → upto < length ds → (row : SymbolRow) → IsMadeFrom n (get_or ds upto (fd (below 0) (below 0))) t row → IsMadeUpTo n ds t next row
made_new n ds t upto next up low row made = (upto, omega (arith, up), low, made)

pub made_cases : (n : ℕ) (ds : List Dependency) (t : Tableau) (upto next : ℕ) → next ≡ upto + 1 → (row : SymbolRow) → IsMadeUpTo n ds t next row → IsMadeUpTo n ds t upto row ⊎ IsMadeFrom n (get_or ds upto (fd (below 0) (below 0))) t row
made_cases n ds t upto next up row made = elim (cases_lt made.0 upto) [
  | inl lt ↦ inl (made.0, lt, made.2, made.3)
  | inr ge ↦ let here : made.0 ≡ upto = omega (arith, ge, made.1, up) in inr (subst (λ (j : ℕ). IsMadeFrom n (get_or ds j (fd (below 0) (below 0))) t row) here made.3)
]

made_by : (n : ℕ) (ds : List Dependency) (t : Tableau) (row : SymbolRow) (d : Dependency) → Contains ds d → IsMadeFrom n d t row → IsMadeOf n ds t row
made_by n ds t row (fd x y) given made = absurd made
made_by n ds t row (mvd x y) given made = record { lhs = x; rhs = y; given = given; first = made.first; second = made.second; first_in = made.first_in; second_in = made.second_in; agree = made.agree; row_is = made.row_is }

pub made_all : (n : ℕ) (ds : List Dependency) (t : Tableau) (upto : ℕ) (row : SymbolRow) → IsMadeUpTo n ds t upto row → IsMadeOf n ds t row
made_all n ds t upto row made = made_by n ds t row (get_or ds made.0 (fd (below 0) (below 0))) (Contains-get_or ds made.0 (fd (below 0) (below 0)) made.2) made.3

pub made_each : (n : ℕ) (ds : List Dependency) (t : Tableau) (upto : ℕ) → length ds ≤ upto → (row : SymbolRow) → IsMadeOf n ds t row → IsMadeUpTo n ds t upto row
made_each n ds t upto all row made =
    let at = made.given in
    let is : get_or ds at.0 (fd (below 0) (below 0)) ≡ mvd made.lhs made.rhs = get_or_default ds at.0 (fd (below 0) (below 0)) (mvd made.lhs made.rhs) at.1 ∙ at.2 in
    (at.0, omega (arith, at.1, all), at.1, subst (λ (d : Dependency). IsMadeFrom n d t row) (sym is) (record { first = made.first; second = made.second; first_in = made.first_in; second_in = made.second_in; agree = made.agree; row_is = made.row_is }))

-- ---- as the code makes them
pub exchanged_rows : (n : ℕ) (z : Attributes) (t m : Tableau) (first second : ℕ) (p q row : SymbolRow) → Extends t m → first < length t → second < length t → p ≡ get_or m first p → q ≡ get_or m second q → row ≡ exchange_rows n z p q
    → row ≡ exchange_rows n z (symbol_row_at t first) (symbol_row_at t second)
exchanged_rows n z t m first second p q row extends first_low second_low p_is q_is row_is =
    let long = extends_length t m extends in
    let p_at : p ≡ symbol_row_at t first = get_or_read m first p (omega (arith, first_low, long)) p_is [] ∙ extends_row t m first extends first_low in
    let q_at : q ≡ symbol_row_at t second = get_or_read m second q (omega (arith, second_low, long)) q_is [] ∙ extends_row t m second extends second_low in
    row_is ∙ ap (λ (r : SymbolRow). exchange_rows n z r q) p_at ∙ ap (λ (r : SymbolRow). exchange_rows n z (symbol_row_at t first) r) q_at

pub exchanged_with_take : (n : ℕ) (z : Attributes) (t : Tableau) (first k : ℕ) (seconds : List ℕ) (row : SymbolRow) → IsExchangedWith n z t first (take k seconds) row → IsExchangedWith n z t first seconds row
exchanged_with_take n z t first k seconds row made = (made.0, subst (λ (js : List ℕ). Contains js made.0) (take-append-drop k seconds) (Contains-append_left (take k seconds) (drop k seconds) made.0 made.1), made.2)

pub exchanged_with_here : (n : ℕ) (z : Attributes) (t : Tableau) (first k : ℕ) (seconds : List ℕ) (row : SymbolRow) → k < length seconds → row ≡ exchange_rows n z (symbol_row_at t first) (symbol_row_at t (get_or seconds k 0)) → IsExchangedWith n z t first seconds row
exchanged_with_here n z t first k seconds row low e = (get_or seconds k 0, Contains-get_or seconds k 0 low, e)

-- rows that are made of a tableau's rows, said of a longer one and of its front
pub exchanged_with_front : (n : ℕ) (z : Attributes) (t m front : Tableau) (first : ℕ) (seconds : List ℕ) (row : SymbolRow) → symbol_row_at m first ≡ symbol_row_at front first → ((j : ℕ) → Contains seconds j → symbol_row_at m j ≡ symbol_row_at front j)
    → IsExchangedWith n z m first seconds row → IsExchangedWith n z front first seconds row
exchanged_with_front n z t m front first seconds row first_is seconds_are made =
    (made.0, made.1, made.2 ∙ ap (λ (r : SymbolRow). exchange_rows n z r (symbol_row_at m made.0)) first_is ∙ ap (λ (r : SymbolRow). exchange_rows n z (symbol_row_at front first) r) (seconds_are made.0 made.1))

pub front_row : (t m : Tableau) (count i : ℕ) → Extends t m → i < count → count ≤ length t → symbol_row_at m i ≡ symbol_row_at (take count t) i
front_row t m count i extends low within_limit = extends_row t m i extends (omega (arith, low, within_limit)) ∙ sym (get_or-take count t i [] low)

pub product_longer : (n : ℕ) (z : Attributes) (t : Tableau) (agreeing firsts : List ℕ) (groups : List (List ℕ)) (upto next : ℕ) (row : SymbolRow) → upto ≤ next → IsProductOf n z t agreeing firsts groups upto row → IsProductOf n z t agreeing firsts groups next row
product_longer n z t agreeing firsts groups upto next row le p = record { first = p.first; second = p.second; low = omega (arith, p.low, le); leads = p.leads; member = p.member; row_is = p.row_is }

-- ---- what the parts of the first rows make, with the sets as the code has them
pub record AreParts (n : ℕ) (x y z : Attributes) (t : Tableau) (count : ℕ) (agreeing firsts : List ℕ) (groups : List (List ℕ)) : Type 0 where
  pub within_limit : count ≤ length t
  pub over : IsTableauOver n (take count t)
  pub z_is : z ≡ union x y
  pub seconds : List ℕ
  pub agree : AreSymbolLeaders x (take count t) agreeing
  pub first : AreSymbolLeaders (union x y) (take count t) firsts
  pub second : AreSymbolLeaders (union (difference (below n) (union x y)) x) (take count t) seconds
  pub are : AreFollowers agreeing seconds groups

module _ (n : ℕ) (x y z : Attributes) (t : Tableau) (count : ℕ) (agreeing firsts : List ℕ) (groups : List (List ℕ)) (parts : AreParts n x y z t count agreeing firsts groups) where
  front_length : length (take count t) ≡ count
  front_length = length-take-le count t parts.within_limit

  pub parts_to : (upto : ℕ) (row : SymbolRow) → upto ≤ count → IsProductOf n z (take count t) agreeing firsts groups upto row → IsExchangedRow n x y (take count t) row
  parts_to upto row le p =
      products_to n x y (take count t) agreeing firsts parts.seconds groups parts.over parts.agree parts.first parts.second parts.are row
      (product_longer n (union x y) (take count t) agreeing firsts groups upto (length (take count t)) row (omega (arith, le, front_length)) (subst (λ (w : Attributes). IsProductOf n w (take count t) agreeing firsts groups upto row) parts.z_is p))

  pub parts_from : (upto : ℕ) (row : SymbolRow) → count ≤ upto → IsExchangedRow n x y (take count t) row → IsProductOf n z (take count t) agreeing firsts groups upto row
  parts_from upto row le made =
      subst (λ (w : Attributes). IsProductOf n w (take count t) agreeing firsts groups upto row) (sym parts.z_is)
      (product_longer n (union x y) (take count t) agreeing firsts groups (length (take count t)) upto row (omega (arith, le, front_length))
      (products_from n x y (take count t) agreeing firsts parts.seconds groups parts.over parts.agree parts.first parts.second parts.are row made))

  -- the rows of a group stand in the front
  pub group_low : (g j : ℕ) → Contains (get_or groups g []) j → j < count
  group_low g j h = omega (arith, All-contains (λ (k : ℕ). k < length agreeing) (get_or groups g []) j (parts.are.each g) h, parts.agree.one_each, front_length)

  -- what the code reads at a row of the front
  pub leads_read : (i first : ℕ) → i < count → first ≡ get_or firsts i first → first ≡ i → get_or firsts i 0 ≡ i
  leads_read i first low read leads = sym (get_or_read firsts i first (omega (arith, low, parts.first.one_each, front_length)) read 0) ∙ leads

  pub group_read : (i g : ℕ) (held group : List ℕ) → i < count → g ≡ get_or agreeing i g → group ≡ held → held ≡ get_or groups g held → group ≡ get_or groups (get_or agreeing i 0) []
  group_read i g held group low read is held_read =
      let g_is : g ≡ get_or agreeing i 0 = get_or_read agreeing i g (omega (arith, low, parts.agree.one_each, front_length)) read 0 in
      is
      ∙ get_or_read groups g held (omega (arith, low, g_is, parts.agree.first i (omega (arith, low, front_length)), parts.are.one_each, parts.agree.one_each, front_length)) held_read []
      ∙ ap (λ (j : ℕ). get_or groups j []) g_is

  module _ (m : Tableau) (extends : Extends t m) (i : ℕ) (low : i < count) (group : List ℕ) (group_is : group ≡ get_or groups (get_or agreeing i 0) []) where
    in_front : (j : ℕ) → j < count → symbol_row_at m j ≡ symbol_row_at (take count t) j
    in_front j j_low = front_row t m count j extends j_low parts.within_limit

    group_at : (j : ℕ) → Contains group j → j < count
    group_at j h = group_low (get_or agreeing i 0) j (subst (λ (js : List ℕ). Contains js j) group_is h)

    pub with_to : (row : SymbolRow) → IsExchangedWith n z m i group row → IsExchangedWith n z (take count t) i (get_or groups (get_or agreeing i 0) []) row
    with_to row made = subst (λ (js : List ℕ). IsExchangedWith n z (take count t) i js row) group_is (exchanged_with_front n z t m (take count t) i group row (in_front i low) (λ j h. in_front j (group_at j h)) made)

    pub with_from : (row : SymbolRow) → IsExchangedWith n z (take count t) i (get_or groups (get_or agreeing i 0) []) row → IsExchangedWith n z m i group row
    with_from row made = exchanged_with_front n z t (take count t) m i group row (sym (in_front i low)) (λ j h. sym (in_front j (group_at j h))) (subst (λ (js : List ℕ). IsExchangedWith n z (take count t) i js row) (sym group_is) made)

    pub group_within : (k d : ℕ) → k < length group → get_or group k d < length m
    group_within k d l = omega (arith, group_at (get_or group k d) (Contains-get_or group k d l), parts.within_limit, extends_length t m extends)

    pub group_over : (k d : ℕ) → k < length group → length (symbol_row_at m (get_or group k d)) ≡ n
    group_over k d l =
        let j_low = group_at (get_or group k d) (Contains-get_or group k d l) in
        ap (λ (r : SymbolRow). length r) (in_front (get_or group k d) j_low) ∙ parts.over (get_or group k d) [] (omega (arith, j_low, front_length))

    pub first_over : length (symbol_row_at m i) ≡ n
    first_over = ap (λ (r : SymbolRow). length r) (in_front i low) ∙ parts.over i [] (omega (arith, low, front_length))

    pub parts_more : (s : Tableau) → get_or firsts i 0 ≡ i → AddsAll (IsProductOf n z (take count t) agreeing firsts groups i) t m → AddsAll (IsExchangedWith n z m i group) m s → AddsAll (IsProductOf n z (take count t) agreeing firsts groups (i + 1)) t s
    parts_more s leads before made =
        adds_join (IsProductOf n z (take count t) agreeing firsts groups i) (IsExchangedWith n z m i group) (IsProductOf n z (take count t) agreeing firsts groups (i + 1)) t m s
        (product_old n z (take count t) agreeing firsts groups i (i + 1) refl)
        (λ p h. product_new n z (take count t) agreeing firsts groups i (i + 1) refl p leads (with_to p h))
        (λ p h. ⊎_elim inl (λ w. inr (with_from p w)) (product_cases n z (take count t) agreeing firsts groups i (i + 1) refl p h)) before made

    pub parts_overflow : (limit : ℕ) → get_or firsts i 0 ≡ i → AddsAll (IsProductOf n z (take count t) agreeing firsts groups i) t m → Overflows (IsExchangedWith n z m i group) limit m → Overflows (IsExchangedRow n x y (take count t)) limit t
    parts_overflow limit leads before over =
        overflow_after (IsProductOf n z (take count t) agreeing firsts groups i) (IsExchangedWith n z m i group) (IsExchangedRow n x y (take count t)) limit t m
        (λ p h. parts_to i p (omega (arith, low)) h)
        (λ p h. parts_to (i + 1) p (omega (arith, low)) (product_new n z (take count t) agreeing firsts groups i (i + 1) refl p leads (with_to p h))) before over

pub product_parts : (n count : ℕ) (x y both less rest full : Attributes) (t t1 t2 t3 : Tableau) (agreeing firsts seconds ls ss : List ℕ) (groups : List (List ℕ)) → count ≤ length t → IsTableauOver n (take count t) → both ≡ union x y → less ≡ difference full both
    → rest ≡ union less x → full ≡ below n → t1 ≡ t → t2 ≡ t → t3 ≡ t → ls ≡ agreeing → ss ≡ seconds → AreSymbolLeaders x (take count t1) agreeing → AreSymbolLeaders both (take count t2) firsts → AreSymbolLeaders rest (take count t3) seconds → AreFollowers ls ss groups
    → AreParts n x y both t count agreeing firsts groups
product_parts n count x y both less rest full t t1 t2 t3 agreeing firsts seconds ls ss groups within_limit over both_is less_is rest_is full_is e1 e2 e3 le se agree first second are =
    let rest_path : rest ≡ union (difference (below n) (union x y)) x = fun_ext (λ (k : ℕ). grind (arith, same_at both_is k, same_at less_is k, same_at rest_is k, same_at full_is k)) in
    record {
      within_limit = within_limit;
      over = over;
      z_is = both_is;
      seconds = seconds;
      agree = subst (λ (u : Tableau). AreSymbolLeaders x (take count u) agreeing) e1 agree;
      first = subst (λ (w : Attributes). AreSymbolLeaders w (take count t) firsts) both_is (subst (λ (u : Tableau). AreSymbolLeaders both (take count u) firsts) e2 first);
      second = subst (λ (w : Attributes). AreSymbolLeaders w (take count t) seconds) rest_path (subst (λ (u : Tableau). AreSymbolLeaders rest (take count u) seconds) e3 second);
      are = subst (λ (xs : List ℕ). AreFollowers xs seconds groups) le (subst (λ (xs : List ℕ). AreFollowers ls xs groups) se are);
    }
