-- Where the row of distinguished symbols is reached, the plan is lossless.
use Rattle.std.proofs.Common.{◌≡◌, ℕ, ◌+◌, ◌<◌, ◌≤◌, zero, suc, Bool, true, cond, List, [], ◌∷◌, length, map, get_or, refl, sym, ap, subst, ◌∙◌, inl, inr, ⊎_elim, arith}
use Rattle.std.proofs.lemmas.Bool.{cases_Bool, cases_lt}
use Rattle.std.proofs.lemmas.Bool.Decides.{nat_tests}
use Rattle.std.proofs.lemmas.List.{get_or_past}
use Rattle.std.proofs.lemmas.List.FromFn.{length-map-range_with_len, get_or-map-range_with_len}
use Rattle.std.proofs.lemmas.List.Elements.{All-contains}
use Rattle.std.specs.List.{range_with_len, AllZip}
use Rattle.std.specs.Prelude.{Contains}
use Rattle.attr_sets.specs.Attributes.{Attributes, below, union, difference}
use Rattle.dep_model.specs.Tuples.{Tuple, Relation, value_at, AgreeOn}
use Rattle.dep_model.specs.Dependencies.{Dependency, fd, mvd, Obeys}
use Rattle.dep_model.specs.Implication.{IsLegal}
use Rattle.dep_model.specs.Projections.{project_tuple, projection, projections, InJoin, Covers, IsLossless}
use Rattle.dep_model.specs.OnSchemes.{value_in}
use Rattle.dep_model.proofs.ListLemmas.{map-member}
use Rattle.dep_model.proofs.SchemeLemmas.{value_in-project_tuple}
use Rattle.dep_model.proofs.TupleLemmas.{same_tuple-Contains}
use Rattle.chase_laws.specs.Tableaux.{SymbolRow, Tableau, symbol_at, SymbolsAgree, distinguished_row, scheme_row, scheme_rows, plan_tableau}
use Rattle.chase_laws.specs.Steps.{replace_in_row, exchange_rows, IsFunctionalStep, IsMultivaluedStep, IsChaseStep}
use Rattle.chase_laws.specs.Rounds.{ReachesTableau}
use Rattle.chase_laws.proofs.TableauLemmas.{symbol_at_past, symbol_at-distinguished_row, length-scheme_row, symbol_at-scheme_row, symbol_at-exchange_rows, length-exchange_rows, length-replace_in_row, replaced_image, cons_cases}
use Rattle.chase_laws.proofs.InvariantLemmas.{holds_after_steps, Each, Each-same, Each-fd, Each-mvd}

-- ---- the tuple that a valuation makes of a row
-- a valuation gives each symbol of each attribute a value
abbrev pub image : ℕ → (ℕ → ℕ → List ℕ) → SymbolRow → Tuple
image n v row = map (λ k. v k (symbol_at row k)) (range_with_len 0 n)

length-image : (n : ℕ) (v : ℕ → ℕ → List ℕ) (row : SymbolRow) → length (image n v row) ≡ n
length-image n v row = length-map-range_with_len (λ (k : ℕ). v k (symbol_at row k)) 0 n

value_at-image : (n : ℕ) (v : ℕ → ℕ → List ℕ) (row : SymbolRow) (k : ℕ) → k < n → value_at (image n v row) k ≡ v k (symbol_at row k)
value_at-image n v row k h = get_or-map-range_with_len (λ (j : ℕ). v j (symbol_at row j)) 0 n k k [] h (omega arith)

value_at-image_past : (n : ℕ) (v : ℕ → ℕ → List ℕ) (row : SymbolRow) (k : ℕ) → n ≤ k → value_at (image n v row) k ≡ []
value_at-image_past n v row k past = get_or_past (image n v row) k [] (omega (arith, length-image n v row, past))

same_images : (n : ℕ) (v : ℕ → ℕ → List ℕ) (p q : SymbolRow) → ((k : ℕ) → k < n → v k (symbol_at p k) ≡ v k (symbol_at q k)) → image n v p ≡ image n v q
same_images n v p q same =
    same_tuple-Contains n (image n v p) (image n v q) (length-image n v p) (length-image n v q) (λ (k : ℕ) l. value_at-image n v p k l ∙ same k l ∙ sym (value_at-image n v q k l))

images_agree : (n : ℕ) (v : ℕ → ℕ → List ℕ) (x : Attributes) (p q : SymbolRow) → SymbolsAgree x p q → AgreeOn x (image n v p) (image n v q)
images_agree n v x p q agree k m = elim (cases_lt k n) [
  | inl low ↦ value_at-image n v p k low ∙ ap (λ (s : ℕ). v k s) (agree k m) ∙ sym (value_at-image n v q k low)
  | inr past ↦ value_at-image_past n v p k past ∙ sym (value_at-image_past n v q k past)
]

-- ---- each step keeps the images of the rows in a legal relation
-- a row of n symbols whose image is in the relation
abbrev pub HasImage : ℕ → (ℕ → ℕ → List ℕ) → Relation → SymbolRow → Type 0
HasImage n v r row = (length row ≡ n) × Contains r (image n v row)

image_fd : (n : ℕ) (ds : List Dependency) (v : ℕ → ℕ → List ℕ) (r : Relation) → IsLegal n ds r → (t s : Tableau) → IsFunctionalStep ds t s → Each (HasImage n v r) t → Each (HasImage n v r) s
image_fd n ds v r legal t s functional each =
    let step = functional.step in
    let a = step.attribute in
    let p = step.first in
    let q = step.second in
    let obeys : Obeys n (fd functional.lhs functional.rhs) r = All-contains (λ (d : Dependency). Obeys n d r) ds (fd functional.lhs functional.rhs) legal.obeys functional.given in
    let p_has = each p step.first_in in
    let q_has = each q step.second_in in
    let low : a < n = elim (cases_lt a n) [
      | inl low ↦ low
      | inr past ↦ absurd (omega (arith, step.differ, symbol_at_past q a (omega (arith, past, q_has.0))))
    ] in
    let values = obeys (image n v p) (image n v q) p_has.1 q_has.1 (images_agree n v functional.lhs p q step.agree) a step.member in
    let alike : v a (symbol_at q a) ≡ v a (symbol_at p a) = sym (value_at-image n v q a low) ∙ sym values ∙ value_at-image n v p a low in
    Each-fd (HasImage n v r) functional.lhs functional.rhs t s step (λ (row : SymbolRow) row_in.
    let has = each row row_in in
    let after = replace_in_row a (symbol_at q a) (symbol_at p a) row in
    let same : image n v row ≡ image n v after = same_images n v row after (λ (k : ℕ) l. sym (replaced_image v a (symbol_at q a) (symbol_at p a) row k alike)) in
    (length-replace_in_row a (symbol_at q a) (symbol_at p a) row ∙ has.0, subst (λ (u : Tuple). Contains r u) same has.1))

-- the image of an exchanged row
exchanged_value : (n : ℕ) (v : ℕ → ℕ → List ℕ) (z : Attributes) (p q : SymbolRow) (w : Tuple) → AgreeOn z w (image n v p) → AgreeOn (difference (below n) z) w (image n v q) → (k : ℕ) → k < n
    → value_at w k ≡ v k (cond (z k) (symbol_at p k) (symbol_at q k))
exchanged_value n v z p q w on_z on_rest k low = elim (cases_Bool (z k)) [
  | inl m ↦ on_z k m ∙ value_at-image n v p k low ∙ ap (λ (b : Bool). v k (cond b (symbol_at p k) (symbol_at q k))) (sym m)
  | inr out ↦ let rest : difference (below n) z k ≡ true = grind (arith, nat_tests, low, out) in on_rest k rest ∙ value_at-image n v q k low ∙ ap (λ (b : Bool). v k (cond b (symbol_at p k) (symbol_at q k))) (sym out)
]

image_mvd : (n : ℕ) (ds : List Dependency) (v : ℕ → ℕ → List ℕ) (r : Relation) → IsLegal n ds r → (t s : Tableau) → IsMultivaluedStep n ds t s → Each (HasImage n v r) t → Each (HasImage n v r) s
image_mvd n ds v r legal t s multivalued each =
    let step = multivalued.step in
    let p = step.first in
    let q = step.second in
    let z = union multivalued.lhs multivalued.rhs in
    let obeys : Obeys n (mvd multivalued.lhs multivalued.rhs) r = All-contains (λ (d : Dependency). Obeys n d r) ds (mvd multivalued.lhs multivalued.rhs) legal.obeys multivalued.given in
    let w = obeys (image n v p) (image n v q) (each p step.first_in).1 (each q step.second_in).1 (images_agree n v multivalued.lhs p q step.agree) in
    let over : length w.0 ≡ n = All-contains (λ (u : Tuple). length u ≡ n) r w.0 legal.over w.1 in
    let same : w.0 ≡ image n v (exchange_rows n z p q) = same_tuple-Contains n w.0 (image n v (exchange_rows n z p q)) over (length-image n v (exchange_rows n z p q)) (λ (k : ℕ) l.
    exchanged_value n v z p q w.0 w.2 w.3 k l ∙ ap (λ (s : ℕ). v k s) (sym (symbol_at-exchange_rows n z p q k l)) ∙ sym (value_at-image n v (exchange_rows n z p q) k l)) in
    Each-mvd (HasImage n v r) n multivalued.lhs multivalued.rhs t s step each (length-exchange_rows n z p q, subst (λ (u : Tuple). Contains r u) same w.1)

image_step : (n : ℕ) (ds : List Dependency) (v : ℕ → ℕ → List ℕ) (r : Relation) → IsLegal n ds r → (t s : Tableau) → IsChaseStep n ds t s → Each (HasImage n v r) t → Each (HasImage n v r) s
image_step n ds v r legal t s (inl step) each = image_fd n ds v r legal t s step each
image_step n ds v r legal t s (inr step) each = image_mvd n ds v r legal t s step each

-- ---- a tuple of the join gives a valuation of the plan's tableau
-- a tuple of the relation that agrees with t on a scheme
abbrev pub StandsFor : Relation → Tuple → Attributes → Tuple → Type 0
StandsFor r t scheme u = Contains r u × AgreeOn scheme u t

StandsFor-exists : (r : Relation) (t : Tuple) (scheme : Attributes) → Contains (projection scheme r) (project_tuple scheme t) → (u : Tuple) × StandsFor r t scheme u
StandsFor-exists r t scheme h =
    let w = map-member (project_tuple scheme) r (project_tuple scheme t) h in
    (w.0, (w.1, λ (k : ℕ) m. sym (value_in-project_tuple scheme w.0 k m) ∙ ap (λ (u : Tuple). value_in scheme u k) w.2 ∙ value_in-project_tuple scheme t k m))

StandsFor-all : (r : Relation) (t : Tuple) (plan : List Attributes) → AllZip (λ scheme table. Contains table (project_tuple scheme t)) plan (projections plan r) → (us : List Tuple) × AllZip (StandsFor r t) plan us
StandsFor-all r t [] h = ([], tt)
StandsFor-all r t (scheme ∷ plan) h =
    let u = StandsFor-exists r t scheme h.0 in
    let us = StandsFor-all r t plan h.1 in
    (u.0 ∷ us.0, (u.1, us.1))

-- the value of a symbol: that of t for the distinguished one, else that of the tuple of the scheme
valuation : Tuple → List Tuple → ℕ → ℕ → List ℕ
valuation t us k zero = value_at t k
valuation t us k (suc i) = value_at (get_or us i []) k

valuation-zero : (t : Tuple) (us : List Tuple) (k : ℕ) → valuation t us k 0 ≡ value_at t k
unfolding valuation
valuation-zero t us k = refl

valuation-scheme : (t : Tuple) (us : List Tuple) (k i : ℕ) → valuation t us k (suc i) ≡ value_at (get_or us i []) k
unfolding valuation
valuation-scheme t us k i = refl

scheme_value : (n : ℕ) (v : ℕ → ℕ → List ℕ) (r : Relation) (t u : Tuple) (scheme : Attributes) (i k : ℕ) → StandsFor r t scheme u → v k 0 ≡ value_at t k → v k i ≡ value_at u k
    → v k (cond (scheme k) 0 i) ≡ value_at u k
scheme_value n v r t u scheme i k has at_zero at_i = elim (cases_Bool (scheme k)) [
  | inl m ↦ ap (λ (b : Bool). v k (cond b 0 i)) m ∙ at_zero ∙ sym (has.1 k m)
  | inr out ↦ ap (λ (b : Bool). v k (cond b 0 i)) out ∙ at_i
]

start_images : (n : ℕ) (v : ℕ → ℕ → List ℕ) (ds : List Dependency) (r : Relation) (t : Tuple) → IsLegal n ds r → ((k : ℕ) → v k 0 ≡ value_at t k)
    → (i : ℕ) (plan : List Attributes) (us : List Tuple) → ((j k : ℕ) → v k (i + j) ≡ value_at (get_or us j []) k) → AllZip (StandsFor r t) plan us → Each (HasImage n v r) (scheme_rows n i plan)
start_images n v ds r t legal at_zero i [] us at_later all row h = absurd (omega (arith, h.1))
start_images n v ds r t legal at_zero i (scheme ∷ plan) [] at_later all row h = absurd all
start_images n v ds r t legal at_zero i (scheme ∷ plan) (u ∷ us) at_later all row h = ⊎_elim
    (λ (e : scheme_row n scheme i ≡ row).
    let over : length u ≡ n = All-contains (λ (w : Tuple). length w ≡ n) r u legal.over all.0.0 in
    let here : i + 0 ≡ i = omega arith in
    let same : u ≡ image n v (scheme_row n scheme i) = same_tuple-Contains n u (image n v (scheme_row n scheme i)) over (length-image n v (scheme_row n scheme i)) (λ (k : ℕ) l.
    sym (scheme_value n v r t u scheme i k all.0 (at_zero k) (ap (λ (j : ℕ). v k j) (sym here) ∙ at_later 0 k))
    ∙ ap (λ (s : ℕ). v k s) (sym (symbol_at-scheme_row n scheme i k l)) ∙ sym (value_at-image n v (scheme_row n scheme i) k l)) in
    subst (HasImage n v r) e (length-scheme_row n scheme i, subst (λ (w : Tuple). Contains r w) same all.0.0))
    (start_images n v ds r t legal at_zero (suc i) plan us (λ (j k : ℕ). let next : suc i + j ≡ i + suc j = omega arith in ap (λ (s : ℕ). v k s) next ∙ at_later (suc j) k) all.1 row)
    (cons_cases (scheme_row n scheme i) (scheme_rows n (suc i) plan) row h)

-- ---- the theorem
gained_in : (n : ℕ) (ds : List Dependency) (plan : List Attributes) (s : Tableau) → ReachesTableau n ds plan s → Contains s (distinguished_row n) → (r : Relation) → IsLegal n ds r → (t : Tuple)
    → InJoin n plan (projections plan r) t → Contains r t
gained_in n ds plan s reached given r legal t joined =
    let us = StandsFor-all r t plan joined.in_each in
    let v = valuation t us.0 in
    let start = start_images n v ds r t legal (valuation-zero t us.0) 1 plan us.0 (λ (j k : ℕ). let next : 1 + j ≡ suc j = omega arith in ap (λ (i : ℕ). v k i) next ∙ valuation-scheme t us.0 k j) us.1 in
    let all = holds_after_steps (IsChaseStep n ds) (Each (HasImage n v r)) (Each-same (HasImage n v r)) (image_step n ds v r legal) reached.0 (plan_tableau n plan) s reached.1 start in
    let same : image n v (distinguished_row n) ≡ t = same_tuple-Contains n (image n v (distinguished_row n)) t (length-image n v (distinguished_row n)) joined.over (λ (k : ℕ) l.
    value_at-image n v (distinguished_row n) k l ∙ ap (λ (i : ℕ). v k i) (symbol_at-distinguished_row n k l) ∙ valuation-zero t us.0 k) in
    subst (λ (u : Tuple). Contains r u) same (all (distinguished_row n) given).1

pub lossless_from_distinguished : (n : ℕ) (ds : List Dependency) (plan : List Attributes) (s : Tableau) → Covers n plan → ReachesTableau n ds plan s → Contains s (distinguished_row n) → IsLossless n ds plan
lossless_from_distinguished n ds plan s covers reached given = record { covers = covers; gains_none = gained_in n ds plan s reached given }
