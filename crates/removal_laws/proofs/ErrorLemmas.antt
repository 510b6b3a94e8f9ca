-- The error of a dependency: there is one, it is none where the rows obey, and it never grows with the left side.
use Rattle.std.proofs.Common.{◌≡◌, ◌↔◌, ℕ, ◌+◌, ◌≤◌, true, false, [], ◌∷◌, length, refl, sym, ap, subst, ⊎_elim, arith}
use Rattle.std.proofs.lemmas.Bool.{cases_Bool}
use Rattle.attr_sets.specs.Attributes.{Attributes, IsSubset}
use Rattle.dep_model.specs.Dependencies.{Dependency, Obeys, ObeysFd, fd}
use Rattle.dep_model.specs.Tuples.{Tuple, Relation}
use Rattle.removal_laws.specs.Errors.{IsError}
use Rattle.removal_laws.specs.Removals.{Positions, rows_at, rows_from}

pub same_error : (n : ℕ) (r : Relation) (d : Dependency) (one other : ℕ) → IsError n r d one → IsError n r d other → one ≡ other
same_error n r d one other first second =
    omega (arith, first.others, second.others, first.least.most second.stays second.least.obeys, second.least.most first.stays first.least.obeys)

pub error_smaller : (n : ℕ) (r : Relation) (v x y : Attributes) (larger smaller : ℕ) → IsSubset v x
    → IsError n r (fd v y) larger → IsError n r (fd x y) smaller → smaller ≤ larger
error_smaller n r v x y larger smaller inside first second =
    let obeys : ObeysFd x y (rows_at first.stays r) =
    λ t u t_in u_in agree. first.least.obeys t u t_in u_in (λ k m. agree k (inside k m)) in
    omega (arith, first.others, second.others, second.least.most first.stays obeys)

-- ---- no error
few_stay : (i : ℕ) (stays : Positions) (r : Relation) → length (rows_from i stays r) ≤ length r
unfolding rows_from
few_stay i stays [] = omega arith
few_stay i stays (t ∷ r) =
    let rest = few_stay (i + 1) stays r in
    ⊎_elim
    (λ (here : stays i ≡ true). rw here (omega (arith, rest)))
    (λ (gone : stays i ≡ false). rw gone (omega (arith, rest)))
    (cases_Bool (stays i))

stays_length : (i : ℕ) (stays : Positions) (t : Tuple) (r : Relation) → stays i ≡ true
    → length (rows_from i stays (t ∷ r)) ≡ 1 + length (rows_from (i + 1) stays r)
unfolding rows_from
stays_length i stays t r here = rw here (omega arith)

goes_length : (i : ℕ) (stays : Positions) (t : Tuple) (r : Relation) → stays i ≡ false
    → length (rows_from i stays (t ∷ r)) ≡ length (rows_from (i + 1) stays r)
unfolding rows_from
goes_length i stays t r gone = rw gone refl

all_stay : (i : ℕ) (stays : Positions) (r : Relation) → length (rows_from i stays r) ≡ length r → rows_from i stays r ≡ r
unfolding rows_from
all_stay i stays [] same = refl
all_stay i stays (t ∷ r) same =
    ⊎_elim
    (λ (here : stays i ≡ true). rw here (ap (λ (s : Relation). t ∷ s)
    (all_stay (i + 1) stays r (omega (arith, same, stays_length i stays t r here)))))
    (λ (gone : stays i ≡ false). absurd (omega (arith, few_stay (i + 1) stays r, same, goes_length i stays t r gone)))
    (cases_Bool (stays i))

abbrev every_row : Positions
every_row i = true

all_rows : (i : ℕ) (r : Relation) → rows_from i every_row r ≡ r
unfolding rows_from
all_rows i [] = refl
all_rows i (t ∷ r) = ap (λ (s : Relation). t ∷ s) (all_rows (i + 1) r)

pub none_where_obeyed : (n : ℕ) (r : Relation) (d : Dependency) → IsError n r d 0 ↔ Obeys n d r
none_where_obeyed n r d = (
  λ none. subst (Obeys n d) (all_stay 0 none.stays r (omega (arith, none.others))) none.least.obeys,
  λ obeys. record {
    stays = every_row;
    least = record {
      obeys = subst (Obeys n d) (sym (all_rows 0 r)) obeys;
      most = λ other _. omega (arith, few_stay 0 other r, ap length (all_rows 0 r));
    };
    others = omega (arith, ap length (all_rows 0 r));
  },
)
