-- The rows of a sample: which there are, how many, and that they obey the dependencies.
use Rattle.std.proofs.Common.{inl, inr, ◌≡◌, ◌+◌, ◌*◌, ◌%◌, ◌^◌, ◌<◌, ◌≤◌, ℕ, zero, suc, true, true≢false, [], ◌∷◌, ◌++◌, length, get_or, append_assoc, append-nil, length-append, add-one, refl, sym, ap, subst, ◌∙◌, arith}
use Rattle.std.specs.Prelude.{All, AllPairs, Contains}
use Rattle.std.specs.List.{flat_map, range_with_len}
use Rattle.std.specs.Fmt.{decimal}
use Rattle.std.proofs.lemmas.Bool.{cases_lt, eqb-true}
use Rattle.std.proofs.lemmas.Fmt.{decimal_injective}
use Rattle.std.proofs.lemmas.List.Elements.{Contains-append_cases, Contains-append_left, Contains-append_right, Contains-get_or}
use Rattle.attr_sets.specs.Attributes.{below, only, union, difference}
use Rattle.dep_model.specs.Tuples.{Tuple, Relation, IsOver, AgreeOn, value_at}
use Rattle.dep_model.specs.Dependencies.{ObeysFd, ObeysMvd, Obeys}
use Rattle.dep_model.specs.Implication.{IsLegal}
use Rattle.dep_model.proofs.PairLemmas.{all_pairs_cons}
use Rattle.dep_model.proofs.ListLemmas.{Contains-cases, Contains-head, Contains-later}
use Rattle.sample_rows.specs.Sample.{sample_row, person_rows, sample_relation, sample_theory}

-- ---- one person more
relation_more : (from n : ℕ) → flat_map person_rows (range_with_len from (suc n))
    ≡ flat_map person_rows (range_with_len from n) ++ person_rows (from + n)
relation_more from zero = append-nil (person_rows from) ∙ ap person_rows at
  where
    at : from ≡ from + 0
    at = omega arith
relation_more from (suc n) =
    let at : (from + 1) + n ≡ from + suc n = omega arith in
    ap (λ (r : Relation). person_rows from ++ r) (relation_more (from + 1) n)
    ∙ sym (append_assoc (person_rows from) (flat_map person_rows (range_with_len (from + 1) n))
    (person_rows ((from + 1) + n)))
    ∙ ap (λ (i : ℕ). (person_rows from ++ flat_map person_rows (range_with_len (from + 1) n)) ++ person_rows i) at

pub person_more : (n : ℕ) → sample_relation (n + 1) ≡ sample_relation n ++ person_rows n
person_more n =
    let at : 0 + n ≡ n = omega arith in
    rw add-one (relation_more 0 n ∙ ap (λ (i : ℕ). sample_relation n ++ person_rows i) at)

rows_counted : (from n : ℕ) → length (flat_map person_rows (range_with_len from n)) ≡ 4 * n
rows_counted from zero = refl
rows_counted from (suc n) =
    let later : Relation = flat_map person_rows (range_with_len (from + 1) n) in
    omega (arith, length-append (person_rows from) later, rows_counted (from + 1) n)

pub row_count : (n : ℕ) → length (sample_relation n) ≡ 4 * n
row_count n = rows_counted 0 n

-- ---- which rows there are
record IsRow (from end : ℕ) (t : Tuple) : Type 0 where
  person : ℕ
  skill : ℕ
  tongue : ℕ
  after : from ≤ person
  before : person < end
  skills_within_limit : skill < 2
  tongues_within_limit : tongue < 2
  is : t ≡ sample_row person skill tongue

row_is : (i a b : ℕ) (t : Tuple) → a < 2 → b < 2 → t ≡ sample_row i a b → IsRow i (i + 1) t
row_is i a b t a_within_limit b_within_limit e = record {
  person = i;
  skill = a;
  tongue = b;
  after = omega arith;
  before = omega arith;
  skills_within_limit = a_within_limit;
  tongues_within_limit = b_within_limit;
  is = e;
}

among_more : (from end first last : ℕ) (t : Tuple) → first ≤ from → end ≤ last → IsRow from end t → IsRow first last t
among_more from end first last t low high r = record {
  person = r.person;
  skill = r.skill;
  tongue = r.tongue;
  after = omega (arith, low, r.after);
  before = omega (arith, high, r.before);
  skills_within_limit = r.skills_within_limit;
  tongues_within_limit = r.tongues_within_limit;
  is = r.is;
}

of_person : (i : ℕ) (t : Tuple) → Contains (person_rows i) t → IsRow i (i + 1) t
of_person i t h =
    elim (Contains-cases (sample_row i 0 0) (sample_row i 0 1 ∷ sample_row i 1 0 ∷ sample_row i 1 1 ∷ []) t h) [
      | inl e ↦ row_is i 0 0 t (omega arith) (omega arith) e
      | inr later ↦ elim (Contains-cases (sample_row i 0 1) (sample_row i 1 0 ∷ sample_row i 1 1 ∷ []) t later) [
        | inl e ↦ row_is i 0 1 t (omega arith) (omega arith) e
        | inr later ↦ elim (Contains-cases (sample_row i 1 0) (sample_row i 1 1 ∷ []) t later) [
          | inl e ↦ row_is i 1 0 t (omega arith) (omega arith) e
          | inr later ↦ elim (Contains-cases (sample_row i 1 1) [] t later) [
            | inl e ↦ row_is i 1 1 t (omega arith) (omega arith) e
            | inr none ↦ absurd (omega (arith, none.1))
          ]
        ]
      ]
    ]

row_from : (from n : ℕ) (t : Tuple) → Contains (flat_map person_rows (range_with_len from n)) t
    → IsRow from (from + n) t
row_from from zero t h = absurd (omega (arith, h.1))
row_from from (suc n) t h =
    elim (Contains-append_cases (person_rows from) (flat_map person_rows (range_with_len (from + 1) n)) t h) [
      | inl here ↦ among_more from (from + 1) from (from + suc n) t (omega arith) (omega arith) (of_person from t here)
      | inr later ↦ among_more (from + 1) ((from + 1) + n) from (from + suc n) t (omega arith) (omega arith)
          (row_from (from + 1) n t later)
    ]

row_of : (n : ℕ) (t : Tuple) → Contains (sample_relation n) t → IsRow 0 n t
row_of n t h =
    let at : 0 + n ≡ n = omega arith in
    subst (λ (end : ℕ). IsRow 0 end t) at (row_from 0 n t h)

in_person : (i a b : ℕ) → a < 2 → b < 2 → Contains (person_rows i) (sample_row i a b)
in_person i zero zero la lb =
    Contains-head (sample_row i 0 0) (sample_row i 0 1 ∷ sample_row i 1 0 ∷ sample_row i 1 1 ∷ [])
in_person i zero (suc zero) la lb =
    Contains-later (sample_row i 0 0) (sample_row i 0 1 ∷ sample_row i 1 0 ∷ sample_row i 1 1 ∷ []) (sample_row i 0 1)
    (Contains-head (sample_row i 0 1) (sample_row i 1 0 ∷ sample_row i 1 1 ∷ []))
in_person i (suc zero) zero la lb =
    Contains-later (sample_row i 0 0) (sample_row i 0 1 ∷ sample_row i 1 0 ∷ sample_row i 1 1 ∷ []) (sample_row i 1 0)
    (Contains-later (sample_row i 0 1) (sample_row i 1 0 ∷ sample_row i 1 1 ∷ []) (sample_row i 1 0)
    (Contains-head (sample_row i 1 0) (sample_row i 1 1 ∷ [])))
in_person i (suc zero) (suc zero) la lb =
    Contains-later (sample_row i 0 0) (sample_row i 0 1 ∷ sample_row i 1 0 ∷ sample_row i 1 1 ∷ []) (sample_row i 1 1)
    (Contains-later (sample_row i 0 1) (sample_row i 1 0 ∷ sample_row i 1 1 ∷ []) (sample_row i 1 1)
    (Contains-later (sample_row i 1 0) (sample_row i 1 1 ∷ []) (sample_row i 1 1)
    (Contains-head (sample_row i 1 1) [])))
in_person i (suc (suc a)) b la lb = absurd (omega (arith, la))
in_person i zero (suc (suc b)) la lb = absurd (omega (arith, lb))
in_person i (suc zero) (suc (suc b)) la lb = absurd (omega (arith, lb))

in_rows : (from n i : ℕ) (t : Tuple) → from ≤ i → i < from + n → Contains (person_rows i) t
    → Contains (flat_map person_rows (range_with_len from n)) t
in_rows from zero i t low high h = absurd (omega (arith, low, high))
in_rows from (suc n) i t low high h = elim (cases_lt from i) [
  | inl later ↦ Contains-append_right (person_rows from) (flat_map person_rows (range_with_len (from + 1) n)) t
      (in_rows (from + 1) n i t (omega (arith, later)) (omega (arith, high)) h)
  | inr here ↦
      let at : i ≡ from = omega (arith, here, low) in
      Contains-append_left (person_rows from) (flat_map person_rows (range_with_len (from + 1) n)) t
      (subst (λ (k : ℕ). Contains (person_rows k) t) at h)
]

-- ---- texts of numbers
same_number : (letter m n : ℕ) → m < 2 ^ 64 → n < 2 ^ 64 → letter ∷ decimal m ≡ letter ∷ decimal n → m ≡ n
same_number letter m n m_within_limit n_within_limit e =
    let digits : decimal m ≡ decimal n = cc in
    decimal_injective m n m_within_limit n_within_limit digits

-- ---- the dependencies
persons_of : (n : ℕ) (t u : Tuple) → n < 2 ^ 64 → (rt : IsRow 0 n t) → (ru : IsRow 0 n u) → AgreeOn (only 0) t u
    → rt.person ≡ ru.person
persons_of n t u within_limit rt ru agree =
    same_number 112 rt.person ru.person (omega (arith, within_limit, rt.before)) (omega (arith, within_limit, ru.before))
    (sym (ap (λ (v : Tuple). value_at v 0) rt.is) ∙ agree 0 refl ∙ ap (λ (v : Tuple). value_at v 0) ru.is)

city_obeyed : (n : ℕ) → n < 2 ^ 64 → ObeysFd (only 0) (only 1) (sample_relation n)
city_obeyed n within_limit t u t_in u_in agree k member =
    let rt = row_of n t t_in in
    let ru = row_of n u u_in in
    let at : k ≡ 1 = eqb-true k 1 member in
    let same : rt.person ≡ ru.person = persons_of n t u within_limit rt ru agree in
    let cities : value_at t 1 ≡ value_at u 1 =
    ap (λ (v : Tuple). value_at v 1) rt.is ∙ ap (λ (i : ℕ). 99 ∷ decimal (i % 100)) same
    ∙ sym (ap (λ (v : Tuple). value_at v 1) ru.is) in
    subst (λ (j : ℕ). value_at t j ≡ value_at u j) (sym at) cities

skill_agrees : (i a b c k : ℕ) → union (only 0) (only 2) k ≡ true
    → value_at (sample_row i a b) k ≡ value_at (sample_row i a c) k
skill_agrees i a b c zero h = refl
skill_agrees i a b c (suc zero) h = refl
skill_agrees i a b c (suc (suc zero)) h = refl
skill_agrees i a b c (suc (suc (suc zero))) h = absurd (true≢false (sym h))
skill_agrees i a b c (suc (suc (suc (suc k)))) h = refl

rest_agrees : (i a c b k : ℕ) → difference (below 4) (union (only 0) (only 2)) k ≡ true
    → value_at (sample_row i a b) k ≡ value_at (sample_row i c b) k
rest_agrees i a c b zero h = refl
rest_agrees i a c b (suc zero) h = refl
rest_agrees i a c b (suc (suc zero)) h = absurd (true≢false (sym h))
rest_agrees i a c b (suc (suc (suc zero))) h = refl
rest_agrees i a c b (suc (suc (suc (suc k)))) h = refl

skill_obeyed : (n : ℕ) → n < 2 ^ 64 → ObeysMvd (below 4) (only 0) (only 2) (sample_relation n)
skill_obeyed n within_limit t u t_in u_in agree =
    let rt = row_of n t t_in in
    let ru = row_of n u u_in in
    let same : rt.person ≡ ru.person = persons_of n t u within_limit rt ru agree in
    let v : Tuple = sample_row rt.person rt.skill ru.tongue in
    let there : Contains (sample_relation n) v = in_rows 0 n rt.person v (omega arith) (omega (arith, rt.before))
    (in_person rt.person rt.skill ru.tongue rt.skills_within_limit ru.tongues_within_limit) in (
      v,
      there,
      subst (λ (w : Tuple). AgreeOn (union (only 0) (only 2)) v w) (sym rt.is)
          (λ k. skill_agrees rt.person rt.skill ru.tongue rt.tongue k),
      subst (λ (w : Tuple). AgreeOn (difference (below 4) (union (only 0) (only 2))) v w)
          (ap (λ (i : ℕ). sample_row i ru.skill ru.tongue) same ∙ sym ru.is)
          (λ k. rest_agrees rt.person rt.skill ru.skill ru.tongue k),
    )

each_obeyed : (n : ℕ) → n < 2 ^ 64 → All (λ d. Obeys 4 d (sample_relation n)) sample_theory
each_obeyed n within_limit zero d l = city_obeyed n within_limit
each_obeyed n within_limit (suc zero) d l = skill_obeyed n within_limit
each_obeyed n within_limit (suc (suc k)) d l = absurd (omega (arith, l))

row_over : (n : ℕ) → IsOver 4 (sample_relation n)
row_over n i d l =
    let r = row_from 0 n (get_or (sample_relation n) i d) (Contains-get_or (sample_relation n) i d l) in
    ap length r.is

sample_legal : (n : ℕ) → n < 2 ^ 64 → IsLegal 4 sample_theory (sample_relation n)
sample_legal n within_limit = record { over = row_over n; obeys = each_obeyed n within_limit }

pub rows_legal : (n : ℕ) (r : Relation) → n < 2 ^ 64 → r ≡ sample_relation n → IsLegal 4 sample_theory r
rows_legal n r within_limit is = subst (IsLegal 4 sample_theory) (sym is) (sample_legal n within_limit)

-- ---- no two rows are equal
abbrev Differ : Tuple → Tuple → Type 0
Differ t u = t ≡ u → ⊥

other_skill : (i b c : ℕ) → Differ (sample_row i 0 b) (sample_row i 1 c)
other_skill i b c e =
    let skills : (3 * i + 0) % 50 ≡ (3 * i + 1) % 50 =
    same_number 115 ((3 * i + 0) % 50) ((3 * i + 1) % 50) (omega arith) (omega arith)
    (ap (λ (v : Tuple). value_at v 2) e) in
    omega (arith, skills)

other_tongue : (i a c : ℕ) → Differ (sample_row i a 0) (sample_row i c 1)
other_tongue i a c e =
    let tongues : (7 * i + 0) % 20 ≡ (7 * i + 1) % 20 =
    same_number 108 ((7 * i + 0) % 20) ((7 * i + 1) % 20) (omega arith) (omega arith)
    (ap (λ (v : Tuple). value_at v 3) e) in
    omega (arith, tongues)

other_person : (i a b from end : ℕ) (t : Tuple) → i < from → end < 2 ^ 64 → IsRow from end t
    → Differ (sample_row i a b) t
other_person i a b from end t before within_limit r e =
    let persons : i ≡ r.person = same_number 112 i r.person (omega (arith, before, r.after, r.before, within_limit))
    (omega (arith, r.before, within_limit)) (ap (λ (v : Tuple). value_at v 0) (e ∙ r.is)) in
    omega (arith, persons, before, r.after)

-- the rows of a person, before rows of others
four_differ : (i : ℕ) (rest : Relation) → ((a b : ℕ) (t : Tuple) → Contains rest t → Differ (sample_row i a b) t)
    → AllPairs Differ rest → AllPairs Differ (person_rows i ++ rest)
four_differ i rest apart differ =
    all_pairs_cons Differ (sample_row i 0 0) (sample_row i 0 1 ∷ sample_row i 1 0 ∷ sample_row i 1 1 ∷ rest)
    (λ t h e. elim (Contains-cases (sample_row i 0 1) (sample_row i 1 0 ∷ sample_row i 1 1 ∷ rest) t h) [
      | inl is ↦ other_tongue i 0 0 (e ∙ is)
      | inr h ↦ elim (Contains-cases (sample_row i 1 0) (sample_row i 1 1 ∷ rest) t h) [
        | inl is ↦ other_skill i 0 0 (e ∙ is)
        | inr h ↦ elim (Contains-cases (sample_row i 1 1) rest t h) [
          | inl is ↦ other_skill i 0 1 (e ∙ is)
          | inr h ↦ apart 0 0 t h e
        ]
      ]
    ])
    (all_pairs_cons Differ (sample_row i 0 1) (sample_row i 1 0 ∷ sample_row i 1 1 ∷ rest)
    (λ t h e. elim (Contains-cases (sample_row i 1 0) (sample_row i 1 1 ∷ rest) t h) [
      | inl is ↦ other_skill i 1 0 (e ∙ is)
      | inr h ↦ elim (Contains-cases (sample_row i 1 1) rest t h) [
        | inl is ↦ other_skill i 1 1 (e ∙ is)
        | inr h ↦ apart 0 1 t h e
      ]
    ])
    (all_pairs_cons Differ (sample_row i 1 0) (sample_row i 1 1 ∷ rest)
    (λ t h e. elim (Contains-cases (sample_row i 1 1) rest t h) [
      | inl is ↦ other_tongue i 1 1 (e ∙ is)
      | inr h ↦ apart 1 0 t h e
    ])
    (all_pairs_cons Differ (sample_row i 1 1) rest (λ t h e. apart 1 1 t h e) differ)))

differ_from : (from n : ℕ) → from + n < 2 ^ 64 → AllPairs Differ (flat_map person_rows (range_with_len from n))
differ_from from zero within_limit = λ i j d less low. absurd (omega (arith, low))
differ_from from (suc n) within_limit =
    four_differ from (flat_map person_rows (range_with_len (from + 1) n))
    (λ a b t h. other_person from a b (from + 1) ((from + 1) + n) t (omega arith) (omega (arith, within_limit))
    (row_from (from + 1) n t h))
    (differ_from (from + 1) n (omega (arith, within_limit)))

pub rows_differ : (n : ℕ) (r : Relation) → n < 2 ^ 64 → r ≡ sample_relation n → AllPairs Differ r
rows_differ n r within_limit is =
    let short : 0 + n < 2 ^ 64 = omega (arith, within_limit) in
    subst (AllPairs Differ) (sym is) (differ_from 0 n short)
