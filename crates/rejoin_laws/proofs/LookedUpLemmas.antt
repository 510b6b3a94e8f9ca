-- What a tuple has in tables that are looked up by their keys: its row, or nothing of theirs.
use Rattle.std.proofs.Common.{◌≡◌, ℕ, ◌==◌, ◌&&◌, Bool, true, false, true≢false, not, List, [], ◌∷◌, length, map, cond, refl, sym, ap, subst, ◌∙◌, inl, inr, arith}
use Rattle.std.specs.Prelude.{All, Contains}
use Rattle.std.specs.List.{AllZip}
use Rattle.std.proofs.lemmas.Bool.{cases_Bool, and_from, and_parts, eqb-true, false_from_ne_true, not_from_false, not-true}
use Rattle.std.proofs.lemmas.List.{nil_from_length}
use Rattle.std.proofs.lemmas.List.Elements.{All-head, All-tail}
use Rattle.attr_sets.specs.Attributes.{Attributes, intersection, union}
use Rattle.attr_sets.specs.Sets.{attributes}
use Rattle.dep_model.specs.OnSchemes.{value_in}
use Rattle.dep_model.specs.Projections.{members_below, project_tuple}
use Rattle.dep_model.specs.Tuples.{Tuple, Relation, value_at}
use Rattle.dep_model.proofs.JoinLemmas.{map_members-same}
use Rattle.dep_model.proofs.ListLemmas.{Contains-head}
use Rattle.dep_model.proofs.SchemeLemmas.{value_in-project_tuple}
use Rattle.optional_tables.specs.declared.keyed.KeyedScheme.{KeyedScheme}
use Rattle.optional_tables.specs.Homes.{has_outside_key}
use Rattle.optional_tables.specs.LookUps.{FitsAs, HasKeyOf, IsNotFound, empty_values}
use Rattle.optional_tables.specs.LookUps as whole
use Rattle.table_join.specs.Joins.{agree_on_shared, combine_tuples, value_of_both}
use Rattle.table_join.specs.LookUps.{found_for, look_up, look_ups, misses_none, with_empty_values}
use Rattle.table_join.specs.Tables.{PartialRelation, IsTable}
use Rattle.table_join.proofs.JoinLemmas.{Has, length_in, with_each-has, with_each-member}
use Rattle.table_join.proofs.LookUpLemmas.{ComesOf, all_pass, each_passes, found_for-has, found_for-member, look_up-alone, look_up-found, look_up-member, look_up-scheme, look_up-table}
use Rattle.table_join.proofs.ValueLemmas.{agree_on_shared-from, agree_on_shared-projections, agree_on_shared-to, combine_tuples-projections, low_attribute, or_second, projection-first, projection-second, second_member, value_listed}
use Rattle.rejoin_laws.specs.ByKeys.{AreLookedUpByKeys, IsLookedUpByKey, IsOver}

-- ---- lists
nothing_in : {X : Type 0} (xs : List X) → ((x : X) → Contains xs x → ⊥) → xs ≡ []
nothing_in [] none = refl
nothing_in (x ∷ xs) none = absurd (none x (Contains-head x xs))

empty_value : (v : List ℕ) → (length v == 0) ≡ true → v ≡ []
empty_value v h = nil_from_length v (eqb-true (length v) 0 h)

-- ---- one table
module _ (n : ℕ) (nullable : Attributes) (j b : PartialRelation) (s : KeyedScheme) (is_j : IsTable n j) (is_b : IsTable n b)
    (over : IsOver s b) (by : IsLookedUpByKey nullable j.scheme s) (w : Tuple) (long : length w ≡ n) where
  -- an attribute of the scheme, as the table has it
  in_b : (k : ℕ) → attributes s.scheme k ≡ true → b.scheme k ≡ true
  in_b k m = sym (ap (λ (x : Attributes). x k) over) ∙ m

  in_s : (k : ℕ) → b.scheme k ≡ true → attributes s.scheme k ≡ true
  in_s k m = ap (λ (x : Attributes). x k) over ∙ m

  -- what it has beside its key is not joined before
  beside_is_new : (k : ℕ) → has_outside_key s k ≡ true → j.scheme k ≡ false
  beside_is_new k outside =
      let parts = and_parts (attributes s.scheme k) (not (attributes s.key k)) outside in
      false_from_ne_true (j.scheme k) (λ joined. true≢false (sym (by.shared k joined parts.0) ∙ not-true (attributes s.key k) parts.1))

  new_is_beside : (k : ℕ) → b.scheme k ≡ true → j.scheme k ≡ false → has_outside_key s k ≡ true
  new_is_beside k m out =
      and_from (attributes s.scheme k) (not (attributes s.key k)) (in_s k m)
      (not_from_false (attributes s.key k) (false_from_ne_true (attributes s.key k) (λ key. true≢false (sym (by.within k key) ∙ out))))

  -- that no shared value is missing is that none of the key is
  at_key : (k : ℕ) → j.scheme k ≡ true → value_in j.scheme (project_tuple j.scheme w) k ≡ value_at w k
  at_key k m = value_in-project_tuple j.scheme w k m

  not_and : (a c : Bool) → not (a && c) ≡ true → a ≡ true → not c ≡ true
  not_and true c h m = h
  not_and false c h m = absurd (true≢false (sym m))

  and_not : (a c : Bool) → (a ≡ true → not c ≡ true) → not (a && c) ≡ true
  and_not true c h = h refl
  and_not false c h = refl

  complete_from : misses_none n nullable j.scheme b.scheme (project_tuple j.scheme w) ≡ true
      → whole.misses_none (empty_values nullable) (attributes s.key) w ≡ true
  complete_from none =
      all_pass (λ k. not (empty_values nullable k (value_at w k))) (length w) (attributes s.key) (λ k low key.
      and_not (nullable k) (length (value_at w k) == 0) (λ may.
      ap (λ (v : List ℕ). not (length v == 0)) (sym (at_key k (by.within k key)))
      ∙ each_passes (λ i. not (length (value_in j.scheme (project_tuple j.scheme w) i) == 0)) n
      (intersection nullable (intersection j.scheme b.scheme)) none k (omega (arith, low, long))
      (and_from (nullable k) (j.scheme k && b.scheme k) may
      (and_from (j.scheme k) (b.scheme k) (by.within k key) (in_b k (by.key k key))))))

  complete_to : whole.misses_none (empty_values nullable) (attributes s.key) w ≡ true
      → misses_none n nullable j.scheme b.scheme (project_tuple j.scheme w) ≡ true
  complete_to none =
      all_pass (λ k. not (length (value_in j.scheme (project_tuple j.scheme w) k) == 0)) n
      (intersection nullable (intersection j.scheme b.scheme)) (λ k low m.
      let outer = and_parts (nullable k) (j.scheme k && b.scheme k) m in
      let inner = and_parts (j.scheme k) (b.scheme k) outer.1 in
      ap (λ (v : List ℕ). not (length v == 0)) (at_key k inner.0)
      ∙ not_and (nullable k) (length (value_at w k) == 0)
      (each_passes (λ i. not (empty_values nullable i (value_at w i))) (length w) (attributes s.key) none k (omega (arith, low, long))
      (by.shared k inner.0 (in_s k inner.1))) outer.0)

  -- the row of a tuple is the projection on the scheme
  row_here : project_tuple b.scheme w ≡ project_tuple (attributes s.scheme) w
  row_here = ap (λ (x : Attributes). project_tuple x w) (sym over)

  -- a row has the key of the tuple where it agrees with what is joined before
  agrees_from : (row : Tuple) → HasKeyOf s w row → agree_on_shared n j.scheme b.scheme (project_tuple j.scheme w) row ≡ true
  agrees_from row has =
      agree_on_shared-from n j.scheme b.scheme (project_tuple j.scheme w) row (λ k in_j is_in_b.
      at_key k in_j
      ∙ sym (has k (by.shared k in_j (in_s k is_in_b)))
      ∙ ap (λ (x : Attributes). value_in x row k) over)

  agrees_to : (row : Tuple) → agree_on_shared n j.scheme b.scheme (project_tuple j.scheme w) row ≡ true → HasKeyOf s w row
  agrees_to row agrees k key =
      ap (λ (x : Attributes). value_in x row k) over
      ∙ sym (agree_on_shared-to n j.scheme b.scheme (project_tuple j.scheme w) row agrees k
      (low_attribute n j.scheme k is_j.within (by.within k key)) (by.within k key) (in_b k (by.key k key)))
      ∙ at_key k (by.within k key)

  -- what the tuple has, where it comes of one of the table before
  fits_as : (t : Tuple) → Contains j.rows t
      → ComesOf n nullable j b (project_tuple (union j.scheme b.scheme) w) t
      → Has w j × FitsAs true (empty_values nullable) s b.rows w
  unfolding combine_tuples
  fits_as t t_in (inl found) =
      let is_first = projection-first n j.scheme b.scheme t found.1.0 w is_j.within long (length_in n j t is_j t_in) found.1.3 in
      let is_second = projection-second n j.scheme b.scheme t found.1.0 w is_b.within long (length_in n b found.1.0 is_b found.1.1)
      found.1.2 found.1.3 in (
        subst (Contains j.rows) is_first t_in,
        inl (record {
          complete = complete_from (subst (λ (u : Tuple). misses_none n nullable j.scheme b.scheme u ≡ true) is_first found.0);
          stands = subst (Contains b.rows) (is_second ∙ row_here) found.1.1;
        }),
      )
  fits_as t t_in (inr alone) =
      let is_first = projection-first n j.scheme b.scheme t [] w is_j.within long (length_in n j t is_j t_in) alone.1 in
      let none : found_for n nullable j.scheme b.scheme b.rows (project_tuple j.scheme w) ≡ [] =
      subst (λ (u : Tuple). found_for n nullable j.scheme b.scheme b.rows u ≡ []) is_first alone.0 in (
        subst (Contains j.rows) is_first t_in,
        inr (record {
          none_there = λ complete row row_in has.
              let there = found_for-has n nullable j.scheme b.scheme b.rows (project_tuple j.scheme w)
              (combine_tuples n j.scheme b.scheme (project_tuple j.scheme w) row) (complete_to complete)
              (with_each-has n j.scheme b.scheme b.rows (project_tuple j.scheme w) row row_in (agrees_from row has)) in
              nothing_there (subst (λ (r : Relation). Contains r (combine_tuples n j.scheme b.scheme (project_tuple j.scheme w) row)) none there);
          beside = λ a outside. missing_there a outside alone.1;
        }),
      )
    where
      nothing_there : {X : Type 0} {x : X} → Contains [] x → ⊥
      nothing_there h = absurd (omega (arith, h.1))

      missing_there : (a : ℕ) → has_outside_key s a ≡ true
          → combine_tuples n j.scheme b.scheme t [] ≡ project_tuple (union j.scheme b.scheme) w
          → empty_values nullable a (value_at w a) ≡ true
      missing_there a outside same =
          let m : b.scheme a ≡ true = in_b a (and_parts (attributes s.scheme a) (not (attributes s.key a)) outside).0 in
          let both : union j.scheme b.scheme a ≡ true = or_second (j.scheme a) (b.scheme a) m in
          let none : value_at w a ≡ [] =
          sym (value_in-project_tuple (union j.scheme b.scheme) w a both)
          ∙ ap (λ (u : Tuple). value_in (union j.scheme b.scheme) u a) (sym same)
          ∙ value_listed n (union j.scheme b.scheme) (value_of_both j.scheme b.scheme t []) a (low_attribute n b.scheme a is_b.within m) both
          ∙ ap (λ (c : Bool). cond c (value_in j.scheme t a) (value_in b.scheme [] a)) (beside_is_new a outside) in
          and_from (nullable a) (length (value_at w a) == 0) (by.beside a outside) (ap (λ (v : List ℕ). length v == 0) none)

  pub looked_up_to : Has w (look_up n nullable j b) → Has w j × FitsAs true (empty_values nullable) s b.rows w
  looked_up_to h =
      let m = look_up-member n nullable j b (project_tuple (look_up n nullable j b).scheme w) h in
      fits_as m.0 m.1 (subst (λ (x : Attributes). ComesOf n nullable j b (project_tuple x w) m.0) (look_up-scheme n nullable j b) m.2)

  -- the tuple with empty values is its projection where it misses what the table has beside its key
  alone_is : IsNotFound (empty_values nullable) s b.rows w
      → with_empty_values n j.scheme b.scheme (project_tuple j.scheme w) ≡ project_tuple (union j.scheme b.scheme) w
  unfolding combine_tuples
  alone_is not_found =
      map_members-same (value_of_both j.scheme b.scheme (project_tuple j.scheme w) []) (λ k. value_at w k) n (union j.scheme b.scheme)
      (λ k m. elim (cases_Bool (j.scheme k)) [
        | inl joined ↦ ap (λ (c : Bool). cond c (value_in j.scheme (project_tuple j.scheme w) k) (value_in b.scheme [] k)) joined
            ∙ at_key k joined
        | inr out ↦
            ap (λ (c : Bool). cond c (value_in j.scheme (project_tuple j.scheme w) k) (value_in b.scheme [] k)) out
            ∙ sym (empty_value (value_at w k) (and_parts (nullable k) (length (value_at w k) == 0)
            (not_found.beside k (new_is_beside k (second_member (j.scheme k) (b.scheme k) m out) out))).1)
      ])
      ∙ ap (λ (m : ℕ). map (λ k. value_at w k) (members_below m (union j.scheme b.scheme))) (sym long)

  none_found : IsNotFound (empty_values nullable) s b.rows w
      → found_for n nullable j.scheme b.scheme b.rows (project_tuple j.scheme w) ≡ []
  none_found not_found =
      nothing_in (found_for n nullable j.scheme b.scheme b.rows (project_tuple j.scheme w)) (λ v v_in.
      let f = found_for-member n nullable j.scheme b.scheme b.rows (project_tuple j.scheme w) v v_in in
      let e = with_each-member n j.scheme b.scheme b.rows (project_tuple j.scheme w) v f.1 in
      not_found.none_there (complete_from f.0) e.0 e.1 (agrees_to e.0 e.2))

  pub looked_up_from : Has w j → FitsAs true (empty_values nullable) s b.rows w → Has w (look_up n nullable j b)
  looked_up_from h (inl found) =
      subst (λ (x : Attributes). Contains (look_up n nullable j b).rows (project_tuple x w)) (sym (look_up-scheme n nullable j b))
      (subst (Contains (look_up n nullable j b).rows) (combine_tuples-projections n j.scheme b.scheme w long)
      (look_up-found n nullable j b (project_tuple j.scheme w) (project_tuple b.scheme w) h
      (subst (Contains b.rows) (sym row_here) found.stands) (complete_to found.complete)
      (agree_on_shared-projections n j.scheme b.scheme w)))
  looked_up_from h (inr not_found) =
      subst (λ (x : Attributes). Contains (look_up n nullable j b).rows (project_tuple x w)) (sym (look_up-scheme n nullable j b))
      (subst (Contains (look_up n nullable j b).rows) (alone_is not_found)
      (look_up-alone n nullable j b (project_tuple j.scheme w) h (none_found not_found)))

-- ---- tables in turn
abbrev pub FitsTable : Attributes → Tuple → KeyedScheme → PartialRelation → Type 0
FitsTable nullable w s b = FitsAs true (empty_values nullable) s b.rows w

next_by : (n : ℕ) (nullable : Attributes) (j b : PartialRelation) (s : KeyedScheme) (ss : List KeyedScheme) → IsOver s b
    → AreLookedUpByKeys nullable (union j.scheme (attributes s.scheme)) ss → AreLookedUpByKeys nullable (look_up n nullable j b).scheme ss
next_by n nullable j b s ss over by =
    subst (λ (x : Attributes). AreLookedUpByKeys nullable x ss) (sym (look_up-scheme n nullable j b))
    (subst (λ (x : Attributes). AreLookedUpByKeys nullable (union j.scheme x) ss) over by)

pub all_to : (n : ℕ) (nullable : Attributes) (j : PartialRelation) (ss : List KeyedScheme) (bs : List PartialRelation) → IsTable n j
    → All (IsTable n) bs → AllZip IsOver ss bs → AreLookedUpByKeys nullable j.scheme ss → (w : Tuple) → length w ≡ n
    → Has w (look_ups n nullable j bs) → Has w j × AllZip (FitsTable nullable w) ss bs
all_to n nullable j [] [] is_j all over by w long h = (h, tt)
all_to n nullable j [] (b ∷ bs) is_j all over by w long h = absurd over
all_to n nullable j (s ∷ ss) [] is_j all over by w long h = absurd over
all_to n nullable j (s ∷ ss) (b ∷ bs) is_j all over by w long h =
    let is_b = All-head (IsTable n) b bs all in
    let later = all_to n nullable (look_up n nullable j b) ss bs (look_up-table n nullable j b is_j is_b) (All-tail (IsTable n) b bs all)
    over.1 (next_by n nullable j b s ss over.0 by.1) w long h in
    let here = looked_up_to n nullable j b s is_j is_b over.0 by.0 w long later.0 in
    (here.0, (here.1, later.1))

pub all_from : (n : ℕ) (nullable : Attributes) (j : PartialRelation) (ss : List KeyedScheme) (bs : List PartialRelation) → IsTable n j
    → All (IsTable n) bs → AllZip IsOver ss bs → AreLookedUpByKeys nullable j.scheme ss → (w : Tuple) → length w ≡ n
    → Has w j → AllZip (FitsTable nullable w) ss bs → Has w (look_ups n nullable j bs)
all_from n nullable j [] [] is_j all over by w long h fits = h
all_from n nullable j [] (b ∷ bs) is_j all over by w long h fits = absurd over
all_from n nullable j (s ∷ ss) [] is_j all over by w long h fits = absurd over
all_from n nullable j (s ∷ ss) (b ∷ bs) is_j all over by w long h fits =
    let is_b = All-head (IsTable n) b bs all in
    all_from n nullable (look_up n nullable j b) ss bs (look_up-table n nullable j b is_j is_b) (All-tail (IsTable n) b bs all)
    over.1 (next_by n nullable j b s ss over.0 by.1) w long
    (looked_up_from n nullable j b s is_j is_b over.0 by.0 w long h fits.0) fits.1
