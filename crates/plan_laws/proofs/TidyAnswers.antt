-- What `migrate` finds of rows that tables would lose has one answer, since the tables of a plan have one scheme
-- and one key each.
use Rattle.std.proofs.Common.{◌≡◌, ◌<◌, ◌+◌, ◌==◌, ◌≤◌, ℕ, true, false, true≢false, not, List, [], ◌∷◌, length, get_or, drop, take, Option, Some, None, refl, sym, ap, subst, ◌∙◌, inl, inr, arith}
use mathlib.Core.Path.{fun_ext}
use Rattle.std.specs.Prelude.{All, Contains}
use Rattle.std.specs.List.{AllZip, flat_map}
use Rattle.std.proofs.lemmas.Bool.{and_parts, cases_lt, false_from_ne_true, not-true}
use Rattle.std.proofs.lemmas.Bool.Decides.{nat_tests}
use Rattle.std.proofs.lemmas.List.{get_or-take, get_or_default, length-take-le}
use Rattle.std.proofs.lemmas.List.Elements.{All-cons, All-head, All-tail}
use Rattle.attr_sets.specs.Attributes.{Attributes, IsFirstFrom, below}
use Rattle.attr_sets.specs.Sets.{attributes}
use Rattle.dep_model.specs.Tuples.{Relation, Tuple, IsOver, value_at}
use Rattle.design_order.proofs.OrderLemmas.{one_order}
use Rattle.optional_tables.specs.Homes.{has_outside_key}
use Rattle.optional_tables.specs.LookUps.{IsTidyFor, Missing, empty_values, misses_none, schemes_of_tables}
use Rattle.optional_tables.specs.Order.{if_there}
use Rattle.optional_tables.specs.declared.keyed.KeyedScheme.{KeyedScheme}
use Rattle.optional_tables.proofs.AlikeLemmas.{AreAlike, IsAlike, outside_alike}
use Rattle.row_store.specs.Rows.{row_at}
use Rattle.schema_model.specs.Schemas.{LegalFor, Schema, nullable_of, theory_of, width_of}
use Rattle.table_join.proofs.LookUpLemmas.{each_passes}
use Rattle.implication_laws.specs.OneAnswer.{AllowsOne}
use Rattle.implication_laws.proofs.StepLaws.{Unless-one, same_says}
use Rattle.desk_responses.specs.ResponseValues.{Allowed}
use Rattle.desk_responses.specs.declared.status.Status.TheVariants.{No}
use Rattle.desk_tables.proofs.OneDesignLemmas.{same_key}
use Rattle.desk_tables.specs.Tidiness.{AreTidy, FindsUntidy, HasPrimaryKey, IsFirstUntidy, IsKeyedDesign, IsUntidyAt, UntidyStops, WithTidy, missing_among, present_among, untidy_texts}
use Rattle.desk_tables.specs.declared.tidiness.Untidy.{Untidy}

-- ---- one design
head_same : {X : Type 0} (x y : X) (xs ys : List X) → x ∷ xs ≡ y ∷ ys → x ≡ y
head_same {X} x y xs ys e = ap (λ (l : List X). get_or l 0 x) e

tail_same : {X : Type 0} (x y : X) (xs ys : List X) → x ∷ xs ≡ y ∷ ys → xs ≡ ys
tail_same {X} x y xs ys e = ap (λ (l : List X). drop 1 l) e

pub alike_lists : (s : Schema) (one other : List KeyedScheme) → schemes_of_tables one ≡ schemes_of_tables other
    → All (HasPrimaryKey s) one → All (HasPrimaryKey s) other → AreAlike one other
alike_lists s [] [] same first second = tt
alike_lists s [] (u ∷ us) same first second = absurd (cc same)
alike_lists s (t ∷ ts) [] same first second = absurd (cc same)
alike_lists s (t ∷ ts) (u ∷ us) same first second = (
  same_key s t u (head_same (attributes t.scheme) (attributes u.scheme) (schemes_of_tables ts) (schemes_of_tables us) same)
      (All-head (HasPrimaryKey s) t ts first) (All-head (HasPrimaryKey s) u us second),
  alike_lists s ts us (tail_same (attributes t.scheme) (attributes u.scheme) (schemes_of_tables ts) (schemes_of_tables us) same)
      (All-tail (HasPrimaryKey s) t ts first) (All-tail (HasPrimaryKey s) u us second),
)

pub one_keyed : (s : Schema) (plan : List Attributes) (one other : List KeyedScheme) → IsKeyedDesign s plan one
    → IsKeyedDesign s plan other → AreAlike one other
one_keyed s plan one other first second =
    alike_lists s one other
    (one_order (width_of s) (theory_of s) plan (schemes_of_tables one) (schemes_of_tables other) first.order second.order)
    first.keys second.keys

-- ---- what is said of a table is said of one that is alike
module _ (missing : Missing) where
  pub tidy_alike : (rows : Relation) (t u : KeyedScheme) → IsAlike t u → IsTidyFor missing rows t → IsTidyFor missing rows u
  tidy_alike rows t u alike tidy row row_in incomplete a outside =
      tidy row row_in (ap (λ (key : Attributes). misses_none missing key row) alike.key ∙ incomplete) a (outside_alike t u alike a ∙ outside)

  pub all_tidy_alike : (rows : Relation) (one other : List KeyedScheme) → AreAlike one other → All (IsTidyFor missing rows) one
      → All (IsTidyFor missing rows) other
  all_tidy_alike rows [] [] alike all = all
  all_tidy_alike rows [] (u ∷ us) alike all = absurd alike
  all_tidy_alike rows (t ∷ ts) [] alike all = absurd alike
  all_tidy_alike rows (t ∷ ts) (u ∷ us) alike all =
      All-cons (IsTidyFor missing rows) u us (tidy_alike rows t u alike.0 (All-head (IsTidyFor missing rows) t ts all))
      (all_tidy_alike rows ts us alike.1 (All-tail (IsTidyFor missing rows) t ts all))

  found_alike : (rows : Relation) (t u : KeyedScheme) → IsAlike t u → (found : Option Untidy) → FindsUntidy missing rows t found
      → FindsUntidy missing rows u found
  found_alike rows t u alike None tidy = tidy_alike rows t u alike tidy
  found_alike rows t u alike (Some found) is = record {
    index = is.index;
    number = is.number;
    within = is.within;
    untidy = record {
      in_key = subst (λ (key : Attributes). IsFirstFrom (missing_among missing key (row_at rows is.index)) 0 found.missing) alike.key
          is.untidy.in_key;
      beside = subst (λ (x : Attributes). IsFirstFrom (present_among missing x (row_at rows is.index)) 0 found.present)
          (fun_ext (outside_alike t u alike)) is.untidy.beside;
    };
    earlier = tidy_alike (take is.index rows) t u alike is.earlier;
  }

-- ---- one finding
module _ (s : Schema) where
  abbrev gone : Missing
  gone = empty_values (nullable_of s)

  -- a row that is untidy is not tidy
  untidy_is_not : (table : KeyedScheme) (rows : Relation) (i : ℕ) (found : Untidy) → IsOver (width_of s) rows → i < length rows
      → IsUntidyAt gone table (row_at rows i) found → (others : Relation) → Contains others (row_at rows i)
      → IsTidyFor gone others table → ⊥
  untidy_is_not table rows i found over low untidy others there tidy =
      let t : Tuple = row_at rows i in
      let in_key = and_parts (attributes table.key found.missing) (gone found.missing (value_at t found.missing)) untidy.in_key.member in
      let beside = and_parts (has_outside_key table found.present) (not (gone found.present (value_at t found.present))) untidy.beside.member in
      let may = (and_parts (nullable_of s found.missing) (length (value_at t found.missing) == 0) in_key.1).0 in
      let within : found.missing < width_of s = low_member (width_of s) found.missing (s.typed.nullable_within found.missing may) in
      let long : length t ≡ width_of s = over i [] low in
      let incomplete : misses_none gone (attributes table.key) t ≡ false =
      false_from_ne_true (misses_none gone (attributes table.key) t) (λ complete.
      true≢false (sym in_key.1 ∙ not-true (gone found.missing (value_at t found.missing))
      (each_passes (λ k. not (gone k (value_at t k))) (length t) (attributes table.key) complete found.missing
      (omega (arith, within, long)) in_key.0))) in
      true≢false (sym (tidy t there incomplete found.present beside.0) ∙ not-true (gone found.present (value_at t found.present)) beside.1)
    where
      low_member : (n k : ℕ) → below n k ≡ true → k < n
      low_member n k h = grind (arith, nat_tests, h)

  one_first : (x : Attributes) (a b : ℕ) → IsFirstFrom x 0 a → IsFirstFrom x 0 b → a ≡ b
  one_first x a b first second = elim (cases_lt a b) [
    | inl less ↦ absurd (true≢false (sym first.member ∙ second.least a (omega arith) less))
    | inr from_on ↦ elim (cases_lt b a) [
      | inl more ↦ absurd (true≢false (sym second.member ∙ first.least b (omega arith) more))
      | inr back ↦ omega (arith, from_on, back)
    ]
  ]

  before_it : (table : KeyedScheme) (rows : Relation) (one other : Untidy) → IsOver (width_of s) rows
      → (first : IsFirstUntidy gone rows table one) → (second : IsFirstUntidy gone rows table other) → first.index < second.index → ⊥
  before_it table rows one other over first second less =
      let size = length-take-le second.index rows (le_of second.index (length rows) second.within) in
      untidy_is_not table rows first.index one over first.within first.untidy (take second.index rows) (
        first.index,
        omega (arith, less, size),
        get_or-take second.index rows first.index (row_at rows first.index) less
            ∙ get_or_default rows first.index (row_at rows first.index) [] first.within,
      )
      second.earlier
    where
      le_of : (a b : ℕ) → a < b → a ≤ b
      le_of a b l = omega (arith, l)

  pub one_found : (table : KeyedScheme) (rows : Relation) (one other : Option Untidy) → IsOver (width_of s) rows
      → FindsUntidy gone rows table one → FindsUntidy gone rows table other → one ≡ other
  one_found table rows None None over first second = refl
  one_found table rows None (Some other) over first second =
      absurd (untidy_is_not table rows second.index other over second.within second.untidy rows
      (second.index, second.within, get_or_default rows second.index (row_at rows second.index) [] second.within) first)
  one_found table rows (Some one) None over first second =
      absurd (untidy_is_not table rows first.index one over first.within first.untidy rows
      (first.index, first.within, get_or_default rows first.index (row_at rows first.index) [] first.within) second)
  one_found table rows (Some one) (Some other) over first second =
      let same : first.index ≡ second.index = elim (cases_lt first.index second.index) [
        | inl less ↦ absurd (before_it table rows one other over first second less)
        | inr from_on ↦ elim (cases_lt second.index first.index) [
          | inl more ↦ absurd (before_it table rows other one over second first more)
          | inr back ↦ omega (arith, from_on, back)
        ]
      ] in
      let row : one.row ≡ other.row = first.number ∙ ap (λ (i : ℕ). i + 1) same ∙ sym second.number in
      let in_key : one.missing ≡ other.missing =
      one_first (missing_among gone (attributes table.key) (row_at rows second.index)) one.missing other.missing
      (subst (λ (i : ℕ). IsFirstFrom (missing_among gone (attributes table.key) (row_at rows i)) 0 one.missing) same first.untidy.in_key)
      second.untidy.in_key in
      let beside : one.present ≡ other.present =
      one_first (present_among gone (has_outside_key table) (row_at rows second.index)) one.present other.present
      (subst (λ (i : ℕ). IsFirstFrom (present_among gone (has_outside_key table) (row_at rows i)) 0 one.present) same first.untidy.beside)
      second.untidy.beside in
      λ i. Some (record { row = row i; missing = in_key i; present = beside i })

  one_list : (rows : Relation) (one other : List KeyedScheme) (first second : List (Option Untidy)) → IsOver (width_of s) rows
      → AreAlike one other → AllZip (FindsUntidy gone rows) one first → AllZip (FindsUntidy gone rows) other second → first ≡ second
  one_list rows [] [] [] [] over alike finds also = refl
  one_list rows [] [] [] (f ∷ fs) over alike finds also = absurd also
  one_list rows [] [] (e ∷ es) second over alike finds also = absurd finds
  one_list rows [] (u ∷ us) first second over alike finds also = absurd alike
  one_list rows (t ∷ ts) [] first second over alike finds also = absurd alike
  one_list rows (t ∷ ts) (u ∷ us) [] second over alike finds also = absurd finds
  one_list rows (t ∷ ts) (u ∷ us) (e ∷ es) [] over alike finds also = absurd also
  one_list rows (t ∷ ts) (u ∷ us) (e ∷ es) (f ∷ fs) over alike finds also =
      ap (λ (o : Option Untidy). o ∷ es) (one_found u rows e f over (found_alike gone rows t u alike.0 e finds.0) also.0)
      ∙ ap (λ (l : List (Option Untidy)). f ∷ l) (one_list rows ts us es fs over alike.1 finds.1 also.1)

  one_untidy_stop : (plan : List Attributes) (rows : Relation) → IsOver (width_of s) rows → AllowsOne (UntidyStops s plan rows)
  one_untidy_stop plan rows over one other (design, keyed, (lost, (found, are, says))) (designed, also, (lost_too, (finds, again, said))) =
      same_says No _ _ one other says said
      (ap (untidy_texts s) (are.2 ∙ ap (λ (l : List (Option Untidy)). flat_map if_there l)
      (one_list rows design designed are.0 again.0 over (one_keyed s plan design designed keyed also) are.1 again.1) ∙ sym again.2))

  pub one_with_tidy : (plan : List Attributes) (rows : Relation) (rest : Allowed) → LegalFor s rows → AllowsOne rest
      → AllowsOne (WithTidy s plan rows rest)
  one_with_tidy plan rows rest legal one_rest =
      Unless-one (UntidyStops s plan rows) (AreTidy s plan rows) rest (one_untidy_stop plan rows legal.over)
      (λ response tidy stops. stops.2.0
      (all_tidy_alike gone rows tidy.0 stops.0 (one_keyed s plan tidy.0 stops.0 tidy.1 stops.1) tidy.2))
      (λ tidy. one_rest)
