-- What `rejoin` answers: it has one answer, and with look-ups which one.
use Rattle.std.proofs.Common.{◌≡◌, ◌<◌, ◌+◌, ◌++◌, ℕ, List, length, sym, ap, subst, ◌∙◌, inl, inr, arith}
use Rattle.std.proofs.lemmas.Bool.{cases_lt}
use Rattle.attr_sets.specs.Attributes.{Attributes}
use Rattle.csv_text.specs.Rows.{rows_text}
use Rattle.dep_model.specs.Projections.{Covers}
use Rattle.dep_model.specs.Tuples.{Relation}
use Rattle.schema_model.specs.Schemas.{Schema, names_of, nullable_of, width_of, theory_of}
use Rattle.optional_tables.specs.Order.{members_at}
use Rattle.optional_tables.specs.declared.keyed.KeyedScheme.{KeyedScheme}
use Rattle.table_join.specs.LookUps.{AreJoinedAndLookedUp, AreTooMany, IsFirstTooMany, RefusesLookUps, look_ups}
use Rattle.table_join.specs.Answers.{AreJoinedIn, GoesBeyond, IsBeyondLimit, IsFirstBeyond, IsFirstUncovered, IsOrderedJoin, IsWithinLimit, RefusesJoin, tables_from_last}
use Rattle.table_join.specs.Joins.{join_of}
use Rattle.table_join.specs.Tables.{PartialRelation, plan_of_tables}
use Rattle.table_join.specs.declared.refusal.JoinRefusal.{JoinRefusal}
use Rattle.table_join.specs.declared.refusal.JoinRefusal.TheVariants.{NotCovered, TooManyRows}
use Rattle.implication_laws.specs.OneAnswer.{AllowsOne}
use Rattle.implication_laws.proofs.StepLaws.{same_says}
use Rattle.desk_responses.specs.ResponseValues.{ResponseValue, Says}
use Rattle.desk_responses.specs.declared.status.Status.TheVariants.{Yes, Refused}
use Rattle.desk_tables.specs.declared.rejoining.TheConstants.{MOST_JOINED_ROWS}
use Rattle.desk_tables.specs.Rejoining.{HaveLookUps, IsJoinOf, JoinsAll, JoinsTables, LooksUp, in_order, join_refusal_text, joined_tables, looked_up_tables}
use Rattle.desk_tables.proofs.OneDesignLemmas.{grouped_alike, one_counts, one_files}
use Rattle.plan_laws.proofs.LookedUpLaws.{looked_up_back, looked_up_has}
use Rattle.plan_laws.proofs.OrderAlike.{filled_alike, look_up_order_alike}
use Rattle.schema_printer.specs.Spelling.{printed_names_of}

-- ---- joined tables
-- of two numbers that are each no greater than the other where it has the property, both are the same
one_least : (P : ℕ → Type 0) (j k : ℕ) → (j < k → P j → ⊥) → (k < j → P k → ⊥) → P j → P k → j ≡ k
one_least P j k no_less no_more j_is k_is = elim (cases_lt j k) [
  | inl less ↦ absurd (no_less less j_is)
  | inr from_on ↦ elim (cases_lt k j) [
    | inl more ↦ absurd (no_more more k_is)
    | inr back ↦ omega (arith, from_on, back)
  ]
]

one_uncovered : (n : ℕ) (plan : List Attributes) (a b : ℕ) → IsFirstUncovered n plan a → IsFirstUncovered n plan b
    → a ≡ b
one_uncovered n plan a b first second =
    one_least (IsFirstUncovered n plan) a b (λ less is. is.uncovered (second.least a less))
    (λ more is. is.uncovered (first.least b more)) first second

one_beyond : (n limit : ℕ) (tables : List PartialRelation) (j k : ℕ) → IsFirstBeyond n limit tables j
    → IsFirstBeyond n limit tables k → j ≡ k
one_beyond n limit tables j k first second =
    one_least (IsFirstBeyond n limit tables) j k
    (λ less is. let small = second.least j is.positive less in let large = is.beyond in omega (arith, small, large))
    (λ more is. let small = first.least k is.positive more in let large = is.beyond in omega (arith, small, large))
    first second

one_join_refusal : (n limit : ℕ) (tables : List PartialRelation) (one other : JoinRefusal)
    → RefusesJoin n limit tables one → RefusesJoin n limit tables other → one ≡ other
one_join_refusal n limit tables (NotCovered a) (NotCovered b) first second =
    ap (λ (k : ℕ). NotCovered k) (one_uncovered n (plan_of_tables tables) a b first second)
one_join_refusal n limit tables (NotCovered a) (TooManyRows k) first second =
    absurd (first.uncovered (second.0 a first.within))
one_join_refusal n limit tables (TooManyRows j) (NotCovered b) first second =
    absurd (second.uncovered (first.0 b second.within))
one_join_refusal n limit tables (TooManyRows j) (TooManyRows k) first second =
    ap (λ (m : ℕ). TooManyRows m) (one_beyond n limit tables j k first.1.0 second.1.0)

-- a limit is kept or not
within_or_beyond : (n limit : ℕ) (tables : List PartialRelation) → IsWithinLimit n limit tables → IsBeyondLimit n limit tables → ⊥
within_or_beyond n limit tables within beyond =
    let first = beyond.1 in
    let small = within beyond.0 first.positive first.among in
    let large = first.beyond in
    omega (arith, small, large)

-- tables are joined in one order
one_join_order : (n limit : ℕ) (tables one other : List PartialRelation) → AreJoinedIn n limit one tables
    → AreJoinedIn n limit other tables → one ≡ other
one_join_order n limit tables one other (inl own) (inl also) = own.0 ∙ sym also.0
one_join_order n limit tables one other (inl own) (inr last) =
    absurd (within_or_beyond n limit tables (subst (IsWithinLimit n limit) own.0 own.1) last.2)
one_join_order n limit tables one other (inr last) (inl own) =
    absurd (within_or_beyond n limit tables (subst (IsWithinLimit n limit) own.0 own.1) last.2)
one_join_order n limit tables one other (inr last) (inr also) = last.0 ∙ sym also.0

one_join : (n limit : ℕ) (tables : List PartialRelation) (one other : Relation) → IsOrderedJoin n limit tables one
    → IsOrderedJoin n limit tables other → one ≡ other
one_join n limit tables one other first second =
    first.join
    ∙ ap (λ (order : List PartialRelation). (join_of n order).rows) (one_join_order n limit tables first.order second.order first.joined_in second.joined_in)
    ∙ sym second.join

join_goes : (s : Schema) (tables : List PartialRelation) (rows : Relation) (why : JoinRefusal)
    → IsJoinOf s tables rows → RefusesJoin (width_of s) MOST_JOINED_ROWS tables why → ⊥
join_goes s tables rows (NotCovered a) is refused = refused.uncovered (is.covered a refused.within)
join_goes s tables rows (TooManyRows k) is refused = by is.join.joined_in
  where
    by : AreJoinedIn (width_of s) MOST_JOINED_ROWS is.join.order tables → ⊥
    by (inl own) = within_or_beyond (width_of s) MOST_JOINED_ROWS tables (subst (IsWithinLimit (width_of s) MOST_JOINED_ROWS) own.0 own.1) (k, refused.1.0)
    by (inr last) = within_or_beyond (width_of s) MOST_JOINED_ROWS (tables_from_last tables)
        (subst (IsWithinLimit (width_of s) MOST_JOINED_ROWS) last.0 last.1) refused.1.1

one_join_all : (s : Schema) (tables : List PartialRelation) → AllowsOne (JoinsAll s tables)
one_join_all s tables one other (inl (rows, is, says)) (inl (others, also, said)) =
    same_says Yes _ _ one other says said
    (ap (rows_text (names_of s)) (one_join (width_of s) MOST_JOINED_ROWS tables rows others is.join also.join))
one_join_all s tables one other (inl (rows, is, says)) (inr (why, refused, said)) =
    absurd (join_goes s tables rows why is refused)
one_join_all s tables one other (inr (why, refused, says)) (inl (rows, is, said)) =
    absurd (join_goes s tables rows why is refused)
one_join_all s tables one other (inr (why, refused, says)) (inr (because, also, said)) =
    same_says Refused _ _ one other says said
    (ap (join_refusal_text (printed_names_of s))
    (one_join_refusal (width_of s) MOST_JOINED_ROWS tables why because refused also))

-- ---- joined tables in which others are looked up
-- tables that are joined in some order do not go beyond the limit in both
joined_or_large : (n limit : ℕ) (order tables : List PartialRelation) (k : ℕ) → AreJoinedIn n limit order tables → GoesBeyond n limit tables k → ⊥
joined_or_large n limit order tables k (inl own) large = within_or_beyond n limit tables (subst (IsWithinLimit n limit) own.0 own.1) (k, large.0)
joined_or_large n limit order tables k (inr last) large =
    within_or_beyond n limit (tables_from_last tables) (subst (IsWithinLimit n limit) last.0 last.1) large.1

look_ups_go : (s : Schema) (tables others : List PartialRelation) (rows : Relation) (why : JoinRefusal)
    → AreJoinedAndLookedUp (width_of s) (nullable_of s) MOST_JOINED_ROWS tables others rows
    → Covers (width_of s) (plan_of_tables (tables ++ others))
    → RefusesLookUps (width_of s) (nullable_of s) MOST_JOINED_ROWS tables others why → ⊥
look_ups_go s tables others rows (NotCovered a) joined covers refused = refused.uncovered (covers a refused.within)
look_ups_go s tables others rows (TooManyRows k) joined covers (also, inl large) =
    joined_or_large (width_of s) MOST_JOINED_ROWS joined.order tables k joined.joined_in large
look_ups_go s tables others rows (TooManyRows k) joined covers (also, inr (order, joined_in, (m, after, many))) =
    let same = one_join_order (width_of s) MOST_JOINED_ROWS tables order joined.order joined_in joined.joined_in in
    let moved = subst (λ (ts : List PartialRelation). IsFirstTooMany (width_of s) (nullable_of s) MOST_JOINED_ROWS (join_of (width_of s) ts) others m)
    same many in
    let small = joined.within m moved.positive moved.among in
    let large = moved.beyond in
    omega (arith, small, large)

one_too_many : (n : ℕ) (nullable : Attributes) (limit : ℕ) (joined : PartialRelation) (others : List PartialRelation) (j k : ℕ)
    → IsFirstTooMany n nullable limit joined others j → IsFirstTooMany n nullable limit joined others k → j ≡ k
one_too_many n nullable limit joined others j k first second =
    one_least (IsFirstTooMany n nullable limit joined others) j k
    (λ less is. let small = second.least j is.positive less in let large = is.beyond in omega (arith, small, large))
    (λ more is. let small = first.least k is.positive more in let large = is.beyond in omega (arith, small, large))
    first second

one_many : (n : ℕ) (nullable : Attributes) (limit : ℕ) (tables others : List PartialRelation) (j k : ℕ)
    → AreTooMany n nullable limit tables others j → AreTooMany n nullable limit tables others k → j ≡ k
one_many n nullable limit tables others j k (inl first) (inl second) = one_beyond n limit tables j k first.0 second.0
one_many n nullable limit tables others j k (inl first) (inr (order, joined_in, second)) =
    absurd (joined_or_large n limit order tables j joined_in first)
one_many n nullable limit tables others j k (inr (order, joined_in, first)) (inl second) =
    absurd (joined_or_large n limit order tables k joined_in second)
one_many n nullable limit tables others j k (inr (order, joined_in, (a, is, first))) (inr (also, joined_too, (b, said, second))) =
    let same = one_too_many n nullable limit (join_of n also) others a b
    (subst (λ (ts : List PartialRelation). IsFirstTooMany n nullable limit (join_of n ts) others a)
    (one_join_order n limit tables order also joined_in joined_too) first) second in
    is ∙ ap (λ (m : ℕ). length tables + m) same ∙ sym said

one_look_up_refusal : (n : ℕ) (nullable : Attributes) (limit : ℕ) (tables others : List PartialRelation) (one other : JoinRefusal)
    → RefusesLookUps n nullable limit tables others one → RefusesLookUps n nullable limit tables others other → one ≡ other
one_look_up_refusal n nullable limit tables others (NotCovered a) (NotCovered b) first second =
    ap (λ (k : ℕ). NotCovered k) (one_uncovered n (plan_of_tables (tables ++ others)) a b first second)
one_look_up_refusal n nullable limit tables others (NotCovered a) (TooManyRows k) first second =
    absurd (first.uncovered (second.0 a first.within))
one_look_up_refusal n nullable limit tables others (TooManyRows j) (NotCovered b) first second =
    absurd (second.uncovered (first.0 b second.within))
one_look_up_refusal n nullable limit tables others (TooManyRows j) (TooManyRows k) first second =
    ap (λ (m : ℕ). TooManyRows m) (one_many n nullable limit tables others j k first.1 second.1)

one_looked_up : (s : Schema) (tables others : List PartialRelation) (one other : Relation)
    → AreJoinedAndLookedUp (width_of s) (nullable_of s) MOST_JOINED_ROWS tables others one
    → AreJoinedAndLookedUp (width_of s) (nullable_of s) MOST_JOINED_ROWS tables others other → one ≡ other
one_looked_up s tables others one other first second =
    first.looked_up
    ∙ ap (λ (order : List PartialRelation). (look_ups (width_of s) (nullable_of s) (join_of (width_of s) order) others).rows)
    (one_join_order (width_of s) MOST_JOINED_ROWS tables first.order second.order first.joined_in second.joined_in)
    ∙ sym second.looked_up

one_looking_up : (s : Schema) (tables others : List PartialRelation) → AllowsOne (LooksUp s tables others)
one_looking_up s tables others one other (inl (rows, is, says)) (inl (also, are, said)) =
    same_says Yes _ _ one other says said (ap (rows_text (names_of s)) (one_looked_up s tables others rows also is.joined are.joined))
one_looking_up s tables others one other (inl (rows, is, says)) (inr (why, refused, said)) =
    absurd (look_ups_go s tables others rows why is.joined is.covered refused)
one_looking_up s tables others one other (inr (why, refused, says)) (inl (rows, is, said)) =
    absurd (look_ups_go s tables others rows why is.joined is.covered refused)
one_looking_up s tables others one other (inr (why, refused, says)) (inr (because, also, said)) =
    same_says Refused _ _ one other says said
    (ap (join_refusal_text (printed_names_of s))
    (one_look_up_refusal (width_of s) (nullable_of s) MOST_JOINED_ROWS tables others why because refused also))

-- ---- files that are a readable design with an optional table
-- they are joined and looked up in one way
one_way : (s : Schema) (tables : List PartialRelation) (one other : List KeyedScheme) (counts also : List ℕ)
    (response : ResponseValue) → HaveLookUps s tables one counts → HaveLookUps s tables other also
    → LooksUp s (joined_tables s tables one) (looked_up_tables s tables one counts) response
    → LooksUp s (joined_tables s tables other) (looked_up_tables s tables other also) response
one_way s tables one other counts also response first second looks_up =
    let same = one_files s tables one other first.keys second.keys in
    let numbers : counts ≡ also = one_counts (width_of s) (theory_of s) (plan_of_tables tables) counts also first.determined second.determined in
    subst (λ (ts : List PartialRelation). LooksUp s ts (looked_up_tables s tables other also) response)
    (ap (members_at tables) (filled_alike (nullable_of s) one other same))
    (subst (λ (us : List PartialRelation). LooksUp s (joined_tables s tables one) us response)
    (ap (looked_up_tables s tables one) numbers
    ∙ ap (members_at (in_order s also tables))
    (look_up_order_alike (nullable_of s) (in_order s also one) (in_order s also other)
    (grouped_alike (width_of s + 1) one other also same)))
    looks_up)

looks_up_so : (s : Schema) (tables : List PartialRelation) (keyed : List KeyedScheme) (counts : List ℕ) (response : ResponseValue)
    → HaveLookUps s tables keyed counts → JoinsTables s tables response
    → LooksUp s (joined_tables s tables keyed) (looked_up_tables s tables keyed counts) response
looks_up_so s tables keyed counts response looks (inl (others, (numbers, also, looked))) =
    one_way s tables others keyed numbers counts response also looks looked
looks_up_so s tables keyed counts response looks (inr (none, joins)) = absurd (none keyed counts looks)

module _ (s : Schema) (tables : List PartialRelation) (keyed : List KeyedScheme) (counts : List ℕ)
    (looks : HaveLookUps s tables keyed counts) where
  abbrev filled : List PartialRelation
  filled = joined_tables s tables keyed

  abbrev optional : List PartialRelation
  optional = looked_up_tables s tables keyed counts

  all_covered : Covers (width_of s) (plan_of_tables tables) → Covers (width_of s) (plan_of_tables (filled ++ optional))
  all_covered covers a low = looked_up_has s tables keyed counts looks a (covers a low)

  pub answered_rows : (rows : Relation) (response : ResponseValue) → Covers (width_of s) (plan_of_tables tables)
      → AreJoinedAndLookedUp (width_of s) (nullable_of s) MOST_JOINED_ROWS filled optional rows
      → JoinsTables s tables response → Says Yes (rows_text (names_of s) rows) response
  answered_rows rows response covers are joins = by (looks_up_so s tables keyed counts response looks joins)
    where
      by : LooksUp s filled optional response → Says Yes (rows_text (names_of s) rows) response
      by (inl (found, is, says)) =
          subst (λ (r : Relation). Says Yes (rows_text (names_of s) r) response)
          (one_looked_up s filled optional found rows is.joined are) says
      by (inr (why, refused, says)) = absurd (look_ups_go s filled optional rows why are (all_covered covers) refused)

  pub answered_uncovered : (a : ℕ) (response : ResponseValue) → IsFirstUncovered (width_of s) (plan_of_tables tables) a
      → JoinsTables s tables response → Says Refused (join_refusal_text (printed_names_of s) (NotCovered a)) response
  answered_uncovered a response first joins = by (looks_up_so s tables keyed counts response looks joins)
    where
      of_tables : (b : ℕ) → IsFirstUncovered (width_of s) (plan_of_tables (filled ++ optional)) b
          → IsFirstUncovered (width_of s) (plan_of_tables tables) b
      of_tables b refused = record {
        within = refused.within;
        uncovered = λ has. refused.uncovered (looked_up_has s tables keyed counts looks b has);
        least = λ c less. looked_up_back s tables keyed counts looks c (refused.least c less);
      }

      by : LooksUp s filled optional response → Says Refused (join_refusal_text (printed_names_of s) (NotCovered a)) response
      by (inl (found, is, says)) =
          absurd (first.uncovered (looked_up_back s tables keyed counts looks a (is.covered a first.within)))
      by (inr (NotCovered b, refused, says)) =
          subst (λ (c : ℕ). Says Refused (join_refusal_text (printed_names_of s) (NotCovered c)) response)
          (one_uncovered (width_of s) (plan_of_tables tables) b a (of_tables b refused) first) says
      by (inr (TooManyRows k, (covers, many), says)) =
          absurd (first.uncovered (looked_up_back s tables keyed counts looks a (covers a first.within)))

  pub answered_too_many : (after : ℕ) (response : ResponseValue) → Covers (width_of s) (plan_of_tables tables)
      → AreTooMany (width_of s) (nullable_of s) MOST_JOINED_ROWS filled optional after → JoinsTables s tables response
      → Says Refused (join_refusal_text (printed_names_of s) (TooManyRows after)) response
  answered_too_many after response covers many joins = by (looks_up_so s tables keyed counts response looks joins)
    where
      by : LooksUp s filled optional response
          → Says Refused (join_refusal_text (printed_names_of s) (TooManyRows after)) response
      by (inl (found, is, says)) =
          absurd (look_ups_go s filled optional found (TooManyRows after) is.joined is.covered (all_covered covers, many))
      by (inr (why, refused, says)) =
          subst (λ (w : JoinRefusal). Says Refused (join_refusal_text (printed_names_of s) w) response)
          (one_look_up_refusal (width_of s) (nullable_of s) MOST_JOINED_ROWS filled optional why (TooManyRows after) refused
          (all_covered covers, many)) says

-- ---- one answer
pub one_rejoined : (s : Schema) (tables : List PartialRelation) → AllowsOne (JoinsTables s tables)
one_rejoined s tables one other (inl (keyed, (counts, have, looks_up))) (inl (others, (numbers, also, looked_up))) =
    one_looking_up s (joined_tables s tables others) (looked_up_tables s tables others numbers) one other
    (one_way s tables keyed others counts numbers one have also looks_up) looked_up
one_rejoined s tables one other (inl (keyed, (counts, have, looks_up))) (inr (none, joined)) = absurd (none keyed counts have)
one_rejoined s tables one other (inr (none, joins)) (inl (keyed, (counts, have, looks_up))) = absurd (none keyed counts have)
one_rejoined s tables one other (inr (none, joins)) (inr (also, joined)) = one_join_all s tables one other joins joined
