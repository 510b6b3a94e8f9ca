-- The rows of tables that are joined and looked up are the tuples that are read back from all.
use Rattle.std.proofs.Common.{◌≡◌, ℕ, Bool, true, false, List, [], ◌∷◌, ◌++◌, length, sym, ap, subst, ◌∙◌, arith}
use mathlib.Core.Path.{fun_ext}
use Rattle.std.specs.Prelude.{◌↔◌, All, Contains}
use Rattle.std.specs.List.{AllZip, list_any}
use Rattle.std.proofs.lemmas.List.{length-map, map-append}
use Rattle.std.proofs.lemmas.List.Elements.{All-cons, All-contains, All-head, All-nil, All-tail}
use Rattle.std.proofs.lemmas.List.Folds.{list_any-from_Any}
use Rattle.attr_sets.specs.Attributes.{Attributes}
use Rattle.dep_model.specs.Projections.{Covers, project_tuple}
use Rattle.dep_model.specs.Tuples.{Relation, Tuple}
use Rattle.dep_model.proofs.SchemeLemmas.{project_tuple-whole}
use Rattle.optional_tables.specs.Homes.{is_optional}
use Rattle.optional_tables.specs.LookUps.{FitsAs, FitsIn, IsReadBack, empty_values}
use Rattle.optional_tables.specs.declared.keyed.KeyedScheme.{KeyedScheme}
use Rattle.table_join.specs.Factors.{covered_by}
use Rattle.table_join.specs.Joins.{join_of}
use Rattle.table_join.specs.LookUps.{AreJoinedAndLookedUp, look_ups}
use Rattle.table_join.specs.Tables.{IsTable, PartialRelation, plan_of_tables, rows_of_tables}
use Rattle.table_join.proofs.JoinLemmas.{Has, Joins, joins_in_order}
use Rattle.table_join.proofs.LookUpLemmas.{all_looked_up, order_over_plan, rows_over_all}
use Rattle.rejoin_laws.specs.ByKeys.{AreLookedUpByKeys, IsOver}
use Rattle.rejoin_laws.proofs.LookedUpLemmas.{FitsTable, all_from, all_to}

-- what a tuple has in each of two lists of tables it has in both
zipped_both : {X Y : Type 0} (R : X → Y → Type 0) (xs us : List X) (ys vs : List Y) → AllZip R xs ys → AllZip R us vs → AllZip R (xs ++ us) (ys ++ vs)
zipped_both R [] us [] vs first second = second
zipped_both R [] us (y ∷ ys) vs first second = absurd first
zipped_both R (x ∷ xs) us [] vs first second = absurd first
zipped_both R (x ∷ xs) us (y ∷ ys) vs first second = (first.0, zipped_both R xs us ys vs first.1 second)

zipped_left : {X Y Z : Type 0} (S : X → Z → Type 0) (R : X → Y → Type 0) (xs us : List X) (zs : List Z) (ys vs : List Y) → AllZip S xs zs
    → length ys ≡ length zs → AllZip R (xs ++ us) (ys ++ vs) → AllZip R xs ys × AllZip R us vs
zipped_left S R [] us [] [] vs beside long both = (tt, both)
zipped_left S R [] us [] (y ∷ ys) vs beside long both = absurd (omega (arith, long))
zipped_left S R [] us (z ∷ zs) ys vs beside long both = absurd beside
zipped_left S R (x ∷ xs) us [] ys vs beside long both = absurd beside
zipped_left S R (x ∷ xs) us (z ∷ zs) [] vs beside long both = absurd (omega (arith, long))
zipped_left S R (x ∷ xs) us (z ∷ zs) (y ∷ ys) vs beside long both =
    let later = zipped_left S R xs us zs ys vs beside.1 (omega (arith, long)) both.1 in
    ((both.0, later.0), later.1)

-- ---- tables that are not optional
filled_fits : (nullable : Attributes) (t : Tuple) (ss : List KeyedScheme) (ts : List PartialRelation) → AllZip IsOver ss ts
    → All (λ (s : KeyedScheme). is_optional nullable s ≡ false) ss → All (Has t) ts
    → AllZip (FitsIn nullable (empty_values nullable) t) ss (rows_of_tables ts)
filled_fits nullable t [] [] over filled has = tt
filled_fits nullable t [] (b ∷ bs) over filled has = absurd over
filled_fits nullable t (s ∷ ss) [] over filled has = absurd over
filled_fits nullable t (s ∷ ss) (b ∷ bs) over filled has = (
  subst (λ (c : Bool). FitsAs c (empty_values nullable) s b.rows t)
      (sym (All-head (λ (k : KeyedScheme). is_optional nullable k ≡ false) s ss filled))
      (subst (λ (x : Attributes). Contains b.rows (project_tuple x t)) (sym over.0) (All-head (Has t) b bs has)),
  filled_fits nullable t ss bs over.1 (All-tail (λ (k : KeyedScheme). is_optional nullable k ≡ false) s ss filled) (All-tail (Has t) b bs has),
)

filled_has : (nullable : Attributes) (t : Tuple) (ss : List KeyedScheme) (ts : List PartialRelation) → AllZip IsOver ss ts
    → All (λ (s : KeyedScheme). is_optional nullable s ≡ false) ss
    → AllZip (FitsIn nullable (empty_values nullable) t) ss (rows_of_tables ts) → All (Has t) ts
filled_has nullable t [] [] over filled fits = All-nil (Has t)
filled_has nullable t [] (b ∷ bs) over filled fits = absurd over
filled_has nullable t (s ∷ ss) [] over filled fits = absurd over
filled_has nullable t (s ∷ ss) (b ∷ bs) over filled fits =
    All-cons (Has t) b bs
    (subst (λ (x : Attributes). Contains b.rows (project_tuple x t)) over.0
    (subst (λ (c : Bool). FitsAs c (empty_values nullable) s b.rows t)
    (All-head (λ (k : KeyedScheme). is_optional nullable k ≡ false) s ss filled) fits.0))
    (filled_has nullable t ss bs over.1 (All-tail (λ (k : KeyedScheme). is_optional nullable k ≡ false) s ss filled) fits.1)

-- ---- optional tables
optional_fits : (nullable : Attributes) (t : Tuple) (ss : List KeyedScheme) (ts : List PartialRelation)
    → All (λ (s : KeyedScheme). is_optional nullable s ≡ true) ss → AllZip (FitsTable nullable t) ss ts
    → AllZip (FitsIn nullable (empty_values nullable) t) ss (rows_of_tables ts)
optional_fits nullable t [] [] optional fits = tt
optional_fits nullable t [] (b ∷ bs) optional fits = absurd fits
optional_fits nullable t (s ∷ ss) [] optional fits = absurd fits
optional_fits nullable t (s ∷ ss) (b ∷ bs) optional fits = (
  subst (λ (c : Bool). FitsAs c (empty_values nullable) s b.rows t)
      (sym (All-head (λ (k : KeyedScheme). is_optional nullable k ≡ true) s ss optional)) fits.0,
  optional_fits nullable t ss bs (All-tail (λ (k : KeyedScheme). is_optional nullable k ≡ true) s ss optional) fits.1,
)

optional_back : (nullable : Attributes) (t : Tuple) (ss : List KeyedScheme) (ts : List PartialRelation)
    → All (λ (s : KeyedScheme). is_optional nullable s ≡ true) ss
    → AllZip (FitsIn nullable (empty_values nullable) t) ss (rows_of_tables ts) → AllZip (FitsTable nullable t) ss ts
optional_back nullable t [] [] optional fits = tt
optional_back nullable t [] (b ∷ bs) optional fits = absurd fits
optional_back nullable t (s ∷ ss) [] optional fits = absurd fits
optional_back nullable t (s ∷ ss) (b ∷ bs) optional fits = (
  subst (λ (c : Bool). FitsAs c (empty_values nullable) s b.rows t)
      (All-head (λ (k : KeyedScheme). is_optional nullable k ≡ true) s ss optional) fits.0,
  optional_back nullable t ss bs (All-tail (λ (k : KeyedScheme). is_optional nullable k ≡ true) s ss optional) fits.1,
)

-- ---- all
module _ (n limit : ℕ) (nullable : Attributes) (filled optional : List KeyedScheme) (tables others : List PartialRelation)
    (rows : Relation) (each : All (IsTable n) tables) (each_other : All (IsTable n) others)
    (covers : Covers n (plan_of_tables (tables ++ others))) (over : AllZip IsOver filled tables)
    (over_others : AllZip IsOver optional others)
    (are_filled : All (λ (s : KeyedScheme). is_optional nullable s ≡ false) filled)
    (are_optional : All (λ (s : KeyedScheme). is_optional nullable s ≡ true) optional)
    (by : AreLookedUpByKeys nullable (covered_by (plan_of_tables tables)) optional)
    (are : AreJoinedAndLookedUp n nullable limit tables others rows) where
  abbrev joined : PartialRelation
  joined = join_of n are.order

  abbrev all : PartialRelation
  all = look_ups n nullable joined others

  joins : Joins n tables joined
  joins = joins_in_order n limit are.order tables each are.joined_in

  by_joined : AreLookedUpByKeys nullable joined.scheme optional
  by_joined = subst (λ (x : Attributes). AreLookedUpByKeys nullable x optional) (sym (fun_ext joins.scheme)) by

  -- a tuple is its projection on the attributes of all
  whole : (t : Tuple) → length t ≡ n → project_tuple all.scheme t ≡ t
  whole t long = project_tuple-whole all.scheme t (λ k l.
      (all_looked_up n nullable (plan_of_tables tables) joined others (order_over_plan n limit are.order tables each are.joined_in) each_other).scheme k
      ∙ ap (λ (plan : List Attributes). list_any (λ (s : Attributes). s k) plan) (sym (map-append (λ (b : PartialRelation). b.scheme) tables others))
      ∙ list_any-from_Any (λ (s : Attributes). s k) (plan_of_tables (tables ++ others)) (covers k (omega (arith, l, long))))

  rows_joined : rows_of_tables (tables ++ others) ≡ rows_of_tables tables ++ rows_of_tables others
  rows_joined = map-append (λ (b : PartialRelation). b.rows) tables others

  read_to : (t : Tuple) → Contains rows t
      → IsReadBack n nullable (empty_values nullable) (filled ++ optional) (rows_of_tables (tables ++ others)) t
  read_to t h =
      let long : length t ≡ n = All-contains (λ (z : Tuple). length z ≡ n) rows t
      (rows_over_all n nullable limit tables others rows each each_other covers are).0 h in
      let there : Has t all = subst (λ (z : Tuple). Contains all.rows z) (sym (whole t long)) (subst (λ (r : Relation). Contains r t) are.looked_up h) in
      let parts = all_to n nullable joined optional others joins.table each_other over_others by_joined t long there in
      record {
        over = long;
        in_each = subst (λ (rs : List Relation). AllZip (FitsIn nullable (empty_values nullable) t) (filled ++ optional) rs) (sym rows_joined)
            (zipped_both (FitsIn nullable (empty_values nullable) t) filled optional (rows_of_tables tables) (rows_of_tables others)
            (filled_fits nullable t filled tables over are_filled (joins.to t long parts.0))
            (optional_fits nullable t optional others are_optional parts.1));
      }

  read_from : (t : Tuple) → IsReadBack n nullable (empty_values nullable) (filled ++ optional) (rows_of_tables (tables ++ others)) t
      → Contains rows t
  read_from t back =
      let parts = zipped_left IsOver (FitsIn nullable (empty_values nullable) t) filled optional tables (rows_of_tables tables) (rows_of_tables others)
      over (length-map tables (λ (b : PartialRelation). b.rows))
      (subst (λ (rs : List Relation). AllZip (FitsIn nullable (empty_values nullable) t) (filled ++ optional) rs) rows_joined back.in_each) in
      let there : Has t all = all_from n nullable joined optional others joins.table each_other over_others by_joined t back.over
      (joins.from t back.over (filled_has nullable t filled tables over are_filled parts.0))
      (optional_back nullable t optional others are_optional parts.1) in
      subst (λ (r : Relation). Contains r t) (sym are.looked_up) (subst (λ (z : Tuple). Contains all.rows z) (whole t back.over) there)

  pub rows_are_read_back : (t : Tuple) → Contains rows t
      ↔ IsReadBack n nullable (empty_values nullable) (filled ++ optional) (rows_of_tables (tables ++ others)) t
  rows_are_read_back t = (read_to t, read_from t)
