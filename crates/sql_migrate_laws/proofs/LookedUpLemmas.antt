-- The optional tables of a design that are looked up, one after the other, from those that are joined.
use Rattle.std.proofs.Common.{◌≡◌, ◌<◌, ◌⊎◌, ℕ, Bool, true, false, ◌||◌, List, [], ◌∷◌, map, Some, refl, sym, ap, subst, ◌∙◌, inl, inr, ⊎_elim, arith}
use Rattle.std.proofs.lemmas.Bool.{cases_Bool, true≢false, and_parts}
use Rattle.std.proofs.lemmas.List.Elements.{All-contains}
use Rattle.std.specs.Prelude.{AllPairs, Contains, length, slice_get, option_and_then}
use Rattle.attr_sets.specs.Attributes.{Attributes, union, IsSubset}
use Rattle.attr_sets.specs.Sets.{attributes}
use Rattle.schema_model.specs.declared.column_type.ColumnType.TheVariants.{Integer}
use Rattle.schema_model.specs.Schemas.{Schema}
use Rattle.schema_model.specs.Schemas.{width_of, nullable_of, LegalFor}
use Rattle.dep_model.specs.Tuples.{Tuple, Relation, value_at}
use Rattle.dep_model.proofs.DistinctLemmas.{filter-keeps}
use Rattle.dep_model.proofs.ListLemmas.{Contains-head, Contains-later, Contains-cases, Contains-map}
use Rattle.dep_model.proofs.PairLemmas.{first_pairs, later_pairs}
use Rattle.optional_tables.specs.declared.keyed.KeyedScheme.{KeyedScheme}
use Rattle.optional_tables.specs.Homes.{is_optional, has_outside_key, is_home_of, has_home}
use Rattle.optional_tables.specs.LookUps.{misses_none, IsTidyFor}
use Rattle.optional_tables.specs.Order.{members_at, HomesComeFirst}
use Rattle.optional_tables.proofs.HomeLemmas.{there_from, optional_from, home_has_key, home_has_outside, home_among}
use Rattle.optional_tables.proofs.PositionLemmas.{members_first, position_of_member}
use Rattle.ddl_text.specs.declared.table.TableDesign.{TableDesign}
use Rattle.ddl_text.specs.Designs.{keyed}
use Rattle.sql_syntax.specs.Names.{quoted_name}
use Rattle.sql_check.specs.Columns.{type_at}
use Rattle.sql_evaluation.specs.Cells.{is_none}
use Rattle.sql_evaluation.specs.Evaluation.{Rows, Engine, left_joined_by, linked, all_linked}
use Rattle.sql_evaluation.specs.Running.{Cast}
use Rattle.sql_check_laws.specs.HeldRelations.{compared_cell, AreApart, CastsIntegers}
use Rattle.sql_check_laws.specs.CheckedRules.{NoneMissing, AreIntegers}
use Rattle.sql_check_laws.proofs.ValuesLemmas.{names_on}
use Rattle.sql_migrate.specs.declared.joining.JoinedTable.{JoinedTable}
use Rattle.sql_migrate.specs.Script.{look_up}
use Rattle.sql_migrate_laws.specs.Ending.{AreComparable, FitsRelations}
use Rattle.sql_migrate_laws.specs.Moved.{missing_cells, is_complete, complete_for}
use Rattle.sql_migrate_laws.proofs.EnteredLemmas.{Cells, entered, entered-none, none_is_missing}
use Rattle.sql_migrate_laws.proofs.CompleteLemmas.{misses-complete, complete-same, complete-within, complete-is, key-present}
use Rattle.sql_migrate_laws.proofs.FullLemmas.{got_member}
use Rattle.sql_migrate_laws.proofs.JoinedLemmas.{projected, InEach, IsJoinOf, IsLeftOut, in_new, look_more}
use Rattle.sql_migrate_laws.proofs.NameLemmas.{attribute_names-are}
use Rattle.sql_migrate_laws.proofs.PositionLemmas.{got_keyed, got_from_keyed, same_got, Differ}

-- a table of a design, as it is joined
abbrev pub as_joined : TableDesign → JoinedTable
as_joined design = record { name = design.name; scheme = design.scheme }

-- a home among some tables is one among more
home_more : (nullable : Attributes) (tables : List KeyedScheme) (more table : KeyedScheme) → has_home nullable tables table ≡ true
    → has_home nullable (more ∷ tables) table ≡ true
home_more nullable tables more table e = ap (λ (b : Bool). is_home_of nullable table more || b) e ∙ or_true (is_home_of nullable table more)
  where
    or_true : (b : Bool) → (b || true) ≡ true
    or_true true = refl
    or_true false = refl

module _ (cast : Cast) (s : Schema) (cell : Cells) (r : Relation) (casts : CastsIntegers cast)
    (integers : (k : ℕ) → k < width_of s → type_at s k ≡ Integer → AreIntegers (compared_cell cell) r k)
    (apart : AreApart s cell r) (none : NoneMissing s cell r) (comparable : AreComparable s cell r)
    (designs : List TableDesign) (fits : FitsRelations s designs) (legal : LegalFor s r)
    (tidy : (design : TableDesign) → Contains designs design → IsTidyFor (missing_cells s cell) r (keyed design)) where
  abbrev nullable : Attributes
  nullable = nullable_of s

  abbrev tables : List KeyedScheme
  tables = map keyed designs

  -- these tables are joined, which stand at positions of the design; of those that are optional a home is among them
  pub record IsDone (js : List ℕ) (done : List JoinedTable) : Type 0 where
    pub from : (x : JoinedTable) → Contains done x → (k : ℕ) × Contains js k × (t : TableDesign) × (slice_get designs k ≡ Some t) × (x ≡ as_joined t)
    pub to : (k : ℕ) (t : TableDesign) → Contains js k → slice_get designs k ≡ Some t → Contains done (as_joined t)
    pub homes : (k : ℕ) (t : TableDesign) → Contains js k → slice_get designs k ≡ Some t → is_optional nullable (keyed t) ≡ true
        → has_home nullable (members_at tables js) (keyed t) ≡ true

  -- ---- a home that is joined
  pub record HasHome (js : List ℕ) (t : TableDesign) : Type 0 where
    pub position : ℕ
    pub joined : Contains js position
    pub table : TableDesign
    pub at : slice_get designs position ≡ Some table
    pub is : is_home_of nullable (keyed t) (keyed table) ≡ true

  home_of : (js : List ℕ) (t : TableDesign) → has_home nullable (members_at tables js) (keyed t) ≡ true → HasHome js t
  home_of js t e =
      let found = home_among nullable (members_at tables js) (keyed t) e in
      let place = position_of_member tables js found.1 (got_member (members_at tables js) found.0 found.1 found.3) in
      let of = got_from_keyed designs place.0 found.1 place.2 in
      record {
        position = place.0;
        joined = place.1;
        table = of.0;
        at = of.1;
        is = ap (is_home_of nullable (keyed t)) of.2 ∙ found.4;
      }

  -- ---- what an optional table has beside its key is in no table that is joined before it
  outside : (t : TableDesign) (a : ℕ) → attributes t.scheme a ≡ true → attributes t.key a ≡ false → has_outside_key (keyed t) a ≡ true
  outside t a inside beside = grind (arith, inside, beside)

  unseen : (js : List ℕ) (done : List JoinedTable) → IsDone js done → (p : ℕ) (t : TableDesign) → slice_get designs p ≡ Some t → is_optional nullable (keyed t) ≡ true
      → (Contains js p → ⊥) → (a : ℕ) → attributes t.scheme a ≡ true → attributes t.key a ≡ false
      → (x : JoinedTable) → Contains done x → attributes x.scheme a ≡ true → ⊥
  unseen js done is p t at opt fresh a inside beside x h has =
      let of = is.from x h in
      let k = of.0 in
      let u = of.2 in
      let there : attributes u.scheme a ≡ true = ap (λ (y : JoinedTable). attributes y.scheme a) (sym of.4) ∙ has in
      elim (cases_Bool (attributes u.key a)) [
        | inr not_key ↦ fresh (subst (Contains js) (same_place k u of.3 there not_key) of.1)
        | inl in_key ↦
            let home = home_of js u (is.homes k u of.1 of.3 (optional_from nullable (keyed u) a in_key missing)) in
            fresh (subst (Contains js) (same_place home.position home.table home.at (home_has_key nullable (keyed u) (keyed home.table) home.is a in_key)
            (home_has_outside nullable (keyed u) (keyed home.table) a home.is in_key missing)) home.joined)
      ]
    where
      missing : nullable a ≡ true
      missing = (fits.readable.looked_up (keyed t) (Contains-map keyed designs t (got_member designs p t at)) opt).beside a (outside t a inside beside)

      -- a table that has it beside its key stands where this one does
      same_place : (k : ℕ) (u : TableDesign) → slice_get designs k ≡ Some u → attributes u.scheme a ≡ true → attributes u.key a ≡ false → k ≡ p
      same_place k u at_k in_scheme not_key =
          let one = fits.readable.homes a missing in
          one.only k (there_from (λ table. has_outside_key table a ≡ true) tables k (keyed u) (got_keyed designs k u at_k) (outside u a in_scheme not_key))
          ∙ sym (one.only p (there_from (λ table. has_outside_key table a ≡ true) tables p (keyed t) (got_keyed designs p t at) (outside t a inside beside)))

  -- ---- one table
  looked_up_is : (e : Engine) (a : Rows) (t : TableDesign) (rows : Rows) → e.tables (quoted_name t.name) ≡ Some rows
      → linked e a (look_up s t) ≡ left_joined_by (names_on s (attributes t.key)) a rows
  looked_up_is e a t rows known =
      ap (λ (by : List (List ℕ)). option_and_then (left_joined_by by a) (e.tables (quoted_name t.name))) (attribute_names-are s (attributes t.key))
      ∙ ap (option_and_then (left_joined_by (names_on s (attributes t.key)) a)) known

  module _ (js : List ℕ) (done : List JoinedTable) (seen : Attributes) (a : Rows) (j : IsJoinOf s cast cell r done seen a) (is : IsDone js done)
      (p : ℕ) (t : TableDesign) (at : slice_get designs p ≡ Some t) (opt : is_optional nullable (keyed t) ≡ true) (fresh : Contains js p → ⊥)
      (home : has_home nullable (members_at tables js) (keyed t) ≡ true) where
    abbrev key : Attributes
    key = attributes t.key

    abbrev part : Relation
    part = complete_for s cell t r

    inside : Contains designs t
    inside = got_member designs p t at

    found : HasHome js t
    found = home_of js t home

    in_home : IsSubset key (attributes found.table.scheme)
    in_home = home_has_key nullable (keyed t) (keyed found.table) found.is

    home_done : Contains done (as_joined found.table)
    home_done = is.to found.position found.table found.joined found.at

    in_both : (k : ℕ) → key k ≡ true → (seen k ≡ true) × (attributes t.scheme k ≡ true)
    in_both k e = (j.seen_of (as_joined found.table) home_done k (in_home k e), fits.key_within t inside k e)

    is_key : (k : ℕ) → k < width_of s → seen k ≡ true → attributes t.scheme k ≡ true → key k ≡ true
    is_key k low e in_scheme = elim (cases_Bool (key k)) [
      | inl held ↦ held
      | inr not_key ↦ let of = j.of_done k e in absurd (unseen js done is p t at opt fresh k in_scheme not_key of.0 of.1 of.2)
    ]

    within : (u : Tuple) → Contains part u → Contains r u
    within u h = complete-within s cell t r u h

    key_there : (u : Tuple) → Contains part u → (k : ℕ) → k < width_of s → key k ≡ true → is_none (entered s cast cell k (value_at u k)) ≡ false
    key_there u h k low e = entered-none cast s cell r casts integers k u low (within u h) ∙ key-present s cell r none t u h k low e

    at_home : (w : ℕ → List ℕ) → InEach s r done w → (u : Tuple) × Contains r u × ((k : ℕ) → k < width_of s → key k ≡ true → w k ≡ value_at u k)
    at_home w each = let u = each (as_joined found.table) home_done in (u.0, u.1, λ k low e. u.2 k low (in_home k e))

    decide : (u : Tuple) → Contains r u
        → Contains part u ⊎ IsLeftOut cast s cell r casts integers apart comparable done seen a (as_joined t) j part within key in_both is_key key_there u
    decide u h = elim (cases_Bool (is_complete s cell key u)) [
      | inl complete ↦ inl (filter-keeps (is_complete s cell key) r u h complete)
      | inr misses ↦ inr (
        λ v hv same. true≢false (sym (complete-same s cell key u v (complete-is s cell t r v hv) same) ∙ misses),
        λ k hk.
            let new = in_new cast s cell r casts integers apart comparable done seen a (as_joined t) j part within key in_both is_key key_there k hk in
            let not_key : key k ≡ false = elim (cases_Bool (key k)) [
              | inl held ↦ absurd (true≢false (sym (in_both k held).0 ∙ new.2))
              | inr other ↦ other
            ] in
            let some : misses_none (missing_cells s cell) key u ≡ false =
            misses-complete s cell key u (All-contains (λ (v : Tuple). length v ≡ width_of s) r u legal.over h) ∙ misses in
            let gone = tidy t inside u h some k (outside t k new.1 not_key) in
            sym (none_is_missing (entered s cast cell k (value_at u k))
            (entered-none cast s cell r casts integers k u new.0 h ∙ (and_parts (nullable k) (is_none (cell k (value_at u k))) gone).1)),
      )
    ]

    pub one_looked_up : (e : Engine) → e.tables (quoted_name t.name) ≡ Some (projected s cast cell part (attributes t.scheme))
        → (b : Rows) × (linked e a (look_up s t) ≡ Some b) × IsJoinOf s cast cell r (as_joined t ∷ done) (union seen (attributes t.scheme)) b
    one_looked_up e known =
        let more = look_more cast s cell r casts integers apart comparable done seen a (as_joined t) j part within key in_both is_key key_there at_home decide in
        (more.0, looked_up_is e a t (projected s cast cell part (attributes t.scheme)) known ∙ more.1, more.2)

    pub done_more : IsDone (p ∷ js) (as_joined t ∷ done)
    done_more = record {
      from = λ x h. ⊎_elim
          (λ (same : x ≡ as_joined t). (p, Contains-head p js, t, at, same))
          (λ later. let of = is.from x later in (of.0, Contains-later p js of.0 of.1, of.2, of.3, of.4))
          (Contains-cases (as_joined t) done x h);
      to = λ k u h at_k. ⊎_elim
          (λ (same : k ≡ p). subst (Contains (as_joined t ∷ done)) (ap as_joined (sym (same_got designs k p u t at_k at same))) (Contains-head (as_joined t) done))
          (λ later. Contains-later (as_joined t) done (as_joined u) (is.to k u later at_k))
          (Contains-cases p js k h);
      homes = λ k u h at_k e. ap (λ (all : List KeyedScheme). has_home nullable all (keyed u)) (members_first tables js p (keyed t) (got_keyed designs p t at))
          ∙ home_more nullable (members_at tables js) (keyed t) (keyed u) (⊎_elim
          (λ (same : k ≡ p). ap (λ (v : TableDesign). has_home nullable (members_at tables js) (keyed v)) (same_got designs k p u t at_k at same) ∙ home)
          (λ later. is.homes k u later at_k e)
          (Contains-cases p js k h));
    }

  -- ---- all of them
  pub record AreLookedUp (e : Engine) (ps js : List ℕ) (a : Rows) : Type 0 where
    pub rows : Rows
    pub is : all_linked e (map (look_up s) (members_at designs ps)) a ≡ Some rows
    pub done : List JoinedTable
    pub seen : Attributes
    pub join : IsJoinOf s cast cell r done seen rows
    pub has_before : (k : ℕ) (t : TableDesign) → Contains js k → slice_get designs k ≡ Some t → Contains done (as_joined t)
    pub has : (k : ℕ) (t : TableDesign) → Contains ps k → slice_get designs k ≡ Some t → Contains done (as_joined t)

  pub all_looked_up : (e : Engine)
      → ((t : TableDesign) → Contains designs t → e.tables (quoted_name t.name) ≡ Some (projected s cast cell (complete_for s cell t r) (attributes t.scheme)))
      → (ps js : List ℕ) (done : List JoinedTable) (seen : Attributes) (a : Rows) → IsJoinOf s cast cell r done seen a → IsDone js done
      → ((p : ℕ) → Contains ps p → (t : TableDesign) × (slice_get designs p ≡ Some t) × (is_optional nullable (keyed t) ≡ true))
      → AllPairs Differ ps → ((p : ℕ) → Contains ps p → Contains js p → ⊥) → HomesComeFirst nullable (members_at tables js) (members_at tables ps)
      → AreLookedUp e ps js a
  all_looked_up e known [] js done seen a j is valid differ fresh homes = record {
    rows = a;
    is = refl;
    done = done;
    seen = seen;
    join = j;
    has_before = λ k t h at. is.to k t h at;
    has = λ k t h at. absurd (omega (arith, h.1));
  }
  all_looked_up e known (p ∷ ps) js done seen a j is valid differ fresh homes =
      let (t, at, opt) = valid p (Contains-head p ps) in
      let here = subst (HomesComeFirst nullable (members_at tables js)) (members_first tables ps p (keyed t) (got_keyed designs p t at)) homes in
      let new = fresh p (Contains-head p ps) in
      let one = one_looked_up js done seen a j is p t at opt new here.0 e (known t (got_member designs p t at)) in
      let rest = all_looked_up e known ps (p ∷ js) (as_joined t ∷ done) (union seen (attributes t.scheme)) one.0 one.2
      (done_more js done seen a j is p t at opt new here.0)
      (λ q h. valid q (Contains-later p ps q h)) (later_pairs Differ p ps differ)
      (λ q h m. ⊎_elim
      (λ (same : q ≡ p). first_pairs Differ p ps q differ h (sym same))
      (λ later. fresh q (Contains-later p ps q h) later)
      (Contains-cases p js q m))
      (subst (λ (all : List KeyedScheme). HomesComeFirst nullable all (members_at tables ps)) (sym (members_first tables js p (keyed t) (got_keyed designs p t at))) here.1) in
      record {
        rows = rest.rows;
        is = ap (λ (ts : List TableDesign). all_linked e (map (look_up s) ts) a) (members_first designs ps p t at)
            ∙ ap (option_and_then (all_linked e (map (look_up s) (members_at designs ps)))) one.1 ∙ rest.is;
        done = rest.done;
        seen = rest.seen;
        join = rest.join;
        has_before = λ k u h at_k. rest.has_before k u (Contains-later p js k h) at_k;
        has = λ k u h at_k. ⊎_elim
            (λ (same : k ≡ p). rest.has_before k u (subst (Contains (p ∷ js)) (sym same) (Contains-head p js)) at_k)
            (λ later. rest.has k u later at_k)
            (Contains-cases p ps k h);
      }
