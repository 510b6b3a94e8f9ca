-- The targets of a file, one set of columns after the other, and one size after the other.
use Rattle.std.specs.Prelude.{◌↔◌, Any, Contains, IsTrue, MatchBool}
use Rattle.std.proofs.Common.{inl, inr, ◌≡◌, ◌+◌, ◌<◌, ◌≤◌, ◌⊎◌, ℕ, Bool, true, false, List, [], ◌∷◌, ◌++◌, length, take, get_or, Some, refl, sym, ap, subst, ◌∙◌, ⊎_elim, arith}
use Rattle.std.proofs.lemmas.List.Elements.{AllZip-get_or, length_all_zip}
use Rattle.std.proofs.lemmas.List.{take_more}
use Rattle.attr_sets.specs.Attributes.{Attributes, IsSubset}
use Rattle.attr_sets.specs.Sets.{attributes}
use Rattle.attr_sets.specs.declared.set.AttrSet.{AttrSet}
use Rattle.attr_sets.specs.declared.set.TheConstants.{MOST_ATTRIBUTES}
use Rattle.dep_model.specs.Projections.{members_below}
use Rattle.dep_model.specs.Tuples.{Relation, IsOver}
use Rattle.dep_model.proofs.ListLemmas.{same_default}
use Rattle.fd_search.specs.Keys.{IsRowKey}
use Rattle.file_references.specs.Columns.{file_at, name_at}
use Rattle.file_references.specs.Finds.{Adds, AreLookedIn, IsLookedIn, IsTargetOf, IsTo, KnowsTargets, MayRefer, RefersTo, RefersToOne}
use Rattle.file_references.specs.Keys.{AreValues, HoldsKey, IsWholeKey}
use Rattle.file_references.specs.References.{AreNamesakes, HasTwoRows, IsOneColumn, IsReference, IsTarget, Reference}
use Rattle.file_references.specs.declared.reference.TheConstants.{MOST_KEY_COLUMNS}
use Rattle.file_references.specs.declared.targets.Target.{Target}
use Rattle.file_references.proofs.AddLemmas.{adds_fewer, adds_none}
use Rattle.file_references.proofs.PromisingLemmas.{may_refer}
use Rattle.file_references.proofs.SetLemmas.{member_of}
use Rattle.file_references.proofs.SourceLemmas.{all_named_low}
use Rattle.file_references.proofs.TargetLemmas.{adds_key, known_at_first, known_key, known_next, known_other, new_key, new_target, target_known}
use Rattle.headed_rows.specs.Headings.{HeadedRows}
use Rattle.schema_model.specs.Schemas.{attribute_named}
use Rattle.table_join.specs.Lent.{tuples_of}

-- a test that decides chooses
pub by_test : (b : Bool) (S P Q : Type 0) → IsTrue b ↔ S → (S → P) → ((S → ⊥) → Q) → MatchBool b P Q
by_test true S P Q test holds fails = holds (test.0 refl)
by_test false S P Q test holds fails = fails (λ s. let wrong = test.1 s in cc)

-- the same of equal rows and columns
pub moved_key : (r s : Relation) (columns others : List ℕ) → r ≡ s → columns ≡ others → IsWholeKey r columns → IsWholeKey s others
moved_key r s columns others rows_are columns_are key =
    subst (IsWholeKey s) columns_are (subst (λ (t : Relation). IsWholeKey t columns) rows_are key)

pub moved_hold : (r s : Relation) (columns others : List ℕ) (values : Relation) → r ≡ s → columns ≡ others → HoldsKey r columns values
    → HoldsKey s others values
moved_hold r s columns others values rows_are columns_are holds =
    subst (λ (cs : List ℕ). HoldsKey s cs values) columns_are (subst (λ (t : Relation). HoldsKey t columns values) rows_are holds)

module _ (files : List HeadedRows) (target : ℕ) where
  abbrev n : ℕ
  n = length (file_at files target).names

  abbrev r : Relation
  r = (file_at files target).rows

  module _ (shared : Attributes) (size : ℕ) (sets : List AttrSet) (first : List Reference) (keys : List AttrSet) (found : List Reference)
      (s : AttrSet) (knows : KnowsTargets files target shared size sets first keys found) where
    -- the set has a known key within it, or is none
    pub knows_same : (IsWholeKey r (members_below n (attributes s)) → Any (λ (k : AttrSet). IsSubset (attributes k) (attributes s)) keys)
        → KnowsTargets files target shared size (sets ++ s ∷ []) first keys found
    knows_same has = record { known = known_other n r shared size sets keys knows.known s has; added = knows.added }

    -- the set is a key: the references to it were added
    pub knows_new : IsRowKey n r (attributes s) → (new : List Reference)
        → Adds files (λ (ref : Reference). (ref.target ≡ target) × (ref.key ≡ members_below n (attributes s))) found new
        → KnowsTargets files target shared size (sets ++ s ∷ []) first (keys ++ s ∷ []) new
    knows_new is new adds = record {
      known = known_key n r shared size sets keys knows.known s is;
      added = adds_key files n target keys s first found new knows.added adds;
    }

    -- such a key of the code, with its values
    pub is_target_of : (t : Target) → target < length files → n ≤ MOST_ATTRIBUTES → HasTwoRows r → size < MOST_KEY_COLUMNS
        → IsLookedIn files target shared (size + 1) s → (Any (λ (k : AttrSet). IsSubset (attributes k) (attributes s)) keys → ⊥)
        → t.file ≡ target → t.columns.items ≡ members_below n (attributes s)
        → HoldsKey r (members_below n (attributes s)) (tuples_of t.values.keys) → IsTargetOf files t
    is_target_of t inside low differ few looked free file columns holds = record {
      within = subst (λ (i : ℕ). i < length files) (sym file) inside;
      is_target = subst (λ (i : ℕ). IsTarget (length (file_at files i).names) (file_at files i).rows t.columns.items) (sym file)
          (subst (IsTarget n r) (sym columns)
          (new_target n r shared size sets keys low differ knows.known s few looked.0 looked.1 free holds.key));
      values = subst (λ (i : ℕ). AreValues (file_at files i).rows t.columns.items (tuples_of t.values.keys)) (sym file)
          (subst (λ (ks : List ℕ). AreValues r ks (tuples_of t.values.keys)) (sym columns) holds.exact);
    }

    pub is_new_key : n ≤ MOST_ATTRIBUTES → HasTwoRows r → IsLookedIn files target shared (size + 1) s
        → (Any (λ (k : AttrSet). IsSubset (attributes k) (attributes s)) keys → ⊥)
        → IsWholeKey r (members_below n (attributes s)) → IsRowKey n r (attributes s)
    is_new_key low differ looked free key =
        new_key n r shared size sets keys low differ knows.known s looked.0 looked.1 free key

  -- one set more of a list
  pub knows_more : (shared : Attributes) (size : ℕ) (sets : List AttrSet) (first : List Reference) (keys : List AttrSet) (found : List Reference)
      (i : ℕ) (d : AttrSet) → i < length sets → KnowsTargets files target shared size (take i sets ++ get_or sets i d ∷ []) first keys found
      → KnowsTargets files target shared size (take (i + 1) sets) first keys found
  knows_more shared size sets first keys found i d low knows =
      subst (λ (ss : List AttrSet). KnowsTargets files target shared size ss first keys found) (sym (take_more sets i d low)) knows

  -- ---- from size to size
  pub knows_first : (shared : Attributes) (keys : List AttrSet) (found : List Reference) → keys ≡ []
      → KnowsTargets files target shared 0 [] found keys found
  knows_first shared keys found none = record {
    known = known_at_first n r shared keys none;
    added = adds_none files (RefersToOne n target keys) found (λ ref is (to, (s, s_in, key)). omega (arith, s_in.1, ap length none));
  }

  pub knows_next : (shared : Attributes) (size : ℕ) (sets : List AttrSet) (first : List Reference) (keys : List AttrSet) (found : List Reference)
      → AreLookedIn files target shared (size + 1) sets → KnowsTargets files target shared size sets first keys found
      → KnowsTargets files target shared (size + 1) [] first keys found
  knows_next shared size sets first keys found all knows = record {
    known = known_next n r shared size sets keys all knows.known;
    added = knows.added;
  }

  -- ---- all sizes
  -- of a source of a key of several columns the columns of the key are shared
  alone : (shared : Attributes) → ((file : ℕ) → file < length files → IsOver (length (file_at files file).names) (file_at files file).rows)
      → ((file k x : ℕ) → file < length files → (file ≡ target → ⊥) → k < n
      → attribute_named (file_at files file).names (name_at (file_at files target).names k) ≡ Some x
      → MayRefer (file_at files file).rows x r k → shared k ≡ true)
      → (ref : Reference) → ref.target ≡ target → IsReference files ref
      → (length ref.key ≡ 1) ⊎ ((k : ℕ) → Contains ref.key k → shared k ≡ true)
  alone shared over all ref to is = ⊎_elim (λ (column : IsOneColumn files ref). inl (ap length column.target))
      (λ (names : AreNamesakes files ref). inr (λ k has.
      let t = is.candidate.target in
      let low = (member_of (length (file_at files ref.target).names) t.set k (subst (λ (ks : List ℕ). Contains ks k) t.columns has)).0 in
      named ref to names is k has
      (subst (λ (i : ℕ). k < length (file_at files i).names) to low))) is.candidate.source
    where
      named : (ref : Reference) → ref.target ≡ target → AreNamesakes files ref → IsReference files ref → (k : ℕ) → Contains ref.key k
          → k < n → shared k ≡ true
      named ref to names is k (i, i_low, at) low =
          let inside = is.candidate.file in
          let size = length_all_zip (λ (column c : ℕ). attribute_named (file_at files ref.file).names (name_at (file_at files ref.target).names c) ≡ Some column)
          ref.columns ref.key names.named in
          let here = AllZip-get_or (λ (column c : ℕ). attribute_named (file_at files ref.file).names (name_at (file_at files ref.target).names c) ≡ Some column)
          ref.columns ref.key i 0 k names.named (omega (arith, i_low, size)) in
          let may = may_refer (length (file_at files ref.file).names) (file_at files ref.file).rows ref.columns
          (file_at files ref.target).rows ref.key i (over ref.file inside)
          (all_named_low (file_at files ref.file).names (file_at files ref.target).names ref.columns ref.key names.named) size i_low is.within in
          all ref.file k (get_or ref.columns i 0) inside (λ same. names.other (same ∙ sym to)) low
          (ap (λ (t : ℕ). attribute_named (file_at files ref.file).names (name_at (file_at files t).names k)) (sym to)
          ∙ ap (λ (c : ℕ). attribute_named (file_at files ref.file).names (name_at (file_at files ref.target).names c)) (sym at)
          ∙ here)
          (subst (MayRefer (file_at files ref.file).rows (get_or ref.columns i 0) r) (same_default ref.key i 0 k i_low ∙ at)
          (subst (λ (t : ℕ). MayRefer (file_at files ref.file).rows (get_or ref.columns i 0) (file_at files t).rows (get_or ref.key i 0)) to may))

  pub all_known : (shared : Attributes) (first : List Reference) (keys : List AttrSet) (found : List Reference) → n ≤ MOST_ATTRIBUTES
      → ((file : ℕ) → file < length files → IsOver (length (file_at files file).names) (file_at files file).rows)
      → ((file k x : ℕ) → file < length files → (file ≡ target → ⊥) → k < n
      → attribute_named (file_at files file).names (name_at (file_at files target).names k) ≡ Some x
      → MayRefer (file_at files file).rows x r k → shared k ≡ true)
      → KnowsTargets files target shared 3 [] first keys found → Adds files (IsTo target) first found
  all_known shared first keys found low over all knows =
      adds_fewer files (RefersToOne n target keys) (IsTo target) first found
      (λ ref is to. (
        to,
        target_known n r shared 3 keys ref.key low (omega arith) knows.known
            (subst (λ (i : ℕ). IsTarget (length (file_at files i).names) (file_at files i).rows ref.key) to is.candidate.target)
            (alone shared over all ref to is),
      )) knows.added

  -- where no two rows differ, there is no target
  pub none_known : (found : List Reference) → (HasTwoRows r → ⊥) → Adds files (IsTo target) found found
  none_known found alike = adds_none files (IsTo target) found (λ ref is to.
      alike (subst (λ (i : ℕ). HasTwoRows (file_at files i).rows) to is.candidate.target.differ))

-- the columns of a target, where they are these
pub refers_to_set : (target : Target) (n file : ℕ) (x : Attributes) → target.file ≡ file → target.columns.items ≡ members_below n x
    → (ref : Reference) → (ref.target ≡ file) × (ref.key ≡ members_below n x) → RefersTo target ref
refers_to_set target n file x is columns ref (to, key) = (to ∙ sym is, key ∙ sym columns)
