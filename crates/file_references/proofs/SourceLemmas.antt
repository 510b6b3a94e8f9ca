-- Which columns refer to a target.
use Rattle.std.specs.Prelude.{All, Contains}
use Rattle.std.proofs.Common.{inl, inr, ◌≡◌, ◌+◌, ◌<◌, ◌≤◌, ℕ, zero, suc, true, List, [], ◌∷◌, ◌++◌, length, take, get_or, Some, None, refl, sym, ap, subst, ◌∙◌, ⊎_elim, arith}
use Rattle.std.proofs.lemmas.List.Elements.{AllZip-get_or, AllZip-push, length_all_zip}
use Rattle.std.proofs.lemmas.List.{take_more}
use Rattle.std.proofs.lemmas.Bool.{cases_lt}
use Rattle.std.proofs.lemmas.List.Quantifiers.{position-Some}
use Rattle.dep_model.proofs.ListLemmas.{All-members}
use Rattle.dep_model.specs.Tuples.{Tuple, Relation}
use Rattle.file_references.specs.Columns.{file_at, misses_none, name_at, values_on}
use Rattle.file_references.specs.Finds.{Adds, AllAre, AreNamedAs, IsTargetOf, IsThis, RefersFrom, RefersFromColumns, RefersFromFirst, RefersTo, refers_from}
use Rattle.file_references.specs.References.{AreNamesakes, IsCandidate, IsOneColumn, IsReference, IsTarget, Reference}
use Rattle.file_references.specs.declared.targets.Target.{Target}
use Rattle.file_references.proofs.AddLemmas.{adds_fewer, adds_none, adds_then}
use Rattle.file_references.proofs.SetLemmas.{member_of}
use Rattle.file_references.proofs.TargetLemmas.{target_some}
use Rattle.dep_model.proofs.SchemeLemmas.{length-members_below}
use Rattle.headed_rows.specs.Headings.{HeadedRows}
use Rattle.schema_model.specs.Names.{same_name}
use Rattle.schema_model.specs.Schemas.{attribute_named}
use Rattle.row_store.specs.Rows.{row_at}
use Rattle.table_join.specs.Lent.{tuples_of}
use Rattle.file_references.proofs.ValueLemmas.{row_in, row_of}

-- a candidate whose values are all there is a reference
pub is_reference : (files : List HeadedRows) (file : ℕ) (columns : List ℕ) (target : Target) → IsTargetOf files target
    → IsCandidate files (refers_from file columns target)
    → AllAre (file_at files file).rows columns (tuples_of target.values.keys)
    → IsReference files (refers_from file columns target)
is_reference files file columns target of candidate all = record {
  candidate = candidate;
  within = λ t t_in whole. (of.values (values_on columns t)).0 (all.within t t_in whole);
  some_row = all.some_row;
}

pub reference_is : (files : List HeadedRows) (file : ℕ) (columns : List ℕ) (target : Target) → IsTargetOf files target
    → IsReference files (refers_from file columns target)
    → AllAre (file_at files file).rows columns (tuples_of target.values.keys)
reference_is files file columns target of is = record {
  within = λ t t_in whole. (of.values (values_on columns t)).1 (is.within t t_in whole);
  some_row = is.some_row;
}

-- the same of equal rows and columns
pub all_moved : (r s : Relation) (columns others : List ℕ) (values : Relation) → r ≡ s → columns ≡ others → AllAre r columns values → AllAre s others values
all_moved r s columns others values rows_are columns_are all =
    subst (λ (cs : List ℕ). AllAre s cs values) columns_are (subst (λ (t : Relation). AllAre t columns values) rows_are all)

-- the columns of a target are columns
pub key_low : (n : ℕ) (r : Relation) (key : List ℕ) → IsTarget n r key → All (λ (k : ℕ). k < n) key
key_low n r key is = All-members (λ (k : ℕ). k < n) key (λ k has.
    (member_of n is.set k (subst (λ (ks : List ℕ). Contains ks k) is.columns has)).0)

-- ---- one column
pub one_element : (xs : List ℕ) → length xs ≡ 1 → xs ≡ get_or xs 0 0 ∷ []
one_element [] h = cc
one_element (x ∷ []) h = refl
one_element (x ∷ y ∷ xs) h = absurd (omega (arith, h))

-- a column and a key of one column
pub one_candidate : (files : List HeadedRows) (file column : ℕ) (columns : List ℕ) (target : Target) → IsTargetOf files target → file < length files
    → column < length (file_at files file).names → length target.columns.items ≡ 1
    → (file ≡ target.file → column ≡ get_or target.columns.items 0 0 → ⊥) → columns ≡ column ∷ []
    → IsCandidate files (refers_from file columns target)
one_candidate files file column columns target of inside low one other is = record {
  file = inside;
  target_file = of.within;
  target = of.is_target;
  source = inl (record {
    column = column;
    key_column = get_or target.columns.items 0 0;
    source = is;
    target = one_element target.columns.items one;
    within = low;
    other = other;
  });
}

pub several_columns : (n : ℕ) (r : Relation) (key : List ℕ) → IsTarget n r key → (length key ≡ 1 → ⊥) → 1 < length key
several_columns n r key is other =
    several (length key) (omega (arith, target_some n r key is, length-members_below n is.set, ap length is.columns)) other
  where
    several : (m : ℕ) → 0 < m → (m ≡ 1 → ⊥) → 1 < m
    several zero some not_one = absurd (omega (arith, some))
    several (suc zero) some not_one = absurd (not_one refl)
    several (suc (suc m)) some not_one = omega arith

-- columns of the same names and a key of several columns
pub names_candidate : (files : List HeadedRows) (file : ℕ) (columns : List ℕ) (target : Target) → IsTargetOf files target → file < length files
    → (file ≡ target.file → ⊥) → (length target.columns.items ≡ 1 → ⊥)
    → AreNamedAs (file_at files file).names (file_at files target.file).names columns target.columns.items
    → IsCandidate files (refers_from file columns target)
names_candidate files file columns target of inside other not_one named = record {
  file = inside;
  target_file = of.within;
  target = of.is_target;
  source = inr (record {
    several = several_columns (length (file_at files target.file).names) (file_at files target.file).rows target.columns.items of.is_target not_one;
    other = other;
    named = named;
  });
}

-- of a key of one column only a column is a source
pub one_source : (files : List HeadedRows) (ref : Reference) → length ref.key ≡ 1 → IsReference files ref → IsOneColumn files ref
one_source files ref one is = ⊎_elim (λ column. column) (λ names. let several = names.several in absurd (omega (arith, one, several)))
    is.candidate.source

-- and of any other one only columns of the same names
pub several_source : (files : List HeadedRows) (ref : Reference) → (length ref.key ≡ 1 → ⊥) → IsReference files ref → AreNamesakes files ref
several_source files ref other is = ⊎_elim (λ column. absurd (other (ap length column.target))) (λ names. names) is.candidate.source

-- ---- columns of the same names
pub named_low : (names : List (List ℕ)) (name : List ℕ) (x : ℕ) → attribute_named names name ≡ Some x → x < length names
named_low names name x is = (position-Some (λ (n : List ℕ). same_name n name) names x [] is).0

pub all_named_low : (names others : List (List ℕ)) (columns key : List ℕ) → AreNamedAs names others columns key
    → All (λ (k : ℕ). k < length names) columns
all_named_low names others columns key named = λ i d l.
    named_low names (name_at others (get_or key i 0)) (get_or columns i d)
    (AllZip-get_or (λ (column k : ℕ). attribute_named names (name_at others k) ≡ Some column) columns key i d 0 named l)

pub one_named : (names others : List (List ℕ)) (xs ys key : List ℕ) → AreNamedAs names others xs key → AreNamedAs names others ys key → xs ≡ ys
one_named names others [] [] [] first second = refl
one_named names others [] (y ∷ ys) [] first second = absurd second
one_named names others (x ∷ xs) ys [] first second = absurd first
one_named names others [] ys (k ∷ key) first second = absurd first
one_named names others (x ∷ xs) [] (k ∷ key) first second = absurd second
one_named names others (x ∷ xs) (y ∷ ys) (k ∷ key) first second =
    let same : x ≡ y = some_same x y (sym first.0 ∙ second.0) in
    ap (λ (z : ℕ). z ∷ xs) same ∙ ap (λ (zs : List ℕ). y ∷ zs) (one_named names others xs ys key first.1 second.1)
  where
    some_same : (a b : ℕ) → Some a ≡ Some b → a ≡ b
    some_same a b e = cc

-- one column more
pub named_more : (names others : List (List ℕ)) (found key : List ℕ) (i d : ℕ) (x : ℕ) → i < length key
    → AreNamedAs names others found (take i key) → attribute_named names (name_at others (get_or key i d)) ≡ Some x
    → AreNamedAs names others (found ++ x ∷ []) (take (i + 1) key)
named_more names others found key i d x low before here =
    subst (AreNamedAs names others (found ++ x ∷ [])) (sym (take_more key i d low))
    (AllZip-push (λ (column k : ℕ). attribute_named names (name_at others k) ≡ Some column) found (take i key) x (get_or key i d) before here)

-- the same of equal names and columns
pub moved_names : (names these others those : List (List ℕ)) (columns key keys : List ℕ) → names ≡ these → others ≡ those → key ≡ keys
    → AreNamedAs names others columns key → AreNamedAs these those columns keys
moved_names names these others those columns key keys first second third named =
    subst (λ (ns : List (List ℕ)). AreNamedAs ns those columns keys) first
    (subst (λ (ns : List (List ℕ)). AreNamedAs names ns columns keys) second
    (subst (AreNamedAs names others columns) third named))

-- a column that has no namesake
pub not_named : (names others : List (List ℕ)) (columns key : List ℕ) (i d : ℕ) → i < length key
    → attribute_named names (name_at others (get_or key i d)) ≡ None → AreNamedAs names others columns key → ⊥
not_named names others columns key i d low none named =
    let here = AllZip-get_or (λ (column k : ℕ). attribute_named names (name_at others k) ≡ Some column) columns key i 0 d named
    (omega (arith, low, length_all_zip (λ (column k : ℕ). attribute_named names (name_at others k) ≡ Some column) columns key named)) in
    let wrong = sym none ∙ here in cc

-- the columns of a reference are named as those of its target
names_of : (files : List HeadedRows) (file : ℕ) (target : Target) (ref : Reference) → (length target.columns.items ≡ 1 → ⊥) → IsReference files ref
    → RefersFrom target file ref → AreNamedAs (file_at files file).names (file_at files target.file).names ref.columns target.columns.items
names_of files file target ref not_one is from =
    let names = several_source files ref (λ one. not_one (ap length (sym from.0.1) ∙ one)) is in
    subst (λ (key : List ℕ). AreNamedAs (file_at files file).names (file_at files target.file).names ref.columns key) from.0.1
    (subst (λ (t : ℕ). AreNamedAs (file_at files file).names (file_at files t).names ref.columns ref.key) from.0.0
    (subst (λ (f : ℕ). AreNamedAs (file_at files f).names (file_at files ref.target).names ref.columns ref.key) from.1 names.named))

-- ---- the references from one file, column by column
pub columns_first : (files : List HeadedRows) (file : ℕ) (target : Target) (old : List Reference) → Adds files (RefersFromColumns target file 0) old old
columns_first files file target old = adds_none files (RefersFromColumns target file 0) old (λ ref is (from, (k, low, at)). omega (arith, low))

-- up to one column more: those before it, and the one from it
pub columns_more : (files : List HeadedRows) (file column : ℕ) (columns : List ℕ) (target : Target) (old now new : List Reference) → columns ≡ column ∷ []
    → Adds files (RefersFromColumns target file column) old now → Adds files (IsThis (refers_from file columns target)) now new
    → Adds files (RefersFromColumns target file (column + 1)) old new
columns_more files file column columns target old now new is before one =
    adds_then files (RefersFromColumns target file column) (IsThis (refers_from file columns target)) (RefersFromColumns target file (column + 1)) old now new
    (λ ref of (from, (k, low, at)). elim (cases_lt k column) [
      | inl less ↦ inl (from, (k, less, at))
      | inr other ↦
          let last : k ≡ column = omega (arith, low, other) in
          inr (λ i. record {
            file = from.1 i;
            columns = (at ∙ ap (λ (j : ℕ). j ∷ []) last ∙ sym is) i;
            target = from.0.0 i;
            key = from.0.1 i;
          })
    ]) before one

-- the target itself is no source
pub columns_same : (files : List HeadedRows) (file column : ℕ) (target : Target) (old now : List Reference) → length target.columns.items ≡ 1
    → file ≡ target.file → column ≡ get_or target.columns.items 0 0 → Adds files (RefersFromColumns target file column) old now
    → Adds files (RefersFromColumns target file (column + 1)) old now
columns_same files file column target old now one same_file same_column before =
    adds_then files (RefersFromColumns target file column) (λ (ref : Reference). ⊥) (RefersFromColumns target file (column + 1)) old now now
    (λ ref of (from, (k, low, at)). elim (cases_lt k column) [
      | inl less ↦ inl (from, (k, less, at))
      | inr other ↦ absurd (itself ref of from k at (omega (arith, low, other)))
    ]) before (adds_none files (λ (ref : Reference). ⊥) now (λ ref is never. never))
  where
    itself : (ref : Reference) → IsReference files ref → RefersFrom target file ref → (k : ℕ) → ref.columns ≡ k ∷ [] → k ≡ column → ⊥
    itself ref of from k at last =
        let source = one_source files ref (ap length from.0.1 ∙ one) of in
        let key_at : source.key_column ≡ get_or target.columns.items 0 0 =
        ap (λ (ks : List ℕ). get_or ks 0 0) (sym source.target ∙ from.0.1) in
        let column_at : source.column ≡ k = ap (λ (ks : List ℕ). get_or ks 0 0) (sym source.source ∙ at) in
        source.other (from.1 ∙ same_file ∙ sym from.0.0) (column_at ∙ last ∙ same_column ∙ sym key_at)

-- all columns of the file
pub columns_all : (files : List HeadedRows) (file n : ℕ) (target : Target) (old new : List Reference) → length target.columns.items ≡ 1
    → n ≡ length (file_at files file).names → Adds files (RefersFromColumns target file n) old new → Adds files (RefersFrom target file) old new
columns_all files file n target old new one all adds =
    adds_fewer files (RefersFromColumns target file n) (RefersFrom target file) old new (λ ref of from.
    let source = one_source files ref (ap length from.0.1 ∙ one) of in
    (from, (source.column, low ref source n all from.1, source.source))) adds
  where
    low : (ref : Reference) → (source : IsOneColumn files ref) → (n : ℕ) → n ≡ length (file_at files file).names → ref.file ≡ file → source.column < n
    low ref source n is same =
        subst (λ (m : ℕ). source.column < m) (ap (λ (f : ℕ). length (file_at files f).names) same ∙ sym is) source.within

-- ---- by names
-- the target's own file has no source of several columns
pub names_same : (files : List HeadedRows) (file : ℕ) (target : Target) (old : List Reference) → (length target.columns.items ≡ 1 → ⊥)
    → file ≡ target.file → Adds files (RefersFrom target file) old old
names_same files file target old not_one same = adds_none files (RefersFrom target file) old (λ ref is from.
    let names = several_source files ref (λ one. not_one (ap length (sym from.0.1) ∙ one)) is in
    names.other (from.1 ∙ same ∙ sym from.0.0))

-- no columns of the names
pub names_none : (files : List HeadedRows) (file : ℕ) (target : Target) (old : List Reference) → (length target.columns.items ≡ 1 → ⊥)
    → ((same : List ℕ) → AreNamedAs (file_at files file).names (file_at files target.file).names same target.columns.items → ⊥)
    → Adds files (RefersFrom target file) old old
names_none files file target old not_one none = adds_none files (RefersFrom target file) old (λ ref is from.
    none ref.columns (names_of files file target ref not_one is from))

-- these columns of the names
pub names_these : (files : List HeadedRows) (file : ℕ) (columns : List ℕ) (target : Target) (old new : List Reference) → (length target.columns.items ≡ 1 → ⊥)
    → AreNamedAs (file_at files file).names (file_at files target.file).names columns target.columns.items
    → Adds files (IsThis (refers_from file columns target)) old new → Adds files (RefersFrom target file) old new
names_these files file columns target old new not_one named adds =
    adds_fewer files (IsThis (refers_from file columns target)) (RefersFrom target file) old new (λ ref is from.
    let same : ref.columns ≡ columns = one_named (file_at files file).names (file_at files target.file).names ref.columns columns target.columns.items
    (names_of files file target ref not_one is from) named in
    (λ i. record { file = from.1 i; columns = same i; target = from.0.0 i; key = from.0.1 i })) adds

-- ---- file by file
pub files_first : (files : List HeadedRows) (target : Target) (old : List Reference) → Adds files (RefersFromFirst target 0) old old
files_first files target old = adds_none files (RefersFromFirst target 0) old (λ ref is (to, turn). ⊎_elim
    (λ (low, near). omega (arith, low, near)) (λ (far, low). omega (arith, low)) turn)

pub files_more : (files : List HeadedRows) (file n : ℕ) (target : Target) (old now new : List Reference)
    → (n < target.file → file + n + 1 ≡ target.file) → (target.file ≤ n → file ≡ n)
    → Adds files (RefersFromFirst target n) old now → Adds files (RefersFrom target file) now new
    → Adds files (RefersFromFirst target (n + 1)) old new
files_more files file n target old now new before after so_far one =
    adds_then files (RefersFromFirst target n) (RefersFrom target file) (RefersFromFirst target (n + 1)) old now new
    (λ ref is (to, turn). ⊎_elim
    (λ (low, near). elim (cases_lt target.file (ref.file + n + 1)) [
      | inl less ↦ inl (to, inl (low, less))
      | inr more ↦ let at = before (omega (arith, near, more)) in inr (to, omega (arith, at, near, more))
    ])
    (λ (far, low). elim (cases_lt ref.file n) [
      | inl less ↦ inl (to, inr (far, less))
      | inr more ↦ let at = after (omega (arith, far, low)) in inr (to, omega (arith, at, low, more))
    ]) turn) so_far one

pub files_all : (files : List HeadedRows) (n : ℕ) (target : Target) (old new : List Reference) → n ≡ length files → Adds files (RefersFromFirst target n) old new
    → Adds files (RefersTo target) old new
files_all files n target old new all adds =
    adds_fewer files (RefersFromFirst target n) (RefersTo target) old new
    (λ ref is to.
    let low = is.candidate.file in
    let near = is.candidate.target_file in (
      to,
      elim (cases_lt ref.file target.file) [
        | inl less ↦ inl (less, omega (arith, near, to.0, all))
        | inr more ↦ inr (more, omega (arith, low, all))
      ],
    )) adds

-- ---- rows whose values are all among others
pub all_are : (r : Relation) (columns : List ℕ) (values : Relation) (i : ℕ) → length r ≡ i
    → ((j : ℕ) → j < i → misses_none columns (row_at r j) ≡ true → Contains values (values_on columns (row_at r j)))
    → ((j : ℕ) × (j < i) × (misses_none columns (row_at r j) ≡ true)) → AllAre r columns values
all_are r columns values i all within (k, k_low, k_whole) = record {
  within = λ t t_in whole.
      let (j, low, at) = row_of r t t_in in
      subst (λ (u : Tuple). Contains values (values_on columns u)) at
      (within j (omega (arith, low, all)) (ap (misses_none columns) at ∙ whole));
  some_row = (row_at r k, row_in r k (omega (arith, k_low, all)), k_whole);
}

pub one_is_not : (r : Relation) (columns : List ℕ) (values : Relation) (i : ℕ) → i < length r → misses_none columns (row_at r i) ≡ true
    → (Contains values (values_on columns (row_at r i)) → ⊥) → AllAre r columns values → ⊥
one_is_not r columns values i low whole lacks all = lacks (all.within (row_at r i) (row_in r i low) whole)

pub none_is_whole : (r : Relation) (columns : List ℕ) (values : Relation) (i : ℕ) → length r ≡ i
    → ((j : ℕ) → j < i → misses_none columns (row_at r j) ≡ true → ⊥) → AllAre r columns values → ⊥
none_is_whole r columns values i all none are =
    let (t, t_in, whole) = are.some_row in
    let (j, low, at) = row_of r t t_in in
    none j (omega (arith, low, all)) (ap (misses_none columns) at ∙ whole)
