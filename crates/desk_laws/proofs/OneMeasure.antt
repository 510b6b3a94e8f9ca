-- `measure`, `offences` and `kept` have one answer each, and their rows are read by one schema.
use Rattle.std.proofs.Common.{◌≡◌, ◌+◌, ◌<◌, ℕ, Bool, false, List, [], ◌++◌, length, sym, ap, subst, ◌∙◌, inl, inr, arith}
use Rattle.std.proofs.lemmas.List.{ext_get_or}
use Rattle.std.specs.Prelude.{◌==◌, if◌then◌else◌, not}
use Rattle.std.specs.List.{flat_map, position_or_len}
use Rattle.attr_sets.specs.Attributes.{Attributes, difference, only}
use Rattle.attr_sets.proofs.AttributesLemmas.{same_truth}
use Rattle.csv_text.specs.Rows.{csv_row, rows_text}
use Rattle.dep_model.specs.Dependencies.{Dependency, fd, mvd}
use Rattle.schema_model.specs.Schemas.{names_of, theory_of, width_of}
use Rattle.dep_model.specs.Tuples.{Tuple, Relation}
use Rattle.schema_model.specs.Schemas.{Schema}
use Rattle.schema_model.proofs.SchemaLemmas.{same_schema}
use Rattle.legality.specs.Parts.{flag_at}
use Rattle.removal_laws.specs.Removals.{rows_at}
use Rattle.row_measures.proofs.LawLemmas.{same_measure, same_parts, same_rows, same_kept}
use Rattle.row_measures.specs.declared.breach.BrokenPart.{BrokenPart}
use Rattle.row_measures.specs.declared.breach.BrokenRow.{BrokenRow}
use Rattle.row_measures.specs.declared.breach.Measure.{Measure}
use Rattle.implication_laws.specs.OneAnswer.{AllowsOne}
use Rattle.implication_laws.proofs.OneAnswer.{one_mvd, not_functional}
use Rattle.implication_laws.proofs.StepLaws.{same_says}
use Rattle.desk_responses.specs.Multivalued.{multivalued_text}
use Rattle.desk_responses.specs.ResponseValues.{ResponseValue, Says, text_only}
use Rattle.desk_responses.specs.declared.status.Status.TheVariants.{Yes, Refused}
use Rattle.desk_measures.specs.Findings.{Finding, FindsBelow, status_of}
use Rattle.desk_measures.specs.Keeping.{AreKeptRows, KeepsRows}
use Rattle.desk_measures.specs.Measures.{AreDetails, AreMistyped, FindsWhere, IsAttributeMeasured, IsColumnFound, IsMeasured, MeasuresRows, attribute_text, flags_set, measure_text, mistyped_text}
use Rattle.desk_measures.specs.Offences.{ArePartLines, AreRowLines, ListsBelow, ListsOffences, ListsOffencesByRow, OfEachDependency, part_fields, part_headings, row_fields, row_headings, shown_of}
use Rattle.desk_measures.specs.Untyped.{HasTextsAlone}
use Rattle.desk_laws.proofs.FindingLaws.{FindsOne, SameFound, one_below, one_both, one_nothing, one_of_each, one_where}

-- a status and a text by what is found
same_found : (make : List ℕ → List ℕ) (clean also : Bool) (text other_text : List ℕ) (one other : ResponseValue)
    → SameFound clean also text other_text → Says (status_of clean) (make text) one
    → Says (status_of also) (make other_text) other → one ≡ other
same_found make clean also text other_text one other same says said =
    says
    ∙ ap (λ (b : Bool). text_only (status_of b) (make text)) same.clean_same
    ∙ ap (λ (t : List ℕ). text_only (status_of also) (make t)) same.text_same
    ∙ sym said

-- ---- the rows that are at odds
module _ (s : Schema) (rows : Relation) (k : ℕ) (d : Dependency) where
  one_of_parts : FindsOne (ArePartLines s rows k d)
  one_of_parts clean also text other_text one other =
      let same = same_parts (width_of s) rows d one.parts other.parts one.are other.are in
      record {
        clean_same = one.none ∙ ap (λ (parts : List BrokenPart). length parts == 0) same ∙ sym other.none;
        text_same = one.lines
            ∙ ap (flat_map (λ part. csv_row (part_fields s rows k (shown_of d) part))) same ∙ sym other.lines;
      }

  one_of_rows : FindsOne (AreRowLines s rows k d)
  one_of_rows clean also text other_text one other =
      let same = same_rows (width_of s) rows d one.broken other.broken one.are other.are in
      record {
        clean_same = one.none ∙ ap (λ (broken : List BrokenRow). length broken == 0) same ∙ sym other.none;
        text_same = one.lines ∙ ap (flat_map (λ row. csv_row (row_fields s rows k row))) same ∙ sym other.lines;
      }

one_listed : (s : Schema) (headings : Tuple) (Finds : ℕ → Dependency → Finding)
    → ((k : ℕ) (d : Dependency) → FindsOne (Finds k d)) → AllowsOne (ListsBelow s headings Finds)
one_listed s headings Finds each one other (clean, text, is, says) (also, other_text, too, said) =
    same_found (λ (t : List ℕ). csv_row (headings ++ names_of s) ++ t) clean also text other_text one other
    (one_of_each s Finds each clean also text other_text is too) says said

pub one_list_of_classes : (s : Schema) (rows : Relation) → AllowsOne (ListsOffences s rows)
one_list_of_classes s rows = one_listed s part_headings (ArePartLines s rows) (one_of_parts s rows)

pub one_list_by_row : (s : Schema) (rows : Relation) → AllowsOne (ListsOffencesByRow s rows)
one_list_by_row s rows = one_listed s row_headings (AreRowLines s rows) (one_of_rows s rows)

-- ---- `measure`
module _ (s : Schema) (rows : Relation) where
  one_list_of_flags : (a : ℕ) (one other : List Bool) → AreMistyped s rows a one → AreMistyped s rows a other → one ≡ other
  one_list_of_flags a one other first second =
      ext_get_or false one other (first.one_each ∙ sym second.one_each) (λ i low.
      let here : i < length rows = omega (arith, low, first.one_each) in
      same_truth (flag_at one i) (flag_at other i)
      (λ set. (second.told i here).1 ((first.told i here).0 set))
      (λ set. (first.told i here).1 ((second.told i here).0 set)))

  one_of_column : (a : ℕ) → FindsOne (IsColumnFound s rows a)
  one_of_column a clean also text other_text one other =
      let same = one_list_of_flags a one.flags other.flags one.are other.are in
      record {
        clean_same = one.none ∙ ap (λ (flags : List Bool). flags_set flags == 0) same ∙ sym other.none;
        text_same = one.says
            ∙ ap (λ (flags : List Bool). if flags_set flags == 0 then []
            else mistyped_text s a (flags_set flags) (position_or_len (λ flag. flag) flags + 1)) same
            ∙ sym other.says;
      }

  one_of_attribute : (x : Attributes) (a : ℕ) → FindsOne (IsAttributeMeasured s rows x a)
  one_of_attribute x a clean also text other_text one other =
      let same = same_measure (width_of s) rows (fd x (only a)) one.measure other.measure one.is other.is in
      record {
        clean_same = one.none ∙ ap (λ (m : Measure). m.groups == 0) same ∙ sym other.none;
        text_same = one.says ∙ ap (λ (m : Measure). if m.groups == 0 then [] else attribute_text s a m) same
            ∙ sym other.says;
      }

  one_of_details : (d : Dependency) (broken : Bool) → FindsOne (AreDetails s rows d broken)
  one_of_details (fd x y) broken =
      one_where _ _
      (one_below (λ a. FindsWhere (difference y x a) (IsAttributeMeasured s rows x a))
      (λ a. one_where (difference y x a) (IsAttributeMeasured s rows x a) (one_of_attribute x a)) (width_of s))
  one_of_details (mvd x y) broken = one_nothing

  one_of_measure : (k : ℕ) (d : Dependency) → FindsOne (IsMeasured s rows k d)
  one_of_measure k d clean also text other_text one other =
      let same = same_measure (width_of s) rows d one.measure other.measure one.is other.is in
      let too : AreDetails s rows d (not (one.measure.groups == 0)) other.all_clean other.details =
      subst (λ (m : Measure). AreDetails s rows d (not (m.groups == 0)) other.all_clean other.details) (sym same) other.are in
      let details = one_of_details d (not (one.measure.groups == 0)) one.all_clean other.all_clean one.details other.details one.are too in
      record {
        clean_same = one.none ∙ ap (λ (m : Measure). m.groups == 0) same ∙ sym other.none;
        text_same = one.says
            ∙ ap (λ (m : Measure). measure_text s k d m ++ one.details) same
            ∙ ap (λ (t : List ℕ). measure_text s k d other.measure ++ t) details.text_same
            ∙ sym other.says;
      }

  pub one_measured : AllowsOne (MeasuresRows s rows)
  one_measured one other (clean, text, is, says) (also, other_text, too, said) =
      same_found (λ (t : List ℕ). t) clean also text other_text one other
      (one_both (FindsBelow (IsColumnFound s rows) (width_of s)) (OfEachDependency s (IsMeasured s rows))
      (one_below (IsColumnFound s rows) one_of_column (width_of s)) (one_of_each s (IsMeasured s rows) one_of_measure)
      clean also text other_text is too) says said

-- ---- `kept`
same_kept_rows : (s : Schema) (rows kept other : Relation) → AreKeptRows s rows kept → AreKeptRows s rows other → kept ≡ other
same_kept_rows s rows kept other first second =
    first.rest
    ∙ ap (λ (flags : List Bool). rows_at (flag_at flags) rows)
    (same_kept (theory_of s) rows first.flags second.flags first.are second.are)
    ∙ sym second.rest

pub one_kept : (s : Schema) (rows : Relation) → AllowsOne (KeepsRows s rows)
one_kept s rows one other (inl (kept, are, says)) (inl (others, also, said)) =
    same_says Yes _ _ one other says said (ap (rows_text (names_of s)) (same_kept_rows s rows kept others are also))
one_kept s rows one other (inl (kept, are, says)) (inr (dep, is, said)) =
    absurd (not_functional (theory_of s) dep is are.functional)
one_kept s rows one other (inr (dep, is, says)) (inl (kept, are, said)) =
    absurd (not_functional (theory_of s) dep is are.functional)
one_kept s rows one other (inr (dep, is, says)) (inr (number, also, said)) =
    same_says Refused _ _ one other says said (ap (multivalued_text s) (one_mvd (theory_of s) dep number is also))

-- ---- rows that are read without types
pub one_of_texts : (s one other : Schema) → HasTextsAlone s one → HasTextsAlone s other → one ≡ other
one_of_texts s one other first second =
    same_schema one other (first.naming ∙ sym second.naming) (first.names ∙ sym second.names)
    (first.types ∙ sym second.types) (first.nullable ∙ sym second.nullable) (first.theory ∙ sym second.theory)
    (first.lines ∙ sym second.lines)
