-- The refusals of what is asked of references between files.
use Rattle.std.proofs.Common.{◌≡◌, ℕ, List, ◌++◌, length, refl, inl, inr}
use Rattle.std.specs.Prelude.{codes}
use Rattle.std.specs.Fmt.{decimal}
use Rattle.schema_model.proofs.PlainLemmas.{IsPlain, plain_both}
use Rattle.schema_grammar.specs.DiagnosticKinds.{diagnostic_kind, number_of}
use Rattle.schema_grammar.specs.RefusalTexts.{place_and_reason}
use Rattle.schema_grammar.specs.declared.refusal.SchemaRefusal.{SchemaRefusal}
use Rattle.headed_rows.specs.Headings.{HeadedRows}
use Rattle.desk_references.specs.Checks.{ChecksReferences, JudgesReference, StopsUnpaired}
use Rattle.desk_references.specs.ColumnLists.{AreColumns, ColumnsStop, WithColumns, columns_refusal_text}
use Rattle.desk_references.specs.Findings.{FindsReferences}
use Rattle.desk_responses.specs.ResponseValues.{Allowed, Unless}
use Rattle.refusal_laws.specs.Refusals.{IsRefusal}
use Rattle.refusal_laws.proofs.PlainTexts.{numbered_plain, place_plain, plain_three}
use Rattle.refusal_laws.proofs.RefusalLemmas.{RefusesSo, no_name, refusal, says_no, says_plain, says_refused, says_yes, unless_refuses, with_refuses}

module _ (names : List (List ℕ)) where
  pub references_refuse : (files : List (List ℕ)) (heads : List HeadedRows) → RefusesSo names (FindsReferences files heads)
  references_refuse files heads response (refs, are, said) refused = says_yes names _ response said refused

  -- ---- words that state columns
  columns_refusal : (called : List ℕ) (why : SchemaRefusal) → IsPlain called → IsRefusal names (columns_refusal_text called why)
  columns_refusal called why plain =
      let front = codes "references " ++ decimal (number_of (diagnostic_kind why.kind)) ++ codes " at " in
      let placed = front ++ called ++ codes ":" in
      refusal names (placed ++ place_and_reason why)
      (no_name names (placed ++ place_and_reason why)
      (plain_both placed (place_and_reason why)
      (plain_three front called (codes ":")
      (numbered_plain (codes "references ") (number_of (diagnostic_kind why.kind)) (codes " at ") refl refl) plain refl)
      (place_plain why)))

  columns_stop : (called : List ℕ) (columns : List (List ℕ)) (text : List ℕ) → IsPlain called
      → RefusesSo names (ColumnsStop called columns text)
  columns_stop called columns text plain response (inl (long, said)) refused =
      says_plain names (called ++ codes " is too long") (plain_both called (codes " is too long") plain refl) response said refused
  columns_stop called columns text plain response (inr (why, is, said)) refused =
      says_refused names (columns_refusal_text called why) (columns_refusal called why plain) response said refused

  after_columns : (called : List ℕ) (columns : List (List ℕ)) (text : List ℕ) (rest : List ℕ → Allowed) → IsPlain called
      → ((x : List ℕ) → RefusesSo names (rest x)) → RefusesSo names (WithColumns called columns text rest)
  after_columns called columns text rest plain later =
      with_refuses names (ColumnsStop called columns text) (AreColumns columns text) rest (columns_stop called columns text plain)
      (λ x is. later x)

  -- ---- the check of a reference
  judges : (one : HeadedRows) (x : List ℕ) (other : HeadedRows) (k : List ℕ) → RefusesSo names (JudgesReference one x other k)
  judges one x other k response (inl (within, said)) refused = says_yes names _ response said refused
  judges one x other k response (inr (not_within, said)) refused = says_no names _ response said refused

  unpaired : (x k : List ℕ) → RefusesSo names (StopsUnpaired x k)
  unpaired x k response (apart, said) refused = says_plain names (codes "as many names in both are needed") refl response said refused

  pub check_references_refuses : (one : HeadedRows) (first : List ℕ) (other : HeadedRows) (second : List ℕ)
      → RefusesSo names (ChecksReferences one first other second)
  check_references_refuses one first other second =
      after_columns (codes "first") one.names first
      (λ x. WithColumns (codes "second") other.names second
      (λ k. Unless (StopsUnpaired x k) (length x ≡ length k) (JudgesReference one x other k))) refl
      (λ x. after_columns (codes "second") other.names second
      (λ k. Unless (StopsUnpaired x k) (length x ≡ length k) (JudgesReference one x other k)) refl
      (λ k. unless_refuses names (StopsUnpaired x k) (length x ≡ length k) (JudgesReference one x other k) (unpaired x k) (judges one x other k)))
