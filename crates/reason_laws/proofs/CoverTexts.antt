-- The lines of the reasons of a cover, and of the schema below them.
use Rattle.std.proofs.Common.{◌≡◌, ℕ, true, false, List, ◌++◌, refl, sym, ap, subst}
use Rattle.std.specs.Prelude.{All, codes, slice_get}
use Rattle.attr_sets.specs.Attributes.{difference, only}
use Rattle.cover_accounts.specs.Steps.{Placed, Shortened}
use Rattle.schema_model.specs.Names.{IsName}
use Rattle.dep_model.specs.Projections.{members_below}
use Rattle.schema_model.specs.Schemas.{lines_of, names_of, width_of}
use Rattle.schema_model.specs.Schemas.{Schema}
use Rattle.schema_model.proofs.PlainLemmas.{IsPlain, plain_both}
use Rattle.schema_printer.specs.Printing.{dependency_text, set_text}
use Rattle.schema_printer.specs.Spelling.{printed_names_of}
use Rattle.desk_covers.specs.CoverReasons.{AreCoverReasons, ExplainsCover, all_gone_text, gone_text, member_before, member_text, members_text, needless_text, placed_text}
use Rattle.desk_covers.specs.Covering.{GivesCover}
use Rattle.desk_responses.specs.Lines.{line_number_text}
use Rattle.desk_responses.specs.ResponseValues.{ResponseValue}
use Rattle.desk_responses.specs.declared.status.Status.TheVariants.{Yes}
use Rattle.reason_laws.specs.ReasonLines.{LeavesAnswer}
use Rattle.reason_laws.proofs.LineLemmas.{AreLines, both_lines, each_lines, leaves_answer, one_line}
use Rattle.reason_laws.proofs.NameTexts.{IsPrinted, dependency_plain, names_printed, set_plain}
use Rattle.reason_laws.proofs.NumberTexts.{number_plain}
use Rattle.reason_laws.proofs.SchemaTexts.{schema_own}

module _ (s : Schema) (are_names : All IsName (names_of s)) where
  printed : All IsPrinted (printed_names_of s)
  printed = names_printed s are_names

  placed_plain : (p : Placed) → IsPlain (placed_text s p)
  placed_plain p =
      let number = line_number_text (slice_get (lines_of s) p.position) in
      let at = codes "# line " ++ number in
      let front = at ++ codes ": " in
      let dependency = dependency_text (printed_names_of s) p.dependency in
      plain_both front dependency (plain_both at (codes ": ") (plain_both (codes "# line ") number refl (number_plain (slice_get (lines_of s) p.position))) refl)
      (dependency_plain (printed_names_of s) p.dependency printed)

  needless_told : (m : Shortened) (a : ℕ) → AreLines true (needless_text s m a)
  needless_told m a =
      let set = set_text (printed_names_of s) (only a) in
      let before = placed_text s (member_before m a) in
      let front = before ++ codes ": " in
      let named = front ++ set in
      one_line true (named ++ codes " is not needed on the left")
      (plain_both named (codes " is not needed on the left")
      (plain_both front set (plain_both before (codes ": ") (placed_plain (member_before m a)) refl) (set_plain (printed_names_of s) (only a) printed)) refl) refl

  member_told : (m : Shortened) → AreLines true (member_text s m)
  member_told m = each_lines true (needless_text s m) (needless_told m) (members_below (width_of s) (difference m.whole m.left))

  gone_told : (p : Placed) → AreLines true (gone_text s p)
  gone_told p =
      one_line true (placed_text s p ++ codes " follows from the others")
      (plain_both (placed_text s p) (codes " follows from the others") (placed_plain p) refl) refl

  cover_reasons : (text : List ℕ) → AreCoverReasons s text → AreLines true text
  cover_reasons text are =
      subst (λ (t : List ℕ). AreLines true t) (sym are.reads)
      (both_lines true (members_text s are.members) (all_gone_text s are.gone) (each_lines true (member_text s) member_told are.members)
      (each_lines true (gone_text s) gone_told are.gone))

  cover_plain : (plain : ResponseValue) → GivesCover s plain → plain.status ≡ Yes → AreLines false plain.text
  cover_plain plain (whole, fixed, minimal, is_whole, says) agrees =
      subst (λ (t : List ℕ). AreLines false t) (sym (ap (λ (r : ResponseValue). r.text) says)) (schema_own s whole are_names)

  pub cover_leaves : (response : ResponseValue) → ExplainsCover s response → LeavesAnswer (GivesCover s) response
  cover_leaves = leaves_answer (AreCoverReasons s) (GivesCover s) cover_reasons cover_plain
