-- What is left to prove of `add_reference`: its clause `added`, piece by piece.
use Rattle.std.proofs.Common.{◌≡◌, ◌<◌, ◌++◌, ℕ, List, [], ◌∷◌, codes, length, get_or, map, ap, sym, ◌∙◌, arith}
use Rattle.std.proofs.lemmas.Result.{on_ok_weaker}
use Rattle.dep_model.proofs.ListLemmas.{same_default}
use Rattle.desk_discovery.specs.Discoveries.{column_text}
use Rattle.desk_references.proofs.CheckLemmas.{six_pieces}
use Rattle.file_references.specs.Columns.{file_at}
use Rattle.file_references.proofs.AddLemmas.{file_at_or}
use Rattle.headed_rows.specs.Headings.{HeadedRows, headed_of}
use Rattle.schema_printer.specs.Printing.{words_text}
use Rattle.desk_references.proofs.finding.add_reference.Goals as goal

pub returns : goal.returns
returns c =
    let files = map headed_of c.args.files.now in
    let names = c.args.names.now in
    let ref = c.args.reference.now in
    let file_low : ref.file < length names = omega (arith, c.requires.one_each, c.requires.file) in
    let target_low : ref.target < length names = omega (arith, c.requires.one_each, c.requires.target) in
    let file_name = c.bytes.ensures.bytes ∙ c.index-names-reference.is ∙ same_default names ref.file c.index-names-reference.result [] file_low in
    let target_name = c.bytes-2.ensures.bytes ∙ c.index-names-reference-2.is ∙ same_default names ref.target c.index-names-reference-2.result [] target_low in
    let file_names = c.deref.ensures.value ∙ sym (ap (λ (h : HeadedRows). h.names) (file_at_or c.args.files.now ref.file c.index-files-reference.result c.requires.file)) in
    let target_names = c.deref-3.ensures.value ∙ sym (ap (λ (h : HeadedRows). h.names) (file_at_or c.args.files.now ref.target c.index-files-reference-2.result c.requires.target)) in
    let columns = ap (λ (ns : List (List ℕ)). words_text (map (column_text ns) c.deref-2.result.now)) file_names
    ∙ ap (λ (ks : List ℕ). words_text (map (column_text (file_at files ref.file).names) ks)) c.deref-2.ensures.value in
    let key = ap (λ (ns : List (List ℕ)). words_text (map (column_text ns) c.deref-4.result.now)) target_names
    ∙ ap (λ (ks : List ℕ). words_text (map (column_text (file_at files ref.target).names) ks)) c.deref-4.ensures.value in
    record {
      added = on_ok_weaker c.add-4.result (λ added. six_pieces c.args.text.now.items (get_or names ref.file [])
          (words_text (map (column_text (file_at files ref.file).names) ref.columns.items)) (codes " references ") (get_or names ref.target [])
          (words_text (map (column_text (file_at files ref.target).names) ref.key.items)) (10 ∷ []) c.add.new.text.items c.add_columns.new.text.items
          c.add-2.new.text.items c.add-3.new.text.items c.add_columns-2.new.text.items c.add-4.new.text.items
          (c.in_ok-add.ensures.added ∙ ap (λ (t : List ℕ). c.args.text.now.items ++ t) file_name)
          (c.in_ok-add_columns.ensures.added ∙ ap (λ (t : List ℕ). c.add.new.text.items ++ t) columns)
          c.in_ok-add-2.ensures.added
          (c.in_ok-add-3.ensures.added ∙ ap (λ (t : List ℕ). c.add-2.new.text.items ++ t) target_name)
          (c.in_ok-add_columns-2.ensures.added ∙ ap (λ (t : List ℕ). c.add-3.new.text.items ++ t) key)
          added) c.add-4.ensures.added;
    }
