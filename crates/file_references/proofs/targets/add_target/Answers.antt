-- What is left to prove of `add_target`: what it asks of its callees, and its clause `knows`, by `KnowsLemmas`.
use Rattle.std.proofs.Common.{true≢false, ◌≡◌, ◌<◌, ◌≤◌, ℕ, List, [], ◌∷◌, ◌++◌, get_or, length, map, refl, ap, sym, subst, ◌∙◌, arith}
use Rattle.std.specs.Prelude.{All, Any}
use Rattle.std.proofs.lemmas.List.{length-map}
use Rattle.std.proofs.lemmas.Option.{MatchOption-at_none, MatchOption-at_some}
use Rattle.std.proofs.lemmas.Result.{on_ok_weaker}
use Rattle.attr_sets.specs.Attributes.{IsSubset}
use Rattle.attr_sets.specs.Sets.{attributes}
use Rattle.attr_sets.specs.declared.set.AttrSet.{AttrSet}
use Rattle.attr_sets.specs.declared.set.TheConstants.{MOST_ATTRIBUTES}
use Rattle.dep_model.specs.Projections.{members_below}
use Rattle.dep_model.specs.Tuples.{IsOver}
use Rattle.dep_model.proofs.ListLemmas.{same_default}
use Rattle.file_references.specs.Columns.{file_at}
use Rattle.file_references.specs.Finds.{KnowsTargets, RefersTo, RefersToOne, reference_of}
use Rattle.file_references.specs.References.{Reference}
use Rattle.file_references.specs.declared.targets.Target.{Target}
use Rattle.file_references.proofs.AddLemmas.{adds_fewer, counted, file_at_or, still_references}
use Rattle.file_references.proofs.KnowsLemmas.{is_new_key, is_target_of, knows_new, knows_same, moved_hold, moved_key, refers_to_set}
use Rattle.file_references.proofs.SetLemmas.{members_low}
use Rattle.file_references.proofs.ValueLemmas.{within_rows}
use Rattle.headed_rows.specs.Headings.{HeadedRows, headed_of}
use Rattle.headed_rows.specs.declared.headed_rows.Headed.{Headed}
use Rattle.table_join.specs.Lent.{tuples_of}
use Rattle.file_references.proofs.targets.add_target.Goals as goal

pub returns-then-has_within : goal.returns-then-has_within
returns-then-has_within c = record {
  knows = λ shared size sets first few looked are start.
      knows_same (map headed_of c.args.files.now) c.args.target shared size sets first c.args.keys.now.items (map reference_of c.args.found.now.items) c.args.set start
      (λ key. subst (λ (ks : List AttrSet). Any (λ (k : AttrSet). IsSubset (attributes k) (attributes c.args.set)) ks) c.deref.ensures.value
      (c.has_within.ensures.has.0 c.if-has_within.true));
}

pub key_values-requires : goal.key_values-requires
key_values-requires c =
    let h = get_or c.args.files.now c.args.target c.index-files-target-2.result in
    let same = same_default c.args.files.now c.args.target c.index-files-target.result c.index-files-target-2.result c.requires.target in
    let width : c.len-width.result ≡ length h.names.items = omega (arith, c.len-width.ensures, counted c.args.files.now c.args.target c.index-files-target.result, ap (λ (f : Headed). length f.names.items) same) in
    record {
      columns = within_rows c.len-width.result h.rows c.deref-2.result.now
          (subst (λ (n : ℕ). IsOver n h.rows) (sym width) (c.requires.same_width c.args.target c.index-files-target-2.result c.requires.target))
          (subst (All (λ (k : ℕ). k < c.len-width.result)) (sym (c.deref-2.ensures.value ∙ c.in_ok-columns.ensures.columns))
          (members_low c.len-width.result (attributes c.args.set)));
    }

pub add_sources-requires-clause-target : goal.add_sources-requires-clause-target
add_sources-requires-clause-target c =
    let here = file_at_or c.args.files.now c.args.target c.index-files-target.result c.requires.target in
    let width : c.len-width.result ≡ length (file_at (map headed_of c.args.files.now) c.args.target).names =
    omega (arith, c.len-width.ensures, counted c.args.files.now c.args.target c.index-files-target.result, ap (λ (f : HeadedRows). length f.names) here) in
    record {
      within = omega (arith, c.requires.target, length-map c.args.files.now headed_of);
      columns = subst (λ (n : ℕ). All (λ (k : ℕ). k < n) c.in_ok-columns.columns.items) width
          (subst (All (λ (k : ℕ). k < c.len-width.result)) (sym c.in_ok-columns.ensures.columns) (members_low c.len-width.result (attributes c.args.set)));
    }

pub returns-in-None : goal.returns-in-None
returns-in-None c = record {
  knows = λ shared size sets first few looked are start.
      let files = map headed_of c.args.files.now in
      let here = file_at_or c.args.files.now c.args.target c.index-files-target.result c.requires.target in
      let again = file_at_or c.args.files.now c.args.target c.index-files-target-2.result c.requires.target in
      let width : c.len-width.result ≡ length (file_at files c.args.target).names = omega (arith, c.len-width.ensures, counted c.args.files.now c.args.target c.index-files-target.result, ap (λ (f : HeadedRows). length f.names) here) in
      let columns = c.deref-2.ensures.value ∙ c.in_ok-columns.ensures.columns ∙ ap (λ (n : ℕ). members_below n (attributes c.args.set)) width in
      knows_same files c.args.target shared size sets first c.args.keys.now.items (map reference_of c.args.found.now.items) c.args.set start
      (λ key. absurd (MatchOption-at_none _ _ c.in-None.is c.in_ok-key_values.ensures.key
      (moved_key _ _ _ _ (ap (λ (f : HeadedRows). f.rows) again) (sym columns) key)));
}

pub returns-in_ok-push-in-Some : goal.returns-in_ok-push-in-Some
returns-in_ok-push-in-Some c = record {
  knows = λ shared size sets first few looked are start.
      let files = map headed_of c.args.files.now in
      let target = c.args.target in
      let x = attributes c.args.set in
      let n = length (file_at files target).names in
      let found = map reference_of c.args.found.now.items in
      let here = file_at_or c.args.files.now target c.index-files-target.result c.requires.target in
      let again = file_at_or c.args.files.now target c.index-files-target-2.result c.requires.target in
      let width : c.len-width.result ≡ n = omega (arith, c.len-width.ensures, counted c.args.files.now c.args.target c.index-files-target.result, ap (λ (f : HeadedRows). length f.names) here) in
      let columns = c.in_ok-columns.ensures.columns ∙ ap (λ (m : ℕ). members_below m x) width in
      let holds = moved_hold _ _ _ _ (tuples_of c.in-Some.values.keys) (sym (ap (λ (f : HeadedRows). f.rows) again)) (c.deref-2.ensures.value ∙ columns)
      (MatchOption-at_some _ _ c.in-Some.values c.in-Some.is c.in_ok-key_values.ensures.key) in
      let low : n ≤ MOST_ATTRIBUTES = omega (
        arith,
        ap (λ (f : HeadedRows). length f.names) here,
        (c.requires.header target c.index-files-target.result c.requires.target).within_limit,
      ) in
      let free : Any (λ (k : AttrSet). IsSubset (attributes k) x) c.args.keys.now.items → ⊥ = λ any. true≢false
      (sym (c.has_within.ensures.has.1 (subst (λ (ks : List AttrSet). Any (λ (k : AttrSet). IsSubset (attributes k) x) ks) (sym c.deref.ensures.value) any)) ∙ c.if-has_within.false) in
      let key = is_new_key files target shared size sets first c.args.keys.now.items found c.args.set start low c.requires.two looked free holds.key in
      let t : Target = record { file = target; columns = c.in_ok-columns.columns; values = c.in-Some.values } in
      let of = is_target_of files target shared size sets first c.args.keys.now.items found c.args.set start t
      (omega (arith, c.requires.target, length-map c.args.files.now headed_of)) low c.requires.two few looked free refl columns holds in
      on_ok_weaker c.add_sources.result (λ adds. subst (λ (ks : List AttrSet). KnowsTargets files target shared size (sets ++ c.args.set ∷ []) first ks (map reference_of c.add_sources.new.found.items))
      (sym c.in_ok-push-in-Some.ensures.items)
      (knows_new files target shared size sets first c.args.keys.now.items found c.args.set start key (map reference_of c.add_sources.new.found.items)
      (adds_fewer files (RefersTo t) (λ (ref : Reference). (ref.target ≡ target) × (ref.key ≡ members_below n x)) found (map reference_of c.add_sources.new.found.items) (λ ref is to. refers_to_set t n target x refl columns ref to) adds)))
      (c.add_sources.ensures.added (still_references files (RefersToOne n target c.args.keys.now.items) first found are start.added) of);
}
