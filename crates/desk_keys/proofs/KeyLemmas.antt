-- Schemes that were listed with their keys, one after the other, and where their lines stand in the text.
use Rattle.std.proofs.Common.{◌≡◌, ◌<◌, ◌≤◌, ◌+◌, ◌-◌, ℕ, List, [], ◌∷◌, ◌++◌, length, map, take, drop, get_or, refl, sym, ap, subst, ◌∙◌, arith, append_assoc}
use Rattle.std.proofs.lemmas.Grind.{flat_map-append}
use Rattle.std.proofs.Math.Seq.{drop-append_seam, take-append_seam}
use Rattle.std.proofs.lemmas.List.{append-nil, length-append, map-append, take_more}
use Rattle.std.proofs.lemmas.List.Elements.{All-append, All-cons, All-nil, All-more}
use Rattle.std.specs.List.{flat_map, slice_range}
use Rattle.std.specs.Prelude.{All}
use Rattle.attr_sets.specs.Attributes.{Attributes}
use Rattle.attr_sets.specs.Sets.{attributes}
use Rattle.attr_sets.specs.declared.set.AttrSet.{AttrSet}
use Rattle.dep_model.specs.Plans.{schemes_of}
use Rattle.schema_model.specs.Schemas.{Schema}
use Rattle.schema_printer.specs.Spelling.{printed_names_of}
use Rattle.desk_keys.specs.Keys.{HasKeys, IsListed, KeyedScheme, keyed_text}
use Rattle.desk_keys.specs.KeyedLines.{AddsKeys, StandIn}
use Rattle.desk_keys.specs.declared.scheme_keys.KeyedLines.{KeyedLines}

abbrev pub keyed_scheme : AttrSet → List AttrSet → KeyedScheme
keyed_scheme scheme keys = record { scheme = attributes scheme; keys = keys }

pub record Told (s : Schema) (schemes : List AttrSet) (text : List ℕ) : Type 0 where
  pub listed : List KeyedScheme
  pub schemes_are : map (λ k. k.scheme) listed ≡ schemes_of schemes
  pub keys : All (HasKeys s) listed
  pub is : text ≡ flat_map (keyed_text (printed_names_of s)) listed
  pub passed : All (λ scheme. IsListed s (attributes scheme)) schemes

pub keys_of_none : (s : Schema) (text : List ℕ) → text ≡ [] → Told s [] text
keys_of_none s text none = record {
  listed = [];
  schemes_are = refl;
  keys = All-nil (HasKeys s);
  is = none;
  passed = All-nil (λ scheme. IsListed s (attributes scheme));
}

pub keys_of_next : (s : Schema) (schemes : List AttrSet) (i : ℕ) (d : AttrSet) (text more : List ℕ)
    → Told s (take i schemes) text → i < length schemes → AddsKeys s (attributes (get_or schemes i d)) text more → Told s (take (i + 1) schemes) more
keys_of_next s schemes i d text more before low added =
    let keys = added.0 in
    let has = added.1 in
    let next = keyed_scheme (get_or schemes i d) keys in
    record {
      listed = before.listed ++ next ∷ [];
      schemes_are = map-append (λ (k : KeyedScheme). k.scheme) before.listed (next ∷ [])
          ∙ ap (λ (l : List Attributes). l ++ attributes (get_or schemes i d) ∷ []) before.schemes_are
          ∙ sym (map-append attributes (take i schemes) (get_or schemes i d ∷ []))
          ∙ ap schemes_of (sym (take_more schemes i d low));
      keys = All-append (HasKeys s) before.listed (next ∷ []) before.keys (All-cons (HasKeys s) next [] has (All-nil (HasKeys s)));
      is = added.2 ∙ ap (λ (t : List ℕ). t ++ keyed_text (printed_names_of s) next) before.is
          ∙ ap (λ (t : List ℕ). flat_map (keyed_text (printed_names_of s)) before.listed ++ t) (sym (append-nil (keyed_text (printed_names_of s) next)))
          ∙ sym (flat_map-append (keyed_text (printed_names_of s)) before.listed (next ∷ []));
      passed = All-more (λ (scheme : AttrSet). IsListed s (attributes scheme)) schemes i d low before.passed (keys, has);
    }

-- ---- lines that stand in the text
module _ (s : Schema) (text : List ℕ) (lines : KeyedLines) (stand : StandIn s text lines) where
  abbrev keyed : List ℕ
  keyed = keyed_text (printed_names_of s) (keyed_scheme lines.scheme stand.added.0)

  from_start : text ≡ stand.earlier ++ (keyed ++ stand.later)
  from_start = stand.whole ∙ ap (λ (t : List ℕ). t ++ stand.later) stand.added.2 ∙ append_assoc stand.earlier keyed stand.later

  end_is : length stand.earlier + length keyed ≡ lines.end
  end_is = sym (length-append stand.earlier keyed) ∙ sym (ap (λ (t : List ℕ). length t) stand.added.2) ∙ stand.ends

  pub lines_ordered : lines.start ≤ lines.end
  lines_ordered = omega (arith, end_is, stand.starts)

  pub lines_within : lines.end ≤ length text
  lines_within =
      let whole = ap (λ (t : List ℕ). length t) stand.whole in
      let parts = length-append stand.upto stand.later in
      let ends = stand.ends in
      omega (arith, whole, parts, ends)

  lines_are : slice_range text lines.start lines.end ≡ keyed
  lines_are =
      let count : lines.end - lines.start ≡ length keyed = omega (arith, end_is, stand.starts) in
      ap (λ (t : List ℕ). take (lines.end - lines.start) (drop lines.start t)) from_start
      ∙ ap (λ (k : ℕ). take (lines.end - lines.start) (drop k (stand.earlier ++ (keyed ++ stand.later)))) (sym stand.starts)
      ∙ ap (λ (t : List ℕ). take (lines.end - lines.start) t) (drop-append_seam stand.earlier (keyed ++ stand.later))
      ∙ ap (λ (k : ℕ). take k (keyed ++ stand.later)) count
      ∙ take-append_seam keyed stand.later

  -- the same lines again are those of an equal scheme
  pub added_again : (scheme : AttrSet) (more : List ℕ) → attributes lines.scheme ≡ attributes scheme → more ≡ text ++ slice_range text lines.start lines.end → AddsKeys s (attributes scheme) text more
  added_again scheme more same is =
      subst (λ (x : Attributes). AddsKeys s x text more) same (stand.added.0, stand.added.1, is ∙ ap (λ (t : List ℕ). text ++ t) lines_are)

  pub stand_later : (x : Attributes) (more : List ℕ) → AddsKeys s x text more → StandIn s more lines
  stand_later x more added = record {
    earlier = stand.earlier;
    upto = stand.upto;
    later = stand.later ++ keyed_text (printed_names_of s) (record { scheme = x; keys = added.0 });
    added = stand.added;
    whole = added.2 ∙ ap (λ (t : List ℕ). t ++ keyed_text (printed_names_of s) (record { scheme = x; keys = added.0 })) stand.whole
        ∙ append_assoc stand.upto stand.later (keyed_text (printed_names_of s) (record { scheme = x; keys = added.0 }));
    starts = stand.starts;
    ends = stand.ends;
  }

pub all_stand_later : (s : Schema) (text more : List ℕ) (x : Attributes) (known : List KeyedLines) → AddsKeys s x text more → All (StandIn s text) known → All (StandIn s more) known
all_stand_later s text more x known added stand k d l = stand_later s text (get_or known k d) (stand k d l) x more added

pub stand_now : (s : Schema) (text more : List ℕ) (lines : KeyedLines) → AddsKeys s (attributes lines.scheme) text more → length text ≡ lines.start → length more ≡ lines.end → StandIn s more lines
stand_now s text more lines added starts ends = record {
  earlier = text;
  upto = more;
  later = [];
  added = added;
  whole = sym (append-nil more);
  starts = starts;
  ends = ends;
}
