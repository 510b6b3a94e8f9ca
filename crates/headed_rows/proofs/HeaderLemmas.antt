-- The names of a header differ, so they are those of a schema without dependencies.
use Rattle.std.proofs.Common.{◌≡◌, ◌<◌, ◌≤◌, ℕ, Bool, false, None, List, [], length, take, get_or, subst, ap, sym, ◌∙◌, arith}
use Rattle.std.proofs.lemmas.Grind.{common_steps}
use Rattle.std.proofs.lemmas.List.{get_or-take, get_or_default, length-take-le}
use Rattle.std.proofs.lemmas.List.Sums.{fails_before_first}
use Rattle.std.specs.Prelude.{position}
use Rattle.attr_sets.specs.declared.set.TheConstants.{MOST_ATTRIBUTES}
use Rattle.schema_model.specs.Names.{same_name}
use Rattle.schema_model.specs.Validity.{IsSchema}
use Rattle.dep_model.specs.declared.dep.Dep.{Dep}
use Rattle.headed_rows.specs.Headers.{IsHeaderWithin}

none_before : (p : List ℕ → Bool) (names : List (List ℕ)) (i : ℕ) (d : List ℕ) → position p names ≡ None → i < length names
    → p (get_or names i d) ≡ false
none_before p names i d none low = fails_before_first p names i d (grind (arith, common_steps, none, low))

pub names_apart : (widest : ℕ) (names : List (List ℕ)) → IsHeaderWithin widest names → (i j : ℕ) (d : List ℕ) → i < j → j < length names
    → same_name (get_or names i d) (get_or names j d) ≡ false
names_apart widest names header i j d before within =
    let at = get_or names j [] in
    let count : length (take j names) ≡ j = length-take-le j names (omega (arith, within)) in
    let apart : same_name (get_or (take j names) i d) at ≡ false =
    none_before (λ name. same_name name at) (take j names) i d (header.named j within).1 (omega (arith, count, before)) in
    subst (λ (b : List ℕ). same_name (get_or names i d) b ≡ false) (get_or_default names j [] d within)
    (subst (λ (a : List ℕ). same_name a at ≡ false) (get_or-take j names i d before) apart)

pub header_schema : (widest : ℕ) (names : List (List ℕ)) (deps : List Dep) (lines : List ℕ) → widest ≤ MOST_ATTRIBUTES
    → IsHeaderWithin widest names → 0 < length names → deps ≡ [] → lines ≡ [] → IsSchema names deps lines
header_schema widest names deps lines fits header not_empty none empty = record {
  names_not_empty = not_empty;
  names_within_limit = omega (arith, header.within_limit, fits);
  names_differ = names_apart widest names header;
  deps_within_limit = rw none (omega arith);
  deps_within = rw none (λ k d l. absurd (omega arith));
  one_line_each = ap length empty ∙ sym (ap length none);
}
