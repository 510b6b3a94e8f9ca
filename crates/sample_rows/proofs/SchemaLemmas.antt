-- The schema of the sample is a schema.
use Rattle.std.proofs.Common.{◌≡◌, ◌<◌, ℕ, zero, suc, false, List, [], ◌∷◌, length, refl, sym, subst, ◌∙◌, arith}
use Rattle.std.specs.Prelude.{All, AllPairs, IsTrue, codes}
use Rattle.std.proofs.lemmas.Bool.{eqb-true}
use Rattle.std.proofs.lemmas.Bool.Decides.{nat_tests}
use Rattle.std.proofs.lemmas.List.Kept.{AllPairs-cons}
use Rattle.attr_sets.specs.Attributes.{Attributes, IsSubset, below, only}
use Rattle.attr_sets.specs.Sets.{attributes}
use Rattle.attr_sets.specs.declared.set.AttrSet.{AttrSet}
use Rattle.schema_model.specs.Names.{is_bare_name, same_name}
use Rattle.dep_model.specs.Deps.{IsDepWithin}
use Rattle.schema_model.specs.Validity.{IsSchema}
use Rattle.dep_model.specs.declared.dep.Dep.{Dep}
use Rattle.dep_model.specs.declared.dep.Dep.TheVariants.{Fd, Mvd}
use Rattle.sample_rows.specs.Sample.{sample_names}
use Rattle.attr_sets.proofs.AttributesLemmas.{same_at}

-- the set of one attribute lies within those below a greater number
pub one_within : (x : Attributes) (i n : ℕ) → i < n → x ≡ only i → IsSubset x (below n)
one_within x i n l same k member =
    let at : k ≡ i = eqb-true k i (sym (same_at same k) ∙ member) in
    grind (arith, nat_tests, at)

person_differs : All (λ (b : List ℕ). same_name (codes "PERSON") b ≡ false)
    (codes "CITY" ∷ codes "SKILL" ∷ codes "TONGUE" ∷ [])
person_differs zero d low = refl
person_differs (suc zero) d low = refl
person_differs (suc (suc zero)) d low = refl
person_differs (suc (suc (suc k))) d low = absurd (omega (arith, low))

city_differs : All (λ (b : List ℕ). same_name (codes "CITY") b ≡ false) (codes "SKILL" ∷ codes "TONGUE" ∷ [])
city_differs zero d low = refl
city_differs (suc zero) d low = refl
city_differs (suc (suc k)) d low = absurd (omega (arith, low))

skill_differs : All (λ (b : List ℕ). same_name (codes "SKILL") b ≡ false) (codes "TONGUE" ∷ [])
skill_differs zero d low = refl
skill_differs (suc k) d low = absurd (omega (arith, low))

names_differ : AllPairs (λ a b. same_name a b ≡ false) sample_names
names_differ =
    let R : List ℕ → List ℕ → Type 0 = λ a b. same_name a b ≡ false in
    AllPairs-cons R (codes "PERSON") (codes "CITY" ∷ codes "SKILL" ∷ codes "TONGUE" ∷ []) person_differs
    (AllPairs-cons R (codes "CITY") (codes "SKILL" ∷ codes "TONGUE" ∷ []) city_differs
    (AllPairs-cons R (codes "SKILL") (codes "TONGUE" ∷ []) skill_differs
    (AllPairs-cons R (codes "TONGUE") [] (λ i d low. absurd (omega (arith, low)))
    (λ i j d less low. absurd (omega (arith, low))))))

each_within : (l r s : AttrSet) → IsSubset (attributes l) (below 4) → IsSubset (attributes r) (below 4)
    → IsSubset (attributes s) (below 4) → All (IsDepWithin (below 4)) (Fd l r ∷ Mvd l s ∷ [])
each_within l r s hl hr hs zero d low = (hl, hr)
each_within l r s hl hr hs (suc zero) d low = (hl, hs)
each_within l r s hl hr hs (suc (suc k)) d low = absurd (omega (arith, low))

pub schema_valid : (names : List (List ℕ)) (deps : List Dep) (lines : List ℕ) (l r s : AttrSet)
    → names ≡ sample_names → deps ≡ Fd l r ∷ Mvd l s ∷ [] → length lines ≡ 2
    → IsSubset (attributes l) (below 4) → IsSubset (attributes r) (below 4) → IsSubset (attributes s) (below 4)
    → IsSchema names deps lines
schema_valid names deps lines l r s is_names is_deps two hl hr hs =
    subst (λ (ns : List (List ℕ)). IsSchema ns deps lines) (sym is_names)
    (subst (λ (ds : List Dep). IsSchema sample_names ds lines) (sym is_deps) (record {
      names_not_empty = omega arith;
      names_within_limit = omega arith;
      names_differ = names_differ;
      deps_within_limit = omega arith;
      deps_within = each_within l r s hl hr hs;
      one_line_each = two;
    }))

-- the names are bare names
pub names_bare : (names : List (List ℕ)) → names ≡ sample_names → All (λ name. IsTrue (is_bare_name name)) names
names_bare names is = subst (All (λ name. IsTrue (is_bare_name name))) (sym is) each
  where
    each : All (λ name. IsTrue (is_bare_name name)) sample_names
    each zero d low = refl
    each (suc zero) d low = refl
    each (suc (suc zero)) d low = refl
    each (suc (suc (suc zero))) d low = refl
    each (suc (suc (suc (suc k)))) d low = absurd (omega (arith, low))
