-- Dependencies of the code whose sets have the same members are one, where each set is a number of as many
-- bits as there may be attributes.
use Rattle.std.proofs.Common.{◌≡◌, List, [], ◌∷◌, length, refl, ap, sym, arith}
use Rattle.std.proofs.lemmas.Bool.{true≢false}
use Rattle.std.proofs.lemmas.List.Elements.{All-head, All-tail}
use Rattle.std.specs.Prelude.{All}
use Rattle.dep_model.specs.declared.dep.Dep.{Dep}
use Rattle.dep_model.specs.declared.dep.Dep.TheVariants.{Fd, Mvd}
use Rattle.dep_model.specs.Dependencies.{is_fd, left_of, right_of}
use Rattle.dep_model.specs.Deps.{dependency_of, dependencies_of}
use Rattle.attr_sets.proofs.AttributesLemmas.{same_set}
use Rattle.dep_model.proofs.ListLemmas.{cons_parts}
use Rattle.schema_model.specs.Validity.{HasSetNumbers}

pub same_dep : (d e : Dep) → HasSetNumbers d → HasSetNumbers e → dependency_of d ≡ dependency_of e → d ≡ e
same_dep (Fd x y) (Fd z w) d e same =
    λ i. Fd (same_set x z d.0 e.0 (ap left_of same) i) (same_set y w d.1 e.1 (ap right_of same) i)
same_dep (Fd x y) (Mvd z w) d e same = absurd (true≢false (ap is_fd same))
same_dep (Mvd x y) (Fd z w) d e same = absurd (true≢false (sym (ap is_fd same)))
same_dep (Mvd x y) (Mvd z w) d e same =
    λ i. Mvd (same_set x z d.0 e.0 (ap left_of same) i) (same_set y w d.1 e.1 (ap right_of same) i)

-- lists of the same dependencies are one list
pub same_deps : (ds es : List Dep) → All HasSetNumbers ds → All HasSetNumbers es → dependencies_of ds ≡ dependencies_of es → ds ≡ es
same_deps [] [] d e same = refl
same_deps [] (y ∷ ys) d e same = absurd (omega (arith, ap length same))
same_deps (x ∷ xs) [] d e same = absurd (omega (arith, ap length same))
same_deps (x ∷ xs) (y ∷ ys) d e same =
    let both = cons_parts (dependency_of x) (dependency_of y) (dependencies_of xs) (dependencies_of ys) same in
    λ i. same_dep x y (All-head HasSetNumbers x xs d) (All-head HasSetNumbers y ys e) both.0 i
    ∷ same_deps xs ys (All-tail HasSetNumbers x xs d) (All-tail HasSetNumbers y ys e) both.1 i
