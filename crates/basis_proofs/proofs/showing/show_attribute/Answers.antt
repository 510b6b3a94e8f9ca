-- What is left to prove of `show_attribute`: its clause `proof`, what `cut_part` requires, and that
-- the invariant of its loop holds at first, by `part_first` and `part_last`.
use Rattle.std.proofs.Common.{◌≡◌, ◌≤◌, ℕ, Some, List, get_or, refl, sym, ap, subst, ◌∙◌, arith}
use mathlib.Core.Path.{fun_ext}
use Rattle.std.proofs.lemmas.Option.{slice_get-get_or}
use Rattle.std.specs.Prelude.{slice_get, All}
use Rattle.attr_sets.specs.Attributes.{below, difference, IsSubset}
use Rattle.attr_sets.specs.declared.set.AttrSet.{AttrSet}
use Rattle.attr_sets.specs.Sets.{attributes}
use Rattle.dep_model.specs.declared.dep.Dep.{Dep}
use Rattle.dep_model.specs.declared.dep.Dep.TheVariants.{Fd}
use Rattle.dep_model.specs.Deps.{dependencies_of}
use Rattle.dep_model.specs.Theories.{width_of, universe_of, deps_of}
use Rattle.derivation.specs.Derivs.{tree_of}
use Rattle.dep_basis.specs.Refining.{LeavesWhole}
use Rattle.basis_proofs.specs.CutProofs.{IsPartProof}
use Rattle.attr_sets.proofs.AttributesLemmas.{same_at}
use Rattle.basis_proofs.proofs.ShowingLemmas.{part_first, part_last}
use Rattle.basis_proofs.proofs.showing.show_attribute.Goals as goal

pub loop-k-init : goal.loop-k-init
loop-k-init c =
    let s = c.args.theory.now in
    let x = attributes c.args.lhs in
    let is : attributes c.difference.result ≡ difference (universe_of s) x = fun_ext (λ k.
    let whole : attributes c.full.result k ≡ below (width_of s) k = same_at c.full.ensures.members k ∙ ap (λ (m : ℕ). below m k) c.width.ensures.count in
    grind (arith, same_at c.difference.ensures.members k, whole)) in
    record {
      same_lhs = refl;
      proof = part_first s x c.args.attribute (attributes c.difference.result) (tree_of c.in_ok-complementation.field-0.value) c.requires.attribute c.requires.outside is c.in_ok-complementation.ensures.proves c.in_ok-complementation.ensures.size;
    }

pub cut_part-requires : goal.cut_part-requires
cut_part-requires c =
    let s = c.args.theory.now in
    let k = c.in-Some.k in
    let zero : Dep = Fd (record { 0 = 0 }) (record { 0 = 0 }) in
    let now = c.loop-k.invariant in
    let within_limit : width_of s ≤ 128 = s.valid.within_limit in
    record {
      cut = record {
        given = subst (λ (ds : List Dep). slice_get ds k ≡ Some (get_or c.deps-deps.result.now k zero)) c.deps-deps.ensures.deps (slice_get-get_or c.deps-deps.result.now k zero c.in-Some.ensures.best.within);
        cutting = c.in-Some.ensures.best.cutting zero;
        lhs = subst (λ (l : AttrSet). IsSubset (attributes l) (universe_of s)) (sym now.same_lhs) c.requires.lhs;
        attribute = omega (arith, c.requires.attribute);
        proof = subst (λ (l : AttrSet). IsPartProof s (attributes l) c.args.attribute (attributes c.loop-k.from.part) (tree_of c.loop-k.from.deriv.value)) (sym now.same_lhs) now.proof;
      };
    }

pub returns : goal.returns
returns c =
    let s = c.args.theory.now in
    let w = attributes c.loop-k.from.part in
    let lossless = c.loop-k.invariant.proof in
    let whole : All (LeavesWhole w w) (dependencies_of (deps_of s)) = subst (λ (ds : List Dep). All (LeavesWhole w w) (dependencies_of ds)) c.deps-deps.ensures.deps (c.in_default.ensures.none refl) in
    record { proof = (lossless, part_last s (attributes c.args.lhs) c.args.attribute w (tree_of c.loop-k.from.deriv.value) c.requires.lhs lossless whole) }
