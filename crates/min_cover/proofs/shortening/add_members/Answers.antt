-- What is left to prove of `add_members`: its clause `left_reduced` and that the invariant of its
-- loop holds at first and stays, by `shortened_more`.
use Rattle.std.proofs.Common.{◌≡◌, ℕ, ◌+◌, ◌<◌, true, false, List, [], ◌∷◌, ◌++◌, map, refl, sym, ◌∙◌, ap, subst, arith, append-nil, append_assoc}
use Rattle.std.proofs.lemmas.Bool.Decides.{nat_tests}
use Rattle.std.proofs.lemmas.List.{map_push}
use Rattle.std.specs.Prelude.{All}
use Rattle.attr_sets.specs.Attributes.{Attributes, below, only, difference, IsSubset}
use Rattle.attr_sets.specs.Sets.{attributes}
use Rattle.dep_model.specs.declared.dep.Dep.{Dep}
use Rattle.dep_model.specs.declared.dep.Dep.TheVariants.{Fd}
use Rattle.dep_model.specs.Deps.{dependencies_of, IsDepWithin}
use Rattle.dep_model.specs.Dependencies.{Dependency, fd}
use Rattle.dep_model.specs.Theories.{width_of, theory_of}
use Rattle.dep_model.specs.Projections.{members_below}
use Rattle.min_cover.specs.Members.{IsLeftReduced, IsLeftReducedDependency, AreLeftReduced}
use Rattle.attr_sets.proofs.AttributesLemmas.{same_at}
use Rattle.min_cover.proofs.MemberLemmas.{shortened_more}
use Rattle.min_cover.proofs.shortening.add_members.Goals.{then-contains+in_ok-push, else-contains}
use Rattle.min_cover.proofs.shortening.add_members.Goals as goal
use Rattle.dep_model.proofs.SchemeLemmas.{members_below-none, members_below-one_more, members_below-no_more}

pub loop-a-init : goal.loop-a-init
loop-a-init c firsts before =
    let x = attributes c.args.lhs in
    let z = difference (attributes c.args.rhs) x in
    let none : firsts ++ map (λ (a : ℕ). fd x (only a)) (members_below 0 z) ≡ firsts =
    ap (λ (l : List ℕ). firsts ++ map (λ (a : ℕ). fd x (only a)) l) (members_below-none z) ∙ append-nil firsts in
    subst (λ (es : List Dependency). AreLeftReduced (width_of c.args.theory.now) (theory_of c.args.theory.now) es c.args.members.now.items) (sym none) before

-- one attribute more
members-take : (firsts : List Dependency) (x z : Attributes) (a : ℕ) → z a ≡ true
    → firsts ++ map (λ (b : ℕ). fd x (only b)) (members_below (a + 1) z) ≡ (firsts ++ map (λ (b : ℕ). fd x (only b)) (members_below a z)) ++ fd x (only a) ∷ []
members-take firsts x z a member =
    let f : ℕ → Dependency = λ (b : ℕ). fd x (only b) in
    ap (λ (l : List ℕ). firsts ++ map f l) (members_below-one_more a (a + 1) z refl member)
    ∙ ap (λ (l : List Dependency). firsts ++ l) (map_push f (members_below a z) a)
    ∙ sym (append_assoc firsts (map f (members_below a z)) (f a ∷ []))

pub loop-a-preserved : goal.loop-a-preserved
loop-a-preserved c firsts before =
    let s = c.args.theory.now in
    let n = width_of s in
    let x = attributes c.args.lhs in
    let z = difference (attributes c.args.rhs) x in
    let a = c.loop-a.a in
    let f : ℕ → Dependency = λ (b : ℕ). fd x (only b) in
    let old = c.loop-a.invariant firsts before in
    elim c.if-contains.branch [
      | then-contains+in_ok-push w ↦
          let right = attributes w.single-right.result in
          let short = attributes w.left_reduced.result in
          let member : z a ≡ true = sym (same_at c.difference-beyond.ensures.members a) ∙ sym c.contains.ensures.member ∙ w.if-contains.true in
          let lt : a < n = omega (arith, c.loop-a-test.true, c.width-a-end.ensures.count) in
          let right_is : right ≡ only a = w.single-right.ensures.members in
          let right_in : IsSubset right (below n) = λ (k : ℕ) m. grind (arith, nat_tests, same_at w.single-right.ensures.members k, m, lt) in
          let within : All (IsDepWithin (below n)) w.deps.result.now = subst (λ (es : List Dep). All (IsDepWithin (below n)) es) (sym w.deps.ensures.deps) s.valid.deps_within in
          let by_deps = w.left_reduced.ensures.left_reduced n within c.requires.lhs right_in in
          let is_short : IsLeftReduced n (theory_of s) x right short = subst (λ (es : List Dep). IsLeftReduced n (dependencies_of es) x right short) w.deps.ensures.deps by_deps in
          let shortened : IsLeftReducedDependency n (theory_of s) (fd x (only a)) (fd short right) =
          (short, ap (λ (p : Attributes). fd short p) right_is, subst (λ (p : Attributes). IsLeftReduced n (theory_of s) x p short) right_is is_short) in
          let more = shortened_more n (theory_of s) (firsts ++ map f (members_below a z)) c.loop-a.members.items (fd x (only a)) _ old shortened
          ((λ (k : ℕ) m. c.requires.lhs k (is_short.within k m)), right_in) refl in
          let pushed = ap (λ v. v.items) w.members-is ∙ w.in_ok-push.ensures.items in
          subst (λ (es : List Dep). AreLeftReduced n (theory_of s) (firsts ++ map f (members_below (a + 1) z)) es) (sym pushed)
          (subst (λ (es : List Dependency). AreLeftReduced n (theory_of s) es (c.loop-a.members.items ++ Fd w.left_reduced.result w.single-right.result ∷ [])) (sym (members-take firsts x z a member)) more)
      | else-contains w ↦
          let outside : z a ≡ false = sym (same_at c.difference-beyond.ensures.members a) ∙ sym c.contains.ensures.member ∙ w.if-contains.false in
          let same = ap (λ v. v.items) w.members-is in
          subst (λ (es : List Dep). AreLeftReduced n (theory_of s) (firsts ++ map f (members_below (a + 1) z)) es) (sym same)
          (subst (λ (l : List ℕ). AreLeftReduced n (theory_of s) (firsts ++ map f l) c.loop-a.members.items) (sym (members_below-no_more a (a + 1) z refl outside)) old)
    ]

pub returns : goal.returns
returns c = record {
  left_reduced = λ firsts before.
      let all : c.loop-a.a ≡ width_of c.args.theory.now = omega (arith, c.loop-a-test.false, c.loop-a.auto.a-end, c.width-a-end.ensures.count) in
      let x = attributes c.args.lhs in
      let z = difference (attributes c.args.rhs) x in
      subst (λ (n : ℕ). AreLeftReduced (width_of c.args.theory.now) (theory_of c.args.theory.now) (firsts ++ map (λ (a : ℕ). fd x (only a)) (members_below n z)) c.loop-a.members.items) all
      (c.loop-a.invariant firsts before);
}
