-- What is left to prove of `add_members`: its clauses, and that the invariant of its loop holds at first and
-- stays, by `short_push`.
use Rattle.std.proofs.Common.{◌≡◌, ℕ, ◌+◌, ◌<◌, true, false, List, [], ◌∷◌, ◌++◌, map, refl, sym, ◌∙◌, ap, subst, arith, append-nil, append_assoc}
use Rattle.std.proofs.lemmas.Bool.Decides.{nat_tests}
use Rattle.std.proofs.lemmas.List.{map_push}
use Rattle.std.proofs.lemmas.List.Elements.{All-push}
use Rattle.std.specs.Prelude.{All}
use Rattle.attr_sets.specs.Attributes.{Attributes, below, only, difference, IsSubset}
use Rattle.attr_sets.specs.Sets.{attributes}
use Rattle.attr_sets.proofs.AttributesLemmas.{same_at}
use Rattle.dep_model.specs.declared.dep.Dep.{Dep}
use Rattle.dep_model.specs.Deps.{dependencies_of, IsDepWithin}
use Rattle.dep_model.specs.Dependencies.{Dependency, fd}
use Rattle.dep_model.specs.Projections.{members_below}
use Rattle.dep_model.specs.Theories.{width_of, theory_of, universe_of}
use Rattle.dep_model.proofs.SchemeLemmas.{members_below-none, members_below-one_more, members_below-no_more}
use Rattle.min_cover.specs.Members.{IsLeftReduced}
use Rattle.cover_accounts.specs.declared.shortening.ShortMember.{ShortMember}
use Rattle.cover_accounts.specs.Steps.{Placed, Shortened, AreShortMembers, placed, shortened_of, shortened_list}
use Rattle.cover_accounts.specs.Gathering.{IsMemberWithin}
use Rattle.cover_accounts.proofs.MemberLemmas.{short_push}
use Rattle.cover_accounts.proofs.shortening.add_members.Goals.{then-contains+in_ok-push, else-contains}
use Rattle.cover_accounts.proofs.shortening.add_members.Goals as goal

-- the members of some attributes
abbrev members_at : ℕ → Attributes → List ℕ → List Placed
members_at k x list = map (placed k) (map (λ (a : ℕ). fd x (only a)) list)

pub loop-a-init : goal.loop-a-init
loop-a-init c =
    let x = attributes c.args.lhs in
    let z = difference (attributes c.args.rhs) x in
    record {
      members = λ firsts before.
          let none : firsts ++ members_at c.args.position x (members_below 0 z) ≡ firsts =
          ap (λ (l : List ℕ). firsts ++ members_at c.args.position x l) (members_below-none z) ∙ append-nil firsts in
          subst (λ (ps : List Placed). AreShortMembers (width_of c.args.theory.now) (theory_of c.args.theory.now) ps (shortened_list c.args.members.now.items)) (sym none) before;
      within = λ all. all;
    }

-- one attribute more
members-take : (k : ℕ) (firsts : List Placed) (x z : Attributes) (a : ℕ) → z a ≡ true
    → firsts ++ members_at k x (members_below (a + 1) z) ≡ (firsts ++ members_at k x (members_below a z)) ++ placed k (fd x (only a)) ∷ []
members-take k firsts x z a member =
    let f : ℕ → Dependency = λ (b : ℕ). fd x (only b) in
    ap (λ (l : List ℕ). firsts ++ members_at k x l) (members_below-one_more a (a + 1) z refl member)
    ∙ ap (λ (l : List Dependency). firsts ++ map (placed k) l) (map_push f (members_below a z) a)
    ∙ ap (λ (l : List Placed). firsts ++ l) (map_push (placed k) (map f (members_below a z)) (f a))
    ∙ sym (append_assoc firsts (members_at k x (members_below a z)) (placed k (f a) ∷ []))

pub loop-a-preserved : goal.loop-a-preserved
loop-a-preserved c =
    let s = c.args.theory.now in
    let n = width_of s in
    let k = c.args.position in
    let x = attributes c.args.lhs in
    let z = difference (attributes c.args.rhs) x in
    let a = c.loop-a.a in
    let old = c.loop-a.invariant in
    elim c.if-contains.branch [
      | then-contains+in_ok-push w ↦
          let right = attributes w.single-right.result in
          let short = attributes w.left_reduced.result in
          let member : z a ≡ true = sym (same_at c.difference-beyond.ensures.members a) ∙ sym c.contains.ensures.member ∙ w.if-contains.true in
          let lt : a < n = omega (arith, c.loop-a-test.true, c.width-a-end.ensures.count) in
          let right_is : right ≡ only a = w.single-right.ensures.members in
          let right_in : IsSubset right (below n) = λ (j : ℕ) m. grind (arith, nat_tests, same_at w.single-right.ensures.members j, m, lt) in
          let within : All (IsDepWithin (below n)) w.deps.result.now = subst (λ (es : List Dep). All (IsDepWithin (below n)) es) (sym w.deps.ensures.deps) s.valid.deps_within in
          let by_deps = w.left_reduced.ensures.left_reduced n within c.requires.lhs right_in in
          let is_short : IsLeftReduced n (theory_of s) x right short = subst (λ (es : List Dep). IsLeftReduced n (dependencies_of es) x right short) w.deps.ensures.deps by_deps in
          let one : ShortMember = record { position = k; whole = c.args.lhs; left = w.left_reduced.result; right = w.single-right.result } in
          let pushed = ap (λ v. v.items) w.members-is ∙ w.in_ok-push.ensures.items in
          let listed : shortened_list c.if-contains.members.items ≡ shortened_list c.loop-a.members.items ++ shortened_of one ∷ [] =
          ap (λ (l : List ShortMember). shortened_list l) pushed ∙ map_push shortened_of c.loop-a.members.items one in
          record {
            members = λ firsts before.
                let at = firsts ++ members_at k x (members_below a z) in
                let more : AreShortMembers n (theory_of s) (at ++ placed k (fd x right) ∷ []) (shortened_list c.loop-a.members.items ++ shortened_of one ∷ []) =
                short_push n (theory_of s) at (shortened_list c.loop-a.members.items) (shortened_of one) (old.members firsts before) is_short in
                subst (λ (l : List Shortened). AreShortMembers n (theory_of s) (firsts ++ members_at k x (members_below (a + 1) z)) l) (sym listed)
                (subst (λ (ps : List Placed). AreShortMembers n (theory_of s) ps (shortened_list c.loop-a.members.items ++ shortened_of one ∷ [])) (sym (members-take k firsts x z a member))
                (subst (λ (y : Attributes). AreShortMembers n (theory_of s) (at ++ placed k (fd x y) ∷ []) (shortened_list c.loop-a.members.items ++ shortened_of one ∷ [])) right_is more));
            within = λ all. subst (λ (l : List ShortMember). All (IsMemberWithin (universe_of s)) l) (sym pushed)
                (All-push (IsMemberWithin (universe_of s)) c.loop-a.members.items one (old.within all)
                ((λ (j : ℕ) m. c.requires.lhs j (is_short.within j m)), right_in));
          }
      | else-contains w ↦
          let outside : z a ≡ false = sym (same_at c.difference-beyond.ensures.members a) ∙ sym c.contains.ensures.member ∙ w.if-contains.false in
          let same = ap (λ v. v.items) w.members-is in
          record {
            members = λ firsts before.
                subst (λ (l : List ShortMember). AreShortMembers n (theory_of s) (firsts ++ members_at k x (members_below (a + 1) z)) (shortened_list l)) (sym same)
                (subst (λ (l : List ℕ). AreShortMembers n (theory_of s) (firsts ++ members_at k x l) (shortened_list c.loop-a.members.items)) (sym (members_below-no_more a (a + 1) z refl outside)) (old.members firsts before));
            within = λ all. subst (λ (l : List ShortMember). All (IsMemberWithin (universe_of s)) l) (sym same) (old.within all);
          }
    ]

pub returns : goal.returns
returns c =
    let all : c.loop-a.a ≡ width_of c.args.theory.now = omega (arith, c.loop-a-test.false, c.loop-a.auto.a-end, c.width-a-end.ensures.count) in
    let x = attributes c.args.lhs in
    let z = difference (attributes c.args.rhs) x in
    record {
      members = λ firsts before.
          subst (λ (n : ℕ). AreShortMembers (width_of c.args.theory.now) (theory_of c.args.theory.now) (firsts ++ members_at c.args.position x (members_below n z)) (shortened_list c.loop-a.members.items)) all
          (c.loop-a.invariant.members firsts before);
      within = c.loop-a.invariant.within;
    }
