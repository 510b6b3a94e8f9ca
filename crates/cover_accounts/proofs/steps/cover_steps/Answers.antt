-- What is left to prove of `cover_steps`: what `thinned_members` and `part_from` require, and its clauses.
use Rattle.std.proofs.Common.{◌≡◌, List, [], ◌++◌, length, map, drop, sym, ap, subst, ◌∙◌, arith}
use Rattle.std.specs.Prelude.{All, filter}
use Rattle.std.specs.List.{flat_map}
use Rattle.attr_sets.specs.Attributes.{below}
use Rattle.std.proofs.lemmas.List.Elements.{All-map}
use Rattle.dep_model.specs.declared.dep.Dep.{Dep}
use Rattle.dep_model.specs.Theories.{Theory}
use Rattle.dep_model.specs.Dependencies.{Dependency, IsWithin}
use Rattle.dep_model.specs.Deps.{dependencies_of, IsDepWithin}
use Rattle.dep_model.specs.Theories.{width_of, theory_of, deps_of}
use Rattle.dep_model.proofs.DepLemmas.{dependencies_all-from}
use Rattle.min_cover.specs.Covers.{IsFixedWholeCover}
use Rattle.min_cover.proofs.CoverLemmas.{fixed_is_whole, whole_is_minimal}
use Rattle.cover_accounts.specs.declared.shortening.ShortMember.{ShortMember}
use Rattle.cover_accounts.specs.declared.thinning.PlacedDep.{PlacedDep}
use Rattle.cover_accounts.specs.Steps.{AreCoverSteps, AreShortMembers, IsThinnedInto, Placed, without_positions, places_of, placed_from, placed_members, is_multivalued, short_of, shortened_list}
use Rattle.cover_accounts.specs.Gathering.{IsMemberWithin, IsPlacedWithin, deps_of_places}
use Rattle.cover_accounts.proofs.PlaceLemmas.{positions_gone, stands_after}
use Rattle.cover_accounts.proofs.MemberLemmas.{steps_cover}
use Rattle.cover_accounts.proofs.steps.cover_steps.Goals.{In_ok-kept, In_ok-whole}
use Rattle.cover_accounts.proofs.steps.cover_steps.Goals as goal

pub thinned_members-requires : goal.thinned_members-requires
thinned_members-requires c = record {
  within = subst (λ (ms : List ShortMember). All (IsMemberWithin (below (width_of c.args.theory.now))) ms) (sym c.deref-2.ensures.value) c.in_ok-members.ensures.within;
}

pub part_from-requires-clause-within : goal.part_from-requires-clause-within
part_from-requires-clause-within c =
    let n = width_of c.args.theory.now in
    let list_in : All (IsPlacedWithin (below n)) c.deref-3.result.now =
    subst (λ (ps : List PlacedDep). All (IsPlacedWithin (below n)) ps) (sym c.deref-3.ensures.value) c.in_ok-list.ensures.within in
    let all = c.in_ok-add_multivalued.ensures.within n c.in_ok-rest.ensures.within list_in in
    rw (c.width.ensures.count, c.deref-4.ensures.value) all

-- the steps, and the cover that they leave
record IsAccount (s : Theory) (members : List ShortMember) (gone kept : List PlacedDep) : Type 0 where
  steps : AreCoverSteps (width_of s) (theory_of s) (shortened_list members) (places_of gone)
  left : without_positions steps.whole ≡ dependencies_of (deps_of_places kept)

account : (c : In_ok-kept) → IsAccount c.args.theory.now c.in_ok-members.members.items c.part_from.new.gone.items c.in_ok-kept.kept.items
account c =
    let s = c.args.theory.now in
    let n = width_of s in
    let ds = theory_of s in
    let list = c.in_ok-list.list.items in
    let rest = c.in_ok-rest.rest.items in
    let all = c.add_multivalued.new.others.items in
    let members = c.in_ok-members.members.items in
    let first = c.in_ok-rest.ensures.parted in
    let second = rw (c.width.ensures.count, c.deref-4.ensures.value) at c.in_ok-kept.ensures.parted in
    let from_is : c.len-from.result ≡ length rest = omega (arith, c.len-from.ensures, c.in_ok-rest.rest.ok.0) in
    let later : places_of (drop (length rest) all) ≡ filter is_multivalued (placed_from 0 ds) =
    stands_after rest all (filter is_multivalued (places_of c.deref-3.result.now)) c.in_ok-add_multivalued.ensures.added
    ∙ ap (λ (ps : List PlacedDep). filter is_multivalued (places_of ps)) c.deref-3.ensures.value
    ∙ ap (λ (ps : List Placed). filter is_multivalued ps) c.in_ok-list.ensures.placed in
    let firsts : places_of c.deref.result.now ≡ placed_from 0 ds =
    ap (λ (ps : List PlacedDep). places_of ps) c.deref.ensures.value ∙ c.in_ok-list.ensures.placed in
    record {
      steps = record {
        shortened = subst (λ (ps : List Placed). AreShortMembers n ds (flat_map (placed_members n) ps) (shortened_list members)) firsts c.in_ok-members.ensures.members;
        cover = places_of rest;
        gone_members = first.0;
        thinned = subst (λ (ms : List ShortMember). IsThinnedInto n [] (map short_of (shortened_list ms)) (places_of rest) first.0) c.deref-2.ensures.value first.2;
        whole = places_of c.in_ok-kept.kept.items;
        gone_later = second.0;
        multivalued =
            subst (λ (ps : List Placed). IsThinnedInto n (places_of rest) ps (places_of c.in_ok-kept.kept.items) second.0) later
            (subst (λ (ps : List PlacedDep). IsThinnedInto n (places_of ps) (places_of (drop (length rest) all)) (places_of c.in_ok-kept.kept.items) second.0) c.in_ok-add_multivalued.ensures.front
            (rw from_is at second.2));
        all = second.1 ∙ ap (λ (ps : List Placed). ps ++ second.0) (first.1 ∙ ap (λ (ps : List PlacedDep). places_of ps ++ first.0) c.new-gone.ensures.items);
      };
      left = positions_gone c.in_ok-kept.kept.items;
    }

-- the cover of the code
left_is : (c : In_ok-whole) → c.in_ok-whole.whole.items ≡ deps_of_places c.in_ok-kept.kept.items
left_is c = c.in_ok-whole.ensures.deps ∙ ap (λ (ps : List PlacedDep). deps_of_places ps) c.deref-5.ensures.value

fixed : (s : Theory) (members : List ShortMember) (gone kept : List PlacedDep) (whole : List Dep) → IsAccount s members gone kept
    → whole ≡ deps_of_places kept → IsFixedWholeCover (width_of s) (theory_of s) (dependencies_of whole)
fixed s members gone kept whole is left =
    subst (λ (ds : List Dependency). IsFixedWholeCover (width_of s) (theory_of s) ds) (is.left ∙ ap (λ (ds : List Dep). dependencies_of ds) (sym left))
    (steps_cover (width_of s) (theory_of s) _ _ is.steps)

theory_within : (s : Theory) → All (IsWithin (below (width_of s))) (theory_of s)
theory_within s = dependencies_all-from (IsWithin (below (width_of s))) (deps_of s) s.valid.deps_within

pub returns : goal.returns
returns c =
    let s = c.args.theory.now in
    let n = width_of s in
    let whole = dependencies_of c.in_ok-whole.whole.items in
    let told = account (goal.at.returns c).In_ok-kept in
    let left = left_is (goal.at.returns c).In_ok-whole in
    let is = fixed s _ _ c.in_ok-kept.kept.items c.in_ok-whole.whole.items told left in
    let all_in : All (IsPlacedWithin (below n)) c.in_ok-kept.kept.items = rw c.width.ensures.count at c.in_ok-kept.ensures.within in
    record {
      steps = told.steps;
      fixed = is;
      minimal = whole_is_minimal n (theory_of s) whole (theory_within s) is;
      whole_cover = fixed_is_whole n (theory_of s) whole (theory_within s) is;
      within = subst (λ (ds : List Dep). All (IsDepWithin (below n)) ds) (sym left)
          (All-map (IsDepWithin (below n)) (λ (p : PlacedDep). p.dep) c.in_ok-kept.kept.items all_in);
    }
