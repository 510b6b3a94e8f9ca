-- What is left to prove of `short_members`: what `add_members` requires, and that the invariant of its loop
-- stays.
use Rattle.std.proofs.Common.{◌≡◌, ◌+◌, List, [], ◌∷◌, ◌++◌, get_or, take, sym, ap, subst, ◌∙◌, append-nil}
use Rattle.std.proofs.lemmas.List.{map_more}
use Rattle.std.specs.List.{flat_map}
use Rattle.std.proofs.lemmas.Grind.{flat_map-append}
use Rattle.dep_model.specs.declared.dep.Dep.{Dep}
use Rattle.dep_model.specs.declared.dep.Dep.TheVariants.{Fd}
use Rattle.dep_model.specs.Deps.{dependency_of, IsDepWithin}
use Rattle.dep_model.specs.Theories.{width_of, theory_of, universe_of}
use Rattle.cover_accounts.specs.declared.thinning.PlacedDep.{PlacedDep}
use Rattle.cover_accounts.specs.Steps.{Placed, AreShortMembers, placed, placed_members, place_of, places_of, shortened_list}
use Rattle.cover_accounts.proofs.shortening.short_members.Goals.{In-Fd, in-Fd+in_ok-add_members, in_default}
use Rattle.cover_accounts.proofs.shortening.short_members.Goals as goal

-- the sides of a functional dependency lie within the universe
sides_within : (c : In-Fd) → IsDepWithin (universe_of c.args.theory.now) (Fd c.in-Fd.lhs c.in-Fd.rhs)
sides_within c =
    subst (λ (d : Dep). IsDepWithin (universe_of c.args.theory.now) d) c.in-Fd.is (c.requires.within c.loop-one.one-index _ c.loop-one-test.true)

pub add_members-requires-clause-lhs : goal.add_members-requires-clause-lhs
add_members-requires-clause-lhs c = (sides_within (goal.at.add_members-requires-clause-lhs c).In-Fd).0

pub add_members-requires-clause-rhs : goal.add_members-requires-clause-rhs
add_members-requires-clause-rhs c = (sides_within (goal.at.add_members-requires-clause-rhs c).In-Fd).1

pub loop-one-preserved : goal.loop-one-preserved
loop-one-preserved c =
    let s = c.args.theory.now in
    let n = width_of s in
    let ds = theory_of s in
    let list = c.args.list.now in
    let i = c.loop-one.one-index in
    let zero : PlacedDep = record { position = 0; dep = Fd (record { 0 = 0 }) (record { 0 = 0 }) } in
    let e = get_or list i zero in
    let before = c.loop-one.invariant in
    let firsts = flat_map (placed_members n) (places_of (take i list)) in
    let more : flat_map (placed_members n) (places_of (take (i + 1) list)) ≡ firsts ++ placed_members n (place_of e) =
    ap (flat_map (placed_members n)) (map_more place_of list i zero c.loop-one-test.true)
    ∙ flat_map-append (placed_members n) (places_of (take i list)) (place_of e ∷ [])
    ∙ ap (λ (l : List Placed). firsts ++ l) (append-nil (placed_members n (place_of e))) in
    elim c.match-one.branch [
      | in-Fd+in_ok-add_members w ↦
          let is : placed_members n (place_of e) ≡ placed_members n (placed e.position (dependency_of (Fd w.in-Fd.lhs w.in-Fd.rhs))) =
          ap (λ (d : Dep). placed_members n (placed e.position (dependency_of d))) w.in-Fd.is in
          record {
            members = rw w.members-is (subst (λ (ps : List Placed). AreShortMembers n ds ps (shortened_list w.add_members.new.members.items)) (sym (more ∙ ap (λ (l : List Placed). firsts ++ l) is)) (w.in_ok-add_members.ensures.members firsts before.members));
            within = rw w.members-is (w.in_ok-add_members.ensures.within before.within);
          }
      | in_default w ↦
          let is = ap (λ (d : Dep). placed_members n (placed e.position (dependency_of d))) w.in_default.is in
          record {
            members = rw w.members-is (subst (λ (ps : List Placed). AreShortMembers n ds ps (shortened_list c.loop-one.members.items)) (sym (more ∙ ap (λ (l : List Placed). firsts ++ l) is ∙ append-nil firsts)) before.members);
            within = rw w.members-is before.within;
          }
    ]
