-- What is left to prove of `add_multivalued`: its clauses, and that the invariant of its loop holds at first
-- and stays.
use Rattle.std.proofs.Common.{◌≡◌, List, [], ◌∷◌, ◌++◌, length, get_or, take, take_all, sym, ◌∙◌, ap, arith, append-nil, append_assoc}
use Rattle.std.specs.Prelude.{filter}
use Rattle.std.proofs.lemmas.List.{map_push}
use Rattle.std.proofs.lemmas.List.Elements.{All-push}
use Rattle.attr_sets.specs.Attributes.{below}
use Rattle.dep_model.specs.declared.dep.Dep.{Dep}
use Rattle.dep_model.specs.declared.dep.Dep.TheVariants.{Fd}
use Rattle.dep_model.specs.Deps.{dependency_of}
use Rattle.cover_accounts.specs.declared.thinning.PlacedDep.{PlacedDep}
use Rattle.cover_accounts.specs.Steps.{Placed, placed, place_of, places_of, is_multivalued}
use Rattle.cover_accounts.specs.Gathering.{IsPlacedWithin}
use Rattle.cover_accounts.proofs.PlaceLemmas.{multivalued_more, multivalued_no_more, front_push}
use Rattle.cover_accounts.proofs.thinning.add_multivalued.Goals.{in-Mvd+in_ok-push, in_default}
use Rattle.cover_accounts.proofs.thinning.add_multivalued.Goals as goal

pub loop-one-init : goal.loop-one-init
loop-one-init c = record {
  added = sym (append-nil (places_of c.args.others.now.items));
  front = take_all (length c.args.others.now.items) c.args.others.now.items (omega arith);
  within = λ n old new. old;
}

pub loop-one-preserved : goal.loop-one-preserved
loop-one-preserved c =
    let list = c.args.list.now in
    let i = c.loop-one.one-index in
    let first : PlacedDep = record { position = 0; dep = Fd (record { 0 = 0 }) (record { 0 = 0 }) } in
    let e = get_or list i first in
    let before = c.loop-one.invariant in
    let old = c.args.others.now.items in
    let others = c.loop-one.others.items in
    elim c.match-one.branch [
      | in-Mvd+in_ok-push w ↦
          let items : c.match-one.others.items ≡ others ++ e ∷ [] = ap (λ v. v.items) w.others-is ∙ w.in_ok-push.ensures.items in
          let is = ap (λ (d : Dep). filter is_multivalued (placed e.position (dependency_of d) ∷ [])) w.in-Mvd.is ∙ sym (ap (λ (d : Dep). placed e.position (dependency_of d) ∷ []) w.in-Mvd.is) in
          rw items (record {
            added = map_push place_of others e ∙ ap (λ (l : List Placed). l ++ place_of e ∷ []) before.added
                ∙ append_assoc (places_of old) (filter is_multivalued (places_of (take i list))) (place_of e ∷ [])
                ∙ ap (λ (l : List Placed). places_of old ++ l) (sym (multivalued_more list i first c.loop-one-test.true is));
            front = front_push old others e before.front;
            within = λ n old_in new_in. All-push (IsPlacedWithin (below n)) others e (before.within n old_in new_in) (new_in i first c.loop-one-test.true);
          })
      | in_default w ↦
          let items : c.match-one.others.items ≡ others = ap (λ v. v.items) w.others-is in
          let is = ap (λ (d : Dep). filter is_multivalued (placed e.position (dependency_of d) ∷ [])) w.in_default.is in
          rw items (record {
            added = before.added ∙ ap (λ (l : List Placed). places_of old ++ l) (sym (multivalued_no_more list i first c.loop-one-test.true is));
            front = before.front;
            within = before.within;
          })
    ]

pub returns : goal.returns
returns c =
    let all : take c.loop-one.one-index c.args.list.now ≡ c.args.list.now = take_all c.loop-one.one-index c.args.list.now c.loop-one-test.false in
    record {
      added = c.loop-one.invariant.added ∙ ap (λ (l : List PlacedDep). places_of c.args.others.now.items ++ filter is_multivalued (places_of l)) all;
      front = c.loop-one.invariant.front;
      within = c.loop-one.invariant.within;
    }
