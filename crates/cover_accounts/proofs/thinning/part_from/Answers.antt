-- What is left to prove of `part_from`: its clauses, what `is_implied_by` requires, and that the invariant of its
-- loop holds at first and stays, by `PartLemmas`.
use Rattle.std.proofs.Common.{◌≡◌, ◌+◌, ◌<◌, ◌↔◌, List, [], ◌∷◌, ◌++◌, length, get_or, set, take, drop, refl, sym, ◌∙◌, subst, ap, arith, append-nil, append_assoc}
use Rattle.std.proofs.lemmas.Bool.{false≢true}
use Rattle.std.proofs.lemmas.List.{length-set, length-map, map_push}
use Rattle.std.proofs.lemmas.List.Elements.{All-set, All-push, All-take, All-map}
use Rattle.std.specs.Prelude.{All, IsTrue}
use Rattle.attr_sets.specs.Attributes.{below}
use Rattle.dep_model.specs.declared.dep.Dep.{Dep}
use Rattle.dep_model.specs.declared.dep.Dep.TheVariants.{Fd}
use Rattle.dep_model.specs.Implication.{Implies}
use Rattle.dep_model.specs.Deps.{dependency_of, dependencies_of, IsDepWithin}
use Rattle.min_cover.proofs.ThinningLemmas.{set-set_back}
use Rattle.cover_accounts.specs.declared.thinning.PlacedDep.{PlacedDep}
use Rattle.cover_accounts.specs.Steps.{Placed, place_of, places_of}
use Rattle.cover_accounts.specs.Gathering.{IsPlacedWithin, deps_of_places}
use Rattle.cover_accounts.proofs.PartLemmas.{IsPartedTo, here, parted_none, parted_done, parted_gone, parted_kept}
use Rattle.cover_accounts.proofs.thinning.part_from.Goals.{then-is_implied_by+in_ok-push, else-is_implied_by+in_ok-push-2}
use Rattle.cover_accounts.proofs.thinning.part_from.Goals as goal

pub loop-k-init : goal.loop-k-init
loop-k-init c =
    let list = c.args.list.now in
    let dep : PlacedDep → Dep = λ (p : PlacedDep). p.dep in
    let others : c.in_ok-others.others.items ≡ deps_of_places list = c.in_ok-others.ensures.deps in
    let items : c.in_ok-kept.kept.items ≡ take c.args.from list = c.in_ok-kept.ensures.items in
    rw items (record {
      long = ap (λ (ds : List Dep). length ds) others ∙ length-map list dep;
      within = subst (λ (ds : List Dep). All (IsDepWithin (below c.args.width)) ds) (sym others) (All-map (IsDepWithin (below c.args.width)) dep list c.requires.within);
      kept_within = All-take (IsPlacedWithin (below c.args.width)) c.args.from list c.requires.within;
      out = [];
      out_is = sym (append-nil (places_of c.args.gone.now.items));
      parted = parted_none c.args.width list c.in_ok-others.others.items c.args.from others;
    })

abbrev zero : PlacedDep
zero = record { position = 0; dep = Fd (record { 0 = 0 }) (record { 0 = 0 }) }

pub is_implied_by-requires-clause-deps : goal.is_implied_by-requires-clause-deps
is_implied_by-requires-clause-deps c =
    rw c.deref.ensures.value (All-set (IsDepWithin (below c.args.width)) c.loop-k.others.items c.loop-k.k c.trivial_dependency.result (c.trivial_dependency.ensures.within c.args.width) c.loop-k.invariant.within)

pub is_implied_by-requires-clause-within : goal.is_implied_by-requires-clause-within
is_implied_by-requires-clause-within c = c.requires.within c.loop-k.k zero (omega (arith, c.loop-k-test.true))

pub loop-k-preserved : goal.loop-k-preserved
loop-k-preserved c =
    let n = c.args.width in
    let before = c.loop-k.invariant in
    let list = c.args.list.now in
    let first = drop c.args.from list in
    let first_kept = take c.args.from list in
    let others = c.loop-k.others.items in
    let kept = c.loop-k.kept.items in
    let old = places_of c.args.gone.now.items in
    let k = c.loop-k.k in
    let p = get_or list k zero in
    let nothing = c.trivial_dependency.result in
    let obeyed = c.trivial_dependency.ensures.obeyed n in
    let without = set others k nothing in
    let low : k < length list = omega (arith, c.loop-k-test.true) in
    let lt : k < length others = omega (arith, low, before.long) in
    let at : get_or others k p.dep ≡ p.dep = here n first first_kept list others kept before.out k p zero nothing refl low lt obeyed before.parted in
    let tested : IsTrue c.is_implied_by.result ↔ Implies n (dependencies_of without) (dependency_of p.dep) =
    subst (λ (es : List Dep). IsTrue c.is_implied_by.result ↔ Implies n (dependencies_of es) (dependency_of p.dep)) c.deref.ensures.value c.is_implied_by.ensures.implied in
    elim c.if-is_implied_by.branch [
      | then-is_implied_by+in_ok-push w ↦
          let after : c.if-is_implied_by.others.items ≡ without = ap (λ v. v.items) w.others-is in
          let same_kept : c.if-is_implied_by.kept.items ≡ kept = ap (λ v. v.items) w.kept-is in
          let pushed : c.if-is_implied_by.gone.items ≡ c.loop-k.gone.items ++ p ∷ [] = ap (λ v. v.items) w.gone-is ∙ w.in_ok-push.ensures.items in
          record {
            long = ap (λ (es : List Dep). length es) after ∙ length-set others k nothing ∙ before.long;
            within = subst (λ (es : List Dep). All (IsDepWithin (below n)) es) (sym after) (All-set (IsDepWithin (below n)) others k nothing (c.trivial_dependency.ensures.within n) before.within);
            kept_within = subst (λ (ps : List PlacedDep). All (IsPlacedWithin (below n)) ps) (sym same_kept) before.kept_within;
            out = before.out ++ place_of p ∷ [];
            out_is = ap (λ (ps : List PlacedDep). places_of ps) pushed ∙ map_push place_of c.loop-k.gone.items p
                ∙ ap (λ (ps : List Placed). ps ++ place_of p ∷ []) before.out_is ∙ append_assoc old before.out (place_of p ∷ []);
            parted =
                subst (λ (es : List Dep). IsPartedTo n first first_kept list es c.if-is_implied_by.kept.items (before.out ++ place_of p ∷ []) (k + 1)) (sym after)
                (subst (λ (ps : List PlacedDep). IsPartedTo n first first_kept list without ps (before.out ++ place_of p ∷ []) (k + 1)) (sym same_kept)
                (parted_gone n first first_kept list others kept before.out k p zero nothing refl low lt obeyed before.parted (k + 1) refl (tested.0 w.if-is_implied_by.true)));
          }
      | else-is_implied_by+in_ok-push-2 w ↦
          let after : c.if-is_implied_by.others.items ≡ set without k p.dep = ap (λ v. v.items) w.others-is in
          let same : c.if-is_implied_by.others.items ≡ others = after ∙ set-set_back others k p.dep nothing (sym at) in
          let pushed : c.if-is_implied_by.kept.items ≡ kept ++ p ∷ [] = ap (λ v. v.items) w.kept-is ∙ w.in_ok-push-2.ensures.items in
          let same_gone : c.if-is_implied_by.gone.items ≡ c.loop-k.gone.items = ap (λ v. v.items) w.gone-is in
          record {
            long = ap (λ (es : List Dep). length es) same ∙ before.long;
            within = subst (λ (es : List Dep). All (IsDepWithin (below n)) es) (sym same) before.within;
            kept_within = subst (λ (ps : List PlacedDep). All (IsPlacedWithin (below n)) ps) (sym pushed) (All-push (IsPlacedWithin (below n)) kept p before.kept_within (c.requires.within k zero low));
            out = before.out;
            out_is = ap (λ (ps : List PlacedDep). places_of ps) same_gone ∙ before.out_is;
            parted =
                subst (λ (es : List Dep). IsPartedTo n first first_kept list es c.if-is_implied_by.kept.items before.out (k + 1)) (sym same)
                (subst (λ (ps : List PlacedDep). IsPartedTo n first first_kept list others ps before.out (k + 1)) (sym pushed)
                (parted_kept n first first_kept list others kept before.out k p zero nothing refl low lt obeyed before.parted (k + 1) refl
                (λ implied. false≢true (sym w.if-is_implied_by.false ∙ tested.1 implied))));
          }
    ]

pub returns-clause-parted : goal.returns-clause-parted
returns-clause-parted c =
    let list = c.args.list.now in
    let now = c.loop-k.invariant in (
      now.out,
      now.out_is,
      parted_done c.args.width (drop c.args.from list) (take c.args.from list) list c.loop-k.others.items c.loop-k.kept.items now.out c.loop-k.k
          (omega (arith, c.loop-k-test.false)) now.parted,
    )
