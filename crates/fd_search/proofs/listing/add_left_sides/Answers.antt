-- What is left to prove of `add_left_sides`: that the invariant of its loop stays, by `map_more`.
use Rattle.std.proofs.Common.{◌≡◌, ◌++◌, ◌<◌, ◌∷◌, [], ℕ, List, map, take, get_or, length, sym, ap, subst, ◌∙◌, append_assoc}
use Rattle.std.proofs.lemmas.List.{map_more}
use Rattle.std.proofs.lemmas.List.Elements.{All-push, All-same}
use Rattle.attr_sets.specs.declared.set.AttrSet.{AttrSet}
use Rattle.fd_search.specs.Listing.{HasNumber}
use Rattle.fd_search.proofs.ListLemmas.{Pair}
use Rattle.fd_search.proofs.listing.add_left_sides.Goals as goal

pub loop-left-preserved : goal.loop-left-preserved
loop-left-preserved c =
    let d : AttrSet = record { 0 = 0 } in
    let i : ℕ = c.loop-left.left-index in
    let right : ℕ = c.args.side.now.right in
    let lefts : List AttrSet = c.args.side.now.lefts.items in
    let same : c.deref-left-items.result.now ≡ lefts = c.deref-left-items.ensures.value in
    let here : i < length lefts = subst (λ (xs : List AttrSet). i < length xs) same c.loop-left-test.true in
    let old : List Pair = c.loop-left.pairs.items in
    let pair : Pair = c.pair.result in
    let is : pair ≡ (get_or lefts i d, right) =
    c.pair.ensures.same ∙ ap (λ (xs : List AttrSet). (get_or xs i d, right)) same in
    record {
      pairs = c.in_ok-push.ensures.items
          ∙ ap (λ (p : Pair). old ++ p ∷ []) is
          ∙ ap (λ (ps : List Pair). ps ++ (get_or lefts i d, right) ∷ []) c.loop-left.invariant.pairs
          ∙ append_assoc c.args.pairs.now.items (map (λ (s : AttrSet). (s, right)) (take i lefts)) ((get_or lefts i d, right) ∷ [])
          ∙ ap (λ (ps : List Pair). c.args.pairs.now.items ++ ps) (sym (map_more (λ (s : AttrSet). (s, right)) lefts i d here));
      numbers = λ numbers. All-same HasNumber c.push.new.self.items (old ++ pair ∷ []) c.in_ok-push.ensures.items
          (All-push HasNumber old pair (c.loop-left.invariant.numbers numbers) c.pair.ensures.number);
    }
