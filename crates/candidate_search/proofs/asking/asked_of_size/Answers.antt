-- What is left to prove of `asked_of_size`: that the invariant of its loop stays, and its clauses, by
-- `AskLemmas`.
use Rattle.std.proofs.Common.{◌≡◌, ℕ, List, get_or, sym, subst, arith}
use Rattle.std.specs.Prelude.{Contains}
use Rattle.std.proofs.lemmas.List.{take_all}
use Rattle.std.proofs.lemmas.List.Elements.{All-more, All-same, Contains-append_left}
use Rattle.std.proofs.lemmas.List.Sorted.{All-permutation, Contains-permutation}
use Rattle.candidate_search.specs.Asking.{AsksAll, IsAskedWithin}
use Rattle.candidate_search.specs.Sides.{HasCandidates}
use Rattle.candidate_search.specs.declared.asking.Asked.{Asked}
use Rattle.candidate_search.specs.declared.side.Side.{Side}
use Rattle.candidate_search.proofs.AskLemmas.{asks_all_more}
use Rattle.candidate_search.proofs.asking.asked_of_size.Goals as goal

pub loop-side-preserved : goal.loop-side-preserved
loop-side-preserved c =
    let i : ℕ = c.loop-side.side-index in
    let side : Side = c.side-item.result in
    let is : side ≡ get_or c.args.sides.now i side = c.side-item.is in
    let more = c.in_ok-ask.ensures.kept in
    record {
      all = λ k d l. All-more (AsksAll c.ask.new.asked.items c.args.size) c.args.sides.now i side c.loop-side-test.true
          (asks_all_more c.loop-side.asked.items c.ask.new.asked.items c.args.size _
          (λ a listed. subst (λ (xs : List Asked). Contains xs a) (sym more.1)
          (Contains-append_left c.loop-side.asked.items more.0 a listed)) c.loop-side.invariant.all)
          (subst (AsksAll c.ask.new.asked.items c.args.size) is c.in_ok-ask.ensures.all) k d l;
      within = λ n most has. c.in_ok-ask.ensures.within n most (subst (HasCandidates n most) (sym is) (has i side c.loop-side-test.true))
          (c.loop-side.invariant.within n most has);
    }

pub returns-clause-all : goal.returns-clause-all
returns-clause-all c =
    let asked : List Asked = c.loop-side.asked.items in
    let sorted : List Asked = c.sort_by_key.new.self.items in
    All-same (AsksAll sorted c.args.size) c.args.sides.now _
    (sym (take_all c.loop-side.side-index c.args.sides.now (omega (arith, c.loop-side-test.false))))
    (asks_all_more asked sorted c.args.size _
    (λ a. Contains-permutation asked sorted a c.in_ok-sort_by_key.ensures.permutation) c.loop-side.invariant.all)

pub returns-clause-within : goal.returns-clause-within
returns-clause-within c = λ n most has. All-permutation (IsAskedWithin n) c.loop-side.asked.items
    c.sort_by_key.new.self.items c.in_ok-sort_by_key.ensures.permutation (c.loop-side.invariant.within n most has)
