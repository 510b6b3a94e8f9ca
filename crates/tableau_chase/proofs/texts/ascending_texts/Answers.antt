-- What is left to prove of `ascending_texts`: its clause `texts`, by `texts_sorted`.
use Rattle.std.proofs.Common.{ℕ, map, ap, ◌∙◌, Vec, Global}
use Rattle.std.specs.Prelude.{decimal}
use Rattle.dep_model.specs.Tuples.{Tuple}
use Rattle.tableau_chase.proofs.TextLemmas.{texts_sorted}
use Rattle.tableau_chase.proofs.texts.ascending_texts.Goals as goal

pub returns : goal.returns
returns c =
    let text : Vec ℕ Global → Tuple = λ (list : Vec ℕ Global). map decimal list.items in
    record {
      texts = texts_sorted c.args.rows.items c.in_ok-lists.lists.items c.sort.new.self.items c.in_ok-texts.texts.items c.requires.differ (c.in_ok-lists.ensures.lists ∙ c.deref.ensures.value)
          c.in_ok-sort.ensures.permutation c.in_ok-sort.ensures.sorted (c.in_ok-texts.ensures.texts ∙ ap (map text) c.deref-2.ensures.value);
    }
