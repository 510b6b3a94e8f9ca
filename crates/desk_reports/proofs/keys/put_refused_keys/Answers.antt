-- What is left to prove of `put_refused_keys`: its clause, by what the commands allow.
use Rattle.std.proofs.Common.{Err, ◌≡◌, ℕ, List, inr, sym, subst}
use Rattle.desk_responses.specs.Responses.{response_value}
use Rattle.desk_keys.specs.KeyReasons.{ExplainsKeys}
use Rattle.desk_keys.specs.Keys.{ListsKeys}
use Rattle.desk_keys.proofs.RefusalLemmas.{explains_refusal}
use Rattle.desk_reports.specs.Pieces.{Prints}
use Rattle.desk_reports.proofs.PieceLemmas.{adds_explained, prints}
use Rattle.desk_reports.proofs.keys.put_refused_keys.Goals as goal

pub returns : goal.returns
returns c =
    let s = c.args.schema.now in
    let text = c.in_ok-refused.refused.items in
    let lists : Prints (ListsKeys s) text =
    prints (ListsKeys s) (Err c.keys_exit.result) text (λ response is. inr (c.keys_exit.ensures.exits response is)) c.in_ok-refused.ensures.text in
    let explains : Prints (ExplainsKeys s) text =
    prints (ExplainsKeys s) (Err c.keys_exit.result) text
    (λ response is. explains_refusal s (response_value response) (c.keys_exit.ensures.exits response is)) c.in_ok-refused.ensures.text in
    record {
      added = adds_explained (ListsKeys s) (ExplainsKeys s) c.args.title.now c.deref.result.now c.deref-2.result.now _ _
          (subst (λ (t : List ℕ). Prints (ListsKeys s) t) (sym c.deref.ensures.value) lists)
          (subst (λ (t : List ℕ). Prints (ExplainsKeys s) t) (sym c.deref-2.ensures.value) explains)
          c.in_ok-put_explained.ensures.added;
    }
