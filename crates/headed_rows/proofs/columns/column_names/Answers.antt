-- What is left to prove of `column_names`: its clause `header`, and that a round of its loop keeps the
-- invariant.
use Rattle.std.proofs.Common.{arith, ◌≡◌, ◌<◌, ◌++◌, ◌∷◌, [], ℕ, List, length, take, slice_index_or, below_more, sym, ap, subst, ◌∙◌}
use Rattle.std.proofs.lemmas.List.{take_more}
use Rattle.csv.specs.Records.{fields_of}
use Rattle.headed_rows.specs.Headers.{NamesColumn, field_at}
use Rattle.headed_rows.proofs.columns.column_names.Goals as goal

pub loop-i-preserved : goal.loop-i-preserved
loop-i-preserved c =
    let fields : List (List ℕ) = fields_of c.args.fields.now in
    let i : ℕ = c.loop-i.i in
    let within : i < length fields = omega (arith, c.loop-i-test.true, c.len-i-end.ensures) in
    let name : c.in-Ok.name ≡ slice_index_or fields i [] = c.in-Ok.ensures.name ∙ c.field.ensures.value in
    let before = c.deref.ensures.value ∙ c.loop-i.invariant.names in
    let here : NamesColumn (take i fields) (field_at fields i) =
    subst (λ (b : List (List ℕ)). NamesColumn b (field_at fields i)) before
    (subst (λ (f : List ℕ). NamesColumn c.deref.result.now f) c.field.ensures.value c.in-Ok.ensures.fits) in
    record {
      names = c.in_ok-push.ensures.items ∙ ap (λ (l : List (List ℕ)). l ++ c.in-Ok.name ∷ []) c.loop-i.invariant.names
          ∙ ap (λ (n : List ℕ). take i fields ++ n ∷ []) name ∙ sym (take_more fields i [] within);
      named = below_more (λ (k : ℕ). NamesColumn (take k fields) (field_at fields k)) i c.loop-i.invariant.named here;
    }

pub returns-clause-header : goal.returns-clause-header
returns-clause-header c = record {
  within_limit = omega (arith, c.if-len-widest.false, c.len.ensures);
  named = λ k low. c.loop-i.invariant.named k (omega (arith, low, c.loop-i-test.false, c.len-i-end.ensures));
}
