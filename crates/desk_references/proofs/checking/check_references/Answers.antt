-- What is left to prove of `check_references`: what it asks of `judge_reference`, and its clause `response`, step
-- by step.
use Rattle.std.specs.Prelude.{All}
use Rattle.std.proofs.Common.{◌≡◌, ◌<◌, ℕ, List, codes, length, sym, subst, ◌∙◌, arith}
use Rattle.desk_responses.specs.Responses.{RespondsAs}
use Rattle.desk_responses.specs.ResponseValues.{Unless}
use Rattle.desk_responses.proofs.StepLemmas.{Unless-passed, With-found}
use Rattle.desk_references.specs.Checks.{JudgesReference, StopsUnpaired}
use Rattle.desk_references.specs.ColumnLists.{AreColumns, ColumnsStop, WithColumns}
use Rattle.desk_references.proofs.CheckLemmas.{columns_low}
use Rattle.headed_rows.specs.Headings.{headed_of}
use Rattle.desk_references.proofs.checking.check_references.Goals as goal

pub judge_reference-requires-clause-columns : goal.judge_reference-requires-clause-columns
judge_reference-requires-clause-columns c =
    let names = c.args.one.now.names.items in
    subst (All (λ (k : ℕ). k < length names)) (sym c.deref-3.ensures.value)
    (columns_low names c.args.first.now c.in-Ok.columns.items
    (subst (λ (ns : List (List ℕ)). AreColumns ns c.args.first.now c.in-Ok.columns.items) c.deref.ensures.value c.in-Ok.ensures.ok))

pub judge_reference-requires-clause-key : goal.judge_reference-requires-clause-key
judge_reference-requires-clause-key c =
    let names = c.args.other.now.names.items in
    subst (All (λ (k : ℕ). k < length names)) (sym c.deref-4.ensures.value)
    (columns_low names c.args.second.now c.in-Ok-columns_of.key.items
    (subst (λ (ns : List (List ℕ)). AreColumns ns c.args.second.now c.in-Ok-columns_of.key.items) c.deref-2.ensures.value c.in-Ok-columns_of.ensures.ok))

pub returns : goal.returns
returns c =
    let one = headed_of c.args.one.now in
    let other = headed_of c.args.other.now in
    let first = c.args.first.now in
    let second = c.args.second.now in
    let x = c.in-Ok.columns.items in
    let k = c.in-Ok-columns_of.key.items in
    let result = c.judge_reference.result in
    let as_many : length x ≡ length k = omega (arith, c.if-len.false, c.len.ensures, c.len-2.ensures, c.in-Ok.columns.ok.0, c.in-Ok-columns_of.key.ok.0) in
    let judged : RespondsAs (JudgesReference one x other k) result =
    subst (λ (cs : List ℕ). RespondsAs (JudgesReference one cs other k) result) c.deref-3.ensures.value
    (subst (λ (cs : List ℕ). RespondsAs (JudgesReference one c.deref-3.result.now other cs) result) c.deref-4.ensures.value
    c.judge_reference.ensures.response) in
    record {
      response = With-found (ColumnsStop (codes "first") one.names first) (AreColumns one.names first)
          (λ (xs : List ℕ). WithColumns (codes "second") other.names second (λ (ks : List ℕ).
          Unless (StopsUnpaired xs ks) (length xs ≡ length ks) (JudgesReference one xs other ks))) x result
          (subst (λ (ns : List (List ℕ)). AreColumns ns first x) c.deref.ensures.value c.in-Ok.ensures.ok)
          (With-found (ColumnsStop (codes "second") other.names second) (AreColumns other.names second)
          (λ (ks : List ℕ). Unless (StopsUnpaired x ks) (length x ≡ length ks) (JudgesReference one x other ks)) k result
          (subst (λ (ns : List (List ℕ)). AreColumns ns second k) c.deref-2.ensures.value c.in-Ok-columns_of.ensures.ok)
          (Unless-passed (StopsUnpaired x k) (length x ≡ length k) (JudgesReference one x other k) result as_many judged));
    }
