-- Where the tables of an answer go: what becomes of them, by how the calls that write them ended.
use Rattle.std.proofs.Common.{◌≡◌, inr, ℕ, ◌+◌, ◌≤◌, arith, true, false, List, length, Option, Some, None, sym, ap, subst}
use Rattle.std.specs.Prelude.{MatchOption, Result, Ok, Err, IfOk, OnOk, OnErr}
use Rattle.std.specs.List.{list_any}
use Rattle.named_tables.specs.Tables.{TableValue}
use Rattle.destinations.specs.Writing.{WriteEnd}
use Rattle.table_writing.specs.Writing.{AtEachPosition, WrittenDestination}
use Rattle.own_folder.specs.OwnWriting.{WrittenToFolder}
use Rattle.desk_responses.specs.declared.status.Status.TheVariants.{Yes}
use Rattle.desk_responses.specs.ResponseValues.{OwnFolder, ResponseValue}
use Rattle.desk_delivery.specs.declared.finish.Outcome.{Outcome}
use Rattle.desk_delivery.specs.Outcomes.{AllStays, ComesTo, DestinationsInCall, FolderInCall, LeavesPart, Written, WritesTables, is_out_of_memory, outcome_of_response, outcome_value, reported_outcome}

-- ---- where they go
pub to_destinations : {V E : Type 0} (items : V → List WriteEnd) (destinations : DestinationsInCall) (own : FolderInCall) (into : Option OwnFolder) (tables : List TableValue) (result : Result V E)
    → into ≡ None → own.new ≡ own.old
    → IfOk result (λ ends. AtEachPosition (WrittenDestination destinations.state tables) destinations.old destinations.new (items ends))
    → IfOk result (λ ends. Written destinations own into tables (items ends))
to_destinations items destinations own None tables (Ok ends) is same written = (same, written)
to_destinations items destinations own None tables (Err e) is same written = tt
to_destinations items destinations own (Some folder) tables result is same written = absurd cc

pub to_folder : {V E : Type 0} (items : V → List WriteEnd) (destinations : DestinationsInCall) (own : FolderInCall) (into : Option OwnFolder) (folder : OwnFolder) (tables : List TableValue) (result : Result V E)
    → into ≡ Some folder → destinations.new ≡ destinations.old
    → IfOk result (λ ends. WrittenToFolder folder.name folder.script tables (own.state own.old) (own.state own.new) (items ends))
    → IfOk result (λ ends. Written destinations own into tables (items ends))
to_folder {V} {E} items destinations own into folder tables result is same written =
    subst (λ (f : Option OwnFolder). IfOk result (λ ends. Written destinations own f tables (items ends))) (sym is) (by_result result written)
  where
    by_result : (r : Result V E) → IfOk r (λ ends. WrittenToFolder folder.name folder.script tables (own.state own.old) (own.state own.new) (items ends))
        → IfOk r (λ ends. Written destinations own (Some folder) tables (items ends))
    by_result (Ok ends) wrote = (same, wrote)
    by_result (Err e) wrote = tt

-- where memory ran out before any call
pub all_stay : {V E : Type 0} (destinations : DestinationsInCall) (own : FolderInCall) (result : Result V E) → OnErr result (destinations.new ≡ destinations.old)
    → OnErr result (own.new ≡ own.old) → OnErr result (AllStays destinations own)
all_stay destinations own (Ok v) same stays = tt
all_stay destinations own (Err e) same stays = (same, stays)

pub on_err : {V E P : Type 0} (result : Result V E) → P → OnErr result P
on_err (Ok v) p = tt
on_err (Err e) p = p

-- ---- how many ends there are
pub few_ends : {V E : Type 0} (items : V → List WriteEnd) (destinations : DestinationsInCall) (tables : List TableValue) (result : Result V E)
    → IfOk result (λ ends. AtEachPosition (WrittenDestination destinations.state tables) destinations.old destinations.new (items ends))
    → IfOk result (λ ends. length (items ends) ≤ length destinations.old + 2)
few_ends items destinations tables (Ok ends) written = omega (arith, written.results)
few_ends items destinations tables (Err e) written = tt

pub two_ends : {V E : Type 0} (items : V → List WriteEnd) (own : FolderInCall) (folder : OwnFolder) (tables : List TableValue) (result : Result V E) (count : ℕ)
    → IfOk result (λ ends. WrittenToFolder folder.name folder.script tables (own.state own.old) (own.state own.new) (items ends))
    → IfOk result (λ ends. length (items ends) ≤ count + 2)
two_ends items own folder tables (Ok ends) count (csv, load, are, how) =
    let two : length (items ends) ≡ 2 = ap (λ (list : List WriteEnd). length list) are in omega (arith, two)
two_ends items own folder tables (Err e) count written = tt

pub as_many : {V E : Type 0} (items : V → List WriteEnd) (destinations : DestinationsInCall) (tables : List TableValue) (result : Result V E)
    → IfOk result (λ ends. AtEachPosition (WrittenDestination destinations.state tables) destinations.old destinations.new (items ends))
    → OnErr result (destinations.new ≡ destinations.old) → length destinations.new ≡ length destinations.old
as_many items destinations tables (Ok ends) written same = written.news
as_many items destinations tables (Err e) written same = ap length same

-- ---- what is reported
pub reported : {E : Type 0} (destinations : DestinationsInCall) (own : FolderInCall) (response : ResponseValue) (tables : List TableValue) (ends : List WriteEnd) (result : Result Outcome E)
    → response.status ≡ Yes → Written destinations own response.own tables ends → OnOk result (list_any is_out_of_memory ends ≡ false)
    → IfOk result (λ end. outcome_value end ≡ reported_outcome response ends)
    → IfOk result (λ end. WritesTables destinations own response (outcome_value end) tables)
reported destinations own response tables ends (Ok end) said written memory reports =
    record { yes = said; ends = ends; written = written; memory = memory; reports = reports }
reported destinations own response tables ends (Err e) said written memory reports = tt

pub left : {E : Type 0} (destinations : DestinationsInCall) (own : FolderInCall) (response : ResponseValue) (tables : List TableValue) (ends : List WriteEnd) (result : Result Outcome E)
    → response.tables ≡ Some tables → Written destinations own response.own tables ends → OnErr result (list_any is_out_of_memory ends ≡ true)
    → OnErr result (LeavesPart destinations own response)
left destinations own response tables ends (Ok end) given written wanted = tt
left destinations own response tables ends (Err e) given written wanted =
    inr (record { tables = tables; given = given; ends = ends; written = written; memory = wanted })

-- an answer with tables
pub comes_to : {E : Type 0} (destinations : DestinationsInCall) (own : FolderInCall) (response : ResponseValue) (tables : List TableValue) (result : Result Outcome E)
    → response.tables ≡ Some tables → IfOk result (λ end. WritesTables destinations own response (outcome_value end) tables)
    → IfOk result (λ end. ComesTo destinations own response (outcome_value end))
comes_to destinations own response tables (Ok end) given writes =
    subst
    (λ (t : Option (List TableValue)). MatchOption t (AllStays destinations own × (outcome_value end ≡ outcome_of_response response)) (WritesTables destinations own response (outcome_value end)))
    (sym given) writes
comes_to destinations own response tables (Err e) given writes = tt
