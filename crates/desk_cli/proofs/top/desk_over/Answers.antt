-- What is left to prove of `desk_over`: its clause `desk`, by `EndingLemmas` and `StepLemmas`.
use Rattle.std.proofs.Common.{ℕ, List, ◌∙◌, subst}
use Rattle.desk_cli.specs.Desk.{source_in_call, sink_in_call, Delivered}
use Rattle.desk_cli.specs.Help.{hint_of}
use Rattle.desk_delivery.specs.Outcomes.{destinations_in_call, folder_in_call}
use Rattle.desk_inputs.specs.Readings.{known_files}
use Rattle.desk_responses.specs.Responses.{response_value}
use Rattle.desk_cli.proofs.EndingLemmas.{desk_delivered}
use Rattle.desk_inputs.proofs.ReadingLemmas.{observed_shows, known_files_shows}
use Rattle.desk_cli.proofs.top.desk_over.Goals as goal

pub returns : goal.returns
returns g c =
    let old = c.args.source.now in
    let new = c.answer.new.source in
    let source = source_in_call g.F.FileSource old new in
    let sink = sink_in_call (g.K.Sink.contents c.args.out.now) (g.K.Sink.contents c.deliver.new.out) (g.K.Sink.faults c.args.out.now) (g.K.Sink.faults c.deliver.new.out) in
    let notices = sink_in_call (g.N.Sink.contents c.args.notices.now) (g.N.Sink.contents c.deliver.new.notices) (g.N.Sink.faults c.args.notices.now) (g.N.Sink.faults c.deliver.new.notices) in
    let destinations = destinations_in_call g.D.Folder.state c.args.destinations.now.items c.deliver.new.destinations.items in
    let own = folder_in_call g.G.Folder.state c.args.own.now c.deliver.new.own in
    let result = c.deliver.result in
    let reads = c.in_ok-response.ensures.reads in
    let response = response_value c.in_ok-response.response in
    let delivered : Delivered sink notices (hint_of c.args.words.now) destinations own response result =
    subst (λ (hint : List ℕ). Delivered sink notices hint destinations own response result) (c.deref.ensures.value ∙ c.in_ok-hint.ensures.hint) c.deliver.ensures.delivers in
    record {
      desk = desk_delivered c.args.words.now source sink notices destinations own response result
          (λ last is. reads.ends _ (observed_shows g.F.FileSource old new last is))
          (λ files are calm. reads.ends (known_files files) (known_files_shows g.F.FileSource old new files are calm))
          delivered reads.files reads.later reads.begins;
    }
