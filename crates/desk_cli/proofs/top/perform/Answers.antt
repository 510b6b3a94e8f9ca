-- What is left to prove of `perform`: its clause, arm by arm, by those of the functions that it calls.
use Rattle.desk_cli.specs.Performs.{Performs}
use Rattle.desk_inputs.proofs.CallLemmas.{reads_none}
use Rattle.desk_cli.proofs.SampleLemmas.{few_sampled}
use Rattle.desk_cli.proofs.top.perform.Goals as goal

pub returns-in-OverSchema : goal.returns-in-OverSchema
unfolding Performs
returns-in-OverSchema g c = record { reads = rw c.in-OverSchema.is c.over_schema.ensures.reads }

pub returns-in-Discover : goal.returns-in-Discover
unfolding Performs
returns-in-Discover g c = record { reads = rw c.in-Discover.is c.of_headed.ensures.reads }

pub returns-in-DiscoverAll : goal.returns-in-DiscoverAll
unfolding Performs
returns-in-DiscoverAll g c = record { reads = rw c.in-DiscoverAll.is c.of_whole.ensures.reads }

pub returns-in-DiscoverReferences : goal.returns-in-DiscoverReferences
unfolding Performs
returns-in-DiscoverReferences g c = record { reads = rw c.in-DiscoverReferences.is c.of_headed_files.ensures.reads }

pub returns-in-CheckReferences : goal.returns-in-CheckReferences
unfolding Performs
returns-in-CheckReferences g c = record { reads = rw c.in-CheckReferences.is c.of_two_headed.ensures.reads }

pub returns-in-ImportCsv : goal.returns-in-ImportCsv
unfolding Performs
returns-in-ImportCsv g c = record { reads = rw c.in-ImportCsv.is c.of_imported.ensures.reads }

pub returns-in-ImportSql : goal.returns-in-ImportSql
unfolding Performs
returns-in-ImportSql g c = record { reads = rw c.in-ImportSql.is c.of_sql.ensures.reads }

pub returns-in-Sample : goal.returns-in-Sample
unfolding Performs
returns-in-Sample g c =
    let persons = c.in-Sample.persons in
    record {
      reads = reads_none (λ r. rw c.in-Sample.is (few_sampled persons.number c.migrate_sample.result persons.within_limit c.migrate_sample.ensures.response));
    }

pub returns-in-Help : goal.returns-in-Help
unfolding Performs
returns-in-Help g c = record { reads = reads_none (λ r. rw c.in-Help.is c.help.ensures.response) }

pub returns-in-Version : goal.returns-in-Version
unfolding Performs
returns-in-Version g c = record { reads = reads_none (λ r. rw c.in-Version.is c.version.ensures.response) }
