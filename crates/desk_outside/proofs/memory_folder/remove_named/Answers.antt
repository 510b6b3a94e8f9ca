-- What is left to prove of `remove_named`: its clause `others`, by `without_file-stored`.
use Rattle.std.proofs.Common.{rules, ap, ◌∙◌}
use Rattle.std.proofs.lemmas.Fn.{filter_same}
use Rattle.desk_outside.specs.Files.{files_of}
use Rattle.desk_outside.proofs.FolderFacts.{without_file-stored}
use Rattle.desk_outside.proofs.memory_folder.remove_named.Goals as goal

pub returns : goal.returns
returns c = record {
  others =
      ap files_of (filter_same _ _ _ (λ x b f' k. search rules) _ _ c.retain.ensures.filtered)
      ∙ without_file-stored c.args.name.now c.args.files.now.items;
}
