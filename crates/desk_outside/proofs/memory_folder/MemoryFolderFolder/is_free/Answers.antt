-- What is left to prove of `is_free` of a folder in memory: that the files in memory are those of the folder, by
-- `any_mapped`.
use Rattle.std.proofs.Common.{not, ap, ◌∙◌}
use Rattle.std.specs.List.{list_any}
use Rattle.desk_outside.specs.declared.held_file.HeldFile.{HeldFile}
use Rattle.desk_outside.specs.Files.{StoredFile, stored_file}
use Rattle.desk_outside.specs.FreeNames.{is_free_among, is_taken_by}
use Rattle.desk_outside.specs.Memory.{FolderInMemory}
use Rattle.desk_outside.proofs.FreeFacts.{any_mapped}
use Rattle.desk_outside.proofs.memory_folder.MemoryFolderFolder.is_free.Goals as goal

pub returns : goal.returns
returns c = record {
  free =
      ap not
      (c.any_taken.ensures.taken
      ∙ ap (list_any (λ (file : HeldFile). is_taken_by c.args.name.now file.name)) c.deref.ensures.value
      ∙ any_mapped (λ (file : StoredFile). is_taken_by c.args.name.now file.name) stored_file c.self.inside.files.finished.items)
      ∙ ap (λ (f : FolderInMemory). is_free_among c.args.name.now f.finished) c.self.view_is;
}
