-- What a folder with a buffer will hold.
use Rattle.std.proofs.Common.{◌≡◌, ℕ, Bool, List, [], Option, None, Some, option_map, refl}
use Rattle.desk_outside.specs.Folders.{FolderContents, finished_in, with_begun, with_bytes, with_none_open}
use Rattle.desk_outside.specs.FreeNames.{may_be_free}

pub begun_gathered : (known : Option FolderContents) (name gathered : List ℕ) → option_map (with_bytes []) (option_map (with_begun name) known) ≡ option_map (with_begun name) (option_map (with_bytes gathered) known)
begun_gathered None name gathered = refl
begun_gathered (Some folder) name gathered = refl

-- a file that is given up, whatever was gathered before and after
pub closed_gathered : (known : Option FolderContents) (before after : List ℕ) → option_map (with_bytes after) (option_map with_none_open known) ≡ option_map with_none_open (option_map (with_bytes before) known)
closed_gathered None before after = refl
closed_gathered (Some folder) before after = refl

-- the finished files do not go by what is gathered
pub finished_gathered : (known : Option FolderContents) (bytes : List ℕ) → finished_in (option_map (with_bytes bytes) known) ≡ finished_in known
finished_gathered None bytes = refl
finished_gathered (Some folder) bytes = refl

-- nor does what a look at a name finds
pub free_gathered : (known : Option FolderContents) (bytes name : List ℕ) (answer : Bool) → may_be_free known name answer ≡ may_be_free (option_map (with_bytes bytes) known) name answer
free_gathered None bytes name answer = refl
free_gathered (Some folder) bytes name answer = refl
