-- How a file whose bytes were loaded, or were not, is opened as one of its kind.
use Rattle.std.proofs.Common.{◌≡◌, inl, inr, ℕ, List, Ok, Err, subst}
use Rattle.desk_outside.specs.declared.file_source.FileSource.{Ghosts as FileSource}
use Rattle.desk_responses.specs.declared.response.EarlyExit.{EarlyExit}
use Rattle.desk_responses.specs.declared.response.EarlyExit.TheVariants.{OutOfMemory}
use Rattle.desk_responses.specs.declared.status.Status.TheVariants.{Refused}
use Rattle.desk_responses.specs.ResponseValues.{Says}
use Rattle.desk_responses.specs.Responses.{ExitsAs, response_value}
use Rattle.desk_inputs.specs.FileCalls.{LoadsFile, OpensFile}
use Rattle.desk_inputs.specs.FileKinds.{FileKind}

-- its bytes mean a value
pub file_read : {S B V Value Refusal : Type 0} {source : FileSource S} {old new : S} {name : List ℕ} {bytes_in : B → List ℕ} {loaded : B}
    {text : List ℕ} {view : V → Value} {value : V} (kind : FileKind Value Refusal)
    → LoadsFile source old new kind.limit name bytes_in (Ok loaded) → text ≡ bytes_in loaded → kind.means text (view value)
    → OpensFile source old new kind name view (Ok value)
file_read {S} {B} {V} {Value} {Refusal} {source} {old} {new} {name} {bytes_in} {loaded} {text} {view} {value} kind loads is means = record {
  reads = record { files = loads.reads.files; later = loads.reads.later; begins = loads.reads.begins; ends = λ r shows. tt };
  begins = loads.begins;
  ok = λ r same. record { bytes = bytes_in loaded; content = loads.ok r same; means = subst (λ (bytes : List ℕ). kind.means bytes (view value)) is means };
}

-- its bytes are refused
pub file_refused : {S B V Value Refusal : Type 0} {source : FileSource S} {old new : S} {name : List ℕ} {bytes_in : B → List ℕ} {loaded : B}
    {text called : List ℕ} {view : V → Value} {exit : EarlyExit} (kind : FileKind Value Refusal) (refusal : Refusal)
    → LoadsFile source old new kind.limit name bytes_in (Ok loaded) → text ≡ bytes_in loaded → kind.refuses text refusal → called ≡ name
    → ExitsAs (Says Refused (kind.refusal_text called refusal)) exit → OpensFile source old new kind name view (Err exit)
file_refused {S} {B} {V} {Value} {Refusal} {source} {old} {new} {name} {bytes_in} {loaded} {text} {called} {view} {exit} kind refusal loads is refuses same exits_as = record {
  reads = record {
    files = loads.reads.files;
    later = loads.reads.later;
    begins = loads.reads.begins;
    ends = λ r shows response gives.
        inr (
          refusal,
          record { bytes = bytes_in loaded; content = loads.ok r shows.same; refused = subst (λ (bytes : List ℕ). kind.refuses bytes refusal) is refuses },
          subst (λ (file : List ℕ). Says Refused (kind.refusal_text file refusal) (response_value response)) same (exits_as response gives),
        );
  };
  begins = tt;
  ok = λ r same. tt;
}

-- it was not loaded
pub file_not_loaded : {S B V Value Refusal : Type 0} {source : FileSource S} {old new : S} {name : List ℕ} {bytes_in : B → List ℕ} {exit : EarlyExit}
    {view : V → Value} (kind : FileKind Value Refusal)
    → LoadsFile source old new kind.limit name bytes_in (Err exit)
    → OpensFile source old new kind name view (Err exit)
file_not_loaded {S} {B} {V} {Value} {Refusal} {source} {old} {new} {name} {bytes_in} {exit} {view} kind loads = record {
  reads = record {
    files = loads.reads.files;
    later = loads.reads.later;
    begins = loads.reads.begins;
    ends = λ r shows response is. inl (loads.reads.ends r shows response is);
  };
  begins = tt;
  ok = λ r same. tt;
}

-- memory ran out once it was loaded
pub file_without_memory : {S B V Value Refusal : Type 0} {source : FileSource S} {old new : S} {name : List ℕ} {bytes_in : B → List ℕ} {loaded : B}
    {view : V → Value} (kind : FileKind Value Refusal)
    → LoadsFile source old new kind.limit name bytes_in (Ok loaded)
    → OpensFile source old new kind name view (Err OutOfMemory)
file_without_memory {S} {B} {V} {Value} {Refusal} {source} {old} {new} {name} {bytes_in} {loaded} {view} kind loads = record {
  reads = record {
    files = loads.reads.files;
    later = loads.reads.later;
    begins = loads.reads.begins;
    ends = λ r shows response is. absurd (cc);
  };
  begins = tt;
  ok = λ r same. tt;
}
