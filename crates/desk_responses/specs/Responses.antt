-- Responses of the parts of a command: for the functions below `desk`. `Desk` does not cite it.
use Rattle.std.specs.Prelude.{◌≡◌, option_map, Result, Ok, Err}
use Rattle.named_tables.specs.Tables.{table_values}
use Rattle.desk_responses.specs.declared.response.OwnFolder.{OwnFolder}
use Rattle.desk_responses.specs.declared.response.Response.{Response}
use Rattle.desk_responses.specs.declared.response.EarlyExit.{EarlyExit}
use Rattle.desk_responses.specs.declared.response.EarlyExit.TheVariants.{Answered}
use Rattle.desk_responses.specs.ResponseValues as value
use Rattle.desk_responses.specs.ResponseValues.{ResponseValue, Allowed}

-- a folder of their own, as the answer has it
abbrev pub own_folder_value : OwnFolder → value.OwnFolder
own_folder_value folder = record { name = folder.name.items; script = folder.script.items }

-- a response, as an answer
abbrev pub response_value : Response → ResponseValue
response_value response = record {
  status = response.status;
  text = response.text.items;
  tables = option_map table_values response.tables;
  own = option_map own_folder_value response.own;
}

-- a command ends early with an allowed response; running out of memory is always allowed
abbrev pub ExitsAs : Allowed → EarlyExit → Type 0
ExitsAs allowed exit = (response : Response) → exit ≡ Answered response → allowed (response_value response)

-- a command ends with an allowed response
abbrev pub RespondsAs : Allowed → Result Response EarlyExit → Type 0
RespondsAs allowed (Ok response) = allowed (response_value response)
RespondsAs allowed (Err exit) = ExitsAs allowed exit
