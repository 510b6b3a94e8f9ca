-- The definitions of desk_keys, in reading order: the keys, where their lines stand, and then each command.
pub mod Keys
pub mod KeyedLines
pub mod KeyReasons
pub mod KeyChecks
