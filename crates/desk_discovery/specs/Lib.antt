-- The definitions of desk_discovery: a file for each command.
pub mod Discoveries
pub mod KeyDiscoveries
pub mod NearDiscoveries
pub mod AllDiscoveries
