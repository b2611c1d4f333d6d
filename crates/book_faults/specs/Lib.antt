pub mod Keys
pub mod Refused
pub mod Readable
pub mod Asked
pub mod FaultParts
pub mod KeysOnce
