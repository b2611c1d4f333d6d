pub mod KeyLists
pub mod NoFault
pub mod ReadRules
pub mod EveryRule
pub mod FirstItems
pub mod FaultOrder
pub mod KeysOnce
