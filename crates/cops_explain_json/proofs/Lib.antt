pub mod ByteMembers
pub mod FaultLists
pub mod NoFloats
pub mod OneJson
