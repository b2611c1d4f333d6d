-- From the rules of a table up to the bytes of a file.
pub mod Rules
pub mod Document
pub mod LimitsOf
pub mod LimitsBytes
