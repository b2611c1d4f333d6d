pub mod Versions
pub mod SameParts
pub mod SameFaults
pub mod Found
pub mod Depths
pub mod Accepted
pub mod Same
pub mod Printed
