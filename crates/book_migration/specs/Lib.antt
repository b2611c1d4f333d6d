-- From a table of version 2 to the text of one.
pub mod Migrated
pub mod Migration
